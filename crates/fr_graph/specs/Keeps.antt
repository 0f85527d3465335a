-- Which kept trees have the cells that nodes have.
use Rattle.std.specs.Prelude.{◌≡◌, ℕ, zero, suc, ◌+◌, Bool, true, false, List, [], ◌∷◌, ◌++◌, length, slice_get, Option, Some, None, Ok}
use Rattle.fr_core.specs.declared.kept.Key.{Key}
use Rattle.fr_core.specs.declared.kept.Key.TheVariants as key
use Rattle.fr_core.specs.declared.kept.Kept.{Kept, out-Kept}
use Rattle.fr_core.specs.declared.kept.Kept.TheOpen.{Kept-F}
use Rattle.fr_core.specs.declared.lowered.Low.{Low, out-Low}
use Rattle.fr_core.specs.declared.lowered.Low.TheOpen.{Low-F}
use Rattle.fr_meaning.specs.Words.{test_of}
use Rattle.fr_meaning.specs.Cells.{Cell, child, under_key}
use Rattle.fr_meaning.specs.States.{StateForm, of_operator, of_handler, of_feedback}
use Rattle.fr_meaning.specs.Evaluation.{form_cell, behind_cell}
use Rattle.fr_graph.specs.Graph.{Part, steady, signal, operates, Graph, is_plain}
use Rattle.fr_graph.specs.Walk.{Plan, first, rest, Walk, AllPlaced, place_all, low_body, place}
use Rattle.fr_graph.specs.Wired.{Unless, Chosen}

-- what is told of an expression and a kept tree
abbrev pub Keeping : Type 1
Keeping = Low → List Part → List ℕ → Kept → Type 0

-- of some expressions from number i on
abbrev pub AllKeep : Walk → Keeping → List Part → ℕ → List Low → List ℕ → Kept → Type 0
AllKeep walk K env i [] ms k = Unit {0}
AllKeep walk K env i (e ∷ es) ms k = K e env ms (child k i) × AllKeep walk K env (i + 1) es (walk e env ms).left k

-- what is asked: the cell of each node, and of each watch that is known what is to hold of it and the tree of its choice
pub record Asked : Type 1 where
  pub known : ℕ → Type 0
  pub cell : ℕ → Option Cell
  pub asks : ℕ → Kept → Type 0

-- a switch behind its test, over the tree of its choice: the era of a known watch is gone over too
abbrev pub SwitchKeeps : Graph → Asked → Keeping → Low → Low → List Part → Part → List ℕ → Kept → Type 0
SwitchKeeps g q K a b env (steady v) ms k = Chosen (test_of v) (K a env ms (under_key (key.Test true) k)) (K b env ms (under_key (key.Test false) k))
SwitchKeeps g q K a b env (signal m) ms k =
    let w = first ms in
    q.known w → q.asks w k
    × Chosen (test_of (g.value w)) (K a env (g.members (suc w)) (under_key (key.Test true) k)) (K b env (g.members (suc w)) (under_key (key.Test false) k))

-- a call behind its arguments
abbrev pub CallKeeps : Keeping → Option Low → AllPlaced → Kept → Type 0
CallKeeps K None q k = Unit {0}
CallKeeps K (Some body) q k = K body q.parts q.left k

-- the next node has the cell of its form in the tree
abbrev pub CellKeeps : Asked → StateForm → List ℕ → Kept → Type 0
CellKeeps q form ms k = q.cell (first ms) ≡ form_cell form k

-- one case for each shape
abbrev pub ShapeKeeps : Graph → Plan → Asked → Walk → Keeping → List Part → List ℕ → Kept → Low-F Low → Type 0
ShapeKeeps g p q walk K env ms k (Low-F.Lit v) = Unit {0}
ShapeKeeps g p q walk K env ms k (Low-F.Var x) = Unit {0}
ShapeKeeps g p q walk K env ms k (Low-F.Source s) = Unit {0}
ShapeKeeps g p q walk K env ms k (Low-F.Let es body) =
    let ps = place_all walk env es ms in
    AllKeep walk K env 0 es ms k × K body (env ++ ps.parts) ps.left (child k (length es))
ShapeKeeps g p q walk K env ms k (Low-F.If site test a b) =
    let t = walk test env ms in
    K test env ms (child k 0) × SwitchKeeps g q K a b env t.part t.left (child k 1)
ShapeKeeps g p q walk K env ms k (Low-F.Apply f es) =
    AllKeep walk K env 0 es ms k × CallKeeps K (low_body (slice_get p.functions f.0) (length es)) (place_all walk env es ms) (child k (length es))
ShapeKeeps g p q walk K env ms k (Low-F.Operator o es) =
    AllKeep walk K env 0 es ms (behind_cell (of_operator o) k) × Unless (is_plain (operates o)) (CellKeeps q (of_operator o) (place_all walk env es ms).left k)
ShapeKeeps g p q walk K env ms k (Low-F.Handler h es id ss) =
    AllKeep walk K env 0 es ms (behind_cell (of_handler h) k) × CellKeeps q (of_handler h) (place_all walk env es ms).left k
ShapeKeeps g p q walk K env ms k (Low-F.Loop l es id ss) = AllKeep walk K env 0 es ms k
ShapeKeeps g p q walk K env ms k (Low-F.Feedback init body) =
    let i = walk init env ms in
    K init env ms (child (behind_cell of_feedback k) 0)
    × K body (env ++ signal (first i.left) ∷ []) (rest i.left) (child (behind_cell of_feedback k) 1)
    × CellKeeps q of_feedback i.left k
ShapeKeeps g p q walk K env ms k (Low-F.Collapse id ss) = Unit {0}

-- the tree has the cells that the nodes of an expression have, eras of known watches too; of each such watch the rest is asked
unfoldable pub Keeps : Graph → Plan → Asked → ℕ → Keeping
Keeps g p q zero e env ms k = Unit {0}
Keeps g p q (suc n) e env ms k = ShapeKeeps g p q (place p n) (Keeps g p q n) env ms k (out-Low e)

-- nothing is asked of watches
abbrev pub asks_nothing : ℕ → Kept → Type 0
asks_nothing w k = Unit {0}

abbrev pub switch_key_at : Kept-F Kept → Option Key
switch_key_at (Kept-F.Switch old k) = Some old
switch_key_at k = None

-- what the switch of a tree chose by
unfoldable pub switch_key : Kept → Option Key
switch_key k = switch_key_at (out-Kept k)

-- the switch of a tree chose by what the watch has now
pub record HasKey (g : Graph) (w : ℕ) (k : Kept) : Type 0 where
  pub holds : Bool
  pub value : test_of (g.value w) ≡ Ok holds
  pub chose : switch_key k ≡ Some (key.Test holds)

-- everything is known
abbrev pub everything : ℕ → Type 0
everything m = Unit {0}

-- the graph stands for a kept tree: it has the cells of all nodes, and each of its switches chose by what the watch has
abbrev pub StandsFor : Graph → Plan → ℕ → Keeping
StandsFor g p n = Keeps g p (record { known = everything; cell = g.cell; asks = HasKey g }) n
