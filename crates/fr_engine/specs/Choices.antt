-- What the building of a switch's choice asks and gives.
use Rattle.std.specs.Prelude.{◌≡◌, ◌⊎◌, ℕ, suc, true, List, [], ◌∷◌}
use Rattle.fr_value.specs.declared.ids.NodeId.{NodeId}
use Rattle.fr_core.specs.declared.lowered.Low.{Low}
use Rattle.fr_graph.specs.Graph.{Part, Work, works, watch, Graph, is_late}
use Rattle.fr_graph.specs.Walk.{Plan, place}
use Rattle.fr_graph.specs.Fails.{Fails}
use Rattle.fr_events.specs.Works.{HasKernel}
use Rattle.fr_way.specs.Frame.{is_watch}
use Rattle.fr_way.specs.Way.{Way}
use Rattle.fr_way.specs.Turns.{IsNew, Grows}
use Rattle.fr_engine.specs.Notes.{Named}

-- which two choices can be built over some parts in scope
abbrev pub Buildable : Type 1
Buildable = Low → Low → List Part → Type 0

-- each live watch reads one part, its test, and its choices can be built over what it holds
pub record AreFit (can : Buildable) (g : Graph) : Type 0 where
  pub tests : (w : ℕ) → g.live w ≡ true → is_watch (g.kind w) ≡ true → (test : Part) × (g.inputs w ≡ test ∷ [])
  pub fits : (w : ℕ) (a b : Low) (env : List Part) → g.live w ≡ true → g.kind w ≡ watch a b env → can a b env

-- the choice of a watch was built in its era, and this part stands for it: the kernel of each new work is there, each new watch reads a test and its choices can be built, and each new late work is listed behind those that were
pub record Chooses (can : Buildable) (p : Plan) (at new : Way) (w n : ℕ) (e : Low) (env : List Part) (part : Part) (listed more : List NodeId) : Type 0 where
  pub grows : Grows at new p (suc w) (at.height w) n e env
  pub stands_for : (place p n e env (new.graph.members (suc w))).part ≡ part
  pub kernels : (m : ℕ) (v : Work) → IsNew at.graph new.graph m → new.graph.kind m ≡ works v → HasKernel p.table v
  pub tests : (m : ℕ) → IsNew at.graph new.graph m → is_watch (new.graph.kind m) ≡ true → (test : Part) × (new.graph.inputs m ≡ test ∷ [])
  pub fits : (m : ℕ) (a b : Low) (scope : List Part) → IsNew at.graph new.graph m → new.graph.kind m ≡ watch a b scope → can a b scope
  pub kept : (m : ℕ) → Named listed m → Named more m
  pub late : (m : ℕ) (v : Work) → IsNew at.graph new.graph m → new.graph.kind m ≡ works v → is_late v ≡ true → Named more m
  pub only : (m : ℕ) → Named more m → Named listed m ⊎ IsNew at.graph new.graph m

-- the building of a choice fails, at some numbers of its nodes
abbrev pub ChoiceFails : Plan → ℕ → Low → List Part → Type 0
ChoiceFails p n e env = (ms : List ℕ) × Fails p n e env ms
