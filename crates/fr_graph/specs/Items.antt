-- The items of a program's body in a graph, and what it is for the graph to stand for an evaluation of them.
use Rattle.std.specs.Prelude.{◌≡◌, ℕ, ◌+◌, List, [], ◌∷◌, ◌++◌, map, Option, None}
use Rattle.fr_value.specs.declared.now.Now.{Now}
use Rattle.fr_core.specs.declared.kept.Kept.{Kept}
use Rattle.fr_core.specs.declared.kept.Kept.TheVariants as kept
use Rattle.fr_core.specs.declared.lowered.LowItem.{LowItem}
use Rattle.fr_core.specs.declared.lowered.LowItem.TheVariants as low_item
use Rattle.fr_core.specs.declared.program.Program.{Program}
use Rattle.fr_meaning.specs.Cells.{Cell, child}
use Rattle.fr_meaning.specs.Afresh.{body}
use Rattle.fr_kernel.specs.Erasure.{erased_item}
use Rattle.fr_kernel.specs.Kernels.{Kernels}
use Rattle.fr_graph.specs.Graph.{Part, Graph}
use Rattle.fr_graph.specs.Walk.{Plan, Walk, place}
use Rattle.fr_graph.specs.Wired.{Standing, Wired}
use Rattle.fr_graph.specs.Keeps.{Keeping, Keeps, everything, HasKey}
use Rattle.fr_graph.specs.Known.{IsClosed, AllKnown, Have, SettledOn, ErasStandOn, HasEnded}
use Rattle.fr_graph.specs.Sound.{Sound, IsPlanOf}
use Rattle.fr_graph.specs.Fails.{ItemsFail, Fails}
use Rattle.fr_graph.specs.Front.{ItemsOccur, Occurs, Errs}

-- what stands for the shows among items, and the members that are left
pub record Shown : Type 0 where
  pub parts : List Part
  pub left : List ℕ

abbrev pub place_items : Walk → List Part → List LowItem → List ℕ → Shown
place_items walk env [] ms = record { parts = []; left = ms }
place_items walk env (low_item.Define e ∷ is) ms = let r = walk e env ms in place_items walk (env ++ r.part ∷ []) is r.left
place_items walk env (low_item.Show name e ∷ is) ms =
    let r = walk e env ms in
    let s = place_items walk env is r.left in
    record { parts = r.part ∷ s.parts; left = s.left }

-- items stand at these members, each value in scope behind it
abbrev pub ItemsStand : Walk → Standing → List Part → List LowItem → List ℕ → Type 0
ItemsStand walk S env [] ms = Unit {0}
ItemsStand walk S env (low_item.Define e ∷ is) ms = let r = walk e env ms in S e env ms × ItemsStand walk S (env ++ r.part ∷ []) is r.left
ItemsStand walk S env (low_item.Show name e ∷ is) ms = let r = walk e env ms in S e env ms × ItemsStand walk S env is r.left

-- the items from number i on keep what is told
abbrev pub ItemsKeep : Walk → Keeping → List Part → ℕ → List LowItem → List ℕ → Kept → Type 0
ItemsKeep walk K env i [] ms k = Unit {0}
ItemsKeep walk K env i (low_item.Define e ∷ is) ms k = let r = walk e env ms in K e env ms (child k i) × ItemsKeep walk K (env ++ r.part ∷ []) (i + 1) is r.left k
ItemsKeep walk K env i (low_item.Show name e ∷ is) ms k = let r = walk e env ms in K e env ms (child k i) × ItemsKeep walk K env (i + 1) is r.left k

-- items are sound, where so many variables are in scope before the first
abbrev pub ItemsSound : Kernels → ℕ → List LowItem → Type 0
ItemsSound t n [] = Unit {0}
ItemsSound t n (low_item.Define e ∷ is) = Sound t n e × ItemsSound t (n + 1) is
ItemsSound t n (low_item.Show name e ∷ is) = Sound t n e × ItemsSound t n is

-- a plan and items are the lowered form of a program
pub record AreLowered (pr : Program) (p : Plan) (is : List LowItem) : Type 0 where
  pub plan : IsPlanOf pr p
  pub items : pr.body ≡ map (erased_item p.table.kernels) is
  pub sound : ItemsSound p.table 0 is

-- the walk of the items of a body, which are at nest 1
abbrev pub body_walk : Plan → Walk
body_walk p = place p 2000

-- a graph has the nodes of a program's items in the program's era, behind the sources, and those of each watch's choice in the watch's era
pub record HasNodes (g : Graph) (p : Plan) (is : List LowItem) (ms : List ℕ) : Type 0 where
  pub items : ItemsStand (body_walk p) (Wired g p 0 2000) [] is ms
  pub eras : ErasStandOn g everything p

-- a graph stands for a kept tree
abbrev pub StandsForTree : Graph → Plan → List LowItem → List ℕ → Kept → Type 0
StandsForTree g p is ms k = ItemsKeep (body_walk p) (Keeps g p (record { known = everything; cell = g.cell; asks = HasKey g }) 2000) [] 0 is ms k

-- a graph at the end of an instant: every node obeys its rule over the sources' values and the cells before the instant, and what is kept was taken
pub record IsSettled (g : Graph) (p : Plan) (sources : List Now) (before : ℕ → Option Cell) : Type 0 where
  pub rules : SettledOn g everything p.table sources before
  pub ended : HasEnded g

-- a graph shows what the evaluation of a program's body shows
abbrev pub ShowsBody : Graph → Program → Plan → List LowItem → List ℕ → List Now → Kept → Type 0
ShowsBody g pr p is ms sources k = Have g everything (place_items (body_walk p) [] is ms).parts (body pr sources k).shown

-- what holds of a graph at the end of an instant over a kept tree: it shows what evaluating the body afresh over that tree shows, which errs nowhere, and stands for what that keeps
pub record IsAfresh (g : Graph) (pr : Program) (p : Plan) (is : List LowItem) (ms : List ℕ) (sources : List Now) (k : Kept) : Type 0 where
  pub shows : ShowsBody g pr p is ms sources k
  pub errless : (body pr sources k).first ≡ None
  pub stands : StandsForTree g p is ms (kept.Group (body pr sources k).kepts)

-- an instant is under way: the nodes of the items stand, and of the known ones, whose inputs and watches are known, each obeys its rule, and the era of each known watch stands
pub record IsUnderWay (g : Graph) (known : ℕ → Type 0) (p : Plan) (is : List LowItem) (ms : List ℕ) (sources : List Now) (before : ℕ → Option Cell) : Type 0 where
  pub items : ItemsStand (body_walk p) (Wired g p 0 2000) [] is ms
  pub closed : IsClosed g known
  pub rules : SettledOn g known p.table sources before
  pub eras : ErasStandOn g known p

-- a node that stands in the walk of the items errs on the values of its inputs, which are known
pub record ErrsThere (g : Graph) (known : ℕ → Type 0) (p : Plan) (is : List LowItem) (ms : List ℕ) (before : ℕ → Option Cell) (m : ℕ) : Type 0 where
  pub occurs : ItemsOccur (body_walk p) (Occurs g p known m 2000) [] is ms
  pub inputs : AllKnown known (g.inputs m)
  pub errs : Errs g known p before m (g.kind m) (g.inputs m)

-- the building of a program's items fails, at whatever numbers their nodes are to have
abbrev pub BodyFails : Plan → List LowItem → List ℕ → Type 0
BodyFails p is ms = ItemsFail (body_walk p) (Fails p 2000) [] is ms
