-- What holds of a graph whatever its values: its nodes are members of their eras, name what is in scope, and stand in an order of dependence.
use Rattle.std.specs.Prelude.{◌≡◌, ◌≢◌, ◌⊎◌, ℕ, suc, ◌<◌, Bool, true, false, List, [], ◌∷◌, Some, None, Ok}
use Rattle.fr_value.specs.declared.now.Now.TheVariants.{Occ}
use Rattle.fr_links.specs.Lists.{has_item}
use Rattle.fr_meaning.specs.Words.{Seen}
use Rattle.fr_graph.specs.Graph.{Part, steady, signal, Work, Kind, source, works, watch, result, Graph}
use Rattle.fr_graph.specs.Known.{Reads}

-- whether a value is an occurrence
abbrev pub occurs_now : Seen → Bool
occurs_now (Ok (Occ (Some v))) = true
occurs_now v = false

-- none of the values among parts that never change is an occurrence
abbrev pub AreCalm : List Part → Type 0
AreCalm [] = Unit {0}
AreCalm (steady v ∷ ps) = (occurs_now v ≡ false) × AreCalm ps
AreCalm (signal m ∷ ps) = AreCalm ps

-- a kind is that of a watch
abbrev pub is_watch : Kind → Bool
is_watch (watch a b env) = true
is_watch k = false

abbrev pub is_source : Kind → Bool
is_source (source s) = true
is_source k = false

-- a watch holds a node among the variables in scope at it
abbrev pub Holds : ℕ → Kind → Type 0
Holds j (watch a b env) = Reads j env
Holds j k = ⊥

-- a node names another: as an input, as what its cell takes behind the instant, or as a variable that it holds
abbrev pub Names : Graph → ℕ → ℕ → Type 0
Names g m j = Reads j (g.inputs m) ⊎ ((g.later m ≡ Some (signal j)) ⊎ Holds j (g.kind m))

-- a node lives, and is a member of an era, or held by the watch that owns it, or a source
pub record InScope (g : Graph) (x j : ℕ) : Type 0 where
  pub live : g.live j ≡ true
  pub where_from : (g.era j ≡ x) ⊎ (((w : ℕ) × (x ≡ suc w) × (g.live w ≡ true) × Holds j (g.kind w)) ⊎ (is_source (g.kind j) ≡ true))

-- the members of the eras are the live nodes, each in its own
pub record AreMembers (g : Graph) : Type 0 where
  pub member : (x m : ℕ) → has_item (g.members x) m ≡ true → (g.live m ≡ true) × (g.era m ≡ x)
  pub joined : (m : ℕ) → g.live m ≡ true → has_item (g.members (g.era m)) m ≡ true
  pub owner : (m w : ℕ) → g.live m ≡ true → g.era m ≡ suc w → (g.live w ≡ true) × (is_watch (g.kind w) ≡ true)
  pub sources : (m : ℕ) → g.live m ≡ true → is_source (g.kind m) ≡ true → g.era m ≡ 0

-- each watch has a result in its own era, which is that of no other, and each result has its watch
pub record HaveResults (g : Graph) : Type 0 where
  pub live : (w : ℕ) → g.live w ≡ true → is_watch (g.kind w) ≡ true → g.live (g.result_of w) ≡ true
  pub kind : (w : ℕ) → g.live w ≡ true → is_watch (g.kind w) ≡ true → g.kind (g.result_of w) ≡ result
  pub era : (w : ℕ) → g.live w ≡ true → is_watch (g.kind w) ≡ true → g.era (g.result_of w) ≡ g.era w
  pub apart : (v w : ℕ) → g.live v ≡ true → g.live w ≡ true → is_watch (g.kind v) ≡ true → is_watch (g.kind w) ≡ true → g.result_of v ≡ g.result_of w → v ≡ w
  pub watched : (m : ℕ) → g.live m ≡ true → g.kind m ≡ result → (w : ℕ) × (g.live w ≡ true) × (is_watch (g.kind w) ≡ true) × (g.result_of w ≡ m)

-- what a node names is in scope, in its own era, but for the input of a result, which is in scope in that of its watch; no node names a watch; and no work reads a value that occurs for ever
pub record AreScoped (g : Graph) : Type 0 where
  pub names : (m j : ℕ) → g.live m ≡ true → g.kind m ≢ result → Names g m j → InScope g (g.era m) j
  pub results : (w j : ℕ) → g.live w ≡ true → is_watch (g.kind w) ≡ true → Reads j (g.inputs (g.result_of w)) → InScope g (suc w) j
  pub later : (m : ℕ) → g.live m ≡ true → g.kind m ≡ result → g.later m ≡ None
  pub no_watch : (m j : ℕ) → g.live m ≡ true → Names g m j → is_watch (g.kind j) ≡ false
  pub calm : (m : ℕ) (w : Work) → g.live m ≡ true → g.kind m ≡ works w → AreCalm (g.inputs m)

-- an order of dependence: each node comes behind what it reads or holds, behind the owner of its era and behind the sources, and the result of a watch behind the watch and what is in its era
pub record HasOrder (g : Graph) : Type 0 where
  pub rank : ℕ → ℕ
  pub input : (m j : ℕ) → g.live m ≡ true → Reads j (g.inputs m) → rank j < rank m
  pub held : (m j : ℕ) → g.live m ≡ true → Holds j (g.kind m) → rank j < rank m
  pub owner : (m w : ℕ) → g.live m ≡ true → g.era m ≡ suc w → rank w < rank m
  pub before_result : (m w : ℕ) → g.live m ≡ true → g.live w ≡ true → is_watch (g.kind w) ≡ true → (m ≡ w) ⊎ (g.era m ≡ suc w) → rank m < rank (g.result_of w)
  pub sources : (s m : ℕ) → g.live s ≡ true → g.live m ≡ true → is_source (g.kind s) ≡ true → is_source (g.kind m) ≡ false → rank s < rank m

-- each node stands higher than what it reads and than the owner of its era, and the result of a watch higher than the watch
pub record IsLevelled (g : Graph) (height : ℕ → ℕ) : Type 0 where
  pub input : (m j : ℕ) → g.live m ≡ true → Reads j (g.inputs m) → height j < height m
  pub owner : (m w : ℕ) → g.live m ≡ true → g.era m ≡ suc w → height w < height m
  pub result : (w : ℕ) → g.live w ≡ true → is_watch (g.kind w) ≡ true → height w < height (g.result_of w)

-- a graph with heights is framed
pub record IsFramed (g : Graph) (height : ℕ → ℕ) : Type 0 where
  pub members : AreMembers g
  pub results : HaveResults g
  pub scoped : AreScoped g
  pub order : HasOrder g
  pub levelled : IsLevelled g height

-- the nodes of an era and of those that its members own, at any depth
pub data Inside (g : Graph) (x : ℕ) : ℕ → Type 0 where
  here : (m : ℕ) → g.live m ≡ true → g.era m ≡ x → Inside g x m
  deeper : (m w : ℕ) → g.live m ≡ true → g.era m ≡ suc w → Inside g x w → Inside g x m
