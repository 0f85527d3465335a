-- The nodes of a graph as members of eras, and sums over all of them.
use Rattle.std.specs.Prelude.{◌≡◌, ◌<◌, ℕ, ◌+◌, zero, suc, Bool, true, false, List, [], ◌∷◌, ◌++◌}
use Rattle.fr_links.specs.Lists.{has_item}
use Rattle.fr_links.specs.Rings.{AllDifferent}
use Rattle.fr_core.specs.declared.lowered.LowItem.{LowItem}
use Rattle.fr_core.specs.declared.core_form.Operator.TheVariants as operator
use Rattle.fr_meaning.specs.States.{of_operator, of_handler, of_feedback}
use Rattle.fr_graph.specs.Graph.{Work, operates, handles, loops, runs, feeds, Kind, source, works, watch, result, Graph}
use Rattle.fr_graph.specs.Walk.{Plan}
use Rattle.fr_graph.specs.Items.{place_items, body_walk}
use Rattle.fr_sums.specs.Sites.{Site, of_source, of_kernel, of_form, of_watch, of_result, when}

-- the sum of f over the numbers below a bound
abbrev pub sum_below : ℕ → (ℕ → ℕ) → ℕ
sum_below zero f = 0
sum_below (suc n) f = sum_below n f + f n

-- the sum of f over all live nodes, whose numbers are below a bound
abbrev pub sum_live : Graph → ℕ → (ℕ → ℕ) → ℕ
sum_live g bound f = sum_below bound (λ m. when (g.live m) (f m))

abbrev pub is_watch : Kind → Bool
is_watch (watch a b env) = true
is_watch k = false

-- each live node is a member of its era once and of no other, only live watches own eras, and the numbers of nodes are below a bound
pub record AreMembers (g : Graph) (bound : ℕ) : Type 0 where
  pub once : (x : ℕ) → AllDifferent (g.members x)
  pub here : (m : ℕ) → g.live m ≡ true → has_item (g.members (g.era m)) m ≡ true
  pub only : (x m : ℕ) → has_item (g.members x) m ≡ true → (g.live m ≡ true) × (g.era m ≡ x)
  pub owner : (w m : ℕ) → has_item (g.members (suc w)) m ≡ true → (g.live w ≡ true) × (is_watch (g.kind w) ≡ true)
  pub below : (m : ℕ) → g.live m ≡ true → m < bound

-- in the eras that aren't entered no member adds anything, and none owns an era that is entered
pub record AddsNothingElse (g : Graph) (entered : ℕ → Bool) (f : ℕ → ℕ) : Type 0 where
  pub outside : (w m : ℕ) → entered w ≡ false → has_item (g.members (suc w)) m ≡ true → (f m ≡ 0) × (entered m ≡ false)

-- the nodes are those of the sources from number i on
abbrev pub AreSources : Graph → ℕ → List ℕ → Type 0
AreSources g i [] = Unit {0}
AreSources g i (m ∷ ms) = (g.kind m ≡ source i) × AreSources g (i + 1) ms

-- the program's era has the nodes of all sources in the order of their numbers, and behind them members for the items, each of which is used
pub record HasProgramEra (g : Graph) (p : Plan) (is : List LowItem) (sources ms : List ℕ) : Type 0 where
  pub members : g.members 0 ≡ sources ++ ms
  pub first : AreSources g 0 sources
  pub all : (place_items (body_walk p) [] is ms).left ≡ []

-- what a work is the node of
abbrev pub work_site : Work → Site
work_site (operates (operator.Prim p)) = of_kernel
work_site (operates o) = of_form (of_operator o)
work_site (handles h id) = of_form (of_handler h)
work_site (loops l id) = of_kernel
work_site (runs id) = of_kernel
work_site feeds = of_form of_feedback

-- what a node stands for, by its kind
abbrev pub site_of : Kind → Site
site_of (source s) = of_source s
site_of (works w) = work_site w
site_of (watch a b env) = of_watch
site_of result = of_result
