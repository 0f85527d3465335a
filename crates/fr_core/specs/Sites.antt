-- Where the expressions of a lowered program stand, and which site each carries.
use Rattle.std.specs.Prelude.{ℕ, ◌≡◌, List, [], ◌∷◌, ◌++◌, map, slice_get, Option, Some, None}
use Rattle.std.specs.Option.{option_and_then}
use Rattle.fr_value.specs.declared.ids.SiteId.{SiteId}
use Rattle.fr_core.specs.declared.lowered.Low.{Low, out-Low}
use Rattle.fr_core.specs.declared.lowered.Low.TheOpen.{Low-F}
use Rattle.fr_core.specs.declared.lowered.LowItem.{LowItem}
use Rattle.fr_core.specs.declared.lowered.LowItem.TheVariants as item
use Rattle.fr_core.specs.declared.lowered.Lowered.{Lowered}

abbrev pub parts_at : Low-F Low → List Low
parts_at (Low-F.Lit v) = []
parts_at (Low-F.Var x) = []
parts_at (Low-F.Source x) = []
parts_at (Low-F.Let es b) = es ++ b ∷ []
parts_at (Low-F.If s a b c) = a ∷ b ∷ c ∷ []
parts_at (Low-F.Apply f es) = es
parts_at (Low-F.Operator o es) = es
parts_at (Low-F.Handler h es k ss) = es
parts_at (Low-F.Loop l es k ss) = es
parts_at (Low-F.Feedback a b) = a ∷ b ∷ []
parts_at (Low-F.Collapse k ss) = []

-- the parts of an expression, in the order in which they are evaluated
abbrev pub parts : Low → List Low
parts e = parts_at (out-Low e)

abbrev pub site_at : Low-F Low → Option SiteId
site_at (Low-F.If s a b c) = Some s
site_at _ = None

-- the site that the expression itself carries
abbrev pub site_of : Low → Option SiteId
site_of e = site_at (out-Low e)

-- the expression at a path below one: the number of a part, counted from 0, then that of a part of it, and so on
abbrev pub below : Low → List ℕ → Option Low
below e [] = Some e
below e (i ∷ path) = option_and_then (λ part. below part path) (slice_get (parts e) i)

-- the expression at a path below the one of this number
abbrev pub among : List Low → ℕ → List ℕ → Option Low
among es i path = option_and_then (λ e. below e path) (slice_get es i)

-- the expression stands among these or in one of them, and carries the site
pub record Carries (site : SiteId) (es : List Low) (e : Low) : Type 0 where
  pub number : ℕ
  pub path : List ℕ
  pub stands : among es number path ≡ Some e
  pub carries : site_of e ≡ Some site

-- the answer is an expression there that carries the site, or none where no expression there does
abbrev pub Finds : SiteId → List Low → Option Low → Type 0
Finds site es (Some e) = Carries site es e
Finds site es None = (e : Low) → Carries site es e → ⊥

-- the expression of an item
abbrev pub item_expr : LowItem → Low
item_expr (item.Define e) = e
item_expr (item.Show name e) = e

-- the bodies of the functions and then the expressions of the items
abbrev pub bodies : Lowered → List Low
bodies l = map (λ f. f.body) l.functions ++ map item_expr l.body

-- each site stands at one place only
pub record HasSitesOnce (l : Lowered) : Type 0 where
  pub once : (site : SiteId) (i j : ℕ) (p q : List ℕ) (e f : Low) → among (bodies l) i p ≡ Some e → among (bodies l) j q ≡ Some f → site_of e ≡ Some site → site_of f ≡ Some site → (i ≡ j) × (p ≡ q)
