-- The choices at each site of a lowered program, as they are read off it.
use Rattle.std.specs.Prelude.{◌≡◌, ◌≢◌, ℕ, ◌+◌, List, [], ◌∷◌, slice_get, Option, Some, None, false, refl}
use Rattle.std.specs.Coded.{Coded, code_by, coded×, coded_list, coded_option}
use Rattle.fr_value.specs.declared.ids.SiteId.{SiteId}
use Rattle.fr_value.specs.declared.value.Value.TheVariants as value
use Rattle.fr_core.specs.contracts.lowered.Low as low_row
use Rattle.fr_core.specs.declared.lowered.Low.{Low, out-Low}
use Rattle.fr_core.specs.declared.lowered.Low.TheOpen.{Low-F}
use Rattle.fr_core.specs.declared.lowered.Low.TheVariants as low
use Rattle.fr_core.specs.declared.lowered.LowItem.{LowItem}
use Rattle.fr_core.specs.declared.lowered.LowItem.TheVariants as low_item
use Rattle.fr_core.specs.declared.lowered.Lowered.{Lowered}
use Rattle.fr_core.specs.Sites.{site_of, among, bodies}
use Rattle.fr_nodes.specs.Kinds.{Choices, Sites}
use Rattle.fr_ready.specs.Ready.{Matches}

-- what was found at each site: the choices of a switch, or none
abbrev pub Found : Type 0
Found = List (Option Choices)

-- two choices are stored as a pair
abbrev pub choices_code : Coded Choices
choices_code = code_by (Low × Low) (coded× low_row.the_row.coded low_row.the_row.coded) (λ c. (c.yes, c.no)) (λ t. record { yes = t.0; no = t.1 }) (λ _. refl)

abbrev pub found_code : Coded Found
found_code = coded_list (coded_option choices_code)

abbrev pub found_of : Option (Option Choices) → Option Choices
found_of None = None
found_of (Some o) = o

-- what was found at a site
abbrev pub found_at : Found → ℕ → Option Choices
found_at found site = found_of (slice_get found site)

-- the literal `#f`, which stands for both choices where a site has no switch
abbrev pub no_choice : Low
no_choice = low.Lit (value.Bool false)

abbrev pub choices_of : Option Choices → Choices
choices_of None = record { yes = no_choice; no = no_choice }
choices_of (Some c) = c

-- the choices at each site, by what was found
abbrev pub sites_by : Found → Sites
sites_by found site = choices_of (found_at found site)

-- the choices of a switch were found at its site
abbrev pub IsFoundAt : Found → Low-F Low → Type 0
IsFoundAt found (Low-F.If site test a b) = found_at found site.0 ≡ Some (record { yes = a; no = b })
IsFoundAt found l = Unit {0}

-- the choices of an expression that is a switch were put at its site, and all else is as it was
pub record WasNoted (old new : Found) (e : Low) : Type 0 where
  pub here : IsFoundAt new (out-Low e)
  pub elsewhere : (n : ℕ) → ((site : SiteId) → site_of e ≡ Some site → n ≢ site.0) → found_at new n ≡ found_at old n

-- the choices of every switch of a lowered program were found at its site
pub record HasFoundAll (l : Lowered) (found : Found) : Type 0 where
  pub each : (i : ℕ) (path : List ℕ) (e : Low) → among (bodies l) i path ≡ Some e → IsFoundAt found (out-Low e)

-- the choices at the sites of items, which stand one after the other, are those of their switches
abbrev pub ItemsMatch : Sites → ℕ → List LowItem → Type 0
ItemsMatch sites n [] = Unit {0}
ItemsMatch sites n (low_item.Define e ∷ is) = Matches sites n e × ItemsMatch sites (n + 1) is
ItemsMatch sites n (low_item.Show name e ∷ is) = Matches sites n e × ItemsMatch sites n is
