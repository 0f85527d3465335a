-- Which sources a list of them tells of.
use Rattle.std.specs.Prelude.{◌≡◌, ◌<◌, ℕ, List, length, slice_get, Some, ◌⊎◌}
use Rattle.std.specs.List.{All, Contains}
use Rattle.fr_value.specs.declared.ids.SrcId.{SrcId}
use Rattle.fr_value.specs.declared.value.Value.{Value}
use Rattle.fr_value.specs.declared.now.Now.{Now}
use Rattle.fr_value.specs.declared.now.Now.TheVariants.{Occ}

-- each event that occurs is listed
abbrev pub AreListed : List SrcId → List Now → Type 0
AreListed ns xs = (n : ℕ) (v : Value) → slice_get xs n ≡ Some (Occ (Some v)) → Contains ns (record { 0 = n })

-- each source is listed or has the same value in both
abbrev pub AreTouched : List Now → List Now → List SrcId → Type 0
AreTouched before after ns = (n : ℕ) → Contains ns (record { 0 = n }) ⊎ (slice_get before n ≡ slice_get after n)

-- each listed source has a value
abbrev pub HaveValues : List SrcId → List Now → Type 0
HaveValues ns xs = All (λ n. n.0 < length xs) ns
