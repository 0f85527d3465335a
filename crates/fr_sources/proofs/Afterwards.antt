-- The values of sources at the first instant and behind another.
use Rattle.std.proofs.Common.{◌≡◌, ℕ, zero, suc, ◌+◌, List, [], ◌∷◌, length, inl, inr, Option, Some, None, unwrap_or, map, replicate, slice_get, pos, refl, ap, subst, add-one}
use Rattle.std.specs.Option.{option_map}
use Rattle.std.proofs.lemmas.Bool.{cases_eq, eq-eqb, ne_eqb}
use Rattle.fr_value.specs.declared.ids.SrcId.{SrcId}
use Rattle.fr_value.specs.declared.value.Value.{Value}
use Rattle.fr_value.specs.declared.value.Value.TheVariants as value
use Rattle.fr_value.specs.declared.now.Now.{Now}
use Rattle.fr_value.specs.declared.now.Now.TheVariants.{Plain, Occ}
use Rattle.fr_core.specs.Sets.{value_in, AreRising}
use Rattle.fr_core.specs.WellFormed.{last_source, AreNumbered}
use Rattle.fr_core.specs.declared.inputs.Entry.{Entry}
use Rattle.fr_core.specs.declared.inputs.Inputs.{Inputs}
use Rattle.fr_core.specs.declared.program.Input.{Input}
use Rattle.fr_core.specs.declared.program.Program.{Program}
use Rattle.fr_meaning.specs.Afresh.{latest, input_value, source_now, sources_from, sources_at, beginning, first_instant}
use Rattle.fr_sources.specs.Writes.{with_at, cleared, all_cleared, all_written, firsts_put}
use Rattle.fr_sources.specs.Each.{each_at, overlaid, by_entries, firsts, begun, by_firsts}
use Rattle.fr_sources.specs.Places.{AreListed}
use Rattle.fr_sources.proofs.Each.{written_each, firsts_each}
use Rattle.fr_sources.proofs.Listed.{cleared_all}

sources_long : (is : List Input) (vs : List Value) (sets : List Entry) (n more : ℕ) → length (sources_from is vs sets n more) ≡ more
sources_long is vs sets n zero = refl
sources_long is vs sets n (suc more) = ap suc (sources_long is vs sets (n + 1) more)

-- a program has a source more than its last one's number
pub all_long : (p : Program) (vs : List Value) (i : Inputs) → length (sources_at p vs i) ≡ last_source p + 1
all_long p vs i = rw add-one (ap suc (sources_long p.inputs vs i.sets 1 (last_source p)))

-- the latest value of an input is what it is set to, or else the one before
pub latest_value : (is : List Input) (vs : List Value) (sets : List Entry) (n : ℕ) → input_value is (latest is vs sets) n ≡ option_map (λ v. unwrap_or (value_in (record { 0 = n }) sets) v) (input_value is vs n)
latest_value [] vs sets n = refl
latest_value (i ∷ is) [] sets n = refl
latest_value (i ∷ is) (v ∷ vs) sets n = elim (cases_eq i.source.0 n) [
  | inl same ↦ rw (eq-eqb i.source.0 n same) (subst (λ (m : ℕ). Some (unwrap_or (value_in i.source sets) v) ≡ Some (unwrap_or (value_in (record { 0 = m }) sets) v)) same refl)
  | inr other ↦ rw (ne_eqb i.source.0 n other) (latest_value is vs sets n)
]

set_source : (had set any : Option Value) → overlaid set (cleared (source_now had any)) ≡ source_now (option_map (λ v. unwrap_or set v) had) set
set_source None None any = refl
set_source None (Some v) any = refl
set_source (Some u) None any = refl
set_source (Some u) (Some v) any = refl

set_sources : (is : List Input) (vs : List Value) (was sets : List Entry) (k more : ℕ) → each_at (by_entries sets) (map cleared (sources_from is vs was k more)) k ≡ sources_from is (latest is vs sets) sets k more
set_sources is vs was sets k zero = refl
set_sources is vs was sets k (suc more) =
    rw (set_source (input_value is vs k) (value_in (record { 0 = k }) sets) (value_in (record { 0 = k }) was), latest_value is vs sets k, set_sources is vs was sets (k + 1) more) refl

-- the values behind an instant, by the steps of the writing
pub advanced : (p : Program) (vs : List Value) (was i : Inputs) (ns : List SrcId) (xs : List Now) → AreRising i.sets → AreListed ns xs → xs ≡ sources_at p vs was
    → with_at (λ _. Plain (value.Int (pos i.time))) 0 (all_written i.sets (all_cleared ns xs)) ≡ sources_at p (latest p.inputs vs i.sets) i
advanced p vs was i ns xs rising listed is =
    rw (cleared_all ns xs listed, written_each i.sets (map cleared xs) rising, is) (ap (λ ys. Plain (value.Int (pos i.time)) ∷ ys) (set_sources p.inputs vs was.sets i.sets 1 (last_source p)))

first_source : (o : Option Value) → begun o (Occ None) ≡ source_now o None
first_source None = refl
first_source (Some v) = refl

first_sources : (is : List Input) (k more : ℕ) → each_at (by_firsts is) (replicate more (Occ None)) k ≡ sources_from is (firsts is) [] k more
first_sources is k zero = refl
first_sources is k (suc more) = rw (first_source (input_value is (firsts is) k), first_sources is (k + 1) more) refl

-- the values at the first instant, by the steps of the writing
pub begins : (p : Program) → AreNumbered p
    → with_at (λ _. Plain (value.Int (pos 0))) 0 (firsts_put p.inputs (replicate (last_source p + 1) (Occ None))) ≡ sources_at p (beginning p).values first_instant
begins p numbered =
    rw (add-one, firsts_each p.inputs (Occ None ∷ replicate (last_source p) (Occ None)) numbered.inputs_rise) (ap (λ ys. Plain (value.Int (pos 0)) ∷ ys) (first_sources p.inputs 1 (last_source p)))

none_at_first : (is : List Input) (vs : List Value) (n more m : ℕ) (v : Value) → slice_get (sources_from is vs [] n more) m ≡ Some (Occ (Some v)) → ⊥
none_at_first is vs n zero m v e = cc
none_at_first is vs n (suc more) zero v e = elim (input_value is vs n) as (λ o. Some (source_now o None) ≡ Some (Occ (Some v)) → ⊥) [ None ↦ λ q. cc | Some u ↦ λ q. cc ] e
none_at_first is vs n (suc more) (suc m) v e = none_at_first is vs (n + 1) more m v e

-- no event occurs at the first instant
pub begins_silent : (p : Program) (ns : List SrcId) → AreListed ns (sources_at p (beginning p).values first_instant)
begins_silent p ns zero v e = cc
begins_silent p ns (suc m) v e = absurd (none_at_first p.inputs (beginning p).values 1 (last_source p) m v e)
