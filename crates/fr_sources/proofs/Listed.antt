-- What lists of sources tell as the values change.
use Rattle.std.proofs.Common.{◌≡◌, ◌≢◌, ℕ, zero, suc, List, [], ◌∷◌, ◌++◌, slice_get, inl, inr, Option, Some, None, false, map, refl, sym, ap, ◌∙◌, arith, ◌<◌, length}
use Rattle.std.specs.List.{Contains}
use Rattle.std.specs.Option.{option_map}
use Rattle.std.proofs.lemmas.Bool.{cases_eq}
use Rattle.std.proofs.lemmas.List.Elements.{All-push, Contains-append_left, Contains-push}
use Rattle.fr_value.specs.declared.ids.SrcId.{SrcId}
use Rattle.fr_value.specs.declared.value.Value.{Value}
use Rattle.fr_value.specs.declared.now.Now.{Now}
use Rattle.fr_value.specs.declared.now.Now.TheVariants.{Plain, Occ}
use Rattle.fr_sources.specs.Writes.{with_at, cleared, written, event_at, all_cleared}
use Rattle.fr_sources.specs.Places.{AreListed, AreTouched, HaveValues}
use Rattle.fr_sources.proofs.Wrote.{get_same, get_other, long_with, no_occurrence}

-- the source is pushed
pushed : (ns : List SrcId) (s : SrcId) (n : ℕ) → n ≡ s.0 → Contains (ns ++ s ∷ []) (record { 0 = n })
pushed ns s n e = rw e (Contains-push ns s)

kept : (ns : List SrcId) (s : SrcId) (n : ℕ) → Contains ns (record { 0 = n }) → Contains (ns ++ s ∷ []) (record { 0 = n })
kept ns s n h = Contains-append_left ns (s ∷ []) (record { 0 = n }) h

pub listed_push : (f : Now → Now) (s : SrcId) (ns : List SrcId) (xs : List Now) → AreListed ns xs → AreListed (ns ++ s ∷ []) (with_at f s.0 xs)
listed_push f s ns xs h n v e = elim (cases_eq n s.0) [
  | inl same ↦ pushed ns s n same
  | inr other ↦ kept ns s n (h n v (sym (get_other f xs s.0 n other) ∙ e))
]

pub listed_input : (u : Value) (s : ℕ) (ns : List SrcId) (xs : List Now) → event_at xs s ≡ false → AreListed ns xs → AreListed ns (with_at (written u) s xs)
listed_input u s ns xs plain h n v e = elim (cases_eq n s) [
  | inl same ↦ absurd (no_occurrence xs s u v plain (sym (get_same (written u) xs s) ∙ (rw same at e)))
  | inr other ↦ h n v (sym (get_other (written u) xs s n other) ∙ e)
]

plain_none : (u v : Value) (o : Option Now) → option_map (λ _. Plain u) o ≡ Some (Occ (Some v)) → ⊥
plain_none u v None e = cc
plain_none u v (Some x) e = cc

pub listed_plain : (u : Value) (s : ℕ) (ns : List SrcId) (xs : List Now) → AreListed ns xs → AreListed ns (with_at (λ _. Plain u) s xs)
listed_plain u s ns xs h n v e = elim (cases_eq n s) [
  | inl same ↦ absurd (plain_none u v (slice_get xs s) (sym (get_same (λ _. Plain u) xs s) ∙ (rw same at e)))
  | inr other ↦ h n v (sym (get_other (λ _. Plain u) xs s n other) ∙ e)
]

pub touched_push : (f : Now → Now) (s : SrcId) (ns : List SrcId) (first xs : List Now) → AreTouched first xs ns → AreTouched first (with_at f s.0 xs) (ns ++ s ∷ [])
touched_push f s ns first xs h n = elim (cases_eq n s.0) [
  | inl same ↦ inl (pushed ns s n same)
  | inr other ↦ elim (h n) [ inl listed ↦ inl (kept ns s n listed) | inr e ↦ inr (e ∙ sym (get_other f xs s.0 n other)) ]
]

behind : (s : SrcId) (ns : List SrcId) (n : ℕ) → n ≢ s.0 → Contains (s ∷ ns) (record { 0 = n }) → Contains ns (record { 0 = n })
behind s ns n other (zero, l, e) = absurd (other (sym (ap (λ (x : SrcId). x.0) e)))
behind s ns n other (suc k, l, e) = (k, omega (arith, l), e)

before : (s : SrcId) (ns : List SrcId) (n : ℕ) → Contains ns (record { 0 = n }) → Contains (s ∷ ns) (record { 0 = n })
before s ns n (k, l, e) = (suc k, omega (arith, l), e)

-- nothing but the listed sources is cleared
pub touched_cleared : (ns : List SrcId) (xs : List Now) → AreTouched xs (all_cleared ns xs) ns
touched_cleared [] xs n = inr refl
touched_cleared (s ∷ ns) xs n = elim (cases_eq n s.0) [
  | inl same ↦ inl (0, omega arith, rw same refl)
  | inr other ↦ elim (touched_cleared ns (with_at cleared s.0 xs) n) [
    | inl listed ↦ inl (before s ns n listed)
    | inr e ↦ inr (sym (get_other cleared xs s.0 n other) ∙ e)
  ]
]

silent : (v : Value) (o : Option Now) → option_map cleared o ≡ Some (Occ (Some v)) → ⊥
silent v None e = cc
silent v (Some (Plain u)) e = cc
silent v (Some (Occ u)) e = cc

listed_clear : (s : SrcId) (ns : List SrcId) (xs : List Now) → AreListed (s ∷ ns) xs → AreListed ns (with_at cleared s.0 xs)
listed_clear s ns xs h n v e = elim (cases_eq n s.0) [
  | inl same ↦ absurd (silent v (slice_get xs s.0) (sym (get_same cleared xs s.0) ∙ (rw same at e)))
  | inr other ↦ behind s ns n other (h n v (sym (get_other cleared xs s.0 n other) ∙ e))
]

clear_twice : (xs : List Now) (n : ℕ) → map cleared (with_at cleared n xs) ≡ map cleared xs
clear_twice [] n = refl
clear_twice (Plain v ∷ xs) zero = refl
clear_twice (Occ o ∷ xs) zero = refl
clear_twice (x ∷ xs) (suc n) = ap (λ ys. cleared x ∷ ys) (clear_twice xs n)

none_listed : (n : ℕ) → Contains {X = SrcId} [] (record { 0 = n }) → ⊥
none_listed n h = omega (arith, h.1)

silent_already : (xs : List Now) → ((n : ℕ) (v : Value) → slice_get xs n ≡ Some (Occ (Some v)) → ⊥) → xs ≡ map cleared xs
silent_already [] h = refl
silent_already (Plain v ∷ xs) h = ap (λ ys. Plain v ∷ ys) (silent_already xs (λ n u e. h (suc n) u e))
silent_already (Occ None ∷ xs) h = ap (λ ys. Occ None ∷ ys) (silent_already xs (λ n u e. h (suc n) u e))
silent_already (Occ (Some v) ∷ xs) h = absurd (h 0 v refl)

-- where each event that occurs is listed, to clear those is to clear all
pub cleared_all : (ns : List SrcId) (xs : List Now) → AreListed ns xs → all_cleared ns xs ≡ map cleared xs
cleared_all [] xs h = silent_already xs (λ n v e. none_listed n (h n v e))
cleared_all (s ∷ ns) xs h = cleared_all ns (with_at cleared s.0 xs) (listed_clear s ns xs h) ∙ clear_twice xs s.0

-- nothing occurs where all is cleared
none_occurs : (xs : List Now) (n : ℕ) (v : Value) → slice_get (map cleared xs) n ≡ Some (Occ (Some v)) → ⊥
none_occurs [] n v e = cc
none_occurs (Plain u ∷ xs) zero v e = cc
none_occurs (Occ o ∷ xs) zero v e = cc
none_occurs (x ∷ xs) (suc n) v e = none_occurs xs n v e

pub listed_cleared : (ns : List SrcId) (xs : List Now) → AreListed ns (map cleared xs)
listed_cleared ns xs n v e = absurd (none_occurs xs n v e)

-- lists of sources that have values

pub have_with : (f : Now → Now) (n : ℕ) (ns : List SrcId) (xs : List Now) → HaveValues ns xs → HaveValues ns (with_at f n xs)
have_with f n ns xs h = rw (long_with f xs n) h

pub have_push : (f : Now → Now) (s : SrcId) (ns : List SrcId) (xs : List Now) → s.0 < length xs → HaveValues ns xs → HaveValues (ns ++ s ∷ []) (with_at f s.0 xs)
have_push f s ns xs here h = rw (long_with f xs s.0) (All-push (λ n. n.0 < length xs) ns s h here)

pub long_cleared : (ns : List SrcId) (xs : List Now) → length (all_cleared ns xs) ≡ length xs
long_cleared [] xs = refl
long_cleared (n ∷ ns) xs = long_cleared ns (with_at cleared n.0 xs) ∙ long_with cleared xs n.0

pub have_none : (xs : List Now) → HaveValues [] xs
have_none xs = λ k d within. absurd (omega (arith, within))
