-- The numbers of inputs and events.
use Rattle.std.specs.Prelude.{ℕ, zero, suc, ◌≡◌, ◌+◌, ◌<◌, ◌≤◌, ◌⊎◌, List, [], ◌∷◌, ◌++◌, map, length}
use Rattle.std.specs.List.{Contains}
use Rattle.std.proofs.Common.{refl, ap, inl, inr, arith}
use Rattle.std.proofs.lemmas.List.Elements.{Contains-append_cases, Contains-append_left, Contains-append_right}
use Rattle.fr_core.specs.WellFormed.{AllAbove, Rises, AreNumbered}
use Rattle.fr_syntax.specs.Outlines.{Global}
use Rattle.fr_syntax.specs.declared.form.Form.{Form}
use Rattle.fr_syntax.specs.declared.form.Form.TheVariants as form
use Rattle.fr_expand.specs.Expansion.{inputs_from, events_from, program_in}
use Rattle.fr_expand.proofs.Members.{nowhere, here, later, first_or_later}

-- the numbers of inputs, of events, where the next source has number n
abbrev pub ins : ℕ → List Form → List ℕ
ins n fs = map (λ i. i.source.0) (inputs_from n fs)

abbrev pub evs : ℕ → List Form → List ℕ
evs n fs = map (λ e. e.source.0) (events_from n fs)

-- how many there are
abbrev pub sources : ℕ → List Form → ℕ
sources n fs = length (inputs_from n fs) + length (events_from n fs)

ins_above : (m n : ℕ) (fs : List Form) → m < n → AllAbove m (ins n fs)
ins_above m n [] h = tt
ins_above m n (form.Input name v ∷ fs) h = (h, ins_above m (n + 1) fs (omega (arith, h)))
ins_above m n (form.Event name ∷ fs) h = ins_above m (n + 1) fs (omega (arith, h))
ins_above m n (form.Function name params body ∷ fs) h = ins_above m n fs h
ins_above m n (form.Define name e ∷ fs) h = ins_above m n fs h
ins_above m n (form.Show name e ∷ fs) h = ins_above m n fs h

evs_above : (m n : ℕ) (fs : List Form) → m < n → AllAbove m (evs n fs)
evs_above m n [] h = tt
evs_above m n (form.Input name v ∷ fs) h = evs_above m (n + 1) fs (omega (arith, h))
evs_above m n (form.Event name ∷ fs) h = (h, evs_above m (n + 1) fs (omega (arith, h)))
evs_above m n (form.Function name params body ∷ fs) h = evs_above m n fs h
evs_above m n (form.Define name e ∷ fs) h = evs_above m n fs h
evs_above m n (form.Show name e ∷ fs) h = evs_above m n fs h

ins_rise : (n : ℕ) (fs : List Form) → Rises (ins n fs)
ins_rise n [] = tt
ins_rise n (form.Input name v ∷ fs) = (ins_above n (n + 1) fs (omega arith), ins_rise (n + 1) fs)
ins_rise n (form.Event name ∷ fs) = ins_rise (n + 1) fs
ins_rise n (form.Function name params body ∷ fs) = ins_rise n fs
ins_rise n (form.Define name e ∷ fs) = ins_rise n fs
ins_rise n (form.Show name e ∷ fs) = ins_rise n fs

evs_rise : (n : ℕ) (fs : List Form) → Rises (evs n fs)
evs_rise n [] = tt
evs_rise n (form.Input name v ∷ fs) = evs_rise (n + 1) fs
evs_rise n (form.Event name ∷ fs) = (evs_above n (n + 1) fs (omega arith), evs_rise (n + 1) fs)
evs_rise n (form.Function name params body ∷ fs) = evs_rise n fs
evs_rise n (form.Define name e ∷ fs) = evs_rise n fs
evs_rise n (form.Show name e ∷ fs) = evs_rise n fs

-- a number of these sources
abbrev Within : ℕ → List Form → ℕ → Type 0
Within n fs k = (n ≤ k) × (k < n + sources n fs)

ins_within : (n : ℕ) (fs : List Form) (k : ℕ) → Contains (ins n fs) k → Within n fs k
ins_within n [] k c = absurd (nowhere k c)
ins_within n (form.Input name v ∷ fs) k c =
    elim (first_or_later k n (ins (n + 1) fs) c) [
      | inl e ↦ (omega (arith, e), omega (arith, e))
      | inr l ↦ let w = ins_within (n + 1) fs k l in (omega (arith, w.0), omega (arith, w.1))
    ]
ins_within n (form.Event name ∷ fs) k c = let w = ins_within (n + 1) fs k c in (omega (arith, w.0), omega (arith, w.1))
ins_within n (form.Function name params body ∷ fs) k c = ins_within n fs k c
ins_within n (form.Define name e ∷ fs) k c = ins_within n fs k c
ins_within n (form.Show name e ∷ fs) k c = ins_within n fs k c

evs_within : (n : ℕ) (fs : List Form) (k : ℕ) → Contains (evs n fs) k → Within n fs k
evs_within n [] k c = absurd (nowhere k c)
evs_within n (form.Event name ∷ fs) k c =
    elim (first_or_later k n (evs (n + 1) fs) c) [
      | inl e ↦ (omega (arith, e), omega (arith, e))
      | inr l ↦ let w = evs_within (n + 1) fs k l in (omega (arith, w.0), omega (arith, w.1))
    ]
evs_within n (form.Input name v ∷ fs) k c = let w = evs_within (n + 1) fs k c in (omega (arith, w.0), omega (arith, w.1))
evs_within n (form.Function name params body ∷ fs) k c = evs_within n fs k c
evs_within n (form.Define name e ∷ fs) k c = evs_within n fs k c
evs_within n (form.Show name e ∷ fs) k c = evs_within n fs k c

ins_apart : (n : ℕ) (fs : List Form) (k : ℕ) → Contains (ins n fs) k → Contains (evs n fs) k → ⊥
ins_apart n [] k c d = nowhere k c
ins_apart n (form.Input name v ∷ fs) k c d =
    elim (first_or_later k n (ins (n + 1) fs) c) [
      | inl e ↦ let w = evs_within (n + 1) fs k d in omega (arith, e, w.0)
      | inr l ↦ ins_apart (n + 1) fs k l d
    ]
ins_apart n (form.Event name ∷ fs) k c d =
    elim (first_or_later k n (evs (n + 1) fs) d) [
      | inl e ↦ let w = ins_within (n + 1) fs k c in omega (arith, e, w.0)
      | inr l ↦ ins_apart (n + 1) fs k c l
    ]
ins_apart n (form.Function name params body ∷ fs) k c d = ins_apart n fs k c d
ins_apart n (form.Define name e ∷ fs) k c d = ins_apart n fs k c d
ins_apart n (form.Show name e ∷ fs) k c d = ins_apart n fs k c d

same_or_more : (n k : ℕ) → n ≤ k → (n ≡ k) ⊎ (n + 1 ≤ k)
same_or_more zero zero h = inl refl
same_or_more zero (suc k) h = inr (omega arith)
same_or_more (suc n) zero h = absurd (omega (arith, h))
same_or_more (suc n) (suc k) h = elim (same_or_more n k (omega (arith, h))) [ inl e ↦ inl (ap suc e) | inr m ↦ inr (omega (arith, m)) ]

-- each number is that of an input or of an event
found : (n : ℕ) (fs : List Form) (k : ℕ) → n ≤ k → k < n + sources n fs → Contains (ins n fs) k ⊎ Contains (evs n fs) k
found n [] k l h = absurd (omega (arith, l, h))
found n (form.Input name v ∷ fs) k l h =
    elim (same_or_more n k l) [
      | inl e ↦ inl (here k n (ins (n + 1) fs) e)
      | inr m ↦ elim (found (n + 1) fs k m (omega (arith, h))) [ inl c ↦ inl (later k n (ins (n + 1) fs) c) | inr d ↦ inr d ]
    ]
found n (form.Event name ∷ fs) k l h =
    elim (same_or_more n k l) [
      | inl e ↦ inr (here k n (evs (n + 1) fs) e)
      | inr m ↦ elim (found (n + 1) fs k m (omega (arith, h))) [ inl c ↦ inl c | inr d ↦ inr (later k n (evs (n + 1) fs) d) ]
    ]
found n (form.Function name params body ∷ fs) k l h = found n fs k l h
found n (form.Define name e ∷ fs) k l h = found n fs k l h
found n (form.Show name e ∷ fs) k l h = found n fs k l h

all_within : (n : ℕ) (fs : List Form) (k : ℕ) → Contains (ins n fs ++ evs n fs) k → Within n fs k
all_within n fs k c = elim (Contains-append_cases (ins n fs) (evs n fs) k c) [ inl l ↦ ins_within n fs k l | inr r ↦ evs_within n fs k r ]

all_found : (n : ℕ) (fs : List Form) (k : ℕ) → n ≤ k → k < n + sources n fs → Contains (ins n fs ++ evs n fs) k
all_found n fs k l h = elim (found n fs k l h) [ inl c ↦ Contains-append_left (ins n fs) (evs n fs) k c | inr d ↦ Contains-append_right (ins n fs) (evs n fs) k d ]

-- the sources of a program of forms are numbered
pub numbered : (g : List Global) (fs : List Form) → AreNumbered (program_in g fs)
numbered g fs = record {
  inputs_rise = ins_rise 1 fs;
  events_rise = evs_rise 1 fs;
  apart = ins_apart 1 fs;
  without_gap = λ k. (λ c. let w = all_within 1 fs k c in (w.0, omega (arith, w.1)), λ b. all_found 1 fs k b.0 (omega (arith, b.1)));
}
