-- Forms have one expansion.
use Rattle.std.specs.Prelude.{ℕ, zero, suc, ◌≡◌, ◌+◌, ◌<◌, ◌⊎◌, List, Option, Some, None, Result, Ok, Err}
use Rattle.std.proofs.Common.{refl, sym, ◌∙◌, ap, subst, inl, inr, arith}
use Rattle.fr_value.specs.declared.value.Datum.{Datum}
use Rattle.fr_core.specs.declared.core_form.Core.{Core}
use Rattle.fr_core.specs.declared.program.Program.{Program}
use Rattle.fr_core.specs.Classes.{IsFit}
use Rattle.fr_scope.specs.Meanings.{globals_in}
use Rattle.fr_expand.specs.declared.refusal.Refusal.{Refusal}
use Rattle.fr_expand.specs.Passes.{first_refusal}
use Rattle.fr_expand.specs.Expansion.{IsExpansion, IsExpansionAfter, IsSecondPass, IsFirstUnfit, forms_of, cores_of, program_of}
use Rattle.fr_expand.proofs.Fits.{fit_cores}

same_refusal : (r s : Refusal) → r.form ≡ s.form → r.kind ≡ s.kind → r ≡ s
same_refusal r s e k = λ i. record { form = e i; kind = k i }

sides : (i j : ℕ) → (i ≡ j) ⊎ ((i < j) ⊎ (j < i))
sides zero zero = inl refl
sides zero (suc j) = inr (inl (omega arith))
sides (suc i) zero = inr (inr (omega arith))
sides (suc i) (suc j) = elim (sides i j) [ inl e ↦ inl (ap suc e) | inr (inl l) ↦ inr (inl (omega (arith, l))) | inr (inr l) ↦ inr (inr (omega (arith, l))) ]

-- no form before the first unfit one is unfit
one_first : (p : Program) (cores : List (Option Core)) (m n : ℕ) → IsFirstUnfit p cores m → IsFirstUnfit p cores n → m ≡ n
one_first p cores m n a b =
    elim (sides a.place b.place) [
      | inl e ↦ a.number ∙ ap (λ k. k + 1) e ∙ sym b.number
      | inr (inl l) ↦ absurd (a.unfit (b.before a.place (Some a.core) l a.stands))
      | inr (inr l) ↦ absurd (b.unfit (a.before b.place (Some b.core) l b.stands))
    ]

-- a program that is fit has no form that isn't
fit_not : (ds : List Datum) (n : ℕ) → IsFit (program_of ds) → IsFirstUnfit (program_of ds) (cores_of ds) n → ⊥
unfolding program_of
fit_not ds n fit first = first.unfit (fit_cores (globals_in ds) (forms_of ds) fit first.place (Some first.core) first.stands)

second_is_one : (ds : List Datum) (v w : Result Program Refusal) → IsSecondPass ds v → IsSecondPass ds w → v ≡ w
second_is_one ds (Ok p) (Ok q) a b = ap Ok (a.0 ∙ sym b.0)
second_is_one ds (Ok p) (Err r) a b = absurd (fit_not ds r.form (subst IsFit a.0 a.1) b.1)
second_is_one ds (Err r) (Ok q) a b = absurd (fit_not ds r.form (subst IsFit b.0 b.1) a.1)
second_is_one ds (Err r) (Err s) a b = ap Err (same_refusal r s (one_first (program_of ds) (cores_of ds) r.form s.form a.1 b.1) (a.0 ∙ sym b.0))

after_is_one : (r : Option Refusal) (ds : List Datum) (v w : Result Program Refusal) → IsExpansionAfter r ds v → IsExpansionAfter r ds w → v ≡ w
after_is_one (Some r) ds v w a b = a ∙ sym b
after_is_one None ds v w a b = second_is_one ds v w a b

-- forms have one expansion
pub expansion_is_one : (ds : List Datum) (v w : Result Program Refusal) → IsExpansion ds v → IsExpansion ds w → v ≡ w
expansion_is_one ds v w = after_is_one (first_refusal ds) ds v w
