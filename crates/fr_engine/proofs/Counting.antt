-- How many numbers don't count as computed.
use Rattle.std.proofs.Common.{◌≡◌, inl, inr, ℕ, zero, suc, ◌+◌, ◌<◌, ◌≤◌, Bool, true, false, refl, sym, ap, ◌∙◌, arith}
use Rattle.fr_way.specs.Way.{Way}
use Rattle.fr_engine.specs.Running.{Advances}
use Rattle.fr_engine.proofs.Cases.{by_number}

-- 1 unless a number is in use and counts as computed
unfoldable pub to_do : Bool → Bool → ℕ
to_do true true = 0
to_do true false = 1
to_do false b = 1

unfoldable pub undone : ℕ → Way → ℕ
undone zero at = 0
undone (suc n) at = undone n at + to_do (at.taken n) (at.done n)

to_do_none : (a b : Bool) → a ≡ true → b ≡ true → to_do a b ≡ 0
unfolding to_do
to_do_none true true ea eb = refl
to_do_none true false ea eb = absurd cc
to_do_none false b ea eb = absurd cc

to_do_one : (a b : Bool) → b ≡ false → to_do a b ≡ 1
unfolding to_do
to_do_one true true eb = absurd cc
to_do_one true false eb = refl
to_do_one false b eb = refl

to_do_most : (a b : Bool) → to_do a b ≤ 1
unfolding to_do
to_do_most true true = omega arith
to_do_most true false = omega arith
to_do_most false b = omega arith

to_do_falls : (a b c d : Bool) → (a ≡ true → b ≡ true → (c ≡ true) × (d ≡ true)) → to_do c d ≤ to_do a b
unfolding to_do
to_do_falls true true c d f =
    let e : to_do c d ≡ 0 = to_do_none c d (f refl refl).0 (f refl refl).1 in
    omega arith
to_do_falls true false c d f = to_do_most c d
to_do_falls false b c d f = to_do_most c d

undone_no_more : (n : ℕ) (at new : Way) (m : ℕ) → Advances at new m → undone n new ≤ undone n at
unfolding undone
undone_no_more zero at new m a = omega arith
undone_no_more (suc n) at new m a =
    let less : undone n new ≤ undone n at = undone_no_more n at new m a in
    let here : to_do (new.taken n) (new.done n) ≤ to_do (at.taken n) (at.done n) = to_do_falls (at.taken n) (at.done n) (new.taken n) (new.done n) (a.kept n) in
    omega arith

-- IT FALLS with each node that is dealt with
pub undone_falls : (n : ℕ) (at new : Way) (m : ℕ) → m < n → Advances at new m → undone n new < undone n at
unfolding undone
undone_falls zero at new m lt a = absurd (omega arith)
undone_falls (suc n) at new m lt a = elim (by_number m n) [
  | inl e ↦
      let less : undone n new ≤ undone n at = undone_no_more n at new m a in
      let after : to_do (new.taken n) (new.done n) ≡ 0 = to_do_none (new.taken n) (new.done n) (ap new.taken (sym e) ∙ a.here.0) (ap new.done (sym e) ∙ a.here.1) in
      let before : to_do (at.taken n) (at.done n) ≡ 1 = to_do_one (at.taken n) (at.done n) (ap at.done (sym e) ∙ a.was) in
      omega arith
  | inr ne ↦
      let less : undone n new < undone n at = undone_falls n at new m (omega arith) a in
      let here : to_do (new.taken n) (new.done n) ≤ to_do (at.taken n) (at.done n) = to_do_falls (at.taken n) (at.done n) (new.taken n) (new.done n) (a.kept n) in
      omega arith
]
