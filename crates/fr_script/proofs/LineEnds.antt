-- The first newline of some bytes.
use Rattle.std.specs.Prelude.{ℕ, zero, suc, ◌+◌, ◌≡◌, ◌<◌, ◌≤◌, List, [], ◌∷◌, length, take, drop, Option, Some, None}
use Rattle.std.specs.Option.{option_map}
use Rattle.std.proofs.Common.{refl, sym, ◌∙◌, ap, arith, inl, inr, add-one, zero-add}
use Rattle.std.proofs.lemmas.Bool.Decides.{eqb_tells}
use Rattle.fr_value.proofs.Meet.{same_some}
use Rattle.fr_script.specs.Lines.{line_end}
use Rattle.std.proofs.lemmas.Option.{none-some}
use Rattle.fr_script.proofs.Options.{mapped}

same_map : {A B : Type 0} (f g : A → B) (o : Option A) → ((a : A) → f a ≡ g a) → option_map f o ≡ option_map g o
same_map f g None h = refl
same_map f g (Some a) h = ap Some (h a)

map_map : {A B C : Type 0} (f : B → C) (g : A → B) (o : Option A) → option_map f (option_map g o) ≡ option_map (λ a. f (g a)) o
map_map f g None = refl
map_map f g (Some a) = refl

map_none : {A B : Type 0} (f : A → B) (o : Option A) → option_map f o ≡ None → o ≡ None
map_none f None h = refl
map_none f (Some a) h = absurd (none-some (f a) (sym h))

-- no newline is among the first, so it is sought behind them
pub behind : (seen : ℕ) (bs : List ℕ) → line_end (take seen bs) ≡ None → seen ≤ length bs → option_map (λ n. seen + n) (line_end (drop seen bs)) ≡ line_end bs
behind zero bs h k = same_map (λ n. 0 + n) (λ n. n) (line_end bs) zero-add ∙ map_same (line_end bs)
  where
    map_same : (o : Option ℕ) → option_map (λ n. n) o ≡ o
    map_same None = refl
    map_same (Some n) = refl
behind (suc n) [] h k = absurd (omega (arith, k))
behind (suc n) (b ∷ bs) h k = elim (eqb_tells b 10) as (λ _. option_map (λ m. suc n + m) (line_end (drop n bs)) ≡ line_end (b ∷ bs)) [
  | inl p ↦ (let e : Some 0 ≡ None = rw p.0 at h in absurd (none-some 0 (sym e)))
  | inr p ↦
      (let e : option_map (λ n. n + 1) (line_end (take n bs)) ≡ None = rw p.0 at h in
      let i = behind n bs (map_none (λ n. n + 1) (line_end (take n bs)) e) (omega (arith, k)) in
      rw p.0 (same_map (λ m. suc n + m) (λ m. n + m + 1) (line_end (drop n bs)) (λ m. omega arith) ∙ sym (map_map (λ m. m + 1) (λ m. n + m) (line_end (drop n bs))) ∙ ap (option_map (λ m. m + 1)) i))
]

-- before the first newline there is none
pub before : (bs : List ℕ) (n : ℕ) → line_end bs ≡ Some n → line_end (take n bs) ≡ None
before [] n h = absurd (none-some n h)
before (b ∷ bs) n h = elim (eqb_tells b 10) as (λ _. line_end (take n (b ∷ bs)) ≡ None) [
  | inl p ↦ (let e : Some 0 ≡ Some n = rw p.0 at h in rw (sym (same_some 0 n e)) refl)
  | inr p ↦
      (let e : option_map (λ m. m + 1) (line_end bs) ≡ Some n = rw p.0 at h in
      let m = mapped (λ m. m + 1) (line_end bs) n e in
      rw (sym m.2, add-one, p.0) (ap (option_map (λ m. m + 1)) (before bs m.0 m.1)))
]

-- the first newline is one of the bytes
pub end_within : (bs : List ℕ) (n : ℕ) → line_end bs ≡ Some n → n < length bs
end_within [] n h = absurd (none-some n h)
end_within (b ∷ bs) n h = elim (eqb_tells b 10) as (λ _. n < length (b ∷ bs)) [
  | inl p ↦ (let e : Some 0 ≡ Some n = rw p.0 at h in omega (arith, same_some 0 n e))
  | inr p ↦
      (let e : option_map (λ m. m + 1) (line_end bs) ≡ Some n = rw p.0 at h in
      let m = mapped (λ m. m + 1) (line_end bs) n e in
      omega (arith, m.2, end_within bs m.0 m.1))
]
