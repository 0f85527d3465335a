-- A script cut behind its first line.
use Rattle.std.specs.Prelude.{ℕ, suc, false, ◌+◌, ◌≡◌, List, [], ◌∷◌, ◌++◌, take, drop, Option, Some, None}
use Rattle.std.specs.Option.{option_map}
use Rattle.std.proofs.Common.{refl, sym, ◌∙◌, ap, subst, inl, inr, add-one}
use Rattle.std.proofs.lemmas.Bool.Decides.{eqb_tells}
use Rattle.fr_value.proofs.Meet.{same_some}
use Rattle.fr_script.specs.Lines.{Cut, cut_at, cut, line_end}
use Rattle.std.proofs.lemmas.Option.{none-some}
use Rattle.fr_script.proofs.Options.{mapped}

abbrev pub line_before : List ℕ → Cut → Cut
line_before l x = (l ∷ x.0, x.1)

-- a byte more in the first line
byte_more : (b n m : ℕ) (bs more : List ℕ) (x : Cut) → m + 1 ≡ n → x ≡ line_before (take m bs) (cut (drop (m + 1) bs ++ more))
    → cut_at false b x ≡ line_before (take n (b ∷ bs)) (cut (drop (n + 1) (b ∷ bs) ++ more))
byte_more b n m bs more x e h =
    let k : x ≡ line_before (take m bs) (cut (drop (suc m) bs ++ more)) = rw add-one at h in
    subst (λ n. cut_at false b x ≡ line_before (take n (b ∷ bs)) (cut (drop (n + 1) (b ∷ bs) ++ more))) (sym (add-one m) ∙ e)
    (rw (add-one (suc m)) (ap (cut_at false b) k))

-- the first line, and the cut of what is behind it
pub cut_line : (bs more : List ℕ) (n : ℕ) → line_end bs ≡ Some n → cut (bs ++ more) ≡ line_before (take n bs) (cut (drop (n + 1) bs ++ more))
unfolding cut
cut_line [] more n h = absurd (none-some n h)
cut_line (b ∷ bs) more n h = elim (eqb_tells b 10) as (λ _. cut ((b ∷ bs) ++ more) ≡ line_before (take n (b ∷ bs)) (cut (drop (n + 1) (b ∷ bs) ++ more))) [
  | inl p ↦ (let e : Some 0 ≡ Some n = rw p.0 at h in rw (p.0, sym (same_some 0 n e)) refl)
  | inr p ↦
      (let e : option_map (λ m. m + 1) (line_end bs) ≡ Some n = rw p.0 at h in
      let m = mapped (λ m. m + 1) (line_end bs) n e in
      rw p.0 (byte_more b n m.0 bs more (cut (bs ++ more)) m.2 (cut_line bs more m.0 m.1)))
]

none_map : {A B : Type 0} (f : A → B) (o : Option A) → option_map f o ≡ None → o ≡ None
none_map f None h = refl
none_map f (Some a) h = absurd (none-some (f a) (sym h))

-- bytes without a newline are no line
pub cut_rest : (bs : List ℕ) → line_end bs ≡ None → cut bs ≡ ([], bs)
unfolding cut
cut_rest [] h = refl
cut_rest (b ∷ bs) h = elim (eqb_tells b 10) as (λ _. cut (b ∷ bs) ≡ ([], b ∷ bs)) [
  | inl p ↦ (let e : Some 0 ≡ None = rw p.0 at h in absurd (none-some 0 (sym e)))
  | inr p ↦
      (let e : option_map (λ m. m + 1) (line_end bs) ≡ None = rw p.0 at h in
      rw p.0 (ap (cut_at false b) (cut_rest bs (none_map (λ m. m + 1) (line_end bs) e))))
]
