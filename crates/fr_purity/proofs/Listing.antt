-- The lists of callers, function by function.
use Rattle.std.proofs.Common.{ℕ, zero, suc, if◌then◌else◌, ◌≡◌, ◌+◌, ◌<◌, ◌==◌, nat_lt, ◌&&◌, ◌||◌, List, [], ◌∷◌, ◌++◌, length, set, get_or, take, drop, refl, sym, ap, ◌∙◌, subst, arith, length-set, append-nil}
use Rattle.std.proofs.lemmas.Bool.Decides.{nat_tests}
use Rattle.std.proofs.lemmas.List.{drop_all, take_all, get_or-map}
use Rattle.std.proofs.lemmas.List.Folds.{list_any-append}
use Rattle.fr_core.specs.declared.program.Function.{Function}
use Rattle.fr_purity.specs.Calls.{calls}
use Rattle.fr_purity.specs.Removal.{has, list_at, called_by, with_caller}

pub length-with_caller : (callers : List (List ℕ)) (c : ℕ) (ns : List ℕ) → length (with_caller callers c ns) ≡ length callers
length-with_caller callers c [] = refl
length-with_caller callers c (n ∷ ns) = length-with_caller (set callers n (list_at callers n ++ c ∷ [])) c ns ∙ length-set callers n (list_at callers n ++ c ∷ [])

list_at-set : (xss : List (List ℕ)) (n g : ℕ) (xs : List ℕ) → g < length xss → list_at (set xss n xs) g ≡ (if n == g then xs else list_at xss g)
list_at-set [] n g xs h = absurd (omega (arith, h))
list_at-set (ys ∷ xss) zero zero xs h = refl
list_at-set (ys ∷ xss) zero (suc g) xs h = grind (arith, nat_tests)
list_at-set (ys ∷ xss) (suc n) zero xs h = grind (arith, nat_tests)
list_at-set (ys ∷ xss) (suc n) (suc g) xs h = let short : g < length xss = omega (arith, h) in grind (arith, nat_tests, list_at-set xss n g xs short)

-- a caller is put into the list of each function that it calls, and into no other
pub has-with_caller : (callers : List (List ℕ)) (c : ℕ) (ns : List ℕ) (f g : ℕ) → g < length callers → has (list_at (with_caller callers c ns) g) f ≡ (has (list_at callers g) f || ((c == f) && has ns g))
has-with_caller callers c [] f g short = grind (arith, nat_tests)
has-with_caller callers c (n ∷ ns) f g short =
    let longer = list_at callers n ++ c ∷ [] in
    let rest = has-with_caller (set callers n longer) c ns f g (subst (λ k. g < k) (sym (length-set callers n longer)) short) in
    let here = list_at-set callers n g longer short in
    grind (arith, nat_tests, list_any-append {X = ℕ}, rest, here)

-- the lists hold the callers among the functions before a number
pub record ListedBefore (functions : List Function) (number : ℕ) (callers : List (List ℕ)) : Type 0 where
  pub one_for_each : length callers ≡ length functions
  pub members : (f g : ℕ) → g < length functions → has (list_at callers g) f ≡ nat_lt f number && has (list_at (called_by functions) f) g

-- the calls of a function are those of its body
pub called_by_one : (functions : List Function) (number : ℕ) (function : Function) → number < length functions → function ≡ get_or functions number function → list_at (called_by functions) number ≡ calls function.body
called_by_one functions number function short is = get_or-map (λ f. calls f.body) functions number function [] short ∙ ap (λ f. calls f.body) (sym is)

joined : (functions : List Function) (number f g : ℕ) → let h = λ (n : ℕ). has (list_at (called_by functions) n) g in (nat_lt f number && h f) || ((number == f) && h number) ≡ nat_lt f (number + 1) && h f
joined functions number f g = grind (arith, nat_tests)

-- the calls of one more function are listed
pub listed_next : (functions : List Function) (number : ℕ) (callers new : List (List ℕ)) (function : Function) → number < length functions → function ≡ get_or functions number function
    → new ≡ with_caller callers number (calls function.body) → ListedBefore functions number callers → ListedBefore functions (number + 1) new
listed_next functions number callers new function short is new_is r = record {
  one_for_each = ap length new_is ∙ length-with_caller callers number (calls function.body) ∙ r.one_for_each;
  members = λ f g low.
      ap (λ l. has (list_at l g) f) new_is
      ∙ (has-with_caller callers number (calls function.body) f g (subst (λ n. g < n) (sym r.one_for_each) low)
      ∙ (ap (λ b. b || ((number == f) && has (calls function.body) g)) (r.members f g low)
      ∙ (ap (λ l. (nat_lt f number && has (list_at (called_by functions) f) g) || ((number == f) && has l g)) (sym (called_by_one functions number function short is))
      ∙ joined functions number f g)));
}

-- what is written back into a vector of the same length
pub written_back : {A : Type 0} (old new : List A) (n : ℕ) → n ≡ length old → length new ≡ length old → take n (new ++ drop (length new) old) ≡ new
written_back old new n h k = ap (λ l. take n (new ++ l)) (drop_all (length new) old (omega (arith, k))) ∙ (ap (take n) (append-nil new) ∙ take_all n new (omega (arith, h, k)))
