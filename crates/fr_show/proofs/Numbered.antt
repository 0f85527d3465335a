-- Going over the shows by numbers is going over them all.
use Rattle.std.proofs.Common.{◌≡◌, ◌∙◌, ℕ, suc, ◌+◌, List, [], ◌∷◌, ◌++◌, length, map, Ok, refl, sym, ap, subst, arith, inl}
use Rattle.std.specs.List.{Contains, flat_map, range_with_len}
use Rattle.fr_value.specs.declared.now.Now.{Now}
use Rattle.fr_meaning.specs.Texts.{Shown, instant_text, shown_text}
use Rattle.fr_show.specs.Shows.{RiseFrom, AreAllPrinted, text_at}
use Rattle.fr_show.proofs.Numbers.{over_named, all_numbers_rise, is_number}

-- the lines of all shows are those of their numbers
all_from : (time a : ℕ) (f : ℕ → List ℕ) (ss : List Shown) (vs : List Now) → length vs ≡ length ss → ((k : ℕ) → f (a + k) ≡ text_at time ss vs k)
    → flat_map f (range_with_len a (length ss)) ≡ instant_text time ss (map (λ v. Ok v) vs)
all_from time a f [] vs e is = refl
all_from time a f (s ∷ ss) [] e is = absurd (omega arith)
all_from time a f (s ∷ ss) (v ∷ vs) e is =
    let here : f a ≡ shown_text time s (Ok v) = ap f (let h : a ≡ a + 0 = omega arith in h) ∙ is 0 in
    let rest = all_from time (a + 1) f ss vs (omega arith) (λ k. ap f (let h : a + 1 + k ≡ a + suc k = omega arith in h) ∙ is (suc k)) in
    ap (λ (bs : List ℕ). f a ++ bs) rest ∙ ap (λ (bs : List ℕ). bs ++ instant_text time ss (map (λ v. Ok v) vs)) here

pub text_is : (time : ℕ) (shows : List Shown) (values : List Now) (numbers : List ℕ) → length values ≡ length shows → AreAllPrinted time shows values numbers
    → flat_map (text_at time shows values) numbers ≡ instant_text time shows (map (λ v. Ok v) values)
text_is time shows values numbers e h =
    let f = text_at time shows values in
    sym (over_named f (length shows) 0 (length shows) numbers (omega arith) h.rising (λ k le less. h.others k less))
    ∙ all_from time 0 f shows values e (λ k. ap f (let z : 0 + k ≡ k = omega arith in z))

-- nothing is printed of a show that isn't among all
pub all_are_printed : (time : ℕ) (shows : List Shown) (values : List Now) (count : ℕ) (numbers : List ℕ) → count ≡ length shows → numbers ≡ range_with_len 0 count
    → AreAllPrinted time shows values numbers
all_are_printed time shows values count numbers many all =
    let is : numbers ≡ range_with_len 0 (length shows) = all ∙ ap (λ (n : ℕ). range_with_len 0 n) many in
    record {
      rising = subst (λ (ns : List ℕ). RiseFrom 0 (length shows) ns) (sym is) (all_numbers_rise (length shows));
      others = λ n less. inl (subst (λ (ns : List ℕ). Contains ns n) (sym is) (is_number (length shows) n less));
    }
