-- Numbers in rising order, and what is gone over by them.
use Rattle.std.proofs.Common.{◌≡◌, ◌∙◌, ◌⊎◌, ℕ, zero, suc, ◌+◌, ◌<◌, ◌≤◌, List, [], ◌∷◌, ◌++◌, length, get_or, drop, map, append_assoc, refl, sym, ap, subst, arith, inl, inr}
use Rattle.std.specs.List.{Contains, flat_map, range_with_len}
use Rattle.std.proofs.lemmas.List.{drop_more, map-id}
use Rattle.std.proofs.lemmas.List.FromFn.{map-range_with_len_more}
use Rattle.std.proofs.lemmas.Bool.{cases_eq}
use Rattle.fr_show.specs.Shows.{RiseFrom}

-- a number in a list is its first or one behind that
pub contains_cases : (n k : ℕ) (ns : List ℕ) → Contains (n ∷ ns) k → (n ≡ k) ⊎ Contains ns k
contains_cases n k ns (zero, less, is) = inl is
contains_cases n k ns (suc i, less, is) = inr (i, omega arith, is)

contains_behind : (n k : ℕ) (ns : List ℕ) → Contains ns k → Contains (n ∷ ns) k
contains_behind n k ns (i, less, is) = (suc i, omega arith, is)

-- no number stands below where they begin
pub none_below : (low count k : ℕ) (ns : List ℕ) → RiseFrom low count ns → k < low → Contains ns k → ⊥
none_below low count k [] h less (i, within, is) = omega arith
none_below low count k (n ∷ ns) h less c =
    elim (contains_cases n k ns c) [
      | inl e ↦ omega (arith, h.0)
      | inr d ↦ none_below (n + 1) count k ns h.2 (omega (arith, h.0)) d
    ]

-- a number that rises from one on is below the count
pub number_within : (low count i d : ℕ) (ns : List ℕ) → RiseFrom low count ns → i < length ns → get_or ns i d < count
number_within low count i d [] h less = absurd (omega arith)
number_within low count zero d (n ∷ ns) h less = h.1
number_within low count (suc i) d (n ∷ ns) h less = number_within (n + 1) count i d ns h.2 (omega arith)

-- a number that isn't the first stands behind it, or nothing is made of it
behind_first : (f : ℕ → List ℕ) (n k : ℕ) (ns : List ℕ) → (n ≡ k → ⊥) → Contains (n ∷ ns) k ⊎ (f k ≡ []) → Contains ns k ⊎ (f k ≡ [])
behind_first f n k ns other (inr e) = inr e
behind_first f n k ns other (inl c) = elim (contains_cases n k ns c) [
  | inl e ↦ absurd (other e)
  | inr d ↦ inl d
]

-- nothing is made of a number below where they begin
nothing_below : (f : ℕ → List ℕ) (low count k : ℕ) (ns : List ℕ) → RiseFrom low count ns → k < low → Contains ns k ⊎ (f k ≡ []) → f k ≡ []
nothing_below f low count k ns h less (inl c) = absurd (none_below low count k ns h less c)
nothing_below f low count k ns h less (inr e) = e

-- where nothing is made of any other, going over these is going over all
pub over_named : (f : ℕ → List ℕ) (m a count : ℕ) (ns : List ℕ) → count ≡ a + m → RiseFrom a count ns
    → ((k : ℕ) → a ≤ k → k < count → Contains ns k ⊎ (f k ≡ [])) → flat_map f (range_with_len a m) ≡ flat_map f ns
over_named f zero a count [] e h others = refl
over_named f zero a count (n ∷ ns) e h others = absurd (omega (arith, h.0, h.1))
over_named f (suc m) a count [] e h others =
    let none = nothing_below f (a + 1) count a [] tt (omega arith) (others a (omega arith) (omega arith)) in
    let rest = over_named f m (a + 1) count [] (omega arith) tt (λ k le less. others k (omega arith) less) in
    ap (λ (bs : List ℕ). bs ++ flat_map f (range_with_len (a + 1) m)) none ∙ rest
over_named f (suc m) a count (n ∷ ns) e h others = elim (cases_eq n a) [
  | inl same ↦
      let tail = subst (λ (k : ℕ). RiseFrom (k + 1) count ns) same h.2 in
      let rest = over_named f m (a + 1) count ns (omega arith) tail (λ k le less.
      behind_first f n k ns (λ (same2 : n ≡ k). let bad : ⊥ = omega arith in bad) (others k (omega arith) less)) in
      ap (λ (bs : List ℕ). f a ++ bs) rest ∙ ap (λ (k : ℕ). f k ++ flat_map f ns) (sym same)
  | inr other ↦
      let above : a + 1 ≤ n = omega (arith, h.0) in
      let all : RiseFrom (a + 1) count (n ∷ ns) = (above, h.1, h.2) in
      let none = nothing_below f (a + 1) count a (n ∷ ns) all (omega arith) (others a (omega arith) (omega arith)) in
      let rest = over_named f m (a + 1) count (n ∷ ns) (omega arith) all (λ k le less. others k (omega arith) less) in
      ap (λ (bs : List ℕ). bs ++ flat_map f (range_with_len (a + 1) m)) none ∙ rest
]

-- one number more
pub all_more : (n : ℕ) → range_with_len 0 (n + 1) ≡ range_with_len 0 n ++ n ∷ []
all_more n =
    sym (map-id (range_with_len 0 (n + 1))) ∙ map-range_with_len_more (λ (k : ℕ). k) 0 n n (omega arith) ∙ ap (λ (ns : List ℕ). ns ++ n ∷ []) (map-id (range_with_len 0 n))

-- one number on, in going over them
pub joined_more : {A : Type 0} (f : ℕ → List A) (old new : List A) (ns : List ℕ) (i : ℕ) → i < length ns → new ≡ old ++ f (get_or ns i 0)
    → old ++ flat_map f (drop i ns) ≡ flat_map f ns → new ++ flat_map f (drop (i + 1) ns) ≡ flat_map f ns
joined_more f old new ns i less is so_far =
    let rest = flat_map f (drop (i + 1) ns) in
    ap (λ xs. xs ++ rest) is ∙ append_assoc old (f (get_or ns i 0)) rest ∙ ap (λ (ms : List ℕ). old ++ flat_map f ms) (sym (drop_more ns i 0 less)) ∙ so_far

pub mapped_more : {A : Type 0} (f : ℕ → A) (old new : List A) (ns : List ℕ) (i : ℕ) → i < length ns → new ≡ old ++ f (get_or ns i 0) ∷ []
    → old ++ map f (drop i ns) ≡ map f ns → new ++ map f (drop (i + 1) ns) ≡ map f ns
mapped_more f old new ns i less is so_far =
    let rest = map f (drop (i + 1) ns) in
    ap (λ xs. xs ++ rest) is ∙ append_assoc old (f (get_or ns i 0) ∷ []) rest ∙ ap (λ (ms : List ℕ). old ++ map f ms) (sym (drop_more ns i 0 less)) ∙ so_far

-- all numbers rise, and each is among them
all_rise : (m a count : ℕ) → a + m ≤ count → RiseFrom a count (range_with_len a m)
all_rise zero a count h = tt
all_rise (suc m) a count h = (omega arith, omega arith, all_rise m (a + 1) count (omega arith))

all_there : (m a k : ℕ) → a ≤ k → k < a + m → Contains (range_with_len a m) k
all_there zero a k le less = absurd (omega arith)
all_there (suc m) a k le less = elim (cases_eq a k) [
  | inl same ↦ (0, omega arith, same)
  | inr other ↦ contains_behind a k (range_with_len (a + 1) m) (all_there m (a + 1) k (omega arith) (omega arith))
]

pub all_numbers_rise : (count : ℕ) → RiseFrom 0 count (range_with_len 0 count)
all_numbers_rise count = all_rise count 0 count (omega arith)

pub is_number : (count k : ℕ) → k < count → Contains (range_with_len 0 count) k
is_number count k less = all_there count 0 k (omega arith) (omega arith)
