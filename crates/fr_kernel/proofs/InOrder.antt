-- A list in rising order without repeats: its members, and that there is only one of the same members.
use Rattle.std.proofs.Common.{◌≡◌, ◌+◌, ◌<◌, ◌≤◌, ℕ, suc, Bool, true, false, ◌||◌, if◌then◌else◌, ◌==◌, nat_lt, List, [], ◌∷◌, ◌++◌, length, get_or, refl, sym, ap, subst, ◌∙◌, arith}
use Rattle.std.specs.List.{list_any, dedup, dedup_from}
use Rattle.std.specs.List.Sorted.{IsStrictlyIncreasing, IsPermutation, IsSorted}
use Rattle.std.specs.Ordering.{nat_cmp}
use Rattle.std.proofs.lemmas.Bool.{false≢true}
use Rattle.std.proofs.lemmas.Bool.Decides.{nat_tests}
use Rattle.std.proofs.lemmas.List.Sorted.{list_any-IsPermutation}
use Rattle.std.proofs.lemmas.Map.Keys.{IsStrictlyIncreasing-dedup}
use Rattle.fr_core.specs.WellFormed.{AllAbove, Rises}
use Rattle.fr_kernel.specs.Numbers.{index_of, Every}
use Rattle.fr_kernel.specs.Slots.{with_number, in_order, all_below}

-- whether a number is a member
abbrev pub has : ℕ → List ℕ → Bool
has q ns = list_any (λ n. q == n) ns

has-with : (q n : ℕ) (ms : List ℕ) → has q (with_number n ms) ≡ (q == n) || has q ms
has-with q n [] = refl
has-with q n (m ∷ ms) = grind (arith, nat_tests, has-with q n ms)

has-in_order : (q : ℕ) (ns : List ℕ) → has q (in_order ns) ≡ has q ns
has-in_order q [] = refl
has-in_order q (n ∷ ns) = has-with q n (in_order ns) ∙ ap (λ b. (q == n) || b) (has-in_order q ns)

above-with : (a n : ℕ) (ms : List ℕ) → a < n → AllAbove a ms → AllAbove a (with_number n ms)
above-with a n [] h g = (h, tt)
above-with a n (m ∷ ms) h g = by (nat_lt n m) (n == m) (above-with a n ms h g.1)
  where
    by : (less same : Bool) → AllAbove a (with_number n ms) → AllAbove a (if less then n ∷ m ∷ ms else if same then m ∷ ms else m ∷ with_number n ms)
    by true same rest = (h, g)
    by false true rest = g
    by false false rest = (g.0, rest)

all_above : (a b : ℕ) (ms : List ℕ) → a < b → AllAbove b ms → AllAbove a ms
all_above a b [] h g = tt
all_above a b (m ∷ ms) h g = (omega (arith, h, g.0), all_above a b ms h g.1)

rises-with : (n : ℕ) (ms : List ℕ) → Rises ms → Rises (with_number n ms)
rises-with n [] h = (tt, tt)
rises-with n (m ∷ ms) h = by (nat_lt n m) (n == m) refl refl (rises-with n ms h.1)
  where
    by : (less same : Bool) → nat_lt n m ≡ less → (n == m) ≡ same → Rises (with_number n ms) → Rises (if less then n ∷ m ∷ ms else if same then m ∷ ms else m ∷ with_number n ms)
    by true same e d rest = let below : n < m = grind (arith, nat_tests) in ((below, all_above n m ms below h.0), h)
    by false true e d rest = h
    by false false e d rest = let above : m < n = grind (arith, nat_tests) in (above-with m n ms above h.0, rest)

pub rises-in_order : (ns : List ℕ) → Rises (in_order ns)
rises-in_order [] = tt
rises-in_order (n ∷ ns) = rises-with n (in_order ns) (rises-in_order ns)

-- there is only one

none_at : (q n : ℕ) (ns : List ℕ) → q ≤ n → AllAbove n ns → has q ns ≡ false
none_at q n [] h g = refl
none_at q n (m ∷ ms) h g = let past : n < m = g.0 in grind (arith, nat_tests, none_at q n ms h g.1)

has_itself : (q : ℕ) (ns : List ℕ) → has q (q ∷ ns) ≡ true
has_itself q ns = grind (arith, nat_tests)

abbrev SameMembers : List ℕ → List ℕ → Type 0
SameMembers xs ys = (q : ℕ) → has q xs ≡ has q ys

not_below : (x y : ℕ) (xs ys : List ℕ) → AllAbove y ys → has x (x ∷ xs) ≡ has x (y ∷ ys) → x < y → ⊥
not_below x y xs ys g h less =
    let other : has x (y ∷ ys) ≡ false = grind (arith, nat_tests, none_at x y ys (omega (arith, less)) g) in
    false≢true (sym other ∙ sym h ∙ has_itself x xs)

tails_same : (x : ℕ) (xs ys : List ℕ) → AllAbove x xs → AllAbove x ys → SameMembers (x ∷ xs) (x ∷ ys) → SameMembers xs ys
tails_same x xs ys above other h q = by (q == x) refl
  where
    by : (t : Bool) → (q == x) ≡ t → has q xs ≡ has q ys
    by true e = let same : q ≤ x = grind (arith, nat_tests) in none_at q x xs same above ∙ sym (none_at q x ys same other)
    by false e = grind (arith, nat_tests, h q)

both_same : (x y : ℕ) (xs ys : List ℕ) → x ≡ y → xs ≡ ys → x ∷ xs ≡ y ∷ ys
both_same x y xs ys h g = ap (λ n. n ∷ xs) h ∙ ap (λ l. y ∷ l) g

pub same_rising : (xs ys : List ℕ) → Rises xs → Rises ys → SameMembers xs ys → xs ≡ ys
same_rising [] [] r s h = refl
same_rising [] (y ∷ ys) r s h = absurd (false≢true (h y ∙ has_itself y ys))
same_rising (x ∷ xs) [] r s h = absurd (false≢true (sym (h x) ∙ has_itself x xs))
same_rising (x ∷ xs) (y ∷ ys) r s h =
    let first : x ≡ y = omega (arith, not_below x y xs ys s.0 (h x), not_below y x ys xs r.0 (sym (h y))) in
    let other = subst (λ n. AllAbove n ys) (sym first) s.0 in
    let members = subst (λ n. SameMembers (x ∷ xs) (n ∷ ys)) (sym first) h in
    both_same x y xs ys first (same_rising xs ys r.1 s.1 (tails_same x xs ys r.0 other members))

-- a list that is sorted and whose repeats are left out

has-dedup_from : (q k : ℕ) (xs : List ℕ) → has q (dedup_from (λ a b. a == b) k xs) ≡ has q (k ∷ xs)
has-dedup_from q k [] = refl
has-dedup_from q k (x ∷ xs) = grind (arith, nat_tests, has-dedup_from q k xs, has-dedup_from q x xs)

has-dedup : (q : ℕ) (xs : List ℕ) → has q (dedup (λ a b. a == b) xs) ≡ has q xs
has-dedup q [] = refl
has-dedup q (x ∷ xs) = has-dedup_from q x xs

rises_from : (xs : List ℕ) → IsStrictlyIncreasing xs → Rises xs
rises_from [] h = tt
rises_from (x ∷ []) h = (tt, tt)
rises_from (x ∷ y ∷ xs) h =
    let first : x < y = h 0 (omega arith) in
    let rest = rises_from (y ∷ xs) (λ k within. let e : suc k + 1 ≡ suc (k + 1) = omega arith in subst (λ n. get_or (y ∷ xs) k 0 < get_or (x ∷ y ∷ xs) n 0) e (h (suc k) (omega (arith, within)))) in
    ((first, all_above x y xs first rest.0), rest)

pub in_order_from : (ns sorted : List ℕ) → IsPermutation ns sorted → IsSorted nat_cmp sorted → dedup (λ a b. a == b) sorted ≡ in_order ns
in_order_from ns sorted moved h =
    same_rising (dedup (λ a b. a == b) sorted) (in_order ns) (rises_from _ (IsStrictlyIncreasing-dedup sorted h)) (rises-in_order ns)
    (λ q. has-dedup q sorted ∙ sym (list_any-IsPermutation (λ n. q == n) ns sorted moved) ∙ sym (has-in_order q ns))

-- each member stands at its index

has_index : (q : ℕ) (ns : List ℕ) → has q ns ≡ true → index_of q ns < length ns
has_index q [] h = absurd (false≢true h)
has_index q (n ∷ ns) h = by (q == n) (has_index q ns) h
  where
    by : (t : Bool) → (has q ns ≡ true → index_of q ns < length ns) → t || has q ns ≡ true → (if t then 0 else 1 + index_of q ns) < length (n ∷ ns)
    by true rest h = omega arith
    by false rest h = omega (arith, rest h)

all_have : (ns all : List ℕ) → ((q : ℕ) → has q ns ≡ true → has q all ≡ true) → Every (λ q. index_of q all < length all) ns
all_have [] all h = tt
all_have (n ∷ ns) all h = (has_index n all (h n (has_itself n ns)), all_have ns all (λ q m. h q (grind (arith, nat_tests))))

pub all_listed : (ns : List ℕ) → Every (λ q. index_of q (in_order ns) < length (in_order ns)) ns
all_listed ns = all_have ns (in_order ns) (λ q h. has-in_order q ns ∙ h)

-- a number has its index in a list
abbrev Listed : List ℕ → ℕ → Type 0
Listed all q = index_of q all < length all

-- those below a bound
pub below_listed : (bound : ℕ) (ns all : List ℕ) → Every (λ q. index_of q all < length all) (all_below bound ns) → Every (λ q. q < bound → index_of q all < length all) ns
below_listed bound [] all h = tt
below_listed bound (n ∷ ns) all h = by (nat_lt n bound) refl (below_listed bound ns all) h
  where
    by : (t : Bool) → nat_lt n bound ≡ t → (Every (Listed all) (all_below bound ns) → Every (λ q. q < bound → Listed all q) ns)
        → Every (Listed all) ((if t then n ∷ [] else []) ++ all_below bound ns) → Every (λ q. q < bound → Listed all q) (n ∷ ns)
    by true e rest g = ((λ less. g.0), rest g.1)
    by false e rest g = ((λ less. absurd (grind (arith, nat_tests))), rest g)
