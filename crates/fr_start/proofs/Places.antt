-- The places of numbers in a list: each node comes behind those of its list that it reads or holds.
use Rattle.std.proofs.Common.{◌≡◌, ◌≢◌, ◌⊎◌, inl, inr, ℕ, suc, ◌<◌, Bool, true, false, if◌then◌else◌, nat_eq, List, [], ◌∷◌, refl, ap, sym, ◌∙◌, subst, arith}
use Rattle.fr_links.specs.Lists.{has_item}
use Rattle.fr_links.proofs.Has.{by_truth, true_false, eq_self, eq_apart, differ, here, there}
use Rattle.fr_graph.specs.Graph.{Graph}
use Rattle.fr_graph.specs.Known.{Reads}
use Rattle.fr_way.specs.Frame.{Holds, is_source}
use Rattle.fr_build.specs.Builds.{InReach, NamesBefore, InTurn, IsOnce, Precedes}
use Rattle.fr_build.proofs.Cases.{no_item}
use Rattle.fr_build.proofs.Lists.{first_or_rest, only_item, precedes_second}

-- the place of a number in a list, from 1 on, and 0 where it doesn't stand there
abbrev pub place_in : List ℕ → ℕ → ℕ
place_in [] m = 0
place_in (k ∷ ms) m = if nat_eq k m then 1 else (if has_item ms m then suc (place_in ms m) else 0)

place_first : (k m : ℕ) (ms : List ℕ) → k ≡ m → place_in (k ∷ ms) m ≡ 1
place_first k m ms e = ap (λ (b : Bool). if b then 1 else (if has_item ms m then suc (place_in ms m) else 0)) (ap (nat_eq k) (sym e) ∙ eq_self k)

place_behind : (k m : ℕ) (ms : List ℕ) → k ≢ m → has_item ms m ≡ true → place_in (k ∷ ms) m ≡ suc (place_in ms m)
place_behind k m ms ne h =
    ap (λ (b : Bool). if b then 1 else (if has_item ms m then suc (place_in ms m) else 0)) (eq_apart k m ne)
    ∙ ap (λ (b : Bool). if b then suc (place_in ms m) else 0) h

pub place_nowhere : (ms : List ℕ) (m : ℕ) → has_item ms m ≡ false → place_in ms m ≡ 0
place_nowhere [] m off = refl
place_nowhere (k ∷ ms) m off =
    let ne : k ≢ m = λ e. differ (k ∷ ms) k m (here k ms) off e in
    let out : has_item ms m ≡ false = elim (by_truth (has_item ms m)) [ inl t ↦ true_false (has_item (k ∷ ms) m) (there k m ms t) off | inr f ↦ f ] in
    ap (λ (b : Bool). if b then 1 else (if has_item ms m then suc (place_in ms m) else 0)) (eq_apart k m ne)
    ∙ ap (λ (b : Bool). if b then suc (place_in ms m) else 0) out

pub place_there : (ms : List ℕ) (m : ℕ) → has_item ms m ≡ true → 0 < place_in ms m
place_there [] m h = no_item m h
place_there (k ∷ ms) m h = elim (first_or_rest k m ms h) [
  | inl l ↦ let z = place_first k m ms (only_item k m l) in omega arith
  | inr r ↦ elim (by_truth (nat_eq k m)) [
    | inl t ↦ let z : place_in (k ∷ ms) m ≡ 1 = ap (λ (b : Bool). if b then 1 else (if has_item ms m then suc (place_in ms m) else 0)) t in omega arith
    | inr f ↦
        let z : place_in (k ∷ ms) m ≡ suc (place_in ms m)
        = ap (λ (b : Bool). if b then 1 else (if has_item ms m then suc (place_in ms m) else 0)) f ∙ ap (λ (b : Bool). if b then suc (place_in ms m) else 0) r in
        omega arith
  ]
]

pub precedes_first : (ms : List ℕ) (i j : ℕ) → Precedes ms i j → has_item ms i ≡ true
precedes_first [] i j p = absurd p
precedes_first (k ∷ ms) i j p = elim p [
  | inl h ↦ subst (λ (l : ℕ). has_item (k ∷ ms) l ≡ true) h.0 (here k ms)
  | inr q ↦ there k i ms (precedes_first ms i j q)
]

-- what precedes another has a place before it
pub place_precedes : (ms : List ℕ) (i j : ℕ) → IsOnce ms → Precedes ms i j → place_in ms i < place_in ms j
place_precedes [] i j once p = absurd p
place_precedes (k ∷ ms) i j once p = elim p [
  | inl h ↦
      let near = place_first k i ms h.0 in
      let far = place_behind k j ms (λ e. differ ms j k h.1 once.0 (sym e)) h.1 in
      let some = place_there ms j h.1 in
      omega arith
  | inr q ↦
      let first = precedes_first ms i j q in
      let second = precedes_second ms i j q in
      let a = place_behind k i ms (λ e. differ ms i k first once.0 (sym e)) first in
      let b = place_behind k j ms (λ e. differ ms j k second once.0 (sym e)) second in
      let less = place_precedes ms i j once.1 q in
      omega arith
]

-- a node reads or holds another
abbrev pub StandsOn : Graph → ℕ → ℕ → Type 0
StandsOn g m j = Reads j (g.inputs m) ⊎ Holds j (g.kind m)

-- a node is that of a source
abbrev pub IsFromSource : Graph → ℕ → Type 0
IsFromSource g j = (g.live j ≡ true) × (is_source (g.kind j) ≡ true)

-- what is in reach where no variable is in scope
pub reach_case : (g : Graph) (bs : List ℕ) (j : ℕ) → InReach g [] bs j → IsFromSource g j ⊎ (has_item bs j ≡ true)
reach_case g bs j r = elim r [
  | inl given ↦ elim given [ inl none ↦ absurd none | inr s ↦ inl s ]
  | inr h ↦ inr h
]

pub named_reach : (g : Graph) (bs : List ℕ) (m j : ℕ) → NamesBefore g [] bs m → StandsOn g m j → IsFromSource g j ⊎ (has_item bs j ≡ true)
named_reach g bs m j names on = elim on [
  | inl r ↦ reach_case g bs j (names.inputs j r)
  | inr h ↦ reach_case g bs j (names.held j h)
]

-- what a node of a list reads or holds is a source's, stood there before the list, or precedes it in the list
pub turn_precedes : (g : Graph) (ms bs : List ℕ) (m j : ℕ) → InTurn g [] bs ms → has_item ms m ≡ true → StandsOn g m j → IsFromSource g j ⊎ ((has_item bs j ≡ true) ⊎ Precedes ms j m)
turn_precedes g [] bs m j t h on = no_item m h
turn_precedes g (k ∷ ms) bs m j t h on = elim (first_or_rest k m ms h) [
  | inl l ↦ elim (named_reach g bs m j (subst (NamesBefore g [] bs) (only_item k m l) t.0) on) [ inl s ↦ inl s | inr o ↦ inr (inl o) ]
  | inr r ↦ elim (turn_precedes g ms (k ∷ bs) m j t.1 r on) [
    | inl s ↦ inl s
    | inr more ↦ elim more [
      | inl o ↦ elim (first_or_rest k j bs o) [
        | inl f ↦ inr (inr (inl (only_item k j f, r)))
        | inr s ↦ inr (inl s)
      ]
      | inr p ↦ inr (inr (inr p))
    ]
  ]
]
