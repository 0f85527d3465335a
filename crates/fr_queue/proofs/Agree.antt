-- A set of heights with nodes and a map of heights that agree.
use Rattle.std.proofs.Common.{◌≡◌, ◌≢◌, ℕ, ◌≤◌, ◌<◌, ◌⊎◌, inl, inr, Option, Some, None, Bool, true, false, cond, List, [], ◌∷◌, length, ◌&&◌, nat_eq, refl, sym, ap, ◌∙◌, subst, arith}
use Rattle.std.specs.Ordering.{nat_cmp, ordering_then, is_eq, is_gt}
use Rattle.std.specs.List.{list_any}
use Rattle.std.specs.BTreeMap as map
use Rattle.std.specs.BTreeMap.{BTreeMap}
use Rattle.std.specs.BTreeSet as set
use Rattle.std.specs.BTreeSet.{BTreeSet}
use Rattle.fr_queue.specs.Pairs.{by_height}
use Rattle.fr_queue.specs.Queue.{is_height, Sets, Takes, Queued}
use Rattle.std.proofs.lemmas.Grind.{common_steps}

pub at_number : (a b : ℕ) → is_eq (nat_cmp a b) ≡ nat_eq a b
at_number a b = grind (arith, common_steps)

pub at_pair : (a b c d : ℕ) → is_eq (ordering_then (nat_cmp a c) (nat_cmp b d)) ≡ (nat_eq a c && nat_eq b d)
at_pair a b c d = grind (arith, common_steps)

pub least_pair : (a b c d : ℕ) → is_gt (ordering_then (nat_cmp a c) (nat_cmp b d)) ≡ false → a ≤ c
least_pair a b c d h = grind (arith, common_steps)

by_number : (i j : ℕ) → (i ≡ j) ⊎ (i ≢ j)
by_number i j = grind arith

eq_self : (n : ℕ) → nat_eq n n ≡ true
eq_self n = grind arith

eq_apart : (i j : ℕ) → (i ≡ j → ⊥) → nat_eq i j ≡ false
eq_apart i j ne = grind arith

and_false : (a : Bool) → (a && false) ≡ false
and_false true = refl
and_false false = refl

and_true : (a : Bool) → (a && true) ≡ a
and_true true = refl
and_true false = refl

cond_same : (a : Bool) → cond a true false ≡ a
cond_same true = refl
cond_same false = refl

cond_none : (a : Bool) → cond a false false ≡ false
cond_none true = refl
cond_none false = refl

drop_self : (a : Bool) → cond a false a ≡ false
drop_self true = refl
drop_self false = refl

eq_is : (i j : ℕ) → nat_eq i j ≡ true → i ≡ j
eq_is i j e = grind arith

none_at : (o : Option ℕ) → ((k : ℕ) → is_height o k ≡ false) → o ≡ None
none_at None h = refl
none_at (Some x) h = let a : nat_eq x x ≡ false = h x in let b : nat_eq x x ≡ true = eq_self x in cc

moved : (h g k : ℕ) → (h ≡ g → ⊥) → cond (nat_eq h k) false (cond (nat_eq g k) true (nat_eq h k)) ≡ nat_eq g k
moved h g k ne = elim (by_number h k) [
  | inl e ↦
      let a : nat_eq h k ≡ true = ap (nat_eq h) (sym e) ∙ eq_self h in
      let b : nat_eq g k ≡ false = eq_apart g k (λ (x : g ≡ k). ne (e ∙ sym x)) in
      ap (λ (c : Bool). cond c false (cond (nat_eq g k) true c)) a ∙ sym b
  | inr na ↦
      let a : nat_eq h k ≡ false = eq_apart h k na in
      ap (λ (c : Bool). cond c false (cond (nat_eq g k) true c)) a ∙ cond_same (nat_eq g k)
]

-- which pairs are in a set
abbrev pub Pairs : Type 0
Pairs = ℕ × ℕ → Bool

abbrev pub pairs_in : BTreeSet (ℕ × ℕ) → Pairs
pairs_in s = set.contains by_height s

-- the heights in a map
abbrev pub heights_of : BTreeMap ℕ ℕ → ℕ → Option ℕ
heights_of m = map.get nat_cmp m

abbrev pub at_key : ℕ → ℕ → ℕ × ℕ → Bool
at_key h n q = is_eq (ordering_then (nat_cmp h q.0) (nat_cmp n q.1))

-- how the pair compares
pair_same : (h n k : ℕ) → at_key h n (k, n) ≡ nat_eq h k
pair_same h n k = at_pair h n k n ∙ ap (λ (b : Bool). nat_eq h k && b) (eq_self n) ∙ and_true (nat_eq h k)

pair_apart : (h n k i : ℕ) → (n ≡ i → ⊥) → at_key h n (k, i) ≡ false
pair_apart h n k i ne = at_pair h n k i ∙ ap (λ (b : Bool). nat_eq h k && b) (eq_apart n i ne) ∙ and_false (nat_eq h k)

module _ (s t : Pairs) (m w : ℕ → Option ℕ) (n h : ℕ) where
  pub agree_add : ((i k : ℕ) → s (k, i) ≡ is_height (m i) k) → m n ≡ None
      → ((q : ℕ × ℕ) → t q ≡ cond (at_key h n q) true (s q)) → ((i : ℕ) → w i ≡ cond (is_eq (nat_cmp n i)) (Some h) (m i))
      → (i k : ℕ) → t (k, i) ≡ is_height (w i) k
  agree_add agree out set map i k = elim (by_number n i) [
    | inl e ↦
        let s0 : s (k, n) ≡ false = agree n k ∙ ap (λ (o : Option ℕ). is_height o k) out in
        let t0 : t (k, n) ≡ nat_eq h k = set (k, n) ∙ ap (λ (b : Bool). cond (at_key h n (k, n)) true b) s0 ∙ cond_same (at_key h n (k, n)) ∙ pair_same h n k in
        let w0 : w n ≡ Some h = map n ∙ ap (λ (b : Bool). cond b (Some h) (m n)) (at_number n n ∙ eq_self n) in
        subst (λ (j : ℕ). t (k, j) ≡ is_height (w j) k) e (t0 ∙ sym (ap (λ (o : Option ℕ). is_height o k) w0))
    | inr ne ↦
        set (k, i) ∙ ap (λ (b : Bool). cond b true (s (k, i))) (pair_apart h n k i ne) ∙ agree i k
        ∙ sym (ap (λ (o : Option ℕ). is_height o k) (map i ∙ ap (λ (b : Bool). cond b (Some h) (m i)) (at_number n i ∙ eq_apart n i ne)))
  ]

  -- the pair and the entry of a node are taken out
  pub agree_drop : ((i k : ℕ) → s (k, i) ≡ is_height (m i) k) → m n ≡ Some h
      → ((q : ℕ × ℕ) → t q ≡ cond (at_key h n q) false (s q)) → ((i : ℕ) → w i ≡ cond (is_eq (nat_cmp n i)) None (m i))
      → (i k : ℕ) → t (k, i) ≡ is_height (w i) k
  agree_drop agree at set map i k = elim (by_number n i) [
    | inl e ↦
        let s0 : s (k, n) ≡ nat_eq h k = agree n k ∙ ap (λ (o : Option ℕ). is_height o k) at in
        let t0 : t (k, n) ≡ cond (nat_eq h k) false (nat_eq h k) = set (k, n) ∙ ap (λ (b : Bool). cond b false (s (k, n))) (pair_same h n k)
        ∙ ap (λ (b : Bool). cond (nat_eq h k) false b) s0 in
        let w0 : w n ≡ None = map n ∙ ap (λ (b : Bool). cond b None (m n)) (at_number n n ∙ eq_self n) in
        subst (λ (j : ℕ). t (k, j) ≡ is_height (w j) k) e (t0 ∙ drop_self (nat_eq h k) ∙ sym (ap (λ (o : Option ℕ). is_height o k) w0))
    | inr ne ↦
        set (k, i) ∙ ap (λ (b : Bool). cond b false (s (k, i))) (pair_apart h n k i ne) ∙ agree i k
        ∙ sym (ap (λ (o : Option ℕ). is_height o k) (map i ∙ ap (λ (b : Bool). cond b None (m i)) (at_number n i ∙ eq_apart n i ne)))
  ]

  -- an insertion that is undone
  pub agree_undo : (u : Pairs) → ((i k : ℕ) → s (k, i) ≡ is_height (m i) k) → m n ≡ None
      → ((q : ℕ × ℕ) → t q ≡ cond (at_key h n q) true (s q)) → ((q : ℕ × ℕ) → u q ≡ cond (at_key h n q) false (t q)) → ((i : ℕ) → w i ≡ m i)
      → (i k : ℕ) → u (k, i) ≡ is_height (w i) k
  agree_undo u agree out set back map i k = elim (by_number n i) [
    | inl e ↦
        let s0 : s (k, n) ≡ false = agree n k ∙ ap (λ (o : Option ℕ). is_height o k) out in
        let t0 : t (k, n) ≡ nat_eq h k = set (k, n) ∙ ap (λ (b : Bool). cond (at_key h n (k, n)) true b) s0 ∙ cond_same (at_key h n (k, n)) ∙ pair_same h n k in
        let u0 : u (k, n) ≡ cond (nat_eq h k) false (nat_eq h k) = back (k, n) ∙ ap (λ (b : Bool). cond b false (t (k, n))) (pair_same h n k)
        ∙ ap (λ (b : Bool). cond (nat_eq h k) false b) t0 in
        subst (λ (j : ℕ). u (k, j) ≡ is_height (w j) k) e (u0 ∙ drop_self (nat_eq h k) ∙ sym (ap (λ (o : Option ℕ). is_height o k) (map n ∙ out)))
    | inr ne ↦
        back (k, i) ∙ ap (λ (b : Bool). cond b false (t (k, i))) (pair_apart h n k i ne)
        ∙ set (k, i) ∙ ap (λ (b : Bool). cond b true (s (k, i))) (pair_apart h n k i ne) ∙ agree i k
        ∙ sym (ap (λ (o : Option ℕ). is_height o k) (map i))
  ]

-- from the old height to another
pub agree_raise : (s t u : Pairs) (m w : ℕ → Option ℕ) (n h g : ℕ) → ((i k : ℕ) → s (k, i) ≡ is_height (m i) k) → m n ≡ Some h
    → ((q : ℕ × ℕ) → t q ≡ cond (at_key g n q) true (s q)) → ((q : ℕ × ℕ) → u q ≡ cond (at_key h n q) false (t q))
    → ((i : ℕ) → w i ≡ cond (is_eq (nat_cmp n i)) (Some g) (m i)) → (h ≡ g → ⊥)
    → (i k : ℕ) → u (k, i) ≡ is_height (w i) k
agree_raise s t u m w n h g agree at set back map ne i k = elim (by_number n i) [
  | inl e ↦
      let s0 : s (k, n) ≡ nat_eq h k = agree n k ∙ ap (λ (o : Option ℕ). is_height o k) at in
      let t0 : t (k, n) ≡ cond (nat_eq g k) true (nat_eq h k) = set (k, n) ∙ ap (λ (b : Bool). cond b true (s (k, n))) (pair_same g n k)
      ∙ ap (λ (b : Bool). cond (nat_eq g k) true b) s0 in
      let u0 : u (k, n) ≡ cond (nat_eq h k) false (cond (nat_eq g k) true (nat_eq h k)) = back (k, n)
      ∙ ap (λ (b : Bool). cond b false (t (k, n))) (pair_same h n k) ∙ ap (λ (b : Bool). cond (nat_eq h k) false b) t0 in
      let w0 : w n ≡ Some g = map n ∙ ap (λ (b : Bool). cond b (Some g) (m n)) (at_number n n ∙ eq_self n) in
      subst (λ (j : ℕ). u (k, j) ≡ is_height (w j) k) e (u0 ∙ moved h g k ne ∙ sym (ap (λ (o : Option ℕ). is_height o k) w0))
  | inr na ↦
      back (k, i) ∙ ap (λ (b : Bool). cond b false (t (k, i))) (pair_apart h n k i na)
      ∙ set (k, i) ∙ ap (λ (b : Bool). cond b true (s (k, i))) (pair_apart g n k i na) ∙ agree i k
      ∙ sym (ap (λ (o : Option ℕ). is_height o k) (map i ∙ ap (λ (b : Bool). cond b (Some g) (m i)) (at_number n i ∙ eq_apart n i na)))
]

-- what was taken is of least height
height_in : (o : Option ℕ) (k : ℕ) → is_height o k ≡ true → o ≡ Some k
height_in None k e = cc
height_in (Some h) k e = ap (λ (x : ℕ). Some x) (eq_is h k e)

pub taken_at : (s : Pairs) (m : ℕ → Option ℕ) (n h : ℕ) → ((i k : ℕ) → s (k, i) ≡ is_height (m i) k) → s (h, n) ≡ true → m n ≡ Some h
taken_at s m n h agree e = height_in (m n) h (sym (agree n h) ∙ e)

pub takes : (s : Pairs) (m w : ℕ → Option ℕ) (n h : ℕ) → ((i k : ℕ) → s (k, i) ≡ is_height (m i) k) → s (h, n) ≡ true
    → ((q : ℕ × ℕ) → s q ≡ true → is_gt (ordering_then (nat_cmp h q.0) (nat_cmp n q.1)) ≡ false)
    → ((i : ℕ) → w i ≡ cond (is_eq (nat_cmp n i)) None (m i)) → Takes m w n
takes s m w n h agree e least map = record {
  height = h;
  was = taken_at s m n h agree e;
  least = λ i k at. least_pair h n k i (least (k, i) (agree i k ∙ ap (λ (o : Option ℕ). is_height o k) at ∙ eq_self k));
  sets = record {
    here = map n ∙ ap (λ (b : Bool). cond b None (m n)) (at_number n n ∙ eq_self n);
    other = λ i ne. map i ∙ ap (λ (b : Bool). cond b None (m i)) (at_number n i ∙ eq_apart n i (λ (x : n ≡ i). ne (sym x)));
  };
}

pub nothing_left : (s : Pairs) (m : ℕ → Option ℕ) → ((i k : ℕ) → s (k, i) ≡ is_height (m i) k) → ((q : ℕ × ℕ) → s q ≡ false) → (i : ℕ) → m i ≡ None
nothing_left s m agree gone i = none_at (m i) (λ k. sym (agree i k) ∙ gone (k, i))

pub no_keys : (keys : List (ℕ × ℕ)) (p : ℕ × ℕ → Bool) → (0 < length keys → ⊥) → list_any p keys ≡ false
no_keys [] p h = refl
no_keys (k ∷ ks) p h = absurd (h (omega arith))
