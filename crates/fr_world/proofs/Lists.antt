-- Lists whose items differ, and the item behind one.
use Rattle.std.proofs.Common.{◌≡◌, ◌≢◌, ℕ, zero, suc, List, [], ◌∷◌, ◌++◌, Some, Bool, true, false, not, ◌&&◌, cond, nat_eq, slice_get, refl, sym, ap, ◌∙◌, subst}
use Rattle.fr_links.specs.Lists.{has_item}
use Rattle.fr_links.proofs.Has.{eq_apart, cons_absent, eq_is, eq_self, here, or_none, there, true_false}
use Rattle.fr_world.specs.World.{are_different, next_in}
use Rattle.fr_world.proofs.Whole.{in_neither}

pub and_first : (a b : Bool) → (a && b) ≡ true → a ≡ true
and_first true b e = refl
and_first false b e = cc

pub and_second : (a b : Bool) → (a && b) ≡ true → b ≡ true
and_second true b e = e
and_second false b e = cc

and_both : (a b : Bool) → a ≡ true → b ≡ true → (a && b) ≡ true
and_both true b e f = f
and_both false b e f = cc

not_true : (a : Bool) → not a ≡ true → a ≡ false
not_true false e = refl
not_true true e = cc

-- one more item that isn't in a list
pub different_more : (xs : List ℕ) (m : ℕ) → are_different xs ≡ true → has_item xs m ≡ false → are_different (xs ++ m ∷ []) ≡ true
different_more [] m e f = refl
different_more (x ∷ xs) m e f =
    let apart = or_none (nat_eq x m) (has_item xs m) f in
    let ne : m ≢ x = λ same. true_false (nat_eq x m) (ap (nat_eq x) same ∙ eq_self x) apart.0 in
    and_both (not (has_item (xs ++ m ∷ []) x)) (are_different (xs ++ m ∷ []))
    (ap not (in_neither xs (m ∷ []) x (not_true (has_item xs x) (and_first (not (has_item xs x)) (are_different xs) e)) (cons_absent m [] x ne refl)))
    (different_more xs m (and_second (not (has_item xs x)) (are_different xs) e) apart.1)

-- an item that was found stands in the list
pub found_has : (xs : List ℕ) (place m : ℕ) → slice_get xs place ≡ Some m → has_item xs m ≡ true
found_has [] place m e = cc
found_has (x ∷ xs) zero m e = let same : x ≡ m = cc in subst (λ (k : ℕ). has_item (x ∷ xs) k ≡ true) same (here x xs)
found_has (x ∷ xs) (suc place) m e = there x m xs (found_has xs place m e)

cond_true : (b : Bool) (y z : ℕ) → b ≡ true → cond b y z ≡ y
cond_true true y z e = refl
cond_true false y z e = cc

cond_false : (b : Bool) (y z : ℕ) → b ≡ false → cond b y z ≡ z
cond_false false y z e = refl
cond_false true y z e = cc

-- the item behind one is the next
pub next_is : (o : ℕ) (xs : List ℕ) (m u place : ℕ) → are_different xs ≡ true → slice_get xs place ≡ Some m → slice_get xs (suc place) ≡ Some u → next_in o xs m ≡ u
next_is o [] m u place d e f = cc
next_is o (x ∷ []) m u place d e f = cc
next_is o (x ∷ y ∷ xs) m u zero d e f =
    let same : x ≡ m = cc in
    let next : y ≡ u = cc in
    cond_true (nat_eq x m) y (next_in o (y ∷ xs) m) (ap (nat_eq x) (sym same) ∙ eq_self x) ∙ next
next_is o (x ∷ y ∷ xs) m u (suc place) d e f =
    let absent = not_true (has_item (y ∷ xs) x) (and_first (not (has_item (y ∷ xs) x)) (are_different (y ∷ xs)) d) in
    let ne : x ≢ m = λ same. true_false (has_item (y ∷ xs) x) (subst (λ (k : ℕ). has_item (y ∷ xs) k ≡ true) (sym same) (found_has (y ∷ xs) place m e)) absent in
    cond_false (nat_eq x m) y (next_in o (y ∷ xs) m) (eq_apart x m ne)
    ∙ next_is o (y ∷ xs) m u place (and_second (not (has_item (y ∷ xs) x)) (are_different (y ∷ xs)) d) e f

-- an item and the one behind it
pub record Next (xs : List ℕ) (m u : ℕ) : Type 0 where
  pub place : ℕ
  pub stands : slice_get xs place ≡ Some m
  pub next : slice_get xs (suc place) ≡ Some u

-- a next item that isn't the other number stands behind the item
pub next_found : (o : ℕ) (xs : List ℕ) (m : ℕ) → next_in o xs m ≢ o → Next xs m (next_in o xs m)
next_found o [] m ne = absurd (ne refl)
next_found o (x ∷ []) m ne = absurd (ne refl)
next_found o (x ∷ y ∷ xs) m ne = by (nat_eq x m) refl (next_found o (y ∷ xs) m)
  where
    by : (b : Bool) → nat_eq x m ≡ b → (next_in o (y ∷ xs) m ≢ o → Next (y ∷ xs) m (next_in o (y ∷ xs) m)) → Next (x ∷ y ∷ xs) m (next_in o (x ∷ y ∷ xs) m)
    by true e go = record {
      place = 0;
      stands = ap Some (eq_is x m e);
      next = ap Some (sym (cond_true (nat_eq x m) y (next_in o (y ∷ xs) m) e));
    }
    by false e go =
        let same = cond_false (nat_eq x m) y (next_in o (y ∷ xs) m) e in
        let n = go (λ is. ne (same ∙ is)) in
        record { place = suc n.place; stands = n.stands; next = n.next ∙ ap Some (sym same) }

-- the item behind the last but one
pub next_last : (o : ℕ) (xs : List ℕ) (w r : ℕ) → has_item xs w ≡ false → next_in o (xs ++ w ∷ r ∷ []) w ≡ r
next_last o [] w r f = cond_true (nat_eq w w) r o (eq_self w)
next_last o (x ∷ []) w r f = cond_false (nat_eq x w) w (next_in o (w ∷ r ∷ []) w) (or_none (nat_eq x w) false f).0 ∙ next_last o [] w r refl
next_last o (x ∷ y ∷ xs) w r f =
    let apart = or_none (nat_eq x w) (has_item (y ∷ xs) w) f in
    cond_false (nat_eq x w) y (next_in o ((y ∷ xs) ++ w ∷ r ∷ []) w) apart.0 ∙ next_last o (y ∷ xs) w r apart.1
