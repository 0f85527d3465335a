-- The order of ends, and places that stand apart.
use Rattle.std.proofs.Common.{◌≡◌, ◌<◌, ◌⊎◌, ℕ, List, [], ◌∷◌, ◌++◌, refl, sym, ap, ◌∙◌, inl, inr, arith, subst}
use Rattle.std.proofs.lemmas.Bool.{cases_order}
use Rattle.std.proofs.lemmas.List.{append_assoc, append-nil}
use Rattle.fr_meaning.specs.Order.{EndsBefore, IsWithin, IsReady}

-- a place is never before itself
pub never_itself : (p : List ℕ) → EndsBefore p p → ⊥
never_itself [] h = h
never_itself (i ∷ p) (inl l) = omega (arith, l)
never_itself (i ∷ p) (inr r) = never_itself p r.1

pub transitive : (p q r : List ℕ) → EndsBefore p q → EndsBefore q r → EndsBefore p r
transitive [] q r h g = absurd h
transitive (i ∷ p) [] r h g = absurd g
transitive (i ∷ p) (j ∷ q) [] h g = tt
transitive (i ∷ p) (j ∷ q) (k ∷ r) (inl l) (inl m) = inl (omega (arith, l, m))
transitive (i ∷ p) (j ∷ q) (k ∷ r) (inl l) (inr m) = let e : j ≡ k = m.0 in inl (omega (arith, l, e))
transitive (i ∷ p) (j ∷ q) (k ∷ r) (inr l) (inl m) = let e : i ≡ j = l.0 in inl (omega (arith, e, m))
transitive (i ∷ p) (j ∷ q) (k ∷ r) (inr l) (inr m) = inr (l.0 ∙ m.0, transitive p q r l.1 m.1)

same_part : (i j : ℕ) (p q : List ℕ) → i ≡ j → (p ≡ q) ⊎ EndsBefore p q ⊎ EndsBefore q p → (i ∷ p ≡ j ∷ q) ⊎ EndsBefore (i ∷ p) (j ∷ q) ⊎ EndsBefore (j ∷ q) (i ∷ p)
same_part i j p q e (inl same) = inl (ap (λ k. k ∷ p) e ∙ ap (λ r. j ∷ r) same)
same_part i j p q e (inr (inl before)) = inr (inl (inr (e, before)))
same_part i j p q e (inr (inr behind)) = inr (inr (inr (sym e, behind)))

-- of two places one ends before the other
pub total_order : (p q : List ℕ) → (p ≡ q) ⊎ EndsBefore p q ⊎ EndsBefore q p
total_order [] [] = inl refl
total_order [] (j ∷ q) = inr (inr tt)
total_order (i ∷ p) [] = inr (inl tt)
total_order (i ∷ p) (j ∷ q) = elim (cases_order i j) [
  | inl e ↦ same_part i j p q e (total_order p q)
  | inr (inl l) ↦ inr (inl (inl l))
  | inr (inr g) ↦ inr (inr (inl g))
]

-- a part, and all inside it, ends before the whole
pub part_before : (p : List ℕ) (i : ℕ) (q : List ℕ) → EndsBefore (p ++ i ∷ q) p
part_before [] i q = tt
part_before (a ∷ p) i q = inr (refl, part_before p i q)

pub ready_before : (at p : List ℕ) → IsReady at p → EndsBefore p at
ready_before at p h = subst (λ q. EndsBefore p q) (append-nil at) (h [])

pub ready_inside : (at more p : List ℕ) → IsReady at p → IsReady (at ++ more) p
ready_inside at more p h = λ inside. subst (λ q. EndsBefore p q) (sym (append_assoc at more inside)) (h (more ++ inside))

-- a place, with all inside it, ends before another with all inside that
abbrev pub IsLeftOf : List ℕ → List ℕ → Type 0
IsLeftOf [] q = ⊥
IsLeftOf (i ∷ p) [] = ⊥
IsLeftOf (i ∷ p) (j ∷ q) = (i < j) ⊎ ((i ≡ j) × IsLeftOf p q)

pub left_under : (at p q : List ℕ) → IsLeftOf p q → IsLeftOf (at ++ p) (at ++ q)
left_under [] p q h = h
left_under (i ∷ at) p q h = inr (refl, left_under at p q h)

pub left_inside : (p q a b : List ℕ) → IsLeftOf p q → IsLeftOf (p ++ a) (q ++ b)
left_inside [] q a b h = absurd h
left_inside (i ∷ p) [] a b h = absurd h
left_inside (i ∷ p) (j ∷ q) a b (inl l) = inl l
left_inside (i ∷ p) (j ∷ q) a b (inr r) = inr (r.0, left_inside p q a b r.1)

-- the same for places within both
pub left_within : (p q x y : List ℕ) → IsLeftOf p q → IsWithin p x → IsWithin q y → IsLeftOf x y
left_within p q x y h a b = rw (a.1, b.1) (left_inside p q a.0 b.0 h)

pub left_before : (p q : List ℕ) → IsLeftOf p q → EndsBefore p q
left_before [] q h = absurd h
left_before (i ∷ p) [] h = absurd h
left_before (i ∷ p) (j ∷ q) (inl l) = inl l
left_before (i ∷ p) (j ∷ q) (inr r) = inr (r.0, left_before p q r.1)

pub left_ready : (p q : List ℕ) → IsLeftOf p q → IsReady q p
left_ready p q h = λ inside. left_before p (q ++ inside) (subst (λ x. IsLeftOf x (q ++ inside)) (append-nil p) (left_inside p q [] inside h))

never_left : (p : List ℕ) → IsLeftOf p p → ⊥
never_left p h = never_itself p (left_before p p h)

-- of places that stand apart neither is within the other
pub apart : (p q : List ℕ) → IsLeftOf p q → IsWithin p q → ⊥
apart p q h g = never_left q (left_within p q q q h g ([], sym (append-nil q)))

pub apart_back : (p q : List ℕ) → IsLeftOf p q → IsWithin q p → ⊥
apart_back p q h g = never_left p (left_within p q p p h ([], sym (append-nil p)) g)

pub within_itself : (p : List ℕ) → IsWithin p p
within_itself p = ([], sym (append-nil p))

pub within_further : (p q r : List ℕ) → IsWithin p q → IsWithin q r → IsWithin p r
within_further p q r a b = (a.0 ++ b.0, b.1 ∙ ap (λ x. x ++ b.0) a.1 ∙ append_assoc p a.0 b.0)

-- a whole isn't within its parts
pub whole_outside : (p : List ℕ) (i : ℕ) (q : List ℕ) → IsWithin (p ++ i ∷ q) p → ⊥
whole_outside p i q h = never_itself p (subst (λ x. EndsBefore x p) (sym (h.1 ∙ append_assoc p (i ∷ q) h.0)) (part_before p i (q ++ h.0)))
