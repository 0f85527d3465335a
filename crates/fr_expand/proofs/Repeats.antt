-- Names that were seen, and those that stand twice.
use Rattle.std.proofs.Common.{ℕ, zero, suc, ◌⊎◌, inl, inr, ◌≡◌, ◌<◌, ◌+◌, Bool, true, false, List, [], ◌∷◌, ◌++◌, take, drop, length, get_or, refl, sym, ap, ◌∙◌, subst, arith}
use Rattle.std.specs.Prelude.{◌||◌, not, cond}
use Rattle.std.specs.Borrow.{Bor}
use Rattle.std.specs.Str.{bytes_eq}
use Rattle.std.specs.Ordering.{nat_cmp}
use Rattle.std.specs.Cmp.Lexicographic.{slice_cmp}
use Rattle.std.specs.BTreeSet.{BTreeSet, contains, Updates}
use Rattle.std.proofs.lemmas.Map.Text.{is_eq-slice_cmp}
use Rattle.std.proofs.lemmas.Slice.Eq.{bytes_eq-Decides}
use Rattle.std.proofs.lemmas.List.{take_more}
use Rattle.std.proofs.lemmas.Cmp.{nat_list_eq_equiv}
use Rattle.fr_expand.specs.Faults.{is_among, any_twice}

-- the set has these names
abbrev pub Seen : List (List ℕ) → BTreeSet (Bor (List ℕ)) → Type 0
Seen ns s = (q : Bor (List ℕ)) → contains (λ x y. slice_cmp nat_cmp x.now y.now) s q ≡ is_among q.now ns

or_false : (a b : Bool) → (a || b) ≡ false → (a ≡ false) × (b ≡ false)
or_false true b h = cc
or_false false b h = (refl, h)

or_true : (a b : Bool) → (a || b) ≡ true → (a ≡ true) ⊎ (b ≡ true)
or_true true b h = inl refl
or_true false b h = inr h

second_true : (a b : Bool) → b ≡ true → (a || b) ≡ true
second_true true b h = refl
second_true false b h = h

among_more : (name : List ℕ) (ns : List (List ℕ)) (n : List ℕ) → is_among name (ns ++ n ∷ []) ≡ cond (bytes_eq n name) true (is_among name ns)
among_more name [] n = elim (bytes_eq n name) as (λ b. (b || false) ≡ cond b true false) [ true ↦ refl | false ↦ refl ]
among_more name (m ∷ ns) n = rw (among_more name ns n) (swap (bytes_eq m name) (bytes_eq n name) (is_among name ns))
  where
    swap : (a b c : Bool) → (a || cond b true c) ≡ cond b true (a || c)
    swap true true c = refl
    swap true false c = refl
    swap false b c = refl

seen_next : (ns : List (List ℕ)) (old new : BTreeSet (Bor (List ℕ))) (k : Bor (List ℕ)) → Seen ns old → Updates (λ x y. slice_cmp nat_cmp x.now y.now) old new k true → Seen (ns ++ k.now ∷ []) new
seen_next ns old new k h u q = u.0 q ∙ rw (is_eq-slice_cmp k.now q.now, among_more q.now ns k.now, h q) refl

same_bytes : (m n : List ℕ) → bytes_eq m n ≡ bytes_eq n m
same_bytes m n = nat_list_eq_equiv.symm m n

-- one more name that isn't among these
apart_more : (ns : List (List ℕ)) (n : List ℕ) → any_twice ns ≡ false → is_among n ns ≡ false → any_twice (ns ++ n ∷ []) ≡ false
apart_more [] n d a = refl
apart_more (m ∷ ns) n d a =
    let other = or_false (bytes_eq m n) (is_among n ns) a in
    let both = or_false (is_among m ns) (any_twice ns) d in
    rw (among_more m ns n, same_bytes n m, other.0, both.0) (apart_more ns n both.1 other.1)

stands_there : (n : List ℕ) (ns rest : List (List ℕ)) → is_among n (ns ++ n ∷ rest) ≡ true
stands_there n [] rest = rw (nat_list_eq_equiv.refl n) refl
stands_there n (m ∷ ns) rest = second_true (bytes_eq m n) (is_among n (ns ++ n ∷ rest)) (stands_there n ns rest)

-- a name that stands among those before it
twice_there : (ns : List (List ℕ)) (n : List ℕ) (rest : List (List ℕ)) → is_among n ns ≡ true → any_twice (ns ++ n ∷ rest) ≡ true
twice_there [] n rest a = cc
twice_there (m ∷ ns) n rest a =
    elim (or_true (bytes_eq m n) (is_among n ns) a) [
      | inl e ↦ let same : m ≡ n = (bytes_eq-Decides m n).0 e in rw (subst (λ x. is_among x (ns ++ n ∷ rest) ≡ true) (sym same) (stands_there n ns rest)) refl
      | inr e ↦ second_true (is_among m (ns ++ n ∷ rest)) (any_twice (ns ++ n ∷ rest)) (twice_there ns n rest e)
    ]

cut_at : (names : List (List ℕ)) (i : ℕ) (d : List ℕ) → i < length names → names ≡ take i names ++ get_or names i d ∷ drop (suc i) names
cut_at [] i d h = absurd (omega (arith, h))
cut_at (x ∷ xs) zero d h = refl
cut_at (x ∷ xs) (suc i) d h = ap (λ ns. x ∷ ns) (cut_at xs i d (omega (arith, h)))

not_false : (b c : Bool) → b ≡ not c → b ≡ false → c ≡ true
not_false b true h e = refl
not_false b false h e = cc

not_true : (b c : Bool) → b ≡ not c → b ≡ true → c ≡ false
not_true b true h e = cc
not_true b false h e = refl

-- the next name was in the set
pub twice : (names : List (List ℕ)) (i : ℕ) (name : List ℕ) (k : Bor (List ℕ)) (s : BTreeSet (Bor (List ℕ))) (new : Bool) → i < length names → name ≡ get_or names i name → k.now ≡ name
    → Seen (take i names) s → new ≡ not (contains (λ x y. slice_cmp nat_cmp x.now y.now) s k) → new ≡ false → any_twice names ≡ true
twice names i name k s new h is read seen told old =
    let among = sym (seen k) ∙ not_false new _ told old in
    let there : is_among name (take i names) ≡ true = rw read at among in
    let parts : names ≡ take i names ++ name ∷ drop (suc i) names = cut_at names i name h ∙ ap (λ n. take i names ++ n ∷ drop (suc i) names) (sym is) in
    ap any_twice parts ∙ twice_there (take i names) name (drop (suc i) names) there

one_more : (names : List (List ℕ)) (i : ℕ) (name : List ℕ) → i < length names → name ≡ get_or names i name → take (i + 1) names ≡ take i names ++ name ∷ []
one_more names i name h is = take_more names i name h ∙ ap (λ n. take i names ++ n ∷ []) (sym is)

-- the next name was not in the set
pub once : (names : List (List ℕ)) (i : ℕ) (name : List ℕ) (k : Bor (List ℕ)) (s : BTreeSet (Bor (List ℕ))) (new : Bool) → i < length names → name ≡ get_or names i name → k.now ≡ name
    → Seen (take i names) s → any_twice (take i names) ≡ false → new ≡ not (contains (λ x y. slice_cmp nat_cmp x.now y.now) s k) → new ≡ true → any_twice (take (i + 1) names) ≡ false
once names i name k s new h is read seen apart told fresh =
    let absent = sym (seen k) ∙ not_true new _ told fresh in
    ap any_twice (one_more names i name h is) ∙ apart_more (take i names) name apart (rw read at absent)

-- with the next name
pub has_next : (names : List (List ℕ)) (i : ℕ) (name : List ℕ) (k : Bor (List ℕ)) (old new : BTreeSet (Bor (List ℕ))) → i < length names → name ≡ get_or names i name → k.now ≡ name
    → Seen (take i names) old → Updates (λ x y. slice_cmp nat_cmp x.now y.now) old new k true → Seen (take (i + 1) names) new
has_next names i name k old new h is read seen u =
    subst (λ ns. Seen ns new) (ap (λ n. take i names ++ n ∷ []) read ∙ sym (one_more names i name h is)) (seen_next (take i names) old new k seen u)
