-- The depth of parts that stand around one another, counted from the last.
use Rattle.std.proofs.Common.{◌≡◌, ◌+◌, ◌-◌, ◌<◌, ℕ, zero, suc, List, [], ◌∷◌, get_or, length, map, drop, take, max, min, sym, ap, subst, arith}
use Rattle.std.proofs.lemmas.List.{length-map}
use Rattle.fr_syntax.specs.declared.expr.Expr.{Expr}
use Rattle.fr_expand.specs.Depths.{depth, around, count_end}

-- the depths from a place on begin with that of the part there
depths_at : (es : List Expr) (count i : ℕ) (e : Expr) → i < count → i < length es → e ≡ get_or es i e
    → drop i (take count (map depth es)) ≡ depth e ∷ drop (suc i) (take count (map depth es))
depths_at [] count i e h k is = absurd (omega arith)
depths_at (x ∷ es) zero i e h k is = absurd (omega arith)
depths_at (x ∷ es) (suc count) zero e h k is = ap (λ y. depth y ∷ take count (map depth es)) (sym is)
depths_at (x ∷ es) (suc count) (suc i) e h k is = depths_at es count i e (omega arith) (omega arith) is

next_capped : (ds es : List ℕ) (d last rest new : ℕ) → ds ≡ d ∷ es → rest ≡ min count_end (around es last) → new ≡ min count_end (1 + max (min count_end d) rest) → new ≡ min count_end (around ds last)
next_capped ds es d last rest new is before now = rw is (omega arith)

-- the part at a place stands around what was counted behind it
pub one_more : (es : List Expr) (count at last rest new : ℕ) (e : Expr) → 0 < at → at - 1 < count → at - 1 < length es → e ≡ get_or es (at - 1) e
    → rest ≡ min count_end (around (drop at (take count (map depth es))) last)
    → new ≡ min count_end (1 + max (min count_end (depth e)) rest)
    → new ≡ min count_end (around (drop (at - 1) (take count (map depth es))) last)
one_more es count at last rest new e h j k is before now =
    let one_up : suc (at - 1) ≡ at = omega arith in
    next_capped _ (drop at (take count (map depth es))) (depth e) last rest new
    (subst (λ n. drop (at - 1) (take count (map depth es)) ≡ depth e ∷ drop n (take count (map depth es))) one_up (depths_at es count (at - 1) e j k is)) before now

-- it is the same whether the last depth is counted up to the end or further
pub around_capped : (ds : List ℕ) (last : ℕ) → min count_end (around ds (min count_end last)) ≡ min count_end (around ds last)
around_capped [] last = omega arith
around_capped (d ∷ ds) last = omega (arith, around_capped ds last)

-- how the depth of what is chained is counted
pub ruleset capped = (around_capped, length-map)
