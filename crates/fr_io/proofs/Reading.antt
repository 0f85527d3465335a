use Rattle.std.proofs.Common.{◌≡◌, ◌∙◌, ℕ, ◌+◌, ◌==◌, if◌then◌else◌, max, ◌≤◌, List, ◌++◌, length, take, drop, ap, sym, subst, arith, None, Some, IfSome, length-append, length-drop, ◌-◌}
use Rattle.std.proofs.Math.Seq.{take-add}
use Rattle.std.proofs.lemmas.Bool.Decides.{nat_tests}
use Rattle.std.proofs.lemmas.List.{length-take-le, take-append-le, take_all}
use Rattle.std.specs.declared.option.Option.{Option}
use Rattle.fr_io.specs.Files.{GivesFrom, Reaches, ReachesFront}

-- a piece more of a file that is told
pub piece_more : (held : Option (List ℕ)) (taken buf : List ℕ) (n : ℕ) → length (take n buf) ≡ n
    → IfSome held (λ file. taken ≡ take (length taken) file)
    → IfSome held (λ file. GivesFrom file (length taken) n buf)
    → IfSome held (λ file. taken ++ take n buf ≡ take (length (taken ++ take n buf)) file)
piece_more None taken buf n len h k = tt
piece_more (Some file) taken buf n len h k =
    let e = take-add (length taken) n file in
    let l : length (taken ++ take n buf) ≡ length taken + n = length-append taken (take n buf) ∙ ap (λ (m : ℕ). length taken + m) len in
    ap (λ (z : List ℕ). z ++ take n buf) h ∙ ap (λ (z : List ℕ). take (length taken) file ++ z) k.bytes ∙ sym e ∙ ap (λ (m : ℕ). take m file) (sym l)

-- the same, for a piece that was read and put behind
pub piece_read : (first held : Option (List ℕ)) (taken new buf : List ℕ) (n position : ℕ) → held ≡ first → position ≡ length taken
    → n ≤ length buf → new ≡ taken ++ take n buf
    → IfSome first (λ file. taken ≡ take (length taken) file)
    → IfSome held (λ file. GivesFrom file position n buf)
    → IfSome first (λ file. new ≡ take (length new) file)
piece_read first held taken new buf n position same at within is h k =
    let len : length (take n buf) ≡ n = length-take-le n buf within in
    let k1 = subst (λ (p : ℕ). IfSome held (λ file. GivesFrom file p n buf)) at k in
    let k2 = subst (λ (o : Option (List ℕ)). IfSome o (λ file. GivesFrom file (length taken) n buf)) same k1 in
    subst (λ (z : List ℕ). IfSome first (λ file. z ≡ take (length z) file)) (sym is) (piece_more first taken buf n len h k2)

-- what was copied from a file to the front of a buffer is that part of the file
pub take-copied : (copied rest held file : List ℕ) (start n m position : ℕ) → held ≡ file → start ≡ position → m ≡ n → n ≤ length file - start
    → copied ≡ take m (drop start file) → take n (copied ++ rest) ≡ take n (drop position held)
take-copied copied rest held file start n m position same at size within is =
    let fits : n ≤ length (drop start file) = omega (arith, length-drop start file) in
    let is_n : copied ≡ take n (drop start file) = is ∙ ap (λ (k : ℕ). take k (drop start file)) size in
    let long : length copied ≡ n = ap length is_n ∙ length-take-le n (drop start file) fits in
    let front : take n (copied ++ rest) ≡ take n copied = take-append-le n copied rest (omega arith) in
    let whole : take n copied ≡ copied = take_all n copied (omega arith) in
    front ∙ whole ∙ is_n ∙ ap (λ (k : ℕ). take n (drop k file)) at ∙ ap (λ (f : List ℕ). take n (drop position f)) (sym same)

-- nothing was given yet
pub nothing_reached : (first : Option ℕ) → ReachesFront first first 0
nothing_reached None = tt
nothing_reached (Some r) = ap Some (let e : r ≡ max r 0 = omega arith in e)

reached_by : (r n position : ℕ) → (if n == 0 then max r position else max (max r position) (position + n)) ≡ max r (position + n)
reached_by r n position = grind (arith, nat_tests)

-- a piece more was given
pub reached_more : (first before now : Option ℕ) (position n : ℕ) → ReachesFront first before position → Reaches before now position n → ReachesFront first now (position + n)
reached_more None before now position n h k = tt
reached_more (Some r) before now position n h k = subst (λ (o : Option ℕ). Reaches o now position n) h k ∙ ap Some (reached_by r n position)
