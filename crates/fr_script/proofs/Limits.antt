-- A script without a bad line is within the limit of bytes.
use Rattle.std.specs.Prelude.{ℕ, ◌+◌, ◌≤◌, ◌≡◌, ◌==◌, Bool, true, false, if◌then◌else◌, List, [], ◌∷◌, length, Some, None}
use Rattle.std.proofs.Common.{refl, sym, arith}
use Rattle.std.proofs.lemmas.Bool.Decides.{nat_tests}
use Rattle.fr_core.specs.declared.inputs.Inputs.{Inputs}
use Rattle.fr_script.specs.declared.turn.LineKind.TheVariants as kind
use Rattle.fr_script.specs.declared.said.Said.{Said}
use Rattle.fr_script.specs.declared.said.Said.TheVariants as said
use Rattle.fr_script.specs.Limits.{script_limit}
use Rattle.fr_script.specs.Lines.{Cut, byte_before, cut_at, cut}
use Rattle.fr_script.specs.Sources.{Named, named}
use Rattle.fr_script.specs.Kinds.{Names, is_long, is_beyond, says}
use Rattle.fr_script.specs.Instants.{Taken, past_of, Found, found_behind, found_all, found_rest, found_from, none_taken, bad_line}
use Rattle.std.proofs.lemmas.Option.{none-some}
use Rattle.fr_script.proofs.Tells.{IsGood, good_fits}

-- the bytes of lines with the byte 10 that ends each
lines_size : List (List ℕ) → ℕ
lines_size [] = 0
lines_size (l ∷ ls) = length l + 1 + lines_size ls

before_size : (b : ℕ) (x : Cut) → lines_size (byte_before b x).0 + length (byte_before b x).1 ≡ lines_size x.0 + length x.1 + 1
unfolding lines_size
before_size b ([], rest) = omega arith
before_size b (l ∷ ls, rest) = omega arith

at_size : (at : Bool) (b : ℕ) (x : Cut) → lines_size (cut_at at b x).0 + length (cut_at at b x).1 ≡ lines_size x.0 + length x.1 + 1
unfolding lines_size
at_size true b x = omega arith
at_size false b x = before_size b x

-- a cut leaves no byte out
cut_size : (bs : List ℕ) → lines_size (cut bs).0 + length (cut bs).1 ≡ length bs
unfolding cut lines_size
cut_size [] = refl
cut_size (b ∷ bs) = omega (arith, at_size (b == 10) b (cut bs), cut_size bs)

-- what is behind lines of so many bytes is within the limit, where it holds no bad line
abbrev Fits : (Taken → Found) → ℕ → Type 0
Fits next more = (t : Taken) → (next t).bad ≡ None → t.bytes ≤ script_limit → t.bytes + more ≤ script_limit

behind_fits : (s : Said) (t : Taken) (n more : ℕ) (next : Taken → Found) → Fits next more → (IsGood s → t.bytes + n ≤ script_limit) → (found_behind s t n next).bad ≡ None → t.bytes + (n + more) ≤ script_limit
behind_fits said.Blank t n more next f g h = let k = f (record { lines = t.lines + 1; bytes = t.bytes + n; instants = t.instants }) h (g tt) in omega arith
behind_fits (said.Sets time e) t n more next f g h = let k = f _ h (g tt) in omega arith
behind_fits (said.Bad k) t n more next f g h = absurd (none-some (t.lines + 1, k) (sym h))

all_fits : Fits found_all 0
all_fits t h k = omega arith

within : (b n : ℕ) → is_beyond b n ≡ false → b + n ≤ script_limit
within b n h = grind (arith, nat_tests)

-- bytes that may still become a line are within the limit
not_beyond : (x y : Bool) (n : ℕ) (is : List Inputs) (f : Found)
    → (let g : Found = if x then record { instants = is; bad = Some (n + 1, kind.Long) } else (if y then record { instants = is; bad = Some (n + 1, kind.Many) } else f) in g.bad) ≡ None → y ≡ false
not_beyond true y n is f h = absurd (none-some (n + 1, kind.Long) (sym h))
not_beyond false true n is f h = absurd (none-some (n + 1, kind.Many) (sym h))
not_beyond false false n is f h = refl

rest_fits : (names : Names) (rest : List ℕ) (ended : Bool) → Fits (λ t. found_rest names t rest ended) (length rest)
rest_fits names [] ended t h k = omega arith
rest_fits names (b ∷ bs) true t h k =
    let n = length (b ∷ bs) in
    let f = behind_fits (says names (past_of t) (b ∷ bs) n) t n 0 found_all all_fits (good_fits names (past_of t) (b ∷ bs) n) h in
    omega arith
rest_fits names (b ∷ bs) false t h k =
    within t.bytes (length (b ∷ bs)) (not_beyond (is_long t.bytes (b ∷ bs)) (is_beyond t.bytes (length (b ∷ bs))) t.lines t.instants (found_all t) h)

from_fits : (names : Names) (ls : List (List ℕ)) (rest : List ℕ) (ended : Bool) → Fits (λ t. found_from names t ls rest ended) (lines_size ls + length rest)
unfolding found_from lines_size
from_fits names [] rest ended t h k = let f = rest_fits names rest ended t h k in omega arith
from_fits names (l ∷ ls) rest ended t h k =
    let n = length l + 1 in
    let f = behind_fits (says names (past_of t) l n) t n (lines_size ls + length rest) (λ u. found_from names u ls rest ended) (from_fits names ls rest ended) (good_fits names (past_of t) l n) h in
    omega arith

pub good_is_short : (ss : List Named) (bytes : List ℕ) (ended : Bool) → bad_line ss bytes ended ≡ None → length bytes ≤ script_limit
unfolding bad_line
good_is_short ss bytes ended h = omega (arith, cut_size bytes, from_fits (named ss) (cut bytes).0 (cut bytes).1 ended none_taken h (omega arith))
