-- Where a line reader settles.
use Rattle.std.specs.Prelude.{ℕ, ◌+◌, ◌<◌, ◌≤◌, ◌≡◌, Bool, true, false, List, [], ◌∷◌, ◌++◌, length, take, Option, Some, None}
use Rattle.std.proofs.Common.{refl, sym, ◌∙◌, ap, subst, arith}
use Rattle.std.proofs.lemmas.Option.{none-some}
use Rattle.indexmap.specs.IndexMap.{get_by_text}
use Rattle.fr_value.proofs.Meet.{same_some}
use Rattle.fr_core.specs.declared.inputs.Inputs.{Inputs}
use Rattle.fr_script.specs.declared.turn.Turn.{Turn}
use Rattle.fr_script.specs.declared.turn.Turn.TheVariants as turn
use Rattle.fr_script.specs.declared.line_reader.LineReader.{LineReader}
use Rattle.fr_script.specs.Lines.{line_end}
use Rattle.fr_script.specs.Kinds.{says}
use Rattle.fr_script.specs.Instants.{BadLine}
use Rattle.fr_script.specs.Sources.{Named}
use Rattle.fr_script.specs.Stands.{is_told, Stands, StandsBehind, TurnStands, given_after, waiting, left, Falls}
use Rattle.fr_script.specs.Steps.{turn_of, behind_line, Onward, TurnGoes, Steps}
use Rattle.fr_script.specs.Settled.{unless_turn, behind_bytes, behind_rest, behind_end, unless_met, next_line, on_from, settled_in, settled}
use Rattle.fr_script.proofs.LineEnds.{end_within}
use Rattle.fr_script.proofs.Goes.{full_steps, finish_steps, with_rest}
use Rattle.fr_script.proofs.Turns.{told_same, turn_says, stands_on, here, onward_then, goes_told}

no_turn : (t : Option Turn) (x q : LineReader) → unless_turn t x ≡ Some q → (t ≡ None) × (x ≡ q)
no_turn None x q h = (refl, same_some x q h)
no_turn (Some t) x q h = absurd (none-some q h)

-- the line gave no turn
bytes_tell : (r q : LineReader) (n bytes : ℕ) → behind_bytes n bytes r ≡ Some q
    → (turn_of (says (get_by_text r.names) r.past (take n r.rest) bytes) r.past ≡ None) × (behind_line (says (get_by_text r.names) r.past (take n r.rest) bytes) r bytes ≡ q)
bytes_tell r q n bytes h = no_turn (turn_of (says (get_by_text r.names) r.past (take n r.rest) bytes) r.past) (behind_line (says (get_by_text r.names) r.past (take n r.rest) bytes) r bytes) q h

rest_steps : (r q : LineReader) (told : Bool) (rest : List ℕ) → r.ended ≡ told → r.rest ≡ rest → r.bad ≡ None → line_end r.rest ≡ None → behind_rest told rest r ≡ Some q → Steps None r q
rest_steps r q false rest t m e k h = absurd (none-some q h)
rest_steps r q true [] t m e k h = absurd (none-some q h)
rest_steps r q true (b ∷ bs) t m e k h =
    let g = bytes_tell r q (length r.rest) (length r.rest) h in
    finish_steps r q (length r.rest) None t e k refl (omega (arith, ap length m)) (sym g.0) (sym g.1)

end_steps : (r q : LineReader) (o : Option ℕ) → line_end r.rest ≡ o → r.bad ≡ None → behind_end o r ≡ Some q → Steps None r q
end_steps r q None k e h = rest_steps r q r.ended r.rest refl refl e k h
end_steps r q (Some n) k e h = let g = bytes_tell r q n (n + 1) h in full_steps r q n None e k (end_within r.rest n k) (sym g.0) (sym g.1)

met_steps : (r q : LineReader) (b : Option BadLine) → r.bad ≡ b → unless_met b (behind_end (line_end r.rest) r) ≡ Some q → Steps None r q
met_steps r q None e h = end_steps r q (line_end r.rest) refl e h
met_steps r q (Some b) e h = absurd (none-some q h)

-- behind the next line the same is ahead, in fewer bytes
next_steps : (r q : LineReader) → next_line r ≡ Some q → Steps None r q
next_steps r q h = met_steps r q r.bad refl h

-- a step that gives a turn, or goes on behind the next line
good_next : (r : LineReader) (o : Option ℕ) → r.bad ≡ None → line_end r.rest ≡ o → next_line r ≡ behind_end o r
good_next r o h k = ap (λ b. unless_met b (behind_end (line_end r.rest) r)) h ∙ ap (λ x. behind_end x r) k

pub met_passes : (r : LineReader) (b : BadLine) → r.bad ≡ Some b → next_line r ≡ None
met_passes r b h = ap (λ x. unless_met x (behind_end (line_end r.rest) r)) h

bytes_pass : (r new : LineReader) (n bytes : ℕ) (t : Option Turn) → t ≡ turn_of (says (get_by_text r.names) r.past (take n r.rest) bytes) r.past
    → new ≡ behind_line (says (get_by_text r.names) r.past (take n r.rest) bytes) r bytes → behind_bytes n bytes r ≡ unless_turn t new
bytes_pass r new n bytes t e f = ap (λ x. unless_turn x (behind_line (says (get_by_text r.names) r.past (take n r.rest) bytes) r bytes)) (sym e) ∙ ap (unless_turn t) (sym f)

line_passes : (r new : LineReader) (n : ℕ) (t : Option Turn) → r.bad ≡ None → line_end r.rest ≡ Some n
    → t ≡ turn_of (says (get_by_text r.names) r.past (take n r.rest) (n + 1)) r.past → new ≡ behind_line (says (get_by_text r.names) r.past (take n r.rest) (n + 1)) r (n + 1)
    → next_line r ≡ unless_turn t new
line_passes r new n t h k e f = good_next r (Some n) h k ∙ bytes_pass r new n (n + 1) t e f

pub line_passes_at : (r : LineReader) (rest : List ℕ) (new : LineReader) (n : ℕ) (t : Option Turn) → rest ≡ r.rest → r.bad ≡ None → line_end r.rest ≡ Some n
    → t ≡ turn_of (says (get_by_text r.names) r.past (take n rest) (n + 1)) r.past
    → new ≡ behind_line (says (get_by_text r.names) r.past (take n rest) (n + 1)) (with_rest r rest) (n + 1) → next_line r ≡ unless_turn t new
line_passes_at r rest new n t same h k e f =
    line_passes r new n t h k (e ∙ ap (λ x. turn_of (says (get_by_text r.names) r.past (take n x) (n + 1)) r.past) same)
    (f ∙ ap (λ x. behind_line (says (get_by_text r.names) r.past (take n x) (n + 1)) (with_rest r x) (n + 1)) same)

rest_is_line : (r : LineReader) (rest : List ℕ) → 0 < length rest → behind_rest true rest r ≡ behind_bytes (length r.rest) (length r.rest) r
rest_is_line r [] h = absurd (omega (arith, h))
rest_is_line r (b ∷ bs) h = refl

pub finish_passes : (r new : LineReader) (n : ℕ) (t : Option Turn) → is_told r ≡ true → r.bad ≡ None → line_end r.rest ≡ None → n ≡ length r.rest → 0 < n
    → t ≡ turn_of (says (get_by_text r.names) r.past (take n r.rest) n) r.past → new ≡ behind_line (says (get_by_text r.names) r.past (take n r.rest) n) r n
    → next_line r ≡ unless_turn t new
finish_passes r new n t told h k same some e f =
    good_next r None h k ∙ ap (λ b. behind_rest b r.rest r) told ∙ rest_is_line r r.rest (omega (arith, same, some))
    ∙ ap (λ m. behind_bytes m m r) (sym same) ∙ bytes_pass r new n n t e f

no_rest : (r : LineReader) (told : Bool) (rest : List ℕ) → length rest ≡ 0 → behind_rest told rest r ≡ None
no_rest r false rest h = refl
no_rest r true [] h = refl
no_rest r true (b ∷ bs) h = absurd (omega (arith, h))

pub empty_passes : (r : LineReader) → r.bad ≡ None → line_end r.rest ≡ None → length r.rest ≡ 0 → next_line r ≡ None
empty_passes r h k m = good_next r None h k ∙ no_rest r r.ended r.rest m

pub pause_passes : (r : LineReader) → is_told r ≡ false → r.bad ≡ None → line_end r.rest ≡ None → next_line r ≡ None
pause_passes r told h k = good_next r None h k ∙ ap (λ b. behind_rest b r.rest r) told

-- a reader that gives a turn, or that has no bytes, has settled
stays_in : (xs : List ℕ) (r : LineReader) → next_line r ≡ None → settled_in xs r ≡ r
unfolding settled_in
stays_in [] r h = refl
stays_in (x ∷ xs) r h = ap (λ o. on_from o r (λ q. settled_in xs q)) h

stays : (r : LineReader) → next_line r ≡ None → settled r ≡ r
unfolding settled
stays r h = stays_in r.rest r h

none_left : (r : LineReader) → length r.rest ≤ 0 → next_line r ≡ None
none_left r h =
    (elim (next_line r) as (λ o. next_line r ≡ o → o ≡ None) [
      | None ↦ λ e. refl
      | Some q ↦ λ e. absurd (omega (arith, (next_steps r q e).1, h))
    ]) refl

-- with more bytes to count by, it settles at the same place
enough : (xs ys : List ℕ) (r : LineReader) → length r.rest ≤ length xs → length r.rest ≤ length ys → settled_in xs r ≡ settled_in ys r
unfolding settled_in
enough [] [] r h k = refl
enough [] (y ∷ ys) r h k = sym (stays_in (y ∷ ys) r (none_left r h))
enough (x ∷ xs) [] r h k = stays_in (x ∷ xs) r (none_left r k)
enough (x ∷ xs) (y ∷ ys) r h k =
    (elim (next_line r) as (λ o. next_line r ≡ o → on_from o r (λ q. settled_in xs q) ≡ on_from o r (λ q. settled_in ys q)) [
      | None ↦ λ e. refl
      | Some q ↦ λ e. (let s = (next_steps r q e).1 in enough xs ys q (omega (arith, s, h)) (omega (arith, s, k)))
    ]) refl

same_from : (xs : List ℕ) (r q : LineReader) → length r.rest ≤ length xs → next_line r ≡ Some q → settled_in xs r ≡ settled q
unfolding settled settled_in
same_from [] r q m h = absurd (omega (arith, (next_steps r q h).1, m))
same_from (x ∷ xs) r q m h =
    let s = (next_steps r q h).1 in
    ap (λ o. on_from o r (λ p. settled_in xs p)) h ∙ enough xs q.rest q (omega (arith, s, m)) (omega arith)

-- behind the next line it settles where it settles before it
pub same_place : (r q : LineReader) → next_line r ≡ Some q → settled r ≡ settled q
unfolding settled
same_place r q h = same_from r.rest r q (omega arith) h

settles_in : (xs : List ℕ) (r : LineReader) → Onward r None (settled_in xs r)
unfolding settled_in
settles_in [] r = here r
settles_in (x ∷ xs) r =
    (elim (next_line r) as (λ o. next_line r ≡ o → Onward r None (on_from o r (λ q. settled_in xs q))) [
      | None ↦ λ e. here r
      | Some q ↦ λ e. onward_then r q (settled_in xs q) None (next_steps r q e).0 (settles_in xs q)
    ]) refl

-- where it settles the same is ahead
settles : (r : LineReader) → Onward r None (settled r)
unfolding settled
settles r = settles_in r.rest r

back : (a b : LineReader) → Onward a None b → Onward b None a
back a b h = record {
  told = sym h.told;
  same = λ more ended f. sym (h.same more ended (told_same (is_told b) (is_told a) more ended h.told f));
}

pub settled_told : (r : LineReader) → is_told (settled r) ≡ is_told r
settled_told r = (settles r).told

settled_stands : (r : LineReader) (ss : List Named) (fed : List ℕ) (given : ℕ) → Stands r ss fed given → Stands (settled r) ss fed given
settled_stands r = stands_on r (settled r) (settles r)

settled_stood : (r : LineReader) (ss : List Named) (fed : List ℕ) (given : ℕ) → Stands (settled r) ss fed given → Stands r ss fed given
settled_stood r = stands_on (settled r) r (back r (settled r) (settles r))

-- what is said of readers is said of where they settle
pub first_settles : (r : LineReader) (ss : List Named) → Stands r ss [] 0 → Stands (settled r) ss [] 0
first_settles r ss = settled_stands r ss [] 0

pub piece_settles : (r new : LineReader) (piece : List ℕ) → StandsBehind r piece new → StandsBehind (settled r) piece (settled new)
piece_settles r new piece h ss fed given s = settled_stands new ss (fed ++ piece) given (h ss fed given (settled_stood r ss fed given s))

pub alike_settles : (r new : LineReader) → ((ss : List Named) (fed : List ℕ) (given : ℕ) → Stands r ss fed given → Stands new ss fed given)
    → (ss : List Named) (fed : List ℕ) (given : ℕ) → Stands (settled r) ss fed given → Stands (settled new) ss fed given
alike_settles r new h ss fed given s = settled_stands new ss fed given (h ss fed given (settled_stood r ss fed given s))

-- the turn of a reader that gives one, behind steps that gave none
pub turn_settles : (t : Turn) (old r new : LineReader) → settled r ≡ settled old → next_line r ≡ None → TurnGoes t r new → TurnStands t (settled old) (settled new)
turn_settles t old r new same h g =
    subst (λ x. TurnStands t x (settled new)) (sym (stays r h) ∙ same)
    (λ ss fed given s. let k = turn_says t r new g ss fed given s in (k.0, settled_stands new ss fed (given_after t given) k.1))

pub told_settles : (t : Turn) (old r new : LineReader) → settled r ≡ settled old → TurnGoes t r new → is_told (settled new) ≡ is_told (settled old)
told_settles t old r new same g = settled_told new ∙ goes_told t r new g ∙ sym (settled_told r) ∙ ap (λ x. is_told x) same

waiting_one : (i : Option Inputs) → waiting i ≤ 1
waiting_one None = omega arith
waiting_one (Some i) = omega arith

left_in : (xs : List ℕ) (r : LineReader) → left (settled_in xs r) ≤ left r
unfolding settled_in
left_in [] r = omega arith
left_in (x ∷ xs) r =
    (elim (next_line r) as (λ o. next_line r ≡ o → left (on_from o r (λ q. settled_in xs q)) ≤ left r) [
      | None ↦ λ e. omega arith
      | Some q ↦ λ e. omega (arith, left_in xs q, (next_steps r q e).1, waiting_one q.past.last)
    ]) refl

-- where it settles no more is left
left_settled : (r : LineReader) → left (settled r) ≤ left r
unfolding settled
left_settled r = left_in r.rest r

falls_more : (t : Turn) (a b c : ℕ) → Falls t a b → c ≤ b → Falls t a c
falls_more (turn.Instant i) a b c h k = omega (arith, h, k)
falls_more turn.More a b c h k = omega (arith, h, k)
falls_more turn.End a b c h k = omega (arith, h, k)
falls_more (turn.Refused line kind) a b c h k = omega (arith, h, k)

pub turn_falls : (t : Turn) (old r new : LineReader) → settled r ≡ settled old → next_line r ≡ None → Falls t (left r) (left new) → Falls t (left (settled old)) (left (settled new))
turn_falls t old r new same h f =
    subst (λ x. Falls t (left x) (left (settled new))) (sym (stays r h) ∙ same) (falls_more t (left r) (left new) (left (settled new)) f (left_settled new))
