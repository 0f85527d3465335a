-- How a script reader goes on.
use Rattle.std.specs.Prelude.{ℕ, min, nat_lt, ◌+◌, ◌-◌, ◌<◌, ◌≤◌, ◌≡◌, ◌≢◌, Bool, true, false, List, [], ◌∷◌, ◌++◌, length, take, drop, Option, Some, None}
use Rattle.std.specs.Option.{option_map, option_to_list}
use Rattle.std.proofs.Common.{refl, sym, ◌∙◌, ap, subst, arith, length-append}
use Rattle.std.proofs.lemmas.List.{length-take, length-drop, take_all}
use Rattle.indexmap.specs.IndexMap.{get_by_text}
use Rattle.fr_core.specs.declared.inputs.Inputs.{Inputs}
use Rattle.fr_script.specs.declared.turn.LineKind.{LineKind}
use Rattle.fr_script.specs.declared.turn.LineKind.TheVariants as kind
use Rattle.fr_script.specs.declared.turn.Turn.{Turn}
use Rattle.fr_script.specs.declared.turn.Turn.TheVariants as turn
use Rattle.fr_script.specs.declared.said.Said.{Said}
use Rattle.fr_script.specs.declared.said.Said.TheVariants as said
use Rattle.fr_script.specs.declared.line_reader.LineReader.{LineReader}
use Rattle.fr_script.specs.Limits.{script_limit, line_limit}
use Rattle.fr_script.specs.Lines.{line_end, cut}
use Rattle.fr_script.specs.Past.{Past}
use Rattle.fr_script.specs.Kinds.{Names, is_long, is_beyond, says}
use Rattle.fr_script.specs.Instants.{BadLine}
use Rattle.fr_script.specs.Ahead.{passed, set_in, closed_by, before, ahead_behind, ahead_end, nothing, ahead_rest, ahead_from, ahead}
use Rattle.fr_script.specs.Stands.{is_told, MayFollow, unless_bad, ahead_of}
use Rattle.fr_script.specs.Steps.{turn_of, behind_line, Onward, only_bad, TurnGoes, Steps}
use Rattle.std.proofs.Math.Seq.{take-append_seam, drop-append_seam}
use Rattle.std.proofs.lemmas.Bool.Decides.{nat_tests}
use Rattle.fr_script.proofs.Options.{mapped}
use Rattle.fr_script.proofs.LineEnds.{behind, end_within}
use Rattle.fr_script.proofs.Cuts.{cut_line, cut_rest}

-- what is ahead where no bad line was met, and where one was
good_ahead : (r : LineReader) (more : List ℕ) (ended : Bool) → r.bad ≡ None → ahead_of r more ended ≡ ahead (get_by_text r.names) r.past (r.rest ++ more) ended
unfolding ahead_of
good_ahead r more ended h = ap (λ b. unless_bad b (ahead (get_by_text r.names) r.past (r.rest ++ more) ended)) h

bad_now : (r : LineReader) (b : BadLine) (more : List ℕ) (ended : Bool) → r.bad ≡ Some b → ahead_of r more ended ≡ only_bad b
unfolding ahead_of
bad_now r b more ended h = ap (λ x. unless_bad x (ahead (get_by_text r.names) r.past (r.rest ++ more) ended)) h

pub append_nil : {A : Type 0} (xs : List A) → xs ++ [] ≡ xs
append_nil [] = refl
append_nil (x ∷ xs) = ap (λ ys. x ∷ ys) (append_nil xs)

-- a line that a newline ends
full_line : (names : Names) (p : Past) (rest more : List ℕ) (ended : Bool) (n : ℕ) → line_end rest ≡ Some n → n ≤ length rest
    → ahead names p (rest ++ more) ended ≡ ahead_behind (says names p (take n rest) (n + 1)) p (n + 1) (λ q. ahead names q (drop (n + 1) rest ++ more) ended)
unfolding ahead ahead_from
full_line names p rest more ended n h k =
    ap (λ x. ahead_from names p x.0 x.1 ended) (cut_line rest more n h)
    ∙ ap (λ m. ahead_behind (says names p (take n rest) (m + 1)) p (m + 1) (λ q. ahead names q (drop (n + 1) rest ++ more) ended)) (omega (arith, length-take n rest))

rest_only : (names : Names) (p : Past) (rest : List ℕ) (ended : Bool) → line_end rest ≡ None → ahead names p (rest ++ []) ended ≡ ahead_rest names p rest ended
unfolding ahead ahead_from
rest_only names p rest ended h = ap (λ x. ahead_from names p (cut x).0 (cut x).1 ended) (append_nil rest) ∙ ap (λ x. ahead_from names p x.0 x.1 ended) (cut_rest rest h)

nothing_left : (names : Names) (q : Past) → ahead names q ([] ++ []) true ≡ ahead_end q
nothing_left names q = rest_only names q [] true refl

drop_all : {A : Type 0} (xs : List A) → drop (length xs) xs ≡ []
drop_all [] = refl
drop_all (x ∷ xs) = drop_all xs

-- a last line without a newline
last_rest : (names : Names) (p : Past) (rest : List ℕ) → length rest ≢ 0
    → ahead_rest names p rest true ≡ ahead_behind (says names p rest (length rest)) p (length rest) (λ q. ahead names q (drop (length rest) rest ++ []) true)
last_rest names p [] h = absurd (h refl)
last_rest names p (b ∷ bs) h =
    (λ i. ahead_behind (says names p (b ∷ bs) (length (b ∷ bs))) p (length (b ∷ bs)) (λ q. sym (nothing_left names q) i))
    ∙ ap (λ x. ahead_behind (says names p (b ∷ bs) (length (b ∷ bs))) p (length (b ∷ bs)) (λ q. ahead names q (x ++ []) true)) (sym (drop_all (b ∷ bs)))

-- one step over a line
line_steps : (s : Said) (r : LineReader) (n : ℕ) → r.bad ≡ None → 0 < n → n ≤ length r.rest
    → ((more : List ℕ) (ended : Bool) → MayFollow (is_told r) more ended → ahead_of r more ended ≡ ahead_behind s r.past n (λ q. ahead (get_by_text r.names) q (drop n r.rest ++ more) ended))
    → Steps (turn_of s r.past) r (behind_line s r n)
line_steps said.Blank r n h k l e =
    (record { told = refl; same = λ more ended f. e more ended f ∙ sym (good_ahead (behind_line said.Blank r n) more ended h) }, omega (arith, length-drop n r.rest))
line_steps (said.Sets time v) r n h k l e = by_closed (closed_by r.past.last time) e
  where
    new : LineReader
    new = behind_line (said.Sets time v) r n

    by_closed : (c : Option Inputs) → ((more : List ℕ) (ended : Bool) → MayFollow (is_told r) more ended → ahead_of r more ended ≡ before c (ahead (get_by_text r.names) (passed (set_in r.past time v) n) (drop n r.rest ++ more) ended))
        → Steps (option_map (λ i. turn.Instant i) c) r (behind_line (said.Sets time v) r n)
    by_closed None e = (record { told = refl; same = λ more ended f. e more ended f ∙ sym (good_ahead (behind_line (said.Sets time v) r n) more ended h) }, omega (arith, length-drop n r.rest))
    by_closed (Some i) e = record { told = refl; same = λ more ended f. e more ended f ∙ ap (before (Some i)) (sym (good_ahead (behind_line (said.Sets time v) r n) more ended h)) }
line_steps (said.Bad k) r n h z l e =
    (record { told = refl; same = λ more ended f. e more ended f ∙ sym (bad_now (behind_line (said.Bad k) r n) (r.past.lines + 1, k) more ended refl) }, e)

pub full_steps : (r new : LineReader) (n : ℕ) (t : Option Turn) → r.bad ≡ None → line_end r.rest ≡ Some n → n < length r.rest
    → t ≡ turn_of (says (get_by_text r.names) r.past (take n r.rest) (n + 1)) r.past → new ≡ behind_line (says (get_by_text r.names) r.past (take n r.rest) (n + 1)) r (n + 1) → Steps t r new
full_steps r new n t h k l e f =
    let s = says (get_by_text r.names) r.past (take n r.rest) (n + 1) in
    subst (λ x. Steps x r new) (sym e) (subst (λ x. Steps (turn_of s r.past) r x) (sym f)
    (line_steps s r (n + 1) h (omega arith) (omega (arith, l)) (λ more ended g. good_ahead r more ended h ∙ full_line (get_by_text r.names) r.past r.rest more ended n k (omega (arith, l)))))

-- only nothing may follow where the end was told
at_end : (P : List ℕ → Bool → Type 0) (told : Bool) → told ≡ true → P [] true → (more : List ℕ) (ended : Bool) → MayFollow told more ended → P more ended
at_end P true e p more ended f = subst (λ m. P m ended) (sym f.0) (subst (λ b. P [] b) (sym f.1) p)
at_end P false e p more ended f = cc

last_steps : (r : LineReader) → is_told r ≡ true → r.bad ≡ None → line_end r.rest ≡ None → length r.rest ≢ 0
    → Steps (turn_of (says (get_by_text r.names) r.past r.rest (length r.rest)) r.past) r (behind_line (says (get_by_text r.names) r.past r.rest (length r.rest)) r (length r.rest))
last_steps r t h k some =
    let s = says (get_by_text r.names) r.past r.rest (length r.rest) in
    line_steps s r (length r.rest) h (omega (arith, some)) (omega arith)
    (at_end (λ more ended. ahead_of r more ended ≡ ahead_behind s r.past (length r.rest) (λ q. ahead (get_by_text r.names) q (drop (length r.rest) r.rest ++ more) ended)) (is_told r) t
    (good_ahead r [] true h ∙ rest_only (get_by_text r.names) r.past r.rest true k ∙ last_rest (get_by_text r.names) r.past r.rest some))

pub finish_steps : (r new : LineReader) (n : ℕ) (t : Option Turn) → is_told r ≡ true → r.bad ≡ None → line_end r.rest ≡ None → n ≡ length r.rest → 0 < n
    → t ≡ turn_of (says (get_by_text r.names) r.past (take n r.rest) n) r.past → new ≡ behind_line (says (get_by_text r.names) r.past (take n r.rest) n) r n → Steps t r new
finish_steps r new n t told h k same some e f =
    let whole_line : take n r.rest ≡ r.rest = take_all n r.rest (omega (arith, same)) in
    subst (λ x. Steps x r new) (sym (e ∙ ap (λ l. turn_of (says (get_by_text r.names) r.past l n) r.past) whole_line ∙ ap (λ m. turn_of (says (get_by_text r.names) r.past r.rest m) r.past) same))
    (subst (λ x. Steps (turn_of (says (get_by_text r.names) r.past r.rest (length r.rest)) r.past) r x)
    (sym (f ∙ ap (λ l. behind_line (says (get_by_text r.names) r.past l n) r n) whole_line ∙ ap (λ m. behind_line (says (get_by_text r.names) r.past r.rest m) r m) same))
    (last_steps r told h k (omega (arith, same, some))))

empty : (xs : List ℕ) → length xs ≡ 0 → xs ≡ []
empty [] h = refl
empty (x ∷ xs) h = absurd (omega (arith, h))

-- at the end with nothing left, the last instant is ahead
at_last : (r : LineReader) → r.bad ≡ None → length r.rest ≡ 0 → ahead_of r [] true ≡ ahead_end r.past
at_last r h k = good_ahead r [] true h ∙ ap (λ x. ahead (get_by_text r.names) r.past (x ++ []) true) (empty r.rest k) ∙ nothing_left (get_by_text r.names) r.past

pub take_steps : (r : LineReader) (i : Inputs) (new : LineReader) → is_told r ≡ true → r.bad ≡ None → length r.rest ≡ 0 → r.past.last ≡ Some i
    → new ≡ record r { past = record r.past { last = None } } → Onward r (Some i) new
take_steps r i new told h k l e = record {
  told = ap (λ x. is_told x) e;
  same = at_end (λ more ended. ahead_of r more ended ≡ before (Some i) (ahead_of new more ended)) (is_told r) told
      (at_last r h k ∙ ap (λ x. record { instants = option_to_list x; bad = None }) l
      ∙ ap (before (Some i)) (sym (ap (λ x. ahead_of x [] true) e ∙ at_last (record r { past = record r.past { last = None } }) h k)));
}

pub end_goes : (r new : LineReader) → is_told r ≡ true → r.bad ≡ None → length r.rest ≡ 0 → r.past.last ≡ None → new ≡ r → TurnGoes turn.End r new
end_goes r new told h k l e =
    (record { told = ap (λ x. is_told x) e; same = λ more ended f. ap (λ x. ahead_of x more ended) (sym e) }, told, at_last r h k ∙ ap (λ x. record { instants = option_to_list x; bad = None }) l)

same_goes : (r new : LineReader) → new ≡ r → Onward r None new
same_goes r new e = record { told = ap (λ x. is_told x) e; same = λ more ended f. ap (λ x. ahead_of x more ended) (sym e) }

pub again_goes : (r new : LineReader) (line : ℕ) (k : LineKind) → r.bad ≡ Some (line, k) → new ≡ r → TurnGoes (turn.Refused line k) r new
again_goes r new line k h e = (same_goes r new e, λ more ended f. bad_now r (line, k) more ended h)

-- a reader whose bytes that are left are told in another way
abbrev pub with_rest : LineReader → List ℕ → LineReader
with_rest r rest = record { alloc = r.alloc; names = r.names; past = r.past; rest = rest; ended = r.ended; bad = r.bad }

pub full_steps_at : (r : LineReader) (rest : List ℕ) (new : LineReader) (n : ℕ) (t : Option Turn) → rest ≡ r.rest → r.bad ≡ None → line_end r.rest ≡ Some n → n < length r.rest
    → t ≡ turn_of (says (get_by_text r.names) r.past (take n rest) (n + 1)) r.past → new ≡ behind_line (says (get_by_text r.names) r.past (take n rest) (n + 1)) (with_rest r rest) (n + 1) → Steps t r new
full_steps_at r rest new n t same h k l e f =
    full_steps r new n t h k l (e ∙ ap (λ x. turn_of (says (get_by_text r.names) r.past (take n x) (n + 1)) r.past) same)
    (f ∙ ap (λ x. behind_line (says (get_by_text r.names) r.past (take n x) (n + 1)) (with_rest r x) (n + 1)) same)

-- a newline in what follows is behind all that is left
end_append : (xs ys : List ℕ) → line_end xs ≡ None → line_end (xs ++ ys) ≡ option_map (λ n. length xs + n) (line_end ys)
end_append xs ys h =
    sym (behind (length xs) (xs ++ ys) (ap line_end (take-append_seam xs ys) ∙ h) (omega (arith, length-append xs ys)))
    ∙ ap (λ x. option_map (λ n. length xs + n) (line_end x)) (drop-append_seam xs ys)

-- a line of a kind whatever follows what is left, where each line that it may become is of that kind
abbrev Stays : Names → Past → List ℕ → LineKind → Type 0
Stays names p rest k = (line : List ℕ) (n : ℕ) → length rest ≤ length line → length line ≤ n → says names p line n ≡ said.Bad k

abbrev Waits : Names → Past → List ℕ → LineKind → Type 0
Waits names p rest k = (line : List ℕ) → length rest ≤ length line → length rest ≢ 0 → ahead_rest names p line false ≡ only_bad (p.lines + 1, k)

stays_ahead : (names : Names) (p : Past) (rest : List ℕ) (k : LineKind) → line_end rest ≡ None → length rest ≢ 0 → Stays names p rest k → Waits names p rest k
    → (more : List ℕ) (ended : Bool) → ahead names p (rest ++ more) ended ≡ only_bad (p.lines + 1, k)
stays_ahead names p rest k h some stays waits more ended = by_end (line_end (rest ++ more)) refl
  where
    longer : length rest ≤ length (rest ++ more)
    longer = omega (arith, length-append rest more)

    unfinished : (ended : Bool) → ahead_rest names p (rest ++ more) ended ≡ only_bad (p.lines + 1, k)
    unfinished false = waits (rest ++ more) longer some
    unfinished true = last_rest names p (rest ++ more) (omega (arith, longer, some)) ∙ ap (λ s. ahead_behind s p (length (rest ++ more)) (λ q. ahead names q (drop (length (rest ++ more)) (rest ++ more) ++ []) true)) (stays (rest ++ more) (length (rest ++ more)) longer (omega arith))

    by_end : (e : Option ℕ) → line_end (rest ++ more) ≡ e → ahead names p (rest ++ more) ended ≡ only_bad (p.lines + 1, k)
    by_end None e = sym (ap (λ x. ahead names p x ended) (append_nil (rest ++ more))) ∙ rest_only names p (rest ++ more) ended e ∙ unfinished ended
    by_end (Some n) e =
        let m = mapped (λ n. length rest + n) (line_end more) n (sym (end_append rest more h) ∙ e) in
        let within = end_within (rest ++ more) n e in
        let far : length rest ≤ n = omega (arith, m.2) in
        sym (ap (λ x. ahead names p x ended) (append_nil (rest ++ more))) ∙ full_line names p (rest ++ more) [] ended n e (omega (arith, within))
        ∙ ap (λ s. ahead_behind s p (n + 1) (λ q. ahead names q (drop (n + 1) (rest ++ more) ++ []) ended)) (stays (take n (rest ++ more)) (n + 1) (omega (arith, far, within, length-take n (rest ++ more))) (omega (arith, length-take n (rest ++ more))))

still_long : (b : ℕ) (rest line : List ℕ) → length rest ≤ length line → is_long b rest ≡ true → is_long b line ≡ true
still_long b rest line h k = grind (arith, nat_tests)

still_beyond : (b n m : ℕ) → n ≤ m → is_beyond b n ≡ true → is_beyond b m ≡ true
still_beyond b n m h k = grind (arith, nat_tests)

-- what is beyond the limit makes no line longer
still_short : (b : ℕ) (rest line : List ℕ) → length rest ≤ length line → is_long b rest ≡ false → is_beyond b (length rest) ≡ true → is_long b line ≡ false
still_short b rest line h k l =
    let far : script_limit < b + length rest = grind (arith, nat_tests) in
    let same : min (length line) (script_limit - b) ≡ min (length rest) (script_limit - b) = omega arith in
    ap (nat_lt line_limit) same ∙ k

long_says : (names : Names) (p : Past) (line : List ℕ) (n : ℕ) → is_long p.bytes line ≡ true → says names p line n ≡ said.Bad kind.Long
unfolding says
long_says names p line n h = rw h refl

many_says : (names : Names) (p : Past) (line : List ℕ) (n : ℕ) → is_long p.bytes line ≡ false → is_beyond p.bytes n ≡ true → says names p line n ≡ said.Bad kind.Many
unfolding says
many_says names p line n h k = rw (h, k) refl

long_waits : (names : Names) (p : Past) (line : List ℕ) → length line ≢ 0 → is_long p.bytes line ≡ true → ahead_rest names p line false ≡ only_bad (p.lines + 1, kind.Long)
long_waits names p [] h k = absurd (h refl)
long_waits names p (b ∷ bs) h k = rw k refl

many_waits : (names : Names) (p : Past) (line : List ℕ) → length line ≢ 0 → is_long p.bytes line ≡ false → is_beyond p.bytes (length line) ≡ true → ahead_rest names p line false ≡ only_bad (p.lines + 1, kind.Many)
many_waits names p [] h k l = absurd (h refl)
many_waits names p (b ∷ bs) h k l = rw (k, l) refl

short_waits : (names : Names) (p : Past) (line : List ℕ) → is_long p.bytes line ≡ false → is_beyond p.bytes (length line) ≡ false → ahead_rest names p line false ≡ nothing
short_waits names p [] k l = refl
short_waits names p (b ∷ bs) k l = rw (k, l) refl

-- a turn by which a bad line is refused
refused_goes : (r new : LineReader) (t : Turn) (k : LineKind) → r.bad ≡ None → t ≡ turn.Refused (r.past.lines + 1) k → new ≡ record r { bad = Some (r.past.lines + 1, k) }
    → ((more : List ℕ) (ended : Bool) → ahead (get_by_text r.names) r.past (r.rest ++ more) ended ≡ only_bad (r.past.lines + 1, k)) → TurnGoes t r new
refused_goes r new t k h e f a =
    subst (λ x. TurnGoes x r new) (sym e) (subst (λ x. TurnGoes (turn.Refused (r.past.lines + 1) k) r x) (sym f) (
      record {
        told = refl;
        same = λ more ended g. good_ahead r more ended h ∙ a more ended ∙ sym (bad_now (record r { bad = Some (r.past.lines + 1, k) }) (r.past.lines + 1, k) more ended refl);
      },
      λ more ended g. good_ahead r more ended h ∙ a more ended,
    ))

pub long_goes : (r new : LineReader) (t : Turn) (n : ℕ) → r.bad ≡ None → line_end r.rest ≡ None → n ≡ length r.rest → n ≢ 0 → is_long r.past.bytes (take n r.rest) ≡ true
    → t ≡ turn.Refused (r.past.lines + 1) kind.Long → new ≡ record r { bad = Some (r.past.lines + 1, kind.Long) } → TurnGoes t r new
long_goes r new t n h k same some l e f =
    let whole_line : take n r.rest ≡ r.rest = take_all n r.rest (omega (arith, same)) in
    let long : is_long r.past.bytes r.rest ≡ true = subst (λ x. is_long r.past.bytes x ≡ true) whole_line l in
    let names = get_by_text r.names in
    refused_goes r new t kind.Long h e f
    (stays_ahead names r.past r.rest kind.Long k (omega (arith, same, some))
    (λ line m i j. long_says names r.past line m (still_long r.past.bytes r.rest line i long))
    (λ line i j. long_waits names r.past line (omega (arith, i, j)) (still_long r.past.bytes r.rest line i long)))

pub many_goes : (r new : LineReader) (t : Turn) (n : ℕ) → r.bad ≡ None → line_end r.rest ≡ None → n ≡ length r.rest → n ≢ 0 → is_long r.past.bytes (take n r.rest) ≡ false → is_beyond r.past.bytes n ≡ true
    → t ≡ turn.Refused (r.past.lines + 1) kind.Many → new ≡ record r { bad = Some (r.past.lines + 1, kind.Many) } → TurnGoes t r new
many_goes r new t n h k same some l m e f =
    let whole_line : take n r.rest ≡ r.rest = take_all n r.rest (omega (arith, same)) in
    let short : is_long r.past.bytes r.rest ≡ false = subst (λ x. is_long r.past.bytes x ≡ false) whole_line l in
    let beyond : is_beyond r.past.bytes (length r.rest) ≡ true = subst (λ x. is_beyond r.past.bytes x ≡ true) same m in
    let names = get_by_text r.names in
    refused_goes r new t kind.Many h e f
    (stays_ahead names r.past r.rest kind.Many k (omega (arith, same, some))
    (λ line m i j. many_says names r.past line m (still_short r.past.bytes r.rest line i short beyond) (still_beyond r.past.bytes (length r.rest) m (omega (arith, i, j)) beyond))
    (λ line i j. many_waits names r.past line (omega (arith, i, j)) (still_short r.past.bytes r.rest line i short beyond) (still_beyond r.past.bytes (length r.rest) (length line) i beyond)))

pub more_goes : (r new : LineReader) (n : ℕ) → is_told r ≡ false → r.bad ≡ None → line_end r.rest ≡ None → n ≡ length r.rest → is_long r.past.bytes (take n r.rest) ≡ false → is_beyond r.past.bytes n ≡ false
    → new ≡ r → TurnGoes turn.More r new
more_goes r new n told h k same l m e =
    let whole_line : take n r.rest ≡ r.rest = take_all n r.rest (omega (arith, same)) in (
      same_goes r new e,
      told,
      good_ahead r [] false h ∙ rest_only (get_by_text r.names) r.past r.rest false k
          ∙ short_waits (get_by_text r.names) r.past r.rest (subst (λ x. is_long r.past.bytes x ≡ false) whole_line l) (subst (λ x. is_beyond r.past.bytes x ≡ false) same m),
    )

pub empty_goes : (r new : LineReader) → is_told r ≡ false → r.bad ≡ None → length r.rest ≡ 0 → new ≡ r → TurnGoes turn.More r new
empty_goes r new told h k e = (
  same_goes r new e,
  told,
  good_ahead r [] false h ∙ ap (λ x. ahead (get_by_text r.names) r.past (x ++ []) false) (empty r.rest k) ∙ rest_only (get_by_text r.names) r.past [] false refl,
)

abbrev pub with_past : LineReader → Past → LineReader
with_past r past = record { alloc = r.alloc; names = r.names; past = past; rest = r.rest; ended = r.ended; bad = r.bad }

pub without_last : (p : Past) → p.last ≡ None → record p { last = None } ≡ p
without_last p h = λ i. record p { last = sym h i }
