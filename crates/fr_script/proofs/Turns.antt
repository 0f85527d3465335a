-- What a turn says of the script where a reader stands.
use Rattle.std.specs.Prelude.{ℕ, ◌+◌, ◌≡◌, Bool, true, false, List, [], ◌∷◌, ◌++◌, length, drop, slice_get, Option, Some, None, is_some}
use Rattle.std.proofs.Common.{refl, sym, ◌∙◌, ap, subst, append_assoc, length-append}
use Rattle.std.proofs.Math.Seq.{drop-append_seam}
use Rattle.indexmap.specs.IndexMap.{get_by_text}
use Rattle.fr_core.specs.declared.inputs.Inputs.{Inputs}
use Rattle.fr_script.specs.declared.turn.Turn.{Turn}
use Rattle.fr_script.specs.declared.turn.Turn.TheVariants as turn
use Rattle.fr_script.specs.declared.line_reader.LineReader.{LineReader}
use Rattle.fr_script.specs.Sources.{Named, named}
use Rattle.fr_script.specs.Instants.{BadLine, Found, whole, bad_line}
use Rattle.fr_script.specs.Ahead.{none_before, nothing, ahead}
use Rattle.fr_script.specs.Stands.{is_told, MayFollow, unless_bad, ahead_of, Stands, IsNext, IsAll, IsBad, TurnSays, given_after}
use Rattle.fr_script.specs.Steps.{Onward, only_bad, TurnGoes}
use Rattle.fr_script.proofs.Wholes.{all_ahead, bad_ahead}
use Rattle.fr_script.proofs.Goes.{append_nil, with_rest}

none_follows : (told : Bool) → MayFollow told [] told
none_follows true = (refl, refl)
none_follows false = tt

pub told_same : (a b : Bool) (more : List ℕ) (ended : Bool) → a ≡ b → MayFollow a more ended → MayFollow b more ended
told_same a b more ended h f = subst (λ x. MayFollow x more ended) h f

get_seam : (xs ys : List Inputs) (i : Inputs) → slice_get (xs ++ i ∷ ys) (length xs) ≡ Some i
get_seam [] ys i = refl
get_seam (x ∷ xs) ys i = get_seam xs ys i

-- the instant behind those given is the next of all
next_drop : (xs ys : List Inputs) (i : Inputs) (given : ℕ) (is : List Inputs) → is ≡ xs ++ i ∷ ys → length xs ≡ given → drop given is ≡ i ∷ drop (given + 1) is
next_drop xs ys i given is h k =
    ap (drop given) h ∙ ap (λ n. drop n (xs ++ i ∷ ys)) (sym k) ∙ drop-append_seam xs (i ∷ ys)
    ∙ sym (ap (λ z. i ∷ z) (ap (drop (given + 1)) (h ∙ sym (append_assoc xs (i ∷ []) ys)) ∙ ap (λ n. drop n ((xs ++ i ∷ []) ++ ys)) (ap (λ n. n + 1) (sym k) ∙ sym (length-append xs (i ∷ []))) ∙ drop-append_seam (xs ++ i ∷ []) ys))

next_get : (xs ys : List Inputs) (i : Inputs) (given : ℕ) (is : List Inputs) → is ≡ xs ++ i ∷ ys → length xs ≡ given → slice_get is given ≡ Some i
next_get xs ys i given is h k = ap (λ x. slice_get x given) h ∙ ap (slice_get (xs ++ i ∷ ys)) (sym k) ∙ get_seam xs ys i

-- the reader behind a step without an instant stands where it stood
onward_stands : (old new : LineReader) → Onward old None new → (ss : List Named) (fed : List ℕ) (given : ℕ) → Stands old ss fed given → Stands new ss fed given
onward_stands old new h ss fed given s = record {
  instants = s.instants;
  given_is = s.given_is;
  goes_on = λ more ended f.
      let g = told_same (is_told new) (is_told old) more ended h.told f in
      let m = s.goes_on more ended g in
      record { instants = m.instants ∙ ap (λ x. s.instants ++ x.instants) (h.same more ended g); bad = m.bad ∙ ap (λ x. x.bad) (h.same more ended g) };
}

-- the reader behind a step with an instant has given it
instant_stands : (old new : LineReader) (i : Inputs) → Onward old (Some i) new → (ss : List Named) (fed : List ℕ) (given : ℕ) → Stands old ss fed given → Stands new ss fed (given + 1)
instant_stands old new i h ss fed given s = record {
  instants = s.instants ++ i ∷ [];
  given_is = length-append s.instants (i ∷ []) ∙ ap (λ n. n + 1) s.given_is;
  goes_on = λ more ended f.
      let g = told_same (is_told new) (is_told old) more ended h.told f in
      let m = s.goes_on more ended g in
      record {
        instants = m.instants ∙ ap (λ x. s.instants ++ x.instants) (h.same more ended g) ∙ sym (append_assoc s.instants (i ∷ []) (ahead_of new more ended).instants);
        bad = m.bad ∙ ap (λ x. x.bad) (h.same more ended g);
      };
}

instant_next : (old new : LineReader) (i : Inputs) → Onward old (Some i) new → (ss : List Named) (fed : List ℕ) (given : ℕ) → Stands old ss fed given → IsNext i ss fed (is_told old) given
instant_next old new i h ss fed given s =
    let told = is_told old in
    let f = none_follows told in
    let m = s.goes_on [] told f in
    record {
      here = ap (λ b. slice_get (whole ss b told) given) (sym (append_nil fed)) ∙ next_get s.instants (ahead_of new [] told).instants i given (whole ss (fed ++ []) told) (m.instants ∙ ap (λ x. s.instants ++ x.instants) (h.same [] told f)) s.given_is;
      whatever = λ more ended g. next_drop s.instants (ahead_of new more ended).instants i given (whole ss (fed ++ more) ended) ((s.goes_on more ended g).instants ∙ ap (λ x. s.instants ++ x.instants) (h.same more ended g)) s.given_is;
    }

-- where nothing is ahead but perhaps a bad line, all were given
given_all : (xs : List Inputs) (given : ℕ) (is : List Inputs) → is ≡ xs ++ [] → length xs ≡ given → length is ≡ given
given_all xs given is h k = ap length (h ∙ append_nil xs) ∙ k

nothing_ahead : (old : LineReader) (told : Bool) → is_told old ≡ told → ahead_of old [] told ≡ nothing → (ss : List Named) (fed : List ℕ) (given : ℕ) → Stands old ss fed given → IsAll ss fed (is_told old) given
nothing_ahead old told e h ss fed given s =
    let f = none_follows (is_told old) in
    let m = s.goes_on [] (is_told old) f in
    let k : ahead_of old [] (is_told old) ≡ nothing = ap (ahead_of old []) e ∙ h in
    record {
      all = ap (λ b. length (whole ss b (is_told old))) (sym (append_nil fed)) ∙ given_all s.instants given (whole ss (fed ++ []) (is_told old)) (m.instants ∙ ap (λ x. s.instants ++ x.instants) k) s.given_is;
      good = ap (λ b. bad_line ss b (is_told old)) (sym (append_nil fed)) ∙ m.bad ∙ ap (λ x. x.bad) k;
    }

bad_ahead_of : (old : LineReader) (b : BadLine) → ((more : List ℕ) (ended : Bool) → MayFollow (is_told old) more ended → ahead_of old more ended ≡ only_bad b)
    → (ss : List Named) (fed : List ℕ) (given : ℕ) → Stands old ss fed given → IsBad b ss fed (is_told old) given
bad_ahead_of old b h ss fed given s =
    let f = none_follows (is_told old) in
    let m = s.goes_on [] (is_told old) f in
    let k = h [] (is_told old) f in
    record {
      all = ap (λ b. length (whole ss b (is_told old))) (sym (append_nil fed)) ∙ given_all s.instants given (whole ss (fed ++ []) (is_told old)) (m.instants ∙ ap (λ x. s.instants ++ x.instants) k) s.given_is;
      bad = ap (λ b. bad_line ss b (is_told old)) (sym (append_nil fed)) ∙ m.bad ∙ ap (λ x. x.bad) k;
      whatever = λ more ended g.
          let n = s.goes_on more ended g in
          (given_all s.instants given (whole ss (fed ++ more) ended) (n.instants ∙ ap (λ x. s.instants ++ x.instants) (h more ended g)) s.given_is, n.bad ∙ ap (λ x. x.bad) (h more ended g));
    }

-- what a turn says, and where the reader stands behind it
pub turn_says : (t : Turn) (old new : LineReader) → TurnGoes t old new → (ss : List Named) (fed : List ℕ) (given : ℕ) → Stands old ss fed given
    → TurnSays t ss fed (is_told old) given × Stands new ss fed (given_after t given)
turn_says (turn.Instant i) old new h ss fed given s = (instant_next old new i h ss fed given s, instant_stands old new i h ss fed given s)
turn_says turn.More old new h ss fed given s = ((h.1, nothing_ahead old false h.1 h.2 ss fed given s), onward_stands old new h.0 ss fed given s)
turn_says turn.End old new h ss fed given s = ((h.1, nothing_ahead old true h.1 h.2 ss fed given s), onward_stands old new h.0 ss fed given s)
turn_says (turn.Refused line k) old new h ss fed given s = (bad_ahead_of old (line, k) h.1 ss fed given s, onward_stands old new h.0 ss fed given s)

pub stands_on : (old new : LineReader) → Onward old None new → (ss : List Named) (fed : List ℕ) (given : ℕ) → Stands old ss fed given → Stands new ss fed given
stands_on = onward_stands

-- steps without an instant, one after the other
pub onward_then : (a b c : LineReader) (i : Option Inputs) → Onward a None b → Onward b i c → Onward a i c
onward_then a b c i h k = record {
  told = k.told ∙ h.told;
  same = λ more ended f. h.same more ended f ∙ k.same more ended (told_same (is_told a) (is_told b) more ended (sym h.told) f);
}

pub goes_then : (t : Turn) (a b c : LineReader) → Onward a None b → TurnGoes t b c → TurnGoes t a c
goes_then (turn.Instant i) a b c h k = onward_then a b c (Some i) h k
goes_then turn.More a b c h k =
    let told = sym h.told ∙ k.1 in
    (onward_then a b c None h k.0, told, h.same [] false (told_same false (is_told a) [] false (sym told) tt) ∙ k.2)
goes_then turn.End a b c h k =
    let told = sym h.told ∙ k.1 in
    (onward_then a b c None h k.0, told, h.same [] true (told_same true (is_told a) [] true (sym told) (refl, refl)) ∙ k.2)
goes_then (turn.Refused line x) a b c h k =
    (onward_then a b c None h k.0, λ more ended f. h.same more ended f ∙ k.1 more ended (told_same (is_told a) (is_told b) more ended (sym h.told) f))

pub goes_told : (t : Turn) (old new : LineReader) → TurnGoes t old new → is_told new ≡ is_told old
goes_told (turn.Instant i) old new h = h.told
goes_told turn.More old new h = h.0.told
goes_told turn.End old new h = h.0.told
goes_told (turn.Refused line k) old new h = h.0.told

pub here : (r : LineReader) → Onward r None r
here r = record { told = refl; same = λ more ended f. refl }

may_still : (told : Bool) (more : List ℕ) (ended : Bool) → MayFollow true more ended → MayFollow told more ended
may_still true more ended f = f
may_still false more ended f = tt

-- a reader that is told the end
pub told_stands : (r : LineReader) (ss : List Named) (fed : List ℕ) (given : ℕ) → Stands r ss fed given → Stands (record r { ended = true }) ss fed given
unfolding ahead_of
told_stands r ss fed given s = record {
  instants = s.instants;
  given_is = s.given_is;
  goes_on = λ more ended f. let m = s.goes_on more ended (may_still (is_told r) more ended f) in record { instants = m.instants; bad = m.bad };
}

-- a reader that is fed a piece
pub fed_stands : (r : LineReader) (rest piece : List ℕ) → is_told r ≡ false → rest ≡ r.rest ++ piece → (ss : List Named) (fed : List ℕ) (given : ℕ) → Stands r ss fed given → Stands (with_rest r rest) ss (fed ++ piece) given
unfolding ahead_of
fed_stands r rest piece told e ss fed given s = record {
  instants = s.instants;
  given_is = s.given_is;
  goes_on = λ more ended f.
      let m = s.goes_on (piece ++ more) ended (told_same false (is_told r) (piece ++ more) ended (sym told) tt) in
      let same : ahead_of r (piece ++ more) ended ≡ ahead_of (with_rest r rest) more ended =
      ap (λ x. unless_bad r.bad (ahead (get_by_text r.names) r.past x ended)) (sym (append_assoc r.rest piece more) ∙ ap (λ x. x ++ more) (sym e)) in
      record {
        instants = ap (λ b. whole ss b ended) (append_assoc fed piece more) ∙ m.instants ∙ ap (λ x. s.instants ++ x.instants) same;
        bad = ap (λ b. bad_line ss b ended) (append_assoc fed piece more) ∙ m.bad ∙ ap (λ x. x.bad) same;
      };
}

-- a reader before the first byte
pub new_stands : (r : LineReader) (ss : List Named) → ((q : List ℕ) → get_by_text r.names q ≡ named ss q) → r.past ≡ none_before → r.rest ≡ [] → r.bad ≡ None → Stands r ss [] 0
unfolding ahead_of
new_stands r ss names past rest bad = record {
  instants = [];
  given_is = refl;
  goes_on = λ more ended f.
      let same : ahead_of r more ended ≡ ahead (named ss) none_before more ended =
      ap (λ b. unless_bad b (ahead (get_by_text r.names) r.past (r.rest ++ more) ended)) bad
      ∙ ap (λ x. ahead (get_by_text r.names) r.past (x ++ more) ended) rest ∙ ap (λ p. ahead (get_by_text r.names) p more ended) past
      ∙ (λ i. ahead (λ q. names q i) none_before more ended) in
      record { instants = all_ahead ss more ended ∙ ap (λ x. x.instants) (sym same); bad = bad_ahead ss more ended ∙ ap (λ x. x.bad) (sym same) };
}

-- a reader that met a bad line and is fed a piece
pub bad_stands : (r : LineReader) (piece : List ℕ) → is_told r ≡ false → is_some r.bad ≡ true → (ss : List Named) (fed : List ℕ) (given : ℕ) → Stands r ss fed given → Stands r ss (fed ++ piece) given
unfolding ahead_of
bad_stands r piece told b ss fed given s = record {
  instants = s.instants;
  given_is = s.given_is;
  goes_on = λ more ended f.
      let m = s.goes_on (piece ++ more) ended (told_same false (is_told r) (piece ++ more) ended (sym told) tt) in
      let same = only_bad_ahead r.bad (ahead (get_by_text r.names) r.past (r.rest ++ (piece ++ more)) ended) (ahead (get_by_text r.names) r.past (r.rest ++ more) ended) b in
      record {
        instants = ap (λ b. whole ss b ended) (append_assoc fed piece more) ∙ m.instants ∙ ap (λ x. s.instants ++ x.instants) same;
        bad = ap (λ b. bad_line ss b ended) (append_assoc fed piece more) ∙ m.bad ∙ ap (λ x. x.bad) same;
      };
}
  where
    only_bad_ahead : (b : Option BadLine) (x y : Found) → is_some b ≡ true → unless_bad b x ≡ unless_bad b y
    only_bad_ahead None x y h = let e : false ≡ true = h in cc
    only_bad_ahead (Some b) x y h = refl
