-- What is ahead makes up the whole instants, with those that are closed.
use Rattle.std.specs.Prelude.{ℕ, ◌+◌, ◌≡◌, nat_lt, Bool, true, false, if◌then◌else◌, List, [], ◌∷◌, ◌++◌, length, Option, Some, None}
use Rattle.std.specs.Option.{option_to_list}
use Rattle.std.proofs.Common.{refl, sym, ◌∙◌, ap, subst, append_assoc, length-append}
use Rattle.fr_core.specs.declared.inputs.Entry.{Entry}
use Rattle.fr_core.specs.declared.inputs.Inputs.{Inputs}
use Rattle.fr_script.specs.declared.turn.LineKind.{LineKind}
use Rattle.fr_script.specs.declared.turn.LineKind.TheVariants as kind
use Rattle.fr_script.specs.declared.said.Said.{Said}
use Rattle.fr_script.specs.declared.said.Said.TheVariants as said
use Rattle.fr_script.specs.Lines.{cut}
use Rattle.fr_script.specs.Past.{Past}
use Rattle.fr_script.specs.Sources.{Named, named}
use Rattle.fr_script.specs.Kinds.{Names, begins, is_long, is_beyond, says}
use Rattle.fr_script.specs.Instants.{alone, with_entry, with_line, last_of, without_last, Taken, past_of, BadLine, Found, found_behind, found_all, found_rest, found_from, none_taken, whole_of, whole, bad_line}
use Rattle.fr_script.specs.Ahead.{none_before, passed, joins, set_in, closed_by, before, ahead_behind, ahead_end, nothing, ahead_rest, ahead_from, ahead}

-- lines taken, of which only the past is known, with the instants that they close
pub record IsSo (t : Taken) (p : Past) (closed : List Inputs) : Type 0 where
  pub past : past_of t ≡ p
  pub instants : t.instants ≡ closed ++ option_to_list p.last
  pub first : p.last ≡ None → closed ≡ []

-- what is found is what is closed and what is ahead
pub record IsWhole (late : Bool) (f : Found) (closed : List Inputs) (x : Found) : Type 0 where
  pub instants : whole_of late f.bad f.instants ≡ closed ++ x.instants
  pub bad : f.bad ≡ x.bad

last_snoc : (is : List Inputs) (i : Inputs) → last_of (is ++ i ∷ []) ≡ Some i
last_snoc [] i = refl
last_snoc (j ∷ []) i = refl
last_snoc (j ∷ k ∷ is) i = last_snoc (k ∷ is) i

without_snoc : (is : List Inputs) (i : Inputs) → without_last (is ++ i ∷ []) ≡ is
without_snoc [] i = refl
without_snoc (j ∷ []) i = refl
without_snoc (j ∷ k ∷ is) i = ap (λ x. j ∷ x) (without_snoc (k ∷ is) i)

with_snoc : (is : List Inputs) (i : Inputs) (time : ℕ) (e : Entry) → with_line (is ++ i ∷ []) time e ≡ is ++ with_line (i ∷ []) time e
with_snoc [] i time e = refl
with_snoc (j ∷ []) i time e = refl
with_snoc (j ∷ k ∷ is) i time e = ap (λ x. j ∷ x) (with_snoc (k ∷ is) i time e)

append_nil : (is : List Inputs) → is ++ [] ≡ is
append_nil [] = refl
append_nil (i ∷ is) = ap (λ x. i ∷ x) (append_nil is)

-- without the one that isn't whole, the closed ones are left
open_last : (closed is : List Inputs) (last : Option Inputs) → is ≡ closed ++ option_to_list last → (last ≡ None → closed ≡ []) → without_last is ≡ closed
open_last closed is None h f = ap without_last (h ∙ ap (λ x. x ++ []) (f refl)) ∙ sym (f refl)
open_last closed is (Some i) h f = ap without_last h ∙ without_snoc closed i

same_past : (a b : Past) → a.lines ≡ b.lines → a.bytes ≡ b.bytes → a.count ≡ b.count → a.last ≡ b.last → a ≡ b
same_past a b h k m n = λ i. record { lines = h i; bytes = k i; count = m i; last = n i }

last_is : (closed is : List Inputs) (last : Option Inputs) → is ≡ closed ++ option_to_list last → (last ≡ None → closed ≡ []) → last_of is ≡ last
last_is closed is None h f = ap last_of (h ∙ ap (λ x. x ++ []) (f refl))
last_is closed is (Some i) h f = ap last_of h ∙ last_snoc closed i

-- the instants with one more line, by the last one and whether the line begins a further one
abbrev after : Option Inputs → Bool → ℕ → Entry → Inputs
after last true time e = alone time e
after last false time e = joins last time e

abbrev closes : Option Inputs → Bool → Option Inputs
closes last true = last
closes last false = None

list_nil : (xs : List Inputs) (ys : List Inputs) → (xs ++ []) ++ ys ≡ xs ++ ys
list_nil xs ys = ap (λ x. x ++ ys) (append_nil xs)

with_last : (closed is : List Inputs) (last : Option Inputs) (time : ℕ) (e : Entry) → is ≡ closed ++ option_to_list last → (last ≡ None → closed ≡ [])
    → with_line is time e ≡ (closed ++ option_to_list (closes last (begins last time))) ++ after last (begins last time) time e ∷ []
with_last closed is None time e h f = ap (λ x. with_line x time e) (h ∙ ap (λ x. x ++ []) (f refl)) ∙ ap (λ x. x ++ alone time e ∷ []) (sym (append_nil closed ∙ f refl))
with_last closed is (Some i) time e h f =
    ap (λ x. with_line x time e) h ∙ with_snoc closed i time e ∙ by_test (nat_lt i.time time)
  where
    by_test : (b : Bool) → closed ++ (if b then i ∷ alone time e ∷ [] else with_entry i e ∷ []) ≡ (closed ++ option_to_list (closes (Some i) b)) ++ after (Some i) b time e ∷ []
    by_test true = sym (append_assoc closed (i ∷ []) (alone time e ∷ []))
    by_test false = sym (list_nil closed (with_entry i e ∷ []))

abbrev counted : Bool → ℕ → ℕ
counted true c = c + 1
counted false c = c

set_as : (p : Past) (time : ℕ) (e : Entry) (n : ℕ)
    → passed (set_in p time e) n ≡ record { lines = p.lines + 1; bytes = p.bytes + n; count = counted (begins p.last time) p.count; last = Some (after p.last (begins p.last time) time e) }
set_as p time e n = by_test (begins p.last time)
  where
    by_test : (b : Bool)
        → passed (if b then record { lines = p.lines; bytes = p.bytes; count = p.count + 1; last = Some (alone time e) } else record { lines = p.lines; bytes = p.bytes; count = p.count; last = Some (joins p.last time e) }) n
        ≡ record { lines = p.lines + 1; bytes = p.bytes + n; count = counted b p.count; last = Some (after p.last b time e) }
    by_test true = refl
    by_test false = refl

closed_as : (last : Option Inputs) (time : ℕ) → closed_by last time ≡ closes last (begins last time)
closed_as last time = by_test (begins last time)
  where
    by_test : (b : Bool) → (if b then last else None) ≡ closes last b
    by_test true = refl
    by_test false = refl

-- the number of instants, by whether one was begun
count_as : (closed : List Inputs) (last : Option Inputs) (i : Inputs) (b : Bool) (c : ℕ) → length (closed ++ option_to_list last) ≡ c → (last ≡ None → b ≡ true) → length ((closed ++ option_to_list (closes last b)) ++ i ∷ []) ≡ counted b c
count_as closed last i true c h f = length-append (closed ++ option_to_list last) (i ∷ []) ∙ ap (λ n. n + 1) h
count_as closed None i false c h f = let e : false ≡ true = f refl in cc
count_as closed (Some j) i false c h f = length-append (closed ++ []) (i ∷ []) ∙ ap (λ x. length x + 1) (append_nil closed) ∙ sym (length-append closed (j ∷ [])) ∙ h

begins_none : (last : Option Inputs) (time : ℕ) → last ≡ None → begins last time ≡ true
begins_none last time h = ap (λ x. begins x time) h

-- behind a line that sets a value
set_so : (t : Taken) (p : Past) (closed : List Inputs) (n time : ℕ) (e : Entry) → IsSo t p closed
    → IsSo (record { lines = t.lines + 1; bytes = t.bytes + n; instants = with_line t.instants time e }) (passed (set_in p time e) n) (closed ++ option_to_list (closed_by p.last time))
set_so t p closed n time e s =
    let same = with_last closed t.instants p.last time e s.instants s.first in
    let new : Past = record { lines = p.lines + 1; bytes = p.bytes + n; count = counted (begins p.last time) p.count; last = Some (after p.last (begins p.last time) time e) } in
    let base = closed ++ option_to_list (closes p.last (begins p.last time)) in
    let i = after p.last (begins p.last time) time e in
    let count : length (with_line t.instants time e) ≡ counted (begins p.last time) p.count =
    ap length same ∙ count_as closed p.last i (begins p.last time) p.count (ap length (sym s.instants) ∙ ap (λ q. q.count) s.past) (begins_none p.last time) in
    let past : past_of (record { lines = t.lines + 1; bytes = t.bytes + n; instants = with_line t.instants time e }) ≡ new =
    same_past _ new (ap (λ q. q.lines + 1) s.past) (ap (λ q. q.bytes + n) s.past) count (ap last_of same ∙ last_snoc base i) in
    record {
      past = past ∙ sym (set_as p time e n);
      instants = same ∙ ap (λ c. (closed ++ option_to_list c) ++ i ∷ []) (sym (closed_as p.last time)) ∙ ap (λ q. (closed ++ option_to_list (closed_by p.last time)) ++ option_to_list q.last) (sym (set_as p time e n));
      first = λ h. let k : Some i ≡ None = sym (ap (λ q. q.last) (set_as p time e n)) ∙ h in cc;
    }

blank_so : (t : Taken) (p : Past) (closed : List Inputs) (n : ℕ) → IsSo t p closed → IsSo (record { lines = t.lines + 1; bytes = t.bytes + n; instants = t.instants }) (passed p n) closed
blank_so t p closed n s = record {
  past = ap (λ q. passed q n) s.past;
  instants = s.instants;
  first = s.first;
}

late_bad : (late : Bool) (b : BadLine) (is : List Inputs) → whole_of late (Some b) is ≡ without_last is
late_bad true b is = refl
late_bad false b is = refl

bad_whole : (late : Bool) (t : Taken) (p : Past) (closed : List Inputs) (k : LineKind) → IsSo t p closed
    → IsWhole late (record { instants = t.instants; bad = Some (t.lines + 1, k) }) closed (record { instants = []; bad = Some (p.lines + 1, k) })
bad_whole late t p closed k s = record {
  instants = late_bad late (t.lines + 1, k) t.instants ∙ open_last closed t.instants p.last s.instants s.first ∙ sym (append_nil closed);
  bad = ap (λ q. Some (q.lines + 1, k)) s.past;
}

end_whole : (t : Taken) (p : Past) (closed : List Inputs) → IsSo t p closed → IsWhole true (found_all t) closed (ahead_end p)
end_whole t p closed s = record { instants = s.instants; bad = refl }

nothing_whole : (t : Taken) (p : Past) (closed : List Inputs) → IsSo t p closed → IsWhole false (found_all t) closed nothing
nothing_whole t p closed s = record { instants = open_last closed t.instants p.last s.instants s.first ∙ sym (append_nil closed); bad = refl }

-- an instant that is closed stands before what is ahead
before_whole : (late : Bool) (f : Found) (closed : List Inputs) (c : Option Inputs) (x : Found) → IsWhole late f (closed ++ option_to_list c) x → IsWhole late f closed (before c x)
before_whole late f closed None x w = record { instants = w.instants ∙ list_nil closed x.instants; bad = w.bad }
before_whole late f closed (Some i) x w = record { instants = w.instants ∙ append_assoc closed (i ∷ []) x.instants; bad = w.bad }

-- a line, and what is behind it
behind_whole : (late : Bool) (t : Taken) (p : Past) (closed : List Inputs) (s : Said) (n : ℕ) (f : Taken → Found) (x : Past → Found) → IsSo t p closed
    → ((u : Taken) (q : Past) (more : List Inputs) → IsSo u q more → IsWhole late (f u) more (x q)) → IsWhole late (found_behind s t n f) closed (ahead_behind s p n x)
behind_whole late t p closed said.Blank n f x so next = next _ (passed p n) closed (blank_so t p closed n so)
behind_whole late t p closed (said.Sets time e) n f x so next =
    before_whole late _ closed (closed_by p.last time) (x (passed (set_in p time e) n)) (next _ (passed (set_in p time e) n) (closed ++ option_to_list (closed_by p.last time)) (set_so t p closed n time e so))
behind_whole late t p closed (said.Bad k) n f x so next = bad_whole late t p closed k so

says_so : (names : Names) (t : Taken) (p : Past) (closed line : List ℕ) (n : ℕ) → past_of t ≡ p → says names (past_of t) line n ≡ says names p line n
says_so names t p closed line n h = ap (λ q. says names q line n) h

abbrev tested : Bool → Bool → ℕ → List Inputs → Found → Found
tested x y n is f = if x then record { instants = is; bad = Some (n + 1, kind.Long) } else (if y then record { instants = is; bad = Some (n + 1, kind.Many) } else f)

rest_whole : (names : Names) (t : Taken) (p : Past) (closed : List Inputs) (rest : List ℕ) (late : Bool) → IsSo t p closed → IsWhole late (found_rest names t rest late) closed (ahead_rest names p rest late)
rest_whole names t p closed [] true so = end_whole t p closed so
rest_whole names t p closed [] false so = nothing_whole t p closed so
rest_whole names t p closed (b ∷ bs) true so =
    subst (λ q. IsWhole true (found_behind (says names q (b ∷ bs) (length (b ∷ bs))) t (length (b ∷ bs)) found_all) closed (ahead_behind (says names p (b ∷ bs) (length (b ∷ bs))) p (length (b ∷ bs)) ahead_end)) (sym so.past)
    (behind_whole true t p closed (says names p (b ∷ bs) (length (b ∷ bs))) (length (b ∷ bs)) found_all ahead_end so (λ u q more s. end_whole u q more s))
rest_whole names t p closed (b ∷ bs) false so =
    subst (λ m. IsWhole false (tested (is_long m (b ∷ bs)) (is_beyond m (length (b ∷ bs))) t.lines t.instants (found_all t)) closed (ahead_rest names p (b ∷ bs) false)) (sym (ap (λ q. q.bytes) so.past))
    (by_tests (is_long p.bytes (b ∷ bs)) (is_beyond p.bytes (length (b ∷ bs))))
  where
    by_tests : (x y : Bool) → IsWhole false (tested x y t.lines t.instants (found_all t)) closed (tested x y p.lines [] nothing)
    by_tests true y = bad_whole false t p closed kind.Long so
    by_tests false true = bad_whole false t p closed kind.Many so
    by_tests false false = nothing_whole t p closed so

from_whole : (names : Names) (ls : List (List ℕ)) (t : Taken) (p : Past) (closed : List Inputs) (rest : List ℕ) (late : Bool) → IsSo t p closed → IsWhole late (found_from names t ls rest late) closed (ahead_from names p ls rest late)
unfolding found_from ahead_from
from_whole names [] t p closed rest late so = rest_whole names t p closed rest late so
from_whole names (l ∷ ls) t p closed rest late so =
    subst (λ q. IsWhole late (found_behind (says names q l (length l + 1)) t (length l + 1) (λ u. found_from names u ls rest late)) closed (ahead_behind (says names p l (length l + 1)) p (length l + 1) (λ q. ahead_from names q ls rest late))) (sym so.past)
    (behind_whole late t p closed (says names p l (length l + 1)) (length l + 1) (λ u. found_from names u ls rest late) (λ q. ahead_from names q ls rest late) so (λ u q more s. from_whole names ls u q more rest late s))

-- at the beginning, all is ahead
pub all_ahead : (ss : List Named) (bytes : List ℕ) (late : Bool) → whole ss bytes late ≡ (ahead (named ss) none_before bytes late).instants
unfolding whole ahead
all_ahead ss bytes late = (from_whole (named ss) (cut bytes).0 none_taken none_before [] (cut bytes).1 late (record { past = refl; instants = refl; first = λ h. refl })).instants

pub bad_ahead : (ss : List Named) (bytes : List ℕ) (late : Bool) → bad_line ss bytes late ≡ (ahead (named ss) none_before bytes late).bad
unfolding bad_line ahead
bad_ahead ss bytes late = (from_whole (named ss) (cut bytes).0 none_taken none_before [] (cut bytes).1 late (record { past = refl; instants = refl; first = λ h. refl })).bad
