-- The times of a script's instants are in range.
use Rattle.std.specs.Prelude.{ℕ, ◌+◌, ◌≤◌, ◌≡◌, ◌&&◌, not, nat_le, Bool, true, false, if◌then◌else◌, List, [], ◌∷◌, length, drop, Option, Some, None}
use Rattle.std.specs.Str.Parse.{digits_value}
use Rattle.std.proofs.Common.{refl, subst, arith, zero, suc}
use Rattle.std.proofs.lemmas.Bool.Decides.{nat_tests}
use Rattle.fr_value.specs.declared.ids.SrcId.{SrcId}
use Rattle.fr_value.specs.declared.value.Datum.{Datum}
use Rattle.fr_core.specs.Sets.{greatest_time}
use Rattle.fr_core.specs.declared.inputs.Entry.{Entry}
use Rattle.fr_core.specs.declared.inputs.Inputs.{Inputs}
use Rattle.fr_script.specs.declared.sources.Source.{Source}
use Rattle.fr_script.specs.declared.turn.LineKind.{LineKind}
use Rattle.fr_script.specs.declared.turn.LineKind.TheVariants as kind
use Rattle.fr_script.specs.declared.said.Said.{Said}
use Rattle.fr_script.specs.declared.said.Said.TheVariants as said
use Rattle.fr_script.specs.Reading.{reading}
use Rattle.fr_script.specs.Lines.{Fields, cut, is_blank_line, fields}
use Rattle.fr_script.specs.Past.{Past}
use Rattle.fr_script.specs.Sources.{Named, named}
use Rattle.fr_script.specs.Kinds.{Names, last_time, is_long, is_beyond, is_time, begins, is_full, is_wrong, stands, says_value, says_source, says_at, says_fields, says}
use Rattle.fr_script.specs.Instants.{alone, with_entry, with_line, without_last, Taken, past_of, BadLine, Found, found_behind, found_all, found_rest, found_from, none_taken, found, whole_of, whole}
use Rattle.fr_run.specs.Scripts.{ahead}

-- no instant has a time above the greatest
abbrev AllInRange : List Inputs → Type 0
AllInRange [] = Unit {0}
AllInRange (i ∷ is) = (i.time ≤ greatest_time) × AllInRange is

-- a line that sets a value has a time in range
abbrev SetsInRange : Said → Type 0
SetsInRange (said.Sets time e) = time ≤ greatest_time
SetsInRange other = Unit {0}

-- what a test for a kind leaves
unless_kind : (b : Bool) (k : LineKind) (s : Said) → (b ≡ false → SetsInRange s) → SetsInRange (if b then said.Bad k else s)
unless_kind true k s h = tt
unless_kind false k s h = h refl

right_time : (time : ℕ) (b : Bool) → not (is_time time && b) ≡ false → time ≤ greatest_time
right_time time b h = grind (arith, nat_tests)

value_in_range : (time : ℕ) (s : SrcId) (o : Option Datum) → time ≤ greatest_time → SetsInRange (says_value time s o)
value_in_range time s None h = tt
value_in_range time s (Some d) h = h

source_in_range : (p : Past) (time : ℕ) (rest : List ℕ) (o : Option Source) → time ≤ greatest_time → SetsInRange (says_source p time rest o)
source_in_range p time rest None h = tt
source_in_range p time rest (Some s) h = unless_kind (stands p.last time s.source) kind.Twice (says_value time s.source (reading rest)) (λ _. value_in_range time s.source (reading rest) h)

at_in_range : (names : Names) (p : Past) (time : ℕ) (name rest : List ℕ) → SetsInRange (says_at names p time name rest)
at_in_range names p time name rest =
    unless_kind (is_full p time) kind.Many (if is_wrong p time then said.Bad kind.Time else says_source p time rest (names name)) (λ _.
    unless_kind (is_wrong p time) kind.Time (says_source p time rest (names name)) (λ h.
    source_in_range p time rest (names name) (right_time time (nat_le (last_time p.last) time) h)))

fields_in_range : (names : Names) (p : Past) (o : Option Fields) → SetsInRange (says_fields names p o)
fields_in_range names p None = tt
fields_in_range names p (Some f) = at_in_range names p (digits_value 10 f.time) f.name f.rest

line_in_range : (names : Names) (p : Past) (line : List ℕ) (n : ℕ) → SetsInRange (says names p line n)
unfolding says
line_in_range names p line n =
    unless_kind (is_long p.bytes line) kind.Long (if is_beyond p.bytes n then said.Bad kind.Many else (if is_blank_line line then said.Blank else says_fields names p (fields line))) (λ _.
    unless_kind (is_beyond p.bytes n) kind.Many (if is_blank_line line then said.Blank else says_fields names p (fields line)) (λ _.
    blank (is_blank_line line)))
  where
    blank : (b : Bool) → SetsInRange (if b then said.Blank else says_fields names p (fields line))
    blank true = tt
    blank false = fields_in_range names p (fields line)

begun_in_range : (b : Bool) (i : Inputs) (time : ℕ) (e : Entry) → i.time ≤ greatest_time → time ≤ greatest_time
    → AllInRange (if b then i ∷ alone time e ∷ [] else with_entry i e ∷ [])
begun_in_range true i time e h k = (h, (k, tt))
begun_in_range false i time e h k = (h, tt)

with_in_range : (is : List Inputs) (time : ℕ) (e : Entry) → AllInRange is → time ≤ greatest_time → AllInRange (with_line is time e)
with_in_range [] time e h k = (k, tt)
with_in_range (i ∷ []) time e h k = begun_in_range (begins (Some i) time) i time e h.0 k
with_in_range (i ∷ j ∷ is) time e h k = (h.0, with_in_range (j ∷ is) time e h.1 k)

without_in_range : (is : List Inputs) → AllInRange is → AllInRange (without_last is)
without_in_range [] h = tt
without_in_range (i ∷ []) h = tt
without_in_range (i ∷ j ∷ is) h = (h.0, without_in_range (j ∷ is) h.1)

drop_in_range : (n : ℕ) (is : List Inputs) → AllInRange is → AllInRange (drop n is)
drop_in_range zero is h = h
drop_in_range (suc n) [] h = tt
drop_in_range (suc n) (i ∷ is) h = drop_in_range n is h.1

-- what is found behind instants in range is in range
abbrev Keeps : (Taken → Found) → Type 0
Keeps next = (t : Taken) → AllInRange t.instants → AllInRange (next t).instants

behind_in_range : (s : Said) (t : Taken) (n : ℕ) (next : Taken → Found) → SetsInRange s → Keeps next → AllInRange t.instants → AllInRange (found_behind s t n next).instants
behind_in_range said.Blank t n next s f h = f _ h
behind_in_range (said.Sets time e) t n next s f h = f _ (with_in_range t.instants time e h s)
behind_in_range (said.Bad k) t n next s f h = h

-- bytes that no byte 10 ends yet begin no instant
tested_in_range : (x y : Bool) (n : ℕ) (is : List Inputs) → AllInRange is
    → (let f : Found = if x then record { instants = is; bad = Some (n + 1, kind.Long) } else (if y then record { instants = is; bad = Some (n + 1, kind.Many) } else record { instants = is; bad = None }) in AllInRange f.instants)
tested_in_range true y n is h = h
tested_in_range false true n is h = h
tested_in_range false false n is h = h

rest_in_range : (names : Names) (rest : List ℕ) (ended : Bool) → Keeps (λ t. found_rest names t rest ended)
rest_in_range names [] ended t h = h
rest_in_range names (b ∷ bs) true t h =
    let n = length (b ∷ bs) in
    behind_in_range (says names (past_of t) (b ∷ bs) n) t n found_all (line_in_range names (past_of t) (b ∷ bs) n) (λ u k. k) h
rest_in_range names (b ∷ bs) false t h = tested_in_range (is_long t.bytes (b ∷ bs)) (is_beyond t.bytes (length (b ∷ bs))) t.lines t.instants h

from_in_range : (names : Names) (ls : List (List ℕ)) (rest : List ℕ) (ended : Bool) → Keeps (λ t. found_from names t ls rest ended)
unfolding found_from
from_in_range names [] rest ended t h = rest_in_range names rest ended t h
from_in_range names (l ∷ ls) rest ended t h =
    let n = length l + 1 in
    behind_in_range (says names (past_of t) l n) t n (λ u. found_from names u ls rest ended) (line_in_range names (past_of t) l n) (from_in_range names ls rest ended) h

whole_in_range : (ended : Bool) (bad : Option BadLine) (is : List Inputs) → AllInRange is → AllInRange (whole_of ended bad is)
whole_in_range true None is h = h
whole_in_range true (Some b) is h = without_in_range is h
whole_in_range false bad is h = without_in_range is h

-- a script's whole instants have times in range
pub times_in_range : (ss : List Named) (bytes : List ℕ) (ended : Bool) → AllInRange (whole ss bytes ended)
unfolding whole
times_in_range ss bytes ended =
    whole_in_range ended (found ss bytes ended).bad (found ss bytes ended).instants (from_in_range (named ss) (cut bytes).0 (cut bytes).1 ended none_taken tt)

-- so the next of a script's instants has
pub next_in_range : (ss : List Named) (script : List ℕ) (given : ℕ) (i : Inputs) (is : List Inputs) → ahead ss script given ≡ i ∷ is → i.time ≤ greatest_time
next_in_range ss script given i is h = (subst AllInRange h (drop_in_range given (whole ss script true) (times_in_range ss script true))).0
