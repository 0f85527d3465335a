-- What follows from what a line says.
use Rattle.std.specs.Prelude.{ℕ, ◌≡◌, ◌<◌, ◌≤◌, ◌+◌, ◌&&◌, ◌==◌, not, nat_le, Bool, true, false, if◌then◌else◌, List, Option, Some, None, is_some}
use Rattle.std.specs.Str.Parse.{digits_value}
use Rattle.std.proofs.Common.{refl, sym, ap, subst, subst₂, arith}
use Rattle.std.proofs.lemmas.Bool.Decides.{nat_tests}
use Rattle.fr_value.specs.declared.ids.SrcId.{SrcId}
use Rattle.fr_value.specs.declared.value.Datum.{Datum}
use Rattle.fr_core.specs.declared.inputs.Entry.{Entry}
use Rattle.fr_core.specs.declared.inputs.Inputs.{Inputs}
use Rattle.fr_core.specs.Sets.{value_in}
use Rattle.fr_script.specs.declared.sources.Source.{Source}
use Rattle.fr_script.specs.declared.turn.LineKind.{LineKind}
use Rattle.fr_script.specs.declared.turn.LineKind.TheVariants as kind
use Rattle.fr_script.specs.declared.said.Said.{Said}
use Rattle.fr_script.specs.declared.said.Said.TheVariants as said
use Rattle.fr_script.specs.Limits.{script_limit, instant_limit}
use Rattle.fr_script.specs.Reading.{reading}
use Rattle.fr_script.specs.Lines.{Fields, is_blank_line, fields}
use Rattle.fr_script.specs.Past.{Past}
use Rattle.fr_script.specs.Kinds.{Names, last_time, is_long, is_beyond, is_time, begins, is_full, is_wrong, stands, says_value, says_source, says_at, says_fields, says}
use Rattle.fr_script.specs.Instants.{alone}
use Rattle.fr_script.specs.Ahead.{CanJoin, MaySet, joins, set_in}

-- the line isn't bad
abbrev pub IsGood : Said → Type 0
IsGood said.Blank = Unit {0}
IsGood (said.Sets time e) = Unit {0}
IsGood (said.Bad k) = ⊥

-- a good line passed the test for a kind
passes : (b : Bool) (k : LineKind) (s x : Said) → IsGood x → (if b then said.Bad k else s) ≡ x → (b ≡ false) × (s ≡ x)
passes true k s x g h = absurd (subst IsGood (sym h) g)
passes false k s x g h = (refl, h)

-- a good line is within the script's limit
pub good_fits : (names : Names) (p : Past) (line : List ℕ) (n : ℕ) → IsGood (says names p line n) → p.bytes + n ≤ script_limit
unfolding says
good_fits names p line n g =
    let a = passes (is_long p.bytes line) kind.Long (if is_beyond p.bytes n then said.Bad kind.Many else (if is_blank_line line then said.Blank else says_fields names p (fields line))) (says names p line n) g refl in
    let b = passes (is_beyond p.bytes n) kind.Many (if is_blank_line line then said.Blank else says_fields names p (fields line)) (says names p line n) g a.1 in
    not_beyond p.bytes n b.0
  where
    not_beyond : (b m : ℕ) → is_beyond b m ≡ false → b + m ≤ script_limit
    not_beyond b m h = grind (arith, nat_tests)

time_of : ℕ → Said → ℕ
time_of d said.Blank = d
time_of d (said.Sets t e) = t
time_of d (said.Bad k) = d

source_of : SrcId → Said → SrcId
source_of d said.Blank = d
source_of d (said.Sets t e) = e.source
source_of d (said.Bad k) = d

value_tells : (t time : ℕ) (s : SrcId) (o : Option Datum) (e : Entry) → says_value t s o ≡ said.Sets time e → (t ≡ time) × (s ≡ e.source)
unfolding time_of source_of
value_tells t time s None e h = absurd (subst IsGood (sym h) tt)
value_tells t time s (Some d) e h = (ap (time_of t) h, ap (source_of s) h)

source_tells : (p : Past) (t time : ℕ) (rest : List ℕ) (o : Option Source) (e : Entry) → says_source p t rest o ≡ said.Sets time e → (t ≡ time) × (stands p.last time e.source ≡ false)
source_tells p t time rest None e h = absurd (subst IsGood (sym h) tt)
source_tells p t time rest (Some s) e h =
    let a = passes (stands p.last t s.source) kind.Twice (says_value t s.source (reading rest)) (said.Sets time e) tt h in
    let b = value_tells t time s.source (reading rest) e a.1 in
    (b.0, subst₂ (λ x y. stands p.last x y ≡ false) b.0 b.1 a.0)

not_full : (t c : ℕ) (b : Bool) → (is_time t && (b && nat_le instant_limit c)) ≡ false → is_time t ≡ true → b ≡ true → c < instant_limit
not_full t c b h i j = let k : nat_le instant_limit c ≡ false = rw (i, j) at h in grind (arith, nat_tests)

not_wrong : (a b : Bool) → not (a && b) ≡ false → (a ≡ true) × (b ≡ true)
not_wrong true true h = (refl, refl)
not_wrong true false h = let e : true ≡ false = h in cc
not_wrong false true h = let e : true ≡ false = h in cc
not_wrong false false h = let e : true ≡ false = h in cc

none_of : {A : Type 0} (o : Option A) → is_some o ≡ false → o ≡ None
none_of None h = refl
none_of (Some x) h = let e : true ≡ false = h in cc

can_join : (last : Option Inputs) (time : ℕ) (s : SrcId) → nat_le (last_time last) time ≡ true → stands last time s ≡ false → begins last time ≡ false → CanJoin last s
can_join None time s h k b = let e : true ≡ false = b in cc
can_join (Some i) time s h k b =
    let same : (i.time == time) ≡ true = grind (arith, nat_tests) in
    none_of (value_in s i.sets) (rw same at k)

at_tells : (names : Names) (p : Past) (t time : ℕ) (name rest : List ℕ) (e : Entry) → says_at names p t name rest ≡ said.Sets time e → MaySet p time e.source
at_tells names p t time name rest e h =
    let a = passes (is_full p t) kind.Many (if is_wrong p t then said.Bad kind.Time else says_source p t rest (names name)) (said.Sets time e) tt h in
    let b = passes (is_wrong p t) kind.Time (says_source p t rest (names name)) (said.Sets time e) tt a.1 in
    let c = source_tells p t time rest (names name) e b.1 in
    let w = not_wrong (is_time t) (nat_le (last_time p.last) t) b.0 in
    record {
      room = λ i. not_full t p.count (begins p.last t) a.0 w.0 (subst (λ x. begins p.last x ≡ true) (sym c.0) i);
      free = λ i. can_join p.last time e.source (subst (λ x. nat_le (last_time p.last) x ≡ true) c.0 w.1) c.1 i;
    }

fields_tell : (names : Names) (p : Past) (time : ℕ) (o : Option Fields) (e : Entry) → says_fields names p o ≡ said.Sets time e → MaySet p time e.source
fields_tell names p time None e h = absurd (subst IsGood (sym h) tt)
fields_tell names p time (Some f) e h = at_tells names p (digits_value 10 f.time) time f.name f.rest e h

-- a line that sets a value may set it
pub sets_tell : (names : Names) (p : Past) (line : List ℕ) (n time : ℕ) (e : Entry) → says names p line n ≡ said.Sets time e → MaySet p time e.source
unfolding says
sets_tell names p line n time e h =
    let a = passes (is_long p.bytes line) kind.Long (if is_beyond p.bytes n then said.Bad kind.Many else (if is_blank_line line then said.Blank else says_fields names p (fields line))) (said.Sets time e) tt h in
    let b = passes (is_beyond p.bytes n) kind.Many (if is_blank_line line then said.Blank else says_fields names p (fields line)) (said.Sets time e) tt a.1 in
    blank (is_blank_line line) b.1
  where
    blank : (x : Bool) → (if x then said.Blank else says_fields names p (fields line)) ≡ said.Sets time e → MaySet p time e.source
    blank true k = cc
    blank false k = fields_tell names p time (fields line) e k

-- a value that is set takes no bytes
pub set_bytes : (p : Past) (time : ℕ) (e : Entry) → (set_in p time e).bytes ≡ p.bytes
set_bytes p time e = by_test (begins p.last time)
  where
    by_test : (b : Bool) → (let q : Past = if b then record { lines = p.lines; bytes = p.bytes; count = p.count + 1; last = Some (alone time e) } else record { lines = p.lines; bytes = p.bytes; count = p.count; last = Some (joins p.last time e) } in q.bytes) ≡ p.bytes
    by_test true = refl
    by_test false = refl
