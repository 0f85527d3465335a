-- The step to the next instant, from its parts.
use Rattle.std.proofs.Common.{◌≡◌, ◌<◌, List, [], ◌∷◌, ◌++◌, pos, ap, ◌∙◌, length, arith}
use Rattle.fr_value.specs.declared.ids.SrcId.{SrcId}
use Rattle.fr_value.specs.declared.value.Value.{Value}
use Rattle.fr_value.specs.declared.value.Value.TheVariants as value
use Rattle.fr_value.specs.declared.now.Now.TheVariants.{Plain}
use Rattle.fr_core.specs.Sets.{AreRising}
use Rattle.fr_core.specs.declared.inputs.Inputs.{Inputs}
use Rattle.fr_core.specs.declared.program.Program.{Program}
use Rattle.fr_meaning.specs.Afresh.{latest, sources_at}
use Rattle.fr_sources.specs.declared.sources.Sources.{Sources}
use Rattle.fr_sources.specs.Writes.{with_at, all_cleared, all_written}
use Rattle.fr_sources.specs.Places.{AreListed, AreTouched, HaveValues}
use Rattle.fr_sources.specs.Instants.{AreSourcesAt, Keeps, Advances}
use Rattle.fr_sources.proofs.Listed.{have_none, have_push, have_with, long_cleared, cleared_all, listed_cleared, listed_plain, listed_push, touched_cleared, touched_push}
use Rattle.fr_sources.proofs.Afterwards.{all_long, advanced}

-- the number of `now`
abbrev now_source : SrcId
now_source = record { 0 = 0 }

-- the parts of a step: what occurred is cleared, then what is set is written, then the time
pub record Parts (i : Inputs) (old settled set new : Sources) (t : Value) : Type 0 where
  pub cleared_values : settled.values.items ≡ all_cleared old.occurring.items old.values.items
  pub none_occurring : settled.occurring.items ≡ []
  pub touched_first : settled.touched.items ≡ old.occurring.items
  pub rising : AreRising i.sets
  pub set_values : set.values.items ≡ all_written i.sets settled.values.items
  pub keeps : Keeps settled set
  pub last_values : new.values.items ≡ with_at (λ _. Plain t) 0 set.values.items
  pub last_occurring : new.occurring.items ≡ set.occurring.items
  pub last_touched : new.touched.items ≡ set.touched.items ++ now_source ∷ []
  pub time : t ≡ value.Int (pos i.time)

next_values : (i : Inputs) (old settled set new : Sources) (t : Value) → Parts i old settled set new t → (p : Program) (vs : List Value) (was : Inputs) → AreSourcesAt p vs was old
    → new.values.items ≡ sources_at p (latest p.inputs vs i.sets) i
next_values i old settled set new t parts p vs was h =
    rw (parts.last_values, parts.set_values, parts.cleared_values, parts.time) (advanced p vs was i old.occurring.items old.values.items parts.rising h.occurring h.values)

-- after the clearing any list has all that occurs
settled_silent : (i : Inputs) (old settled set new : Sources) (t : Value) (ns : List SrcId) → Parts i old settled set new t → AreListed old.occurring.items old.values.items → AreListed ns settled.values.items
settled_silent i old settled set new t ns parts h = rw (parts.cleared_values, cleared_all old.occurring.items old.values.items h) (listed_cleared ns old.values.items)

next_occurring : (i : Inputs) (old settled set new : Sources) (t : Value) → Parts i old settled set new t → AreListed old.occurring.items old.values.items → AreListed new.occurring.items new.values.items
next_occurring i old settled set new t parts h =
    rw (parts.last_values, parts.last_occurring) (listed_plain t 0 set.occurring.items set.values.items (parts.keeps.occurring (settled_silent i old settled set new t settled.occurring.items parts h)))

next_listed : (i : Inputs) (old settled set new : Sources) (t : Value) → Parts i old settled set new t → AreListed old.occurring.items old.values.items → AreListed new.touched.items new.values.items
next_listed i old settled set new t parts h =
    rw (parts.last_values, parts.last_touched) (listed_push (λ _. Plain t) now_source set.touched.items set.values.items (parts.keeps.listed (settled_silent i old settled set new t settled.touched.items parts h)))

next_touched : (i : Inputs) (old settled set new : Sources) (t : Value) → Parts i old settled set new t → AreTouched old.values.items new.values.items new.touched.items
next_touched i old settled set new t parts =
    let first : AreTouched old.values.items settled.values.items settled.touched.items = rw (parts.cleared_values, parts.touched_first) (touched_cleared old.occurring.items old.values.items) in
    rw (parts.last_values, parts.last_touched) (touched_push (λ _. Plain t) now_source set.touched.items old.values.items set.values.items (parts.keeps.touched old.values.items first))

next_within : (i : Inputs) (old settled set new : Sources) (t : Value) → Parts i old settled set new t → HaveValues new.occurring.items new.values.items
next_within i old settled set new t parts =
    let none : HaveValues settled.occurring.items settled.values.items = rw parts.none_occurring (have_none settled.values.items) in
    rw (parts.last_values, parts.last_occurring) (have_with (λ _. Plain t) 0 set.occurring.items set.values.items (parts.keeps.occurring_within none))

next_touched_within : (i : Inputs) (old settled set new : Sources) (t : Value) → Parts i old settled set new t → 0 < length old.values.items → HaveValues old.occurring.items old.values.items
    → HaveValues new.touched.items new.values.items
next_touched_within i old settled set new t parts some h =
    let same = long_cleared old.occurring.items old.values.items in
    let first : HaveValues settled.touched.items settled.values.items = rw (parts.cleared_values, parts.touched_first, same) h in
    let long : length set.values.items ≡ length old.values.items = parts.keeps.long ∙ (ap length parts.cleared_values ∙ same) in
    rw (parts.last_values, parts.last_touched) (have_push (λ _. Plain t) now_source set.touched.items set.values.items (omega (arith, long, some)) (parts.keeps.touched_within first))

pub advances : (i : Inputs) (old settled set new : Sources) (t : Value) → Parts i old settled set new t → Advances i old new
advances i old settled set new t parts = record {
  values = λ p vs was h.
      let is = next_values i old settled set new t parts p vs was h in
      record {
        values = is;
        long = ap length is ∙ all_long p (latest p.inputs vs i.sets) i;
        occurring = next_occurring i old settled set new t parts h.occurring;
        occurring_within = next_within i old settled set new t parts;
        touched_within = next_touched_within i old settled set new t parts (omega (arith, h.long)) h.occurring_within;
      };
  changed = next_touched i old settled set new t parts;
  listed = next_listed i old settled set new t parts;
}
