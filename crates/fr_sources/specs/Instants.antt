-- The values of sources from one instant to the next.
use Rattle.std.specs.Prelude.{◌≡◌, ◌+◌, List, length}
use Rattle.fr_value.specs.declared.value.Value.{Value}
use Rattle.fr_value.specs.declared.now.Now.{Now}
use Rattle.fr_core.specs.WellFormed.{last_source}
use Rattle.fr_core.specs.declared.inputs.Inputs.{Inputs}
use Rattle.fr_core.specs.declared.program.Program.{Program}
use Rattle.fr_meaning.specs.Afresh.{latest, sources_at}
use Rattle.fr_sources.specs.declared.sources.Sources.{Sources}
use Rattle.fr_sources.specs.Places.{AreListed, AreTouched, HaveValues}

-- they are the values of a program's sources at an instant, at which its inputs have these values
pub record AreSourcesAt (p : Program) (vs : List Value) (i : Inputs) (s : Sources) : Type 0 where
  pub values : s.values.items ≡ sources_at p vs i
  pub long : length s.values.items ≡ last_source p + 1
  pub occurring : AreListed s.occurring.items s.values.items
  pub occurring_within : HaveValues s.occurring.items s.values.items
  pub touched_within : HaveValues s.touched.items s.values.items

-- what one writing after another keeps: the lists tell what they told, of what was before it too
pub record Keeps (before after : Sources) : Type 0 where
  pub occurring : AreListed before.occurring.items before.values.items → AreListed after.occurring.items after.values.items
  pub listed : AreListed before.touched.items before.values.items → AreListed after.touched.items after.values.items
  pub touched : (first : List Now) → AreTouched first before.values.items before.touched.items → AreTouched first after.values.items after.touched.items
  pub long : length after.values.items ≡ length before.values.items
  pub occurring_within : HaveValues before.occurring.items before.values.items → HaveValues after.occurring.items after.values.items
  pub touched_within : HaveValues before.touched.items before.values.items → HaveValues after.touched.items after.values.items

-- whatever program's sources they were the values of, they are those at the instant behind it, and the touched ones are those that changed and the events that occur
pub record Advances (i : Inputs) (before after : Sources) : Type 0 where
  pub values : (p : Program) (vs : List Value) (was : Inputs) → AreSourcesAt p vs was before → AreSourcesAt p (latest p.inputs vs i.sets) i after
  pub changed : AreTouched before.values.items after.values.items after.touched.items
  pub listed : AreListed before.occurring.items before.values.items → AreListed after.touched.items after.values.items
