-- Why forms are no program.
use Rattle.std.specs.Prelude.{◌≡◌, List, [], Result, Ok, Err}
use Rattle.fr_value.specs.declared.value.Datum.{Datum}
use Rattle.fr_expand.specs.declared.expansion.ExpandStop.{ExpandStop}
use Rattle.fr_expand.specs.declared.expansion.ExpandStop.TheVariants.{Memory, Refused}
use Rattle.fr_core.specs.declared.program.Program.{Program}
use Rattle.fr_syntax.specs.Outlines.{Global}
use Rattle.fr_syntax.specs.declared.form.Form.{Form}
use Rattle.fr_expand.specs.declared.refusal.Kind.TheVariants as kind
use Rattle.fr_expand.specs.Expansion.{cores_from, program_in, AreFit, IsExpansion, IsFirstUnfit}

-- a refusal is the forms' expansion; want of memory tells nothing of them
abbrev pub IsStopOf : List Datum → ExpandStop → Type 0
IsStopOf ds (Memory e) = Unit {0}
IsStopOf ds (Refused r) = IsExpansion ds (Err r)

-- what the second pass makes of these forms: their program where it is fit, and else the refusal of the first form that isn't; want of memory tells nothing of them
abbrev pub Decides : List Global → List Form → Result Program ExpandStop → Type 0
Decides globals fs (Ok p) = (p ≡ program_in globals fs) × AreFit p (cores_from globals [] fs)
Decides globals fs (Err (Memory e)) = Unit {0}
Decides globals fs (Err (Refused r)) = (r.kind ≡ kind.Handler) × IsFirstUnfit (program_in globals fs) (cores_from globals [] fs) r.form
