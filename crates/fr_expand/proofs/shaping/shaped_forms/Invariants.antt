use Rattle.std.proofs.Common.{◌≡◌, ◌++◌, drop}
use Rattle.fr_value.specs.Data.{data_of}
use Rattle.fr_expand.specs.Shaped.{shaped}
use Rattle.fr_expand.proofs.shaping.shaped_forms.Given as goal

abbrev pub invariant-loop-form : goal.invariant-loop-form
invariant-loop-form l = l.shaped.items ++ shaped (data_of (drop l.form-index l.forms)) ≡ shaped (data_of l.forms)
