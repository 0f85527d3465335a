use Rattle.std.proofs.Common.{◌≡◌, ◌+◌, ◌++◌, ◌≤◌, drop}
use Rattle.fr_expand.specs.Expansion.{events_from, inputs_from}
use Rattle.fr_expand.proofs.building.sources_in.Given as goal

abbrev pub invariant-loop-form : goal.invariant-loop-form
invariant-loop-form l = record {
  inputs : l.inputs ++ inputs_from l.next (drop l.form-index l.forms) ≡ inputs_from 1 l.forms;
  events : l.events ++ events_from l.next (drop l.form-index l.forms) ≡ events_from 1 l.forms;
  counted : l.next ≤ l.form-index + 1;
}
