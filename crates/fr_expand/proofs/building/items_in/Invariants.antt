use Rattle.std.proofs.Common.{◌≡◌, ◌++◌, ◌≤◌, [], drop, length}
use Rattle.fr_expand.specs.Expansion.{items_from}
use Rattle.fr_expand.specs.Shaped.{names_in, AreNamed}
use Rattle.fr_expand.proofs.building.items_in.Given as goal

abbrev pub invariant-loop-form : goal.invariant-loop-form
invariant-loop-form l = record {
  items : l.items ++ items_from l.globals (names_in l.values) (drop l.form-index l.forms) ≡ items_from l.globals [] l.forms;
  named : AreNamed l.values;
  few : length l.values ≤ l.form-index;
}
