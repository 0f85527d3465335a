use Rattle.std.proofs.Common.{◌≡◌, ◌≤◌, ◌++◌, drop, map, length}
use Rattle.fr_value.specs.Data.{data_of}
use Rattle.fr_scope.specs.Meanings.{globals_in}
use Rattle.fr_scope.specs.Given.{global_of}
use Rattle.fr_scope.proofs.globals.names_of.Given as goal

abbrev pub invariant-loop-form : goal.invariant-loop-form
invariant-loop-form l = record {
  few : length l.names.items ≤ l.form-index;
  names_are : map global_of l.names.items ++ globals_in (data_of (drop l.form-index l.forms)) ≡ globals_in (data_of l.forms);
}
