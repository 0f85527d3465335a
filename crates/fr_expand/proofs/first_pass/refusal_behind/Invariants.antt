use Rattle.std.proofs.Common.{◌≡◌, ◌+◌, ◌≤◌, Some, map, drop, length}
use Rattle.fr_expand.specs.Passes.{refusal_from}
use Rattle.fr_expand.specs.Shaped.{earlier_of, AreNamed}
use Rattle.fr_expand.proofs.first_pass.refusal_behind.Given as goal

abbrev pub invariant-loop-at : goal.invariant-loop-at
invariant-loop-at l = record {
  whole : refusal_from l.globals (l.at + 1) (earlier_of l.earlier) (map Some (drop l.at l.forms)) ≡ refusal_from l.globals 1 (earlier_of l.fn.earlier) (map Some l.forms);
  named : AreNamed l.earlier.values;
  few : length l.earlier.values ≤ length l.fn.earlier.values + l.at;
}
