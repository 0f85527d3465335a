use Rattle.std.proofs.Common.{ℕ, ◌≡◌, ◌≤◌, ◌+◌, List, drop, map}
use Rattle.std.specs.Option.{option_or}
use Rattle.std.specs.HashMap.{get_by_text}
use Rattle.fr_scope.specs.Meanings.{global}
use Rattle.fr_scope.specs.Given.{global_of}
use Rattle.fr_scope.proofs.globals.meanings_of.Given as goal

abbrev pub invariant-loop-given : goal.invariant-loop-given
invariant-loop-given l = record {
  few_sources : l.sources ≤ l.given-index + 1;
  few_functions : l.functions ≤ l.given-index;
  found : (q : List ℕ) → option_or (get_by_text l.meanings q) (global q l.sources l.functions (map global_of (drop l.given-index l.names))) ≡ global q 1 0 (map global_of l.names);
}
