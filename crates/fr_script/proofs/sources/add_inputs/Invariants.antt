use Rattle.std.proofs.Common.{◌≡◌, ℕ, List, map, drop}
use Rattle.std.specs.Option.{option_or}
use Rattle.indexmap.specs.IndexMap.{get_by_text}
use Rattle.fr_script.specs.Sources.{named, input_source}
use Rattle.fr_script.proofs.sources.add_inputs.Given as goal

abbrev pub invariant-loop-input : goal.invariant-loop-input
invariant-loop-input l = (q : List ℕ) → option_or (get_by_text l.names q) (named (map input_source (drop l.input-index l.inputs)) q) ≡ option_or (get_by_text l.fn.names q) (named (map input_source l.inputs) q)
