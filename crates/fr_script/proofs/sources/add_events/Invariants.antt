use Rattle.std.proofs.Common.{◌≡◌, ℕ, List, map, drop}
use Rattle.std.specs.Option.{option_or}
use Rattle.indexmap.specs.IndexMap.{get_by_text}
use Rattle.fr_script.specs.Sources.{named, event_source}
use Rattle.fr_script.proofs.sources.add_events.Given as goal

abbrev pub invariant-loop-event : goal.invariant-loop-event
invariant-loop-event l = (q : List ℕ) → option_or (get_by_text l.names q) (named (map event_source (drop l.event-index l.events)) q) ≡ option_or (get_by_text l.fn.names q) (named (map event_source l.events) q)
