use Rattle.std.proofs.Common.{map, ◌∙◌, ap}
use Rattle.std.specs.Option.{option_or}
use Rattle.indexmap.specs.IndexMap.{get_by_text}
use Rattle.fr_script.specs.Sources.{named, input_source, event_source, sources}
use Rattle.fr_script.proofs.Added.{both, empty_map}
use Rattle.fr_script.proofs.sources.names_of.Goals as goal

pub returns : goal.returns
unfolding sources
returns c = λ q.
    both (map input_source c.args.program.now.inputs) (map event_source c.args.program.now.events) q
    (get_by_text c.add_inputs.new.names q) (get_by_text c.add_events.new.names q)
    (c.in_ok-add_inputs.ensures q ∙ ap (λ x. option_or x (named (map input_source c.as_slice.result.now) q)) (empty_map c.new-names.result q c.new-names.ensures.empty)
    ∙ ap (λ is. named (map input_source is) q) c.as_slice.ensures)
    (c.in_ok-add_events.ensures q ∙ ap (λ es. option_or (get_by_text c.add_inputs.new.names q) (named (map event_source es) q)) c.as_slice-2.ensures)
