use Rattle.std.proofs.Common.{◌∙◌, ◌++◌, ◌∷◌, [], sym, ap, arith, List, length, ◌≤◌, Ok}
use Rattle.std.proofs.lemmas.List.{take_all}
use Rattle.fr_value.specs.declared.now.Held.{Held}
use Rattle.fr_meaning.specs.Words.{Seen}
use Rattle.fr_graph.specs.Graph.{part_values}
use Rattle.fr_nodes.specs.Kinds.{parts_of}
use Rattle.fr_engine.proofs.values.input_values.Goals as goal

pub loop-place-preserved : goal.loop-place-preserved
loop-place-preserved g c = λ sites.
    c.in_ok-push.ensures.items ∙ ap (λ (xs : List Seen). xs ++ Ok c.in_ok-value_at.field-0 ∷ []) (c.loop-place.invariant sites) ∙ sym (c.in_ok-value_at.ensures sites)

pub returns : goal.returns
returns g c = λ sites.
    let all : length c.args.inputs.now ≤ c.loop-place.place = omega (arith, c.len-place-end.ensures, c.loop-place-test.false) in
    c.loop-place.invariant sites
    ∙ ap (λ (xs : List Held). part_values (g.N.Nodes.way c.args.nodes.now sites).graph (parts_of xs)) (take_all c.loop-place.place c.args.inputs.now all)
