use Rattle.fr_engine.proofs.Inputs.{there_at, values_at}
use Rattle.fr_engine.proofs.values.value_at.Goals as goal

pub input_value-requires : goal.input_value-requires
input_value-requires g c = λ sites.
    there_at (g.N.Nodes.way c.args.nodes.now sites) c.args.inputs.now c.args.place c.in-Some.input c.in-Some.ensures (c.requires.there sites)

pub returns : goal.returns
returns g c = λ sites.
    values_at (g.N.Nodes.way c.args.nodes.now sites).graph c.args.inputs.now c.args.place c.in-Some.input (c.in_ok-input_value-in-Some.field-0) c.in-Some.ensures (c.in_ok-input_value-in-Some.ensures sites)
