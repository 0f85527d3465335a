use Rattle.std.proofs.Common.{◌∙◌, inl, ap, refl}
use Rattle.fr_nodes.specs.Kinds.{part_of}
use Rattle.fr_way.proofs.TurnOrder.{levelled_but_from}
use Rattle.fr_engine.proofs.Turned.{live_at, lead_steady, lead_signal, raise_results, signal_there}
use Rattle.fr_engine.proofs.turning.lead.Goals as goal

pub rewire-requires-clause-there : goal.rewire-requires-clause-there
rewire-requires-clause-there g c = λ s. live_at (g.N.Nodes.way c.args.nodes.now) c.is_sound.ensures c.requires.0 s c.args.id.0 c.requires.1.1.live

pub rewire-requires-in-Signal-clause-there : goal.rewire-requires-in-Signal-clause-there
rewire-requires-in-Signal-clause-there g c = λ s. live_at (g.N.Nodes.way c.args.nodes.now) c.is_sound.ensures c.requires.0 s c.args.id.0 c.requires.1.1.live

pub rewire-requires-in-Signal-clause-input : goal.rewire-requires-in-Signal-clause-input
rewire-requires-in-Signal-clause-input g c = λ s j rd. live_at (g.N.Nodes.way c.args.nodes.now) c.is_sound.ensures c.requires.0 s j
    (signal_there c.requires.1.0 (g.N.Nodes.way c.args.nodes.now c.requires.0) c.args.id.0 (part_of c.args.part) c.in-Signal.from.0 (ap part_of c.in-Signal.is) c.requires.1.1 j rd)

pub raise-requires-clause-there : goal.raise-requires-clause-there
raise-requires-clause-there g c = λ s. (c.rewire-in-Signal.ensures.rewires s).live c.in-Signal.from.0
    ∙ live_at (g.N.Nodes.way c.args.nodes.now) c.is_sound.ensures c.requires.0 s c.in-Signal.from.0
    (signal_there c.requires.1.0 (g.N.Nodes.way c.args.nodes.now c.requires.0) c.args.id.0 (part_of c.args.part) c.in-Signal.from.0 (ap part_of c.in-Signal.is) c.requires.1.1 c.in-Signal.from.0 (inl refl))

pub raise-requires-clause-results : goal.raise-requires-clause-results
raise-requires-clause-results g c = (
  c.requires.0,
  (raise_results c.requires.1.0 (g.N.Nodes.way c.args.nodes.now c.requires.0) (g.N.Nodes.way c.rewire-in-Signal.new.self c.requires.0) c.args.id.0 (part_of c.args.part) c.in-Signal.from.0
      (ap part_of c.in-Signal.is) c.requires.1.1 (c.rewire-in-Signal.ensures.rewires c.requires.0)).results,
)

pub raise-requires-clause-levelled : goal.raise-requires-clause-levelled
raise-requires-clause-levelled g c = (
  c.requires.0,
  levelled_but_from (g.N.Nodes.way c.rewire-in-Signal.new.self c.requires.0) c.args.id.0 c.in-Signal.from.0
      (raise_results c.requires.1.0 (g.N.Nodes.way c.args.nodes.now c.requires.0) (g.N.Nodes.way c.rewire-in-Signal.new.self c.requires.0) c.args.id.0 (part_of c.args.part) c.in-Signal.from.0
      (ap part_of c.in-Signal.is) c.requires.1.1 (c.rewire-in-Signal.ensures.rewires c.requires.0)).levelled
      (c.rewire-in-Signal.ensures.rewires c.requires.0).here,
)

pub raise-requires-clause-ordered : goal.raise-requires-clause-ordered
raise-requires-clause-ordered g c = (
  c.requires.0,
  (raise_results c.requires.1.0 (g.N.Nodes.way c.args.nodes.now c.requires.0) (g.N.Nodes.way c.rewire-in-Signal.new.self c.requires.0) c.args.id.0 (part_of c.args.part) c.in-Signal.from.0
      (ap part_of c.in-Signal.is) c.requires.1.1 (c.rewire-in-Signal.ensures.rewires c.requires.0)).ordered,
)

pub returns-in-Steady : goal.returns-in-Steady
returns-in-Steady g c = λ s h can.
    lead_steady h (g.N.Nodes.way c.args.nodes.now s) (g.N.Nodes.way c.rewire.new.self s) c.args.id.0 (part_of c.args.part) _ (ap part_of c.in-Steady.is) can (c.rewire.ensures.rewires s)

pub returns-in_ok-raise-in-Signal : goal.returns-in_ok-raise-in-Signal
returns-in_ok-raise-in-Signal g c = λ s h can.
    lead_signal h (g.N.Nodes.way c.args.nodes.now s) (g.N.Nodes.way c.rewire-in-Signal.new.self s) (g.N.Nodes.way c.raise.new.self s) c.args.id.0 (part_of c.args.part) c.in-Signal.from.0
    (ap part_of c.in-Signal.is) can (c.rewire-in-Signal.ensures.rewires s) (c.in_ok-raise-in-Signal.ensures.raises s)
