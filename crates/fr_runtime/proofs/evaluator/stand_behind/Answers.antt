use Rattle.std.proofs.Common.{◌≡◌, ◌∙◌, length, refl, arith}
use Rattle.fr_meaning.specs.Afresh.{handed_on}
use Rattle.fr_nodes.specs.Kinds.{parts_of}
use Rattle.fr_runtime.proofs.Ends.{all_named}
use Rattle.fr_runtime.proofs.States.{behind, parts_live}
use Rattle.fr_runtime.proofs.evaluator.stand_behind.Goals as goal

pub shown-requires : goal.shown-requires
shown-requires g c = λ sites j r.
    let s = g.C.Choices.sites c.args.choices in
    let at = g.N.Nodes.way c.args.engine.nodes s in
    let there = parts_live (g.C.Choices.can c.args.choices) c.args.program.now (g.C.Choices.plan c.args.choices) (g.C.Choices.many c.args.choices) c.args.engine.sources (parts_of c.args.engine.parts) c.args.engine.notes.wakes.items c.args.engine.late.items at (handed_on c.requires.0)
    (λ is ms st. c.what_is_shown_lives.ensures.shown at.graph (g.C.Choices.plan c.args.choices) is ms st) c.requires.1.state in
    (c.is_sound.ensures.alike s sites).live j ∙ there j r

pub returns-clause-behind : goal.returns-clause-behind
returns-clause-behind g c = λ n comes.
    let s = g.C.Choices.sites c.args.choices in
    behind (g.C.Choices.can c.args.choices) c.args.program.now c.args.program.now (g.C.Choices.plan c.args.choices) (g.C.Choices.many c.args.choices) c.args.engine.sources (parts_of c.args.engine.parts) c.args.engine.notes.wakes.items c.args.engine.late.items
    (g.N.Nodes.way c.args.engine.nodes s) n c.in_ok-shown.shown.items c.in_ok-changed.changed.items refl comes (c.in_ok-shown.ensures s)

pub returns-clause-changed : goal.returns-clause-changed
returns-clause-changed g c before =
    let shown = c.in_ok-shown.shown.items in
    let many : c.len.result ≡ length shown = omega arith in
    all_named before shown c.len.result c.in_ok-changed.changed.items many c.in_ok-changed.ensures
