use Rattle.std.proofs.Common.{ℕ, ◌<◌, refl, sym, ◌∙◌, subst, arith}
use Rattle.fr_store.specs.Nodes.{signal_at}
use Rattle.fr_store.specs.Kept.{Wires, room_at}
use Rattle.fr_store.proofs.Widening.{wired_edges}
use Rattle.fr_store.proofs.Wirings.{wires_anew}
use Rattle.fr_store.proofs.edges.Edges.wire.Goals as goal

pub unlink-requires : goal.unlink-requires
unlink-requires c =
    let r = (c.requires.sound.runs c.args.number c.requires.there).1 in
    let few = c.requires.sound.small in
    let a = c.run-run.ensures.first in
    let b = c.run-run.ensures.room in
    omega arith

pub link-requires-clause-small : goal.link-requires-clause-small
link-requires-clause-small c =
    let r = (c.requires.sound.runs c.args.number c.requires.there).1 in
    let few = c.requires.sound.small in
    let a = c.run-run.ensures.first in
    let b = c.run-run.ensures.room in
    omega arith

pub link-requires-clause-items : goal.link-requires-clause-items
link-requires-clause-items c =
    let r = (c.requires.sound.runs c.args.number c.requires.there).1 in
    let few = c.requires.sound.items in
    let a = c.run-run.ensures.first in
    let b = c.run-run.ensures.room in
    let d = c.unlink.ensures.items in
    omega arith

pub link-requires-clause-lists : goal.link-requires-clause-lists
link-requires-clause-lists c = λ l p e. subst (λ (n : ℕ). l < n) (sym c.unlink.ensures.lists) (c.requires.lists l p e)

pub link-requires-clause-idle : goal.link-requires-clause-idle
link-requires-clause-idle c = λ l p lt. c.unlink.ensures.wired.here l p lt

pub returns-clause-sound : goal.returns-clause-sound
returns-clause-sound c =
    wired_edges c.args.self.now _ c.args.number (signal_at c.args.inputs.now) c.requires.sound refl refl
    (c.link.ensures.lists ∙ c.unlink.ensures.lists) (c.link.ensures.items ∙ c.unlink.ensures.items) c.requires.there
    (subst (λ (n : ℕ). Wires c.args.self.now.links.lists c.link.new.links.lists n (room_at c.args.self.now.runs.items c.args.number) (signal_at c.args.inputs.now)) c.run-run.ensures.first
    (subst (λ (n : ℕ). Wires c.args.self.now.links.lists c.link.new.links.lists c.run-run.result.first n (signal_at c.args.inputs.now)) c.run-run.ensures.room
    (wires_anew c.args.self.now.links.lists c.unlink.new.links.lists c.link.new.links.lists c.run-run.result.first c.run-run.result.room (signal_at c.args.inputs.now) c.unlink.ensures.wired c.link.ensures.wired)))

pub returns-clause-wired : goal.returns-clause-wired
returns-clause-wired c =
    subst (λ (n : ℕ). Wires c.args.self.now.links.lists c.link.new.links.lists n (room_at c.args.self.now.runs.items c.args.number) (signal_at c.args.inputs.now)) c.run-run.ensures.first
    (subst (λ (n : ℕ). Wires c.args.self.now.links.lists c.link.new.links.lists c.run-run.result.first n (signal_at c.args.inputs.now)) c.run-run.ensures.room
    (wires_anew c.args.self.now.links.lists c.unlink.new.links.lists c.link.new.links.lists c.run-run.result.first c.run-run.result.room (signal_at c.args.inputs.now) c.unlink.ensures.wired c.link.ensures.wired))
