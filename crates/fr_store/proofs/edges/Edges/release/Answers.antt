use Rattle.std.proofs.Common.{ℕ, None, refl, subst, arith}
use Rattle.fr_store.specs.Kept.{Wires, room_at}
use Rattle.fr_store.proofs.Widening.{wired_edges}
use Rattle.fr_store.proofs.edges.Edges.release.Goals as goal

pub unlink-requires : goal.unlink-requires
unlink-requires c =
    let r = (c.requires.sound.runs c.args.number c.requires.there).1 in
    let few = c.requires.sound.small in
    let a = c.run-run.ensures.first in
    let b = c.run-run.ensures.room in
    omega arith

pub returns-clause-sound : goal.returns-clause-sound
returns-clause-sound c =
    wired_edges c.args.self.now _ c.args.number (λ _. None) c.requires.sound refl refl c.unlink.ensures.lists c.unlink.ensures.items c.requires.there
    (subst (λ (n : ℕ). Wires c.args.self.now.links.lists c.unlink.new.links.lists n (room_at c.args.self.now.runs.items c.args.number) (λ _. None)) c.run-run.ensures.first
    (subst (λ (n : ℕ). Wires c.args.self.now.links.lists c.unlink.new.links.lists c.run-run.result.first n (λ _. None)) c.run-run.ensures.room c.unlink.ensures.wired))

pub returns-clause-wired : goal.returns-clause-wired
returns-clause-wired c =
    subst (λ (n : ℕ). Wires c.args.self.now.links.lists c.unlink.new.links.lists n (room_at c.args.self.now.runs.items c.args.number) (λ _. None)) c.run-run.ensures.first
    (subst (λ (n : ℕ). Wires c.args.self.now.links.lists c.unlink.new.links.lists c.run-run.result.first n (λ _. None)) c.run-run.ensures.room c.unlink.ensures.wired)
