use Rattle.std.proofs.Common.{suc, ap, sym, ◌∙◌}
use Rattle.fr_store.specs.declared.node.NodeKind.TheVariants.{IfWatch}
use Rattle.fr_engine.proofs.Turned.{live_at, earlier_at, watch_kind}
use Rattle.fr_engine.proofs.turning.renew.Goals as goal

pub node-requires : goal.node-requires
node-requires g c = λ s. live_at (g.N.Nodes.way c.args.nodes.now) c.is_sound.ensures (g.C.Choices.sites c.args.choices.now) s c.args.watch.0 c.requires.live

pub renew-requires-clause-there : goal.renew-requires-clause-there
renew-requires-clause-there g c = λ s. live_at (g.N.Nodes.way c.args.nodes.now) c.is_sound.ensures (g.C.Choices.sites c.args.choices.now) s c.args.watch.0 c.requires.live

pub renew-requires-clause-earlier : goal.renew-requires-clause-earlier
renew-requires-clause-earlier g c = λ s. earlier_at (g.N.Nodes.way c.args.nodes.now) c.is_sound.ensures (g.C.Choices.sites c.args.choices.now) s (suc c.args.watch.0) c.requires.earlier

pub renew-requires-clause-done : goal.renew-requires-clause-done
renew-requires-clause-done g c = λ s. (c.is_sound.ensures.alike (g.C.Choices.sites c.args.choices.now) s).done c.args.watch.0 ∙ c.requires.computed

pub build-requires-clause-clear : goal.build-requires-clause-clear
build-requires-clause-clear g c =
    let s = g.C.Choices.sites c.args.choices.now in
    c.requires.clear (g.N.Nodes.way c.renew.new.self s) (c.in_ok-era.ensures.kills s) _ _ _
    (watch_kind s (g.N.Nodes.way c.args.nodes.now s) c.args.watch.0 c.node.result.now c.in_ok-place.place.site c.as_slice-held.result.now (c.node.ensures s)
    (c.in_ok-place.ensures.kind ∙ ap (IfWatch c.in_ok-place.place.site) (sym c.as_slice-held.ensures)))
