use Rattle.std.proofs.lemmas.Result.{err_from_is_err_and}
use Rattle.fr_ready.specs.Switches.{sites_by}
use Rattle.fr_ready.specs.Seen.{branches_seen}
use Rattle.fr_switch.proofs.Chosen.{grounds, choice_is, chooses_by, stops_by}
use Rattle.fr_switch.proofs.choosing.ProgramChoicesChoices.build.Goals as goal

pub build_on-requires-clause-ground : goal.build_on-requires-clause-ground
build_on-requires-clause-ground g c =
    grounds c.args.self.now c.self.inside.plan c.self.inside.choices c.self.view_is (g.N.Nodes.way c.args.nodes.now) (g.N.Nodes.has_era c.args.nodes.now) c.args.watch.0 c.args.era.0 c.args.held.now c.in_ok-env.env
    c.is_sound.ensures c.requires.number c.requires.era c.requires.clear c.requires.fed c.in_ok-env.ensures

pub returns-in_err-part-clause-stops : goal.returns-in_err-part-clause-stops
returns-in_err-part-clause-stops g c =
    let p = err_from_is_err_and c.from_residual-in_err-part.result c.from_residual-in_err-part.ensures.1 in
    let is = choice_is c.args.self.now c.self.inside.plan c.self.inside.choices c.self.view_is c.args.site.0 c.args.holds (branches_seen c.choices.result) c.chosen-expr.result.now c.choices.ensures c.chosen-expr.ensures in
    rw (p.1, p.2) (stops_by c.args.self.now c.self.inside.plan c.self.inside.choices c.self.view_is c.in_err-part.field-0.0 _ c.args.site.0 c.args.holds c.chosen-expr.result.now c.args.held.now c.in_ok-env.env c.in_ok-env.ensures is c.in_err-part.ensures.stops)

pub returns-clause-chooses : goal.returns-clause-chooses
returns-clause-chooses g c =
    let own = sites_by c.args.self.now.found in
    let is = choice_is c.args.self.now c.self.inside.plan c.self.inside.choices c.self.view_is c.args.site.0 c.args.holds (branches_seen c.choices.result) c.chosen-expr.result.now c.choices.ensures c.chosen-expr.ensures in
    chooses_by c.args.self.now c.self.inside.plan c.self.inside.choices c.self.view_is (g.N.Nodes.way c.args.nodes.now own) (g.N.Nodes.way c.build_on.new.nodes own) c.args.watch.0 c.args.era.0 _ c.args.site.0 c.args.holds c.chosen-expr.result.now
    c.args.held.now c.in_ok-env.env c.in_ok-part.part c.args.late.now.items c.list_late.new.late.items c.self.invariant c.requires.fits c.requires.clear c.requires.number c.in_ok-env.ensures is (c.in_ok-part.ensures.builds own) (c.in_ok-list_late.ensures own)
