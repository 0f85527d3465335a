use Rattle.std.proofs.Common.{◌≡◌, ℕ, length, refl, subst, arith}
use Rattle.fr_world.specs.Calls.{HasSources}
use Rattle.fr_world.specs.World.{way_by, way_of}
use Rattle.fr_world.proofs.Sourced.{sourced_all, sourced_more, sourced_none}
use Rattle.fr_world.proofs.world.World.with_sources.Goals as goal

pub loop-source-init : goal.loop-source-init
loop-source-init g c =
    sourced_none c.in_ok-world.world.store c.in_ok-world.world.eras (g.A.Agenda.queued c.in_ok-world.world.agenda) c.in_ok-world.world.instant c.in_ok-world.world.whole
    c.in_ok-world.ensures.whole c.in_ok-world.ensures.empty c.in_ok-world.ensures.none c.in_ok-world.ensures.eras

pub loop-source-preserved : goal.loop-source-preserved
loop-source-preserved g c =
    sourced_more c.loop-source.world.store c.add.new.self.store c.loop-source.world.eras c.add.new.self.eras (g.A.Agenda.queued c.loop-source.world.agenda) (g.A.Agenda.queued c.add.new.self.agenda)
    c.loop-source.world.instant c.add.new.self.instant c.loop-source.source-index c.in_ok-add.field-0.0 c.loop-source.world.whole c.add.new.self.whole c.kind.result (record { 0 = 0 })
    c.loop-source.invariant c.in_ok-add.ensures.adds refl c.in_ok-add.ensures.instant c.in_ok-add.ensures.eras c.in_ok-add.ensures.whole c.kind.ensures

pub returns-clause-sources : goal.returns-clause-sources
returns-clause-sources g c = λ sites.
    let P : ℕ → Type 0 = λ n. HasSources (way_by c.loop-source.world.whole (way_of sites c.loop-source.world.store c.loop-source.world.eras (g.A.Agenda.queued c.loop-source.world.agenda) c.loop-source.world.instant)) n in
    let all : c.loop-source.source-index ≡ length c.args.sources.now = omega (arith, c.loop-source-test.false, c.loop-source.auto.source-index-end) in
    subst P all
    (sourced_all c.loop-source.world.store c.loop-source.world.eras (g.A.Agenda.queued c.loop-source.world.agenda) c.loop-source.world.instant c.loop-source.source-index c.loop-source.world.whole
    c.loop-source.invariant sites)
