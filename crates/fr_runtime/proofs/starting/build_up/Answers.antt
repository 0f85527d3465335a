use Rattle.std.proofs.Common.{ap, refl, subst, List}
use Rattle.fr_value.specs.declared.ids.NodeId.{NodeId}
use Rattle.fr_graph.specs.Items.{Shown}
use Rattle.fr_nodes.specs.Listed.{ListsLate}
use Rattle.fr_ready.specs.Ready.{plan_of}
use Rattle.fr_world.specs.World.{no_way}
use Rattle.fr_start.specs.Start.{BuildsBody}
use Rattle.fr_runtime.proofs.Starts.{is_up}
use Rattle.fr_runtime.proofs.starting.build_up.Goals as goal

pub returns-clause-up : goal.returns-clause-up
returns-clause-up g c = λ sites whole matches.
    let planned = c.args.plan.now in
    let p = plan_of planned in
    let is = c.args.items.now in
    let many = planned.sources in
    let old = g.N.Nodes.way c.args.nodes.now sites in
    let new = g.N.Nodes.way c.build_items.new.nodes sites in
    let late = c.list_late.new.late.items in
    let b = c.in-Ok.ensures.builds sites in
    let l = c.what_a_body_begins_with.ensures in
    let body : BuildsBody p is many old new b.added = record {
      begins = c.requires.sources sites;
      grew = b.grew;
      all = ap (λ (s : Shown). s.left) b.shown;
      stand = b.stand whole matches;
    } in
    let lists = subst (λ (ids : List NodeId). ListsLate new.graph 0 ids late) c.requires.none (c.in_ok-list_late.ensures sites) in
    record {
      members = b.added;
      built = is_up planned sites is b.added no_way.graph new late
          (l.built p is many no_way.graph old new b.added (λ m. refl) body) (l.used p is many old new b.added body) (l.awaits p is many old new b.added body)
          (l.sources p is many old new b.added body) (l.no_more p is many old new b.added body) (l.others p is many old new b.added body) (l.unchosen p is many old new b.added body)
          (λ m among. c.what_stands_is_fit.ensures.items planned sites new.graph is b.added m c.requires.plan whole c.requires.ready matches body.stand body.all among) lists;
      parts_are = ap (λ (s : Shown). s.parts) b.shown;
    }
