use Rattle.std.proofs.Common.{◌≡◌, ◌<◌, ℕ, None, rules, sym, ap, ◌∙◌, subst}
use Rattle.fr_links.specs.Lists.{list_of}
use Rattle.fr_eras.specs.Work.{Working}
use Rattle.fr_eras.proofs.Works.{no_item, noted_work}
use Rattle.fr_eras.proofs.work.Work.note.Goals as goal

pub invariant_of-self : goal.invariant_of-self
invariant_of-self c =
    let alone : list_of c.self.inside.links.lists c.args.node ≡ None = search rules in
    noted_work c.self.inside.links c.push_back.new.self c.self.inside.room c.args.node c.self.invariant
    (no_item c.self.inside.links.lists c.list_of.result c.args.node (c.list_of.ensures.value ∙ alone) c.list_of.ensures.only)
    (subst (λ (n : ℕ). c.args.node < n) (sym (c.self.invariant.wide ∙ ap (λ (w : Working). w.room) c.self.view_is)) c.in_ok-make_room.ensures.room)
    c.push_back.ensures
