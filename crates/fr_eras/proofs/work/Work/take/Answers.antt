use Rattle.std.proofs.Common.{◌∷◌, sym, ap, ◌∙◌}
use Rattle.fr_links.specs.Lists.{Linked, list_at}
use Rattle.fr_eras.specs.Work.{Working}
use Rattle.fr_eras.proofs.Works.{taken_rest, taken_small, taken_stands, taken_work}
use Rattle.fr_eras.proofs.work.Work.take.Goals as goal

pub unlink-requires : goal.unlink-requires
unlink-requires c = taken_stands c.self.inside.links c.self.inside.room c.in_ok-node.node c.self.invariant c.in_ok-node.ensures

pub invariant_of-self : goal.invariant_of-self
invariant_of-self c = taken_work c.self.inside.links c.self.inside.room c.in_ok-node.node c.self.invariant c.in_ok-node.ensures c.unlink.new.self c.unlink.ensures

pub returns-clause-small : goal.returns-clause-small
returns-clause-small c = taken_small c.self.inside.links c.self.inside.room c.in_ok-node.node c.self.invariant c.in_ok-node.ensures

pub returns-clause-taken : goal.returns-clause-taken
returns-clause-taken c =
    ap (λ (w : Working). w.nodes) (sym c.self.view_is)
    ∙ taken_rest c.self.inside.links c.self.inside.room c.in_ok-node.node c.self.invariant c.in_ok-node.ensures
    ∙ ap (λ (k : Linked). c.in_ok-node.node ∷ list_at k.lists 0) (sym c.unlink.ensures)
