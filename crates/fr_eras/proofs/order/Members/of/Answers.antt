use Rattle.std.proofs.Common.{ap, ◌∙◌}
use Rattle.fr_links.specs.Lists.{list_at}
use Rattle.fr_eras.specs.Order.{from_here, nodes_of}
use Rattle.fr_eras.proofs.Places.{first_stands, from_first}
use Rattle.fr_eras.proofs.order.Members.of.Goals as goal

pub invariant_of-result : goal.invariant_of-result
invariant_of-result c = record {
  apart = c.requires;
  stands = λ item e. first_stands (list_at c.args.links.now.lists c.args.list) c.first-at.result c.first-at.ensures item e;
}

pub returns : goal.returns
returns c =
    ap (λ at. nodes_of (from_here (list_at c.args.links.now.lists c.args.list) at)) c.first-at.ensures
    ∙ ap nodes_of (from_first (list_at c.args.links.now.lists c.args.list))
