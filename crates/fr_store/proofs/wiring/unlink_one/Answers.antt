use Rattle.std.proofs.Common.{None, sym, subst}
use Rattle.fr_links.specs.Lists.{Linked}
use Rattle.fr_store.specs.Kept.{Wires}
use Rattle.fr_store.proofs.Wirings.{wires_without}
use Rattle.fr_store.proofs.wiring.unlink_one.Goals as goal

pub returns-then-is_some-clause-wired : goal.returns-then-is_some-clause-wired
returns-then-is_some-clause-wired c =
    subst (λ (k : Linked). Wires c.args.links.now.lists k.lists c.args.edge 1 (λ _. None)) (sym c.unlink.ensures)
    (wires_without c.args.links.now.lists c.args.edge)
