use Rattle.std.proofs.Common.{◌∙◌, arith, subst, sym}
use Rattle.fr_core.specs.Sets.{AreRising}
use Rattle.fr_core.proofs.Placed.{place_within, placed_at, placed_rises}
use Rattle.fr_core.proofs.inputs.Sets.put.Goals as goal

pub insert-requires : goal.insert-requires
insert-requires c = omega (arith, c.place_of-at.ensures, c.deref.ensures.len, place_within c.args.source c.deref.result.now)

pub invariant_of-self-2 : goal.invariant_of-self-2
invariant_of-self-2 c = subst AreRising
    (sym (c.in_ok-insert.ensures.items ∙ placed_at c.self.inside.entries.items c.deref.result.now c.args.self.now c.place_of-at.result (record { source = c.args.source; value = c.args.value }) c.deref.ensures.value c.self.view_is c.place_of-at.ensures))
    (placed_rises (record { source = c.args.source; value = c.args.value }) c.args.self.now c.requires (subst AreRising c.self.view_is c.self.invariant))

pub returns-clause-ok : goal.returns-clause-ok
returns-clause-ok c = c.in_ok-insert.ensures.items ∙ placed_at c.self.inside.entries.items c.deref.result.now c.args.self.now c.place_of-at.result (record { source = c.args.source; value = c.args.value }) c.deref.ensures.value c.self.view_is c.place_of-at.ensures
