use Rattle.std.proofs.Common.{arith}
use Rattle.fr_core.specs.Sites.{parts}
use Rattle.fr_core.proofs.Found.{found_item, found_below, none_below, none_at_all}
use Rattle.fr_core.proofs.PartLists.{within_parts, past_parts}
use Rattle.fr_core.proofs.site.+site_in.Goals as goal

pub returns-in-Some-site_in : goal.returns-in-Some-site_in
returns-in-Some-site_in t c =
    found_below c.args.site c.args.e.now _ (found_item c.args.site (parts c.args.e.now) c.loop-part.number c.in-Some.part.now _ c.in-Some.ensures.value c.in-Some-site_in.ensures)

pub loop-part-smaller : goal.loop-part-smaller
loop-part-smaller t c = omega (arith, within_parts (parts c.args.e.now) c.loop-part.number c.in-Some.part.now c.in-Some.ensures.value)

pub returns : goal.returns
returns t c =
    none_below c.args.site c.args.e.now (λ h. let yes = c.carries.ensures.1 h in let no_it = c.if-carries.false in cc)
    (none_at_all c.args.site (parts c.args.e.now) c.loop-part.number (past_parts _ _ c.in_default.ensures.value) c.loop-part.invariant)
