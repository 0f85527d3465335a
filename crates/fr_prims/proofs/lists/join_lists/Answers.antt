use Rattle.std.proofs.Common.{◌-◌, Err, drop, sym, ap, ◌∙◌, arith}
use Rattle.std.specs.List.{flat_map}
use Rattle.fr_prims.specs.Data.{items_of}
use Rattle.fr_prims.proofs.Limits.{joined_big}
use Rattle.fr_prims.proofs.lists.join_lists.Goals as goal

pub returns-in-Err-TooBig : goal.returns-in-Err-TooBig
returns-in-Err-TooBig c = sym (joined_big c.args.lists.now (c.loop-at.at - 1) c.index-lists-at.result c.loop-at.all (omega (arith, c.loop-at.invariant.within, c.loop-at-test.true)) c.index-lists-at.is
    (c.loop-at.invariant.so_far ∙ ap (λ n. flat_map items_of (drop n c.args.lists.now)) (omega (arith, c.loop-at-test.true))) (c.in-Err-TooBig.ensures.too_big (ap Err c.in-Err-TooBig.field-0-is)))
