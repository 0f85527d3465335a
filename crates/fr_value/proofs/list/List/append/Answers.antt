use Rattle.std.proofs.Common.{arith}
use Rattle.fr_value.proofs.Measured.{few_join, not_few_join}
use Rattle.fr_value.proofs.list.List.append.Goals as goal

pub returns-then-size-others-clause-too_big : goal.returns-then-size-others-clause-too_big
returns-then-size-others-clause-too_big c e f = not_few_join _ _ _ _ _ _ _ _ c.measure-size.ensures c.measure-others.ensures (omega (arith, c.if-size-others.true, c.measure-size.ensures.size_is, c.measure-others.ensures.size_is, c.measure-others.ensures.small)) f

pub few_joined-requires : goal.few_joined-requires
few_joined-requires c = few_join _ _ _ _ _ _ _ _ c.measure-size.ensures c.measure-others.ensures (omega (arith, c.if-size-others.false, c.measure-size.ensures.size_is, c.measure-others.ensures.size_is, c.measure-others.ensures.small))
