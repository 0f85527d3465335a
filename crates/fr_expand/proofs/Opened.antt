-- Each form of an expression, opened.
use Rattle.fr_syntax.specs.declared.expr.Expr.TheVariants.{outs-Literal, outs-Name, outs-If, outs-Let, outs-LetStar, outs-Cond, outs-And, outs-Or, outs-Fold, outs-Repeat, outs-MapE, outs-FilterE, outs-MergeE, outs-Hold, outs-CollectB, outs-CollectE, outs-Changes, outs-OnceE, outs-Delay, outs-DelayE, outs-Feedback, outs-Call}

pub ruleset opened = (outs-Literal, outs-Name, outs-If, outs-Let, outs-LetStar, outs-Cond, outs-And, outs-Or, outs-Fold, outs-Repeat, outs-MapE, outs-FilterE, outs-MergeE, outs-Hold, outs-CollectB, outs-CollectE, outs-Changes, outs-OnceE, outs-Delay, outs-DelayE, outs-Feedback, outs-Call)
