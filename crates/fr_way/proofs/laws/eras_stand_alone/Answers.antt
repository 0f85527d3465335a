use Rattle.fr_way.proofs.Stay.{wired_on, era_on}
use Rattle.fr_way.proofs.laws.eras_stand_alone.Goals as goal

pub returns-clause-expression : goal.returns-clause-expression
returns-clause-expression c = λ old new p x stay n. wired_on old new p x stay n

pub returns-clause-era : goal.returns-clause-era
returns-clause-era c = era_on
