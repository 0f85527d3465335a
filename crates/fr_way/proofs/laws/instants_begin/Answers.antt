use Rattle.fr_way.proofs.Begun.{built_under_way, begun_under_way}
use Rattle.fr_way.proofs.laws.instants_begin.Goals as goal

pub returns-clause-first : goal.returns-clause-first
returns-clause-first c = built_under_way

pub returns-clause-further : goal.returns-clause-further
returns-clause-further c = begun_under_way
