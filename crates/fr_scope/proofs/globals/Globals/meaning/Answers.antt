use Rattle.std.proofs.Common.{rules}
use Rattle.fr_scope.specs.Meanings.{meaning_of}
use Rattle.fr_scope.proofs.globals.Globals.meaning.Goals as goal

pub returns-in-Some : goal.returns-in-Some
unfolding meaning_of
returns-in-Some c = search rules

pub returns-in-Some-get : goal.returns-in-Some-get
unfolding meaning_of
returns-in-Some-get c = search rules

pub returns-in-None : goal.returns-in-None
unfolding meaning_of
returns-in-None c = search rules
