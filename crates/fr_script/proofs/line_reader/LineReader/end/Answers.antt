use Rattle.std.proofs.Common.{true}
use Rattle.fr_script.proofs.Turns.{told_stands}
use Rattle.fr_script.proofs.Settles.{settled_told, alike_settles}
use Rattle.fr_script.proofs.line_reader.LineReader.end.Goals as goal

pub returns-clause-stands : goal.returns-clause-stands
returns-clause-stands c = alike_settles c.args.self.now (record c.args.self.now { ended = true }) (told_stands c.args.self.now)

pub returns-clause-told : goal.returns-clause-told
returns-clause-told c = settled_told (record c.args.self.now { ended = true })
