use Rattle.std.proofs.Common.{refl, false, None}
use Rattle.fr_script.specs.declared.line_reader.LineReader.{LineReader}
use Rattle.fr_script.specs.Sources.{sources}
use Rattle.fr_script.proofs.Turns.{new_stands}
use Rattle.fr_script.proofs.Settles.{first_settles, settled_told}
use Rattle.fr_script.proofs.line_reader.LineReader.new.Goals as goal

pub returns-clause-stands : goal.returns-clause-stands
returns-clause-stands c =
    let r : LineReader = record { alloc = c.args.alloc; names = c.in_ok-names.names; past = c.new.result; rest = c.new-2.result; ended = false; bad = None } in
    first_settles r (sources c.args.program.now) (new_stands r (sources c.args.program.now) c.in_ok-names.ensures c.new.ensures c.new-2.ensures refl)

pub returns-clause-told : goal.returns-clause-told
returns-clause-told c = settled_told (record { alloc = c.args.alloc; names = c.in_ok-names.names; past = c.new.result; rest = c.new-2.result; ended = false; bad = None })
