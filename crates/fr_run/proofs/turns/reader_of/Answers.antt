use Rattle.std.proofs.Common.{subst, sym, [], arith}
use Rattle.std.proofs.lemmas.List.{take_all}
use Rattle.fr_script.specs.declared.reader.ScriptReader.{ScriptReader}
use Rattle.fr_script.specs.Sources.{sources}
use Rattle.fr_run.specs.Scripts.{IsFed}
use Rattle.fr_run.proofs.Readers.{fed_whole, fed_front, fed_itself}
use Rattle.fr_run.proofs.turns.reader_of.Goals as goal
use Rattle.fr_run.proofs.turns.reader_of.Goals.{then-bytes-le-SCRIPT_LIMIT, else-bytes-le-SCRIPT_LIMIT}

pub returns-clause-file : goal.returns-clause-file
returns-clause-file c file is =
    let ss = sources c.args.program.now in
    let bytes = c.args.bytes.now in
    let fed = c.in_ok-feed.ensures.stands ss [] 0 c.in_ok-reader.ensures.stands in
    elim c.if-bytes-le-SCRIPT_LIMIT.branch [
      | then-bytes-le-SCRIPT_LIMIT w ↦
          subst (λ (r : ScriptReader). IsFed r ss file 0) (sym w.reader-is)
          (fed_whole w.end.new.self ss bytes file 1099511627776 (w.end.ensures.stands ss bytes 0 fed) w.end.ensures.told (omega arith) is)
      | else-bytes-le-SCRIPT_LIMIT w ↦
          subst (λ (r : ScriptReader). IsFed r ss file 0) (sym w.reader-is)
          (fed_front c.feed.new.self ss bytes file 1099511627776 fed c.in_ok-feed.ensures.told (omega arith) (omega arith) is)
    ]

pub returns-clause-fed : goal.returns-clause-fed
returns-clause-fed c =
    let ss = sources c.args.program.now in
    let bytes = c.args.bytes.now in
    let fed = c.in_ok-feed.ensures.stands ss [] 0 c.in_ok-reader.ensures.stands in
    elim c.if-bytes-le-SCRIPT_LIMIT.branch [
      | then-bytes-le-SCRIPT_LIMIT w ↦
          subst (λ (r : ScriptReader). IsFed r ss bytes 0) (sym w.reader-is)
          (fed_whole w.end.new.self ss bytes bytes 1099511627776 (w.end.ensures.stands ss bytes 0 fed) w.end.ensures.told (omega arith) (sym (take_all 1099511627777 bytes (omega arith))))
      | else-bytes-le-SCRIPT_LIMIT w ↦
          subst (λ (r : ScriptReader). IsFed r ss bytes 0) (sym w.reader-is)
          (fed_itself c.feed.new.self ss bytes fed c.in_ok-feed.ensures.told (omega arith))
    ]
