-- What real files and streams tell: the count of faults alone.
use Rattle.std.specs.Prelude.{ℕ}
use Rattle.fr_io.specs.declared.real.DirShelf.{DirShelf}
use Rattle.fr_io.specs.declared.real.StdSink.{StdSink}

-- the count of faults of all names
abbrev pub shelf_faults : {R File Dir : Type 0} → DirShelf R File Dir → ℕ
shelf_faults shelf = shelf.faults

-- the count of faults
abbrev pub sink_faults : {W : Type 0} → StdSink W → ℕ
sink_faults sink = sink.faults
