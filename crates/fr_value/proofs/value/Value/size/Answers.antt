use Rattle.std.proofs.Common.{length, arith}
use Rattle.std.proofs.lemmas.Bool.{and_from, le-leb}
use Rattle.fr_value.specs.Bytes.{is_name, is_short}
use Rattle.fr_value.specs.Valid.{valid-Sym}
use Rattle.fr_value.proofs.value.Value.size.Goals as goal
use Rattle.fr_value.specs.Limits.{most_bytes}

pub returns-in-Sym-clause-valid : goal.returns-in-Sym-clause-valid
returns-in-Sym-clause-valid c = let s = c.in-Sym.s in
    rw (c.in-Sym.is, valid-Sym s) (and_from (is_name s) (is_short s) c.len.ensures.symbol (le-leb (length s) most_bytes (omega (arith, c.len.ensures))))
