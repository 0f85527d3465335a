use Rattle.std.proofs.Common.{refl}
use Rattle.fr_io.proofs.Shelves.{reads_if}
use Rattle.fr_cli.proofs.top.read_program.Goals as goal

pub returns-in-Err-Memory-clause-shelf : goal.returns-in-Err-Memory-clause-shelf
returns-in-Err-Memory-clause-shelf g c = reads_if (λ e. absurd (cc)) (λ e. absurd (cc)) c.in-Err-Memory.ensures.shelf

pub returns-in-Err-Failed-clause-shelf : goal.returns-in-Err-Failed-clause-shelf
returns-in-Err-Failed-clause-shelf g c = reads_if (λ e. c.in-Err-Failed.field-0-is) (λ e. refl) c.in-Err-Failed.ensures.shelf
