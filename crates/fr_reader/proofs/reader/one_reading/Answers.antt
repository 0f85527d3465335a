use Rattle.fr_value.proofs.Meet.{reads_one}
use Rattle.fr_reader.proofs.reader.one_reading.Goals as goal

pub returns : goal.returns
returns c = λ text ds es h k. reads_one text ds es h k
