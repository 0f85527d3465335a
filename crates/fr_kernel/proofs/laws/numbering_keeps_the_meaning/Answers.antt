use Rattle.fr_kernel.proofs.Numbers.{numbered_same}
use Rattle.fr_kernel.proofs.laws.numbering_keeps_the_meaning.Goals as goal

pub returns : goal.returns
returns c = numbered_same
