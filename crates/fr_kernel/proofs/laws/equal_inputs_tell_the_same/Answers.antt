use Rattle.fr_kernel.proofs.Tables.{places_agree}
use Rattle.fr_kernel.proofs.laws.equal_inputs_tell_the_same.Goals as goal

pub returns : goal.returns
returns c = places_agree
