use Rattle.fr_switch.proofs.First.{first_kernels, first_watches}
use Rattle.fr_switch.proofs.laws.what_is_built_first_is_fit.Goals as goal

pub returns-clause-kernels : goal.returns-clause-kernels
returns-clause-kernels c = first_kernels

pub returns-clause-watches : goal.returns-clause-watches
returns-clause-watches c = first_watches
