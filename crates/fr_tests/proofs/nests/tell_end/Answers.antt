use Rattle.fr_eras.proofs.Theres.{there_killed}
use Rattle.fr_tests.proofs.nests.tell_end.Goals as goal

pub bury-requires : goal.bury-requires
bury-requires c = record { live = there_killed c.args.eras.now c.kill.new.self c.args.store.now c.in-Some.era.0 c.requires.there c.kill.ensures.killed }
