use Rattle.fr_kernel.proofs.running.run_begun.Goals as goal

pub returns : goal.returns
returns c = λ k. c.finish.ensures c.args.machine.now _ (c.walk-kind.ensures k)
