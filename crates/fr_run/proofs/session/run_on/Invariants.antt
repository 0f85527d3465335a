use Rattle.std.proofs.Common.{◌≡◌, ℕ, List}
use Rattle.fr_core.specs.WellFormed.{IsWellFormed}
use Rattle.fr_meaning.specs.Afresh.{State}
use Rattle.fr_script.specs.Sources.{Named}
use Rattle.fr_script.specs.Stands.{left}
use Rattle.fr_run.specs.Scripts.{IsFed}
use Rattle.fr_run.specs.Standing.{StandsForSome}
use Rattle.fr_run.specs.Written.{AreShowsOf, HaveTextsOf, course_behind}
use Rattle.fr_run.proofs.Loops.{SoFar}
use Rattle.fr_run.proofs.session.run_on.Given as goal

abbrev pub invariant-instants : goal.invariant-instants
invariant-instants g l =
    let standing = g.E.Evaluator.standing in
    let stands_for = g.E.Evaluator.stands_for in
    record {
      well_formed : IsWellFormed (standing l.evaluator).program;
      stands : StandsForSome (stands_for l.evaluator);
      each : AreShowsOf l.shows (standing l.evaluator).program;
      texts : HaveTextsOf l.shows (standing l.evaluator);
      so_far : (s : State) → stands_for l.fn.evaluator s → (ss : List Named) (script : List ℕ) (given : ℕ) → IsFed l.fn.reader ss script given
          → SoFar ss script (course_behind (standing l.fn.evaluator).program s ss script given l.fn.shows)
          l.reader (stands_for l.evaluator) (standing l.evaluator).program l.shows (g.O.Sink.written l.fn.out) (g.O.Sink.written l.out);
      counts : g.O.Sink.faults l.out ≡ g.O.Sink.faults l.fn.out;
    }

abbrev pub decreases-instants : goal.decreases-instants
decreases-instants g l = left l.reader
