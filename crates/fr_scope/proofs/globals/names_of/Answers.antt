use Rattle.std.proofs.Common.{rules, arith, sym, length-append}
use Rattle.std.proofs.lemmas.List.{map-append}
use Rattle.fr_scope.proofs.globals.names_of.Goals.{in-Some+in_ok-name+in_ok-push, in_default}
use Rattle.fr_scope.specs.Given.{global_of}
use Rattle.fr_scope.proofs.Steps.{one_given, none_given}
use Rattle.fr_scope.proofs.globals.names_of.Goals as goal

pub loop-form-preserved : goal.loop-form-preserved
loop-form-preserved c =
    elim c.match-outline_of.branch [
      | in-Some+in_ok-name+in_ok-push w ↦
          rw w.names-is (record {
            few = rw (w.in_ok-push.ensures.items, length-append) (omega arith);
            names_are = rw (w.in_ok-push.ensures.items, map-append global_of, w.in_ok-name.ensures)
                (one_given _ _ c.args.forms.now c.form-item.result c.loop-form.form-index _ c.loop-form-test.true c.form-item.is (sym w.in-Some.ensures) c.loop-form.invariant.names_are);
          })
      | in_default w ↦
          rw w.names-is (record {
            few = omega arith;
            names_are = none_given _ _ c.args.forms.now c.form-item.result c.loop-form.form-index c.loop-form-test.true c.form-item.is (search rules) c.loop-form.invariant.names_are;
          })
    ]
