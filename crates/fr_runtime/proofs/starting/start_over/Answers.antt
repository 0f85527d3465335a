use Rattle.std.proofs.Common.{[]}
use Rattle.fr_core.specs.declared.kept.Kept.TheVariants as kept
use Rattle.fr_meaning.specs.Afresh.{beginning, first_instant, instant}
use Rattle.fr_ready.specs.Ready.{plan_of}
use Rattle.fr_ready.specs.Switches.{sites_by}
use Rattle.fr_runtime.proofs.Ends.{ok_both, err_map, has_begun, stops_map}
use Rattle.fr_runtime.proofs.Starts.{errs_at_all}
use Rattle.fr_runtime.proofs.starting.start_over.Goals as goal

pub returns-in-Err : goal.returns-in-Err
returns-in-Err g c =
    let pr = c.args.program.now in
    record {
      well_formed = c.requires.well_formed;
      ok = tt;
      err = c.stop_of.ensures (instant pr (beginning pr) first_instant) (stops_map c.in-Err.stop _ _ (λ fails.
          errs_at_all pr (λ sources. c.failing_to_build_is_an_error.ensures pr (plan_of c.args.plan) c.args.items.now fails.0 sources kept.Nothing c.requires.lowered fails.1)) c.in-Err.ensures.stops);
    }

pub first-requires-clause-up : goal.first-requires-clause-up
first-requires-clause-up g c =
    let sites = sites_by c.args.found in
    rw (c.of-choices.ensures.plan, c.of-choices.ensures.choices) (record {
      items = c.args.items.now;
      lowered = c.requires.lowered;
      counted = c.requires.counted;
      up = c.in-Ok.ensures.up sites c.requires.matches c.requires.items;
    })

pub returns-in-Ok-first : goal.returns-in-Ok-first
returns-in-Ok-first g c =
    let pr = c.args.program.now in
    let n = instant pr (beginning pr) first_instant in
    record {
      well_formed = c.requires.well_formed;
      ok = ok_both c.stand_behind.result _ _ _ (λ e behind changed. has_begun _ _ pr (behind n c.in-Ok-first.ensures.ok) (changed [])) c.stand_behind.ensures.behind c.stand_behind.ensures.changed;
      err = err_map c.stand_behind.result _ _ (λ stop h. h n) c.stand_behind.ensures.memory;
    }
