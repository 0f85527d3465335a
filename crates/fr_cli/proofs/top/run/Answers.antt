use Rattle.std.proofs.Common.{◌≡◌, List, ℕ, take, length, sym, subst, rules, IfSome, Ok, Err}
use Rattle.fr_io.specs.Files.{ReachesFront}
use Rattle.fr_cli.specs.Command.{script_command}
use Rattle.fr_cli.proofs.Runs.{unread, ran}
use Rattle.fr_cli.proofs.top.run.Goals as goal

pub returns-in-Err : goal.returns-in-Err
returns-in-Err g c word =
    unread (script_command word c.args.program.now c.args.script.now) c.in-Err.stop _ _ _ _ _ _ _ _ c.in-Err.ensures.err (search rules) (search rules) c.in-Err.ensures.shelf

pub returns-in-Ok-run_afresh : goal.returns-in-Ok-run_afresh
returns-in-Ok-run_afresh g c word =
    let program = c.args.program.now in
    let seen = sym c.deref.ensures.value in
    let bytes = subst (λ (b : List ℕ). IfSome (g.S.Shelf.holds c.args.shelf.now program) (λ file. b ≡ take 1048577 file)) seen c.in-Ok.ensures.text in
    let reached = subst (λ (b : List ℕ). ReachesFront (g.S.Shelf.reached c.args.shelf.now program) (g.S.Shelf.reached c.read_program.new.shelf program) (length b)) seen c.in-Ok.ensures.reached in
    ran word program c.args.script.now c.deref.result.now (Ok _) _ _ _ _ _ _ _ _ _ _ _ _ _ bytes reached c.in-Ok.ensures.shelf
    (record {
      ok = c.in-Ok-run_afresh.ensures.ok;
      err = tt;
      to_end = c.in-Ok-run_afresh.ensures.to_end;
      began = λ e. absurd e;
      shelf = c.in-Ok-run_afresh.ensures.shelf;
      counts = c.in-Ok-run_afresh.ensures.counts;
    })

pub returns : goal.returns
returns g c word =
    let program = c.args.program.now in
    let seen = sym c.deref.ensures.value in
    let bytes = subst (λ (b : List ℕ). IfSome (g.S.Shelf.holds c.args.shelf.now program) (λ file. b ≡ take 1048577 file)) seen c.in-Ok.ensures.text in
    let reached = subst (λ (b : List ℕ). ReachesFront (g.S.Shelf.reached c.args.shelf.now program) (g.S.Shelf.reached c.read_program.new.shelf program) (length b)) seen c.in-Ok.ensures.reached in
    ran word program c.args.script.now c.deref.result.now (Err c.in-Err-run_afresh.stop) _ _ _ _ _ _ _ _ _ _ _ _ _ bytes reached c.in-Ok.ensures.shelf
    (record {
      ok = tt;
      err = c.in-Err-run_afresh.ensures.err;
      to_end = tt;
      began = c.in-Err-run_afresh.ensures.began;
      shelf = c.in-Err-run_afresh.ensures.shelf;
      counts = c.in-Err-run_afresh.ensures.counts;
    })
