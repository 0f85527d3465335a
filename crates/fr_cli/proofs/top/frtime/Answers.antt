use Rattle.std.proofs.Common.{◌∙◌, sym, ap, refl, None}
use Rattle.fr_cli.specs.Command.{asked}
use Rattle.fr_cli.specs.Lines.{status_of}
use Rattle.fr_cli.proofs.Statuses.{is_read, is_write, is_usage, done_whole, says_whole, says_program, says_script, says_errs, says_cut, says_complete, done_complete}
use Rattle.fr_cli.proofs.Writing.{line_counts}
use Rattle.fr_cli.proofs.top.frtime.Goals as goal

pub returns-in-Ok-clause-whole_instants : goal.returns-in-Ok-clause-whole_instants
returns-in-Ok-clause-whole_instants g c other = done_whole None (asked c.args.words.now) (g.S.Shelf.holds c.args.shelf.now) _ _ c.in-Ok.ensures.ok

pub returns-in-Ok-clause-complete : goal.returns-in-Ok-clause-complete
returns-in-Ok-clause-complete g c read write = done_complete _ None (asked c.args.words.now) (g.S.Shelf.holds c.args.shelf.now) _ _ refl c.in-Ok.ensures.ok

pub returns-in-Err-clause-whole_instants : goal.returns-in-Err-clause-whole_instants
returns-in-Err-clause-whole_instants g c other =
    says_whole c.in-Err.failure (asked c.args.words.now) (g.S.Shelf.holds c.args.shelf.now) _ _ (λ e. other (c.status.ensures ∙ e)) c.in-Err.ensures.err

pub returns-in-Err-clause-program_refused : goal.returns-in-Err-clause-program_refused
returns-in-Err-clause-program_refused g c is =
    says_program c.in-Err.failure (asked c.args.words.now) (g.S.Shelf.holds c.args.shelf.now) _ _ (sym c.status.ensures ∙ is) c.in-Err.ensures.err

pub returns-in-Err-clause-script_refused : goal.returns-in-Err-clause-script_refused
returns-in-Err-clause-script_refused g c is =
    says_script c.in-Err.failure (asked c.args.words.now) (g.S.Shelf.holds c.args.shelf.now) _ _ (sym c.status.ensures ∙ is) c.in-Err.ensures.err

pub returns-in-Err-clause-evaluation_error : goal.returns-in-Err-clause-evaluation_error
returns-in-Err-clause-evaluation_error g c is =
    says_errs c.in-Err.failure (asked c.args.words.now) (g.S.Shelf.holds c.args.shelf.now) _ _ (sym c.status.ensures ∙ is) c.in-Err.ensures.err

pub returns-in-Err-clause-first_bytes : goal.returns-in-Err-clause-first_bytes
returns-in-Err-clause-first_bytes g c is =
    says_cut c.in-Err.failure (asked c.args.words.now) (g.S.Shelf.holds c.args.shelf.now) _ _ (sym c.status.ensures ∙ is) c.in-Err.ensures.err

pub returns-in-Err-clause-complete : goal.returns-in-Err-clause-complete
returns-in-Err-clause-complete g c read write =
    let failure = c.in-Err.failure in
    rw c.status.ensures (says_complete failure (asked c.args.words.now) (g.S.Shelf.holds c.args.shelf.now) _ _
    (λ e. read (c.in-Err.ensures.shelf.rises (is_read failure e))) (λ e. write (c.in-Err.ensures.counts.rises (is_write failure e))) c.in-Err.ensures.err)

pub returns-in-Err-clause-usage : goal.returns-in-Err-clause-usage
returns-in-Err-clause-usage g c = (
  λ e. c.in-Err.ensures.usage.0 (is_usage c.in-Err.failure (sym c.status.ensures ∙ e)),
  λ none. c.status.ensures ∙ ap status_of (c.in-Err.ensures.usage.1 none),
)

pub returns-in-Err-clause-read_fault : goal.returns-in-Err-clause-read_fault
returns-in-Err-clause-read_fault g c is = c.in-Err.ensures.unread (is_read c.in-Err.failure (sym c.status.ensures ∙ is))

pub returns-in-Err-clause-no_read_fault : goal.returns-in-Err-clause-no_read_fault
returns-in-Err-clause-no_read_fault g c other = c.in-Err.ensures.shelf.stays (λ e. other (c.status.ensures ∙ ap status_of e))

pub returns-in-Err-clause-write_fault : goal.returns-in-Err-clause-write_fault
returns-in-Err-clause-write_fault g c is = c.in-Err.ensures.counts.rises (is_write c.in-Err.failure (sym c.status.ensures ∙ is))

pub returns-in-Err-clause-no_write_fault : goal.returns-in-Err-clause-no_write_fault
returns-in-Err-clause-no_write_fault g c other = c.in-Err.ensures.counts.stays (λ e. other (c.status.ensures ∙ ap status_of e))

pub returns-in-Err-clause-answers : goal.returns-in-Err-clause-answers
returns-in-Err-clause-answers g c = rw c.status.ensures c.in-Err.ensures.answers

pub returns-in-Err-clause-quiet : goal.returns-in-Err-clause-quiet
returns-in-Err-clause-quiet g c quiet done other = c.in-Err.ensures.quiet quiet (λ e. other (c.status.ensures ∙ ap status_of e))

pub returns-in-Err-clause-err_counts : goal.returns-in-Err-clause-err_counts
returns-in-Err-clause-err_counts g c = line_counts _ _ _ _ _ c.tell.ensures
