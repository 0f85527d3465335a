use Rattle.std.proofs.Common.{sym, ◌∙◌, ap, subst, arith}
use Rattle.indexmap.specs.IndexMap.{get_by_text}
use Rattle.fr_script.proofs.Tells.{IsGood, good_fits, sets_tell, set_bytes}
use Rattle.fr_script.proofs.line_reader.LineReader.take_line.Goals as goal

pub pass-requires-clause-within : goal.pass-requires-clause-within
pass-requires-clause-within c =
    good_fits (get_by_text c.args.self.now.names) c.args.self.now.past c.front.result.now c.args.bytes
    (subst IsGood (sym c.in-Blank.is ∙ c.in_ok-said_line.ensures) tt)

pub set-requires : goal.set-requires
set-requires c =
    sets_tell (get_by_text c.args.self.now.names) c.args.self.now.past c.front.result.now c.args.bytes c.in-Sets.time c.in-Sets.entry
    (sym c.in_ok-said_line.ensures ∙ c.in-Sets.is)

pub pass-requires-in-Sets-clause-within : goal.pass-requires-in-Sets-clause-within
pass-requires-in-Sets-clause-within c =
    let fits = good_fits (get_by_text c.args.self.now.names) c.args.self.now.past c.front.result.now c.args.bytes (subst IsGood (sym c.in-Sets.is ∙ c.in_ok-said_line.ensures) tt) in
    omega (arith, fits, ap (λ p. p.bytes) c.in_ok-closed-in-Sets.ensures.ok.1, set_bytes c.args.self.now.past c.in-Sets.time c.in-Sets.entry)
