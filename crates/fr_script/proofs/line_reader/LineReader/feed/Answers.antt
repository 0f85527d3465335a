use Rattle.std.proofs.Common.{sym, ◌∙◌}
use Rattle.std.proofs.lemmas.Result.{on_ok_weaker}
use Rattle.fr_script.proofs.Goes.{with_rest}
use Rattle.fr_script.proofs.Turns.{fed_stands, bad_stands}
use Rattle.fr_script.proofs.Settles.{settled_told, piece_settles}
use Rattle.fr_script.proofs.line_reader.LineReader.feed.Goals as goal

pub returns-clause-stands : goal.returns-clause-stands
returns-clause-stands c =
    let r = c.args.self.now in
    on_ok_weaker c.feed.result
    (λ e. piece_settles r (with_rest r c.feed.new.self) c.args.piece.now (fed_stands r c.feed.new.self c.args.piece.now (sym (settled_told r) ∙ c.requires) e))
    c.feed.ensures.ok

pub returns-clause-told : goal.returns-clause-told
returns-clause-told c = settled_told (with_rest c.args.self.now c.feed.new.self) ∙ sym (settled_told c.args.self.now) ∙ c.requires

pub returns-then-is_some-clause-stands : goal.returns-then-is_some-clause-stands
returns-then-is_some-clause-stands c =
    let r = c.args.self.now in
    piece_settles r r c.args.piece.now (bad_stands r c.args.piece.now (sym (settled_told r) ∙ c.requires) (sym c.is_some.ensures ∙ c.if-is_some.true))
