use Rattle.std.proofs.Common.{[], ◌∷◌}
use Rattle.fr_value.specs.Text.{escaped}
use Rattle.fr_value.proofs.Parts.{on_err, part_between}
use Rattle.fr_value.proofs.text.string_into.Goals as goal

pub returns-in_err-escaped_into-clause-part : goal.returns-in_err-escaped_into-clause-part
returns-in_err-escaped_into-clause-part c = on_err c.from_residual-in_err-escaped_into.result
    (part_between c.args.out.now.items c.extend_from_slice.new.self.items c.escaped_into.new.out.items (34 ∷ []) (escaped c.args.bytes.now) (34 ∷ [])
    c.in_ok-extend_from_slice.ensures.items c.in_err-escaped_into.ensures.part)
