use Rattle.std.proofs.Common.{◌∙◌, ap}
use Rattle.std.specs.Option.{option_and_then}
use Rattle.fr_value.specs.Data.{datum_of}
use Rattle.fr_syntax.specs.Shapes.{two_params}
use Rattle.fr_syntax.proofs.Params.{two_symbols, no_second, named_two}
use Rattle.fr_syntax.proofs.handlers.two_params.Goals as goal

pub returns-in_err-symbol_of-2 : goal.returns-in_err-symbol_of-2
returns-in_err-symbol_of-2 c below =
    rw c.from_residual-in_err-symbol_of-2.ensures
    (rw (no_second c.in_ok-params.params.now c.in_ok-payload.payload.now c.in_ok-payload.state.now c.in_ok-symbol_of.field-0.now c.in_ok-payload.ensures c.in_ok-symbol_of.ensures c.in_err-symbol_of-2.ensures)
    at (ap (option_and_then two_params) (c.in_ok-params.ensures below)))

pub returns : goal.returns
returns c below =
    let s = c.in_ok-symbol_of.field-0.now in
    let t = c.in_ok-symbol_of-2.field-0.now in
    named_two s t (below (datum_of c.in_ok-params.body.now))
    ∙ (rw (two_symbols c.in_ok-params.params.now c.in_ok-payload.payload.now c.in_ok-payload.state.now s t c.in_ok-payload.ensures c.in_ok-symbol_of.ensures c.in_ok-symbol_of-2.ensures)
    at (ap (option_and_then two_params) (c.in_ok-params.ensures below)))
