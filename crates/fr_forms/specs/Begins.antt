-- The forms with a handler, begun: they give their line, or ask for the handler's call.
use Rattle.std.specs.Prelude.{List, ◌∷◌}
use Rattle.fr_value.specs.declared.value.Value.{Value}
use Rattle.fr_core.specs.declared.core_form.Handler.{Handler}
use Rattle.fr_core.specs.declared.core_form.Handler.TheVariants as handler
use Rattle.fr_meaning.specs.Words.{Seen, plain}
use Rattle.fr_meaning.specs.States.{Line as FormLine, Begun as FormBegun, known, asks, keeps, stays}
use Rattle.fr_forms.specs.declared.handlers.CallArgs.{CallArgs}
use Rattle.fr_forms.specs.declared.handlers.Begun.{Begun}
use Rattle.fr_forms.specs.declared.handlers.Begun.TheVariants as begun
use Rattle.fr_forms.specs.Lent.{form_line, bound}

-- the arguments of a handler's call
abbrev pub args_of : CallArgs → List Seen
args_of a = plain a.payload.now ∷ bound a.state

-- a form with a handler that the code has begun
abbrev pub begun_of : Begun → FormBegun
begun_of (begun.Gives l) = known (form_line l)
begun_of (begun.Asks a) = asks (args_of a)

-- the line of a form with a state where its event doesn't occur
abbrev pub quiet : Handler → Value → FormLine
quiet handler.CollectE = stays
quiet h = keeps
