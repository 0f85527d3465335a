-- What code tells of an evaluation: all but its cost.
use Rattle.std.specs.Prelude.{ℕ, [], ◌∷◌, ◌++◌, None}
use Rattle.std.specs.Option.{option_or}
use Rattle.fr_core.specs.declared.kept.Kept.{Kept}
use Rattle.fr_core.specs.declared.kept.Kept.TheVariants as kept
use Rattle.fr_meaning.specs.Words.{Seen, First, Done as Evaluated, under, own}
use Rattle.fr_meaning.specs.Cells.{with_cell}
use Rattle.fr_meaning.specs.States.{Line, Called}
use Rattle.fr_meaning.specs.Evaluation.{Parts as EvaluatedParts, Turns as LoopTurns, refusal_first}
use Rattle.fr_afresh.specs.declared.joining.Done.{Done}
use Rattle.fr_afresh.specs.declared.joining.Around.{Around}
use Rattle.fr_afresh.specs.declared.joining.Parts.{Parts}
use Rattle.fr_afresh.specs.declared.joining.Turns.{Turns}

-- what is told of an evaluation
abbrev pub without_cost : Evaluated → Done
without_cost d = record { value = d.value; kept = d.kept; first = d.first }

-- what is told of parts
abbrev pub parts_without_cost : EvaluatedParts → Parts
parts_without_cost ps = record { values = ps.values; around = record { kepts = ps.kepts; first = ps.first } }

-- before the first part
abbrev pub unbegun_around : Around
unbegun_around = record { kepts = []; first = None }

-- what is told of parts behind those so far
abbrev pub parts_on : Parts → EvaluatedParts → Parts
parts_on p ps = record { values = p.values ++ ps.values; around = record { kepts = p.around.kepts ++ ps.kepts; first = option_or p.around.first ps.first } }

-- what is told of turns behind those so far
abbrev pub turns_on : Turns → LoopTurns → Turns
turns_on t ts = record { value = ts.value; first = option_or t.first ts.first }

-- the parts so far, and behind them what part number n keeps and its first error
abbrev pub with_kept : Around → ℕ → Kept → First → Around
with_kept a n k f = record { kepts = a.kepts ++ k ∷ []; first = option_or a.first (under n f) }

-- the parts so far, and behind them part number n
abbrev pub with_part : Parts → ℕ → Done → Parts
with_part p n d = record { values = p.values ++ d.value ∷ []; around = with_kept p.around n d.kept d.first }

-- the parts so far, and behind them the first error of part number n, which keeps nothing
abbrev pub erred : Around → ℕ → First → Around
erred a n f = record { kepts = a.kepts; first = option_or a.first (under n f) }

-- an evaluation that gives this value behind its parts, and keeps what they keep
abbrev pub ended_as : Seen → Around → Done
ended_as v a = record { value = v; kept = kept.Group a.kepts; first = option_or a.first (own v) }

-- a form's line behind its parts
abbrev pub lined : Around → Line → Done
lined a l = record { value = l.value; kept = with_cell l.next (kept.Group a.kepts); first = option_or a.first (option_or l.inner (option_or (own l.value) (refusal_first l.refusal))) }

-- a handler's call that is told of so, at no cost; its body is part number n
abbrev pub called_as : ℕ → Done → Called
called_as n d = record { value = d.value; cost = 0; first = under n d.first }
