-- What is borrowed, as contracts see it.
use Rattle.std.specs.Prelude.{List, map, Option}
use Rattle.std.specs.Option.{option_map}
use denote.Ref.{Bor}
use Rattle.fr_core.specs.declared.lowered.Low.{Low}
use Rattle.fr_nodes.specs.Kinds.{Choices}
use Rattle.fr_ready.specs.declared.choices.Branches.{Branches}

-- the choices that are borrowed
abbrev pub branches_seen : Branches → Choices
branches_seen b = record { yes = b.yes.now; no = b.no.now }

abbrev pub entries_seen : List (Option Branches) → List (Option Choices)
entries_seen es = map (option_map branches_seen) es

-- the expressions that are borrowed
abbrev pub lows_seen : List (Bor Low) → List Low
lows_seen es = map (λ e. e.now) es
