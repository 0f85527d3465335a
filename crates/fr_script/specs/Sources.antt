-- The sources that a script may set.
use Rattle.std.specs.Prelude.{ℕ, ◌≡◌, ◌++◌, List, [], ◌∷◌, map, Option, Some, None, if◌then◌else◌}
use Rattle.std.specs.Option.{option_or}
use Rattle.std.specs.Str.{bytes_eq}
use Rattle.fr_core.specs.declared.program.Program.{Program}
use Rattle.fr_core.specs.declared.program.Input.{Input}
use Rattle.fr_core.specs.declared.program.Event.{Event}
use Rattle.fr_script.specs.declared.sources.Source.{Source}
use Rattle.fr_script.specs.declared.sources.SourceKind.TheVariants as kind

-- a name and the source that it means
abbrev pub Named : Type 0
Named = List ℕ × Source

abbrev pub input_source : Input → Named
input_source i = (i.name, record { source = i.source; kind = kind.Input })

abbrev pub event_source : Event → Named
event_source e = (e.name, record { source = e.source; kind = kind.Event })

-- the sources of a program: its inputs and then its events
unfoldable pub sources : Program → List Named
sources p = map input_source p.inputs ++ map event_source p.events

-- the source of the first with this name, if there is one
abbrev pub named : List Named → List ℕ → Option Source
named [] name = None
named (s ∷ ss) name = if bytes_eq name s.0 then Some s.1 else named ss name

-- the one map has the names of the other, and behind them these
abbrev pub AddsNames : (List ℕ → Option Source) → List Named → (List ℕ → Option Source) → Type 0
AddsNames old ss new = (q : List ℕ) → new q ≡ option_or (old q) (named ss q)
