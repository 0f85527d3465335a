-- Why a text isn't accepted, and the stop that it makes.
use Rattle.std.specs.Prelude.{ℕ, List, Err}
use Rattle.fr_expand.specs.declared.refusal.Kind.{Kind}
use Rattle.fr_expand.specs.declared.refusal.Kind.TheVariants as form_kind
use Rattle.fr_show.specs.declared.stop.ProgramKind.{ProgramKind}
use Rattle.fr_show.specs.declared.stop.ProgramKind.TheVariants as kind
use Rattle.fr_show.specs.declared.stop.Stop.{Stop}
use Rattle.fr_show.specs.declared.stop.Stop.TheVariants as stop
use Rattle.fr_show.specs.declared.acceptance.AcceptStop.{AcceptStop}
use Rattle.fr_show.specs.declared.acceptance.AcceptStop.TheVariants.{Memory, Refused}
use Rattle.fr_show.specs.Accepted.{IsVerdict}

-- a kind of refused forms as one of refused texts
abbrev pub kind_of : Kind → ProgramKind
kind_of form_kind.Form = kind.Form
kind_of form_kind.Name = kind.Name
kind_of form_kind.Unbound = kind.Unbound
kind_of form_kind.Twice = kind.Twice
kind_of form_kind.Nesting = kind.Nesting
kind_of form_kind.Handler = kind.Handler

-- a refusal is the text's verdict; want of memory tells nothing of the text
abbrev pub Explains : List ℕ → AcceptStop → Type 0
Explains bytes (Memory e) = Unit {0}
Explains bytes (Refused form k) = IsVerdict bytes (Err (record { form = form; kind = k }))

-- the stop of a command whose program isn't accepted
abbrev pub unaccepted : AcceptStop → Stop
unaccepted (Memory e) = stop.Memory e
unaccepted (Refused form k) = stop.Program form k
