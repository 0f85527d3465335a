-- Which texts are accepted as programs.
use Rattle.std.specs.Prelude.{ℕ, ◌+◌, ◌*◌, ◌≡◌, ◌≤◌, ◌<◌, List, length, take, map, Option, Some, None, Result, Ok, Err, IfSome}
use Rattle.fr_value.specs.Data.{datum_size, total}
use Rattle.fr_value.specs.Grammar.{Reads, IsRefused}
use Rattle.fr_value.specs.declared.value.Datum.{Datum}
use Rattle.fr_core.specs.declared.program.Program.{Program}
use Rattle.fr_expand.specs.declared.refusal.Kind.{Kind}
use Rattle.fr_expand.specs.declared.refusal.Kind.TheVariants as form_kind
use Rattle.fr_expand.specs.Expansion.{IsExpansion}
use Rattle.fr_show.specs.declared.stop.ProgramKind.{ProgramKind}
use Rattle.fr_show.specs.declared.stop.ProgramKind.TheVariants as kind
use Rattle.fr_show.specs.Course.{Course}

-- the greatest length of a program in bytes
abbrev pub program_limit : ℕ
program_limit = 1048576

-- as much of a program's file as is read: its first bytes, up to one more than a program may have
abbrev pub program_front : List ℕ → List ℕ
program_front file = take (program_limit + 1) file

-- the sizes of the forms of a text come to at most 8 for each byte that a program may have
abbrev pub AreSmall : List Datum → Type 0
AreSmall forms = total (map datum_size forms) ≤ 8 * program_limit

-- the text isn't too long, and reads as these forms
pub record IsForms (bytes : List ℕ) (forms : List Datum) : Type 0 where
  pub short : length bytes ≤ program_limit
  pub reads : Reads bytes forms

-- the text is accepted as this program
pub record IsProgram (bytes : List ℕ) (p : Program) : Type 0 where
  pub forms : List Datum
  pub read : IsForms bytes forms
  pub expands : IsExpansion forms (Ok p)

-- the text reads as forms of which this one is refused for this
pub record IsNoProgram (bytes : List ℕ) (form : ℕ) (k : Kind) : Type 0 where
  pub forms : List Datum
  pub read : IsForms bytes forms
  pub refused : IsExpansion forms (Err (record { form = form; kind = k }))

-- the form and the kind of a refusal
pub record Refusal : Type 0 where
  pub form : ℕ
  pub kind : ProgramKind

-- the program that a text is, or its refusal
abbrev pub Verdict : Type 0
Verdict = Result Program Refusal

-- what a text is refused for: its length, what doesn't read, or a form of that kind
pub data Cause : Type 0 where
  long : Cause
  unread : Cause
  refused : Kind → Cause

-- the cause that a kind tells of
abbrev pub cause_of : ProgramKind → Cause
cause_of kind.Length = long
cause_of kind.Text = unread
cause_of kind.Form = refused form_kind.Form
cause_of kind.Name = refused form_kind.Name
cause_of kind.Unbound = refused form_kind.Unbound
cause_of kind.Twice = refused form_kind.Twice
cause_of kind.Handler = refused form_kind.Handler
cause_of kind.Nesting = refused form_kind.Nesting

-- a text is refused for its length, else at the form from which on it doesn't read, else as its forms are
abbrev pub IsRefusedFor : List ℕ → ℕ → Cause → Type 0
IsRefusedFor bytes form long = (form ≡ 0) × (program_limit < length bytes)
IsRefusedFor bytes form unread = (length bytes ≤ program_limit) × IsRefused bytes form
IsRefusedFor bytes form (refused k) = IsNoProgram bytes form k

abbrev pub IsRefusedAs : List ℕ → ℕ → ProgramKind → Type 0
IsRefusedAs bytes form k = IsRefusedFor bytes form (cause_of k)

-- what a text is judged to be
abbrev pub IsVerdict : List ℕ → Verdict → Type 0
IsVerdict bytes (Ok p) = IsProgram bytes p
IsVerdict bytes (Err r) = IsRefusedAs bytes r.form r.kind

-- a file is judged, and the fact holds of the course that the verdict leads to, where what is told settles it
abbrev pub OnJudged : (Verdict → Option Course) → Option (List ℕ) → (Course → Type 0) → Type 0
OnJudged course None F = Unit {0}
OnJudged course (Some bytes) F = (v : Verdict) × IsVerdict bytes v × IfSome (course v) F

-- the same where the file may not have been judged: whatever it is judged to be, the fact holds of the course
abbrev pub OnEachJudged : (Verdict → Option Course) → Option (List ℕ) → (Course → Type 0) → Type 0
OnEachJudged course None F = Unit {0}
OnEachJudged course (Some bytes) F = (v : Verdict) → IsVerdict bytes v → IfSome (course v) F
