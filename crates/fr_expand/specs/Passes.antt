-- The first pass over the forms of a program: each form is looked at for shape, names and nesting.
use Rattle.std.specs.Prelude.{ℕ, ◌+◌, ◌||◌, nat_lt, Bool, false, if◌then◌else◌, List, [], ◌∷◌, ◌++◌, map, Option, Some, None, is_some, codes}
use Rattle.std.specs.Option.{option_or}
use Rattle.std.specs.Str.{bytes_eq}
use Rattle.fr_value.specs.declared.value.Datum.{Datum}
use Rattle.fr_prims.specs.Names.{prim_named}
use Rattle.fr_core.specs.declared.core_form.Core.{Core}
use Rattle.fr_core.specs.WellFormed.{nesting, deepest_nesting}
use Rattle.fr_syntax.specs.Outlines.{Global}
use Rattle.fr_syntax.specs.Shapes.{form_of}
use Rattle.fr_syntax.specs.declared.form.Form.{Form}
use Rattle.fr_syntax.specs.declared.form.Form.TheVariants as form
use Rattle.fr_scope.specs.Meanings.{globals_in}
use Rattle.fr_expand.specs.declared.refusal.Kind.{Kind}
use Rattle.fr_expand.specs.declared.refusal.Kind.TheVariants as kind
use Rattle.fr_expand.specs.declared.refusal.Refusal.{Refusal}
use Rattle.fr_expand.specs.declared.faults.Faults.{Faults}
use Rattle.fr_expand.specs.Faults.{with, is_keyword, is_among, binding_faults, named, faults}
use Rattle.fr_expand.specs.Items.{name_of, values_behind, form_core}

-- the names that earlier forms gave: all that they defined, the values among them in order, and those of shows
pub record Earlier : Type 0 where
  pub defined : List (List ℕ)
  pub values : List (List ℕ)
  pub shown : List (List ℕ)

abbrev pub nothing_yet : Earlier
nothing_yet = record { defined = []; values = []; shown = [] }

-- a name that may not be defined at top level: a keyword, a primitive's name, or `now`
abbrev pub is_reserved : List ℕ → Bool
is_reserved name = is_keyword name || is_some (prim_named name) || bytes_eq name (codes "now")

-- the faults of a name that a form defines
abbrev pub definition_faults : Earlier → List ℕ → Faults
definition_faults earlier name = record { name = is_reserved name; unbound = false; twice = is_among name earlier.defined }

-- the fault of a show's name
abbrev pub show_faults : Earlier → List ℕ → Faults
show_faults earlier name = record { name = false; unbound = false; twice = is_among name earlier.shown }

-- the faults of a form's names
abbrev pub form_faults : List Global → Earlier → Form → Faults
form_faults globals earlier (form.Input name v) = definition_faults earlier name
form_faults globals earlier (form.Event name) = definition_faults earlier name
form_faults globals earlier (form.Function name params body) = with (definition_faults earlier name) (with (binding_faults params) (faults globals body (named params)))
form_faults globals earlier (form.Define name e) = with (definition_faults earlier name) (faults globals e (named earlier.values))
form_faults globals earlier (form.Show name e) = with (show_faults earlier name) (faults globals e (named earlier.values))

-- how deep a core expression nests, 0 where there is none
abbrev pub nests : Option Core → ℕ
nests None = 0
nests (Some c) = nesting c

-- the first kind of these faults
abbrev pub fault_kind : Faults → Option Kind
fault_kind f = if f.name then Some kind.Name else if f.unbound then Some kind.Unbound else if f.twice then Some kind.Twice else None

-- the kind for which a well-shaped form is refused
abbrev pub form_kind : List Global → Earlier → Form → Option Kind
form_kind globals earlier f = option_or (fault_kind (form_faults globals earlier f)) (if nat_lt deepest_nesting (nests (form_core globals earlier.values f)) then Some kind.Nesting else None)

-- the names that stand for the forms behind this one
abbrev pub behind : Earlier → Form → Earlier
behind e (form.Show name expr) = record { defined = e.defined; values = e.values; shown = e.shown ++ name ∷ [] }
behind e f = record { defined = e.defined ++ name_of f ∷ []; values = values_behind e.values f; shown = e.shown }

-- a refusal of form number n, or what comes behind it
abbrev pub refused_or : ℕ → Option Kind → Option Refusal → Option Refusal
refused_or n None rest = rest
refused_or n (Some k) rest = Some (record { form = n; kind = k })

-- the first refusal among these forms, of which the first has number n; one that has no shape is refused for that
abbrev pub refusal_from : List Global → ℕ → Earlier → List (Option Form) → Option Refusal
refusal_from globals n earlier [] = None
refusal_from globals n earlier (None ∷ fs) = Some (record { form = n; kind = kind.Form })
refusal_from globals n earlier (Some f ∷ fs) = refused_or n (form_kind globals earlier f) (refusal_from globals (n + 1) (behind earlier f) fs)

-- the first form that the first pass refuses, with its first kind; forms count from 1
abbrev pub first_refusal : List Datum → Option Refusal
first_refusal ds = refusal_from (globals_in ds) 1 nothing_yet (map form_of ds)
