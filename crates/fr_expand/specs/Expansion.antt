-- The program that a list of forms is, or its refusal.
use Rattle.std.specs.Prelude.{ℕ, ◌+◌, ◌≡◌, ◌<◌, List, [], ◌∷◌, ◌++◌, length, slice_get, Option, Some, None, Result, Ok, Err}
use Rattle.std.specs.Option.{option_to_list}
use Rattle.fr_value.specs.declared.value.Datum.{Datum}
use Rattle.fr_core.specs.declared.core_form.Core.{Core}
use Rattle.fr_core.specs.declared.program.Event.{Event}
use Rattle.fr_core.specs.declared.program.Function.{Function}
use Rattle.fr_core.specs.declared.program.Input.{Input}
use Rattle.fr_core.specs.declared.program.Item.{Item}
use Rattle.fr_core.specs.declared.program.Program.{Program}
use Rattle.fr_core.specs.Classes.{IsFit, IsFitExpr}
use Rattle.fr_syntax.specs.Outlines.{Global}
use Rattle.fr_syntax.specs.Shapes.{form_of}
use Rattle.fr_syntax.specs.declared.form.Form.{Form}
use Rattle.fr_syntax.specs.declared.form.Form.TheVariants as form
use Rattle.fr_scope.specs.Meanings.{globals_in}
use Rattle.fr_expand.specs.declared.refusal.Kind.TheVariants as kind
use Rattle.fr_expand.specs.declared.refusal.Refusal.{Refusal}
use Rattle.fr_expand.specs.Faults.{named}
use Rattle.fr_expand.specs.Translation.{core_of}
use Rattle.fr_expand.specs.Items.{values_behind, form_core, item_of}
use Rattle.fr_expand.specs.Passes.{first_refusal}

-- all forms that have a shape
abbrev pub forms_of : List Datum → List Form
forms_of [] = []
forms_of (d ∷ ds) = option_to_list (form_of d) ++ forms_of ds

-- the inputs, where the next source has number n
abbrev pub inputs_from : ℕ → List Form → List Input
inputs_from n [] = []
inputs_from n (form.Input name v ∷ fs) = record { source = record { 0 = n }; name = name; first = v } ∷ inputs_from (n + 1) fs
inputs_from n (form.Event name ∷ fs) = inputs_from (n + 1) fs
inputs_from n (form.Function name params body ∷ fs) = inputs_from n fs
inputs_from n (form.Define name e ∷ fs) = inputs_from n fs
inputs_from n (form.Show name e ∷ fs) = inputs_from n fs

-- the events, where the next source has number n
abbrev pub events_from : ℕ → List Form → List Event
events_from n [] = []
events_from n (form.Input name v ∷ fs) = events_from (n + 1) fs
events_from n (form.Event name ∷ fs) = record { source = record { 0 = n }; name = name } ∷ events_from (n + 1) fs
events_from n (form.Function name params body ∷ fs) = events_from n fs
events_from n (form.Define name e ∷ fs) = events_from n fs
events_from n (form.Show name e ∷ fs) = events_from n fs

-- the functions
abbrev pub functions_in : List Global → List Form → List Function
functions_in globals [] = []
functions_in globals (form.Function name params body ∷ fs) = record { name = name; params = length params; body = core_of globals body (named params) } ∷ functions_in globals fs
functions_in globals (form.Input name v ∷ fs) = functions_in globals fs
functions_in globals (form.Event name ∷ fs) = functions_in globals fs
functions_in globals (form.Define name e ∷ fs) = functions_in globals fs
functions_in globals (form.Show name e ∷ fs) = functions_in globals fs

-- the items of the body, where these are the names of the values before
abbrev pub items_from : List Global → List (List ℕ) → List Form → List Item
items_from globals values [] = []
items_from globals values (f ∷ fs) = option_to_list (item_of globals values f) ++ items_from globals (values_behind values f) fs

-- the greatest sum of the sizes of a program's forms
abbrev pub most_weight : ℕ
most_weight = 8388608

-- a program has fewer expressions than this
abbrev pub expression_limit : ℕ
expression_limit = 268435456

-- the program of forms that have a shape
abbrev pub program_in : List Global → List Form → Program
program_in globals fs = record { inputs = inputs_from 1 fs; events = events_from 1 fs; functions = functions_in globals fs; body = items_from globals [] fs }

-- the program of forms that the first pass doesn't refuse
unfoldable pub program_of : List Datum → Program
program_of ds = program_in (globals_in ds) (forms_of ds)

-- the core expression of each form, if it has one, where these are the names of the values before
abbrev pub cores_from : List Global → List (List ℕ) → List Form → List (Option Core)
cores_from globals values [] = []
cores_from globals values (f ∷ fs) = form_core globals values f ∷ cores_from globals (values_behind values f) fs

abbrev pub cores_of : List Datum → List (Option Core)
cores_of ds = cores_from (globals_in ds) [] (forms_of ds)

-- the form's core expression, if it has one, has pure bodies in its handlers and loops
abbrev pub IsFitForm : Program → Option Core → Type 0
IsFitForm p None = Unit {0}
IsFitForm p (Some e) = IsFitExpr p e

-- the first form, counted from 1, whose handlers and loops don't all have pure bodies
pub record IsFirstUnfit (p : Program) (cores : List (Option Core)) (form : ℕ) : Type 0 where
  pub place : ℕ
  pub number : form ≡ place + 1
  pub core : Core
  pub stands : slice_get cores place ≡ Some (Some core)
  pub unfit : IsFitExpr p core → ⊥
  pub before : (i : ℕ) (c : Option Core) → i < place → slice_get cores i ≡ Some c → IsFitForm p c

-- the handlers and loops of all forms have pure bodies
abbrev pub AreFit : Program → List (Option Core) → Type 0
AreFit p cores = (i : ℕ) (c : Option Core) → slice_get cores i ≡ Some c → IsFitForm p c

-- what forms are that the first pass doesn't refuse: the program where it is fit, and else a refusal of the second pass
abbrev pub IsSecondPass : List Datum → Result Program Refusal → Type 0
IsSecondPass ds (Ok p) = (p ≡ program_of ds) × IsFit p
IsSecondPass ds (Err r) = (r.kind ≡ kind.Handler) × IsFirstUnfit (program_of ds) (cores_of ds) r.form

abbrev pub IsExpansionAfter : Option Refusal → List Datum → Result Program Refusal → Type 0
IsExpansionAfter (Some r) ds v = v ≡ Err r
IsExpansionAfter None ds v = IsSecondPass ds v

-- what a list of forms is: a program, or the first refusal of the first pass that refuses a form
abbrev pub IsExpansion : List Datum → Result Program Refusal → Type 0
IsExpansion ds v = IsExpansionAfter (first_refusal ds) ds v
