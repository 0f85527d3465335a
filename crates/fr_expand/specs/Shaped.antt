-- The forms of a program as far as each has a shape, and what the code keeps of earlier ones.
use Rattle.std.specs.Prelude.{ℕ, ◌≡◌, Bool, List, [], ◌∷◌, Option, Some, None}
use Rattle.fr_value.specs.declared.value.Datum.{Datum}
use Rattle.fr_syntax.specs.Shapes.{form_of}
use Rattle.fr_syntax.specs.declared.form.Form.{Form}
use Rattle.fr_syntax.specs.declared.form.Form.TheVariants as form
use Rattle.fr_scope.specs.Meanings.{Binder}
use Rattle.fr_expand.specs.declared.earlier.EarlierNames.{EarlierNames}
use Rattle.fr_expand.specs.Faults.{is_among, named}
use Rattle.fr_expand.specs.Items.{name_of}
use Rattle.fr_expand.specs.Passes.{Earlier}

-- a form and those behind it, or none where it has no shape
abbrev pub and_behind : Option Form → List Form → List Form
and_behind None fs = []
and_behind (Some f) fs = f ∷ fs

-- the forms before the first that has no shape
abbrev pub shaped : List Datum → List Form
shaped [] = []
shaped (d ∷ ds) = and_behind (form_of d) (shaped ds)

-- the names of the variables that have one
abbrev pub names_in : List Binder → List (List ℕ)
names_in [] = []
names_in (None ∷ bs) = names_in bs
names_in (Some name ∷ bs) = name ∷ names_in bs

-- the names that the code keeps of earlier forms
abbrev pub earlier_of : EarlierNames → Earlier
earlier_of e = record { defined = e.defined; values = names_in e.values; shown = e.shown }

-- each of these variables has a name
abbrev pub AreNamed : List Binder → Type 0
AreNamed bs = bs ≡ named (names_in bs)

-- whether an earlier form of its kind gave the name that a form gives
abbrev pub is_taken : Earlier → Form → Bool
is_taken earlier (form.Show name e) = is_among name earlier.shown
is_taken earlier f = is_among (name_of f) earlier.defined
