-- What a form gives: its name, its core expression, the item that it is, and the values behind it.
use Rattle.std.specs.Prelude.{ℕ, List, [], ◌∷◌, ◌++◌, Option, Some, None}
use Rattle.std.specs.Option.{option_map}
use Rattle.fr_core.specs.declared.core_form.Core.{Core}
use Rattle.fr_core.specs.declared.program.Item.{Item}
use Rattle.fr_core.specs.declared.program.Item.TheVariants as item
use Rattle.fr_syntax.specs.Outlines.{Global}
use Rattle.fr_syntax.specs.declared.expr.Expr.{Expr}
use Rattle.fr_syntax.specs.declared.form.Form.{Form}
use Rattle.fr_syntax.specs.declared.form.Form.TheVariants as form
use Rattle.fr_expand.specs.Faults.{named}
use Rattle.fr_expand.specs.Translation.{core_of}

-- the name that a form gives to what it defines or shows
abbrev pub name_of : Form → List ℕ
name_of (form.Input name v) = name
name_of (form.Event name) = name
name_of (form.Function name params body) = name
name_of (form.Define name e) = name
name_of (form.Show name e) = name

-- the names of the values behind a form: each value is in scope in the forms behind it
abbrev pub values_behind : List (List ℕ) → Form → List (List ℕ)
values_behind values (form.Define name e) = values ++ name ∷ []
values_behind values f = values

-- the expression of a form and the names of the variables in scope there, where these are the names of the values before
abbrev pub form_expr : List (List ℕ) → Form → Option (Expr × List (List ℕ))
form_expr values (form.Function name params body) = Some (body, params)
form_expr values (form.Define name e) = Some (e, values)
form_expr values (form.Show name e) = Some (e, values)
form_expr values f = None

-- the core expression of a form, if it has one
abbrev pub form_core : List Global → List (List ℕ) → Form → Option Core
form_core globals values f = option_map (λ x. core_of globals x.0 (named x.1)) (form_expr values f)

-- the item of a program's body that a form is, if it is one
abbrev pub item_of : List Global → List (List ℕ) → Form → Option Item
item_of globals values (form.Define name e) = Some (item.Define (core_of globals e (named values)))
item_of globals values (form.Show name e) = Some (item.Show name (core_of globals e (named values)))
item_of globals values f = None
