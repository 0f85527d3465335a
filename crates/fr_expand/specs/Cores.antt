-- The functions and the items that forms give, as they are gone through beside the forms.
use Rattle.std.specs.Prelude.{ℕ, ◌≡◌, List}
use Rattle.fr_core.specs.declared.core_form.Core.{Core}
use Rattle.fr_core.specs.declared.program.Function.{Function}
use Rattle.fr_core.specs.declared.program.Item.{Item}
use Rattle.fr_core.specs.declared.program.Item.TheVariants as item
use Rattle.fr_syntax.specs.Outlines.{Global}
use Rattle.fr_syntax.specs.declared.form.Form.{Form}
use Rattle.fr_expand.specs.Expansion.{functions_in, items_from}

-- the expression of an item
abbrev pub expr_of : Item → Core
expr_of (item.Define e) = e
expr_of (item.Show name e) = e

-- these forms give these functions and items, where these are the names of the values before
pub record AreGiven (globals : List Global) (values : List (List ℕ)) (forms : List Form) (fs : List Function) (is : List Item) : Type 0 where
  pub functions : fs ≡ functions_in globals forms
  pub items : is ≡ items_from globals values forms
