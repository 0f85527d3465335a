-- The program that a lowered program was made from, and which kernels it names where.
use Rattle.std.specs.Prelude.{ℕ, ◌+◌, ◌≡◌, ◌↔◌, Bool, true, false, IsTrue, List, [], ◌∷◌, ◌++◌, map, length, slice_get, Option, Some, None}
use Rattle.std.specs.Option.{option_and_then}
use Rattle.fr_value.specs.declared.value.Value.TheVariants as value
use Rattle.fr_core.specs.declared.core_form.Core.{Core, out-Core}
use Rattle.fr_core.specs.declared.core_form.Core.TheOpen.{Core-F}
use Rattle.fr_core.specs.declared.core_form.Core.TheVariants as core
use Rattle.fr_core.specs.declared.lowered.Low.{Low, out-Low, fold-Low}
use Rattle.fr_core.specs.declared.lowered.Low.TheOpen.{Low-F}
use Rattle.fr_core.specs.declared.lowered.LowFunction.{LowFunction}
use Rattle.fr_core.specs.declared.lowered.LowItem.{LowItem}
use Rattle.fr_core.specs.declared.lowered.LowItem.TheVariants as low_item
use Rattle.fr_core.specs.declared.lowered.Lowered.{Lowered}
use Rattle.fr_core.specs.declared.lowered.Slot.{Slot}
use Rattle.fr_core.specs.declared.program.Function.{Function}
use Rattle.fr_core.specs.declared.program.Item.{Item}
use Rattle.fr_core.specs.declared.program.Item.TheVariants as item
use Rattle.fr_core.specs.declared.program.Program.{Program}
use Rattle.fr_core.specs.Classes.{IsPureExpr}
use Rattle.fr_core.specs.Shapes.{outer, handler_binds, loop_binds}
use Rattle.fr_kernel.specs.Kernels.{Kernel}

-- the expression of a kernel; `#f` stands where there is none
abbrev pub expr_in : Option Kernel → Core
expr_in None = core.Lit (value.Bool false)
expr_in (Some kernel) = kernel.expr

-- the expression that the kernel of a number was made from
abbrev pub kernel_expr : List Kernel → ℕ → Core
kernel_expr ks id = expr_in (slice_get ks id)

-- an expression in which each kernel is the expression that it was made from, from such parts
abbrev pub erase_step : List Kernel → Low-F Core → Core
erase_step ks (Low-F.Lit v) = core.Lit v
erase_step ks (Low-F.Var x) = core.Var x
erase_step ks (Low-F.Source x) = core.Source x
erase_step ks (Low-F.Let es b) = core.Let es b
erase_step ks (Low-F.If s a b c) = core.If a b c
erase_step ks (Low-F.Apply f es) = core.Apply f es
erase_step ks (Low-F.Operator o es) = core.Operator o es
erase_step ks (Low-F.Handler h es id slots) = core.Handler h es (kernel_expr ks id.0)
erase_step ks (Low-F.Loop l es id slots) = core.Loop l es (kernel_expr ks id.0)
erase_step ks (Low-F.Feedback a b) = core.Feedback a b
erase_step ks (Low-F.Collapse id slots) = kernel_expr ks id.0

-- the erasure of a lowered expression: each kernel is the expression that it was made from again
unfoldable pub erase : List Kernel → Low → Core
erase ks = fold-Low Core (erase_step ks)

-- the erasure of a function
abbrev pub erased_function : List Kernel → LowFunction → Function
erased_function ks f = record { name = f.name; params = f.params; body = erase ks f.body }

-- the erasure of an item
abbrev pub erased_item : List Kernel → LowItem → Item
erased_item ks (low_item.Define e) = item.Define (erase ks e)
erased_item ks (low_item.Show name e) = item.Show name (erase ks e)

-- the erasure of a lowered program
abbrev pub erased : List Kernel → Lowered → Program
erased ks l = record { inputs = l.inputs; events = l.events; functions = map (erased_function ks) l.functions; body = map (erased_item ks) l.body }

-- the parts of a lowered expression outside its kernels, each behind the number of variables that the expression binds for it
abbrev pub inner_low : Low-F Low → List (ℕ × Low)
inner_low (Low-F.Lit v) = []
inner_low (Low-F.Var x) = []
inner_low (Low-F.Source x) = []
inner_low (Low-F.Let es b) = outer es ++ (length es, b) ∷ []
inner_low (Low-F.If s a b c) = outer (a ∷ b ∷ c ∷ [])
inner_low (Low-F.Apply f es) = outer es
inner_low (Low-F.Operator o es) = outer es
inner_low (Low-F.Handler h es id slots) = outer es
inner_low (Low-F.Loop l es id slots) = outer es
inner_low (Low-F.Feedback a b) = (0, a) ∷ (1, b) ∷ []
inner_low (Low-F.Collapse id slots) = []

-- a lowered expression, and the number of variables in scope there
pub record Place : Type 0 where
  pub variables : ℕ
  pub expr : Low

-- what stands at a path below a place, outside all kernels: the number of a part, counted from 0, then that of a part of it, and so on
abbrev pub place_below : Place → List ℕ → Option Place
place_below s [] = Some s
place_below s (i ∷ path) = option_and_then (λ x. place_below (record { variables = s.variables + x.0; expr = x.1 }) path) (slice_get (inner_low (out-Low s.expr)) i)

-- the fact holds at the place and at all places below it
pub record Everywhere (P : Place → Type 0) (s : Place) : Type 0 where
  pub holds : (path : List ℕ) (r : Place) → place_below s path ≡ Some r → P r

-- the places of items, where each value binds a variable for the items behind it
abbrev pub item_places : ℕ → List LowItem → List Place
item_places n [] = []
item_places n (low_item.Define e ∷ is) = record { variables = n; expr = e } ∷ item_places (n + 1) is
item_places n (low_item.Show name e ∷ is) = record { variables = n; expr = e } ∷ item_places n is

-- the places of the functions' bodies and then of the items
abbrev pub top_places : Lowered → List Place
top_places l = map (λ f. record { variables = f.params; expr = f.body }) l.functions ++ item_places 0 l.body

-- the fact holds at each place of the program outside its kernels
pub record EverywhereIn (P : Place → Type 0) (l : Lowered) : Type 0 where
  pub each : (i : ℕ) (top : Place) → slice_get (top_places l) i ≡ Some top → Everywhere P top

-- a kernel that an expression itself names, how many variables the expression binds for it, and what it is said to read
pub record Named : Type 0 where
  pub id : ℕ
  pub binds : ℕ
  pub slots : List Slot

-- the kernel that an expression itself names
abbrev pub named_in : Low-F Low → Option Named
named_in (Low-F.Handler h es id slots) = Some (record { id = id.0; binds = handler_binds h; slots = slots })
named_in (Low-F.Loop l es id slots) = Some (record { id = id.0; binds = loop_binds l; slots = slots })
named_in (Low-F.Collapse id slots) = Some (record { id = id.0; binds = 0; slots = slots })
named_in f = None

-- a kernel is there and fits a place: its first parameter is the first variable that isn't in scope there, it has as many parameters as are bound for it, and it reads what is told beside it
pub record Fits (ks : List Kernel) (variables : ℕ) (named : Named) : Type 0 where
  pub kernel : Kernel
  pub stands : slice_get ks named.id ≡ Some kernel
  pub first : kernel.first ≡ variables
  pub params : kernel.params ≡ named.binds
  pub slots : kernel.slots ≡ named.slots

-- the kernel, where one is named
abbrev pub FitsIfNamed : List Kernel → ℕ → Option Named → Type 0
FitsIfNamed ks variables None = Unit {0}
FitsIfNamed ks variables (Some named) = Fits ks variables named

-- the kernel that the expression at a place itself names is there and fits the place
abbrev pub FitsPlace : List Kernel → Place → Type 0
FitsPlace ks s = FitsIfNamed ks s.variables (named_in (out-Low s.expr))

-- every kernel that a lowered program names is there and fits its place
abbrev pub AllFit : List Kernel → Lowered → Type 0
AllFit ks l = EverywhereIn (FitsPlace ks) l

-- whether an expression is computed as a whole
abbrev pub is_collapsed_in : Low-F Low → Bool
is_collapsed_in (Low-F.Collapse id slots) = true
is_collapsed_in f = false

abbrev pub is_collapsed : Low → Bool
is_collapsed e = is_collapsed_in (out-Low e)

-- whether an expression is no leaf
abbrev pub is_compound_in : {X : Type 0} → Core-F X → Bool
is_compound_in (Core-F.Lit v) = false
is_compound_in (Core-F.Var x) = false
is_compound_in (Core-F.Source x) = false
is_compound_in f = true

abbrev pub is_compound : Core → Bool
is_compound e = is_compound_in (out-Core e)

-- the expression at a place is computed as a whole exactly where it is a compound pure expression
abbrev pub CollapsesPure : Program → List Kernel → Place → Type 0
CollapsesPure p ks s = IsTrue (is_collapsed s.expr) ↔ (IsTrue (is_compound (erase ks s.expr)) × IsPureExpr p (erase ks s.expr))

-- what a lowered program computes as a whole are exactly the regions of the program: the compound pure expressions that are no part of a larger one, and neither the body of a handler or loop nor a part of one. For such a body is a kernel, and nothing in a kernel is a place
abbrev pub CollapsesRegions : Program → List Kernel → Lowered → Type 0
CollapsesRegions p ks l = EverywhereIn (CollapsesPure p ks) l

-- nothing is computed as a whole
abbrev pub CollapsesNothing : Lowered → Type 0
CollapsesNothing l = EverywhereIn (λ s. is_collapsed s.expr ≡ false) l
