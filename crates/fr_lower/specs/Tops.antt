-- What is made of the functions and items of a program.
use Rattle.std.specs.Prelude.{ℕ, ◌+◌, ◌≡◌, ◌≤◌, List, [], ◌∷◌, Option}
use Rattle.fr_core.specs.declared.core_form.Core.{Core}
use Rattle.fr_core.specs.declared.lowered.LowFunction.{LowFunction}
use Rattle.fr_core.specs.declared.lowered.LowItem.{LowItem}
use Rattle.fr_core.specs.declared.lowered.LowItem.TheVariants as low_item
use Rattle.fr_core.specs.declared.lowered.Lowered.{Lowered}
use Rattle.fr_core.specs.declared.program.Function.{Function}
use Rattle.fr_core.specs.declared.program.Item.{Item}
use Rattle.fr_core.specs.declared.program.Item.TheVariants as item
use Rattle.fr_core.specs.declared.program.Program.{Program}
use Rattle.fr_core.specs.Sites.{HasSitesOnce}
use Rattle.fr_purity.specs.declared.classification.Classes.{Classes}
use Rattle.fr_kernel.specs.Kernels.{Kernel, Kernels}
use Rattle.fr_kernel.specs.Erasure.{erased, EverywhereIn}
use Rattle.fr_lower.specs.declared.making.Made.{Made}
use Rattle.fr_lower.specs.Chains.{Chained}
use Rattle.fr_lower.specs.Making.{Extends, Grows, HasSoundKernels, IsMade, IsPlaced}

-- the lowered function was made of the function
pub record IsFunction (p : Program) (o : Option Classes) (ks : List Kernel) (from to : ℕ) (f : Function) (l : LowFunction) : Type 0 where
  pub name : l.name ≡ f.name
  pub params : l.params ≡ f.params
  pub body : IsMade p o ks f.params from to f.body l.body

-- the same of functions, in their order
abbrev pub AreFunctions : Program → Option Classes → List Kernel → ℕ → ℕ → List Function → List LowFunction → Type 0
AreFunctions p o ks from to fs ls = Chained (λ a b f l. IsFunction p o ks a b f l) from to fs ls

-- the lowered item was made of the item, where so many variables are in scope
abbrev pub IsItem : Program → Option Classes → List Kernel → ℕ → ℕ → ℕ → Item → LowItem → Type 0
IsItem p o ks variables from to (item.Define e) (low_item.Define l) = IsMade p o ks variables from to e l
IsItem p o ks variables from to (item.Show name e) (low_item.Show shown l) = (shown ≡ name) × IsMade p o ks variables from to e l
IsItem p o ks variables from to (item.Define e) (low_item.Show shown l) = ⊥
IsItem p o ks variables from to (item.Show name e) (low_item.Define l) = ⊥

-- the expression of an item
abbrev pub expr_of_item : Item → Core
expr_of_item (item.Define e) = e
expr_of_item (item.Show name e) = e

-- the number of variables that an item binds for those behind it
abbrev pub item_binds : Item → ℕ
item_binds (item.Define e) = 1
item_binds (item.Show name e) = 0

-- the lowered items were made of the items, where so many variables are in scope at the first
abbrev pub AreItems : Program → Option Classes → List Kernel → ℕ → ℕ → ℕ → List Item → List LowItem → Type 0
AreItems p o ks variables from to [] [] = from ≤ to
AreItems p o ks variables from to [] (l ∷ ls) = ⊥
AreItems p o ks variables from to (x ∷ xs) [] = ⊥
AreItems p o ks variables from to (x ∷ xs) (l ∷ ls) = (mid : ℕ) × (IsItem p o ks variables from mid x l × AreItems p o ks (variables + item_binds x) mid to xs ls)

-- what was made of an item
pub record WasItem (p : Program) (o : Option Classes) (variables : ℕ) (old new : Made) (x : Item) (l : LowItem) : Type 0 where
  pub grows : Grows old new
  pub later : (ks : List Kernel) → Extends new.table.kernels ks → IsItem p o ks variables old.sites new.sites x l

-- what was made of the functions of a program
pub record WereFunctions (p : Program) (o : Option Classes) (old new : Made) (ls : List LowFunction) : Type 0 where
  pub grows : Grows old new
  pub later : (ks : List Kernel) → Extends new.table.kernels ks → AreFunctions p o ks old.sites new.sites p.functions ls

-- what was made of its items
pub record WereItems (p : Program) (o : Option Classes) (old new : Made) (ls : List LowItem) : Type 0 where
  pub grows : Grows old new
  pub later : (ks : List Kernel) → Extends new.table.kernels ks → AreItems p o ks 0 old.sites new.sites p.body ls

-- the lowered program was made of the program, with these kernels
pub record IsLowered (p : Program) (o : Option Classes) (l : Lowered) (t : Kernels) : Type 0 where
  pub erasure : erased t.kernels l ≡ p
  pub functions : t.functions ≡ p.functions
  pub sound : HasSoundKernels t
  pub placed : EverywhereIn (IsPlaced p o t.kernels) l
  pub sites : HasSitesOnce l
