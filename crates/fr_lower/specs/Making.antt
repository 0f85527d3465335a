-- What is made of the expressions of a program.
use Rattle.std.specs.Prelude.{ℕ, ◌+◌, ◌≡◌, ◌≤◌, ◌<◌, ◌&&◌, not, Bool, true, false, List, [], ◌∷◌, slice_get, Option, Some, None}
use Rattle.std.specs.Option.{option_map}
use denote.Ref.{Bor}
use Rattle.fr_value.specs.declared.ids.SiteId.{SiteId}
use Rattle.fr_core.specs.declared.core_form.Core.{Core, out-Core}
use Rattle.fr_core.specs.declared.core_form.Core.TheOpen.{Core-F}
use Rattle.fr_core.specs.declared.lowered.Low.{Low, out-Low}
use Rattle.fr_core.specs.declared.lowered.Slot.{Slot}
use Rattle.fr_core.specs.declared.program.Function.{Function}
use Rattle.fr_core.specs.declared.program.Program.{Program}
use Rattle.fr_core.specs.Classes.{judge, calls_of, pure_itself}
use Rattle.fr_core.specs.Shapes.{outer, inner}
use Rattle.fr_core.specs.Sites.{parts, below, site_of}
use Rattle.fr_purity.specs.declared.classification.Classes.{Classes}
use Rattle.fr_purity.specs.Marks.{set_of, AreClasses}
use Rattle.fr_kernel.specs.Kernels.{Kernel, Kernels, kernel_for}
use Rattle.fr_kernel.specs.Purity.{IsPureOver}
use Rattle.fr_kernel.specs.Slots.{slots_of}
use Rattle.fr_kernel.specs.Erasure.{erase, inner_low, Place, Everywhere, FitsPlace, is_collapsed, is_compound, is_compound_in}
use Rattle.fr_lower.specs.declared.making.Made.{Made}
use Rattle.fr_lower.specs.declared.outside.Part.{Part}
use Rattle.fr_lower.specs.Chains.{Chained}

-- the classes that are given, where regions are computed as a whole
abbrev pub given : Option (Bor Classes) → Option Classes
given o = option_map (λ c. c.now) o

-- they are those of the program
abbrev pub AreGiven : Program → Option Classes → Type 0
AreGiven p None = Unit {0}
AreGiven p (Some c) = AreClasses p c.closed.items c.pure.items

-- whether an expression itself may be a part of what is computed as a whole: where regions are, one that is pure itself, and else a leaf alone
abbrev pub joins_itself : Program → Option Classes → Core-F Core → Bool
joins_itself p None l = not (is_compound_in l)
joins_itself p (Some c) l = pure_itself (calls_of p (set_of c.pure.items)) l

-- whether an expression may be a part of what is computed as a whole: where regions are, a pure one, and else a leaf alone
abbrev pub joins : Program → Option Classes → Core → Bool
joins p None e = not (is_compound e)
joins p (Some c) e = (judge (calls_of p (set_of c.pure.items)) e).pure

-- whether an expression is computed as a whole where it is no part of a larger one that is
abbrev pub collapses : Program → Option Classes → Core → Bool
collapses p o e = is_compound e && joins p o e

-- the parts of an expression but the body of a handler or loop, each behind the number of variables that the expression binds for it
abbrev pub outside_in : {X : Type 0} → Core-F X → List (ℕ × X)
outside_in (Core-F.Handler h es b) = outer es
outside_in (Core-F.Loop l es b) = outer es
outside_in f = inner f

abbrev pub outside : Core → List (ℕ × Core)
outside e = outside_in (out-Core e)

-- a part as the code has it
abbrev pub part_seen : Part → ℕ × Core
part_seen part = (part.binds, part.expr.now)

-- the kernels that were there are there still
abbrev pub Extends : List Kernel → List Kernel → Type 0
Extends old new = (id : ℕ) (k : Kernel) → slice_get old id ≡ Some k → slice_get new id ≡ Some k

-- a kernel is that of a pure expression, and its slots are those that the expression needs
pub record IsSoundKernel (fs : List Function) (k : Kernel) : Type 0 where
  pub pure : IsPureOver fs k.expr
  pub slots : k.slots ≡ slots_of k.first k.expr

-- so is each kernel of a table
pub record HasSoundKernels (t : Kernels) : Type 0 where
  pub each : (id : ℕ) (k : Kernel) → slice_get t.kernels id ≡ Some k → IsSoundKernel t.functions k

-- more was made: no kernel has changed, each further one is sound, and no site's number comes again
pub record Grows (old new : Made) : Type 0 where
  pub functions : new.table.functions ≡ old.table.functions
  pub sound : HasSoundKernels old.table → HasSoundKernels new.table
  pub kernels : Extends old.table.kernels new.table.kernels
  pub sites : old.sites ≤ new.sites

-- a place names a kernel only where it fits, and is computed as a whole exactly where its expression is
pub record IsPlaced (p : Program) (o : Option Classes) (ks : List Kernel) (s : Place) : Type 0 where
  pub collapsed : is_collapsed s.expr ≡ collapses p o (erase ks s.expr)
  pub fits : FitsPlace ks s

-- the sites in an expression have numbers from the first on and below the second, and each stands at one place only
pub record HasSites (from to : ℕ) (e : Low) : Type 0 where
  pub order : from ≤ to
  pub within : (path : List ℕ) (r : Low) (site : SiteId) → below e path ≡ Some r → site_of r ≡ Some site → (from ≤ site.0) × (site.0 < to)
  pub once : (p q : List ℕ) (r s : Low) (site : SiteId) → below e p ≡ Some r → below e q ≡ Some s → site_of r ≡ Some site → site_of s ≡ Some site → p ≡ q

-- the lowered expression was made of the expression, where so many variables are in scope, over these kernels
pub record IsMade (p : Program) (o : Option Classes) (ks : List Kernel) (variables from to : ℕ) (e : Core) (l : Low) : Type 0 where
  pub erased : erase ks l ≡ e
  pub placed : Everywhere (IsPlaced p o ks) (record { variables = variables; expr = l })
  pub sites : HasSites from to l

-- nothing was made of an expression that may be a part of what is computed as a whole, and else the lowered expression
abbrev pub IsFound : Program → Option Classes → List Kernel → ℕ → ℕ → ℕ → Core → Option Low → Type 0
IsFound p o ks variables from to e None = (joins p o e ≡ true) × (from ≤ to)
IsFound p o ks variables from to e (Some l) = (joins p o e ≡ false) × IsMade p o ks variables from to e l

-- the same of parts, in their order
abbrev pub AreFound : Program → Option Classes → List Kernel → ℕ → ℕ → ℕ → List (ℕ × Core) → List (Option Low) → Type 0
AreFound p o ks variables from to xs fs = Chained (λ a b x f. IsFound p o ks (variables + x.0) a b x.1 f) from to xs fs

abbrev pub AreMade : Program → Option Classes → List Kernel → ℕ → ℕ → ℕ → List (ℕ × Core) → List Low → Type 0
AreMade p o ks variables from to xs ls = Chained (λ a b x l. IsMade p o ks (variables + x.0) a b x.1 l) from to xs ls

-- what was found of an expression, over all kernels that there may be later
pub record WasFound (p : Program) (o : Option Classes) (variables : ℕ) (old new : Made) (e : Core) (f : Option Low) : Type 0 where
  pub grows : Grows old new
  pub later : (ks : List Kernel) → Extends new.table.kernels ks → IsFound p o ks variables old.sites new.sites e f

-- what was made of an expression
pub record WasMade (p : Program) (o : Option Classes) (variables : ℕ) (old new : Made) (e : Core) (l : Low) : Type 0 where
  pub grows : Grows old new
  pub later : (ks : List Kernel) → Extends new.table.kernels ks → IsMade p o ks variables old.sites new.sites e l

-- the kernel of this number is that of the expression, and it reads this
pub record IsKernelOf (ks : List Kernel) (first params : ℕ) (e : Core) (id : ℕ) (slots : List Slot) : Type 0 where
  pub stands : slice_get ks id ≡ Some (kernel_for first params e)
  pub reads : slots ≡ slots_of first e

-- the lowered expression is the leaf itself, or computes the compound expression as a whole
pub record IsWhole (ks : List Kernel) (variables : ℕ) (e : Core) (l : Low) : Type 0 where
  pub erased : erase ks l ≡ e
  pub fits : FitsPlace ks (record { variables = variables; expr = l })
  pub collapsed : is_collapsed l ≡ is_compound e
  pub alone : inner_low (out-Low l) ≡ []
  pub without_parts : parts l ≡ []
  pub without_site : site_of l ≡ None

-- what was made of a leaf or of an expression that is computed as a whole
pub record WasWhole (variables : ℕ) (old new : Made) (e : Core) (l : Low) : Type 0 where
  pub grows : Grows old new
  pub later : (ks : List Kernel) → Extends new.table.kernels ks → IsWhole ks variables e l

-- the expression is pure over these functions, where it is no leaf
abbrev pub CanClose : List Function → Core → Type 0
CanClose fs e = is_compound e ≡ true → IsPureOver fs e

-- the same, where nothing was made of the expression
abbrev pub IsReady : List Function → Core → Option Low → Type 0
IsReady fs e None = CanClose fs e
IsReady fs e (Some l) = Unit {0}

-- the same of parts, in their order
abbrev pub AreReady : List Function → List (ℕ × Core) → List (Option Low) → Type 0
AreReady fs [] [] = Unit {0}
AreReady fs [] (l ∷ ls) = ⊥
AreReady fs (x ∷ xs) [] = ⊥
AreReady fs (x ∷ xs) (l ∷ ls) = IsReady fs x.1 l × AreReady fs xs ls

-- a part is as it was lowered where something was made of it, and else as a whole
abbrev pub IsClosed : List Kernel → ℕ → Core → Option Low → Low → Type 0
IsClosed ks variables e None l = IsWhole ks variables e l
IsClosed ks variables e (Some m) l = l ≡ m

-- the same of parts, in their order
abbrev pub AreClosed : List Kernel → ℕ → List (ℕ × Core) → List (Option Low) → List Low → Type 0
AreClosed ks variables [] [] [] = Unit {0}
AreClosed ks variables (x ∷ xs) (f ∷ fs) (l ∷ ls) = IsClosed ks (variables + x.0) x.1 f l × AreClosed ks variables xs fs ls
AreClosed ks variables xs fs ls = ⊥

-- what was made of a part, behind the number of variables that are bound for it
pub record WasClosed (variables : ℕ) (old new : Made) (x : ℕ × Core) (f : Option Low) (l : Low) : Type 0 where
  pub grows : Grows old new
  pub later : (ks : List Kernel) → Extends new.table.kernels ks → IsClosed ks (variables + x.0) x.1 f l

-- what was made of all parts
pub record WereClosed (variables : ℕ) (old new : Made) (xs : List (ℕ × Core)) (fs : List (Option Low)) (ls : List Low) : Type 0 where
  pub grows : Grows old new
  pub later : (ks : List Kernel) → Extends new.table.kernels ks → AreClosed ks variables xs fs ls

-- the body of a handler or loop is pure over these functions
abbrev pub has_ready_body_in : List Function → Core-F Core → Type 0
has_ready_body_in fs (Core-F.Handler h es b) = IsPureOver fs b
has_ready_body_in fs (Core-F.Loop l es b) = IsPureOver fs b
has_ready_body_in fs l = Unit {0}

abbrev pub HasReadyBody : List Function → Core → Type 0
HasReadyBody fs e = has_ready_body_in fs (out-Core e)

-- what was made of an expression from what was made of its parts
pub record WasBuilt (p : Program) (o : Option Classes) (variables : ℕ) (old new : Made) (e : Core) (ls : List Low) (l : Low) : Type 0 where
  pub grows : Grows old new
  pub later : (ks : List Kernel) → Extends new.table.kernels ks → (from : ℕ) → AreMade p o ks variables from old.sites (outside e) ls → IsMade p o ks variables from new.sites e l
