-- A program whose functions and items were lowered.
use Rattle.std.proofs.Common.{◌≡◌, ◌+◌, ◌↔◌, IsTrue, ◌&&◌, not, ℕ, zero, suc, Bool, true, false, List, [], ◌∷◌, ◌++◌, map, slice_get, Option, Some, None, refl, sym, ap, subst, ◌∙◌, append_assoc, arith}
use Rattle.std.proofs.lemmas.Bool.{and_parts, and_from}
use Rattle.std.proofs.lemmas.List.{append-nil}
use Rattle.fr_value.proofs.Meet.{same_some}
use Rattle.fr_core.specs.Classes.{IsFit, IsFitExpr, IsPureExpr}
use Rattle.fr_core.specs.WellFormed.{Root, item_roots}
use Rattle.fr_core.specs.declared.lowered.LowFunction.{LowFunction}
use Rattle.fr_core.specs.declared.lowered.LowItem.{LowItem}
use Rattle.fr_core.specs.declared.lowered.LowItem.TheVariants as low_item
use Rattle.fr_core.specs.declared.lowered.Lowered.{Lowered}
use Rattle.fr_core.specs.declared.program.Function.{Function}
use Rattle.fr_core.specs.declared.program.Item.{Item}
use Rattle.fr_core.specs.declared.program.Item.TheVariants as item
use Rattle.fr_core.specs.declared.program.Program.{Program}
use Rattle.fr_core.specs.Sites.{bodies, item_expr}
use Rattle.fr_purity.specs.declared.classification.Classes.{Classes}
use Rattle.fr_purity.specs.Marks.{AreClasses}
use Rattle.fr_purity.proofs.ClassLemmas.{is_pure_expr}
use Rattle.fr_kernel.specs.Kernels.{Kernel, Kernels}
use Rattle.fr_kernel.specs.Erasure.{Place, Everywhere, EverywhereIn, erase, erased_function, erased_item, item_places, top_places, AllFit, CollapsesRegions, CollapsesNothing, is_collapsed, is_compound}
use Rattle.fr_lower.specs.declared.making.Made.{Made}
use Rattle.fr_lower.specs.Making.{joins, Extends, Grows, HasSoundKernels, HasSites, IsPlaced, WasMade}
use Rattle.fr_lower.specs.Tops.{AreFunctions, IsItem, expr_of_item, item_binds, AreItems, WasItem, WereFunctions, WereItems, IsLowered}
use Rattle.fr_lower.proofs.Ranges.{Ranged, ranged_append, ranged_once}
use Rattle.fr_lower.proofs.Steps.{grows_refl, grows_more}

-- the roots of a fit program

function_root : (fs : List Function) (rs : List Root) (i : ℕ) (f : Function) → slice_get fs i ≡ Some f → slice_get (map (λ g. record { variables = g.params; expr = g.body }) fs ++ rs) i ≡ Some (record { variables = f.params; expr = f.body })
function_root [] rs i f h = absurd cc
function_root (g ∷ fs) rs zero f h = ap (λ w. Some (record { variables = w.params; expr = w.body })) (same_some g f h)
function_root (g ∷ fs) rs (suc i) f h = function_root fs rs i f h

pub function_fit : (p : Program) (i : ℕ) (f : Function) → IsFit p → slice_get p.functions i ≡ Some f → IsFitExpr p f.body
function_fit p i f fit h = fit.each i (record { variables = f.params; expr = f.body }) (function_root p.functions (item_roots 0 p.body) i f h)

item_root : (rs : List Root) (n : ℕ) (is : List Item) (i : ℕ) (x : Item) → slice_get is i ≡ Some x → (j : ℕ) × ((k : ℕ) × (slice_get (rs ++ item_roots n is) j ≡ Some (record { variables = k; expr = expr_of_item x })))
item_root (r ∷ rs) n is i x h = let t = item_root rs n is i x h in (suc t.0, t.1)
item_root [] n [] i x h = absurd cc
item_root [] n (item.Define e ∷ is) zero x h = (0, (n, ap (λ y. Some (record { variables = n; expr = expr_of_item y })) (same_some (item.Define e) x h)))
item_root [] n (item.Show name e ∷ is) zero x h = (0, (n, ap (λ y. Some (record { variables = n; expr = expr_of_item y })) (same_some (item.Show name e) x h)))
item_root [] n (item.Define e ∷ is) (suc i) x h = let t = item_root [] (n + 1) is i x h in (suc t.0, t.1)
item_root [] n (item.Show name e ∷ is) (suc i) x h = let t = item_root [] n is i x h in (suc t.0, t.1)

pub item_fit : (p : Program) (i : ℕ) (x : Item) → IsFit p → slice_get p.body i ≡ Some x → IsFitExpr p (expr_of_item x)
item_fit p i x fit h =
    let t = item_root (map (λ g. record { variables = g.params; expr = g.body }) p.functions) 0 p.body i x h in
    fit.each t.0 (record { variables = t.1.0; expr = expr_of_item x }) t.1.1

-- what was made of the first functions, where these are left
pub record LaysFunctions (p : Program) (o : Option Classes) (old now : Made) (left : List Function) (ls : List LowFunction) : Type 0 where
  pub grows : Grows old now
  pub later : (ks : List Kernel) → Extends now.table.kernels ks → (to : ℕ) (rest : List LowFunction) → AreFunctions p o ks now.sites to left rest → AreFunctions p o ks old.sites to p.functions (ls ++ rest)

pub functions_first : (p : Program) (o : Option Classes) (m : Made) → LaysFunctions p o m m p.functions []
functions_first p o m = record { grows = grows_refl m; later = λ ks ext to rest h. h }

pub functions_next : (p : Program) (o : Option Classes) (old now new : Made) (f : Function) (left : List Function) (ls : List LowFunction) (l : LowFunction) → l.name ≡ f.name → l.params ≡ f.params → WasMade p o f.params now new f.body l.body
    → LaysFunctions p o old now (f ∷ left) ls → LaysFunctions p o old new left (ls ++ l ∷ [])
functions_next p o old now new f left ls l name params w h = record {
  grows = grows_more old now new h.grows w.grows;
  later = λ ks ext to rest k.
      subst (AreFunctions p o ks old.sites to p.functions) (sym (append_assoc ls (l ∷ []) rest))
      (h.later ks (λ id m s. ext id m (w.grows.kernels id m s)) to (l ∷ rest) (new.sites, (record { name = name; params = params; body = w.later ks ext }, k)));
}

pub functions_last : (p : Program) (o : Option Classes) (old now : Made) (left : List Function) (ls : List LowFunction) → left ≡ [] → LaysFunctions p o old now left ls → WereFunctions p o old now ls
functions_last p o old now left ls none g =
    let h : LaysFunctions p o old now [] ls = subst (λ l. LaysFunctions p o old now l ls) none g in
    record { grows = h.grows; later = λ ks ext. subst (AreFunctions p o ks old.sites now.sites p.functions) (append-nil ls) (h.later ks ext now.sites [] (omega arith)) }

-- what was made of the first items, where these are left, and so many variables are in scope
pub record LaysItems (p : Program) (o : Option Classes) (old now : Made) (n : ℕ) (left : List Item) (ls : List LowItem) : Type 0 where
  pub grows : Grows old now
  pub later : (ks : List Kernel) → Extends now.table.kernels ks → (to : ℕ) (rest : List LowItem) → AreItems p o ks n now.sites to left rest → AreItems p o ks 0 old.sites to p.body (ls ++ rest)

pub items_first : (p : Program) (o : Option Classes) (m : Made) → LaysItems p o m m 0 p.body []
items_first p o m = record { grows = grows_refl m; later = λ ks ext to rest h. h }

pub items_next : (p : Program) (o : Option Classes) (old now new : Made) (n after : ℕ) (x : Item) (left : List Item) (ls : List LowItem) (l : LowItem) → WasItem p o n now new x l → after ≡ n + item_binds x → LaysItems p o old now n (x ∷ left) ls
    → LaysItems p o old new after left (ls ++ l ∷ [])
items_next p o old now new n after x left ls l w is h = record {
  grows = grows_more old now new h.grows w.grows;
  later = λ ks ext to rest k.
      subst (AreItems p o ks 0 old.sites to p.body) (sym (append_assoc ls (l ∷ []) rest))
      (h.later ks (λ id m s. ext id m (w.grows.kernels id m s)) to (l ∷ rest) (new.sites, (w.later ks ext, subst (λ m. AreItems p o ks m new.sites to left rest) is k)));
}

pub items_last : (p : Program) (o : Option Classes) (old now : Made) (n : ℕ) (left : List Item) (ls : List LowItem) → left ≡ [] → LaysItems p o old now n left ls → WereItems p o old now ls
items_last p o old now n left ls none g =
    let h : LaysItems p o old now n [] ls = subst (λ l. LaysItems p o old now n l ls) none g in
    record { grows = h.grows; later = λ ks ext. subst (AreItems p o ks 0 old.sites now.sites p.body) (append-nil ls) (h.later ks ext now.sites [] (omega arith)) }

-- the whole program

functions_erased : (p : Program) (o : Option Classes) (ks : List Kernel) (from to : ℕ) (fs : List Function) (ls : List LowFunction) → AreFunctions p o ks from to fs ls → map (erased_function ks) ls ≡ fs
functions_erased p o ks from to [] [] h = refl
functions_erased p o ks from to [] (l ∷ ls) h = absurd h
functions_erased p o ks from to (f ∷ fs) [] h = absurd h
functions_erased p o ks from to (f ∷ fs) (l ∷ ls) h =
    let rest = functions_erased p o ks h.0 to fs ls h.1.1 in
    λ i. record { name = h.1.0.name i; params = h.1.0.params i; body = h.1.0.body.erased i } ∷ rest i

item_erased : (p : Program) (o : Option Classes) (ks : List Kernel) (n from to : ℕ) (x : Item) (l : LowItem) → IsItem p o ks n from to x l → erased_item ks l ≡ x
item_erased p o ks n from to (item.Define e) (low_item.Define l) h = ap (λ c. item.Define c) h.erased
item_erased p o ks n from to (item.Show name e) (low_item.Show shown l) h = λ i. item.Show (h.0 i) (h.1.erased i)
item_erased p o ks n from to (item.Define e) (low_item.Show shown l) h = absurd h
item_erased p o ks n from to (item.Show name e) (low_item.Define l) h = absurd h

items_erased : (p : Program) (o : Option Classes) (ks : List Kernel) (n from to : ℕ) (xs : List Item) (ls : List LowItem) → AreItems p o ks n from to xs ls → map (erased_item ks) ls ≡ xs
items_erased p o ks n from to [] [] h = refl
items_erased p o ks n from to [] (l ∷ ls) h = absurd h
items_erased p o ks n from to (x ∷ xs) [] h = absurd h
items_erased p o ks n from to (x ∷ xs) (l ∷ ls) h =
    let one = item_erased p o ks n from h.0 x l h.1.0 in
    let rest = items_erased p o ks (n + item_binds x) h.0 to xs ls h.1.1 in
    λ i. one i ∷ rest i

-- everywhere below each of these places
abbrev AllTops : (Place → Type 0) → List Place → Type 0
AllTops P [] = Unit {0}
AllTops P (s ∷ ss) = Everywhere P s × AllTops P ss

tops_at : (P : Place → Type 0) (ss : List Place) → AllTops P ss → (i : ℕ) (top : Place) → slice_get ss i ≡ Some top → Everywhere P top
tops_at P [] h i top k = absurd cc
tops_at P (s ∷ ss) h zero top k = subst (Everywhere P) (same_some s top k) h.0
tops_at P (s ∷ ss) h (suc i) top k = tops_at P ss h.1 i top k

functions_placed : (p : Program) (o : Option Classes) (ks : List Kernel) (from to : ℕ) (fs : List Function) (ls : List LowFunction) (ss : List Place) → AreFunctions p o ks from to fs ls → AllTops (IsPlaced p o ks) ss
    → AllTops (IsPlaced p o ks) (map (λ l. record { variables = l.params; expr = l.body }) ls ++ ss)
functions_placed p o ks from to [] [] ss h k = k
functions_placed p o ks from to [] (l ∷ ls) ss h k = absurd h
functions_placed p o ks from to (f ∷ fs) [] ss h k = absurd h
functions_placed p o ks from to (f ∷ fs) (l ∷ ls) ss h k =
    (subst (λ n. Everywhere (IsPlaced p o ks) (record { variables = n; expr = l.body })) (sym h.1.0.params) h.1.0.body.placed, functions_placed p o ks h.0 to fs ls ss h.1.1 k)

items_placed : (p : Program) (o : Option Classes) (ks : List Kernel) (n from to : ℕ) (xs : List Item) (ls : List LowItem) → AreItems p o ks n from to xs ls → AllTops (IsPlaced p o ks) (item_places n ls)
items_placed p o ks n from to [] [] h = tt
items_placed p o ks n from to [] (l ∷ ls) h = absurd h
items_placed p o ks n from to (x ∷ xs) [] h = tt
items_placed p o ks n from to (item.Define e ∷ xs) (low_item.Show shown l ∷ ls) h = absurd h.1.0
items_placed p o ks n from to (item.Show name e ∷ xs) (low_item.Define l ∷ ls) h = absurd h.1.0
items_placed p o ks n from to (item.Define e ∷ xs) (low_item.Define l ∷ ls) h = (h.1.0.placed, items_placed p o ks (n + 1) h.0 to xs ls h.1.1)
items_placed p o ks n from to (item.Show name e ∷ xs) (low_item.Show shown l ∷ ls) h =
    let same : n + 0 ≡ n = omega arith in
    (h.1.0.1.placed, subst (λ m. AllTops (IsPlaced p o ks) (item_places m ls)) same (items_placed p o ks (n + 0) h.0 to xs ls h.1.1))

functions_ranged : (p : Program) (o : Option Classes) (ks : List Kernel) (from to : ℕ) (fs : List Function) (ls : List LowFunction) → AreFunctions p o ks from to fs ls → Ranged from to (map (λ l. l.body) ls)
functions_ranged p o ks from to [] [] h = h
functions_ranged p o ks from to [] (l ∷ ls) h = absurd h
functions_ranged p o ks from to (f ∷ fs) [] h = absurd h
functions_ranged p o ks from to (f ∷ fs) (l ∷ ls) h = (h.0, (h.1.0.body.sites, functions_ranged p o ks h.0 to fs ls h.1.1))

item_sites : (p : Program) (o : Option Classes) (ks : List Kernel) (n from to : ℕ) (x : Item) (l : LowItem) → IsItem p o ks n from to x l → HasSites from to (item_expr l)
item_sites p o ks n from to (item.Define e) (low_item.Define l) h = h.sites
item_sites p o ks n from to (item.Show name e) (low_item.Show shown l) h = h.1.sites
item_sites p o ks n from to (item.Define e) (low_item.Show shown l) h = absurd h
item_sites p o ks n from to (item.Show name e) (low_item.Define l) h = absurd h

items_ranged : (p : Program) (o : Option Classes) (ks : List Kernel) (n from to : ℕ) (xs : List Item) (ls : List LowItem) → AreItems p o ks n from to xs ls → Ranged from to (map item_expr ls)
items_ranged p o ks n from to [] [] h = h
items_ranged p o ks n from to [] (l ∷ ls) h = absurd h
items_ranged p o ks n from to (x ∷ xs) [] h = absurd h
items_ranged p o ks n from to (x ∷ xs) (l ∷ ls) h = (h.0, (item_sites p o ks n from h.0 x l h.1.0, items_ranged p o ks (n + item_binds x) h.0 to xs ls h.1.1))

-- functions and items that were lowered one after the other are a lowered program
pub lowered_whole : (p : Program) (o : Option Classes) (first mid last : Made) (l : Lowered) → first.table.functions ≡ p.functions → HasSoundKernels first.table → l.inputs ≡ p.inputs → l.events ≡ p.events → WereFunctions p o first mid l.functions → WereItems p o mid last l.body
    → IsLowered p o l last.table
lowered_whole p o first mid last l same none inputs events f b =
    let ks = last.table.kernels in
    let functions = f.later ks b.grows.kernels in
    let items = b.later ks (λ id k s. s) in
    let functions_same = functions_erased p o ks first.sites mid.sites p.functions l.functions functions in
    let items_same = items_erased p o ks 0 mid.sites last.sites p.body l.body items in
    let placed = functions_placed p o ks first.sites mid.sites p.functions l.functions (item_places 0 l.body) functions (items_placed p o ks 0 mid.sites last.sites p.body l.body items) in
    let ranged = ranged_append first.sites mid.sites last.sites (map (λ g. g.body) l.functions) (map item_expr l.body) (functions_ranged p o ks first.sites mid.sites p.functions l.functions functions)
    (items_ranged p o ks 0 mid.sites last.sites p.body l.body items) in
    record {
      erasure = λ i. record { inputs = inputs i; events = events i; functions = functions_same i; body = items_same i };
      functions = b.grows.functions ∙ (f.grows.functions ∙ same);
      sound = b.grows.sound (f.grows.sound none);
      placed = record { each = tops_at (IsPlaced p o ks) (top_places l) placed };
      sites = record { once = ranged_once first.sites last.sites (bodies l) ranged };
    }

-- what holds of each place holds of it in other words
pub everywhere_in : (P Q : Place → Type 0) (l : Lowered) → ((s : Place) → P s → Q s) → EverywhereIn P l → EverywhereIn Q l
everywhere_in P Q l f h = record { each = λ i top k. record { holds = λ path r s. f r ((h.each i top k).holds path r s) } }

pub all_fit : (p : Program) (o : Option Classes) (l : Lowered) (t : Kernels) → IsLowered p o l t → AllFit t.kernels l
all_fit p o l t h = everywhere_in (IsPlaced p o t.kernels) _ l (λ s k. k.fits) h.placed

nothing : (t : Bool) → t && not t ≡ false
nothing true = refl
nothing false = refl

pub collapses_nothing : (p : Program) (l : Lowered) (t : Kernels) → IsLowered p None l t → CollapsesNothing l
collapses_nothing p l t h = everywhere_in (IsPlaced p None t.kernels) (λ s. is_collapsed s.expr ≡ false) l (λ s k. k.collapsed ∙ nothing (is_compound (erase t.kernels s.expr))) h.placed

pub collapses_regions : (p : Program) (c : Classes) (l : Lowered) (t : Kernels) → AreClasses p c.closed.items c.pure.items → IsLowered p (Some c) l t → CollapsesRegions p t.kernels l
collapses_regions p c l t given h = everywhere_in (IsPlaced p (Some c) t.kernels) _ l told h.placed
  where
    told : (s : Place) → IsPlaced p (Some c) t.kernels s → IsTrue (is_collapsed s.expr) ↔ (IsTrue (is_compound (erase t.kernels s.expr)) × IsPureExpr p (erase t.kernels s.expr))
    told s k =
        let e = erase t.kernels s.expr in
        let law = is_pure_expr p c.closed.items c.pure.items e given in (
          (λ h. let both = and_parts (is_compound e) (joins p (Some c) e) (sym k.collapsed ∙ h) in (both.0, law.0 both.1)),
          (λ h. k.collapsed ∙ and_from (is_compound e) (joins p (Some c) e) h.0 (law.1 h.1)),
        )
