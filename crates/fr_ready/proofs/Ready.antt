-- What lowering gives can be built.
use Rattle.std.proofs.Common.{◌≡◌, ◌+◌, ◌≤◌, ◌&&◌, nat_lt, nat_le, ℕ, zero, suc, Bool, true, List, [], ◌∷◌, ◌++◌, map, length, slice_get, Some, refl, sym, ap, subst, ◌∙◌, arith}
use Rattle.std.proofs.lemmas.Bool.{and_parts, eqb-true}
use Rattle.std.proofs.lemmas.Bool.Decides.{nat_tests}
use Rattle.std.proofs.lemmas.List.{length-map}
use Rattle.fr_value.proofs.Meet.{same_some}
use Rattle.fr_core.specs.Classes.{FunctionSet, IsClosed, PureOver, IsPureExpr, judge, takes, calls_of}
use Rattle.fr_core.specs.Shapes.{outer, inner, has_its_parts, operator_takes, handler_parts}
use Rattle.fr_core.specs.WellFormed.{Root, roots, item_roots, are_scoped, are_formed, is_scoped, is_formed, last_source, names_something, IsWellFormed}
use Rattle.fr_core.specs.declared.core_form.Core.{Core, out-Core}
use Rattle.fr_core.specs.declared.core_form.Core.TheVariants.{outs-Var, outs-Source, outs-Operator, outs-Handler, outs-Loop}
use Rattle.fr_core.specs.declared.lowered.Low.{Low, out-Low, map-Low}
use Rattle.fr_core.specs.declared.lowered.Low.TheOpen.{Low-F}
use Rattle.fr_core.specs.declared.lowered.LowFunction.{LowFunction}
use Rattle.fr_core.specs.declared.lowered.LowItem.{LowItem}
use Rattle.fr_core.specs.declared.lowered.LowItem.TheVariants as low_item
use Rattle.fr_core.specs.declared.lowered.Lowered.{Lowered}
use Rattle.fr_core.specs.declared.program.Function.{Function}
use Rattle.fr_core.specs.declared.program.Program.{Program}
use Rattle.fr_core.proofs.PartLists.{body_at}
use Rattle.fr_kernel.specs.Kernels.{Kernel, Kernels}
use Rattle.fr_kernel.specs.Erasure.{erase, erase_step, expr_in, kernel_expr, erased, erased_function, erased_item, Place, Everywhere, EverywhereIn, item_places, top_places, named_in, FitsIfNamed, FitsPlace, Fits, Named}
use Rattle.fr_kernel.specs.Slots.{slots_of}
use Rattle.fr_graph.specs.Items.{ItemsSound, AreLowered}
use Rattle.fr_graph.specs.Sound.{HasParts}
use Rattle.fr_graph.proofs.Inside.{erase-opens}
use Rattle.fr_lower.specs.Making.{HasSoundKernels}
use Rattle.fr_ready.specs.Planning.{IsLoweredFrom, many_sources, planned_of, ItemsReady}
use Rattle.fr_ready.specs.Ready.{Planned, plan_of, AreSlotsIn, NamesInScope, IsReadyAt, IsPlanReady}
use Rattle.fr_ready.proofs.Inside.{IsFine, own_named, own_formed, part_fine, IsFineAt, fine_everywhere}
use Rattle.fr_ready.proofs.Slots.{slots_in}

-- a shape has its parts where what it erases to has
shape_parts : (ks : List Kernel) (f : Low → Core) (l : Low-F Low) → has_its_parts (out-Core (erase_step ks (map-Low Low Core f l))) ≡ true → HasParts l
shape_parts ks f (Low-F.Lit v) h = tt
shape_parts ks f (Low-F.Var x) h = tt
shape_parts ks f (Low-F.Source s) h = tt
shape_parts ks f (Low-F.Let es b) h = tt
shape_parts ks f (Low-F.If s a b c) h = tt
shape_parts ks f (Low-F.Apply g es) h = tt
shape_parts ks f (Low-F.Operator o es) h = ap (operator_takes o) (sym (length-map es f)) ∙ (sym (ap has_its_parts (outs-Operator o (map f es))) ∙ h)
shape_parts ks f (Low-F.Handler g es id ss) h =
    let e = sym (ap has_its_parts (outs-Handler g (map f es) (kernel_expr ks id.0))) ∙ h in
    sym (length-map es f) ∙ eqb-true (length (map f es)) (handler_parts g) e
shape_parts ks f (Low-F.Loop g es id ss) h =
    let e = sym (ap has_its_parts (outs-Loop g (map f es) (kernel_expr ks id.0))) ∙ h in
    sym (length-map es f) ∙ eqb-true (length (map f es)) 2 e
shape_parts ks f (Low-F.Feedback a b) h = tt
shape_parts ks f (Low-F.Collapse id ss) h = tt

-- the slots beside a kernel that fits are in scope
named_slots : (functions last n : ℕ) (t : Kernels) (named : Named) (m : ℕ) → HasSoundKernels t → Fits t.kernels n named → IsFine functions last m (kernel_expr t.kernels named.id) → AreSlotsIn n (last + 1) named.slots
named_slots functions last n t named m sound fits fine =
    let k = fits.kernel in
    let expr : kernel_expr t.kernels named.id ≡ k.expr = ap expr_in fits.stands in
    let scoped = subst (λ c. is_scoped functions last c m ≡ true) expr fine.scoped in
    let same : slots_of n k.expr ≡ named.slots = ap (λ j. slots_of j k.expr) (sym fits.first) ∙ (sym (sound.each named.id k fits.stands).slots ∙ fits.slots) in
    subst (AreSlotsIn n (last + 1)) same (slots_in functions last n k.expr m scoped)

body_fine : (functions last n : ℕ) (c : Core) (xs : List Core) (binds : ℕ) (b : Core) → IsFine functions last n c → inner (out-Core c) ≡ outer xs ++ (binds, b) ∷ [] → IsFine functions last (n + binds) b
body_fine functions last n c xs binds b h is =
    part_fine functions last n c h (length (outer xs)) (binds, b) (ap (λ (l : List (ℕ × Core)). slice_get l (length (outer xs))) is ∙ body_at (outer xs) (binds, b) (length (outer xs)) refl)

-- what a shape itself names is there
shape_names : (functions last n : ℕ) (t : Kernels) (f : Low → Core) (l : Low-F Low) → HasSoundKernels t → IsFine functions last n (erase_step t.kernels (map-Low Low Core f l)) → FitsIfNamed t.kernels n (named_in l) → NamesInScope n (last + 1) l
shape_names functions last n t f (Low-F.Lit v) sound h k = tt
shape_names functions last n t f (Low-F.Var x) sound h k =
    let e : nat_lt x.0 n ≡ true = sym (ap (λ g. names_something functions last g n) (outs-Var x)) ∙ own_named functions last n _ h in
    grind (arith, nat_tests)
shape_names functions last n t f (Low-F.Source s) sound h k =
    let e : nat_le s.0 last ≡ true = sym (ap (λ g. names_something functions last g n) (outs-Source s)) ∙ own_named functions last n _ h in
    let up : s.0 ≤ last = grind (arith, nat_tests) in
    omega (arith, up)
shape_names functions last n t f (Low-F.Let es b) sound h k = tt
shape_names functions last n t f (Low-F.If s a b c) sound h k = tt
shape_names functions last n t f (Low-F.Apply g es) sound h k = tt
shape_names functions last n t f (Low-F.Operator o es) sound h k = tt
shape_names functions last n t f (Low-F.Handler g es id ss) sound h k =
    named_slots functions last n t _ _ sound k (body_fine functions last n _ (map f es) _ (kernel_expr t.kernels id.0) h (ap inner (outs-Handler g (map f es) (kernel_expr t.kernels id.0))))
shape_names functions last n t f (Low-F.Loop g es id ss) sound h k =
    named_slots functions last n t _ _ sound k (body_fine functions last n _ (map f es) _ (kernel_expr t.kernels id.0) h (ap inner (outs-Loop g (map f es) (kernel_expr t.kernels id.0))))
shape_names functions last n t f (Low-F.Feedback a b) sound h k = tt
shape_names functions last n t f (Low-F.Collapse id ss) sound h k = named_slots functions last n t _ n sound k h

place_ready : (functions last : ℕ) (t : Kernels) (s : Place) → HasSoundKernels t → IsFineAt functions last t.kernels s → FitsPlace t.kernels s → IsReadyAt t (last + 1) s
place_ready functions last t s sound fine fits =
    let opened = subst (IsFine functions last s.variables) (erase-opens t.kernels s.expr) fine in
    record {
      sound = record {
        parts = shape_parts t.kernels (erase t.kernels) (out-Low s.expr) (own_formed functions last s.variables _ opened);
        fits = fits;
      };
      names = shape_names functions last s.variables t (erase t.kernels) (out-Low s.expr) sound opened fits;
    }

-- where what an expression erases to is fine, and every kernel fits its place, all is ready
all_ready : (functions last : ℕ) (t : Kernels) (s : Place) → HasSoundKernels t → IsFineAt functions last t.kernels s → Everywhere (FitsPlace t.kernels) s → Everywhere (IsReadyAt t (last + 1)) s
all_ready functions last t s sound fine fits =
    let everywhere = fine_everywhere functions last t.kernels s fine in
    record { holds = λ path r k. place_ready functions last t r sound (everywhere.holds path r k) (fits.holds path r k) }

-- the roots of a well-formed program

root_scoped : (functions last : ℕ) (rs : List Root) → are_scoped functions last rs ≡ true → (i : ℕ) (r : Root) → slice_get rs i ≡ Some r → is_scoped functions last r.expr r.variables ≡ true
root_scoped functions last [] h i r k = absurd cc
root_scoped functions last (q ∷ rs) h zero r k =
    ap (λ (s : Root). is_scoped functions last s.expr s.variables) (sym (same_some q r k)) ∙ (and_parts (is_scoped functions last q.expr q.variables) (are_scoped functions last rs) h).0
root_scoped functions last (q ∷ rs) h (suc i) r k = root_scoped functions last rs (and_parts (is_scoped functions last q.expr q.variables) (are_scoped functions last rs) h).1 i r k

root_formed : (rs : List Root) → are_formed rs ≡ true → (i : ℕ) (r : Root) → slice_get rs i ≡ Some r → is_formed r.expr ≡ true
root_formed [] h i r k = absurd cc
root_formed (q ∷ rs) h zero r k = ap (λ (s : Root). is_formed s.expr) (sym (same_some q r k)) ∙ (and_parts (is_formed q.expr) (are_formed rs) h).0
root_formed (q ∷ rs) h (suc i) r k = root_formed rs (and_parts (is_formed q.expr) (are_formed rs) h).1 i r k

-- the root that a place erases to
abbrev root_of : List Kernel → Place → Root
root_of ks s = record { variables = s.variables; expr = erase ks s.expr }

function_roots : (ks : List Kernel) (fs : List LowFunction) (rest : List Root) (ss : List Place) → map (root_of ks) ss ≡ rest
    → map (λ (f : Function). record { variables = f.params; expr = f.body }) (map (erased_function ks) fs) ++ rest ≡ map (root_of ks) (map (λ (f : LowFunction). record { variables = f.params; expr = f.body }) fs ++ ss)
function_roots ks [] rest ss h = sym h
function_roots ks (f ∷ fs) rest ss h = ap (λ l. record { variables = f.params; expr = erase ks f.body } ∷ l) (function_roots ks fs rest ss h)

item_roots_of : (ks : List Kernel) (n : ℕ) (is : List LowItem) → map (root_of ks) (item_places n is) ≡ item_roots n (map (erased_item ks) is)
item_roots_of ks n [] = refl
item_roots_of ks n (low_item.Define e ∷ is) = ap (λ l. record { variables = n; expr = erase ks e } ∷ l) (item_roots_of ks (n + 1) is)
item_roots_of ks n (low_item.Show name e ∷ is) = ap (λ l. record { variables = n; expr = erase ks e } ∷ l) (item_roots_of ks n is)

tops_erase : (ks : List Kernel) (l : Lowered) → roots (erased ks l) ≡ map (root_of ks) (top_places l)
tops_erase ks l = function_roots ks l.functions (item_roots 0 (map (erased_item ks) l.body)) (item_places 0 l.body) (item_roots_of ks 0 l.body)

mapped_at : {X Y : Type 0} (f : X → Y) (xs : List X) (i : ℕ) (x : X) → slice_get xs i ≡ Some x → slice_get (map f xs) i ≡ Some (f x)
mapped_at f [] i x h = absurd cc
mapped_at f (y ∷ xs) zero x h = ap (λ z. Some (f z)) (same_some y x h)
mapped_at f (y ∷ xs) (suc i) x h = mapped_at f xs i x h

same_last : (p : Program) (l : Lowered) (ks : List Kernel) → erased ks l ≡ p → many_sources l ≡ last_source p + 1
same_last p l ks h = ap (λ (q : Program). length q.inputs + length q.events + 1) h

-- each place at the top is ready
pub tops_ready : (p : Program) (l : Lowered) (t : Kernels) → IsWellFormed p → IsLoweredFrom p l t → EverywhereIn (IsReadyAt t (many_sources l)) l
tops_ready p l t well h = record {
  each = λ i top k.
      let ks = t.kernels in
      let functions = length p.functions in
      let last = last_source p in
      let at = ap (λ (q : Program). slice_get (roots q) i) (sym h.erasure) ∙ (ap (λ (rs : List Root). slice_get rs i) (tops_erase ks l) ∙ mapped_at (root_of ks) (top_places l) i top k) in
      let fine : IsFineAt functions last ks top = record {
        scoped = root_scoped functions last (roots p) well.scoped i (root_of ks top) at;
        formed = root_formed (roots p) well.formed i (root_of ks top) at;
      } in
      subst (λ n. Everywhere (IsReadyAt t n) top) (sym (same_last p l ks h.erasure)) (all_ready functions last t top h.sound fine (h.fits.each i top k));
}

-- what holds at each place of a program holds in its functions and items

function_place : (fs : List LowFunction) (ss : List Place) (i : ℕ) (f : LowFunction) → slice_get fs i ≡ Some f → slice_get (map (λ (g : LowFunction). record { variables = g.params; expr = g.body }) fs ++ ss) i ≡ Some (record { variables = f.params; expr = f.body })
function_place [] ss i f h = absurd cc
function_place (g ∷ fs) ss zero f h = ap (λ (w : LowFunction). Some (record { variables = w.params; expr = w.body })) (same_some g f h)
function_place (g ∷ fs) ss (suc i) f h = function_place fs ss i f h

pub in_functions : (P : Place → Type 0) (l : Lowered) → EverywhereIn P l → (i : ℕ) (f : LowFunction) → slice_get l.functions i ≡ Some f → Everywhere P (record { variables = f.params; expr = f.body })
in_functions P l h i f k = h.each i (record { variables = f.params; expr = f.body }) (function_place l.functions (item_places 0 l.body) i f k)

-- everywhere below each of these
abbrev pub AllTops : (Place → Type 0) → List Place → Type 0
AllTops P [] = Unit {0}
AllTops P (s ∷ ss) = Everywhere P s × AllTops P ss

all_tops : (P : Place → Type 0) (fs : List LowFunction) (ss : List Place)
    → ((i : ℕ) (top : Place) → slice_get (map (λ (g : LowFunction). record { variables = g.params; expr = g.body }) fs ++ ss) i ≡ Some top → Everywhere P top) → AllTops P ss
all_tops P [] [] h = tt
all_tops P [] (s ∷ ss) h = (h 0 s refl, all_tops P [] ss (λ i top k. h (suc i) top k))
all_tops P (f ∷ fs) ss h = all_tops P fs ss (λ i top k. h (suc i) top k)

pub in_items : (P : Place → Type 0) (l : Lowered) → EverywhereIn P l → AllTops P (item_places 0 l.body)
in_items P l h = all_tops P l.functions (item_places 0 l.body) h.each

items_ready : (planned : Planned) (n : ℕ) (is : List LowItem) → AllTops (IsReadyAt planned.table planned.sources) (item_places n is) → ItemsReady planned n is
items_ready planned n [] h = tt
items_ready planned n (low_item.Define e ∷ is) h = (h.0, items_ready planned (n + 1) is h.1)
items_ready planned n (low_item.Show name e ∷ is) h = (h.0, items_ready planned n is h.1)

items_sound : (planned : Planned) (n : ℕ) (is : List LowItem) → AllTops (IsReadyAt planned.table planned.sources) (item_places n is) → ItemsSound planned.table n is
items_sound planned n [] h = tt
items_sound planned n (low_item.Define e ∷ is) h = (record { holds = λ path r k. (h.0.holds path r k).sound }, items_sound planned (n + 1) is h.1)
items_sound planned n (low_item.Show name e ∷ is) h = (record { holds = λ path r k. (h.0.holds path r k).sound }, items_sound planned n is h.1)

-- purity is of the functions alone

closed_over : (p q : Program) → p.functions ≡ q.functions → (f : ℕ) → IsClosed p f → IsClosed q f
closed_over p q same f h = record {
  set = h.set;
  fits = record {
    fits = λ g m. let c = h.fits.fits g m in record { function = c.function; stands = ap (λ fs. slice_get fs g) (sym same) ∙ c.stands; body = c.body };
  };
  member = h.member;
}

calls_same : (p q : Program) (s : FunctionSet) → p.functions ≡ q.functions → calls_of p s ≡ calls_of q s
calls_same p q s same = ap (λ (fs : List Function). λ (f : ℕ) (n : ℕ). s f && takes (slice_get fs f) n) same

pure_over : (p q : Program) → p.functions ≡ q.functions → (s : FunctionSet) (f : ℕ) → PureOver p s f → PureOver q s f
pure_over p q same s f h = record {
  closed = closed_over p q same f h.closed;
  function = h.function;
  stands = ap (λ fs. slice_get fs f) (sym same) ∙ h.stands;
  body = subst (λ (calls : ℕ → ℕ → Bool). (judge calls h.function.body).pure ≡ true) (calls_same p q s same) h.body;
}

pure_in : (p q : Program) (e : Core) → p.functions ≡ q.functions → IsPureExpr p e → IsPureExpr q e
pure_in p q e same h = record {
  set = h.set;
  fits = record { fits = λ f m. pure_over p q same h.set f (h.fits.fits f m) };
  pure = subst (λ (calls : ℕ → ℕ → Bool). (judge calls e).pure ≡ true) (calls_same p q h.set same) h.pure;
}

-- what the laws of graphs and building take

pub plan_lowered : (p : Program) (l : Lowered) (t : Kernels) → IsWellFormed p → IsLoweredFrom p l t → AreLowered p (plan_of (planned_of l t)) l.body
plan_lowered p l t well h =
    let ready = tops_ready p l t well h in
    record {
      plan = record {
        functions = sym (ap (λ (q : Program). q.functions) h.erasure);
        table = h.functions;
        pure = λ i k s. let one = (h.sound.each i k s).pure in pure_in one.program p k.expr (one.functions ∙ h.functions) one.pure;
        slots = λ i k s. (h.sound.each i k s).slots;
        bodies = λ i f s. record { holds = λ path r k. ((in_functions (IsReadyAt t (many_sources l)) l ready i f s).holds path r k).sound };
      };
      items = sym (ap (λ (q : Program). q.body) h.erasure);
      sound = items_sound (planned_of l t) 0 l.body (in_items (IsReadyAt t (many_sources l)) l ready);
    }

pub plan_ready : (p : Program) (l : Lowered) (t : Kernels) → IsWellFormed p → IsLoweredFrom p l t → IsPlanReady (planned_of l t)
plan_ready p l t well h = record {
  pure = λ i k s. (h.sound.each i k s).pure;
  bodies = in_functions (IsReadyAt t (many_sources l)) l (tops_ready p l t well h);
}

pub body_ready : (p : Program) (l : Lowered) (t : Kernels) → IsWellFormed p → IsLoweredFrom p l t → ItemsReady (planned_of l t) 0 l.body
body_ready p l t well h = items_ready (planned_of l t) 0 l.body (in_items (IsReadyAt t (many_sources l)) l (tops_ready p l t well h))
