-- The parts of a lowered expression are parts of what it erases to, and well formed where that is.
use Rattle.std.proofs.Common.{◌≡◌, ◌+◌, ℕ, zero, suc, Bool, true, List, [], ◌∷◌, ◌++◌, map, length, slice_get, Option, Some, None, refl, sym, ap, subst, ◌∙◌, arith}
use Rattle.std.specs.Option.{option_and_then}
use Rattle.std.proofs.lemmas.Bool.{and_parts}
use Rattle.fr_value.proofs.Meet.{same_some}
use Rattle.fr_core.specs.Shapes.{outer, inner, parts_in, has_its_parts, all_true}
use Rattle.fr_core.specs.WellFormed.{names_something, all_at, is_scoped, is_formed}
use Rattle.fr_core.specs.declared.core_form.Core.{Core, out-Core}
use Rattle.fr_core.specs.declared.core_form.Core.TheVariants.{outs-Let, outs-If, outs-Apply, outs-Operator, outs-Handler, outs-Loop, outs-Feedback}
use Rattle.fr_core.specs.declared.lowered.Low.{Low, out-Low, map-Low}
use Rattle.fr_core.specs.declared.lowered.Low.TheOpen.{Low-F}
use Rattle.fr_core.specs.declared.lowered.Low.TheVariants as low
use Rattle.fr_core.specs.declared.lowered.Low.TheVariants.{outs-If as low_if}
use Rattle.fr_value.specs.declared.ids.SiteId.{SiteId}
use Rattle.fr_core.proofs.Folds.{scoped-opens, formed-opens}
use Rattle.fr_kernel.specs.Kernels.{Kernel}
use Rattle.fr_kernel.specs.Erasure.{erase, erase_step, kernel_expr, inner_low, Place, place_below, Everywhere}
use Rattle.fr_graph.proofs.Inside.{erase-opens}

-- parts over others

kept_at : (f : Low → Core) (es : List Low) (rest : List (ℕ × Core)) (i : ℕ) (x : ℕ × Low) → slice_get (outer es) i ≡ Some x → slice_get (outer (map f es) ++ rest) i ≡ Some (x.0, f x.1)
kept_at f [] rest i x h = absurd cc
kept_at f (e ∷ es) rest zero x h = ap (λ (y : ℕ × Low). Some (y.0, f y.1)) (same_some (0, e) x h)
kept_at f (e ∷ es) rest (suc i) x h = kept_at f es rest i x h

outer_at : (f : Low → Core) (es : List Low) (i : ℕ) (x : ℕ × Low) → slice_get (outer es) i ≡ Some x → slice_get (outer (map f es)) i ≡ Some (x.0, f x.1)
outer_at f [] i x h = absurd cc
outer_at f (e ∷ es) zero x h = ap (λ (y : ℕ × Low). Some (y.0, f y.1)) (same_some (0, e) x h)
outer_at f (e ∷ es) (suc i) x h = outer_at f es i x h

bodied_at : (f : Low → Core) (es : List Low) (m k : ℕ) (b : Low) → m ≡ k → (i : ℕ) (x : ℕ × Low) → slice_get (outer es ++ (m, b) ∷ []) i ≡ Some x → slice_get (outer (map f es) ++ (k, f b) ∷ []) i ≡ Some (x.0, f x.1)
bodied_at f [] m k b same zero x h = ap (λ n. Some (n, f b)) (sym same) ∙ ap (λ (y : ℕ × Low). Some (y.0, f y.1)) (same_some (m, b) x h)
bodied_at f [] m k b same (suc i) x h = absurd cc
bodied_at f (e ∷ es) m k b same zero x h = ap (λ (y : ℕ × Low). Some (y.0, f y.1)) (same_some (0, e) x h)
bodied_at f (e ∷ es) m k b same (suc i) x h = bodied_at f es m k b same i x h

long : (f : Low → Core) (es : List Low) → length es ≡ length (map f es)
long f [] = refl
long f (e ∷ es) = ap suc (long f es)

two_at : (f : Low → Core) (a b : Low) (i : ℕ) (x : ℕ × Low) → slice_get {X = ℕ × Low} ((0, a) ∷ (1, b) ∷ []) i ≡ Some x → slice_get {X = ℕ × Core} ((0, f a) ∷ (1, f b) ∷ []) i ≡ Some (x.0, f x.1)
two_at f a b zero x h = ap (λ (y : ℕ × Low). Some (y.0, f y.1)) (same_some (0, a) x h)
two_at f a b (suc zero) x h = ap (λ (y : ℕ × Low). Some (y.0, f y.1)) (same_some (1, b) x h)
two_at f a b (suc (suc i)) x h = absurd cc

-- the part of a number is the part of that number of what the shape erases to
inner_at : (ks : List Kernel) (f : Low → Core) (l : Low-F Low) (i : ℕ) (x : ℕ × Low) → slice_get (inner_low l) i ≡ Some x → slice_get (inner (out-Core (erase_step ks (map-Low Low Core f l)))) i ≡ Some (x.0, f x.1)
inner_at ks f (Low-F.Lit v) i x h = absurd cc
inner_at ks f (Low-F.Var y) i x h = absurd cc
inner_at ks f (Low-F.Source s) i x h = absurd cc
inner_at ks f (Low-F.Let es b) i x h = ap (λ g. slice_get (inner g) i) (outs-Let (map f es) (f b)) ∙ bodied_at f es (length es) (length (map f es)) b (long f es) i x h
inner_at ks f (Low-F.If s a b c) i x h = ap (λ g. slice_get (inner g) i) (outs-If (f a) (f b) (f c)) ∙ outer_at f (a ∷ b ∷ c ∷ []) i x h
inner_at ks f (Low-F.Apply g es) i x h = ap (λ g. slice_get (inner g) i) (outs-Apply g (map f es)) ∙ outer_at f es i x h
inner_at ks f (Low-F.Operator o es) i x h = ap (λ g. slice_get (inner g) i) (outs-Operator o (map f es)) ∙ outer_at f es i x h
inner_at ks f (Low-F.Handler g es id ss) i x h = ap (λ g. slice_get (inner g) i) (outs-Handler g (map f es) (kernel_expr ks id.0)) ∙ kept_at f es _ i x h
inner_at ks f (Low-F.Loop g es id ss) i x h = ap (λ g. slice_get (inner g) i) (outs-Loop g (map f es) (kernel_expr ks id.0)) ∙ kept_at f es _ i x h
inner_at ks f (Low-F.Feedback a b) i x h = ap (λ g. slice_get (inner g) i) (outs-Feedback (f a) (f b)) ∙ two_at f a b i x h
inner_at ks f (Low-F.Collapse id ss) i x h = absurd cc

-- tests of all parts

all_at_get : (f : Core → ℕ → Bool) (n : ℕ) (xs : List (ℕ × Core)) → all_at n (map (λ x. (x.0, f x.1)) xs) ≡ true → (i : ℕ) (y : ℕ × Core) → slice_get xs i ≡ Some y → f y.1 (n + y.0) ≡ true
all_at_get f n [] h i y k = absurd cc
all_at_get f n (x ∷ xs) h zero y k =
    ap (λ (z : ℕ × Core). f z.1 (n + z.0)) (sym (same_some x y k)) ∙ (and_parts (f x.1 (n + x.0)) (all_at n (map (λ x. (x.0, f x.1)) xs)) h).0
all_at_get f n (x ∷ xs) h (suc i) y k = all_at_get f n xs (and_parts (f x.1 (n + x.0)) (all_at n (map (λ x. (x.0, f x.1)) xs)) h).1 i y k

all_true_get : (f : Core → Bool) (xs : List (ℕ × Core)) → all_true (map f (map (λ (x : ℕ × Core). x.1) xs)) ≡ true → (i : ℕ) (y : ℕ × Core) → slice_get xs i ≡ Some y → f y.1 ≡ true
all_true_get f [] h i y k = absurd cc
all_true_get f (x ∷ xs) h zero y k = ap (λ (z : ℕ × Core). f z.1) (sym (same_some x y k)) ∙ (and_parts (f x.1) (all_true (map f (map (λ (x : ℕ × Core). x.1) xs))) h).0
all_true_get f (x ∷ xs) h (suc i) y k = all_true_get f xs (and_parts (f x.1) (all_true (map f (map (λ (x : ℕ × Core). x.1) xs))) h).1 i y k

-- an expression's numbers name something in scope, and its forms have their parts
pub record IsFine (functions sources n : ℕ) (c : Core) : Type 0 where
  pub scoped : is_scoped functions sources c n ≡ true
  pub formed : is_formed c ≡ true

pub own_named : (functions sources n : ℕ) (c : Core) → IsFine functions sources n c → names_something functions sources (out-Core c) n ≡ true
own_named functions sources n c h =
    (and_parts (names_something functions sources (out-Core c) n) (all_at n (map (λ x. (x.0, is_scoped functions sources x.1)) (inner (out-Core c)))) (sym (scoped-opens functions sources c n) ∙ h.scoped)).0

pub own_formed : (functions sources n : ℕ) (c : Core) → IsFine functions sources n c → has_its_parts (out-Core c) ≡ true
own_formed functions sources n c h = (and_parts (has_its_parts (out-Core c)) (all_true (map is_formed (parts_in (out-Core c)))) (sym (formed-opens c) ∙ h.formed)).0

pub part_fine : (functions sources n : ℕ) (c : Core) → IsFine functions sources n c → (i : ℕ) (y : ℕ × Core) → slice_get (inner (out-Core c)) i ≡ Some y → IsFine functions sources (n + y.0) y.1
part_fine functions sources n c h i y k = record {
  scoped =
      all_at_get (is_scoped functions sources) n (inner (out-Core c))
      (and_parts (names_something functions sources (out-Core c) n) (all_at n (map (λ x. (x.0, is_scoped functions sources x.1)) (inner (out-Core c)))) (sym (scoped-opens functions sources c n) ∙ h.scoped)).1 i y k;
  formed =
      all_true_get is_formed (inner (out-Core c)) (and_parts (has_its_parts (out-Core c)) (all_true (map is_formed (parts_in (out-Core c)))) (sym (formed-opens c) ∙ h.formed)).1 i y k;
}

-- at a place, what the expression erases to is so
abbrev pub IsFineAt : ℕ → ℕ → List Kernel → Place → Type 0
IsFineAt functions sources ks s = IsFine functions sources s.variables (erase ks s.expr)

inside_fine : (functions sources : ℕ) (ks : List Kernel) (s : Place) → IsFineAt functions sources ks s → (i : ℕ) (x : ℕ × Low) → slice_get (inner_low (out-Low s.expr)) i ≡ Some x
    → IsFineAt functions sources ks (record { variables = s.variables + x.0; expr = x.1 })
inside_fine functions sources ks s h i x k =
    let at = subst (λ c. slice_get (inner (out-Core c)) i ≡ Some (x.0, erase ks x.1)) (sym (erase-opens ks s.expr)) (inner_at ks (erase ks) (out-Low s.expr) i x k) in
    part_fine functions sources s.variables (erase ks s.expr) h i (x.0, erase ks x.1) at

abbrev GoesOver : (Place → Type 0) → Type 0
GoesOver G = (s : Place) → G s → (i : ℕ) (x : ℕ × Low) → slice_get (inner_low (out-Low s.expr)) i ≡ Some x → G (record { variables = s.variables + x.0; expr = x.1 })

below_by : (G : Place → Type 0) → GoesOver G → (path : List ℕ) (s : Place) → G s → (r : Place) → place_below s path ≡ Some r → G r
below_by G step [] s h r k = subst G (same_some s r k) h
below_by G step (i ∷ path) s h r k = by (λ t g m. below_by G step path t g r m) (slice_get (inner_low (out-Low s.expr)) i) refl k
  where
    by : ((t : Place) → G t → place_below t path ≡ Some r → G r) → (o : Option (ℕ × Low)) → slice_get (inner_low (out-Low s.expr)) i ≡ o
        → option_and_then (λ x. place_below (record { variables = s.variables + x.0; expr = x.1 }) path) o ≡ Some r → G r
    by rest None e k = absurd cc
    by rest (Some x) e k = rest (record { variables = s.variables + x.0; expr = x.1 }) (step s h i x e) k

pub fine_everywhere : (functions sources : ℕ) (ks : List Kernel) (s : Place) → IsFineAt functions sources ks s → Everywhere (IsFineAt functions sources ks) s
fine_everywhere functions sources ks s h = record { holds = λ path r k. below_by (IsFineAt functions sources ks) (inside_fine functions sources ks) path s h r k }

-- what holds everywhere below a place holds everywhere below each of its parts
pub everywhere_inside : (P : Place → Type 0) (n : ℕ) (e : Low) → Everywhere P (record { variables = n; expr = e }) → (i : ℕ) (x : ℕ × Low) → slice_get (inner_low (out-Low e)) i ≡ Some x
    → Everywhere P (record { variables = n + x.0; expr = x.1 })
everywhere_inside P n e h i x k = record {
  holds = λ path r s. h.holds (i ∷ path) r (subst (λ (o : Option (ℕ × Low)). option_and_then (λ y. place_below (record { variables = n + y.0; expr = y.1 }) path) o ≡ Some r) (sym k) s);
}

-- so it is of the two choices of a switch
pub everywhere_chosen : (P : Place → Type 0) (n : ℕ) (e : Low) (site : SiteId) (test a b : Low) → e ≡ low.If site test a b → Everywhere P (record { variables = n; expr = e })
    → Everywhere P (record { variables = n; expr = a }) × Everywhere P (record { variables = n; expr = b })
everywhere_chosen P n e site test a b is h =
    let shape : out-Low e ≡ Low-F.If site test a b = ap out-Low is ∙ low_if site test a b in
    let same : n + 0 ≡ n = omega arith in
    let first : ℕ × Low = (0, a) in
    let second : ℕ × Low = (0, b) in
    let one = everywhere_inside P n e h 1 first (ap (λ l. slice_get (inner_low l) 1) shape) in
    let two = everywhere_inside P n e h 2 second (ap (λ l. slice_get (inner_low l) 2) shape) in
    (subst (λ m. Everywhere P (record { variables = m; expr = a })) same one, subst (λ m. Everywhere P (record { variables = m; expr = b })) same two)
