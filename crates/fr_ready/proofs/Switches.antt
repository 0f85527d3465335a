-- What was found at the sites of all switches is what building is told of them.
use Rattle.std.proofs.Common.{◌≡◌, ◌+◌, ℕ, zero, suc, List, [], ◌∷◌, ◌++◌, map, slice_get, Option, Some, None, refl, sym, ap, ◌∙◌}
use Rattle.std.specs.Option.{option_and_then}
use Rattle.fr_value.proofs.Meet.{same_some}
use Rattle.fr_core.specs.Shapes.{outer}
use Rattle.fr_core.specs.Sites.{parts_at, below, bodies, item_expr}
use Rattle.fr_core.specs.declared.lowered.Low.{Low, out-Low}
use Rattle.fr_core.specs.declared.lowered.Low.TheOpen.{Low-F}
use Rattle.fr_core.specs.declared.lowered.LowFunction.{LowFunction}
use Rattle.fr_core.specs.declared.lowered.LowItem.{LowItem}
use Rattle.fr_core.specs.declared.lowered.LowItem.TheVariants as low_item
use Rattle.fr_core.specs.declared.lowered.Lowered.{Lowered}
use Rattle.fr_kernel.specs.Kernels.{Kernels}
use Rattle.fr_kernel.specs.Erasure.{inner_low, Place, place_below, EverywhereIn, item_places, top_places}
use Rattle.fr_nodes.specs.Kinds.{Sites}
use Rattle.fr_ready.specs.Planning.{planned_of}
use Rattle.fr_ready.specs.Ready.{HasChoices, PlanMatches}
use Rattle.fr_ready.specs.Switches.{Found, choices_of, sites_by, IsFoundAt, HasFoundAll, ItemsMatch}
use Rattle.fr_ready.proofs.Ready.{AllTops, in_functions, in_items}

-- the parts of an expression, with what is bound for them and without

outer_part : (es : List Low) (i : ℕ) (x : ℕ × Low) → slice_get (outer es) i ≡ Some x → slice_get es i ≡ Some x.1
outer_part [] i x h = absurd cc
outer_part (e ∷ es) zero x h = ap (λ (y : ℕ × Low). Some y.1) (same_some (0, e) x h)
outer_part (e ∷ es) (suc i) x h = outer_part es i x h

bodied_part : (es : List Low) (n : ℕ) (b : Low) (i : ℕ) (x : ℕ × Low) → slice_get (outer es ++ (n, b) ∷ []) i ≡ Some x → slice_get (es ++ b ∷ []) i ≡ Some x.1
bodied_part [] n b zero x h = ap (λ (y : ℕ × Low). Some y.1) (same_some (n, b) x h)
bodied_part [] n b (suc i) x h = absurd cc
bodied_part (e ∷ es) n b zero x h = ap (λ (y : ℕ × Low). Some y.1) (same_some (0, e) x h)
bodied_part (e ∷ es) n b (suc i) x h = bodied_part es n b i x h

part_at : (l : Low-F Low) (i : ℕ) (x : ℕ × Low) → slice_get (inner_low l) i ≡ Some x → slice_get (parts_at l) i ≡ Some x.1
part_at (Low-F.Lit v) i x h = absurd cc
part_at (Low-F.Var y) i x h = absurd cc
part_at (Low-F.Source s) i x h = absurd cc
part_at (Low-F.Let es b) i x h = bodied_part es _ b i x h
part_at (Low-F.If s a b c) i x h = outer_part (a ∷ b ∷ c ∷ []) i x h
part_at (Low-F.Apply f es) i x h = outer_part es i x h
part_at (Low-F.Operator o es) i x h = outer_part es i x h
part_at (Low-F.Handler g es id ss) i x h = outer_part es i x h
part_at (Low-F.Loop g es id ss) i x h = outer_part es i x h
part_at (Low-F.Feedback a b) zero x h = ap (λ (y : ℕ × Low). Some y.1) (same_some (0, a) x h)
part_at (Low-F.Feedback a b) (suc zero) x h = ap (λ (y : ℕ × Low). Some y.1) (same_some (1, b) x h)
part_at (Low-F.Feedback a b) (suc (suc i)) x h = absurd cc
part_at (Low-F.Collapse id ss) i x h = absurd cc

-- the expression of a place below another stands at the same path below the expression there
place_stands : (path : List ℕ) (s r : Place) → place_below s path ≡ Some r → below s.expr path ≡ Some r.expr
place_stands [] s r h = ap (λ (p : Place). Some p.expr) (same_some s r h)
place_stands (i ∷ path) s r h = by (λ t k. place_stands path t r k) (slice_get (inner_low (out-Low s.expr)) i) refl h
  where
    by : ((t : Place) → place_below t path ≡ Some r → below t.expr path ≡ Some r.expr) → (o : Option (ℕ × Low)) → slice_get (inner_low (out-Low s.expr)) i ≡ o
        → option_and_then (λ x. place_below (record { variables = s.variables + x.0; expr = x.1 }) path) o ≡ Some r → below s.expr (i ∷ path) ≡ Some r.expr
    by rest None e k = absurd cc
    by rest (Some x) e k = ap (option_and_then (λ part. below part path)) (part_at (out-Low s.expr) i x e) ∙ rest (record { variables = s.variables + x.0; expr = x.1 }) k

-- the expressions of the places at the top

items_tops : (n : ℕ) (is : List LowItem) → map (λ (s : Place). s.expr) (item_places n is) ≡ map item_expr is
items_tops n [] = refl
items_tops n (low_item.Define e ∷ is) = ap (λ l. e ∷ l) (items_tops (n + 1) is)
items_tops n (low_item.Show name e ∷ is) = ap (λ l. e ∷ l) (items_tops n is)

functions_tops : (fs : List LowFunction) (ss : List Place) (es : List Low) → map (λ (s : Place). s.expr) ss ≡ es
    → map (λ (s : Place). s.expr) (map (λ (f : LowFunction). record { variables = f.params; expr = f.body }) fs ++ ss) ≡ map (λ (f : LowFunction). f.body) fs ++ es
functions_tops [] ss es h = h
functions_tops (f ∷ fs) ss es h = ap (λ l. f.body ∷ l) (functions_tops fs ss es h)

tops_bodies : (l : Lowered) → map (λ (s : Place). s.expr) (top_places l) ≡ bodies l
tops_bodies l = functions_tops l.functions (item_places 0 l.body) (map item_expr l.body) (items_tops 0 l.body)

top_at : (ss : List Place) (i : ℕ) (s : Place) → slice_get ss i ≡ Some s → slice_get (map (λ (p : Place). p.expr) ss) i ≡ Some s.expr
top_at [] i s h = absurd cc
top_at (p ∷ ss) zero s h = ap (λ (q : Place). Some q.expr) (same_some p s h)
top_at (p ∷ ss) (suc i) s h = top_at ss i s h

has_choices : (found : Found) (l : Low-F Low) → IsFoundAt found l → HasChoices (sites_by found) l
has_choices found (Low-F.If s a b c) h = ap choices_of h
has_choices found (Low-F.Lit v) h = tt
has_choices found (Low-F.Var y) h = tt
has_choices found (Low-F.Source s) h = tt
has_choices found (Low-F.Let es b) h = tt
has_choices found (Low-F.Apply f es) h = tt
has_choices found (Low-F.Operator o es) h = tt
has_choices found (Low-F.Handler g es id ss) h = tt
has_choices found (Low-F.Loop g es id ss) h = tt
has_choices found (Low-F.Feedback a b) h = tt
has_choices found (Low-F.Collapse id ss) h = tt

-- at each place
pub tops_match : (l : Lowered) (found : Found) → HasFoundAll l found → EverywhereIn (λ s. HasChoices (sites_by found) (out-Low s.expr)) l
tops_match l found h = record {
  each = λ i top k. record {
    holds = λ path r s.
        let at : slice_get (bodies l) i ≡ Some top.expr = ap (λ (es : List Low). slice_get es i) (sym (tops_bodies l)) ∙ top_at (top_places l) i top k in
        has_choices found (out-Low r.expr) (h.each i path r.expr (ap (option_and_then (λ e. below e path)) at ∙ place_stands path top r s));
  };
}

pub plan_matches : (l : Lowered) (t : Kernels) (found : Found) → HasFoundAll l found → PlanMatches (sites_by found) (planned_of l t)
plan_matches l t found h = record { bodies = in_functions (λ s. HasChoices (sites_by found) (out-Low s.expr)) l (tops_match l found h) }

items_match : (sites : Sites) (n : ℕ) (is : List LowItem) → AllTops (λ s. HasChoices sites (out-Low s.expr)) (item_places n is) → ItemsMatch sites n is
items_match sites n [] h = tt
items_match sites n (low_item.Define e ∷ is) h = (h.0, items_match sites (n + 1) is h.1)
items_match sites n (low_item.Show name e ∷ is) h = (h.0, items_match sites n is h.1)

pub body_matches : (l : Lowered) (found : Found) → HasFoundAll l found → ItemsMatch (sites_by found) 0 l.body
body_matches l found h = items_match (sites_by found) 0 l.body (in_items (λ s. HasChoices (sites_by found) (out-Low s.expr)) l (tops_match l found h))
