-- Where the building of an expression doesn't fail, what never changes has a value.
use Rattle.std.proofs.Common.{◌≡◌, ◌≤◌, ◌&&◌, inl, inr, ℕ, zero, suc, Bool, true, false, if◌then◌else◌, List, [], ◌∷◌, ◌++◌, length, slice_get, refl, arith, Option, Some, None, Result, Ok, Err}
use Rattle.fr_value.specs.declared.now.Bad.{Bad}
use Rattle.fr_core.specs.declared.lowered.Low.{Low, out-Low}
use Rattle.fr_core.specs.declared.lowered.Low.TheOpen.{Low-F}
use Rattle.fr_core.specs.declared.lowered.LowItem.{LowItem}
use Rattle.fr_core.specs.declared.lowered.LowItem.TheVariants as low_item
use Rattle.fr_meaning.specs.Words.{Seen, own, test_of}
use Rattle.fr_meaning.specs.States.{Line}
use Rattle.fr_graph.specs.Graph.{Part, steady, signal, Work, operates, loops, runs, IsClean, work_line, is_plain}
use Rattle.fr_graph.specs.Walk.{Plan, first, rest, Walk, AllPlaced, place_all, by_value, by_next, all_steady, steady_values, place_work, variable_part, place_chosen, place_switch, place_call, slot_parts, low_body, place_shape, place}
use Rattle.fr_graph.specs.Wired.{Either}
use Rattle.fr_graph.specs.Fails.{AnyFails, WorkFails, ChoiceFails, SwitchFails, CallFails, ShapeFails, Fails, ItemsFail, HasValue, HaveValues}
use Rattle.fr_graph.specs.Items.{place_items, body_walk, BodyFails}

values_append : (ps qs : List Part) → HaveValues ps → HaveValues qs → HaveValues (ps ++ qs)
values_append [] qs h k = k
values_append (p ∷ ps) qs h k = (h.0, values_append ps qs h.1 k)

value_at : (ps : List Part) (i : ℕ) → HaveValues ps → (length ps ≤ i → ⊥) → HasValue (variable_part (slice_get ps i))
value_at [] i h there = absurd (there (omega arith))
value_at (p ∷ ps) zero h there = h.0
value_at (p ∷ ps) (suc i) h there = value_at ps i h.1 (λ less. there (omega (arith, less)))

-- a line that can't but be clean has a value
line_value : (l : Line) → ((IsClean l → ⊥) → ⊥) → own l.value ≡ None
line_value l h = by_seen l.value refl
  where
    by_seen : (v : Seen) → l.value ≡ v → own v ≡ None
    by_seen (Ok n) e = refl
    by_seen (Err b) e = absurd (h (λ c. let none = c.value in absurd cc))

module _ (p : Plan) where
  abbrev pub ValuedAt : ℕ → Type 0
  ValuedAt n = (e : Low) (env : List Part) (ms : List ℕ) → HaveValues env → (Fails p n e env ms → ⊥) → HasValue (place p n e env ms).part

  work_valued : (n : ℕ) (w : Work) (ps : List Part) (ms : List ℕ) → (WorkFails p n w ps → ⊥) → HasValue (place_work p n w ps ms).part
  work_valued n w ps ms h = by_steady (is_plain w && all_steady ps) h
    where
      by_steady : (b : Bool) → (Either b (IsClean (work_line p.table n w None (steady_values ps)) → ⊥) ⊥ → ⊥)
          → HasValue (if b then by_value (work_line p.table n w None (steady_values ps)).value ms else by_next ms).part
      by_steady true h = line_value (work_line p.table n w None (steady_values ps)) h
      by_steady false h = tt

  module _ (n : ℕ) (ih : ValuedAt n) (env : List Part) (good : HaveValues env) where
    abbrev walk : Walk
    walk = place p n

    abbrev Failing : Low → List Part → List ℕ → Type 0
    Failing = Fails p n

    all_valued : (es : List Low) (ms : List ℕ) → (AnyFails walk Failing env es ms → ⊥) → HaveValues (place_all walk env es ms).parts
    all_valued [] ms h = tt
    all_valued (e ∷ es) ms h = (ih e env ms good (λ x. h (inl x)), all_valued es (walk e env ms).left (λ x. h (inr x)))

    chosen_valued : (a b : Low) (ms : List ℕ) (o : Result Bool Bad) → (ChoiceFails Failing a b env ms o → ⊥) → HasValue (place_chosen walk a b env ms o).part
    chosen_valued a b ms (Err bad) h = absurd (h tt)
    chosen_valued a b ms (Ok true) h = ih a env ms good h
    chosen_valued a b ms (Ok false) h = ih b env ms good h

    switch_valued : (a b : Low) (t : Part) (ms : List ℕ) → (SwitchFails Failing a b env t ms → ⊥) → HasValue (place_switch walk a b env t ms).part
    switch_valued a b (steady v) ms h = chosen_valued a b ms (test_of v) h
    switch_valued a b (signal m) ms h = tt

    call_valued : (o : Option Low) (q : AllPlaced) → HaveValues q.parts → (CallFails Failing o q → ⊥) → HasValue (place_call walk o q).part
    call_valued None q vs h = absurd (h tt)
    call_valued (Some body) q vs h = ih body q.parts q.left vs h

    -- one case for each shape
    shape_valued : (l : Low-F Low) (ms : List ℕ) → (ShapeFails p n walk Failing env ms l → ⊥) → HasValue (place_shape p n walk env ms l).part
    shape_valued (Low-F.Lit v) ms h = refl
    shape_valued (Low-F.Var x) ms h = value_at env x.0 good h
    shape_valued (Low-F.Source s) ms h = tt
    shape_valued (Low-F.Let es body) ms h =
        let q = place_all walk env es ms in
        ih body (env ++ q.parts) q.left (values_append env q.parts good (all_valued es ms (λ x. h (inl x)))) (λ x. h (inr x))
    shape_valued (Low-F.If site test a b) ms h = switch_valued a b (walk test env ms).part (walk test env ms).left (λ x. h (inr x))
    shape_valued (Low-F.Apply f es) ms h = call_valued (low_body (slice_get p.functions f.0) (length es)) (place_all walk env es ms) (all_valued es ms (λ x. h (inl x))) (λ x. h (inr x))
    shape_valued (Low-F.Operator o es) ms h = let q = place_all walk env es ms in work_valued n (operates o) q.parts q.left (λ x. h (inr x))
    shape_valued (Low-F.Handler g es id ss) ms h = tt
    shape_valued (Low-F.Loop l es id ss) ms h = let q = place_all walk env es ms in work_valued n (loops l id.0) (q.parts ++ slot_parts p env ss) q.left (λ x. h (inr x))
    shape_valued (Low-F.Feedback init body) ms h =
        let i = walk init env ms in
        ih body (env ++ signal (first i.left) ∷ []) (rest i.left) (values_append env (signal (first i.left) ∷ []) good (tt, tt)) (λ x. h (inr x))
    shape_valued (Low-F.Collapse id ss) ms h = work_valued n (runs id.0) (slot_parts p env ss) ms h

  valued_on : (n : ℕ) → ValuedAt n
  unfolding place Fails
  valued_on zero e env ms good h = absurd (h tt)
  valued_on (suc n) e env ms good h = shape_valued n (valued_on n) env good (out-Low e) ms h

  items_valued : (n : ℕ) (is : List LowItem) (env : List Part) (ms : List ℕ) → HaveValues env → (ItemsFail (place p n) (Fails p n) env is ms → ⊥) → HaveValues (place_items (place p n) env is ms).parts
  items_valued n [] env ms good h = tt
  items_valued n (low_item.Define e ∷ is) env ms good h =
      let r = place p n e env ms in
      items_valued n is (env ++ r.part ∷ []) r.left (values_append env (r.part ∷ []) good (valued_on n e env ms good (λ x. h (inl x)), tt)) (λ x. h (inr x))
  items_valued n (low_item.Show name e ∷ is) env ms good h =
      let r = place p n e env ms in
      (valued_on n e env ms good (λ x. h (inl x)), items_valued n is env r.left good (λ x. h (inr x)))

-- WHAT IS BUILT. Where the building of the items doesn't fail, each show has a value or is that of a node.
pub built_valued : (p : Plan) (is : List LowItem) (ms : List ℕ) → (BodyFails p is ms → ⊥) → HaveValues (place_items (body_walk p) [] is ms).parts
built_valued p is ms h = items_valued p 2000 is [] ms tt h
