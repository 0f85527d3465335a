-- Where building stops with an error.
use Rattle.std.proofs.Common.{◌≡◌, inl, inr, ℕ, zero, suc, true, false, List, [], ◌∷◌, ◌++◌, length, take, slice_get, Option, Some, None, Ok, sym, subst, append_assoc}
use Rattle.fr_value.specs.declared.ids.FunId.{FunId}
use Rattle.fr_value.specs.declared.ids.KernId.{KernId}
use Rattle.fr_value.specs.declared.ids.SiteId.{SiteId}
use Rattle.fr_core.specs.declared.core_form.Operator.{Operator}
use Rattle.fr_core.specs.declared.core_form.Handler.{Handler}
use Rattle.fr_core.specs.declared.core_form.Loop.{Loop}
use Rattle.fr_core.specs.declared.lowered.Low.{Low, out-Low}
use Rattle.fr_core.specs.declared.lowered.Low.TheOpen.{Low-F}
use Rattle.fr_core.specs.declared.lowered.Slot.{Slot}
use Rattle.fr_meaning.specs.Words.{Seen, test_of}
use Rattle.fr_graph.specs.Graph.{Part, steady, signal, operates, handles, loops, runs}
use Rattle.fr_graph.specs.Walk.{Plan, Walk, Placed, AllPlaced, first, rest, place_all, slot_parts, low_body, place}
use Rattle.fr_graph.specs.Wired.{Standing}
use Rattle.fr_graph.specs.Fails.{AnyFails, WorkFails, ChoiceFails, SwitchFails, CallFails, ShapeFails, Fails}
use Rattle.fr_build.specs.Ready.{Planned, plan_of}
use Rattle.fr_build.specs.Builds.{FailsBehind, ExprStops, PartsStop, WorkStops}
use Rattle.fr_build.specs.Stops.{StopsWhere, made_stop}
use Rattle.fr_build.specs.declared.stops.BuildStop.{BuildStop}
use Rattle.fr_build.specs.declared.stops.BuildStop.TheVariants as stop
use Rattle.fr_store.specs.declared.store.MakeStop.{MakeStop}
use Rattle.fr_store.specs.declared.store.MakeStop.TheVariants as make_stop

-- a stop for one reason is one for another that follows from it
pub stops_for : (s : BuildStop) (A B : Type 0) → (A → B) → StopsWhere s A → StopsWhere s B
stops_for (stop.Memory e) A B f h = tt
stops_for (stop.Bad b) A B f h = f h
stops_for stop.Fuel A B f h = tt
stops_for stop.TooMany A B f h = tt

-- what stops the making of a node tells nothing
pub made_stops : (s : MakeStop) (A : Type 0) → StopsWhere (made_stop s) A
made_stops (make_stop.Memory e) A = tt
made_stops make_stop.TooMany A = tt

-- behind members that were walked over
pub fails_behind : (a : List ℕ) (F G : List ℕ → Type 0) → ((ms : List ℕ) → F ms → G (a ++ ms)) → FailsBehind F → FailsBehind G
fails_behind a F G f h = (a ++ h.0, λ left. subst G (sym (append_assoc a h.0 left)) (f (h.0 ++ left) (h.1 left)))

pub fails_at : (a : List ℕ) (G : List ℕ → Type 0) → ((ms : List ℕ) → G (a ++ ms)) → FailsBehind G
fails_at a G f = (a, f)

module _ (planned : Planned) (n : ℕ) (env : List Part) where
  abbrev p : Plan
  p = plan_of planned

  abbrev walk : Walk
  walk = place (plan_of planned) n

  abbrev F : Standing
  F = Fails (plan_of planned) n

  abbrev InShape : Low-F Low → List ℕ → Type 0
  InShape l ms = ShapeFails (plan_of planned) n (place (plan_of planned) n) (Fails (plan_of planned) n) env ms l

  -- members over which parts are walked
  abbrev pub Walks : List Low → List Part → List ℕ → Type 0
  Walks es parts a = (left : List ℕ) → place_all (place (plan_of planned) n) env es (a ++ left) ≡ record { parts = parts; left = left }

  abbrev pub WalksOne : Low → Part → List ℕ → Type 0
  WalksOne e part a = (left : List ℕ) → place (plan_of planned) n e env (a ++ left) ≡ record { part = part; left = left }

  -- the building of the shape fails
  by_shape : (s : BuildStop) (e : Low) (l : Low-F Low) → out-Low e ≡ l → StopsWhere s (FailsBehind (InShape l)) → ExprStops planned (suc n) e env s
  unfolding Fails
  by_shape s e l o h = stops_for s (FailsBehind (InShape l)) (FailsBehind (Fails (plan_of planned) (suc n) e env)) (λ f. (f.0, λ left. subst (λ (k : Low-F Low). InShape k (f.0 ++ left)) (sym o) (f.1 left))) h

  -- the parts fail
  parts_first : (s : BuildStop) (es : List Low) (G : List ℕ → Type 0) → ((ms : List ℕ) → AnyFails (place (plan_of planned) n) (Fails (plan_of planned) n) env es ms → G ms) → PartsStop planned n es env s
      → StopsWhere s (FailsBehind G)
  parts_first s es G f h =
      let A = AnyFails (place (plan_of planned) n) (Fails (plan_of planned) n) env es in
      stops_for s (FailsBehind A) (FailsBehind G) (λ o. fails_behind [] A G f o) h

  pub let_parts_stop : (s : BuildStop) (e : Low) (es : List Low) (body : Low) → out-Low e ≡ Low-F.Let es body → PartsStop planned n es env s → ExprStops planned (suc n) e env s
  let_parts_stop s e es body o h = by_shape s e (Low-F.Let es body) o (parts_first s es (InShape (Low-F.Let es body)) (λ ms f. inl f) h)

  pub let_body_stop : (s : BuildStop) (e : Low) (es : List Low) (body : Low) (parts : List Part) (a : List ℕ) → out-Low e ≡ Low-F.Let es body → Walks es parts a → ExprStops planned n body (env ++ parts) s
      → ExprStops planned (suc n) e env s
  let_body_stop s e es body parts a o walks h =
      let G = InShape (Low-F.Let es body) in
      let B = Fails (plan_of planned) n body (env ++ parts) in
      by_shape s e (Low-F.Let es body) o
      (stops_for s (FailsBehind B) (FailsBehind G) (λ f. fails_behind a B G (λ ms x. inr (subst (λ (q : AllPlaced). F body (env ++ q.parts) q.left) (sym (walks ms)) x)) f) h)

  pub test_stop : (s : BuildStop) (e : Low) (site : SiteId) (test c d : Low) → out-Low e ≡ Low-F.If site test c d → ExprStops planned n test env s → ExprStops planned (suc n) e env s
  test_stop s e site test c d o h =
      let G = InShape (Low-F.If site test c d) in
      let B = Fails (plan_of planned) n test env in
      by_shape s e (Low-F.If site test c d) o (stops_for s (FailsBehind B) (FailsBehind G) (λ f. fails_behind [] B G (λ ms x. inl x) f) h)

  pub yes_stop : (s : BuildStop) (e : Low) (site : SiteId) (test c d : Low) (v : Seen) (a : List ℕ) → out-Low e ≡ Low-F.If site test c d → test_of v ≡ Ok true → WalksOne test (steady v) a → ExprStops planned n c env s
      → ExprStops planned (suc n) e env s
  yes_stop s e site test c d v a o told walks h =
      let G = InShape (Low-F.If site test c d) in
      let B = Fails (plan_of planned) n c env in
      by_shape s e (Low-F.If site test c d) o
      (stops_for s (FailsBehind B) (FailsBehind G)
      (λ f. fails_behind a B G (λ ms x. inr (subst (λ (t : Placed). SwitchFails F c d env t.part t.left) (sym (walks ms)) (subst (ChoiceFails F c d env ms) (sym told) x))) f) h)

  pub no_stop : (s : BuildStop) (e : Low) (site : SiteId) (test c d : Low) (v : Seen) (a : List ℕ) → out-Low e ≡ Low-F.If site test c d → test_of v ≡ Ok false → WalksOne test (steady v) a → ExprStops planned n d env s
      → ExprStops planned (suc n) e env s
  no_stop s e site test c d v a o told walks h =
      let G = InShape (Low-F.If site test c d) in
      let B = Fails (plan_of planned) n d env in
      by_shape s e (Low-F.If site test c d) o
      (stops_for s (FailsBehind B) (FailsBehind G)
      (λ f. fails_behind a B G (λ ms x. inr (subst (λ (t : Placed). SwitchFails F c d env t.part t.left) (sym (walks ms)) (subst (ChoiceFails F c d env ms) (sym told) x))) f) h)

  pub args_stop : (s : BuildStop) (e : Low) (i : FunId) (es : List Low) → out-Low e ≡ Low-F.Apply i es → PartsStop planned n es env s → ExprStops planned (suc n) e env s
  args_stop s e i es o h = by_shape s e (Low-F.Apply i es) o (parts_first s es (InShape (Low-F.Apply i es)) (λ ms f. inl f) h)

  -- there is no such function
  pub arity_stop : (s : BuildStop) (e : Low) (i : FunId) (es : List Low) (a : List ℕ) → out-Low e ≡ Low-F.Apply i es → low_body (slice_get planned.functions i.0) (length es) ≡ None → ExprStops planned (suc n) e env s
  arity_stop s e i es a o none =
      by_shape s e (Low-F.Apply i es) o (always s (FailsBehind (InShape (Low-F.Apply i es))) ([], λ left. inr (subst (λ (c : Option Low). CallFails F c (place_all walk env es left)) (sym none) tt)))
    where
      always : (s : BuildStop) (A : Type 0) → A → StopsWhere s A
      always s A h = stops_for s (Unit {0}) A (λ u. h) (any s)
        where
          any : (s : BuildStop) → StopsWhere s (Unit {0})
          any (stop.Memory e) = tt
          any (stop.Bad b) = tt
          any stop.Fuel = tt
          any stop.TooMany = tt

  pub body_stop : (s : BuildStop) (e : Low) (i : FunId) (es : List Low) (body : Low) (parts : List Part) (a : List ℕ) → out-Low e ≡ Low-F.Apply i es → low_body (slice_get planned.functions i.0) (length es) ≡ Some body
      → Walks es parts a → ExprStops planned n body parts s → ExprStops planned (suc n) e env s
  body_stop s e i es body parts a o found walks h =
      let G = InShape (Low-F.Apply i es) in
      let B = Fails (plan_of planned) n body parts in
      by_shape s e (Low-F.Apply i es) o
      (stops_for s (FailsBehind B) (FailsBehind G)
      (λ f. fails_behind a B G
      (λ ms x. inr (subst (λ (c : Option Low). CallFails F c (place_all walk env es (a ++ ms))) (sym found) (subst (λ (q : AllPlaced). F body q.parts q.left) (sym (walks ms)) x))) f) h)

  pub operator_parts_stop : (s : BuildStop) (e : Low) (k : Operator) (es : List Low) → out-Low e ≡ Low-F.Operator k es → PartsStop planned n es env s → ExprStops planned (suc n) e env s
  operator_parts_stop s e k es o h = by_shape s e (Low-F.Operator k es) o (parts_first s es (InShape (Low-F.Operator k es)) (λ ms f. inl f) h)

  pub operator_stop : (s : BuildStop) (e : Low) (k : Operator) (es : List Low) (parts : List Part) (a : List ℕ) → out-Low e ≡ Low-F.Operator k es → Walks es parts a → WorkStops planned n (operates k) parts s
      → ExprStops planned (suc n) e env s
  operator_stop s e k es parts a o walks h =
      by_shape s e (Low-F.Operator k es) o
      (stops_for s (WorkFails (plan_of planned) n (operates k) parts) (FailsBehind (InShape (Low-F.Operator k es)))
      (λ x. (a, λ left. inr (subst (λ (q : AllPlaced). WorkFails (plan_of planned) n (operates k) q.parts) (sym (walks left)) x))) h)

  pub handler_parts_stop : (s : BuildStop) (e : Low) (k : Handler) (es : List Low) (id : KernId) (ss : List Slot) → out-Low e ≡ Low-F.Handler k es id ss → PartsStop planned n es env s → ExprStops planned (suc n) e env s
  handler_parts_stop s e k es id ss o h = by_shape s e (Low-F.Handler k es id ss) o (parts_first s es (InShape (Low-F.Handler k es id ss)) (λ ms f. inl f) h)

  pub handler_stop : (s : BuildStop) (e : Low) (k : Handler) (es : List Low) (id : KernId) (ss : List Slot) (parts : List Part) (a : List ℕ) → out-Low e ≡ Low-F.Handler k es id ss → Walks es parts a
      → WorkStops planned n (handles k id.0) (parts ++ slot_parts (plan_of planned) env ss) s → ExprStops planned (suc n) e env s
  handler_stop s e k es id ss parts a o walks h =
      by_shape s e (Low-F.Handler k es id ss) o
      (stops_for s (WorkFails (plan_of planned) n (handles k id.0) (parts ++ slot_parts (plan_of planned) env ss)) (FailsBehind (InShape (Low-F.Handler k es id ss)))
      (λ x. (a, λ left. inr (subst (λ (q : AllPlaced). WorkFails (plan_of planned) n (handles k id.0) (q.parts ++ slot_parts (plan_of planned) env ss)) (sym (walks left)) x))) h)

  pub loop_parts_stop : (s : BuildStop) (e : Low) (k : Loop) (es : List Low) (id : KernId) (ss : List Slot) → out-Low e ≡ Low-F.Loop k es id ss → PartsStop planned n es env s → ExprStops planned (suc n) e env s
  loop_parts_stop s e k es id ss o h = by_shape s e (Low-F.Loop k es id ss) o (parts_first s es (InShape (Low-F.Loop k es id ss)) (λ ms f. inl f) h)

  pub loop_stop : (s : BuildStop) (e : Low) (k : Loop) (es : List Low) (id : KernId) (ss : List Slot) (parts : List Part) (a : List ℕ) → out-Low e ≡ Low-F.Loop k es id ss → Walks es parts a
      → WorkStops planned n (loops k id.0) (parts ++ slot_parts (plan_of planned) env ss) s → ExprStops planned (suc n) e env s
  loop_stop s e k es id ss parts a o walks h =
      by_shape s e (Low-F.Loop k es id ss) o
      (stops_for s (WorkFails (plan_of planned) n (loops k id.0) (parts ++ slot_parts (plan_of planned) env ss)) (FailsBehind (InShape (Low-F.Loop k es id ss)))
      (λ x. (a, λ left. inr (subst (λ (q : AllPlaced). WorkFails (plan_of planned) n (loops k id.0) (q.parts ++ slot_parts (plan_of planned) env ss)) (sym (walks left)) x))) h)

  pub region_stop : (s : BuildStop) (e : Low) (id : KernId) (ss : List Slot) → out-Low e ≡ Low-F.Collapse id ss → WorkStops planned n (runs id.0) (slot_parts (plan_of planned) env ss) s → ExprStops planned (suc n) e env s
  region_stop s e id ss o h =
      by_shape s e (Low-F.Collapse id ss) o
      (stops_for s (WorkFails (plan_of planned) n (runs id.0) (slot_parts (plan_of planned) env ss)) (FailsBehind (InShape (Low-F.Collapse id ss))) (λ x. ([], λ left. x)) h)

  pub init_stop : (s : BuildStop) (e init body : Low) → out-Low e ≡ Low-F.Feedback init body → ExprStops planned n init env s → ExprStops planned (suc n) e env s
  init_stop s e init body o h =
      let G = InShape (Low-F.Feedback init body) in
      let B = Fails (plan_of planned) n init env in
      by_shape s e (Low-F.Feedback init body) o (stops_for s (FailsBehind B) (FailsBehind G) (λ f. fails_behind [] B G (λ ms x. inl x) f) h)

  pub fed_stop : (s : BuildStop) (e init body : Low) (base : Part) (name : ℕ) (a : List ℕ) → out-Low e ≡ Low-F.Feedback init body → WalksOne init base a → ExprStops planned n body (env ++ signal name ∷ []) s
      → ExprStops planned (suc n) e env s
  fed_stop s e init body base name a o walks h =
      let G = InShape (Low-F.Feedback init body) in
      let B = Fails (plan_of planned) n body (env ++ signal name ∷ []) in
      by_shape s e (Low-F.Feedback init body) o
      (stops_for s (FailsBehind B) (FailsBehind G)
      (λ f. fails_behind (a ++ name ∷ []) B G
      (λ ms x.
      subst (InShape (Low-F.Feedback init body)) (sym (append_assoc a (name ∷ []) ms))
      (inr (subst (λ (i : Placed). F body (env ++ signal (first i.left) ∷ []) (rest i.left)) (sym (walks (name ∷ ms))) x))) f) h)

  -- one of some expressions fails behind those before it
  pub any_at : (es : List Low) (i : ℕ) (e : Low) (ms : List ℕ) → slice_get es i ≡ Some e → F e env (place_all walk env (take i es) ms).left → AnyFails walk F env es ms
  any_at [] i e ms found x = absurd cc
  any_at (k ∷ es) zero e ms found x = let same : e ≡ k = cc in inl (subst (λ (l : Low). F l env ms) same x)
  any_at (k ∷ es) (suc i) e ms found x = inr (any_at es i e (walk k env ms).left found x)

  pub one_stop : (s : BuildStop) (es : List Low) (i : ℕ) (e : Low) (parts : List Part) (a : List ℕ) → slice_get es i ≡ Some e → Walks (take i es) parts a → ExprStops planned n e env s → PartsStop planned n es env s
  one_stop s es i e parts a found walks h =
      let B = Fails (plan_of planned) n e env in
      let G = AnyFails (place (plan_of planned) n) (Fails (plan_of planned) n) env es in
      stops_for s (FailsBehind B) (FailsBehind G) (λ f. fails_behind a B G (λ ms x. any_at es i e (a ++ ms) found (subst (λ (q : AllPlaced). F e env q.left) (sym (walks ms)) x)) f) h

-- no level is left
pub deep_stop : (planned : Planned) (e : Low) (env : List Part) (s : BuildStop) → ExprStops planned 0 e env s
unfolding Fails
deep_stop planned e env (stop.Memory o) = tt
deep_stop planned e env (stop.Bad b) = ([], λ left. tt)
deep_stop planned e env stop.Fuel = tt
deep_stop planned e env stop.TooMany = tt
