-- What each function of the walk comes to, by what those that it calls come to.
use Rattle.std.proofs.Common.{◌≡◌, ◌⊎◌, inl, inr, ℕ, suc, ◌+◌, ◌≤◌, Bool, true, List, ◌++◌, length, take, slice_get, Option, Some, None, Result, Err, ap, sym, ◌∙◌, subst, length-append, arith}
use Rattle.std.proofs.Math.Seq.{take-append_seam}
use Rattle.std.proofs.lemmas.List.{map-append, length-map}
use Rattle.std.proofs.lemmas.Result.{err_from_is_err_and}
use Rattle.std.specs.Result.{IsErrAnd}
use Rattle.std.specs.Option.{option_copied}
use denote.Ref.{Bor}
use Rattle.fr_value.specs.declared.now.Held.{Held}
use Rattle.fr_value.specs.declared.ids.FunId.{FunId}
use Rattle.fr_core.specs.declared.core_form.Operator.{Operator}
use Rattle.fr_core.specs.Shapes.{operator_takes}
use Rattle.fr_core.specs.declared.lowered.Low.{Low, out-Low}
use Rattle.fr_core.specs.declared.lowered.Low.TheOpen.{Low-F}
use Rattle.fr_graph.specs.Graph.{Part, operates}
use Rattle.fr_graph.specs.Walk.{low_body}
use Rattle.fr_graph.specs.Known.{Reads}
use Rattle.fr_graph.specs.Sound.{HasParts}
use Rattle.fr_way.specs.Way.{Way}
use Rattle.fr_nodes.specs.Kinds.{Sites, part_of, parts_of}
use Rattle.fr_build.specs.Ready.{Planned, IsReady, AreReady, IsReadyAt, IsGround}
use Rattle.fr_build.specs.Builds.{InReach, Grew, BuildsExpr, BuildsWork, ExprStops, PartsStop, WorkStops, MayBuild, ExprMade, ExprOutcome, PartsMade, PartsOutcome}
use Rattle.fr_build.specs.Stops.{made_stop}
use Rattle.fr_build.specs.declared.stops.BuildStop.{BuildStop}
use Rattle.fr_store.specs.declared.store.MakeStop.{MakeStop}
use Rattle.fr_build.proofs.Grown.{grew_live}
use Rattle.fr_build.proofs.Inner.{at_itself, in_let, in_apply, in_operator, in_body}
use Rattle.fr_build.proofs.Seq.{reads_append, reach_lives, sources_stay}
use Rattle.fr_build.proofs.Forms.{parts_length, let_built, call_built, operator_built}
use Rattle.fr_build.proofs.Stopped.{made_stops, let_body_stop, body_stop, operator_stop}

-- WHAT STOPS
-- a stop is handed on
module _ (planned : Planned) (x n : ℕ) (e : Low) (scope after : List Held) (old new : Sites → Way) (was now : ℕ → Bool) (r : Result Held BuildStop) where
  pub expr_out : (s : BuildStop) → IsErrAnd r (λ y. y ≡ s) → ExprStops planned n e (parts_of scope) s → ExprOutcome planned x n e scope after old new was now r
  expr_out s err h =
      let f = err_from_is_err_and r err in
      subst (ExprOutcome planned x n e scope after old new was now) (sym (f.1 ∙ ap Err f.2)) h

  pub expr_made : (m : MakeStop) → IsErrAnd r (λ y. y ≡ made_stop m) → ExprOutcome planned x n e scope after old new was now r
  expr_made m err = expr_out (made_stop m) err (made_stops m _)

-- a stop of parts is handed on
pub parts_out : (planned : Planned) (x n : ℕ) (es : List Low) (scope after : List Held) (old new : Sites → Way) (was now : ℕ → Bool) (r : Result (List Held) BuildStop) (s : BuildStop) → IsErrAnd r (λ y. y ≡ s)
    → PartsStop planned n es (parts_of scope) s → PartsOutcome planned x n es scope after old new was now r
parts_out planned x n es scope after old new was now r s err h =
    let f = err_from_is_err_and r err in
    subst (PartsOutcome planned x n es scope after old new was now) (sym (f.1 ∙ ap Err f.2)) h

-- another way to say the same expression and level
pub expr_same : (planned : Planned) (x m n : ℕ) (d e : Low) (scope after : List Held) (old new : Sites → Way) (was now : ℕ → Bool) (r : Result Held BuildStop) → m ≡ n → d ≡ e
    → ExprOutcome planned x m d scope after old new was now r → ExprOutcome planned x n e scope after old new was now r
expr_same planned x m n d e scope after old new was now r same alike h =
    subst (λ (k : ℕ). ExprOutcome planned x k e scope after old new was now r) same (subst (λ (l : Low). ExprOutcome planned x m l scope after old new was now r) alike h)

-- there is no body
pub no_body : (r : Option (Bor Low)) (o : Option Low) → r ≡ None → option_copied r ≡ o → o ≡ None
no_body r o none e = sym e ∙ ap option_copied none

-- what is in scope is at least as long as it was
pub outer_fits : (outer : ℕ) (after parts inner behind : List Held) → outer ≡ length after → inner ≡ after ++ parts → behind ≡ inner → outer ≤ length behind
outer_fits outer after parts inner behind many same kept =
    let long : length behind ≡ length after + length parts = ap length (kept ∙ same) ∙ length-append after parts in
    omega arith

-- the choices at sites that no law speaks of
pub no_sites : Low → Sites
no_sites e = λ s. record { yes = e; no = e }

-- THE GROUND STAYS
pub ground_on : (old new : Sites → Way) (was now : ℕ → Bool) (x : ℕ) (env scope : List Part) (many : ℕ) → IsGround old was x env many → ((y : ℕ) → now y ≡ was y)
    → ((sites : Sites) → (a : List ℕ) × Grew (old sites) (new sites) x env a × ((j : ℕ) → Reads j scope → InReach (new sites).graph env a j)) → IsGround new now x scope many
ground_on old new was now x env scope many g eras step = record {
  era = eras x ∙ g.era;
  taken = λ sites. let s = step sites in grew_live (old sites) (new sites) x env s.0 (g.taken sites) s.1;
  scope = λ sites j r. let s = step sites in reach_lives (old sites) (new sites) x env s.0 (g.taken sites) (g.scope sites) s.1 j (s.2 j r);
  sources = λ sites. let s = step sites in sources_stay (old sites) (new sites) many (g.taken sites) s.1.still (g.sources sites);
}

-- what was in scope before, and some parts
pub inner_parts : (scope after parts inner : List Held) → after ≡ scope → inner ≡ after ++ parts → parts_of inner ≡ parts_of scope ++ parts_of parts
inner_parts scope after parts inner same e = ap parts_of (e ∙ ap (λ (l : List Held). l ++ parts) same) ∙ map-append part_of scope parts

-- the scope is cut back to what it was
pub cut_back : (scope after parts inner behind final : List Held) (outer : ℕ) → after ≡ scope → inner ≡ after ++ parts → behind ≡ inner → outer ≡ length after → final ≡ take outer behind → final ≡ scope
cut_back scope after parts inner behind final outer same e kept many cut =
    cut ∙ ap (λ (l : List Held). take outer l) (kept ∙ e) ∙ ap (λ (k : ℕ). take k (after ++ parts)) many ∙ take-append_seam after parts ∙ same

module _ (planned : Planned) (n x : ℕ) (scope after : List Held) (old new : Sites → Way) (was now : ℕ → Bool) where
  ground_made : (es : List Low) (parts : List Held) (ps : List Part) → IsGround old was x (parts_of scope) planned.sources → (f : PartsMade planned x n es scope after old new was now parts)
      → ((j : ℕ) → Reads j ps → Reads j (parts_of scope) ⊎ Reads j (parts_of parts)) → IsGround new now x ps planned.sources
  ground_made es parts ps g f reads =
      ground_on old new was now x (parts_of scope) ps planned.sources g f.eras
      (λ sites.
      let b = f.builds sites in
      (b.added, b.grew, λ j r. elim (reads j r) [ inl l ↦ inl (inl l) | inr k ↦ b.reach j k ]))

  -- as many parts as expressions
  many_parts : (es : List Low) (parts : List Held) → IsGround old was x (parts_of scope) planned.sources → PartsMade planned x n es scope after old new was now parts → Sites → length parts ≡ length es
  many_parts es parts g f sites =
      sym (length-map parts part_of) ∙ parts_length sites planned x (old sites) (new sites) (new sites) (parts_of scope) (g.taken sites) (g.scope sites) n es (parts_of parts) (f.builds sites)

  -- LET
  pub let_first : (e : Low) (es : List Low) (b : Low) → out-Low e ≡ Low-F.Let es b → MayBuild 2000 planned n x old was (parts_of scope) (IsReady planned (length scope) e)
      → MayBuild 2000 planned n x old was (parts_of scope) (AreReady planned (length scope) es)
  let_first e es b o m = record { levels = m.levels; plan = m.plan; ground = m.ground; fits = (in_let (IsReadyAt planned.table planned.sources) (length scope) e es b o m.fits).0 }

  pub let_then : (e : Low) (es : List Low) (b : Low) (parts inner : List Held) → out-Low e ≡ Low-F.Let es b → MayBuild 2000 planned n x old was (parts_of scope) (IsReady planned (length scope) e)
      → PartsMade planned x n es scope after old new was now parts → inner ≡ after ++ parts → MayBuild 2001 planned n x new now (parts_of inner) (IsReady planned (length inner) b)
  let_then e es b parts inner o m f same =
      let all = inner_parts scope after parts inner f.env same in
      let long : length scope + length es ≡ length inner
      = ap (λ (k : ℕ). length scope + k) (sym (many_parts es parts m.ground f (no_sites e))) ∙ sym (length-append scope parts) ∙ sym (ap length (same ∙ ap (λ (l : List Held). l ++ parts) f.env)) in
      record {
        levels = let le : n ≤ 2000 = m.levels in omega arith;
        plan = m.plan;
        ground = ground_made es parts (parts_of inner) m.ground f (λ j r. reads_append (parts_of scope) (parts_of parts) j (subst (Reads j) all r));
        fits = subst (λ (k : ℕ). IsReady planned k b) long (in_let (IsReadyAt planned.table planned.sources) (length scope) e es b o m.fits).1;
      }

  pub let_done : (e : Low) (es : List Low) (b : Low) (parts inner behind final : List Held) (last : Sites → Way) (ends : ℕ → Bool) (held : Held) (outer : ℕ) → out-Low e ≡ Low-F.Let es b
      → MayBuild 2000 planned n x old was (parts_of scope) (IsReady planned (length scope) e) → PartsMade planned x n es scope after old new was now parts → inner ≡ after ++ parts
      → ExprMade planned x n b inner behind new last now ends held → outer ≡ length after → final ≡ take outer behind → ExprMade planned x (suc n) e scope final old last was ends held
  let_done e es b parts inner behind final last ends held outer o m f same h many cut = record {
    env = cut_back scope after parts inner behind final outer f.env same h.env many cut;
    eras = λ y. h.eras y ∙ f.eras y;
    builds = λ sites.
        let_built sites planned x (old sites) (new sites) (last sites) (parts_of scope) (m.ground.taken sites) (m.ground.scope sites) n e es b (parts_of parts) (part_of held) o (f.builds sites)
        (subst (λ (env : List Part). BuildsExpr sites (new sites) (last sites) planned x n b env (part_of held)) (inner_parts scope after parts inner f.env same) (h.builds sites));
  }

  pub let_body_out : (e : Low) (es : List Low) (b : Low) (parts inner : List Held) (s : BuildStop) → out-Low e ≡ Low-F.Let es b → PartsMade planned x n es scope after old new was now parts → inner ≡ after ++ parts
      → ExprStops planned n b (parts_of inner) s → ExprStops planned (suc n) e (parts_of scope) s
  let_body_out e es b parts inner s o f same h =
      let built = f.builds (no_sites e) in
      let_body_stop planned n (parts_of scope) s e es b (parts_of parts) built.added o built.placed
      (subst (λ (env : List Part). ExprStops planned n b env s) (inner_parts scope after parts inner f.env same) h)

  -- CALLS
  pub call_first : (e : Low) (i : FunId) (es : List Low) → out-Low e ≡ Low-F.Apply i es → MayBuild 2000 planned n x old was (parts_of scope) (IsReady planned (length scope) e)
      → MayBuild 2000 planned n x old was (parts_of scope) (AreReady planned (length scope) es)
  call_first e i es o m = record { levels = m.levels; plan = m.plan; ground = m.ground; fits = in_apply (IsReadyAt planned.table planned.sources) (length scope) e i es o m.fits }

  pub call_then : (e : Low) (i : FunId) (es : List Low) (body : Low) (parts : List Held) → out-Low e ≡ Low-F.Apply i es → MayBuild 2000 planned n x old was (parts_of scope) (IsReady planned (length scope) e)
      → PartsMade planned x n es scope after old new was now parts → low_body (slice_get planned.functions i.0) (length es) ≡ Some body → MayBuild 2001 planned n x new now (parts_of parts) (IsReady planned (length parts) body)
  call_then e i es body parts o m f found = record {
    levels = let le : n ≤ 2000 = m.levels in omega arith;
    plan = m.plan;
    ground = ground_made es parts (parts_of parts) m.ground f (λ j r. inr r);
    fits =
        subst (λ (k : ℕ). IsReady planned k body) (sym (many_parts es parts m.ground f (no_sites e)))
        (in_body (IsReadyAt planned.table planned.sources) (slice_get planned.functions i.0) (length es) body (λ fn there. m.plan.bodies i.0 fn there) found);
  }

  pub call_done : (e : Low) (i : FunId) (es : List Low) (body : Low) (parts behind : List Held) (last : Sites → Way) (ends : ℕ → Bool) (held : Held) → out-Low e ≡ Low-F.Apply i es
      → MayBuild 2000 planned n x old was (parts_of scope) (IsReady planned (length scope) e) → PartsMade planned x n es scope after old new was now parts → low_body (slice_get planned.functions i.0) (length es) ≡ Some body
      → ExprMade planned x n body parts behind new last now ends held → ExprMade planned x (suc n) e scope after old last was ends held
  call_done e i es body parts behind last ends held o m f found h = record {
    env = f.env;
    eras = λ y. h.eras y ∙ f.eras y;
    builds = λ sites.
        call_built sites planned x (old sites) (new sites) (last sites) (parts_of scope) (m.ground.taken sites) (m.ground.scope sites) n e i es body (parts_of parts) (part_of held) o found (f.builds sites) (h.builds sites);
  }

  pub call_body_out : (e : Low) (i : FunId) (es : List Low) (body : Low) (parts : List Held) (s : BuildStop) → out-Low e ≡ Low-F.Apply i es → PartsMade planned x n es scope after old new was now parts
      → low_body (slice_get planned.functions i.0) (length es) ≡ Some body → ExprStops planned n body (parts_of parts) s → ExprStops planned (suc n) e (parts_of scope) s
  call_body_out e i es body parts s o f found h =
      let built = f.builds (no_sites e) in
      body_stop planned n (parts_of scope) s e i es body (parts_of parts) built.added o found built.placed h

  -- OPERATORS
  pub operator_first : (e : Low) (k : Operator) (es : List Low) → out-Low e ≡ Low-F.Operator k es → MayBuild 2000 planned n x old was (parts_of scope) (IsReady planned (length scope) e)
      → MayBuild 2000 planned n x old was (parts_of scope) (AreReady planned (length scope) es)
  operator_first e k es o m = record { levels = m.levels; plan = m.plan; ground = m.ground; fits = in_operator (IsReadyAt planned.table planned.sources) (length scope) e k es o m.fits }

  pub operator_ground : (e : Low) (k : Operator) (es : List Low) (parts : List Held) → MayBuild 2000 planned n x old was (parts_of scope) (IsReady planned (length scope) e)
      → PartsMade planned x n es scope after old new was now parts → IsGround new now x (parts_of parts) planned.sources
  operator_ground e k es parts m f = ground_made es parts (parts_of parts) m.ground f (λ j r. inr r)

  pub operator_fits : (e : Low) (k : Operator) (es : List Low) (parts : List Held) → out-Low e ≡ Low-F.Operator k es → MayBuild 2000 planned n x old was (parts_of scope) (IsReady planned (length scope) e)
      → PartsMade planned x n es scope after old new was now parts → operator_takes k (length parts) ≡ true
  operator_fits e k es parts o m f =
      let sound = (at_itself (IsReadyAt planned.table planned.sources) (record { variables = length scope; expr = e }) m.fits).sound in
      ap (operator_takes k) (many_parts es parts m.ground f (no_sites e)) ∙ subst (HasParts {X = Low}) o sound.parts

  pub operator_done : (e : Low) (k : Operator) (es : List Low) (parts : List Held) (last : Sites → Way) (ends : ℕ → Bool) (held : Held) → out-Low e ≡ Low-F.Operator k es
      → MayBuild 2000 planned n x old was (parts_of scope) (IsReady planned (length scope) e) → PartsMade planned x n es scope after old new was now parts → ((y : ℕ) → ends y ≡ now y)
      → ((sites : Sites) → BuildsWork (new sites) (last sites) planned x n (operates k) (parts_of parts) (part_of held)) → ExprMade planned x (suc n) e scope after old last was ends held
  operator_done e k es parts last ends held o m f eras work = record {
    env = f.env;
    eras = λ y. eras y ∙ f.eras y;
    builds = λ sites.
        operator_built sites planned x (old sites) (new sites) (last sites) (parts_of scope) (m.ground.taken sites) (m.ground.scope sites) n e k es (parts_of parts) (part_of held) o (f.builds sites) (work sites);
  }

  pub operator_out : (e : Low) (k : Operator) (es : List Low) (parts : List Held) (s : BuildStop) → out-Low e ≡ Low-F.Operator k es → PartsMade planned x n es scope after old new was now parts
      → WorkStops planned n (operates k) (parts_of parts) s → ExprStops planned (suc n) e (parts_of scope) s
  operator_out e k es parts s o f h =
      let built = f.builds (no_sites e) in
      operator_stop planned n (parts_of scope) s e k es (parts_of parts) built.added o built.placed h
