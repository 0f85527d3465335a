-- What the other functions of the walk come to: a choice, further parts, forms with slots, a feedback and the leaves.
use Rattle.std.proofs.Common.{◌≡◌, ◌≢◌, ◌⊎◌, inl, inr, ℕ, zero, suc, ◌+◌, ◌-◌, ◌<◌, ◌≤◌, Bool, true, false, List, [], ◌∷◌, ◌++◌, length, take, slice_get, slice_index_or, Some, Result, Ok, Err, refl, ap, sym, ◌∙◌, subst, length-append, arith}
use Rattle.std.proofs.lemmas.List.{map-append, length-map}
use Rattle.std.specs.Result.{IfOk, IfErr}
use Rattle.fr_value.specs.declared.now.Held.{Held}
use Rattle.fr_value.specs.declared.now.Held.TheVariants.{Steady, Signal}
use Rattle.fr_value.specs.declared.value.Value.{Value}
use Rattle.fr_value.specs.declared.ids.NodeId.{NodeId}
use Rattle.fr_value.specs.declared.ids.KernId.{KernId}
use Rattle.fr_value.specs.declared.ids.SiteId.{SiteId}
use Rattle.fr_value.specs.declared.ids.SrcId.{SrcId}
use Rattle.fr_value.specs.declared.ids.VarId.{VarId}
use Rattle.fr_prims.specs.Data.{is_true}
use Rattle.fr_core.specs.declared.core_form.Handler.{Handler}
use Rattle.fr_core.specs.declared.core_form.Loop.{Loop}
use Rattle.fr_core.specs.declared.lowered.Low.{Low, out-Low}
use Rattle.fr_core.specs.declared.lowered.Low.TheOpen.{Low-F}
use Rattle.fr_core.specs.declared.lowered.Slot.{Slot}
use Rattle.fr_meaning.specs.Words.{plain, test_of}
use Rattle.fr_kernel.specs.Kernels.{Kernel}
use Rattle.fr_kernel.specs.Erasure.{named_in, FitsIfNamed}
use Rattle.fr_graph.specs.Graph.{Part, signal, handles, loops, runs, works, feeds}
use Rattle.fr_graph.specs.Walk.{slot_parts}
use Rattle.fr_graph.specs.Known.{Reads}
use Rattle.fr_way.specs.Frame.{AreCalm}
use Rattle.fr_way.specs.Way.{Way}
use Rattle.fr_nodes.specs.Kinds.{Sites, part_of, parts_of}
use Rattle.fr_nodes.specs.Makes.{AreThere, Makes, MakesSwitch, Ties}
use Rattle.fr_build.specs.Ready.{Planned, plan_of, IsReady, AreReady, IsReadyAt, IsGround, IsPlanReady, AreSlotsIn, NamesInScope, LiveAreTaken}
use Rattle.fr_build.specs.Builds.{Grew, BuildsExpr, BuildsParts, BuildsWork, ExprStops, PartsStop, WorkStops, MayBuild, ExprMade, ExprOutcome, PartsMade, Chooses, ChoosesBy}
use Rattle.fr_build.specs.declared.stops.BuildStop.{BuildStop}
use Rattle.fr_build.proofs.Grown.{grew_live}
use Rattle.fr_build.proofs.Inner.{at_itself, in_if, in_handler, in_loop, in_feedback, each_at}
use Rattle.fr_build.proofs.Seq.{reads_append, reads_one, slot_reads, reach_lives, sources_stay}
use Rattle.fr_build.proofs.Fed.{made_grew, feedback_built}
use Rattle.fr_build.proofs.Forms.{literal_built, variable_built, source_built, yes_built, no_built, handler_built, loop_built}
use Rattle.fr_build.proofs.Switches.{region_built, switch_built, none_built, snoc_built}
use Rattle.fr_build.proofs.Stopped.{yes_stop, no_stop, handler_stop, loop_stop, region_stop, fed_stop, one_stop}
use Rattle.fr_build.proofs.Outcomes.{no_sites, ground_on, inner_parts, cut_back}

pub item_at : (es : List Low) (i : ℕ) (d : Low) → i < length es → slice_get es i ≡ Some (slice_index_or es i d)
item_at [] i d lt = absurd (omega arith)
item_at (e ∷ es) zero d lt = refl
item_at (e ∷ es) (suc i) d lt = let less : i < length es = omega arith in item_at es i d less

-- one level deeper, for another way to say the same expression
pub step_may : (planned : Planned) (n x k : ℕ) (way : Sites → Way) (has_era : ℕ → Bool) (env : List Part) (e d : Low) → n ≢ 0 → e ≡ d → MayBuild 2001 planned n x way has_era env (IsReady planned k e)
    → MayBuild 2000 planned (n - 1) x way has_era env (IsReady planned k d)
step_may planned n x k way has_era env e d some same m = record {
  levels = let le : n ≤ 2001 = m.levels in omega arith;
  plan = m.plan;
  ground = m.ground;
  fits = subst (IsReady planned k) same m.fits;
}

pub one_less : (n : ℕ) → n ≢ 0 → suc (n - 1) ≡ n
one_less n some = omega arith

module _ (planned : Planned) (n x : ℕ) (scope after : List Held) (old new : Sites → Way) (was now : ℕ → Bool) where
  -- ONE PART WAS BUILT
  ground_one : (e : Low) (held : Held) (ps : List Part) → IsGround old was x (parts_of scope) planned.sources → (f : ExprMade planned x n e scope after old new was now held)
      → ((j : ℕ) → Reads j ps → Reads j (parts_of scope) ⊎ Reads j (part_of held ∷ [])) → IsGround new now x ps planned.sources
  ground_one e held ps g f reads =
      ground_on old new was now x (parts_of scope) ps planned.sources g f.eras
      (λ sites.
      let b = f.builds sites in
      (b.added, b.grew, λ j r. elim (reads j r) [ inl l ↦ inl (inl l) | inr k ↦ b.reach j (reads_one (part_of held) j k) ]))

  -- A CHOICE
  pub if_first : (e : Low) (site : SiteId) (test a b : Low) → out-Low e ≡ Low-F.If site test a b → MayBuild 2000 planned n x old was (parts_of scope) (IsReady planned (length scope) e)
      → MayBuild 2001 planned n x old was (parts_of scope) (IsReady planned (length scope) test)
  if_first e site test a b o m = record {
    levels = let le : n ≤ 2000 = m.levels in omega arith;
    plan = m.plan;
    ground = m.ground;
    fits = (in_if (IsReadyAt planned.table planned.sources) (length scope) e site test a b o m.fits).0;
  }

  chosen_may : (c : Low) (e test : Low) (held : Held) → n ≤ 2000 → IsPlanReady planned → IsGround old was x (parts_of scope) planned.sources → ExprMade planned x n test scope after old new was now held → IsReady planned (length scope) c
      → MayBuild 2001 planned n x new now (parts_of after) (IsReady planned (length after) c)
  chosen_may c e test held le plan ground f fits = record {
    levels = omega arith;
    plan = plan;
    ground = ground_one test held (parts_of after) ground f (λ j r. inl (subst (Reads j) (ap parts_of f.env) r));
    fits = subst (λ (l : List Held). IsReady planned (length l) c) (sym f.env) fits;
  }

  pub yes_may : (e : Low) (site : SiteId) (test a b : Low) (held : Held) → out-Low e ≡ Low-F.If site test a b → MayBuild 2000 planned n x old was (parts_of scope) (IsReady planned (length scope) e)
      → ExprMade planned x n test scope after old new was now held → MayBuild 2001 planned n x new now (parts_of after) (IsReady planned (length after) a)
  yes_may e site test a b held o m f = chosen_may a e test held m.levels m.plan m.ground f (in_if (IsReadyAt planned.table planned.sources) (length scope) e site test a b o m.fits).1

  pub no_may : (e : Low) (site : SiteId) (test a b : Low) (held : Held) → out-Low e ≡ Low-F.If site test a b → MayBuild 2000 planned n x old was (parts_of scope) (IsReady planned (length scope) e)
      → ExprMade planned x n test scope after old new was now held → MayBuild 2001 planned n x new now (parts_of after) (IsReady planned (length after) b)
  no_may e site test a b held o m f = chosen_may b e test held m.levels m.plan m.ground f (in_if (IsReadyAt planned.table planned.sources) (length scope) e site test a b o m.fits).2

  pub yes_done : (e : Low) (site : SiteId) (test a b : Low) (v : Value) (behind : List Held) (last : Sites → Way) (ends : ℕ → Bool) (held : Held) → out-Low e ≡ Low-F.If site test a b → test_of (plain v) ≡ Ok true
      → MayBuild 2000 planned n x old was (parts_of scope) (IsReady planned (length scope) e) → ExprMade planned x n test scope after old new was now (Steady v) → ExprMade planned x n a after behind new last now ends held
      → ExprMade planned x (suc n) e scope behind old last was ends held
  yes_done e site test a b v behind last ends held o told m f h = record {
    env = h.env ∙ f.env;
    eras = λ y. h.eras y ∙ f.eras y;
    builds = λ sites.
        yes_built sites planned x (old sites) (new sites) (last sites) (parts_of scope) (m.ground.taken sites) (m.ground.scope sites) n e site test a b (plain v) (part_of held) o told (f.builds sites)
        (subst (λ (l : List Held). BuildsExpr sites (new sites) (last sites) planned x n a (parts_of l) (part_of held)) f.env (h.builds sites));
  }

  pub no_done : (e : Low) (site : SiteId) (test a b : Low) (v : Value) (behind : List Held) (last : Sites → Way) (ends : ℕ → Bool) (held : Held) → out-Low e ≡ Low-F.If site test a b → test_of (plain v) ≡ Ok false
      → MayBuild 2000 planned n x old was (parts_of scope) (IsReady planned (length scope) e) → ExprMade planned x n test scope after old new was now (Steady v) → ExprMade planned x n b after behind new last now ends held
      → ExprMade planned x (suc n) e scope behind old last was ends held
  no_done e site test a b v behind last ends held o told m f h = record {
    env = h.env ∙ f.env;
    eras = λ y. h.eras y ∙ f.eras y;
    builds = λ sites.
        no_built sites planned x (old sites) (new sites) (last sites) (parts_of scope) (m.ground.taken sites) (m.ground.scope sites) n e site test a b (plain v) (part_of held) o told (f.builds sites)
        (subst (λ (l : List Held). BuildsExpr sites (new sites) (last sites) planned x n b (parts_of l) (part_of held)) f.env (h.builds sites));
  }

  pub yes_out : (e : Low) (site : SiteId) (test a b : Low) (v : Value) (s : BuildStop) → out-Low e ≡ Low-F.If site test a b → test_of (plain v) ≡ Ok true → ExprMade planned x n test scope after old new was now (Steady v)
      → ExprStops planned n a (parts_of after) s → ExprStops planned (suc n) e (parts_of scope) s
  yes_out e site test a b v s o told f h =
      let built = f.builds (no_sites e) in
      yes_stop planned n (parts_of scope) s e site test a b (plain v) built.added o told built.placed (subst (λ (l : List Held). ExprStops planned n a (parts_of l) s) f.env h)

  pub no_out : (e : Low) (site : SiteId) (test a b : Low) (v : Value) (s : BuildStop) → out-Low e ≡ Low-F.If site test a b → test_of (plain v) ≡ Ok false → ExprMade planned x n test scope after old new was now (Steady v)
      → ExprStops planned n b (parts_of after) s → ExprStops planned (suc n) e (parts_of scope) s
  no_out e site test a b v s o told f h =
      let built = f.builds (no_sites e) in
      no_stop planned n (parts_of scope) s e site test a b (plain v) built.added o told built.placed (subst (λ (l : List Held). ExprStops planned n b (parts_of l) s) f.env h)

  -- what the test chose
  pub chosen_may_build : (e : Low) (site : SiteId) (test a b c : Low) (v : Value) → out-Low e ≡ Low-F.If site test a b → MayBuild 2000 planned n x old was (parts_of scope) (IsReady planned (length scope) e)
      → ExprMade planned x n test scope after old new was now (Steady v) → Chooses (plain v) a b c → MayBuild 2001 planned n x new now (parts_of after) (IsReady planned (length after) c)
  chosen_may_build e site test a b c v o m f ch = by_test (is_true v) ch
    where
      by_test : (t : Bool) → ChoosesBy (Ok t) a b c → MayBuild 2001 planned n x new now (parts_of after) (IsReady planned (length after) c)
      by_test true q = subst (λ (l : Low). MayBuild 2001 planned n x new now (parts_of after) (IsReady planned (length after) l)) (sym q) (yes_may e site test a b (Steady v) o m f)
      by_test false q = subst (λ (l : Low). MayBuild 2001 planned n x new now (parts_of after) (IsReady planned (length after) l)) (sym q) (no_may e site test a b (Steady v) o m f)

  pub chosen_done : (e : Low) (site : SiteId) (test a b c : Low) (v : Value) (behind : List Held) (last : Sites → Way) (ends : ℕ → Bool) (held : Held) → out-Low e ≡ Low-F.If site test a b
      → MayBuild 2000 planned n x old was (parts_of scope) (IsReady planned (length scope) e) → ExprMade planned x n test scope after old new was now (Steady v) → Chooses (plain v) a b c
      → ExprMade planned x n c after behind new last now ends held → ExprMade planned x (suc n) e scope behind old last was ends held
  chosen_done e site test a b c v behind last ends held o m f ch h = by_test (is_true v) refl ch
    where
      by_test : (t : Bool) → is_true v ≡ t → ChoosesBy (Ok t) a b c → ExprMade planned x (suc n) e scope behind old last was ends held
      by_test true told q = yes_done e site test a b v behind last ends held o (ap Ok told) m f (subst (λ (l : Low). ExprMade planned x n l after behind new last now ends held) q h)
      by_test false told q = no_done e site test a b v behind last ends held o (ap Ok told) m f (subst (λ (l : Low). ExprMade planned x n l after behind new last now ends held) q h)

  pub chosen_out : (e : Low) (site : SiteId) (test a b c : Low) (v : Value) (s : BuildStop) → out-Low e ≡ Low-F.If site test a b → ExprMade planned x n test scope after old new was now (Steady v) → Chooses (plain v) a b c
      → ExprStops planned n c (parts_of after) s → ExprStops planned (suc n) e (parts_of scope) s
  chosen_out e site test a b c v s o f ch h = by_test (is_true v) refl ch
    where
      by_test : (t : Bool) → is_true v ≡ t → ChoosesBy (Ok t) a b c → ExprStops planned (suc n) e (parts_of scope) s
      by_test true told q = yes_out e site test a b v s o (ap Ok told) f (subst (λ (l : Low). ExprStops planned n l (parts_of after) s) q h)
      by_test false told q = no_out e site test a b v s o (ap Ok told) f (subst (λ (l : Low). ExprStops planned n l (parts_of after) s) q h)

  -- a switch whose test varies
  pub test_lives : (e : Low) (id : NodeId) → IsGround old was x (parts_of scope) planned.sources → ExprMade planned x n e scope after old new was now (Signal id) → (sites : Sites) → (new sites).graph.live id.0 ≡ true
  test_lives e id g f sites =
      let b = f.builds sites in
      reach_lives (old sites) (new sites) x (parts_of scope) b.added (g.taken sites) (g.scope sites) b.grew id.0 (b.reach id.0 refl)

  pub scope_lives : (e : Low) (held : Held) → IsGround old was x (parts_of scope) planned.sources → ExprMade planned x n e scope after old new was now held → (sites : Sites) → AreThere (new sites) (parts_of after)
  scope_lives e held g f = (ground_one e held (parts_of after) g f (λ j r. inl (subst (Reads j) (ap parts_of f.env) r))).scope

  pub switch_done : (e : Low) (site : SiteId) (test a b : Low) (id : NodeId) (w r : NodeId) (level : ℕ) (last : Sites → Way) (ends : ℕ → Bool) → out-Low e ≡ Low-F.If site test a b → level ≡ n
      → MayBuild 2000 planned n x old was (parts_of scope) (IsReady planned (length scope) e) → ExprMade planned x n test scope after old new was now (Signal id) → ((y : ℕ) → ends y ≡ now y)
      → ((sites : Sites) → MakesSwitch (new sites) (last sites) w.0 r.0 x level (sites site.0).yes (sites site.0).no (parts_of after) id.0) → ExprMade planned x (suc n) e scope after old last was ends (Signal r)
  switch_done e site test a b id w r level last ends o same m f eras makes = record {
    env = f.env;
    eras = λ y. eras y ∙ f.eras y;
    builds = λ sites.
        switch_built sites planned x (old sites) (new sites) (last sites) (parts_of scope) (m.ground.taken sites) (m.ground.scope sites) n e site test a b id.0 w.0 r.0 o (f.builds sites)
        (subst (λ (k : ℕ). MakesSwitch (new sites) (last sites) w.0 r.0 x k (sites site.0).yes (sites site.0).no (parts_of scope) id.0) same
        (subst (λ (l : List Held). MakesSwitch (new sites) (last sites) w.0 r.0 x level (sites site.0).yes (sites site.0).no (parts_of l) id.0) f.env (makes sites)));
  }

  -- PARTS FROM LEFT TO RIGHT
  take_snoc : (es : List Low) (i : ℕ) (e : Low) → slice_get es i ≡ Some e → take (suc i) es ≡ take i es ++ e ∷ []
  take_snoc [] i e found = absurd cc
  take_snoc (k ∷ es) zero e found = let same : k ≡ e = cc in ap (λ (l : Low). l ∷ []) same
  take_snoc (k ∷ es) (suc i) e found = ap (λ (l : List Low). k ∷ l) (take_snoc es i e found)

  pub part_may : (es : List Low) (i : ℕ) (e : Low) (parts : List Held) → MayBuild 2000 planned n x old was (parts_of scope) (AreReady planned (length scope) es) → slice_get es i ≡ Some e
      → PartsMade planned x n (take i es) scope after old new was now parts → MayBuild 2001 planned n x new now (parts_of after) (IsReady planned (length after) e)
  part_may es i e parts m found f = record {
    levels = let le : n ≤ 2000 = m.levels in omega arith;
    plan = m.plan;
    ground = ground_on old new was now x (parts_of scope) (parts_of after) planned.sources m.ground f.eras
        (λ sites. let b = f.builds sites in (b.added, b.grew, λ j r. inl (inl (subst (Reads j) (ap parts_of f.env) r))));
    fits = subst (λ (l : List Held). IsReady planned (length l) e) (sym f.env) (each_at (IsReadyAt planned.table planned.sources) (length scope) es i e found m.fits);
  }

  pub part_next : (es : List Low) (i : ℕ) (e : Low) (parts more behind : List Held) (last : Sites → Way) (ends : ℕ → Bool) (held : Held) → MayBuild 2000 planned n x old was (parts_of scope) (AreReady planned (length scope) es)
      → slice_get es i ≡ Some e → PartsMade planned x n (take i es) scope after old new was now parts → ExprMade planned x n e after behind new last now ends held → more ≡ parts ++ held ∷ []
      → PartsMade planned x n (take (i + 1) es) scope behind old last was ends more
  part_next es i e parts more behind last ends held m found f h same =
      let next : take (i + 1) es ≡ take i es ++ e ∷ [] = let one : i + 1 ≡ suc i = omega arith in ap (λ (k : ℕ). take k es) one ∙ take_snoc es i e found in
      let all : parts_of more ≡ parts_of parts ++ part_of held ∷ [] = ap parts_of same ∙ map-append part_of parts (held ∷ []) in
      record {
        env = h.env ∙ f.env;
        eras = λ y. h.eras y ∙ f.eras y;
        builds = λ sites.
            subst (λ (l : List Low). BuildsParts sites (old sites) (last sites) planned x n l (parts_of scope) (parts_of more)) (sym next)
            (subst (λ (ps : List Part). BuildsParts sites (old sites) (last sites) planned x n (take i es ++ e ∷ []) (parts_of scope) ps) (sym all)
            (snoc_built sites planned x (old sites) (new sites) (last sites) (parts_of scope) (m.ground.taken sites) (m.ground.scope sites) n (take i es) e (parts_of parts) (part_of held) (f.builds sites)
            (subst (λ (l : List Held). BuildsExpr sites (new sites) (last sites) planned x n e (parts_of l) (part_of held)) f.env (h.builds sites))));
      }

  pub part_out : (es : List Low) (i : ℕ) (e : Low) (parts : List Held) (s : BuildStop) → slice_get es i ≡ Some e → PartsMade planned x n (take i es) scope after old new was now parts
      → ExprStops planned n e (parts_of after) s → PartsStop planned n es (parts_of scope) s
  part_out es i e parts s found f h =
      let built = f.builds (no_sites e) in
      one_stop planned n (parts_of scope) s es i e (parts_of parts) built.added found built.placed (subst (λ (l : List Held). ExprStops planned n e (parts_of l) s) f.env h)

  pub parts_ground : (e : Low) (es : List Low) (parts : List Held) → MayBuild 2000 planned n x old was (parts_of scope) (IsReady planned (length scope) e) → PartsMade planned x n es scope after old new was now parts
      → IsGround new now x (parts_of parts) planned.sources
  parts_ground e es parts m f = ground_on old new was now x (parts_of scope) (parts_of parts) planned.sources m.ground f.eras (λ sites. let b = f.builds sites in (b.added, b.grew, b.reach))

  take_all : (es : List Low) (i : ℕ) → length es ≤ i → take i es ≡ es
  take_all [] zero le = refl
  take_all [] (suc i) le = refl
  take_all (k ∷ es) zero le = absurd (omega arith)
  take_all (k ∷ es) (suc i) le = let less : length es ≤ i = omega arith in ap (λ (l : List Low). k ∷ l) (take_all es i less)

  pub parts_all : (es : List Low) (i : ℕ) (parts : List Held) → length es ≤ i → PartsMade planned x n (take i es) scope after old new was now parts → PartsMade planned x n es scope after old new was now parts
  parts_all es i parts le f = subst (λ (l : List Low). PartsMade planned x n l scope after old new was now parts) (take_all es i le) f

  pub parts_none : (es : List Low) → IsGround old was x (parts_of scope) planned.sources → PartsMade planned x n (take 0 es) scope scope old old was was []
  parts_none es g = record {
    env = refl;
    eras = λ y. refl;
    builds = λ sites. none_built sites planned x (old sites) (parts_of scope) n (g.taken sites);
  }

  -- FORMS WITH SLOTS
  with_ground : (es : List Low) (parts : List Held) (ss : List Slot) → AreSlotsIn (length scope) planned.sources ss → IsGround old was x (parts_of scope) planned.sources → PartsMade planned x n es scope after old new was now parts
      → (sites : Sites) → AreThere (new sites) (parts_of parts ++ slot_parts (plan_of planned) (parts_of scope) ss)
  with_ground es parts ss slots g f sites j r =
      let b = f.builds sites in
      let lives = reach_lives (old sites) (new sites) x (parts_of scope) b.added (g.taken sites) (g.scope sites) b.grew in
      elim (reads_append (parts_of parts) (slot_parts (plan_of planned) (parts_of scope) ss) j r) [
        | inl l ↦ lives j (b.reach j l)
        | inr k ↦ elim (slot_reads planned (parts_of scope) (length scope) ss j slots k) [
          | inl rd ↦ lives j (inl (inl rd))
          | inr lt ↦ (sources_stay (old sites) (new sites) planned.sources (g.taken sites) b.grew.still (g.sources sites) j lt).0
        ]
      ]

  slots_length : (ss : List Slot) → AreSlotsIn (length scope) planned.sources ss → AreSlotsIn (length (parts_of scope)) planned.sources ss
  slots_length ss h = subst (λ (k : ℕ). AreSlotsIn k planned.sources ss) (sym (length-map scope part_of)) h

  pub handler_first : (e : Low) (k : Handler) (es : List Low) (id : KernId) (ss : List Slot) → out-Low e ≡ Low-F.Handler k es id ss → MayBuild 2000 planned n x old was (parts_of scope) (IsReady planned (length scope) e)
      → MayBuild 2000 planned n x old was (parts_of scope) (AreReady planned (length scope) es)
  handler_first e k es id ss o m = record { levels = m.levels; plan = m.plan; ground = m.ground; fits = in_handler (IsReadyAt planned.table planned.sources) (length scope) e k es id ss o m.fits }

  pub loop_first : (e : Low) (k : Loop) (es : List Low) (id : KernId) (ss : List Slot) → out-Low e ≡ Low-F.Loop k es id ss → MayBuild 2000 planned n x old was (parts_of scope) (IsReady planned (length scope) e)
      → MayBuild 2000 planned n x old was (parts_of scope) (AreReady planned (length scope) es)
  loop_first e k es id ss o m = record { levels = m.levels; plan = m.plan; ground = m.ground; fits = in_loop (IsReadyAt planned.table planned.sources) (length scope) e k es id ss o m.fits }

  kernel_within : (ks : List Kernel) (i : ℕ) (k : Kernel) → slice_get ks i ≡ Some k → i < length ks
  kernel_within [] i k found = absurd cc
  kernel_within (o ∷ ks) zero k found = omega arith
  kernel_within (o ∷ ks) (suc i) k found = let lt = kernel_within ks i k found in omega arith

  -- what the expression names is in scope, and the kernel that it names is there
  pub names_in : (e : Low) (l : Low-F Low) → out-Low e ≡ l → IsReady planned (length scope) e → NamesInScope (length scope) planned.sources l
  names_in e l o ready = subst (NamesInScope (length scope) planned.sources) o (at_itself (IsReadyAt planned.table planned.sources) (record { variables = length scope; expr = e }) ready).names

  fits_in : (e : Low) (l : Low-F Low) → out-Low e ≡ l → IsReady planned (length scope) e → FitsIfNamed planned.table.kernels (length scope) (named_in l)
  fits_in e l o ready = subst (λ (k : Low-F Low). FitsIfNamed planned.table.kernels (length scope) (named_in k)) o (at_itself (IsReadyAt planned.table planned.sources) (record { variables = length scope; expr = e }) ready).sound.fits

  pub handler_kernel : (e : Low) (k : Handler) (es : List Low) (id : KernId) (ss : List Slot) → out-Low e ≡ Low-F.Handler k es id ss → IsReady planned (length scope) e → id.0 < length planned.table.kernels
  handler_kernel e k es id ss o ready = let f = fits_in e (Low-F.Handler k es id ss) o ready in kernel_within planned.table.kernels id.0 f.kernel f.stands

  pub loop_kernel : (e : Low) (k : Loop) (es : List Low) (id : KernId) (ss : List Slot) → out-Low e ≡ Low-F.Loop k es id ss → IsReady planned (length scope) e → id.0 < length planned.table.kernels
  loop_kernel e k es id ss o ready = let f = fits_in e (Low-F.Loop k es id ss) o ready in kernel_within planned.table.kernels id.0 f.kernel f.stands

  pub region_kernel : (e : Low) (id : KernId) (ss : List Slot) → out-Low e ≡ Low-F.Collapse id ss → IsReady planned (length scope) e → id.0 < length planned.table.kernels
  region_kernel e id ss o ready = let f = fits_in e (Low-F.Collapse id ss) o ready in kernel_within planned.table.kernels id.0 f.kernel f.stands

  -- the parts and slots of a form are there, with what was in scope after its parts
  pub slotted_there : (es : List Low) (parts : List Held) (ss : List Slot) → AreSlotsIn (length scope) planned.sources ss → IsGround old was x (parts_of scope) planned.sources
      → PartsMade planned x n es scope after old new was now parts → (sites : Sites) → AreThere (new sites) (parts_of parts ++ slot_parts (plan_of planned) (parts_of after) ss)
  slotted_there es parts ss slots g f sites =
      subst (λ (l : List Held). AreThere (new sites) (parts_of parts ++ slot_parts (plan_of planned) (parts_of l) ss)) (sym f.env) (with_ground es parts ss slots g f sites)

  pub handler_done : (e : Low) (k : Handler) (es : List Low) (id : KernId) (ss : List Slot) (parts : List Held) (last : Sites → Way) (ends : ℕ → Bool) (held : Held) → out-Low e ≡ Low-F.Handler k es id ss
      → MayBuild 2000 planned n x old was (parts_of scope) (IsReady planned (length scope) e) → PartsMade planned x n es scope after old new was now parts → ((y : ℕ) → ends y ≡ now y)
      → ((sites : Sites) → BuildsWork (new sites) (last sites) planned x n (handles k id.0) (parts_of parts ++ slot_parts (plan_of planned) (parts_of after) ss) (part_of held))
      → ExprMade planned x (suc n) e scope after old last was ends held
  handler_done e k es id ss parts last ends held o m f eras work = record {
    env = f.env;
    eras = λ y. eras y ∙ f.eras y;
    builds = λ sites.
        handler_built sites planned x (old sites) (new sites) (last sites) (parts_of scope) (m.ground.taken sites) (m.ground.scope sites) (m.ground.sources sites) ss (slots_length ss (names_in e (Low-F.Handler k es id ss) o m.fits))
        n e k es id (parts_of parts) (part_of held) o (f.builds sites)
        (subst (λ (l : List Held). BuildsWork (new sites) (last sites) planned x n (handles k id.0) (parts_of parts ++ slot_parts (plan_of planned) (parts_of l) ss) (part_of held)) f.env (work sites));
  }

  pub loop_done : (e : Low) (k : Loop) (es : List Low) (id : KernId) (ss : List Slot) (parts : List Held) (last : Sites → Way) (ends : ℕ → Bool) (held : Held) → out-Low e ≡ Low-F.Loop k es id ss
      → MayBuild 2000 planned n x old was (parts_of scope) (IsReady planned (length scope) e) → PartsMade planned x n es scope after old new was now parts → ((y : ℕ) → ends y ≡ now y)
      → ((sites : Sites) → BuildsWork (new sites) (last sites) planned x n (loops k id.0) (parts_of parts ++ slot_parts (plan_of planned) (parts_of after) ss) (part_of held))
      → ExprMade planned x (suc n) e scope after old last was ends held
  loop_done e k es id ss parts last ends held o m f eras work = record {
    env = f.env;
    eras = λ y. eras y ∙ f.eras y;
    builds = λ sites.
        loop_built sites planned x (old sites) (new sites) (last sites) (parts_of scope) (m.ground.taken sites) (m.ground.scope sites) (m.ground.sources sites) ss (slots_length ss (names_in e (Low-F.Loop k es id ss) o m.fits))
        n e k es id (parts_of parts) (part_of held) o (f.builds sites)
        (subst (λ (l : List Held). BuildsWork (new sites) (last sites) planned x n (loops k id.0) (parts_of parts ++ slot_parts (plan_of planned) (parts_of l) ss) (part_of held)) f.env (work sites));
  }

  pub handler_out : (e : Low) (k : Handler) (es : List Low) (id : KernId) (ss : List Slot) (parts : List Held) (s : BuildStop) → out-Low e ≡ Low-F.Handler k es id ss → PartsMade planned x n es scope after old new was now parts
      → WorkStops planned n (handles k id.0) (parts_of parts ++ slot_parts (plan_of planned) (parts_of after) ss) s → ExprStops planned (suc n) e (parts_of scope) s
  handler_out e k es id ss parts s o f h =
      let built = f.builds (no_sites e) in
      handler_stop planned n (parts_of scope) s e k es id ss (parts_of parts) built.added o built.placed
      (subst (λ (l : List Held). WorkStops planned n (handles k id.0) (parts_of parts ++ slot_parts (plan_of planned) (parts_of l) ss) s) f.env h)

  pub loop_out : (e : Low) (k : Loop) (es : List Low) (id : KernId) (ss : List Slot) (parts : List Held) (s : BuildStop) → out-Low e ≡ Low-F.Loop k es id ss → PartsMade planned x n es scope after old new was now parts
      → WorkStops planned n (loops k id.0) (parts_of parts ++ slot_parts (plan_of planned) (parts_of after) ss) s → ExprStops planned (suc n) e (parts_of scope) s
  loop_out e k es id ss parts s o f h =
      let built = f.builds (no_sites e) in
      loop_stop planned n (parts_of scope) s e k es id ss (parts_of parts) built.added o built.placed
      (subst (λ (l : List Held). WorkStops planned n (loops k id.0) (parts_of parts ++ slot_parts (plan_of planned) (parts_of l) ss) s) f.env h)

  pub region_there : (ss : List Slot) → AreSlotsIn (length scope) planned.sources ss → IsGround old was x (parts_of scope) planned.sources → (sites : Sites) → AreThere (old sites) (slot_parts (plan_of planned) (parts_of scope) ss)
  region_there ss slots g sites j r = elim (slot_reads planned (parts_of scope) (length scope) ss j slots r) [
    | inl rd ↦ g.scope sites j rd
    | inr lt ↦ (g.sources sites j lt).0
  ]

  pub region_done : (e : Low) (id : KernId) (ss : List Slot) (held : Held) → out-Low e ≡ Low-F.Collapse id ss → MayBuild 2001 planned (suc n) x old was (parts_of scope) (IsReady planned (length scope) e) → ((y : ℕ) → now y ≡ was y)
      → ((sites : Sites) → BuildsWork (old sites) (new sites) planned x n (runs id.0) (slot_parts (plan_of planned) (parts_of scope) ss) (part_of held)) → ExprMade planned x (suc n) e scope scope old new was now held
  region_done e id ss held o m eras work = record {
    env = refl;
    eras = eras;
    builds = λ sites.
        region_built sites planned x (old sites) (new sites) (parts_of scope) (m.ground.taken sites) (m.ground.scope sites) n e id ss (part_of held) (m.ground.sources sites)
        (slots_length ss (names_in e (Low-F.Collapse id ss) o m.fits)) o (work sites);
  }

  pub region_outcome : (e : Low) (id : KernId) (ss : List Slot) (inner : List Held) (slots : List Slot) (r : Result Held BuildStop) → out-Low e ≡ Low-F.Collapse id ss
      → MayBuild 2001 planned (suc n) x old was (parts_of scope) (IsReady planned (length scope) e) → inner ≡ scope → slots ≡ ss → ((y : ℕ) → now y ≡ was y)
      → IfOk r (λ held. (sites : Sites) → BuildsWork (old sites) (new sites) planned x n (runs id.0) (slot_parts (plan_of planned) (parts_of inner) slots) (part_of held))
      → IfErr r (λ s. WorkStops planned n (runs id.0) (slot_parts (plan_of planned) (parts_of inner) slots) s) → ExprOutcome planned x (suc n) e scope scope old new was now r
  region_outcome e id ss inner slots (Ok held) o m same alike eras made stops =
      region_done e id ss held o m eras
      (subst (λ (l : List Slot). (sites : Sites) → BuildsWork (old sites) (new sites) planned x n (runs id.0) (slot_parts (plan_of planned) (parts_of scope) l) (part_of held)) alike
      (subst (λ (l : List Held). (sites : Sites) → BuildsWork (old sites) (new sites) planned x n (runs id.0) (slot_parts (plan_of planned) (parts_of l) slots) (part_of held)) same made))
  region_outcome e id ss inner slots (Err s) o m same alike eras made stops =
      region_stop planned n (parts_of scope) s e id ss o
      (subst (λ (l : List Slot). WorkStops planned n (runs id.0) (slot_parts (plan_of planned) (parts_of scope) l) s) alike
      (subst (λ (l : List Held). WorkStops planned n (runs id.0) (slot_parts (plan_of planned) (parts_of l) slots) s) same stops))

  -- THE LEAVES
  pub literal_done : (e : Low) (v : Value) → out-Low e ≡ Low-F.Lit v → MayBuild 2001 planned (suc n) x old was (parts_of scope) (IsReady planned (length scope) e) → ExprMade planned x (suc n) e scope scope old old was was (Steady v)
  literal_done e v o m = record {
    env = refl;
    eras = λ y. refl;
    builds = λ sites. literal_built sites planned x (old sites) (parts_of scope) (m.ground.taken sites) (m.ground.scope sites) n e v o;
  }

  pub variable_done : (e : Low) (v : VarId) (held : Held) → out-Low e ≡ Low-F.Var v → MayBuild 2001 planned (suc n) x old was (parts_of scope) (IsReady planned (length scope) e) → slice_get (parts_of scope) v.0 ≡ Some (part_of held)
      → ExprMade planned x (suc n) e scope scope old old was was held
  variable_done e v held o m found = record {
    env = refl;
    eras = λ y. refl;
    builds = λ sites.
        variable_built sites planned x (old sites) (parts_of scope) (m.ground.taken sites) (m.ground.scope sites) n e v (part_of held) o
        (subst (λ (k : ℕ). v.0 < k) (sym (length-map scope part_of)) (names_in e (Low-F.Var v) o m.fits)) found;
  }

  pub source_done : (e : Low) (s : SrcId) (id : NodeId) → out-Low e ≡ Low-F.Source s → id.0 ≡ s.0 → MayBuild 2001 planned (suc n) x old was (parts_of scope) (IsReady planned (length scope) e)
      → ExprMade planned x (suc n) e scope scope old old was was (Signal id)
  source_done e s id o same m = record {
    env = refl;
    eras = λ y. refl;
    builds = λ sites.
        subst (λ (k : ℕ). BuildsExpr sites (old sites) (old sites) planned x (suc n) e (parts_of scope) (signal k)) (sym same)
        (source_built sites planned x (old sites) (parts_of scope) (m.ground.taken sites) (m.ground.scope sites) n e s o (m.ground.sources sites) (names_in e (Low-F.Source s) o m.fits));
  }

  -- A FEEDBACK
  pub feed_first : (e init body : Low) → out-Low e ≡ Low-F.Feedback init body → MayBuild 2000 planned n x old was (parts_of scope) (IsReady planned (length scope) e) → MayBuild 2001 planned n x old was (parts_of scope) (IsReady planned (length scope) init)
  feed_first e init body o m = record {
    levels = let le : n ≤ 2000 = m.levels in omega arith;
    plan = m.plan;
    ground = m.ground;
    fits = (in_feedback (IsReadyAt planned.table planned.sources) (length scope) e init body o m.fits).0;
  }

  pub base_there : (e : Low) (held : Held) → IsGround old was x (parts_of scope) planned.sources → ExprMade planned x n e scope after old new was now held → (sites : Sites) → AreThere (new sites) (part_of held ∷ [])
  base_there e held g f = (ground_one e held (part_of held ∷ []) g f (λ j r. inr r)).scope

  part_calm : (held : Held) → AreCalm (part_of held ∷ [])
  part_calm (Steady v) = (refl, tt)
  part_calm (Signal id) = tt

  module _ (e init body : Low) (held : Held) (name : NodeId) (level : ℕ) (o : out-Low e ≡ Low-F.Feedback init body) (m : MayBuild 2000 planned n x old was (parts_of scope) (IsReady planned (length scope) e))
      (f : ExprMade planned x n init scope after old new was now held) (two : Sites → Way) (held_eras : ℕ → Bool) (eras : (y : ℕ) → held_eras y ≡ now y) (same_level : level ≡ n)
      (makes : (sites : Sites) → Makes (new sites) (two sites) name.0 x level (works feeds) (part_of held ∷ [])) (inner : List Held) (same : inner ≡ after ++ Signal name ∷ []) where
    on_level : (sites : Sites) → Makes (new sites) (two sites) name.0 x n (works feeds) (part_of held ∷ [])
    on_level sites = subst (λ (k : ℕ). Makes (new sites) (two sites) name.0 x k (works feeds) (part_of held ∷ [])) same_level (makes sites)

    live_new : (sites : Sites) → LiveAreTaken (new sites)
    live_new sites = let b = f.builds sites in grew_live (old sites) (new sites) x (parts_of scope) b.added (m.ground.taken sites) b.grew

    made : (sites : Sites) → Grew (new sites) (two sites) x (part_of held ∷ []) (name.0 ∷ [])
    made sites = made_grew (new sites) (two sites) name.0 x n feeds (part_of held ∷ []) (live_new sites) (base_there init held m.ground f sites) (part_calm held) (on_level sites)

    all_parts : parts_of inner ≡ parts_of scope ++ signal name.0 ∷ []
    all_parts = inner_parts scope after (Signal name ∷ []) inner f.env same

    inner_there : (sites : Sites) → AreThere (two sites) (parts_of inner)
    inner_there sites j r = elim (reads_append (parts_of scope) (signal name.0 ∷ []) j (subst (Reads j) all_parts r)) [
      | inl l ↦
          let b = f.builds sites in
          let lives = reach_lives (old sites) (new sites) x (parts_of scope) b.added (m.ground.taken sites) (m.ground.scope sites) b.grew j (inl (inl l)) in
          ((made sites).still j (live_new sites j lives)).live ∙ lives
      | inr k ↦ elim k [ inl q ↦ subst (λ (i : ℕ). (two sites).graph.live i ≡ true) q (makes sites).made.live | inr none ↦ absurd none ]
    ]

    pub feed_then : MayBuild 2001 planned n x two held_eras (parts_of inner) (IsReady planned (length inner) body)
    feed_then = record {
      levels = let le : n ≤ 2000 = m.levels in omega arith;
      plan = m.plan;
      ground = record {
        era = eras x ∙ f.eras x ∙ m.ground.era;
        taken = λ sites. grew_live (new sites) (two sites) x (part_of held ∷ []) (name.0 ∷ []) (live_new sites) (made sites);
        scope = inner_there;
        sources = λ sites. sources_stay (new sites) (two sites) planned.sources (live_new sites) (made sites).still (sources_stay (old sites) (new sites) planned.sources (m.ground.taken sites) (f.builds sites).grew.still (m.ground.sources sites));
      };
      fits =
          subst (λ (k : ℕ). IsReady planned k body) (sym (ap length (same ∙ ap (λ (l : List Held). l ++ Signal name ∷ []) f.env) ∙ length-append scope (Signal name ∷ [])))
          (in_feedback (IsReadyAt planned.table planned.sources) (length scope) e init body o m.fits).1;
    }

    pub feed_out : (s : BuildStop) → ExprStops planned n body (parts_of inner) s → ExprStops planned (suc n) e (parts_of scope) s
    feed_out s h =
        let built = f.builds (no_sites e) in
        fed_stop planned n (parts_of scope) s e init body (part_of held) name.0 built.added o built.placed (subst (λ (ps : List Part). ExprStops planned n body ps s) all_parts h)

    -- the name's node lives on
    pub name_lives : (behind : List Held) (three : Sites → Way) (ends : ℕ → Bool) (last : Held) → ExprMade planned x n body inner behind two three held_eras ends last → (sites : Sites) → (three sites).graph.live name.0 ≡ true
    name_lives behind three ends last h sites = ((h.builds sites).grew.still name.0 (makes sites).made.taken).live ∙ (makes sites).made.live

    pub feed_done : (behind final : List Held) (three four : Sites → Way) (ends tied : ℕ → Bool) (last : Held) (outer : ℕ) → ExprMade planned x n body inner behind two three held_eras ends last → outer ≡ length after → final ≡ take outer behind
        → ((y : ℕ) → tied y ≡ ends y) → ((sites : Sites) → Ties (three sites) (four sites) name.0 (part_of last)) → ExprMade planned x (suc n) e scope final old four was tied last
    feed_done behind final three four ends tied last outer h many cut stays ties = record {
      env = cut_back scope after (Signal name ∷ []) inner behind final outer f.env same h.env many cut;
      eras = λ y. stays y ∙ h.eras y ∙ eras y ∙ f.eras y;
      builds = λ sites.
          feedback_built sites planned x n (old sites) (new sites) (two sites) (three sites) (four sites) (parts_of scope) (m.ground.taken sites) (m.ground.scope sites) init body (part_of held) (part_of last) name.0 (f.builds sites)
          (base_there init held m.ground f sites) (part_calm held) (on_level sites)
          (subst (λ (ps : List Part). BuildsExpr sites (two sites) (three sites) planned x n body ps (part_of last)) all_parts (h.builds sites)) (ties sites) e o;
    }
