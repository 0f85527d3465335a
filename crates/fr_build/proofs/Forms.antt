-- What is built for each form of what is built for its parts.
use Rattle.std.proofs.Common.{◌≡◌, inl, inr, ℕ, suc, ◌+◌, ◌<◌, true, false, List, [], ◌∷◌, ◌++◌, length, slice_get, Option, Some, Ok, ap, sym, ◌∙◌, subst, length-append}
use Rattle.fr_value.specs.declared.value.Value.{Value}
use Rattle.fr_value.specs.declared.ids.FunId.{FunId}
use Rattle.fr_value.specs.declared.ids.KernId.{KernId}
use Rattle.fr_value.specs.declared.ids.SiteId.{SiteId}
use Rattle.fr_value.specs.declared.ids.SrcId.{SrcId}
use Rattle.fr_value.specs.declared.ids.VarId.{VarId}
use Rattle.fr_core.specs.declared.core_form.Operator.{Operator}
use Rattle.fr_core.specs.declared.core_form.Handler.{Handler}
use Rattle.fr_core.specs.declared.core_form.Loop.{Loop}
use Rattle.fr_core.specs.declared.lowered.Low.{Low, out-Low}
use Rattle.fr_core.specs.declared.lowered.Low.TheOpen.{Low-F}
use Rattle.fr_core.specs.declared.lowered.Slot.{Slot}
use Rattle.fr_meaning.specs.Words.{Seen, plain, test_of}
use Rattle.fr_kernel.specs.Erasure.{Place}
use Rattle.fr_graph.specs.Graph.{Part, steady, signal, operates, handles, loops, source}
use Rattle.fr_graph.specs.Walk.{Plan, Walk, Placed, AllPlaced, place_all, place_work, place_chosen, place_switch, variable_part, slot_parts, low_body, place_call, place_shape, place}
use Rattle.fr_graph.specs.Wired.{WorkStands, SlotsStand, AllStand, Chosen, SwitchStands, CallStands, ShapeStands, Wired}
use Rattle.fr_graph.specs.Known.{Reads}
use Rattle.fr_graph.proofs.Inside.{all_length}
use Rattle.fr_way.specs.Frame.{is_source, is_watch}
use Rattle.fr_way.specs.Way.{Way}
use Rattle.fr_nodes.specs.Kinds.{Sites}
use Rattle.fr_nodes.specs.Makes.{AreThere}
use Rattle.fr_build.specs.Ready.{Planned, plan_of, LiveAreTaken, AreSlotsIn, HasChoices, Matches, AllMatch, PlanMatches}
use Rattle.fr_build.specs.Builds.{InReach, NamesNoWatch, Grew, StandsBy, BuildsExpr, BuildsParts, BuildsWork}
use Rattle.fr_build.proofs.Grown.{grew_none, grew_live}
use Rattle.fr_build.proofs.Stand.{wired_on, all_on}
use Rattle.fr_build.proofs.Inner.{in_let, in_if, in_apply, in_operator, in_handler, in_loop, in_body}
use Rattle.fr_build.proofs.Seq.{reads_append, slot_reads, SourcesAre, slots_stand, sources_stay, env_stays, variable_reads, one_reads, behind, alike, source_on}

-- what is to be so at each place
abbrev pub chosen_at : Sites → Place → Type 0
chosen_at sites s = HasChoices sites (out-Low s.expr)

-- THE LEAVES
module _ (sites : Sites) (planned : Planned) (x : ℕ) (at : Way) (env : List Part) (live : LiveAreTaken at) (given : AreThere at env) where
  leaf : (n : ℕ) (e : Low) (part : Part) → ((j : ℕ) → part ≡ signal j → InReach at.graph env [] j) → (NamesNoWatch at.graph env → NamesNoWatch at.graph (part ∷ []))
      → ((ms : List ℕ) → place (plan_of planned) n e env ms ≡ record { part = part; left = ms }) → ((ms : List ℕ) → StandsBy sites planned x n e env at.graph ms) → BuildsExpr sites at at planned x n e env part
  leaf n e part reach watches placed stands = record { added = []; grew = grew_none at live x env; reach = reach; no_watch = watches; placed = placed; stands = stands }

  no_signal : {A : Type 0} (v : Seen) (j : ℕ) → steady v ≡ signal j → A
  no_signal v j e = absurd cc

  pub literal_built : (n : ℕ) (e : Low) (v : Value) → out-Low e ≡ Low-F.Lit v → BuildsExpr sites at at planned x (suc n) e env (steady (plain v))
  unfolding place Wired
  literal_built n e v o =
      leaf (suc n) e (steady (plain v)) (λ j e. no_signal (plain v) j e) (λ none j r. absurd r)
      (λ ms. ap (place_shape (plan_of planned) n (place (plan_of planned) n) env ms) o)
      (λ ms whole matches. subst (ShapeStands at.graph (plan_of planned) x n (place (plan_of planned) n) (Wired at.graph (plan_of planned) x n) env ms) (sym o) tt)

  pub variable_built : (n : ℕ) (e : Low) (v : VarId) (part : Part) → out-Low e ≡ Low-F.Var v → v.0 < length env → slice_get env v.0 ≡ Some part → BuildsExpr sites at at planned x (suc n) e env part
  unfolding place Wired
  variable_built n e v part o lt found =
      let same : variable_part (slice_get env v.0) ≡ part = ap variable_part found in
      let reads : (j : ℕ) → part ≡ signal j → Reads j env = λ j e. variable_reads env v.0 j (one_reads (variable_part (slice_get env v.0)) j (same ∙ e)) in
      leaf (suc n) e part (λ j e. inl (inl (reads j e)))
      (λ none j r. none j (variable_reads env v.0 j (subst (λ (q : Part). Reads j (q ∷ [])) (sym same) r)))
      (λ ms. ap (place_shape (plan_of planned) n (place (plan_of planned) n) env ms) o ∙ ap (λ (q : Part). record { part = q; left = ms }) same)
      (λ ms whole matches. subst (ShapeStands at.graph (plan_of planned) x n (place (plan_of planned) n) (Wired at.graph (plan_of planned) x n) env ms) (sym o) lt)

  pub source_built : (n : ℕ) (e : Low) (s : SrcId) → out-Low e ≡ Low-F.Source s → SourcesAre at planned.sources → s.0 < planned.sources → BuildsExpr sites at at planned x (suc n) e env (signal s.0)
  unfolding place Wired
  source_built n e s o sources lt =
      let there = sources s.0 lt in
      leaf (suc n) e (signal s.0)
      (λ j e. inl (inr (source_lives s.0 j e there)))
      (λ none j r. elim r [ inl e ↦ subst (λ (k : ℕ). is_watch (at.graph.kind k) ≡ false) e (ap is_watch there.1) | inr o ↦ absurd o ])
      (λ ms. ap (place_shape (plan_of planned) n (place (plan_of planned) n) env ms) o)
      (λ ms whole matches. subst (ShapeStands at.graph (plan_of planned) x n (place (plan_of planned) n) (Wired at.graph (plan_of planned) x n) env ms) (sym o) (record { live = there.0; kind = there.1 }))
    where
      source_lives : (i j : ℕ) → signal i ≡ signal j → (at.graph.live i ≡ true) × (at.graph.kind i ≡ source i) → (at.graph.live j ≡ true) × (is_source (at.graph.kind j) ≡ true)
      source_lives i j e t = let same : i ≡ j = cc in subst (λ (k : ℕ). (at.graph.live k ≡ true) × (is_source (at.graph.kind k) ≡ true)) same (t.0, ap is_source t.1)

-- A FORM OVER PARTS THAT WERE BUILT
module _ (sites : Sites) (planned : Planned) (x : ℕ) (at mid new : Way) (env : List Part) (live : LiveAreTaken at) (given : AreThere at env) where
  abbrev p : Plan
  p = plan_of planned

  abbrev walk : ℕ → Walk
  walk n = place (plan_of planned) n

  abbrev In : ℕ → Low → List Part → List ℕ → Type 0
  In n = Wired mid.graph (plan_of planned) x n

  abbrev Out : ℕ → Low → List Part → List ℕ → Type 0
  Out n = Wired new.graph (plan_of planned) x n

  -- the scope with further parts
  both_reach : (a : List ℕ) (parts : List Part) → ((j : ℕ) → Reads j parts → InReach mid.graph env a j) → (j : ℕ) → Reads j (env ++ parts) → InReach mid.graph env a j
  both_reach a parts reach j r = elim (reads_append env parts j r) [ inl l ↦ inl (inl l) | inr k ↦ reach j k ]

  both_watch : (a : List ℕ) (parts : List Part) → Grew at mid x env a → (NamesNoWatch at.graph env → NamesNoWatch mid.graph parts) → NamesNoWatch at.graph env → NamesNoWatch mid.graph (env ++ parts)
  both_watch a parts one watches none j r = elim (reads_append env parts j r) [ inl l ↦ env_stays at mid env live given one.still none j l | inr k ↦ watches none j k ]

  -- parts that were built stand behind further building
  module _ (scope : List Part) (n : ℕ) (es : List Low) (parts : List Part) (f : BuildsParts sites at mid planned x n es env parts)
      (reach : (j : ℕ) → Reads j scope → InReach mid.graph env f.added j) (watches : NamesNoWatch at.graph env → NamesNoWatch mid.graph scope) where
    pub parts_on : (b : List ℕ) → Grew mid new x scope b → (left : List ℕ) → PlanMatches sites planned → AllMatch sites (length env) es → AllStand (walk n) (Out n) env es (f.added ++ left)
    parts_on b two left whole matches =
        all_on mid.graph new.graph p x (source_on at mid new x env scope live given f.added f.grew reach watches p b two) n es env f.added left (ap (λ (q : AllPlaced). q.left) (f.placed left))
        (alike at mid new x env scope live given f.added f.grew reach watches b two) (f.stands left whole matches)

  module _ (scope : List Part) (n : ℕ) (e : Low) (part : Part) (f : BuildsExpr sites at mid planned x n e env part)
      (reach : (j : ℕ) → Reads j scope → InReach mid.graph env f.added j) (watches : NamesNoWatch at.graph env → NamesNoWatch mid.graph scope) where
    pub one_on : (b : List ℕ) → Grew mid new x scope b → (left : List ℕ) → PlanMatches sites planned → Matches sites (length env) e → Out n e env (f.added ++ left)
    one_on b two left whole matches =
        wired_on mid.graph new.graph p x (source_on at mid new x env scope live given f.added f.grew reach watches p b two) n e env f.added left (ap (λ (q : Placed). q.left) (f.placed left))
        (alike at mid new x env scope live given f.added f.grew reach watches b two) (f.stands left whole matches)

  -- as many parts as expressions
  pub parts_length : (n : ℕ) (es : List Low) (parts : List Part) → BuildsParts sites at mid planned x n es env parts → length parts ≡ length es
  parts_length n es parts f = sym (ap (λ (q : AllPlaced). length q.parts) (f.placed [])) ∙ all_length (walk n) env es (f.added ++ [])

  scope_length : (n : ℕ) (es : List Low) (parts : List Part) → BuildsParts sites at mid planned x n es env parts → length env + length es ≡ length (env ++ parts)
  scope_length n es parts f = ap (λ (k : ℕ). length env + k) (sym (parts_length n es parts f)) ∙ sym (length-append env parts)

  pub let_built : (n : ℕ) (e : Low) (es : List Low) (body : Low) (parts : List Part) (part : Part) → out-Low e ≡ Low-F.Let es body → BuildsParts sites at mid planned x n es env parts
      → BuildsExpr sites mid new planned x n body (env ++ parts) part → BuildsExpr sites at new planned x (suc n) e env part
  unfolding place Wired
  let_built n e es body parts part o f s =
      let reach = both_reach f.added parts f.reach in
      let watches = both_watch f.added parts f.grew f.no_watch in
      behind at mid new x env (env ++ parts) live given f.added f.grew reach watches (walk n body (env ++ parts)) (StandsBy sites planned x n body (env ++ parts)) part s (walk (suc n) e env) (StandsBy sites planned x (suc n) e env)
      (λ left. ap (place_shape p n (walk n) env (f.added ++ (s.added ++ left))) o ∙ ap (λ (q : AllPlaced). walk n body (env ++ q.parts) q.left) (f.placed (s.added ++ left)) ∙ s.placed left)
      (λ left whole matches.
      let inner = in_let (chosen_at sites) (length env) e es body o matches in
      let over = subst (λ (k : ℕ). Matches sites k body) (scope_length n es parts f) inner.1 in
      subst (ShapeStands new.graph p x n (walk n) (Out n) env (f.added ++ (s.added ++ left))) (sym o) (
        parts_on (env ++ parts) n es parts f reach watches s.added s.grew (s.added ++ left) whole inner.0,
        subst (λ (q : AllPlaced). Out n body (env ++ q.parts) q.left) (sym (f.placed (s.added ++ left))) (s.stands left whole over),
      ))

  pub call_built : (n : ℕ) (e : Low) (i : FunId) (es : List Low) (body : Low) (parts : List Part) (part : Part) → out-Low e ≡ Low-F.Apply i es → low_body (slice_get planned.functions i.0) (length es) ≡ Some body
      → BuildsParts sites at mid planned x n es env parts → BuildsExpr sites mid new planned x n body parts part → BuildsExpr sites at new planned x (suc n) e env part
  unfolding place Wired
  call_built n e i es body parts part o found f s =
      behind at mid new x env parts live given f.added f.grew f.reach f.no_watch (walk n body parts) (StandsBy sites planned x n body parts) part s (walk (suc n) e env) (StandsBy sites planned x (suc n) e env)
      (λ left.
      ap (place_shape p n (walk n) env (f.added ++ (s.added ++ left))) o
      ∙ ap (λ (c : Option Low). place_call (walk n) c (place_all (walk n) env es (f.added ++ (s.added ++ left)))) found
      ∙ ap (λ (q : AllPlaced). walk n body q.parts q.left) (f.placed (s.added ++ left)) ∙ s.placed left)
      (λ left whole matches.
      let inner = in_apply (chosen_at sites) (length env) e i es o matches in
      let fits = in_body (chosen_at sites) (slice_get planned.functions i.0) (length es) body (λ fn there. whole.bodies i.0 fn there) found in
      let over = subst (λ (k : ℕ). Matches sites k body) (sym (parts_length n es parts f)) fits in
      subst (ShapeStands new.graph p x n (walk n) (Out n) env (f.added ++ (s.added ++ left))) (sym o) (
        parts_on parts n es parts f f.reach f.no_watch s.added s.grew (s.added ++ left) whole inner,
        subst (λ (c : Option Low). CallStands (Out n) c (place_all (walk n) env es (f.added ++ (s.added ++ left)))) (sym found)
            (subst (λ (q : AllPlaced). Out n body q.parts q.left) (sym (f.placed (s.added ++ left))) (s.stands left whole over)),
      ))

  pub operator_built : (n : ℕ) (e : Low) (k : Operator) (es : List Low) (parts : List Part) (part : Part) → out-Low e ≡ Low-F.Operator k es → BuildsParts sites at mid planned x n es env parts
      → BuildsWork mid new planned x n (operates k) parts part → BuildsExpr sites at new planned x (suc n) e env part
  unfolding place Wired
  operator_built n e k es parts part o f s =
      behind at mid new x env parts live given f.added f.grew f.reach f.no_watch (place_work p n (operates k) parts) (λ g ms. WorkStands g p x n (operates k) parts ms) part s (walk (suc n) e env) (StandsBy sites planned x (suc n) e env)
      (λ left. ap (place_shape p n (walk n) env (f.added ++ (s.added ++ left))) o ∙ ap (λ (q : AllPlaced). place_work p n (operates k) q.parts q.left) (f.placed (s.added ++ left)) ∙ s.placed left)
      (λ left whole matches.
      let inner = in_operator (chosen_at sites) (length env) e k es o matches in
      subst (ShapeStands new.graph p x n (walk n) (Out n) env (f.added ++ (s.added ++ left))) (sym o) (
        parts_on parts n es parts f f.reach f.no_watch s.added s.grew (s.added ++ left) whole inner,
        subst (λ (q : AllPlaced). WorkStands new.graph p x n (operates k) q.parts q.left) (sym (f.placed (s.added ++ left))) (s.stands left),
      ))

  -- A WORK OVER PARTS AND SLOTS
  module _ (sources : SourcesAre at planned.sources) (ss : List Slot) (slots : AreSlotsIn (length env) planned.sources ss) where
    abbrev slotted : List Part
    slotted = slot_parts (plan_of planned) env ss

    pub slot_reach : (a : List ℕ) → Grew at mid x env a → (j : ℕ) → Reads j (slot_parts (plan_of planned) env ss) → InReach mid.graph env a j
    slot_reach a one j r = elim (slot_reads planned env (length env) ss j slots r) [
      | inl rd ↦ inl (inl rd)
      | inr lt ↦
          let s = sources_stay at mid planned.sources live one.still sources j lt in
          inl (inr (s.0, ap is_source s.1))
    ]

    pub slot_watch : (a : List ℕ) → Grew at mid x env a → NamesNoWatch at.graph env → NamesNoWatch mid.graph (slot_parts (plan_of planned) env ss)
    slot_watch a one none j r = elim (slot_reads planned env (length env) ss j slots r) [
      | inl rd ↦ env_stays at mid env live given one.still none j rd
      | inr lt ↦ ap is_watch (sources_stay at mid planned.sources live one.still sources j lt).1
    ]

    with_reach : (a : List ℕ) → Grew at mid x env a → (parts : List Part) → ((j : ℕ) → Reads j parts → InReach mid.graph env a j) → (j : ℕ) → Reads j (parts ++ slot_parts (plan_of planned) env ss) → InReach mid.graph env a j
    with_reach a one parts reach j r = elim (reads_append parts (slot_parts (plan_of planned) env ss) j r) [ inl l ↦ reach j l | inr k ↦ slot_reach a one j k ]

    with_watch : (a : List ℕ) → Grew at mid x env a → (parts : List Part) → (NamesNoWatch at.graph env → NamesNoWatch mid.graph parts) → NamesNoWatch at.graph env
        → NamesNoWatch mid.graph (parts ++ slot_parts (plan_of planned) env ss)
    with_watch a one parts watches none j r = elim (reads_append parts (slot_parts (plan_of planned) env ss) j r) [ inl l ↦ watches none j l | inr k ↦ slot_watch a one none j k ]

    slots_on : (a b : List ℕ) (scope : List Part) → Grew at mid x env a → Grew mid new x scope b → SlotsStand new.graph (plan_of planned) ss
    slots_on a b scope one two =
        slots_stand new planned (length env) ss (sources_stay mid new planned.sources (grew_live at mid x env a live one) two.still (sources_stay at mid planned.sources live one.still sources)) slots

    pub handler_built : (n : ℕ) (e : Low) (k : Handler) (es : List Low) (id : KernId) (parts : List Part) (part : Part) → out-Low e ≡ Low-F.Handler k es id ss → BuildsParts sites at mid planned x n es env parts
        → BuildsWork mid new planned x n (handles k id.0) (parts ++ slot_parts (plan_of planned) env ss) part → BuildsExpr sites at new planned x (suc n) e env part
    unfolding place Wired
    handler_built n e k es id parts part o f s =
        let all = parts ++ slot_parts (plan_of planned) env ss in
        let w = handles k id.0 in
        let reach = with_reach f.added f.grew parts f.reach in
        let watches = with_watch f.added f.grew parts f.no_watch in
        behind at mid new x env all live given f.added f.grew reach watches (place_work p n w all) (λ g ms. WorkStands g p x n w all ms) part s (walk (suc n) e env) (StandsBy sites planned x (suc n) e env)
        (λ left.
        ap (place_shape p n (walk n) env (f.added ++ (s.added ++ left))) o
        ∙ ap (λ (q : AllPlaced). place_work p n w (q.parts ++ slot_parts (plan_of planned) env ss) q.left) (f.placed (s.added ++ left)) ∙ s.placed left)
        (λ left whole matches.
        let inner = in_handler (chosen_at sites) (length env) e k es id ss o matches in
        subst (ShapeStands new.graph p x n (walk n) (Out n) env (f.added ++ (s.added ++ left))) (sym o) (
          parts_on all n es parts f reach watches s.added s.grew (s.added ++ left) whole inner,
          slots_on f.added s.added all f.grew s.grew,
          subst (λ (q : AllPlaced). WorkStands new.graph p x n w (q.parts ++ slot_parts (plan_of planned) env ss) q.left) (sym (f.placed (s.added ++ left))) (s.stands left),
        ))

    pub loop_built : (n : ℕ) (e : Low) (k : Loop) (es : List Low) (id : KernId) (parts : List Part) (part : Part) → out-Low e ≡ Low-F.Loop k es id ss → BuildsParts sites at mid planned x n es env parts
        → BuildsWork mid new planned x n (loops k id.0) (parts ++ slot_parts (plan_of planned) env ss) part → BuildsExpr sites at new planned x (suc n) e env part
    unfolding place Wired
    loop_built n e k es id parts part o f s =
        let all = parts ++ slot_parts (plan_of planned) env ss in
        let w = loops k id.0 in
        let reach = with_reach f.added f.grew parts f.reach in
        let watches = with_watch f.added f.grew parts f.no_watch in
        behind at mid new x env all live given f.added f.grew reach watches (place_work p n w all) (λ g ms. WorkStands g p x n w all ms) part s (walk (suc n) e env) (StandsBy sites planned x (suc n) e env)
        (λ left.
        ap (place_shape p n (walk n) env (f.added ++ (s.added ++ left))) o
        ∙ ap (λ (q : AllPlaced). place_work p n w (q.parts ++ slot_parts (plan_of planned) env ss) q.left) (f.placed (s.added ++ left)) ∙ s.placed left)
        (λ left whole matches.
        let inner = in_loop (chosen_at sites) (length env) e k es id ss o matches in
        subst (ShapeStands new.graph p x n (walk n) (Out n) env (f.added ++ (s.added ++ left))) (sym o) (
          parts_on all n es parts f reach watches s.added s.grew (s.added ++ left) whole inner,
          slots_on f.added s.added all f.grew s.grew,
          subst (λ (q : AllPlaced). WorkStands new.graph p x n w (q.parts ++ slot_parts (plan_of planned) env ss) q.left) (sym (f.placed (s.added ++ left))) (s.stands left),
        ))

  -- A CHOICE WHOSE TEST NEVER CHANGES
  pub one_reach : (a : List ℕ) (j : ℕ) → Reads j env → InReach mid.graph env a j
  one_reach a j r = inl (inl r)

  pub one_watch : (a : List ℕ) → Grew at mid x env a → NamesNoWatch at.graph env → NamesNoWatch mid.graph env
  one_watch a one = env_stays at mid env live given one.still

  pub yes_built : (n : ℕ) (e : Low) (site : SiteId) (test a b : Low) (v : Seen) (part : Part) → out-Low e ≡ Low-F.If site test a b → test_of v ≡ Ok true → BuildsExpr sites at mid planned x n test env (steady v)
      → BuildsExpr sites mid new planned x n a env part → BuildsExpr sites at new planned x (suc n) e env part
  unfolding place Wired
  yes_built n e site test a b v part o told f s =
      let reach = one_reach f.added in
      let watches = one_watch f.added f.grew in
      behind at mid new x env env live given f.added f.grew reach watches (walk n a env) (StandsBy sites planned x n a env) part s (walk (suc n) e env) (StandsBy sites planned x (suc n) e env)
      (λ left.
      ap (place_shape p n (walk n) env (f.added ++ (s.added ++ left))) o ∙ ap (λ (t : Placed). place_switch (walk n) a b env t.part t.left) (f.placed (s.added ++ left))
      ∙ ap (place_chosen (walk n) a b env (s.added ++ left)) told ∙ s.placed left)
      (λ left whole matches.
      let inner = in_if (chosen_at sites) (length env) e site test a b o matches in
      subst (ShapeStands new.graph p x n (walk n) (Out n) env (f.added ++ (s.added ++ left))) (sym o) (
        one_on env n test (steady v) f reach watches s.added s.grew (s.added ++ left) whole inner.0,
        subst (λ (t : Placed). SwitchStands new.graph x n (Out n) a b env t.part t.left) (sym (f.placed (s.added ++ left)))
            (subst (λ c. Chosen c (Out n a env (s.added ++ left)) (Out n b env (s.added ++ left))) (sym told) (s.stands left whole inner.1)),
      ))

  pub no_built : (n : ℕ) (e : Low) (site : SiteId) (test a b : Low) (v : Seen) (part : Part) → out-Low e ≡ Low-F.If site test a b → test_of v ≡ Ok false → BuildsExpr sites at mid planned x n test env (steady v)
      → BuildsExpr sites mid new planned x n b env part → BuildsExpr sites at new planned x (suc n) e env part
  unfolding place Wired
  no_built n e site test a b v part o told f s =
      let reach = one_reach f.added in
      let watches = one_watch f.added f.grew in
      behind at mid new x env env live given f.added f.grew reach watches (walk n b env) (StandsBy sites planned x n b env) part s (walk (suc n) e env) (StandsBy sites planned x (suc n) e env)
      (λ left.
      ap (place_shape p n (walk n) env (f.added ++ (s.added ++ left))) o ∙ ap (λ (t : Placed). place_switch (walk n) a b env t.part t.left) (f.placed (s.added ++ left))
      ∙ ap (place_chosen (walk n) a b env (s.added ++ left)) told ∙ s.placed left)
      (λ left whole matches.
      let inner = in_if (chosen_at sites) (length env) e site test a b o matches in
      subst (ShapeStands new.graph p x n (walk n) (Out n) env (f.added ++ (s.added ++ left))) (sym o) (
        one_on env n test (steady v) f reach watches s.added s.grew (s.added ++ left) whole inner.0,
        subst (λ (t : Placed). SwitchStands new.graph x n (Out n) a b env t.part t.left) (sym (f.placed (s.added ++ left)))
            (subst (λ c. Chosen c (Out n a env (s.added ++ left)) (Out n b env (s.added ++ left))) (sym told) (s.stands left whole inner.2)),
      ))
