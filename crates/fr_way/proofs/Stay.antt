-- Where the nodes of an era stay, what stands there goes on standing.
use Rattle.std.proofs.Common.{◌≡◌, ◌≢◌, ℕ, zero, suc, Bool, true, false, ◌&&◌, List, [], ◌∷◌, ◌++◌, length, slice_get, refl, ap, sym, ◌∙◌, subst, Option, Some, None, Result, Ok, Err}
use Rattle.fr_value.specs.declared.now.Bad.{Bad}
use Rattle.fr_core.specs.declared.lowered.Low.{Low, out-Low}
use Rattle.fr_core.specs.declared.lowered.Low.TheOpen.{Low-F}
use Rattle.fr_core.specs.declared.lowered.LowItem.{LowItem}
use Rattle.fr_core.specs.declared.lowered.LowItem.TheVariants as low_item
use Rattle.fr_core.specs.declared.lowered.Slot.{Slot}
use Rattle.fr_core.specs.declared.lowered.Slot.TheVariants as slot
use Rattle.fr_meaning.specs.Words.{test_of}
use Rattle.fr_graph.specs.Graph.{Part, steady, signal, Work, operates, handles, loops, runs, feeds, Kind, works, watch, result, Graph, IsClean, work_line, is_plain}
use Rattle.fr_graph.specs.Walk.{Plan, first, rest, Walk, AllPlaced, place_all, all_steady, steady_values, slot_parts, low_body, place}
use Rattle.fr_graph.specs.Wired.{IsNext, AreNext, inputs_of, later_of, Either, WorkStands, IsSource, SlotsStand, AllStand, Chosen, SwitchStands, CallStands, ShapeStands, Wired, EraStands}
use Rattle.fr_graph.specs.Items.{ItemsStand}
use Rattle.fr_way.specs.Frame.{is_watch}
use Rattle.fr_way.specs.Stay.{StaysIn}

works_no_result : (k : Kind) (w : Work) → k ≡ works w → k ≢ result
works_no_result k w e f = cc

watch_no_result : (k : Kind) (a b : Low) (env : List Part) → k ≡ watch a b env → k ≢ result
watch_no_result k a b env e f = cc

module _ (old new : Graph) (p : Plan) (x : ℕ) (stay : StaysIn x old new) where
  pub source_on : (s : ℕ) → IsSource old p s → IsSource new p s
  source_on s st = let on = stay.sources (p.node_of s) s st.live st.kind in record { live = on.0; kind = on.1 }

  pub slots_on : (ss : List Slot) → SlotsStand old p ss → SlotsStand new p ss
  slots_on [] st = tt
  slots_on (slot.Var v ∷ ss) st = slots_on ss st
  slots_on (slot.Source s ∷ ss) st = (source_on s.0 st.0, slots_on ss st.1)

  -- a node that is no result goes on being the next member
  pub next_on : (n : ℕ) (k : Kind) (ins : List Part) (later : Option Part) (ms : List ℕ) → k ≢ result → IsNext old x n k ins later ms → IsNext new x n k ins later ms
  next_on n k ins later ms non st =
      let on = stay.nodes (first ms) st.live st.era in
      record {
        there = st.there;
        live = on.live;
        era = on.era ∙ st.era;
        level = on.level ∙ st.level;
        kind = on.kind ∙ st.kind;
        inputs = on.inputs (λ e. non (sym st.kind ∙ e)) ∙ st.inputs;
        later = on.later ∙ st.later;
      }

  both_on : (n : ℕ) (a b : Low) (env : List Part) (m : ℕ) (ms : List ℕ) → AreNext old x n a b env m ms → AreNext new x n a b env m ms
  both_on n a b env m ms st =
      let w = stay.nodes (first ms) st.watch.live st.watch.era in
      let r = stay.nodes (first (rest ms)) st.live st.era in
      record {
        watch = next_on n (watch a b env) (signal m ∷ []) None ms (watch_no_result (watch a b env) a b env refl) st.watch;
        there = st.there;
        live = r.live;
        era = r.era ∙ st.era;
        kind = r.kind ∙ st.kind;
        result = w.result_of (ap is_watch st.watch.kind) ∙ st.result;
      }

  work_on : (n : ℕ) (w : Work) (ps : List Part) (ms : List ℕ) → WorkStands old p x n w ps ms → WorkStands new p x n w ps ms
  work_on n w ps ms st = by_steady (is_plain w && all_steady ps) st
    where
      by_steady : (b : Bool) → Either b (IsClean (work_line p.table n w None (steady_values ps))) (IsNext old x n (works w) (inputs_of w ps) (later_of w ps) ms)
          → Either b (IsClean (work_line p.table n w None (steady_values ps))) (IsNext new x n (works w) (inputs_of w ps) (later_of w ps) ms)
      by_steady true st = st
      by_steady false st = next_on n (works w) (inputs_of w ps) (later_of w ps) ms (works_no_result (works w) w refl) st

  abbrev pub WiredOnAt : ℕ → Type 0
  WiredOnAt n = (e : Low) (env : List Part) (ms : List ℕ) → Wired old p x n e env ms → Wired new p x n e env ms

  module _ (n : ℕ) (ih : WiredOnAt n) (env : List Part) where
    abbrev walk : Walk
    walk = place p n

    abbrev Was : Low → List Part → List ℕ → Type 0
    Was = Wired old p x n

    abbrev Is : Low → List Part → List ℕ → Type 0
    Is = Wired new p x n

    all_on : (es : List Low) (ms : List ℕ) → AllStand walk Was env es ms → AllStand walk Is env es ms
    all_on [] ms st = tt
    all_on (e ∷ es) ms st = (ih e env ms st.0, all_on es (walk e env ms).left st.1)

    chosen_on : (a b : Low) (ms : List ℕ) (o : Result Bool Bad) → Chosen o (Was a env ms) (Was b env ms) → Chosen o (Is a env ms) (Is b env ms)
    chosen_on a b ms (Err bad) st = absurd st
    chosen_on a b ms (Ok true) st = ih a env ms st
    chosen_on a b ms (Ok false) st = ih b env ms st

    switch_on : (a b : Low) (h : Part) (ms : List ℕ) → SwitchStands old x n Was a b env h ms → SwitchStands new x n Is a b env h ms
    switch_on a b (steady v) ms st = chosen_on a b ms (test_of v) st
    switch_on a b (signal m) ms st = both_on n a b env m ms st

    call_on : (o : Option Low) (qs : AllPlaced) → CallStands Was o qs → CallStands Is o qs
    call_on None qs st = absurd st
    call_on (Some body) qs st = ih body qs.parts qs.left st

    shape_on : (l : Low-F Low) (ms : List ℕ) → ShapeStands old p x n walk Was env ms l → ShapeStands new p x n walk Is env ms l
    shape_on (Low-F.Lit v) ms st = tt
    shape_on (Low-F.Var v) ms st = st
    shape_on (Low-F.Source s) ms st = source_on s.0 st
    shape_on (Low-F.Let es body) ms st = let qs = place_all walk env es ms in (all_on es ms st.0, ih body (env ++ qs.parts) qs.left st.1)
    shape_on (Low-F.If site test a b) ms st = (ih test env ms st.0, switch_on a b (walk test env ms).part (walk test env ms).left st.1)
    shape_on (Low-F.Apply f es) ms st = (all_on es ms st.0, call_on (low_body (slice_get p.functions f.0) (length es)) (place_all walk env es ms) st.1)
    shape_on (Low-F.Operator o es) ms st = let qs = place_all walk env es ms in (all_on es ms st.0, work_on n (operates o) qs.parts qs.left st.1)
    shape_on (Low-F.Handler h es id ss) ms st =
        let qs = place_all walk env es ms in
        (all_on es ms st.0, slots_on ss st.1, work_on n (handles h id.0) (qs.parts ++ slot_parts p env ss) qs.left st.2)
    shape_on (Low-F.Loop l es id ss) ms st =
        let qs = place_all walk env es ms in
        (all_on es ms st.0, slots_on ss st.1, work_on n (loops l id.0) (qs.parts ++ slot_parts p env ss) qs.left st.2)
    shape_on (Low-F.Feedback init body) ms st =
        let i = walk init env ms in
        let inside = env ++ signal (first i.left) ∷ [] in (
          ih init env ms st.0,
          ih body inside (rest i.left) st.1,
          next_on n (works feeds) (i.part ∷ []) (Some (walk body inside (rest i.left)).part) i.left (works_no_result (works feeds) feeds refl) st.2,
        )
    shape_on (Low-F.Collapse id ss) ms st = (slots_on ss st.0, work_on n (runs id.0) (slot_parts p env ss) ms st.1)

  -- THE FRAME. An expression that stands in an era goes on standing there where the nodes of that era stay.
  pub wired_on : (n : ℕ) → WiredOnAt n
  unfolding place Wired
  wired_on zero e env ms st = absurd st
  wired_on (suc n) e env ms st = shape_on n (wired_on n) env (out-Low e) ms st

  -- so do items
  pub items_on : (n : ℕ) (is : List LowItem) (env : List Part) (ms : List ℕ) → ItemsStand (place p n) (Wired old p x n) env is ms → ItemsStand (place p n) (Wired new p x n) env is ms
  items_on n [] env ms st = tt
  items_on n (low_item.Define e ∷ is) env ms st = let r = place p n e env ms in (wired_on n e env ms st.0, items_on n is (env ++ r.part ∷ []) r.left st.1)
  items_on n (low_item.Show name e ∷ is) env ms st = let r = place p n e env ms in (wired_on n e env ms st.0, items_on n is env r.left st.1)

-- and the era of a watch, where its members are the same, and its result reads the same
pub era_on : (old new : Graph) (p : Plan) (w : ℕ) (e : Low) (env : List Part) → StaysIn (suc w) old new → new.members (suc w) ≡ old.members (suc w) → new.level w ≡ old.level w
    → new.inputs (new.result_of w) ≡ old.inputs (old.result_of w) → EraStands old p w e env → EraStands new p w e env
era_on old new p w e env stay members level input st = record {
  wired = subst (λ n. Wired new p (suc w) n e env (new.members (suc w))) (sym level)
      (subst (λ ms. Wired new p (suc w) (old.level w) e env ms) (sym members) (wired_on old new p (suc w) stay (old.level w) e env (old.members (suc w)) st.wired));
  all = ap (λ n. (place p n e env (new.members (suc w))).left) level ∙ ap (λ ms. (place p (old.level w) e env ms).left) members ∙ st.all;
  input = input ∙ st.input ∙ ap (λ ms. (place p (old.level w) e env ms).part ∷ []) (sym members) ∙ ap (λ n. (place p n e env (new.members (suc w))).part ∷ []) (sym level);
}

-- and the era of the choice that was made
pub eras_on : (old new : Graph) (p : Plan) (w : ℕ) (a b : Low) (env : List Part) (o : Result Bool Bad) → StaysIn (suc w) old new → new.members (suc w) ≡ old.members (suc w) → new.level w ≡ old.level w
    → new.inputs (new.result_of w) ≡ old.inputs (old.result_of w) → Chosen o (EraStands old p w a env) (EraStands old p w b env) → Chosen o (EraStands new p w a env) (EraStands new p w b env)
eras_on old new p w a b env (Err bad) stay members level input st = absurd st
eras_on old new p w a b env (Ok true) stay members level input st = era_on old new p w a env stay members level input st
eras_on old new p w a b env (Ok false) stay members level input st = era_on old new p w b env stay members level input st
