-- A graph that was buried stands for the same kept trees, and shows the same.
use Rattle.std.proofs.Common.{◌≡◌, ℕ, zero, suc, ◌+◌, Bool, true, false, List, [], ◌∷◌, ◌++◌, length, slice_get, refl, ap, sym, ◌∙◌, subst, Option, Some, None, Result, Ok, Err}
use Rattle.fr_value.specs.declared.now.Bad.{Bad}
use Rattle.fr_value.specs.declared.now.Now.{Now}
use Rattle.fr_core.specs.declared.core_form.Operator.{Operator}
use Rattle.fr_core.specs.declared.kept.Key.TheVariants as key
use Rattle.fr_core.specs.declared.kept.Kept.{Kept}
use Rattle.fr_core.specs.declared.kept.Kept.TheVariants as kept
use Rattle.fr_core.specs.declared.lowered.Low.{Low, out-Low}
use Rattle.fr_core.specs.declared.lowered.Low.TheOpen.{Low-F}
use Rattle.fr_core.specs.declared.lowered.LowItem.{LowItem}
use Rattle.fr_core.specs.declared.lowered.LowItem.TheVariants as low_item
use Rattle.fr_core.specs.declared.program.Program.{Program}
use Rattle.fr_meaning.specs.Words.{test_of}
use Rattle.fr_meaning.specs.Cells.{child, under_key}
use Rattle.fr_meaning.specs.States.{StateForm, of_operator, of_handler, of_feedback}
use Rattle.fr_meaning.specs.Evaluation.{behind_cell}
use Rattle.fr_meaning.specs.Afresh.{body}
use Rattle.fr_graph.specs.Graph.{Part, steady, signal, operates, handles, Graph, is_plain}
use Rattle.fr_graph.specs.Walk.{Plan, first, rest, Walk, AllPlaced, place_all, low_body, place}
use Rattle.fr_graph.specs.Wired.{Unless, WorkStands, AllStand, Chosen, SwitchStands, CallStands, ShapeStands, Wired, EraStands}
use Rattle.fr_graph.specs.Keeps.{Asked, AllKeep, SwitchKeeps, CallKeeps, CellKeeps, ShapeKeeps, Keeps, everything, HasKey, StandsFor}
use Rattle.fr_graph.specs.Known.{ErasStandOn}
use Rattle.fr_graph.specs.Items.{place_items, ItemsStand, ItemsKeep, body_walk, HasNodes, StandsForTree, IsAfresh}
use Rattle.fr_graph.proofs.Works.{stands_next}
use Rattle.fr_way.specs.Burial.{Buries}
use Rattle.fr_way.proofs.Buried.{have_buried}
use Rattle.fr_way.proofs.Lives.{shown_lives}

module _ (old new : Graph) (p : Plan) (b : Buries old new) (eras : ErasStandOn old everything p) where
  -- the trees for which an expression stood
  abbrev pub TreesAt : ℕ → Type 0
  TreesAt n = (e : Low) (x : ℕ) (env : List Part) (ms : List ℕ) (k : Kept) → Wired old p x n e env ms → StandsFor old p n e env ms k → StandsFor new p n e env ms k

  module _ (n : ℕ) (ih : TreesAt n) (x : ℕ) (env : List Part) where
    abbrev step : Walk
    step = place p n

    abbrev Stands : Low → List Part → List ℕ → Type 0
    Stands = Wired old p x n

    abbrev Was : Low → List Part → List ℕ → Kept → Type 0
    Was = StandsFor old p n

    abbrev Is : Low → List Part → List ℕ → Kept → Type 0
    Is = StandsFor new p n

    abbrev before : Asked
    before = record { known = everything; cell = old.cell; asks = HasKey old }

    abbrev after : Asked
    after = record { known = everything; cell = new.cell; asks = HasKey new }

    tree_all : (es : List Low) (i : ℕ) (ms : List ℕ) (k : Kept) → AllStand step Stands env es ms → AllKeep step Was env i es ms k → AllKeep step Is env i es ms k
    tree_all [] i ms k st kp = tt
    tree_all (e ∷ es) i ms k st kp = (ih e x env ms (child k i) st.0 kp.0, tree_all es (i + 1) (step e env ms).left k st.1 kp.1)

    tree_chosen : (a c : Low) (y : ℕ) (ms : List ℕ) (k : Kept) (o : Result Bool Bad) → Chosen o (Wired old p y n a env ms) (Wired old p y n c env ms)
        → Chosen o (Was a env ms (under_key (key.Test true) k)) (Was c env ms (under_key (key.Test false) k))
        → Chosen o (Is a env ms (under_key (key.Test true) k)) (Is c env ms (under_key (key.Test false) k))
    tree_chosen a c y ms k (Err bad) st kp = absurd st
    tree_chosen a c y ms k (Ok true) st kp = ih a y env ms (under_key (key.Test true) k) st kp
    tree_chosen a c y ms k (Ok false) st kp = ih c y env ms (under_key (key.Test false) k) st kp

    era_chosen : (a c : Low) (w : ℕ) (o : Result Bool Bad) → old.level w ≡ n → Chosen o (EraStands old p w a env) (EraStands old p w c env)
        → Chosen o (Wired old p (suc w) n a env (old.members (suc w))) (Wired old p (suc w) n c env (old.members (suc w)))
    era_chosen a c w (Err bad) level st = absurd st
    era_chosen a c w (Ok true) level st = subst (λ (j : ℕ). Wired old p (suc w) j a env (old.members (suc w))) level st.wired
    era_chosen a c w (Ok false) level st = subst (λ (j : ℕ). Wired old p (suc w) j c env (old.members (suc w))) level st.wired

    tree_switch : (a c : Low) (h : Part) (ms : List ℕ) (k : Kept) → SwitchStands old x n Stands a c env h ms → SwitchKeeps old before Was a c env h ms k → SwitchKeeps new after Is a c env h ms k
    tree_switch a c (steady v) ms k st kp = tree_chosen a c x ms k (test_of v) st kp
    tree_switch a c (signal m) ms k st kp = λ kw.
        let w = first ms in
        let lv = st.watch.live in
        let has = (kp tt).0 in
        let same = ap test_of (b.value w lv) in
        let stood = era_chosen a c w (test_of (old.value w)) st.watch.level (eras w a c env tt lv st.watch.kind) in
        let trees = tree_chosen a c (suc w) (old.members (suc w)) k (test_of (old.value w)) stood (kp tt).1 in (
          record { holds = has.holds; value = same ∙ has.value; chose = has.chose },
          subst (λ (o : Result Bool Bad). Chosen o (Is a env (new.members (suc w)) (under_key (key.Test true) k)) (Is c env (new.members (suc w)) (under_key (key.Test false) k))) (sym same)
              (subst (λ (l : List ℕ). Chosen (test_of (old.value w)) (Is a env l (under_key (key.Test true) k)) (Is c env l (under_key (key.Test false) k))) (sym (b.members (suc w))) trees),
        )

    tree_call : (o : Option Low) (qs : AllPlaced) (k : Kept) → CallStands Stands o qs → CallKeeps Was o qs k → CallKeeps Is o qs k
    tree_call None qs k st kp = tt
    tree_call (Some body) qs k st kp = ih body x qs.parts qs.left k st kp

    tree_cell : (form : StateForm) (ms : List ℕ) (k : Kept) → old.live (first ms) ≡ true → CellKeeps before form ms k → CellKeeps after form ms k
    tree_cell form ms k lv kp = b.cell (first ms) lv ∙ kp

    tree_work : (o : Operator) (ps : List Part) (ms : List ℕ) (k : Kept) (c : Bool) → is_plain (operates o) ≡ c → WorkStands old p x n (operates o) ps ms
        → Unless c (CellKeeps before (of_operator o) ms k) → Unless c (CellKeeps after (of_operator o) ms k)
    tree_work o ps ms k true e st kp = tt
    tree_work o ps ms k false e st kp = tree_cell (of_operator o) ms k (stands_next old p x n (operates o) ps ms e st).live kp

    tree_shape : (l : Low-F Low) (ms : List ℕ) (k : Kept) → ShapeStands old p x n step Stands env ms l → ShapeKeeps old p before step Was env ms k l → ShapeKeeps new p after step Is env ms k l
    tree_shape (Low-F.Lit v) ms k st kp = tt
    tree_shape (Low-F.Var v) ms k st kp = tt
    tree_shape (Low-F.Source s) ms k st kp = tt
    tree_shape (Low-F.Let es e) ms k st kp =
        let qs = place_all step env es ms in
        (tree_all es 0 ms k st.0 kp.0, ih e x (env ++ qs.parts) qs.left (child k (length es)) st.1 kp.1)
    tree_shape (Low-F.If site test a c) ms k st kp =
        (ih test x env ms (child k 0) st.0 kp.0, tree_switch a c (step test env ms).part (step test env ms).left (child k 1) st.1 kp.1)
    tree_shape (Low-F.Apply id es) ms k st kp =
        (tree_all es 0 ms k st.0 kp.0, tree_call (low_body (slice_get p.functions id.0) (length es)) (place_all step env es ms) (child k (length es)) st.1 kp.1)
    tree_shape (Low-F.Operator o es) ms k st kp =
        let qs = place_all step env es ms in
        (tree_all es 0 ms (behind_cell (of_operator o) k) st.0 kp.0, tree_work o qs.parts qs.left k (is_plain (operates o)) refl st.1 kp.1)
    tree_shape (Low-F.Handler h es id ss) ms k st kp =
        let qs = place_all step env es ms in (
          tree_all es 0 ms (behind_cell (of_handler h) k) st.0 kp.0,
          tree_cell (of_handler h) qs.left k (stands_next old p x n (handles h id.0) _ qs.left refl st.2).live kp.1,
        )
    tree_shape (Low-F.Loop l es id ss) ms k st kp = tree_all es 0 ms k st.0 kp
    tree_shape (Low-F.Feedback init e) ms k st kp =
        let i = step init env ms in
        let inside = env ++ signal (first i.left) ∷ [] in (
          ih init x env ms (child (behind_cell of_feedback k) 0) st.0 kp.0,
          ih e x inside (rest i.left) (child (behind_cell of_feedback k) 1) st.1 kp.1,
          tree_cell of_feedback i.left k st.2.live kp.2,
        )
    tree_shape (Low-F.Collapse id ss) ms k st kp = tt

  -- THE SAME TREES. What a graph stood for, it stands for once it is buried.
  trees_buried : (n : ℕ) → TreesAt n
  unfolding place Wired Keeps
  trees_buried zero e x env ms k st kp = absurd st
  trees_buried (suc n) e x env ms k st kp = tree_shape n (trees_buried n) x env (out-Low e) ms k st kp

  items_buried : (n : ℕ) (is : List LowItem) (env : List Part) (i : ℕ) (ms : List ℕ) (k : Kept) → ItemsStand (place p n) (Wired old p 0 n) env is ms
      → ItemsKeep (place p n) (StandsFor old p n) env i is ms k → ItemsKeep (place p n) (StandsFor new p n) env i is ms k
  items_buried n [] env i ms k st kp = tt
  items_buried n (low_item.Define e ∷ is) env i ms k st kp =
      let r = place p n e env ms in
      (trees_buried n e 0 env ms (child k i) st.0 kp.0, items_buried n is (env ++ r.part ∷ []) (i + 1) r.left k st.1 kp.1)
  items_buried n (low_item.Show name e ∷ is) env i ms k st kp =
      let r = place p n e env ms in
      (trees_buried n e 0 env ms (child k i) st.0 kp.0, items_buried n is env (i + 1) r.left k st.1 kp.1)

module _ (old new : Graph) (p : Plan) (is : List LowItem) (ms : List ℕ) (b : Buries old new) (has : HasNodes old p is ms) where
  pub stands_buried : (k : Kept) → StandsForTree old p is ms k → StandsForTree new p is ms k
  stands_buried k st = items_buried old new p b has.eras 2000 is [] 0 ms k has.items st

  pub afresh_buried : (pr : Program) (sources : List Now) (k : Kept) → IsAfresh old pr p is ms sources k → IsAfresh new pr p is ms sources k
  afresh_buried pr sources k a = record {
    shows = have_buried old new b (place_items (body_walk p) [] is ms).parts (body pr sources k).shown (shown_lives old p 0 2000 is [] ms (λ j rd. absurd rd) has.items) a.shows;
    errless = a.errless;
    stands = stands_buried (kept.Group (body pr sources k).kepts) a.stands;
  }
