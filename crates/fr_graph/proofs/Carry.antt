-- The tree for which a graph stood is what its nodes had before the next instant.
use Rattle.std.proofs.Common.{◌≡◌, ◌≢◌, ◌+◌, ℕ, zero, suc, Bool, true, false, List, [], ◌∷◌, ◌++◌, length, slice_get, refl, ap, sym, ◌∙◌, subst, Option, Some, None, Result, Ok, Err}
use Rattle.std.proofs.lemmas.Bool.{false≢true}
use Rattle.std.specs.Option.{option_map}
use Rattle.fr_value.specs.declared.now.Bad.{Bad}
use Rattle.fr_core.specs.declared.core_form.Operator.{Operator}
use Rattle.fr_core.specs.declared.kept.Key.{Key}
use Rattle.fr_core.specs.declared.kept.Key.TheVariants as key
use Rattle.fr_core.specs.declared.kept.Kept.{Kept, out-Kept}
use Rattle.fr_core.specs.declared.kept.Kept.TheOpen.{Kept-F}
use Rattle.fr_core.specs.declared.kept.Kept.TheVariants as kept
use Rattle.fr_core.specs.declared.kept.Kept.TheVariants.{outs-Nothing}
use Rattle.fr_core.specs.declared.lowered.Low.{Low, out-Low}
use Rattle.fr_core.specs.declared.lowered.Low.TheOpen.{Low-F}
use Rattle.fr_meaning.specs.Words.{test_of}
use Rattle.fr_meaning.specs.Cells.{Cell, datum, payload, CellKind, keeps_none, keeps_datum, keeps_payload, child, child_at, datum_cell, datum_cell_at, payload_cell, payload_cell_at, behind_datum, behind_datum_at, behind_payload, behind_payload_at, cell_in, behind, under_key, under_key_at}
use Rattle.fr_meaning.specs.States.{StateForm, of_operator, of_handler, of_feedback, cell_kind}
use Rattle.fr_meaning.specs.Evaluation.{behind_cell}
use Rattle.fr_graph.specs.Graph.{Part, steady, signal, operates, handles, Graph, is_plain}
use Rattle.fr_graph.specs.Walk.{Plan, first, rest, Walk, AllPlaced, place_all, low_body, place}
use Rattle.fr_graph.specs.Wired.{Unless, WorkStands, AllStand, Chosen, SwitchStands, CallStands, ShapeStands, Wired, EraStands}
use Rattle.fr_graph.specs.Keeps.{Asked, AllKeep, SwitchKeeps, CallKeeps, CellKeeps, ShapeKeeps, Keeps, asks_nothing, everything, switch_key, switch_key_at, HasKey, StandsFor}
use Rattle.fr_graph.specs.Known.{ErasStandOn}
use Rattle.fr_graph.specs.Goes.{Goes}
use Rattle.fr_graph.proofs.Works.{stands_next}

-- nothing is kept in an empty tree

pub child_none : (i : ℕ) → child kept.Nothing i ≡ kept.Nothing
unfolding child
child_none i = ap (λ l. child_at l i) outs-Nothing

cell_none : (kind : CellKind) → cell_in kind kept.Nothing ≡ None
unfolding datum_cell payload_cell
cell_none keeps_none = refl
cell_none keeps_datum = ap (λ l. option_map datum (datum_cell_at l)) outs-Nothing
cell_none keeps_payload = ap (λ l. option_map payload (payload_cell_at l)) outs-Nothing

behind_none : (kind : CellKind) → behind kind kept.Nothing ≡ kept.Nothing
unfolding behind_datum behind_payload
behind_none keeps_none = refl
behind_none keeps_datum = ap behind_datum_at outs-Nothing
behind_none keeps_payload = ap behind_payload_at outs-Nothing

under_none : (new : Key) → under_key new kept.Nothing ≡ kept.Nothing
unfolding under_key
under_none new = ap (under_key_at new) outs-Nothing

-- a switch that chose by the other key keeps nothing for this one
other_key : (a b : Bool) (k : Kept) → a ≢ b → switch_key k ≡ Some (key.Test a) → under_key (key.Test b) k ≡ kept.Nothing
unfolding under_key switch_key
other_key a b k differ e = by_shape a b (out-Kept k) differ e
  where
    by_shape : (a b : Bool) (l : Kept-F Kept) → a ≢ b → switch_key_at l ≡ Some (key.Test a) → under_key_at (key.Test b) l ≡ kept.Nothing
    by_shape a b Kept-F.Nothing differ e = refl
    by_shape a b (Kept-F.Group ks) differ e = refl
    by_shape a b (Kept-F.Datum v k) differ e = refl
    by_shape a b (Kept-F.Payload o k) differ e = refl
    by_shape true true (Kept-F.Switch old k) differ e = absurd (differ refl)
    by_shape false false (Kept-F.Switch old k) differ e = absurd (differ refl)
    by_shape true false (Kept-F.Switch (key.Test true) k) differ e = refl
    by_shape true false (Kept-F.Switch (key.Test false) k) differ e = absurd cc
    by_shape false true (Kept-F.Switch (key.Test true) k) differ e = absurd cc
    by_shape false true (Kept-F.Switch (key.Test false) k) differ e = refl

tests_differ : (a b : Bool) → a ≢ b → Path (Result Bool Bad) (Ok a) (Ok b) → ⊥
tests_differ a b differ e = differ cc

module _ (old new : Graph) (p : Plan) (known : ℕ → Type 0) (before : ℕ → Option Cell) (go : Goes old new before) (new_eras : ErasStandOn new known p) where
  abbrev q : Asked
  q = record { known = known; cell = before; asks = asks_nothing }

  -- every node of this era is a further one
  abbrev pub IsBorn : ℕ → Type 0
  IsBorn y = (m : ℕ) → new.live m ≡ true → new.era m ≡ y → old.live m ≡ false

  -- expressions in an era of further nodes have no cells before
  abbrev pub BornAt : ℕ → Type 0
  BornAt n = (e : Low) (y : ℕ) (env : List Part) (ms : List ℕ) → IsBorn y → Wired new p y n e env ms → Keeps new p q n e env ms kept.Nothing

  module _ (n : ℕ) (ih : BornAt n) (y : ℕ) (env : List Part) (born : IsBorn y) where
    abbrev walk : Walk
    walk = place p n

    abbrev Stands : Low → List Part → List ℕ → Type 0
    Stands = Wired new p y n

    abbrev Trees : Low → List Part → List ℕ → Kept → Type 0
    Trees = Keeps new p q n

    born_all : (es : List Low) (i : ℕ) (ms : List ℕ) → AllStand walk Stands env es ms → AllKeep walk Trees env i es ms kept.Nothing
    born_all [] i ms st = tt
    born_all (e ∷ es) i ms st = (subst (Trees e env ms) (sym (child_none i)) (ih e y env ms born st.0), born_all es (i + 1) (walk e env ms).left st.1)

    born_chosen : (a b : Low) (x : ℕ) (ms : List ℕ) (o : Result Bool Bad) → IsBorn x → Chosen o (Wired new p x n a env ms) (Wired new p x n b env ms)
        → Chosen o (Trees a env ms (under_key (key.Test true) kept.Nothing)) (Trees b env ms (under_key (key.Test false) kept.Nothing))
    born_chosen a b x ms (Err bad) h st = absurd st
    born_chosen a b x ms (Ok true) h st = subst (Trees a env ms) (sym (under_none (key.Test true))) (ih a x env ms h st)
    born_chosen a b x ms (Ok false) h st = subst (Trees b env ms) (sym (under_none (key.Test false))) (ih b x env ms h st)

    era_chosen : (a b : Low) (w : ℕ) (o : Result Bool Bad) → new.level w ≡ n → Chosen o (EraStands new p w a env) (EraStands new p w b env)
        → Chosen o (Wired new p (suc w) n a env (new.members (suc w))) (Wired new p (suc w) n b env (new.members (suc w)))
    era_chosen a b w (Err bad) level st = absurd st
    era_chosen a b w (Ok true) level st = subst (λ j. Wired new p (suc w) j a env (new.members (suc w))) level st.wired
    era_chosen a b w (Ok false) level st = subst (λ j. Wired new p (suc w) j b env (new.members (suc w))) level st.wired

    born_switch : (a b : Low) (h : Part) (ms : List ℕ) → SwitchStands new y n Stands a b env h ms → SwitchKeeps new q Trees a b env h ms (child kept.Nothing 1)
    born_switch a b (steady v) ms st = subst (λ u. Chosen (test_of v) (Trees a env ms (under_key (key.Test true) u)) (Trees b env ms (under_key (key.Test false) u))) (sym (child_none 1)) (born_chosen a b y ms (test_of v) born st)
    born_switch a b (signal m) ms st = λ kw.
        let c = first ms in
        let further : IsBorn (suc c) = λ j lv er. go.era_born c j (born c st.watch.live st.watch.era) lv er in
        let stands = era_chosen a b c (test_of (new.value c)) st.watch.level (new_eras c a b env kw st.watch.live st.watch.kind) in (
          tt,
          subst (λ u. Chosen (test_of (new.value c)) (Trees a env (new.members (suc c)) (under_key (key.Test true) u)) (Trees b env (new.members (suc c)) (under_key (key.Test false) u))) (sym (child_none 1))
              (born_chosen a b (suc c) (new.members (suc c)) (test_of (new.value c)) further stands),
        )

    born_call : (o : Option Low) (qs : AllPlaced) (m : ℕ) → CallStands Stands o qs → CallKeeps Trees o qs (child kept.Nothing m)
    born_call None qs m st = absurd st
    born_call (Some body) qs m st = subst (Trees body qs.parts qs.left) (sym (child_none m)) (ih body y qs.parts qs.left born st)

    born_cell : (form : StateForm) (ms : List ℕ) → new.live (first ms) ≡ true → new.era (first ms) ≡ y → CellKeeps q form ms kept.Nothing
    born_cell form ms lv er = go.cell_new (first ms) (born (first ms) lv er) lv ∙ sym (cell_none (cell_kind form))

    born_work : (o : Operator) (ps : List Part) (ms : List ℕ) (b : Bool) → is_plain (operates o) ≡ b → WorkStands new p y n (operates o) ps ms → Unless b (CellKeeps q (of_operator o) ms kept.Nothing)
    born_work o ps ms true e st = tt
    born_work o ps ms false e st = let next = stands_next new p y n (operates o) ps ms e st in born_cell (of_operator o) ms next.live next.era

    born_shape : (l : Low-F Low) (ms : List ℕ) → ShapeStands new p y n walk Stands env ms l → ShapeKeeps new p q walk Trees env ms kept.Nothing l
    born_shape (Low-F.Lit v) ms st = tt
    born_shape (Low-F.Var v) ms st = tt
    born_shape (Low-F.Source s) ms st = tt
    born_shape (Low-F.Let es b) ms st =
        let qs = place_all walk env es ms in
        (born_all es 0 ms st.0, subst (Trees b (env ++ qs.parts) qs.left) (sym (child_none (length es))) (ih b y (env ++ qs.parts) qs.left born st.1))
    born_shape (Low-F.If site test a b) ms st =
        (subst (Trees test env ms) (sym (child_none 0)) (ih test y env ms born st.0), born_switch a b (walk test env ms).part (walk test env ms).left st.1)
    born_shape (Low-F.Apply id es) ms st = (born_all es 0 ms st.0, born_call (low_body (slice_get p.functions id.0) (length es)) (place_all walk env es ms) (length es) st.1)
    born_shape (Low-F.Operator o es) ms st =
        let qs = place_all walk env es ms in
        (subst (AllKeep walk Trees env 0 es ms) (sym (behind_none (cell_kind (of_operator o)))) (born_all es 0 ms st.0), born_work o qs.parts qs.left (is_plain (operates o)) refl st.1)
    born_shape (Low-F.Handler h es id ss) ms st =
        let qs = place_all walk env es ms in
        let next = stands_next new p y n (handles h id.0) _ qs.left refl st.2 in
        (subst (AllKeep walk Trees env 0 es ms) (sym (behind_none (cell_kind (of_handler h)))) (born_all es 0 ms st.0), born_cell (of_handler h) qs.left next.live next.era)
    born_shape (Low-F.Loop l es id ss) ms st = born_all es 0 ms st.0
    born_shape (Low-F.Feedback init body) ms st =
        let i = walk init env ms in
        let inside = env ++ signal (first i.left) ∷ [] in
        let none = behind_none (cell_kind of_feedback) in (
          subst (Trees init env ms) (sym (ap (λ u. child u 0) none ∙ child_none 0)) (ih init y env ms born st.0),
          subst (Trees body inside (rest i.left)) (sym (ap (λ u. child u 1) none ∙ child_none 1)) (ih body y inside (rest i.left) born st.1),
          born_cell of_feedback i.left st.2.live st.2.era,
        )
    born_shape (Low-F.Collapse id ss) ms st = tt

  -- THE BEGINNING. Nothing is kept of expressions whose nodes are further ones.
  pub born_at : (n : ℕ) → BornAt n
  unfolding place Wired Keeps
  born_at zero e y env ms born st = absurd st
  born_at (suc n) e y env ms born st = born_shape n (born_at n) y env born (out-Low e) ms st

  module _ (old_eras : ErasStandOn old everything p) where
    -- the tree for which an expression stood is what its nodes had before
    abbrev pub CarriesAt : ℕ → Type 0
    CarriesAt n = (e : Low) (x : ℕ) (env : List Part) (ms : List ℕ) (k : Kept) → Wired old p x n e env ms → Wired new p x n e env ms → StandsFor old p n e env ms k → Keeps new p q n e env ms k

    module _ (n : ℕ) (ih : CarriesAt n) (x : ℕ) (env : List Part) where
      abbrev step : Walk
      step = place p n

      abbrev Was : Low → List Part → List ℕ → Type 0
      Was = Wired old p x n

      abbrev Is : Low → List Part → List ℕ → Type 0
      Is = Wired new p x n

      abbrev Stood : Low → List Part → List ℕ → Kept → Type 0
      Stood = StandsFor old p n

      abbrev Goes_on : Low → List Part → List ℕ → Kept → Type 0
      Goes_on = Keeps new p q n

      abbrev asked : Asked
      asked = record { known = everything; cell = old.cell; asks = HasKey old }

      carry_all : (es : List Low) (i : ℕ) (ms : List ℕ) (k : Kept) → AllStand step Was env es ms → AllStand step Is env es ms → AllKeep step Stood env i es ms k → AllKeep step Goes_on env i es ms k
      carry_all [] i ms k w0 w1 kp = tt
      carry_all (e ∷ es) i ms k w0 w1 kp = (ih e x env ms (child k i) w0.0 w1.0 kp.0, carry_all es (i + 1) (step e env ms).left k w0.1 w1.1 kp.1)

      carry_chosen : (a b : Low) (ms : List ℕ) (k : Kept) (o : Result Bool Bad) → Chosen o (Was a env ms) (Was b env ms) → Chosen o (Is a env ms) (Is b env ms)
          → Chosen o (Stood a env ms (under_key (key.Test true) k)) (Stood b env ms (under_key (key.Test false) k))
          → Chosen o (Goes_on a env ms (under_key (key.Test true) k)) (Goes_on b env ms (under_key (key.Test false) k))
      carry_chosen a b ms k (Err bad) w0 w1 kp = absurd w0
      carry_chosen a b ms k (Ok true) w0 w1 kp = ih a x env ms (under_key (key.Test true) k) w0 w1 kp
      carry_chosen a b ms k (Ok false) w0 w1 kp = ih b x env ms (under_key (key.Test false) k) w0 w1 kp

      -- an era that goes on
      era_goes_on : (e : Low) (c : ℕ) (k : Kept) → old.level c ≡ n → new.level c ≡ n → new.members (suc c) ≡ old.members (suc c) → EraStands old p c e env → EraStands new p c e env
          → Stood e env (old.members (suc c)) k → Goes_on e env (new.members (suc c)) k
      era_goes_on e c k l0 l1 same s0 s1 kp =
          let w0 : Wired old p (suc c) n e env (new.members (suc c)) = subst (Wired old p (suc c) n e env) (sym same) (subst (λ j. Wired old p (suc c) j e env (old.members (suc c))) l0 s0.wired) in
          let w1 : Wired new p (suc c) n e env (new.members (suc c)) = subst (λ j. Wired new p (suc c) j e env (new.members (suc c))) l1 s1.wired in
          ih e (suc c) env (new.members (suc c)) k w0 w1 (subst (λ ms. Stood e env ms k) (sym same) kp)

      -- an era that was begun anew
      era_begins : (e : Low) (c : ℕ) (k : Kept) → new.level c ≡ n → IsBorn (suc c) → EraStands new p c e env → k ≡ kept.Nothing → Goes_on e env (new.members (suc c)) k
      era_begins e c k l1 born s1 none =
          subst (Goes_on e env (new.members (suc c))) (sym none) (born_at n e (suc c) env (new.members (suc c)) born (subst (λ j. Wired new p (suc c) j e env (new.members (suc c))) l1 s1.wired))

      carry_era : (a b : Low) (c : ℕ) (k : Kept) (was is : Bool) → old.live c ≡ true → new.live c ≡ true → old.level c ≡ n → new.level c ≡ n
          → test_of (old.value c) ≡ Ok was → test_of (new.value c) ≡ Ok is → switch_key k ≡ Some (key.Test was)
          → Chosen (Ok was) (EraStands old p c a env) (EraStands old p c b env) → Chosen (Ok is) (EraStands new p c a env) (EraStands new p c b env)
          → Chosen (Ok was) (Stood a env (old.members (suc c)) (under_key (key.Test true) k)) (Stood b env (old.members (suc c)) (under_key (key.Test false) k))
          → Chosen (Ok is) (Goes_on a env (new.members (suc c)) (under_key (key.Test true) k)) (Goes_on b env (new.members (suc c)) (under_key (key.Test false) k))
      carry_era a b c k true true v0 v1 l0 l1 t0 t1 chose s0 s1 kp = era_goes_on a c _ l0 l1 (go.era_same c v0 v1 (t1 ∙ sym t0)) s0 s1 kp
      carry_era a b c k false false v0 v1 l0 l1 t0 t1 chose s0 s1 kp = era_goes_on b c _ l0 l1 (go.era_same c v0 v1 (t1 ∙ sym t0)) s0 s1 kp
      carry_era a b c k true false v0 v1 l0 l1 t0 t1 chose s0 s1 kp =
          era_begins b c _ l1 (λ m lv er. go.era_new c m v0 v1 (λ e. tests_differ true false (λ h. false≢true (sym h)) (sym t0 ∙ sym e ∙ t1)) lv er) s1 (other_key true false k (λ e. false≢true (sym e)) chose)
      carry_era a b c k false true v0 v1 l0 l1 t0 t1 chose s0 s1 kp =
          era_begins a c _ l1 (λ m lv er. go.era_new c m v0 v1 (λ e. tests_differ false true false≢true (sym t0 ∙ sym e ∙ t1)) lv er) s1 (other_key false true k false≢true chose)

      carry_tested : (a b : Low) (c : ℕ) (k : Kept) (was : Bool) (o : Result Bool Bad) → old.live c ≡ true → new.live c ≡ true → old.level c ≡ n → new.level c ≡ n
          → test_of (old.value c) ≡ Ok was → test_of (new.value c) ≡ o → switch_key k ≡ Some (key.Test was)
          → Chosen (Ok was) (EraStands old p c a env) (EraStands old p c b env) → Chosen o (EraStands new p c a env) (EraStands new p c b env)
          → Chosen (Ok was) (Stood a env (old.members (suc c)) (under_key (key.Test true) k)) (Stood b env (old.members (suc c)) (under_key (key.Test false) k))
          → Chosen o (Goes_on a env (new.members (suc c)) (under_key (key.Test true) k)) (Goes_on b env (new.members (suc c)) (under_key (key.Test false) k))
      carry_tested a b c k was (Err bad) v0 v1 l0 l1 t0 t1 chose s0 s1 kp = absurd s1
      carry_tested a b c k was (Ok is) v0 v1 l0 l1 t0 t1 chose s0 s1 kp = carry_era a b c k was is v0 v1 l0 l1 t0 t1 chose s0 s1 kp

      carry_switch : (a b : Low) (h : Part) (ms : List ℕ) (k : Kept) → SwitchStands old x n Was a b env h ms → SwitchStands new x n Is a b env h ms
          → SwitchKeeps old asked Stood a b env h ms k → SwitchKeeps new q Goes_on a b env h ms k
      carry_switch a b (steady v) ms k s0 s1 kp = carry_chosen a b ms k (test_of v) s0 s1 kp
      carry_switch a b (signal m) ms k s0 s1 kp = λ kw.
          let c = first ms in
          let has = (kp tt).0 in
          let was = subst (λ o. Chosen o (EraStands old p c a env) (EraStands old p c b env)) has.value (old_eras c a b env tt s0.watch.live s0.watch.kind) in
          let trees = subst (λ o. Chosen o (Stood a env (old.members (suc c)) (under_key (key.Test true) k)) (Stood b env (old.members (suc c)) (under_key (key.Test false) k))) has.value (kp tt).1 in
          (tt, carry_tested a b c k has.holds (test_of (new.value c)) s0.watch.live s1.watch.live s0.watch.level s1.watch.level has.value refl has.chose was (new_eras c a b env kw s1.watch.live s1.watch.kind) trees)

      carry_call : (o : Option Low) (qs : AllPlaced) (k : Kept) → CallStands Was o qs → CallStands Is o qs → CallKeeps Stood o qs k → CallKeeps Goes_on o qs k
      carry_call None qs k s0 s1 kp = tt
      carry_call (Some body) qs k s0 s1 kp = ih body x qs.parts qs.left k s0 s1 kp

      carry_cell : (form : StateForm) (ms : List ℕ) (k : Kept) → old.live (first ms) ≡ true → new.live (first ms) ≡ true → CellKeeps asked form ms k → CellKeeps q form ms k
      carry_cell form ms k v0 v1 kp = go.cell (first ms) v0 v1 ∙ kp

      carry_work : (o : Operator) (ps : List Part) (ms : List ℕ) (k : Kept) (b : Bool) → is_plain (operates o) ≡ b → WorkStands old p x n (operates o) ps ms → WorkStands new p x n (operates o) ps ms
          → Unless b (CellKeeps asked (of_operator o) ms k) → Unless b (CellKeeps q (of_operator o) ms k)
      carry_work o ps ms k true e s0 s1 kp = tt
      carry_work o ps ms k false e s0 s1 kp = carry_cell (of_operator o) ms k (stands_next old p x n (operates o) ps ms e s0).live (stands_next new p x n (operates o) ps ms e s1).live kp

      carry_shape : (l : Low-F Low) (ms : List ℕ) (k : Kept) → ShapeStands old p x n step Was env ms l → ShapeStands new p x n step Is env ms l
          → ShapeKeeps old p asked step Stood env ms k l → ShapeKeeps new p q step Goes_on env ms k l
      carry_shape (Low-F.Lit v) ms k s0 s1 kp = tt
      carry_shape (Low-F.Var v) ms k s0 s1 kp = tt
      carry_shape (Low-F.Source s) ms k s0 s1 kp = tt
      carry_shape (Low-F.Let es b) ms k s0 s1 kp =
          let qs = place_all step env es ms in
          (carry_all es 0 ms k s0.0 s1.0 kp.0, ih b x (env ++ qs.parts) qs.left (child k (length es)) s0.1 s1.1 kp.1)
      carry_shape (Low-F.If site test a b) ms k s0 s1 kp =
          (ih test x env ms (child k 0) s0.0 s1.0 kp.0, carry_switch a b (step test env ms).part (step test env ms).left (child k 1) s0.1 s1.1 kp.1)
      carry_shape (Low-F.Apply id es) ms k s0 s1 kp =
          (carry_all es 0 ms k s0.0 s1.0 kp.0, carry_call (low_body (slice_get p.functions id.0) (length es)) (place_all step env es ms) (child k (length es)) s0.1 s1.1 kp.1)
      carry_shape (Low-F.Operator o es) ms k s0 s1 kp =
          let qs = place_all step env es ms in
          (carry_all es 0 ms (behind_cell (of_operator o) k) s0.0 s1.0 kp.0, carry_work o qs.parts qs.left k (is_plain (operates o)) refl s0.1 s1.1 kp.1)
      carry_shape (Low-F.Handler h es id ss) ms k s0 s1 kp =
          let qs = place_all step env es ms in (
            carry_all es 0 ms (behind_cell (of_handler h) k) s0.0 s1.0 kp.0,
            carry_cell (of_handler h) qs.left k (stands_next old p x n (handles h id.0) _ qs.left refl s0.2).live (stands_next new p x n (handles h id.0) _ qs.left refl s1.2).live kp.1,
          )
      carry_shape (Low-F.Loop l es id ss) ms k s0 s1 kp = carry_all es 0 ms k s0.0 s1.0 kp
      carry_shape (Low-F.Feedback init body) ms k s0 s1 kp =
          let i = step init env ms in
          let inside = env ++ signal (first i.left) ∷ [] in (
            ih init x env ms (child (behind_cell of_feedback k) 0) s0.0 s1.0 kp.0,
            ih body x inside (rest i.left) (child (behind_cell of_feedback k) 1) s0.1 s1.1 kp.1,
            carry_cell of_feedback i.left k s0.2.live s1.2.live kp.2,
          )
      carry_shape (Low-F.Collapse id ss) ms k s0 s1 kp = tt

    -- THE CARRY. The tree for which a graph stood is what its known nodes had before that go on, and nothing of those that are new.
    pub carry : (n : ℕ) → CarriesAt n
    unfolding place Wired Keeps
    carry zero e x env ms k w0 w1 kp = absurd w0
    carry (suc n) e x env ms k w0 w1 kp = carry_shape n (carry n) x env (out-Low e) ms k w0 w1 kp
