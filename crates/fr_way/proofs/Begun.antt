-- Where an instant begins it is under way.
use Rattle.std.proofs.Common.{◌≡◌, inl, inr, ℕ, suc, Bool, true, false, if◌then◌else◌, List, [], ◌∷◌, refl, ap, sym, ◌∙◌, subst, arith, Option, Some, None, IsSome}
use Rattle.fr_value.specs.declared.now.Now.{Now}
use Rattle.fr_core.specs.declared.lowered.LowItem.{LowItem}
use Rattle.fr_meaning.specs.Cells.{Cell}
use Rattle.fr_graph.specs.Graph.{Part, Work, Kind, source, works, watch, result, Graph, part_values, IsClean, work_line, is_late}
use Rattle.fr_graph.specs.Walk.{Plan}
use Rattle.fr_graph.specs.Known.{Rule, IsWorked}
use Rattle.fr_graph.specs.Items.{HasNodes, IsSettled}
use Rattle.fr_way.specs.Frame.{IsFramed}
use Rattle.fr_way.specs.Way.{Way, cell_in, occurs_now, AreQuiet, UnderWay}
use Rattle.fr_way.specs.Ends.{IsBuilt, Begins, shown_of}
use Rattle.fr_way.proofs.Shapes.{by_bool, no_both, none_some, input_live}
use Rattle.fr_way.proofs.Rests.{quiet_values, at_rest}

cell_live : (old : Graph) (m : ℕ) → old.live m ≡ true → cell_in old m ≡ old.cell m
cell_live old m e = ap (λ (b : Bool). if b then old.cell m else None) e

cell_further : (old : Graph) (m : ℕ) → old.live m ≡ false → cell_in old m ≡ None
cell_further old m e = ap (λ (b : Bool). if b then old.cell m else None) e

is_none : (o : Option ℕ) (h : ℕ) → o ≡ None → o ≡ Some h → ⊥
is_none o h e f = cc

zero_no_suc : (x w : ℕ) → x ≡ 0 → x ≡ suc w → ⊥
zero_no_suc x w e f = omega arith

-- THE FIRST INSTANT. A graph that was built is under way, over one without nodes.
pub built_under_way : (p : Plan) (is : List LowItem) (ms : List ℕ) (sources : List Now) (old : Graph) (at : Way) → IsBuilt p is ms old at → UnderWay p is ms sources old at
built_under_way p is ms sources old at b = record {
  frame = b.frame;
  nodes = record {
    queue = λ m h e. elim (by_bool (at.graph.live m)) [
      | inl lv ↦ (lv, (let q = b.queued m lv in cc), b.done m lv)
      | inr non ↦ absurd (is_none (at.queued m) h (b.no_other m non) e)
    ];
    ordered = λ m j h lv d e. no_both (at.done m) d (b.done m lv);
    computed = λ m lv d. no_both (at.done m) d (b.done m lv);
    waits = λ m lv d was. no_both (old.live m) was (b.empty m);
    born = λ m lv d non. (b.cell m lv, queued m lv);
    idle = λ m j lv d out rd. none_some (at.queued m) out (queued m lv);
    rests = λ m lv d out quiet. none_some (at.queued m) out (queued m lv);
    late = λ m w lv k late. b.cell m lv ∙ sym (cell_further old m (b.empty m));
    taken = λ m there. elim there [
      | inl lv ↦ b.taken m lv
      | inr was ↦ no_both (old.live m) was (b.empty m)
    ];
  };
  eras = record {
    stand = λ w a e env lv chosen k. elim chosen [
      | inl d ↦ no_both (at.done w) d (b.done w lv)
      | inr was ↦ no_both (old.live w) was (b.empty w)
    ];
    none = λ w m lv d non lm er. zero_no_suc (at.graph.era m) w (b.era m lm) er;
  };
  goes = record {
    cell = λ m was lv. no_both (old.live m) was (b.empty m);
    cell_new = λ m non lv. cell_further old m non;
    era_same = λ w was lv e. no_both (old.live w) was (b.empty w);
    era_new = λ w m was lv ne lm er. b.empty m;
    era_born = λ w m non lm er. b.empty m;
  };
  items = b.items;
}
  where
    queued : (m : ℕ) → at.graph.live m ≡ true → IsSome (at.queued m)
    queued m lv = subst (λ (o : Option ℕ). IsSome o) (sym (b.queued m lv)) refl

module _ (p : Plan) (is : List LowItem) (ms : List ℕ) (sources was : List Now) (before : ℕ → Option Cell) (old : Graph) (taken : ℕ → Bool) (height : ℕ → ℕ) (done : ℕ → Bool) (queued : ℕ → Option ℕ) where
  abbrev at : Way
  at = record { graph = old; taken = taken; height = height; done = done; queued = queued }

  module _ (f : IsFramed old height) (has : HasNodes old p is ms) (settled : IsSettled old p was before) (b : Begins sources old at) where
    -- a work at rest
    work_rests : (m : ℕ) (w : Work) → old.live m ≡ true → old.kind m ≡ works w → queued m ≡ None → AreQuiet old (old.inputs m)
        → IsWorked old p.table (before m) m w (old.inputs m) → IsWorked old p.table (cell_in old m) m w (old.inputs m)
    work_rests m w lv k out quiet r =
        let xs = part_values old (old.inputs m) in
        let n = old.level m in
        let calm : occurs_now (old.value m) ≡ false = elim (b.occurred m lv) [
          | inl q ↦ none_some (queued m) out q
          | inr q ↦ q
        ] in
        let shows : is_late w ≡ true → shown_of (old.cell m) ≡ (work_line p.table n w (before m) xs).value = λ late. elim (b.kept m w lv k late) [
          | inl q ↦ none_some (queued m) out q
          | inr e ↦ e ∙ r.value
        ] in
        let line = at_rest p.table n (before m) (old.cell m) xs w r.clean r.cell shows (ap occurs_now (sym r.value) ∙ calm) (quiet_values old (old.inputs m) quiet (f.scoped.calm m w lv k)) in
        subst (λ (c : Option Cell). IsWorked old p.table c m w (old.inputs m)) (sym (cell_live old m lv)) (record {
          value = r.value ∙ ap (λ l. l.value) (sym line);
          clean = subst IsClean (sym line) r.clean;
          cell = λ late. r.cell late ∙ ap (λ l. l.next) (sym line);
        })

    -- a node at rest obeys its rule over the cell that it has
    rests_at : (m : ℕ) (k : Kind) (ins : List Part) → old.live m ≡ true → old.kind m ≡ k → old.inputs m ≡ ins → queued m ≡ None → AreQuiet old (old.inputs m)
        → Rule old p.table was before m k ins → Rule old p.table sources (cell_in old) m k ins
    rests_at m (source s) ins lv k e out quiet r = elim (b.set m s lv k) [
      | inl q ↦ none_some (queued m) out q
      | inr n ↦ record { now = n.0; there = n.1; value = n.2 }
    ]
    rests_at m (works w) ins lv k e out quiet r =
        subst (λ (l : List Part). IsWorked old p.table (cell_in old m) m w l) e
        (work_rests m w lv k out quiet (subst (λ (l : List Part). IsWorked old p.table (before m) m w l) (sym e) r))
    rests_at m (watch a c env) [] lv k e out quiet r = tt
    rests_at m (watch a c env) (test ∷ []) lv k e out quiet r = r
    rests_at m (watch a c env) (test ∷ other ∷ more) lv k e out quiet r = tt
    rests_at m result [] lv k e out quiet r = tt
    rests_at m result (q ∷ []) lv k e out quiet r = r
    rests_at m result (q ∷ other ∷ more) lv k e out quiet r = tt

    begun : UnderWay p is ms sources old at
    begun = record {
      frame = f;
      nodes = record {
        queue = λ m h e. let q = b.queue m h e in (q.0, q.1, b.done m);
        ordered = λ m j h lv d e. no_both (done m) d (b.done m);
        computed = λ m lv d. no_both (done m) d (b.done m);
        waits = λ m lv d there. (refl, refl);
        born = λ m lv d non. no_both (old.live m) lv non;
        idle = λ m j lv d out rd. b.occurred j (input_live old height m j f lv rd);
        rests = λ m lv d out quiet. rests_at m (old.kind m) (old.inputs m) lv refl refl out quiet (settled.rules m tt lv);
        late = λ m w lv k late. sym (cell_live old m lv);
        taken = λ m there. elim there [
          | inl lv ↦ b.taken m lv
          | inr lv ↦ b.taken m lv
        ];
      };
      eras = record {
        stand = λ w a c env lv chosen k. has.eras w a c env tt lv k;
        none = λ w m lv d non lm er. no_both (old.live w) lv non;
      };
      goes = record {
        cell = λ m there lv. cell_live old m lv;
        cell_new = λ m non lv. no_both (old.live m) lv non;
        era_same = λ w there lv e. refl;
        era_new = λ w m there lv ne lm er. absurd (ne refl);
        era_born = λ w m non lm er. absurd (no_both (old.live w) (f.members.owner m w lm er).0 non);
      };
      items = has.items;
    }

-- A FURTHER INSTANT. A graph at the end of an instant is under way where the next begins.
pub begun_under_way : (p : Plan) (is : List LowItem) (ms : List ℕ) (sources was : List Now) (before : ℕ → Option Cell) (old : Graph) (at : Way)
    → IsFramed old at.height → HasNodes old p is ms → IsSettled old p was before → Begins sources old at → UnderWay p is ms sources old at
begun_under_way p is ms sources was before old at f has settled b =
    let e : Path Way at (record { graph = old; taken = at.taken; height = at.height; done = at.done; queued = at.queued }) =
    λ i. record { graph = b.graph i; taken = at.taken; height = at.height; done = at.done; queued = at.queued } in
    subst (λ (w : Way). UnderWay p is ms sources old w) (sym e)
    (begun p is ms sources was before old at.taken at.height at.done at.queued f has settled (subst (λ (w : Way). Begins sources old w) e b))
