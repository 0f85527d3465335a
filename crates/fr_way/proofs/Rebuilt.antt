-- A watch that turns to another key keeps what is under way.
use Rattle.std.proofs.Common.{◌≡◌, ◌≢◌, inl, inr, ℕ, suc, ◌<◌, ◌≤◌, Bool, true, false, List, [], Option, Some, None, IsSome, is_some, ap, sym, ◌∙◌, subst, arith, if◌then◌else◌}
use Rattle.std.specs.Option.{option_map}
use Rattle.fr_value.specs.declared.now.Now.{Now}
use Rattle.fr_core.specs.declared.lowered.Low.{Low}
use Rattle.fr_core.specs.declared.lowered.LowItem.{LowItem}
use Rattle.fr_meaning.specs.Words.{test_of}
use Rattle.fr_graph.specs.Graph.{Part, watch, result, Graph}
use Rattle.fr_graph.specs.Walk.{Plan}
use Rattle.fr_graph.specs.Wired.{Chosen, EraStands}
use Rattle.fr_graph.specs.Known.{Reads, Rule}
use Rattle.fr_graph.specs.Goes.{Goes}
use Rattle.fr_way.specs.Frame.{is_watch, is_source, Inside, here}
use Rattle.fr_way.specs.Way.{Way, cell_in, occurs_now, AreQuiet, AreUnderWay, HasChosen, ErasUnderWay, UnderWay}
use Rattle.fr_way.specs.Steps.{Rebuilds}
use Rattle.fr_way.specs.Stay.{Stays, StaysIn}
use Rattle.fr_way.proofs.Stay.{items_on, eras_on}
use Rattle.fr_way.proofs.Cases.{bool_case, both_bools, number_case, none_some, no_some, some_number, by_number, suc_same, watch_no_result, work_no_watch}
use Rattle.fr_way.proofs.Names.{inside_owner, inside_owned, result_outside, named_lives}
use Rattle.fr_way.proofs.Rules.{rule_goes_on}

-- the cell in a graph of a node that lives there, and of one that doesn't
pub cell_of_old : (old : Graph) (m : ℕ) → old.live m ≡ true → cell_in old m ≡ old.cell m
cell_of_old old m lv = ap (λ (b : Bool). if b then old.cell m else None) lv

pub cell_of_new : (old : Graph) (m : ℕ) → old.live m ≡ false → cell_in old m ≡ None
cell_of_new old m lv = ap (λ (b : Bool). if b then old.cell m else None) lv

module _ (p : Plan) (is : List LowItem) (ms : List ℕ) (sources : List Now) (old : Graph) (at new : Way) (w : ℕ) (u : UnderWay p is ms sources old at) (b : Rebuilds p sources old at new w) where
  abbrev r : ℕ
  r = at.graph.result_of w

  lives : at.graph.live w ≡ true
  lives = (u.nodes.queue w b.height b.least.was).0

  stands : b.height ≡ at.height w
  stands = (u.nodes.queue w b.height b.least.was).1

  was_open : at.done w ≡ false
  was_open = (u.nodes.queue w b.height b.least.was).2

  result_over : at.height w < at.height r
  result_over = u.frame.levelled.result w lives b.watches

  result_was : at.graph.live r ≡ true
  result_was = u.frame.results.live w lives b.watches

  result_is : at.graph.kind r ≡ result
  result_is = u.frame.results.kind w lives b.watches

  result_lives : new.graph.live r ≡ true
  result_lives = b.stays r result_was (result_outside at.graph at.height u.frame w lives b.watches)

  result_apart : r ≢ w
  result_apart e = watch_no_result (at.graph.kind w) b.watches (ap at.graph.kind (sym e) ∙ result_is)

  result_open : at.done r ≡ false
  result_open = elim (bool_case (at.done r)) [
    | inl d ↦
        let low : at.height r ≤ b.height = u.nodes.ordered r w b.height result_was d b.least.was in
        let eq : b.height ≡ at.height w = stands in
        let over : at.height w < at.height r = result_over in
        absurd (omega arith)
    | inr d ↦ d
  ]

  -- a node that was made wasn't there before
  further : (m : ℕ) → at.graph.live m ≡ false → new.graph.live m ≡ true → old.live m ≡ false
  further m f l = elim (bool_case (old.live m)) [
    | inl o ↦ both_bools (at.taken m) (u.nodes.taken m (inr o)) (b.born m f l).fresh
    | inr o ↦ o
  ]

  was_there : (m : ℕ) → old.live m ≡ true → new.graph.live m ≡ true → at.graph.live m ≡ true
  was_there m o l = elim (bool_case (at.graph.live m)) [
    | inl t ↦ t
    | inr f ↦ both_bools (old.live m) o (further m f l)
  ]

  -- what a node reads is no watch, lives, and has the value that it had
  read_apart : (m j : ℕ) → at.graph.live m ≡ true → Reads j (at.graph.inputs m) → j ≢ w
  read_apart m j lv rd e = both_bools (is_watch (at.graph.kind j)) (ap (λ (i : ℕ). is_watch (at.graph.kind i)) e ∙ b.watches) (u.frame.scoped.no_watch m j lv (inl rd))

  read_lives : (m j : ℕ) → at.graph.live m ≡ true → new.graph.live m ≡ true → m ≢ r → Reads j (at.graph.inputs m) → (at.graph.live j ≡ true) × (new.graph.live j ≡ true)
  read_lives m j lv nl ne rd = (
    named_lives at.graph at.height u.frame m j lv (inl rd),
    named_lives new.graph new.height b.frame m j nl (inl (subst (Reads j) (sym (b.same_inputs m lv nl ne)) rd)),
  )

  read_same : (m : ℕ) → at.graph.live m ≡ true → new.graph.live m ≡ true → m ≢ r → (j : ℕ) → Reads j (at.graph.inputs m) → new.graph.value j ≡ at.graph.value j
  read_same m lv nl ne j rd =
      let both = read_lives m j lv nl ne rd in
      (b.goes_on j (read_apart m j lv rd) both.0 both.1).value

  -- a node that goes on and isn't the result obeys the rule that it obeyed
  rule_stays : (m : ℕ) → m ≢ w → at.graph.live m ≡ true → new.graph.live m ≡ true → m ≢ r
      → Rule at.graph p.table sources (cell_in old) m (at.graph.kind m) (at.graph.inputs m) → Rule new.graph p.table sources (cell_in old) m (new.graph.kind m) (new.graph.inputs m)
  rule_stays m nw lv nl ne rule =
      let g = b.goes_on m nw lv nl in
      rule_goes_on at.graph new.graph p.table sources (cell_in old) m g.value g.cell g.level g.kind (b.same_inputs m lv nl ne) (read_same m lv nl ne) rule

  -- what is queued
  was_queued : (m h : ℕ) → at.graph.live m ≡ true → new.graph.live m ≡ true → m ≢ w → m ≢ r → new.queued m ≡ Some h → (k : ℕ) × (at.queued m ≡ Some k) × (h ≡ new.height m)
  was_queued m h lv nl nw ne q = elim (number_case (at.queued m)) [
    | inl none ↦ none_some (new.queued m) h (b.queue m lv nl nw ne ∙ ap (option_map (λ (k : ℕ). new.height m)) none) q
    | inr some ↦ (some.0, some.1, some_number h (new.height m) (sym q ∙ b.queue m lv nl nw ne ∙ ap (option_map (λ (k : ℕ). new.height m)) some.1))
  ]

  not_queued : (m : ℕ) → at.graph.live m ≡ true → new.graph.live m ≡ true → m ≢ w → m ≢ r → new.queued m ≡ None → at.queued m ≡ None
  not_queued m lv nl nw ne q = elim (number_case (at.queued m)) [
    | inl none ↦ none
    | inr some ↦ none_some (new.queued m) (new.height m) q (b.queue m lv nl nw ne ∙ ap (option_map (λ (k : ℕ). new.height m)) some.1)
  ]

  still_queued : (m : ℕ) → at.graph.live m ≡ true → new.graph.live m ≡ true → m ≢ w → IsSome (at.queued m) → IsSome (new.queued m)
  still_queued m lv nl nw some = elim (by_number m r) [
    | inl e ↦ ap (λ (o : Option ℕ). is_some o) (ap new.queued e ∙ b.result_queued)
    | inr ne ↦ elim (number_case (at.queued m)) [
      | inl none ↦ no_some (at.queued m) none some
      | inr s ↦ ap (λ (o : Option ℕ). is_some o) (b.queue m lv nl nw ne ∙ ap (option_map (λ (k : ℕ). new.height m)) s.1)
    ]
  ]

  queued_now : (m h : ℕ) → new.queued m ≡ Some h → (new.graph.live m ≡ true) × (h ≡ new.height m) × (new.done m ≡ false)
  queued_now m h q = elim (bool_case (new.graph.live m)) [
    | inr dead ↦ none_some (new.queued m) h (b.no_other m dead) q
    | inl nl ↦ elim (by_number m w) [
      | inl e ↦ none_some (new.queued m) h (ap new.queued e ∙ b.out) q
      | inr nw ↦ elim (bool_case (at.graph.live m)) [
        | inr f ↦
            let n = b.born m f nl in
            (nl, some_number h (new.height m) (sym q ∙ n.queued), n.done)
        | inl lv ↦ elim (by_number m r) [
          | inl e ↦ (
            nl,
            some_number h (new.height m) (sym q ∙ ap new.queued e ∙ b.result_queued ∙ ap (λ (i : ℕ). Some (new.height i)) (sym e)),
            (b.goes_on m nw lv nl).done ∙ ap at.done e ∙ result_open,
          )
          | inr ne ↦
              let k = was_queued m h lv nl nw ne q in
              (nl, k.2, (b.goes_on m nw lv nl).done ∙ (u.nodes.queue m k.0 k.1).2)
        ]
      ]
    ]
  ]

  -- what is computed stands at this height at most, and what is queued at this height at least
  computed_low : (m : ℕ) → new.graph.live m ≡ true → new.done m ≡ true → new.height m ≤ b.height
  computed_low m nl d = elim (by_number m w) [
    | inl e ↦
        let s : new.height m ≡ at.height w = ap new.height e ∙ b.same_height in
        let eq : b.height ≡ at.height w = stands in
        omega arith
    | inr nw ↦ elim (bool_case (at.graph.live m)) [
      | inl lv ↦
          let g = b.goes_on m nw lv nl in
          let low : at.height m ≤ b.height = u.nodes.ordered m w b.height lv (sym g.done ∙ d) b.least.was in
          let s : new.height m ≡ at.height m = g.low low in
          omega arith
      | inr f ↦ both_bools (new.done m) d (b.born m f nl).done
    ]
  ]

  queued_high : (m h : ℕ) → new.queued m ≡ Some h → b.height ≤ h
  queued_high m h q =
      let now = queued_now m h q in
      let nl : new.graph.live m ≡ true = now.0 in
      let eq : h ≡ new.height m = now.1 in
      elim (by_number m w) [
        | inl e ↦ none_some (new.queued m) h (ap new.queued e ∙ b.out) q
        | inr nw ↦ elim (bool_case (at.graph.live m)) [
          | inr f ↦
              let above : b.height < new.height m = (b.born m f nl).above in
              omega arith
          | inl lv ↦
              let no_lower : at.height m ≤ new.height m = (b.goes_on m nw lv nl).no_lower in
              elim (by_number m r) [
                | inl e ↦
                    let over : at.height w < at.height m = subst (λ (i : ℕ). at.height w < at.height i) (sym e) result_over in
                    let st : b.height ≡ at.height w = stands in
                    omega arith
                | inr ne ↦
                    let k = was_queued m h lv nl nw ne q in
                    let least : b.height ≤ k.0 = b.least.least m k.0 k.1 in
                    let was : k.0 ≡ at.height m = (u.nodes.queue m k.0 k.1).1 in
                    omega arith
              ]
        ]
      ]

  -- a computed node is not the result
  computed_apart : (m : ℕ) → at.done m ≡ true → m ≢ r
  computed_apart m d e = both_bools (at.done m) d (ap at.done e ∙ result_open)

  open_apart : (m : ℕ) → new.done m ≡ false → m ≢ w
  open_apart m d e = both_bools (new.done m) (ap new.done e ∙ b.done) d

  idle_apart : (m : ℕ) → new.queued m ≡ None → m ≢ r
  idle_apart m q e = none_some (new.queued m) (new.height r) q (ap new.queued e ∙ b.result_queued)

  -- a node that is neither computed nor queued was there
  idle_was : (m : ℕ) → new.graph.live m ≡ true → new.queued m ≡ None → at.graph.live m ≡ true
  idle_was m nl q = elim (bool_case (at.graph.live m)) [
    | inl lv ↦ lv
    | inr f ↦ none_some (new.queued m) (new.height m) q (b.born m f nl).queued
  ]

  nodes : AreUnderWay p sources old new
  nodes = record {
    queue = queued_now;
    ordered = λ m j h nl d q.
        let low : new.height m ≤ b.height = computed_low m nl d in
        let high : b.height ≤ h = queued_high j h q in
        omega arith;
    computed = λ m nl d. elim (by_number m w) [
      | inl e ↦ subst (λ (i : ℕ). Rule new.graph p.table sources (cell_in old) i (new.graph.kind i) (new.graph.inputs i)) (sym e) b.rule
      | inr nw ↦ elim (bool_case (at.graph.live m)) [
        | inl lv ↦
            let was : at.done m ≡ true = sym (b.goes_on m nw lv nl).done ∙ d in
            rule_stays m nw lv nl (computed_apart m was) (u.nodes.computed m lv was)
        | inr f ↦ both_bools (new.done m) d (b.born m f nl).done
      ]
    ];
    waits = λ m nl d o.
        let nw = open_apart m d in
        let lv = was_there m o nl in
        let g = b.goes_on m nw lv nl in
        let was = u.nodes.waits m lv (sym g.done ∙ d) o in
        (g.value ∙ was.0, g.cell ∙ was.1);
    born = λ m nl d o. elim (bool_case (at.graph.live m)) [
      | inl lv ↦
          let nw = open_apart m d in
          let g = b.goes_on m nw lv nl in
          let was = u.nodes.born m lv (sym g.done ∙ d) o in
          (g.cell ∙ was.0, still_queued m lv nl nw was.1)
      | inr f ↦
          let n = b.born m f nl in
          (n.cell, ap (λ (q : Option ℕ). is_some q) n.queued)
    ];
    idle = λ m j nl d q rd.
        let nw = open_apart m d in
        let ne = idle_apart m q in
        let lv = idle_was m nl q in
        let was : Reads j (at.graph.inputs m) = subst (Reads j) (b.same_inputs m lv nl ne) rd in
        let both = read_lives m j lv nl ne was in
        elim (u.nodes.idle m j lv (sym (b.goes_on m nw lv nl).done ∙ d) (not_queued m lv nl nw ne q) was) [
          | inl s ↦ inl (still_queued j both.0 both.1 (read_apart m j lv was) s)
          | inr s ↦ inr (ap occurs_now (read_same m lv nl ne j was) ∙ s)
        ];
    rests = λ m nl d q quiet.
        let nw = open_apart m d in
        let ne = idle_apart m q in
        let lv = idle_was m nl q in
        let was_quiet : AreQuiet at.graph (at.graph.inputs m)
        = λ j rd. ap occurs_now (sym (read_same m lv nl ne j rd)) ∙ quiet j (subst (Reads j) (sym (b.same_inputs m lv nl ne)) rd) in
        rule_stays m nw lv nl ne (u.nodes.rests m lv (sym (b.goes_on m nw lv nl).done ∙ d) (not_queued m lv nl nw ne q) was_quiet);
    late = λ m work nl k is_it. elim (bool_case (at.graph.live m)) [
      | inl lv ↦
          let nw : m ≢ w = λ e. work_no_watch (new.graph.kind m) work k (ap is_watch (ap new.graph.kind e ∙ b.kind) ∙ b.watches) in
          let g = b.goes_on m nw lv nl in
          g.cell ∙ u.nodes.late m work lv (sym g.kind ∙ k) is_it
      | inr f ↦ (b.born m f nl).cell ∙ sym (cell_of_new old m (further m f nl))
    ];
    taken = λ m there. elim there [
      | inl nl ↦ b.taken m (inr nl)
      | inr o ↦ b.taken m (inl (u.nodes.taken m (inr o)))
    ];
  }

  -- the nodes of other eras stay
  stays_at : (m : ℕ) → at.graph.live m ≡ true → new.graph.live m ≡ true → Stays at.graph new.graph m
  stays_at m lv nl = elim (by_number m w) [
    | inl e ↦ subst (λ (i : ℕ). Stays at.graph new.graph i) (sym e)
        (record { live = b.live; kind = b.kind; later = b.later; level = b.level; era = b.era; inputs = λ plain. b.inputs; result_of = λ is. b.result_of })
    | inr nw ↦
        let g = b.goes_on m nw lv nl in
        record {
          live = nl;
          kind = g.kind;
          later = g.later;
          level = g.level;
          era = g.era;
          inputs = λ plain. b.same_inputs m lv nl (λ e. plain (ap at.graph.kind e ∙ result_is));
          result_of = g.result_of;
        }
  ]

  stays_in : (x : ℕ) → ((m : ℕ) → at.graph.live m ≡ true → at.graph.era m ≡ x → Inside at.graph (suc w) m → ⊥) → StaysIn x at.graph new.graph
  stays_in x out = record {
    nodes = λ m lv er. stays_at m lv (b.stays m lv (out m lv er));
    sources = λ m s lv k.
        let nl = b.stays m lv (λ i. inside_owned at.graph w m i (u.frame.members.sources m lv (ap is_source k))) in
        (nl, (stays_at m lv nl).kind ∙ k);
  }

  -- a node that lives in the end isn't inside the era that ended
  outside : (v : ℕ) → new.graph.live v ≡ true → Inside at.graph (suc w) v → ⊥
  outside v nl i = both_bools (new.graph.live v) nl (b.ended v i)

  era_outside : (v : ℕ) → v ≢ w → new.graph.live v ≡ true → (m : ℕ) → at.graph.live m ≡ true → at.graph.era m ≡ suc v → Inside at.graph (suc w) m → ⊥
  era_outside v ne nl m lv er i = outside v nl (inside_owner at.graph w v m i er ne)

  -- a node whose era is that of a watch that was there is new only where the watch is this one
  born_here : (m v : ℕ) → at.graph.live m ≡ false → new.graph.live m ≡ true → new.graph.era m ≡ suc v → v ≡ w
  born_here m v f nl er = suc_same v w (sym er ∙ b.born_inside m f nl)

  result_reads : (v : ℕ) → v ≢ w → at.graph.live v ≡ true → new.graph.live v ≡ true → is_watch (at.graph.kind v) ≡ true
      → new.graph.inputs (new.graph.result_of v) ≡ at.graph.inputs (at.graph.result_of v)
  result_reads v ne lv nl iv =
      let s = stays_at v lv nl in
      let same = s.result_of iv in
      let is : is_watch (new.graph.kind v) ≡ true = ap is_watch s.kind ∙ iv in
      ap new.graph.inputs same
      ∙ b.same_inputs (at.graph.result_of v) (u.frame.results.live v lv iv) (subst (λ (i : ℕ). new.graph.live i ≡ true) same (b.frame.results.live v nl is))
      (λ e. ne (u.frame.results.apart v w lv lives iv b.watches e))

  era_stands : (v : ℕ) (x y : Low) (env : List Part) → v ≢ w → at.graph.live v ≡ true → new.graph.live v ≡ true → at.graph.kind v ≡ watch x y env
      → Chosen (test_of (at.graph.value v)) (EraStands at.graph p v x env) (EraStands at.graph p v y env)
      → Chosen (test_of (new.graph.value v)) (EraStands new.graph p v x env) (EraStands new.graph p v y env)
  era_stands v x y env ne lv nl k st =
      subst (λ o. Chosen o (EraStands new.graph p v x env) (EraStands new.graph p v y env)) (ap test_of (sym (b.goes_on v ne lv nl).value))
      (eras_on at.graph new.graph p v x y env (test_of (at.graph.value v)) (stays_in (suc v) (era_outside v ne nl)) (b.members v lv nl ne) (stays_at v lv nl).level (result_reads v ne lv nl (ap is_watch k)) st)

  eras : ErasUnderWay p old new
  eras = record {
    stand = λ v x y env nl chosen k. elim (by_number v w) [
      | inl e ↦ subst (λ (i : ℕ). Chosen (test_of (new.graph.value i)) (EraStands new.graph p i x env) (EraStands new.graph p i y env)) (sym e)
          (b.stands x y env (sym b.kind ∙ ap new.graph.kind (sym e) ∙ k))
      | inr ne ↦ elim (bool_case (at.graph.live v)) [
        | inl lv ↦
            let g = b.goes_on v ne lv nl in
            let had : HasChosen old at v = elim chosen [ inl d ↦ inl (sym g.done ∙ d) | inr o ↦ inr o ] in
            let was = sym g.kind ∙ k in
            era_stands v x y env ne lv nl was (u.eras.stand v x y env lv had was)
        | inr f ↦ elim chosen [
          | inl d ↦ both_bools (new.done v) d (b.born v f nl).done
          | inr o ↦ both_bools (old.live v) o (further v f nl)
        ]
      ]
    ];
    none = λ v m nl d o nm er.
        let ne = open_apart v d in
        elim (bool_case (at.graph.live m)) [
          | inr f ↦ ne (born_here m v f nm er)
          | inl lm ↦
              let was : at.graph.era m ≡ suc v = sym (stays_at m lm nm).era ∙ er in
              let lv : at.graph.live v ≡ true = (u.frame.members.owner m v lm was).0 in
              u.eras.none v m lv (sym (b.goes_on v ne lv nl).done ∙ d) o lm was
        ];
  }

  goes : Goes old new.graph (cell_in old)
  goes = record {
    cell = λ m o nl. cell_of_old old m o;
    cell_new = λ m o nl. cell_of_new old m o;
    era_same = λ v o nl key. elim (by_number v w) [
      | inl e ↦
          let ow : old.live w ≡ true = subst (λ (i : ℕ). old.live i ≡ true) e o in
          absurd (b.other_key ow (subst (λ (i : ℕ). test_of (new.graph.value i) ≡ test_of (old.value i)) e key ∙ ap test_of (sym (u.nodes.waits w lives was_open ow).0)))
      | inr ne ↦
          let lv = was_there v o nl in
          b.members v lv nl ne ∙ u.goes.era_same v o lv (ap test_of (sym (b.goes_on v ne lv nl).value) ∙ key)
    ];
    era_new = λ v m o nl key nm er. elim (bool_case (at.graph.live m)) [
      | inr f ↦ further m f nm
      | inl lm ↦
          let was : at.graph.era m ≡ suc v = sym (stays_at m lm nm).era ∙ er in
          elim (by_number v w) [
            | inl e ↦ absurd (outside m nm (here m lm (was ∙ ap suc e)))
            | inr ne ↦
                let lv = was_there v o nl in
                u.goes.era_new v m o lv (λ same. key (ap test_of (b.goes_on v ne lv nl).value ∙ same)) lm was
          ]
    ];
    era_born = λ v m o nm er. elim (bool_case (at.graph.live m)) [
      | inr f ↦ further m f nm
      | inl lm ↦ u.goes.era_born v m o lm (sym (stays_at m lm nm).era ∙ er)
    ];
  }

  -- THE TURNING. What is under way stays so.
  pub rebuilt_keeps : UnderWay p is ms sources old new
  rebuilt_keeps = record {
    frame = b.frame;
    nodes = nodes;
    eras = eras;
    goes = goes;
    items = items_on at.graph new.graph p 0 (stays_in 0 (λ m lv er i. inside_owned at.graph w m i er)) 2000 is [] ms u.items;
  }
