-- Edges through their changes.
use Rattle.std.proofs.Common.{◌≡◌, ◌≢◌, ℕ, zero, suc, ◌+◌, ◌-◌, ◌*◌, ◌<◌, ◌≤◌, List, [], ◌∷◌, ◌++◌, length, replicate, max, ◌⊎◌, inl, inr, Option, Bool, true, false, refl, sym, ap, ◌∙◌, subst, arith, get_or-set_same, get_or-set_other, length-append, length-set, slice_set}
use Rattle.std.proofs.lemmas.List.{get_or-append_right, get_or-replicate, get_or_append_left, get_or_past, length-replicate}
use Rattle.fr_links.specs.Lists.{has_item, list_at, with_empty}
use Rattle.fr_links.proofs.Has.{true_false}
use Rattle.fr_value.specs.declared.now.Held.{Held}
use Rattle.fr_store.specs.declared.edges.Edges.{Edges}
use Rattle.fr_store.specs.declared.edges.Run.{Run}
use Rattle.fr_store.specs.Nodes.{is_number, signal_at}
use Rattle.fr_store.specs.Kept.{AreEdges, AreListed, IsPlace, Widened, Wires, edge_count, first_at, owner_at, room_at, run_at}
use Rattle.fr_store.proofs.Lists.{by_bound, by_number}

-- new lists at the end are empty
pub grown_at : (lists : List (List ℕ)) (many l : ℕ) → list_at (with_empty lists many) l ≡ list_at lists l
grown_at lists many l = elim (by_bound l (length lists)) [
  | inl lt ↦ get_or_append_left lists (replicate (many - length lists) []) [] l lt
  | inr le ↦ get_or-append_right lists (replicate (many - length lists) []) (length lists) l [] refl le ∙ empty (many - length lists) (l - length lists) ∙ sym (get_or_past lists l [] le)
]
  where
    empty : (n k : ℕ) → list_at (replicate n []) k ≡ []
    empty n k = elim (by_bound k n) [
      | inl lt ↦ get_or-replicate n k [] [] lt
      | inr le ↦ get_or_past (replicate n []) k [] (subst (λ (m : ℕ). m ≤ k) (sym (length-replicate n [])) le)
    ]

grown_long : (lists : List (List ℕ)) (many : ℕ) → length (with_empty lists many) ≡ length lists + (many - length lists)
grown_long lists many = length-append lists (replicate (many - length lists) []) ∙ ap (λ (n : ℕ). length lists + n) (length-replicate (many - length lists) [])

-- a number got edges behind all that there were
pub record Grows (old new : Edges) (number room : ℕ) : Type 0 where
  pub run : run_at new.runs.items number ≡ record { first = edge_count old; room = room }
  pub other : (i : ℕ) → i ≢ number → run_at new.runs.items i ≡ run_at old.runs.items i
  pub len : ((number < length old.runs.items) × (length new.runs.items ≡ length old.runs.items)) ⊎ ((number ≡ length old.runs.items) × (length new.runs.items ≡ length old.runs.items + 1))
  pub owners_len : edge_count new ≡ edge_count old + room
  pub owners_old : (edge : ℕ) → edge < edge_count old → owner_at new.owners.items edge ≡ owner_at old.owners.items edge
  pub owners_new : (edge : ℕ) → edge_count old ≤ edge → edge < edge_count old + room → owner_at new.owners.items edge ≡ number
  pub lists : new.links.lists ≡ with_empty old.links.lists (number + 1)
  pub items : new.links.items ≡ max old.links.items (edge_count old + room)
  pub four : 4 ≤ room
  pub most : edge_count old + room ≤ 2147483648

module _ (old new : Edges) (number room : ℕ) (e : AreEdges old) (g : Grows old new number room)
    (idle : (l p : ℕ) → p < room_at old.runs.items number → has_item (list_at old.links.lists l) (first_at old.runs.items number + p) ≡ false) where
  first_here : first_at new.runs.items number ≡ edge_count old
  first_here = ap (λ (r : Run). r.first) g.run

  room_here : room_at new.runs.items number ≡ room
  room_here = ap (λ (r : Run). r.room) g.run

  first_other : (i : ℕ) → i ≢ number → first_at new.runs.items i ≡ first_at old.runs.items i
  first_other i ne = ap (λ (r : Run). r.first) (g.other i ne)

  room_other : (i : ℕ) → i ≢ number → room_at new.runs.items i ≡ room_at old.runs.items i
  room_other i ne = ap (λ (r : Run). r.room) (g.other i ne)

  was_there : (i : ℕ) → i ≢ number → i < length new.runs.items → i < length old.runs.items
  was_there i ne lt = elim g.len [
    | inl same ↦ subst (λ (n : ℕ). i < n) same.1 lt
    | inr more ↦ below (length old.runs.items) (length new.runs.items) more.0 more.1 lt
  ]
    where
      below : (o n : ℕ) → number ≡ o → n ≡ o + 1 → i < n → i < o
      below o n a b h = omega arith

  stays_there : (i : ℕ) → i < length old.runs.items → i < length new.runs.items
  stays_there i lt = elim g.len [
    | inl same ↦ subst (λ (n : ℕ). i < n) (sym same.1) lt
    | inr more ↦ later (length old.runs.items) (length new.runs.items) more.1 lt
  ]
    where
      later : (o n : ℕ) → n ≡ o + 1 → i < o → i < n
      later o n b h = omega arith

  pub there_now : number < length new.runs.items
  there_now = elim g.len [
    | inl same ↦ subst (λ (n : ℕ). number < n) (sym same.1) same.0
    | inr more ↦ last (length old.runs.items) (length new.runs.items) more.0 more.1
  ]
    where
      last : (o n : ℕ) → number ≡ o → n ≡ o + 1 → number < n
      last o n a b = omega arith

  list_same : (l : ℕ) → list_at new.links.lists l ≡ list_at old.links.lists l
  list_same l = ap (λ (ls : List (List ℕ)). list_at ls l) g.lists ∙ grown_at old.links.lists (number + 1) l

  -- what was in a list was no edge of the number
  place_on : (l edge : ℕ) → has_item (list_at old.links.lists l) edge ≡ true → IsPlace old.runs.items edge → IsPlace new.runs.items edge
  place_on l edge h p = elim (by_number p.number number) [
    | inl same ↦
        true_false (has_item (list_at old.links.lists l) edge) h
        (ap (λ (x : ℕ). has_item (list_at old.links.lists l) x) (p.same ∙ ap (λ (x : ℕ). first_at old.runs.items x + p.place) same)
        ∙ idle l p.place (subst (λ (x : ℕ). p.place < room_at old.runs.items x) same p.within))
    | inr ne ↦ record {
      number = p.number;
      place = p.place;
      there = stays_there p.number p.there;
      within = subst (λ (x : ℕ). p.place < x) (sym (room_other p.number ne)) p.within;
      same = p.same ∙ ap (λ (x : ℕ). x + p.place) (sym (first_other p.number ne));
    }
  ]

  pub grown_edges : AreEdges new
  grown_edges = record {
    runs = λ i lt. elim (by_number i number) [
      | inl same ↦ subst (λ (x : ℕ). (4 ≤ room_at new.runs.items x) × (first_at new.runs.items x + room_at new.runs.items x ≤ edge_count new)) (sym same)
          (let a = first_here in
          let b = room_here in
          let d = g.four in
          let f = g.owners_len in
          (omega arith, omega arith))
      | inr ne ↦
          let r = e.runs i (was_there i ne lt) in
          let a = first_other i ne in
          let b = room_other i ne in
          let f = g.owners_len in
          let r0 = r.0 in
          let r1 = r.1 in
          (omega arith, omega arith)
    ];
    owned = λ i place lt small. elim (by_number i number) [
      | inl same ↦
          let a = first_here in
          let b = room_here in
          let in_room : place < room = omega (arith, subst (λ (x : ℕ). place < room_at new.runs.items x) same small) in
          ap (λ (x : ℕ). owner_at new.owners.items (first_at new.runs.items x + place)) same
          ∙ ap (λ (x : ℕ). owner_at new.owners.items (x + place)) a
          ∙ g.owners_new (edge_count old + place) (omega arith) (omega arith) ∙ sym same
      | inr ne ↦
          let was = was_there i ne lt in
          let r = e.runs i was in
          let r1 = r.1 in
          let b = room_other i ne in
          let in_room : place < room_at old.runs.items i = omega arith in
          ap (λ (x : ℕ). owner_at new.owners.items (x + place)) (first_other i ne)
          ∙ g.owners_old (first_at old.runs.items i + place) (omega arith) ∙ e.owned i place was in_room
    ];
    inside = λ l edge h.
        let was : has_item (list_at old.links.lists l) edge ≡ true = subst (λ (xs : List ℕ). has_item xs edge ≡ true) (list_same l) h in
        place_on l edge was (e.inside l edge was);
    lists =
        let long : length new.links.lists ≡ length old.links.lists + (number + 1 - length old.links.lists) = ap length g.lists ∙ grown_long old.links.lists (number + 1) in
        let was = e.lists in
        enough_lists (length old.runs.items) (length new.runs.items) (length old.links.lists) (length new.links.lists) g.len long was;
    items =
        let a = g.items in
        let b = g.owners_len in
        let d = e.items in
        omega arith;
    small =
        let b = g.owners_len in
        let d = g.most in
        omega arith;
  }
    where
      enough_lists : (o n ol nl : ℕ) → ((number < o) × (n ≡ o)) ⊎ ((number ≡ o) × (n ≡ o + 1)) → nl ≡ ol + (number + 1 - ol) → o ≤ ol → n ≤ nl
      enough_lists o n ol nl len long was = elim len [
        | inl same ↦ let a = same.1 in omega arith
        | inr more ↦ let a = more.0 in let b = more.1 in omega arith
      ]

  -- the new edges are in no list
  new_idle : (l place : ℕ) → place < room → has_item (list_at new.links.lists l) (edge_count old + place) ≡ false
  new_idle l place lt = no_item (has_item (list_at new.links.lists l) (edge_count old + place)) (λ h.
      let was : has_item (list_at old.links.lists l) (edge_count old + place) ≡ true =
      subst (λ (xs : List ℕ). has_item xs (edge_count old + place) ≡ true) (list_same l) h in
      let p = e.inside l (edge_count old + place) was in
      let r = (e.runs p.number p.there).1 in
      let a = p.same in
      let b = p.within in
      omega arith)
    where
      no_item : (b : Bool) → (b ≡ true → ⊥) → b ≡ false
      no_item true f = absurd (f refl)
      no_item false f = refl

  pub grown_widened : (places : ℕ) → places ≤ room → Widened old new number places
  grown_widened places le = record {
    there = there_now;
    len = g.len;
    wide = subst (λ (x : ℕ). places ≤ x) (sym room_here) le;
    others = g.other;
    lists = list_same;
    idle = λ l place lt.
        ap (λ (x : ℕ). has_item (list_at new.links.lists l) (x + place)) first_here ∙ new_idle l place (subst (λ (x : ℕ). place < x) room_here lt);
  }

-- the edges of one number went to other lists
pub wired_edges : (old new : Edges) (number : ℕ) (names : ℕ → Option ℕ) → AreEdges old → new.runs.items ≡ old.runs.items → new.owners.items ≡ old.owners.items
    → length new.links.lists ≡ length old.links.lists → new.links.items ≡ old.links.items → number < length old.runs.items
    → Wires old.links.lists new.links.lists (first_at old.runs.items number) (room_at old.runs.items number) names → AreEdges new
wired_edges old new number names e runs owners lists items there w = record {
  runs = λ i lt.
      let r = e.runs i (subst (λ (rs : List Run). i < length rs) runs lt) in (
        subst (λ (rs : List Run). 4 ≤ room_at rs i) (sym runs) r.0,
        subst (λ (rs : List Run). first_at rs i + room_at rs i ≤ edge_count new) (sym runs)
            (subst (λ (os : List ℕ). first_at old.runs.items i + room_at old.runs.items i ≤ 4 * length os) (sym owners) r.1),
      );
  owned = λ i place lt small.
      ap (λ (rs : List Run). owner_at new.owners.items (first_at rs i + place)) runs ∙ ap (λ (os : List ℕ). owner_at os (first_at old.runs.items i + place)) owners
      ∙ e.owned i place (subst (λ (rs : List Run). i < length rs) runs lt) (subst (λ (rs : List Run). place < room_at rs i) runs small);
  inside = λ l edge h. subst (λ (rs : List Run). IsPlace rs edge) (sym runs) (place_of l edge h);
  lists = let a : length new.runs.items ≡ length old.runs.items = ap length runs in let b = e.lists in omega arith;
  items = let a : edge_count new ≡ edge_count old = ap (λ (os : List ℕ). 4 * length os) owners in let b = e.items in omega arith;
  small = let a : edge_count new ≡ edge_count old = ap (λ (os : List ℕ). 4 * length os) owners in let b = e.small in omega arith;
}
  where
    was : (l edge : ℕ) → (edge < first_at old.runs.items number) ⊎ (first_at old.runs.items number + room_at old.runs.items number ≤ edge)
        → has_item (list_at new.links.lists l) edge ≡ true → IsPlace old.runs.items edge
    was l edge away h = e.inside l edge (sym (w.others l edge away) ∙ h)

    place_of : (l edge : ℕ) → has_item (list_at new.links.lists l) edge ≡ true → IsPlace old.runs.items edge
    place_of l edge h = elim (by_bound edge (first_at old.runs.items number)) [
      | inl before ↦ was l edge (inl before) h
      | inr after ↦ elim (by_bound edge (first_at old.runs.items number + room_at old.runs.items number)) [
        | inr behind ↦ was l edge (inr behind) h
        | inl within ↦ record { number = number; place = edge - first_at old.runs.items number; there = there; within = omega arith; same = omega arith }
      ]
    ]

-- the inputs stay, and a number that has none got more edges
pub listed_wider : (old new : Edges) (number places : ℕ) (inputs : ℕ → List Held) → AreListed old inputs → inputs number ≡ []
    → Widened old new number places → AreListed new inputs
listed_wider old new number places inputs a none w = record {
  enough = λ i. elim (by_number i number) [
    | inl same ↦ let z : length (inputs i) ≡ 0 = ap (λ (x : ℕ). length (inputs x)) same ∙ ap length none in omega arith
    | inr ne ↦ subst (λ (r : Run). length (inputs i) ≤ r.room) (sym (w.others i ne)) (a.enough i)
  ];
  listed = λ l i place lt small. elim (by_number i number) [
    | inl same ↦
        ap (λ (x : ℕ). has_item (list_at new.links.lists l) (first_at new.runs.items x + place)) same
        ∙ w.idle l place (subst (λ (x : ℕ). place < room_at new.runs.items x) same small)
        ∙ sym (ap (λ (x : ℕ). is_number (signal_at (inputs x) place) l) same ∙ ap (λ (hs : List Held). is_number (signal_at hs place) l) none)
    | inr ne ↦
        ap (λ (xs : List ℕ). has_item xs (first_at new.runs.items i + place)) (w.lists l)
        ∙ ap (λ (r : Run). has_item (list_at old.links.lists l) (r.first + place)) (w.others i ne)
        ∙ a.listed l i place (was_before i ne lt) (subst (λ (r : Run). place < r.room) (w.others i ne) small)
  ];
}
  where
    was_before : (i : ℕ) → i ≢ number → i < length new.runs.items → i < length old.runs.items
    was_before i ne lt = elim w.len [
      | inl same ↦ subst (λ (n : ℕ). i < n) same.1 lt
      | inr more ↦ let x = more.0 in let y = more.1 in omega arith
    ]

-- the inputs of one number changed, and so the lists of its edges
pub listed_anew : (old new : Edges) (number : ℕ) (before after : ℕ → List Held) → AreEdges old → AreListed old before → new.runs.items ≡ old.runs.items
    → number < length old.runs.items → length (after number) ≤ room_at old.runs.items number → ((i : ℕ) → i ≢ number → after i ≡ before i)
    → Wires old.links.lists new.links.lists (first_at old.runs.items number) (room_at old.runs.items number) (signal_at (after number)) → AreListed new after
listed_anew old new number before after e a runs there wide others w = record {
  enough = λ i. subst (λ (rs : List Run). length (after i) ≤ room_at rs i) (sym runs) (elim (by_number i number) [
    | inl same ↦ subst (λ (x : ℕ). length (after x) ≤ room_at old.runs.items x) (sym same) wide
    | inr ne ↦ subst (λ (hs : List Held). length hs ≤ room_at old.runs.items i) (sym (others i ne)) (a.enough i)
  ]);
  listed = λ l i place lt small.
      let lt' : i < length old.runs.items = subst (λ (rs : List Run). i < length rs) runs lt in
      let small' : place < room_at old.runs.items i = subst (λ (rs : List Run). place < room_at rs i) runs small in
      ap (λ (rs : List Run). has_item (list_at new.links.lists l) (first_at rs i + place)) runs
      ∙ elim (by_number i number) [
        | inl same ↦
            ap (λ (x : ℕ). has_item (list_at new.links.lists l) (first_at old.runs.items x + place)) same
            ∙ w.here l place (subst (λ (x : ℕ). place < room_at old.runs.items x) same small')
            ∙ ap (λ (x : ℕ). is_number (signal_at (after x) place) l) (sym same)
        | inr ne ↦
            w.others l (first_at old.runs.items i + place) (away i place ne lt' small') ∙ a.listed l i place lt' small'
            ∙ ap (λ (hs : List Held). is_number (signal_at hs place) l) (sym (others i ne))
      ];
}
  where
    -- the edges of another number are others
    away : (i place : ℕ) → i ≢ number → i < length old.runs.items → place < room_at old.runs.items i
        → (first_at old.runs.items i + place < first_at old.runs.items number) ⊎ (first_at old.runs.items number + room_at old.runs.items number ≤ first_at old.runs.items i + place)
    away i place ne lt small = elim (by_bound (first_at old.runs.items i + place) (first_at old.runs.items number)) [
      | inl low ↦ inl low
      | inr le ↦ elim (by_bound (first_at old.runs.items i + place) (first_at old.runs.items number + room_at old.runs.items number)) [
        | inr high ↦ inr high
        | inl within ↦
            let p : ℕ = first_at old.runs.items i + place - first_at old.runs.items number in
            let eq : first_at old.runs.items number + (first_at old.runs.items i + place - first_at old.runs.items number) ≡ first_at old.runs.items i + place = omega arith in
            absurd (ne (sym (e.owned i place lt small)
            ∙ ap (owner_at old.owners.items) (sym eq)
            ∙ e.owned number (first_at old.runs.items i + place - first_at old.runs.items number) there (omega arith)))
      ]
    ]

pub grows : (old new : Edges) (number room first many : ℕ)
    → ((number < length old.runs.items) × (new.runs.items ≡ slice_set old.runs.items number (record { first = first; room = room })))
    ⊎ ((number ≡ length old.runs.items) × (new.runs.items ≡ old.runs.items ++ (record { first = first; room = room }) ∷ []))
    → first ≡ edge_count old → many ≡ edge_count old → edge_count new ≡ first + room
    → ((k : ℕ) → k < first + room → k < many → owner_at new.owners.items k ≡ owner_at old.owners.items k)
    → ((k : ℕ) → many ≤ k → k < first + room → owner_at new.owners.items k ≡ number)
    → new.links.lists ≡ with_empty old.links.lists (number + 1) → new.links.items ≡ max old.links.items (first + room) → 4 ≤ room
    → first + room ≤ 2147483648 → Grows old new number room
grows old new number room first many runs at len long before behind lists items four most = record {
  run = here ∙ ap (λ (n : ℕ). record { first = n; room = room }) at;
  other = other;
  len = elim runs [
    | inl s ↦ inl (s.0, ap length s.1 ∙ length-set old.runs.items number (record { first = first; room = room }))
    | inr p ↦ inr (p.0, ap length p.1 ∙ length-append old.runs.items ((record { first = first; room = room }) ∷ []))
  ];
  owners_len = long ∙ ap (λ (n : ℕ). n + room) at;
  owners_old = λ edge lt. before edge (omega arith) (omega arith);
  owners_new = λ edge le lt. behind edge (omega arith) (omega arith);
  lists = lists;
  items = items ∙ ap (λ (n : ℕ). max old.links.items (n + room)) at;
  four = four;
  most = subst (λ (n : ℕ). n + room ≤ 2147483648) at most;
}
  where
    at_end : (rs : List Run) (r : Run) → run_at (rs ++ r ∷ []) (length rs) ≡ r
    at_end [] r = refl
    at_end (x ∷ rs) r = at_end rs r

    not_end : (rs : List Run) (r : Run) (i : ℕ) → i ≢ length rs → run_at (rs ++ r ∷ []) i ≡ run_at rs i
    not_end [] r zero ne = absurd (ne refl)
    not_end [] r (suc i) ne = refl
    not_end (x ∷ rs) r zero ne = refl
    not_end (x ∷ rs) r (suc i) ne = not_end rs r i (λ e. ne (ap suc e))

    here : run_at new.runs.items number ≡ record { first = first; room = room }
    here = elim runs [
      | inl s ↦ ap (λ (rs : List Run). run_at rs number) s.1 ∙ get_or-set_same old.runs.items number (record { first = first; room = room }) (record { first = 0; room = 0 }) s.0
      | inr p ↦ ap (λ (rs : List Run). run_at rs number) p.1 ∙ ap (λ (n : ℕ). run_at (old.runs.items ++ (record { first = first; room = room }) ∷ []) n) p.0 ∙ at_end old.runs.items (record { first = first; room = room })
    ]

    other : (i : ℕ) → i ≢ number → run_at new.runs.items i ≡ run_at old.runs.items i
    other i ne = elim runs [
      | inl s ↦ ap (λ (rs : List Run). run_at rs i) s.1 ∙ get_or-set_other old.runs.items number i (record { first = first; room = room }) (record { first = 0; room = 0 }) ne
      | inr p ↦ ap (λ (rs : List Run). run_at rs i) p.1 ∙ not_end old.runs.items (record { first = first; room = room }) i (λ e. ne (e ∙ sym p.0))
    ]
