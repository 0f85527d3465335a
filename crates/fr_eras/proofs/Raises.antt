-- One lifting keeps a raising, and ranks can be made small.
use Rattle.std.proofs.Common.{◌≡◌, ◌≢◌, ℕ, zero, suc, ◌+◌, ◌-◌, ◌<◌, ◌≤◌, List, [], ◌∷◌, ◌++◌, length, ◌⊎◌, inl, inr, cond, Bool, true, false, refl, sym, ap, ◌∙◌, subst, arith, length-append}
use Rattle.fr_links.specs.Lists.{has_item}
use Rattle.fr_links.proofs.Has.{by_number, by_truth, has_append_left, here, there}
use Rattle.fr_eras.specs.Raise.{AreRaised, CanRaise, Edges, Lifts, Raising, Steps, noted, rise_left, sum_to}
use Rattle.fr_eras.proofs.Moves.{alone_is, pushed_has, pushed_is}

sum_le : (n : ℕ) (f g : ℕ → ℕ) → ((i : ℕ) → f i ≤ g i) → sum_to n f ≤ sum_to n g
sum_le zero f g le = omega arith
sum_le (suc n) f g le = let a : sum_to n f ≤ sum_to n g = sum_le n f g le in let b : f n ≤ g n = le n in omega arith

sum_less : (n j : ℕ) (f g : ℕ → ℕ) → ((i : ℕ) → f i ≤ g i) → j < n → f j + 1 ≤ g j → sum_to n f + 1 ≤ sum_to n g
sum_less zero j f g le lt h = absurd (omega arith)
sum_less (suc n) j f g le lt h = elim (by_number j n) [
  | inl e ↦
      let a : sum_to n f ≤ sum_to n g = sum_le n f g le in
      let b : f n + 1 ≤ g n = subst (λ (i : ℕ). f i + 1 ≤ g i) e h in
      omega arith
  | inr ne ↦
      let a : sum_to n f + 1 ≤ sum_to n g = sum_less n j f g le (omega arith) h in
      let b : f n ≤ g n = le n in
      omega arith
]

-- what is noted
noted_old : (work : List ℕ) (y : ℕ) → has_item work y ≡ true → noted work y ≡ work
noted_old work y h = ap (λ (b : Bool). cond b work (work ++ y ∷ [])) h

noted_new : (work : List ℕ) (y : ℕ) → has_item work y ≡ false → noted work y ≡ work ++ y ∷ []
noted_new work y n = ap (λ (b : Bool). cond b work (work ++ y ∷ [])) n

noted_has : (work : List ℕ) (y : ℕ) → has_item (noted work y) y ≡ true
noted_has work y = elim (by_truth (has_item work y)) [
  | inl h ↦ subst (λ (w : List ℕ). has_item w y ≡ true) (sym (noted_old work y h)) h
  | inr n ↦ subst (λ (w : List ℕ). has_item w y ≡ true) (sym (noted_new work y n)) (pushed_has work y)
]

noted_keeps : (work : List ℕ) (y a : ℕ) → has_item work a ≡ true → has_item (noted work y) a ≡ true
noted_keeps work y a h = elim (by_truth (has_item work y)) [
  | inl g ↦ subst (λ (w : List ℕ). has_item w a ≡ true) (sym (noted_old work y g)) h
  | inr n ↦ subst (λ (w : List ℕ). has_item w a ≡ true) (sym (noted_new work y n)) (has_append_left work (y ∷ []) a h)
]

pub noted_is : (work : List ℕ) (y a : ℕ) → has_item (noted work y) a ≡ true → (has_item work a ≡ true) ⊎ (a ≡ y)
noted_is work y a h = elim (by_truth (has_item work y)) [
  | inl g ↦ inl (subst (λ (w : List ℕ). has_item w a ≡ true) (noted_old work y g) h)
  | inr n ↦ pushed_is work y a (subst (λ (w : List ℕ). has_item w a ≡ true) (noted_new work y n) h)
]

noted_length : (work : List ℕ) (y : ℕ) → length (noted work y) ≤ length work + 1
noted_length work y = elim (by_truth (has_item work y)) [
  | inl g ↦ let e : length (noted work y) ≡ length work = ap length (noted_old work y g) in omega arith
  | inr n ↦ let e : length (noted work y) ≡ length work + 1 = ap length (noted_new work y n) ∙ length-append work (y ∷ []) in omega arith
]

module _ (edge : Edges) (rank old : ℕ → ℕ) (numbers many top id : ℕ) (can : CanRaise edge rank old numbers many top id)
    (cur new : ℕ → ℕ) (work after : List ℕ) (x y : ℕ) (left rest : ℕ → Type 0) (head : (b : ℕ) → left b → (b ≡ y) ⊎ rest b)
    (r : Raising edge rank old cur top id work x left) (e : edge x y) (l : Lifts cur new x y work after) where
  apart : x ≢ y
  apart = λ same. let h : rank x < rank y = can.rises x y e in let s : rank x ≡ rank y = ap rank same in absurd (omega arith)

  id_before : rank id < rank y
  id_before =
      let h : rank x < rank y = can.rises x y e in
      elim (r.after x (inr refl)) [ inl same ↦ let s : rank x ≡ rank id = ap rank same in omega arith | inr lt ↦ omega arith ]

  not_id : id ≢ y
  not_id = λ same. let s : rank id ≡ rank y = ap rank same in let h : rank id < rank y = id_before in absurd (omega arith)

  above_low : (h : ℕ) → ((b : ℕ) → edge id b → old b ≤ old id → h < old b) → cur y ≤ cur x → h < old y
  above_low h prem le = elim (by_number x id) [
    | inl same ↦
        let a : old y ≤ cur y = r.no_lower y in
        let b : cur x ≡ old id = ap cur same ∙ r.id_stays in
        prem y (subst (λ (i : ℕ). edge i y) same e) (omega arith)
    | inr ne ↦ elim ((r.low h prem).1 x (inr refl)) [
      | inl same ↦ absurd (ne same)
      | inr lt ↦ let a : old x < old y = can.levelled x y e ne in omega arith
    ]
  ]

  lifted : cur y ≤ cur x → new y ≡ cur x + 1 → after ≡ noted work y → Raising edge rank old new top id after x rest
  lifted le up put =
      let x_same : new x ≡ cur x = l.others x apart in
      record {
        levelled = λ a b ab. elim (by_number a y) [
          | inl s ↦ inr (inl (subst (λ (i : ℕ). has_item after i ≡ true) (sym s) y_in))
          | inr ne ↦
              let a_same : new a ≡ cur a = l.others a ne in
              elim (r.levelled a b ab) [
                | inl lt ↦ elim (by_number b y) [
                  | inl s ↦ let c : cur b ≡ cur y = ap cur s in let d : new b ≡ cur x + 1 = ap new s ∙ up in inl (omega arith)
                  | inr nb ↦ let b_same : new b ≡ cur b = l.others b nb in inl (omega arith)
                ]
                | inr more ↦ elim more [
                  | inl w ↦ inr (inl (into a w))
                  | inr p ↦ elim (head b p.1) [
                    | inl s ↦ let c : new b ≡ cur x + 1 = ap new s ∙ up in let d : cur a ≡ cur x = ap cur p.0 in inl (omega arith)
                    | inr t ↦ inr (inr (p.0, t))
                  ]
                ]
              ]
        ];
        no_lower = λ a. elim (by_number a y) [
          | inl s ↦
              let p : old y ≤ cur y = r.no_lower y in
              let q : new a ≡ cur x + 1 = ap new s ∙ up in
              let t : old a ≡ old y = ap old s in
              omega arith
          | inr ne ↦ let p : old a ≤ cur a = r.no_lower a in let q : new a ≡ cur a = l.others a ne in omega arith
        ];
        bounded = λ a. elim (by_number a y) [
          | inl s ↦
              let p : cur x ≤ top + rank x = r.bounded x in
              let q : rank x < rank y = can.rises x y e in
              let t : new a ≡ cur x + 1 = ap new s ∙ up in
              let v : rank a ≡ rank y = ap rank s in
              omega arith
          | inr ne ↦ let p : cur a ≤ top + rank a = r.bounded a in let q : new a ≡ cur a = l.others a ne in omega arith
        ];
        low = λ h prem. (
          λ a small. elim (by_number a y) [
            | inl s ↦ let p : h < old y = above_low h prem le in let q : old a ≡ old y = ap old s in absurd (omega arith)
            | inr ne ↦ l.others a ne ∙ (r.low h prem).0 a small
          ],
          λ a w. elim (out_of a w) [
            | inl t ↦ (r.low h prem).1 a t
            | inr s ↦ let p : h < old y = above_low h prem le in let q : old a ≡ old y = ap old s in inr (omega arith)
          ],
        );
        id_stays = l.others id not_id ∙ r.id_stays;
        after = λ a w. elim (out_of a w) [
          | inl t ↦ r.after a t
          | inr s ↦ let p : rank id < rank y = id_before in let q : rank a ≡ rank y = ap rank s in inr (omega arith)
        ];
      }
    where
      into : (a : ℕ) → has_item work a ≡ true → has_item after a ≡ true
      into a h = subst (λ (w : List ℕ). has_item w a ≡ true) (sym put) (noted_keeps work y a h)

      y_in : has_item after y ≡ true
      y_in = subst (λ (w : List ℕ). has_item w y ≡ true) (sym put) (noted_has work y)

      out_of : (a : ℕ) → (has_item after a ≡ true) ⊎ (a ≡ x) → ((has_item work a ≡ true) ⊎ (a ≡ x)) ⊎ (a ≡ y)
      out_of a h = elim h [
        | inl t ↦ elim (noted_is work y a (subst (λ (w : List ℕ). has_item w a ≡ true) put t)) [ inl s ↦ inl (inl s) | inr s ↦ inr s ]
        | inr t ↦ inl (inr t)
      ]

  stood : cur x < cur y → new y ≡ cur y → after ≡ work → Raising edge rank old new top id after x rest
  stood lt same put = record {
    levelled = λ a b ab.
        let sa : new a ≡ cur a = every a in
        let sb : new b ≡ cur b = every b in
        elim (r.levelled a b ab) [
          | inl p ↦ inl (omega arith)
          | inr more ↦ elim more [
            | inl w ↦ inr (inl (subst (λ (w : List ℕ). has_item w a ≡ true) (sym put) w))
            | inr p ↦ elim (head b p.1) [
              | inl s ↦ let c : cur b ≡ cur y = ap cur s in let d : cur a ≡ cur x = ap cur p.0 in inl (omega arith)
              | inr t ↦ inr (inr (p.0, t))
            ]
          ]
        ];
    no_lower = λ a. let p : old a ≤ cur a = r.no_lower a in let q : new a ≡ cur a = every a in omega arith;
    bounded = λ a. let p : cur a ≤ top + rank a = r.bounded a in let q : new a ≡ cur a = every a in omega arith;
    low = λ h prem. (λ a small. every a ∙ (r.low h prem).0 a small, λ a w. (r.low h prem).1 a (back a w));
    id_stays = every id ∙ r.id_stays;
    after = λ a w. r.after a (back a w);
  }
    where
      every : (a : ℕ) → new a ≡ cur a
      every a = elim (by_number a y) [ inl s ↦ ap new s ∙ same ∙ sym (ap cur s) | inr ne ↦ l.others a ne ]

      back : (a : ℕ) → (has_item after a ≡ true) ⊎ (a ≡ x) → (has_item work a ≡ true) ⊎ (a ≡ x)
      back a h = elim h [ inl t ↦ inl (subst (λ (w : List ℕ). has_item w a ≡ true) put t) | inr t ↦ inr t ]

  lifts_keep : Raising edge rank old new top id after x rest
  lifts_keep = elim l.how [ inl s ↦ stood s.0 s.1 s.2 | inr s ↦ lifted s.0 s.1 s.2 ]

  lifts_less : rise_left numbers (top + many) new + length after ≤ rise_left numbers (top + many) cur + length work
  lifts_less = elim l.how [
    | inl s ↦
        let a : rise_left numbers (top + many) new ≤ rise_left numbers (top + many) cur =
        sum_le numbers (λ i. top + many - new i) (λ i. top + many - cur i) (λ i. let p : new i ≡ cur i = every s.1 i in omega arith) in
        let b : length after ≡ length work = ap length s.2 in
        omega arith
    | inr s ↦
        let bx : cur x ≤ top + rank x = r.bounded x in
        let rx : rank x < rank y = can.rises x y e in
        let ry : rank y ≤ many = can.few y in
        let le : cur y ≤ cur x = s.0 in
        let up : new y ≡ cur x + 1 = s.1 in
        let a : rise_left numbers (top + many) new + 1 ≤ rise_left numbers (top + many) cur =
        sum_less numbers y (λ i. top + many - new i) (λ i. top + many - cur i)
        (λ i. elim (by_number i y) [
          | inl t ↦ let p : new i ≡ new y = ap new t in let q : cur i ≡ cur y = ap cur t in omega arith
          | inr ne ↦ let p : new i ≡ cur i = l.others i ne in omega arith
        ])
        (can.number x y e) (omega arith) in
        let b : length after ≡ length (noted work y) = ap length s.2 in
        let c : length (noted work y) ≤ length work + 1 = noted_length work y in
        omega arith
  ]
    where
      every : new y ≡ cur y → (a : ℕ) → new a ≡ cur a
      every same a = elim (by_number a y) [ inl s ↦ ap new s ∙ same ∙ sym (ap cur s) | inr ne ↦ l.others a ne ]

pub no_steps : (edge : Edges) (numbers x : ℕ) (h : ℕ → ℕ) (w : List ℕ) (left : ℕ → Type 0) → Steps edge numbers x h w left h w left
no_steps edge numbers x h w left = record { goes_on = λ rank old many top id can r. r; less = λ rank old many top id can r. omega arith }

-- the same with less to do, where that is all there was
pub steps_rest : (edge : Edges) (numbers x : ℕ) (h0 : ℕ → ℕ) (w0 : List ℕ) (left0 : ℕ → Type 0) (h1 : ℕ → ℕ) (w1 : List ℕ) (left1 rest : ℕ → Type 0)
    → ((b : ℕ) → left1 b → rest b) → Steps edge numbers x h0 w0 left0 h1 w1 left1 → Steps edge numbers x h0 w0 left0 h1 w1 rest
steps_rest edge numbers x h0 w0 left0 h1 w1 left1 rest goes s = record {
  goes_on = λ rank old many top id can r.
      let q = s.goes_on rank old many top id can r in
      record {
        levelled = λ a b ab. elim (q.levelled a b ab) [
          | inl lt ↦ inl lt
          | inr more ↦ elim more [ inl w ↦ inr (inl w) | inr p ↦ inr (inr (p.0, goes b p.1)) ]
        ];
        no_lower = q.no_lower;
        bounded = q.bounded;
        low = q.low;
        id_stays = q.id_stays;
        after = q.after;
      };
  less = s.less;
}

-- one lifting more
pub steps_more : (edge : Edges) (numbers x y : ℕ) (h0 h1 h2 : ℕ → ℕ) (w0 w1 w2 : List ℕ) (left0 left rest : ℕ → Type 0)
    → ((b : ℕ) → left b → (b ≡ y) ⊎ rest b) → edge x y → Steps edge numbers x h0 w0 left0 h1 w1 left → Lifts h1 h2 x y w1 w2
    → Steps edge numbers x h0 w0 left0 h2 w2 rest
steps_more edge numbers x y h0 h1 h2 w0 w1 w2 left0 left rest head e s l = record {
  goes_on = λ rank old many top id can r.
      lifts_keep edge rank old numbers many top id can h1 h2 w1 w2 x y left rest head (s.goes_on rank old many top id can r) e l;
  less = λ rank old many top id can r.
      let a : rise_left numbers (top + many) h1 + length w1 ≤ rise_left numbers (top + many) h0 + length w0 = s.less rank old many top id can r in
      let b : rise_left numbers (top + many) h2 + length w2 ≤ rise_left numbers (top + many) h1 + length w1 =
      lifts_less edge rank old numbers many top id can h1 h2 w1 w2 x y left rest head (s.goes_on rank old many top id can r) e l in
      omega arith;
}

pub steps_then : (edge : Edges) (numbers x : ℕ) (h0 h1 h2 : ℕ → ℕ) (w0 w1 w2 : List ℕ) (left0 left1 left2 : ℕ → Type 0)
    → Steps edge numbers x h0 w0 left0 h1 w1 left1 → Steps edge numbers x h1 w1 left1 h2 w2 left2 → Steps edge numbers x h0 w0 left0 h2 w2 left2
steps_then edge numbers x h0 h1 h2 w0 w1 w2 left0 left1 left2 s t = record {
  goes_on = λ rank old many top id can r. t.goes_on rank old many top id can (s.goes_on rank old many top id can r);
  less = λ rank old many top id can r.
      let a : rise_left numbers (top + many) h1 + length w1 ≤ rise_left numbers (top + many) h0 + length w0 = s.less rank old many top id can r in
      let b : rise_left numbers (top + many) h2 + length w2 ≤ rise_left numbers (top + many) h1 + length w1 =
      t.less rank old many top id can (s.goes_on rank old many top id can r) in
      omega arith;
}

-- at the start, after a taking, and at the end
abbrev pub none : ℕ → Type 0
none b = ⊥

pub raising_begins : (edge : Edges) (rank old : ℕ → ℕ) (numbers many top id : ℕ) → CanRaise edge rank old numbers many top id
    → Raising edge rank old old top id (id ∷ []) id none
raising_begins edge rank old numbers many top id can = record {
  levelled = λ a b ab. elim (by_number a id) [
    | inl s ↦ inr (inl (subst (λ (i : ℕ). has_item (id ∷ []) i ≡ true) (sym s) (here id [])))
    | inr ne ↦ inl (can.levelled a b ab ne)
  ];
  no_lower = λ a. omega arith;
  bounded = λ a. let t : old a ≤ top = can.top_is a in omega arith;
  low = λ h prem. (λ a small. refl, λ a w. inl (only_id a w));
  id_stays = refl;
  after = λ a w. inl (only_id a w);
}
  where
    only_id : (a : ℕ) → (has_item (id ∷ []) a ≡ true) ⊎ (a ≡ id) → a ≡ id
    only_id a w = elim w [ inl h ↦ alone_is id a h | inr e ↦ e ]

pub raising_takes : (edge : Edges) (rank old cur : ℕ → ℕ) (top id z x : ℕ) (work : List ℕ) → Raising edge rank old cur top id (x ∷ work) z none
    → Raising edge rank old cur top id work x (edge x)
raising_takes edge rank old cur top id z x work r = record {
  levelled = λ a b ab. elim (r.levelled a b ab) [
    | inl p ↦ inl p
    | inr more ↦ elim more [
      | inl w ↦ elim (by_number a x) [
        | inl s ↦ inr (inr (s, subst (λ (i : ℕ). edge i b) s ab))
        | inr ne ↦ inr (inl (later a ne w))
      ]
      | inr p ↦ absurd p.1
    ]
  ];
  no_lower = r.no_lower;
  bounded = r.bounded;
  low = λ h prem. ((r.low h prem).0, λ a w. (r.low h prem).1 a (back a w));
  id_stays = r.id_stays;
  after = λ a w. r.after a (back a w);
}
  where
    later : (a : ℕ) → a ≢ x → has_item (x ∷ work) a ≡ true → has_item work a ≡ true
    later a ne h = grind (arith, h)

    back : (a : ℕ) → (has_item work a ≡ true) ⊎ (a ≡ x) → (has_item (x ∷ work) a ≡ true) ⊎ (a ≡ z)
    back a w = elim w [
      | inl h ↦ inl (there x a work h)
      | inr e ↦ inl (subst (λ (i : ℕ). has_item (x ∷ work) i ≡ true) (sym e) (here x work))
    ]

pub raising_ends : (edge : Edges) (rank old cur : ℕ → ℕ) (numbers many top id z : ℕ) → CanRaise edge rank old numbers many top id
    → Raising edge rank old cur top id [] z none → AreRaised edge old cur (top + many) id
raising_ends edge rank old cur numbers many top id z can r = record {
  levelled = λ a b ab. elim (r.levelled a b ab) [ inl p ↦ p | inr more ↦ elim more [ inl w ↦ cc | inr p ↦ absurd p.1 ] ];
  no_lower = r.no_lower;
  bounded = λ a. let p : cur a ≤ top + rank a = r.bounded a in let q : rank a ≤ many = can.few a in omega arith;
  low = λ h prem. (r.low h prem).0;
}
