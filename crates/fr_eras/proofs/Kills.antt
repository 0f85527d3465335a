-- One era more ends.
use Rattle.std.proofs.Common.{◌≡◌, ◌≢◌, ℕ, suc, ◌+◌, ◌-◌, ◌^◌, ◌<◌, ◌≤◌, List, [], ◌∷◌, ◌++◌, length, ◌⊎◌, inl, inr, Option, Some, None, IsSome, true, false, slice_get, refl, sym, ap, ◌∙◌, subst, arith, append_assoc, length-append}
use Rattle.std.proofs.lemmas.List.{append-nil}
use Rattle.fr_links.specs.Lists.{has_item, list_at, list_of}
use Rattle.fr_links.specs.Rings.{AllDifferent}
use Rattle.fr_links.proofs.Has.{by_number, by_truth, has_append_cases, has_append_left, has_append_right, here, true_false}
use Rattle.fr_links.proofs.Others.{few_different}
use Rattle.fr_queue.specs.Queue.{Queued, Sets}
use Rattle.fr_eras.specs.Lives.{Lives, Deeper, EndsEra, EndsWith, Here, Killed, LeavesQueue, Under, grave, is_era, members}
use Rattle.fr_eras.specs.Kept.{AreLives, Killing, NoneCame}
use Rattle.fr_eras.proofs.Lookups.{in_this_list, is_some}
use Rattle.fr_eras.proofs.Moves.{pushed_has, pushed_is}
use Rattle.fr_eras.proofs.Places.{at_seam, first_of, none_first, past_seam, place_here, place_in, place_next}

pub killing_begins : (old cur : Lives) (queue : Queued) (era : ℕ) (at : Option ℕ) → EndsEra old cur era → AreLives cur → NoneCame old.lists cur.lists
    → at ≡ slice_get (members old era) 0 → Killing old cur queue queue era at
killing_begins old cur queue era at ends lives came is = record {
  seen = [];
  waiting = members old era;
  at_is = is;
  buried = ends.moved ∙ ap (λ (xs : List ℕ). xs ++ members old era) (sym (append-nil (grave old)));
  seen_under = λ node h. cc;
  waiting_under = λ node h. Here node h;
  each = λ other. elim (by_number other era) [ inl e ↦ inl (inl e) | inr apart ↦ inr (ends.each other apart, ends.eras other apart) ];
  done = λ other t. elim t [
    | inl e ↦ (ap (members cur) e ∙ ends.empty, ap (is_era cur) e ∙ ends.ended, λ node h. inr (subst (λ (n : ℕ). has_item (members old n) node ≡ true) e h))
    | inr p ↦ true_false (has_item [] p.0) p.1 refl
  ];
  out = λ node h. cc;
  others = λ node n. refl;
  lives = lives;
  came = came;
}

module _ (old cur : Lives) (before queue : Queued) (era node : ℕ) (k : Killing old cur before queue era (Some node)) where
  pub rest : List ℕ
  rest = (first_of k.waiting node k.at_is).0

  waits : k.waiting ≡ node ∷ rest
  unfolding rest
  waits = (first_of k.waiting node k.at_is).1

  waiting_here : has_item k.waiting node ≡ true
  waiting_here = subst (λ (xs : List ℕ). has_item xs node ≡ true) (sym waits) (here node rest)

  in_grave : has_item (grave cur) node ≡ true
  in_grave = subst (λ (xs : List ℕ). has_item xs node ≡ true) (sym k.buried) (has_append_right (grave old ++ k.seen) k.waiting node waiting_here)

  pub node_small : node < 2 ^ 32
  node_small = k.lives.apart.small 0 node in_grave

  whole : grave cur ≡ (grave old ++ k.seen) ++ node ∷ rest
  whole = k.buried ∙ ap (λ (xs : List ℕ). (grave old ++ k.seen) ++ xs) waits

  module _ (new : Lives) (ends : EndsEra cur new (node + 1)) (lives : AreLives new) (came : NoneCame cur.lists new.lists) where
    more : List ℕ
    more = members cur (node + 1)

    all_new : grave new ≡ (grave old ++ k.seen) ++ node ∷ (rest ++ members cur (node + 1))
    all_new = ends.moved ∙ ap (λ (xs : List ℕ). xs ++ members cur (node + 1)) whole ∙ append_assoc {A = ℕ} (grave old ++ k.seen) (node ∷ rest) (members cur (node + 1))

    pub stands_now : IsSome (list_of new.lists node)
    stands_now =
        is_some (list_of new.lists node) 0
        (in_this_list new.lists node (λ l m h g. lives.apart.one l m node h g) 0
        (subst (λ (xs : List ℕ). has_item xs node ≡ true) (sym all_new)
        (has_append_right (grave old ++ k.seen) (node ∷ (rest ++ members cur (node + 1))) node (here node (rest ++ members cur (node + 1))))))

    module _ (at : Option ℕ) (next : (l place : ℕ) → slice_get (list_at new.lists l) place ≡ Some node → at ≡ slice_get (list_at new.lists l) (place + 1)) where
      next_is : at ≡ slice_get (rest ++ members cur (node + 1)) 0
      next_is =
          next 0 (length (grave old ++ k.seen))
          (ap (λ (xs : List ℕ). slice_get xs (length (grave old ++ k.seen))) all_new ∙ at_seam (grave old ++ k.seen) node (rest ++ members cur (node + 1)))
          ∙ ap (λ (xs : List ℕ). slice_get xs (length (grave old ++ k.seen) + 1)) all_new
          ∙ past_seam (grave old ++ k.seen) node (rest ++ members cur (node + 1))

      pub nearer : 2 ^ 32 - place_in (grave new) at < 2 ^ 32 - place_in (grave cur) (Some node)
      nearer =
          let here_at : place_in (grave cur) (Some node) ≡ length (grave old ++ k.seen) =
          ap (λ (xs : List ℕ). place_in xs (Some node)) whole
          ∙ place_here (grave old ++ k.seen) node rest (subst AllDifferent whole (k.lives.apart.once 0)) in
          let then_at : place_in (grave new) at ≡ suc (length (grave old ++ k.seen)) =
          ap (λ (xs : List ℕ). place_in xs at) all_new
          ∙ ap (place_in ((grave old ++ k.seen) ++ node ∷ (rest ++ members cur (node + 1)))) next_is
          ∙ place_next (grave old ++ k.seen) node (rest ++ members cur (node + 1)) (subst AllDifferent all_new (lives.apart.once 0)) in
          let few : length (grave cur) ≤ 2 ^ 32 = few_different (2 ^ 32) (grave cur) (k.lives.apart.once 0) (λ i h. k.lives.apart.small 0 i h) in
          let long : length (grave cur) ≡ length (grave old ++ k.seen) + length (node ∷ rest) = ap length whole ∙ length-append (grave old ++ k.seen) (node ∷ rest) in
          let some_left : 0 < length (node ∷ rest) = positive rest in
          below (place_in (grave new) at) (place_in (grave cur) (Some node)) (length (grave old ++ k.seen)) (length (node ∷ rest)) (length (grave cur)) (2 ^ 32) here_at then_at few long some_left
        where
          positive : (xs : List ℕ) → 0 < length (node ∷ xs)
          positive xs = omega arith

          below : (p q n m l most : ℕ) → q ≡ n → p ≡ suc n → l ≤ most → l ≡ n + m → 0 < m → most - p < most - q
          below p q n m l most e f few long some_left = omega arith

      lifted : (other : ℕ) → EndsWith (λ owner. has_item k.seen owner ≡ true) era other → EndsWith (λ owner. has_item (k.seen ++ node ∷ []) owner ≡ true) era other
      lifted other t = elim t [ inl e ↦ inl e | inr p ↦ inr (p.0, has_append_left k.seen (node ∷ []) p.0 p.1, p.2) ]

      still : (i : ℕ) → (has_item k.seen i ≡ true) ⊎ (has_item k.waiting i ≡ true)
          → (has_item (k.seen ++ node ∷ []) i ≡ true) ⊎ (has_item (rest ++ members cur (node + 1)) i ≡ true)
      still i h = elim h [
        | inl seen ↦ inl (has_append_left k.seen (node ∷ []) i seen)
        | inr waiting ↦
            elim (has_append_cases (node ∷ []) rest i (subst (λ (xs : List ℕ). has_item xs i ≡ true) waits waiting)) [
              | inl it ↦ inl (has_append_right k.seen (node ∷ []) i it)
              | inr later ↦ inr (has_append_left rest (members cur (node + 1)) i later)
            ]
      ]

      -- the members of an era that ends with the node
      taken : (i : ℕ) → has_item (members old (node + 1)) i ≡ true
          → (has_item (k.seen ++ node ∷ []) i ≡ true) ⊎ (has_item (rest ++ members cur (node + 1)) i ≡ true)
      taken i h = elim (k.each (node + 1)) [
        | inl t ↦ still i ((k.done (node + 1) t).2 i h)
        | inr same ↦ inr (has_append_right rest (members cur (node + 1)) i (subst (λ (xs : List ℕ). has_item xs i ≡ true) (sym same.0) h))
      ]

      pub killing_goes_on : (queue' : Queued) → Sets queue queue' node None → Killing old new before queue' era at
      killing_goes_on queue' sets = record {
        seen = k.seen ++ node ∷ [];
        waiting = rest ++ members cur (node + 1);
        at_is = next_is;
        buried = all_new ∙ sym (append_assoc {A = ℕ} (grave old ++ k.seen) (node ∷ []) (rest ++ members cur (node + 1)))
            ∙ ap (λ (xs : List ℕ). xs ++ (rest ++ members cur (node + 1))) (append_assoc {A = ℕ} (grave old) k.seen (node ∷ []));
        seen_under = λ i h. elim (pushed_is k.seen node i h) [
          | inl s ↦ k.seen_under i s
          | inr e ↦ k.waiting_under i (subst (λ (n : ℕ). has_item k.waiting n ≡ true) (sym e) waiting_here)
        ];
        waiting_under = λ i h. elim (has_append_cases rest (members cur (node + 1)) i h) [
          | inl later ↦ k.waiting_under i (subst (λ (xs : List ℕ). has_item xs i ≡ true) (sym waits) (has_append_right (node ∷ []) rest i later))
          | inr m ↦ elim (k.each (node + 1)) [
            | inl t ↦ true_false (has_item (members cur (node + 1)) i) m (ap (λ (xs : List ℕ). has_item xs i) (k.done (node + 1) t).0)
            | inr same ↦ Deeper i node (subst (λ (xs : List ℕ). has_item xs i ≡ true) same.0 m) (k.waiting_under node waiting_here)
          ]
        ];
        each = λ other. elim (by_number other (node + 1)) [
          | inl e ↦ inl (inr (node, pushed_has k.seen node, e))
          | inr apart ↦ elim (k.each other) [
            | inl t ↦ inl (lifted other t)
            | inr same ↦ inr (ends.each other apart ∙ same.0, ends.eras other apart ∙ same.1)
          ]
        ];
        done = λ other t. elim (by_number other (node + 1)) [
          | inl e ↦ (ap (members new) e ∙ ends.empty, ap (is_era new) e ∙ ends.ended, λ i h. taken i (subst (λ (n : ℕ). has_item (members old n) i ≡ true) e h))
          | inr apart ↦
              let d = k.done other (before_it other apart t) in
              (ends.each other apart ∙ d.0, ends.eras other apart ∙ d.1, λ i h. still i (d.2 i h))
        ];
        out = λ i h. elim (by_number i node) [
          | inl e ↦ ap queue' e ∙ sets.here
          | inr apart ↦ sets.other i apart ∙ elim (pushed_is k.seen node i h) [ inl s ↦ k.out i s | inr e ↦ absurd (apart e) ]
        ];
        others = λ i n. sets.other i (λ e. true_false (has_item (k.seen ++ node ∷ []) i) (subst (λ (j : ℕ). has_item (k.seen ++ node ∷ []) j ≡ true) (sym e) (pushed_has k.seen node)) n) ∙ k.others i (unseen i n);
        lives = lives;
        came = λ l i h. let c = came l i h in k.came c.0 i c.1;
      }
        where
          before_it : (other : ℕ) → other ≢ node + 1 → EndsWith (λ owner. has_item (k.seen ++ node ∷ []) owner ≡ true) era other
              → EndsWith (λ owner. has_item k.seen owner ≡ true) era other
          before_it other apart t = elim t [
            | inl e ↦ inl e
            | inr p ↦ elim (pushed_is k.seen node p.0 p.1) [
              | inl s ↦ inr (p.0, s, p.2)
              | inr e ↦ absurd (apart (p.2 ∙ ap (λ (n : ℕ). n + 1) e))
            ]
          ]

          unseen : (i : ℕ) → has_item (k.seen ++ node ∷ []) i ≡ false → has_item k.seen i ≡ false
          unseen i n = elim (by_truth (has_item k.seen i)) [
            | inl s ↦ true_false (has_item (k.seen ++ node ∷ []) i) (has_append_left k.seen (node ∷ []) i s) n
            | inr m ↦ m
          ]

module _ (old cur : Lives) (before queue : Queued) (era : ℕ) (k : Killing old cur before queue era None) where
  none_waits : (i : ℕ) → (has_item k.seen i ≡ true) ⊎ (has_item k.waiting i ≡ true) → has_item k.seen i ≡ true
  none_waits i h = elim h [
    | inl s ↦ s
    | inr w ↦ true_false (has_item k.waiting i) w (ap (λ (xs : List ℕ). has_item xs i) (none_first k.waiting k.at_is))
  ]

  all_seen : (node : ℕ) → Under old era node → has_item k.seen node ≡ true
  all_seen m (Here node h) = none_waits m ((k.done era (inl refl)).2 m h)
  all_seen m (Deeper node owner h u) = none_waits m ((k.done (owner + 1) (inr (owner, all_seen owner u, refl))).2 m h)

  pub killed : Killed old cur era
  killed = record {
    moved = k.seen;
    buried = k.buried ∙ ap (λ (xs : List ℕ). (grave old ++ k.seen) ++ xs) (none_first k.waiting k.at_is) ∙ append-nil (grave old ++ k.seen);
    only = k.seen_under;
    all = all_seen;
    ended = λ other t. let d = k.done other (elim t [ inl e ↦ inl e | inr p ↦ inr (p.0, all_seen p.0 p.1, p.2) ]) in (d.0, d.1);
    stay = λ other apart none. elim (k.each other) [
      | inl t ↦ elim t [ inl e ↦ absurd (apart e) | inr p ↦ true_false (has_item k.seen p.0) p.1 (none p.0 p.2) ]
      | inr same ↦ same
    ];
  }

  pub leaves : LeavesQueue (Under old era) before queue
  leaves = record {
    out = λ node u. k.out node (all_seen node u);
    others = λ node not_under. k.others node (elim (by_truth (has_item k.seen node)) [ inl s ↦ absurd (not_under (k.seen_under node s)) | inr n ↦ n ]);
  }
