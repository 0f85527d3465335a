-- What lasts where an era begins and where a node joins one.
use Rattle.std.proofs.Common.{◌≡◌, ◌≢◌, ℕ, zero, suc, ◌+◌, ◌-◌, ◌^◌, ◌<◌, ◌≤◌, List, [], ◌∷◌, ◌++◌, length, ◌⊎◌, inl, inr, max, replicate, None, Bool, true, false, nat_eq, slice_set, refl, sym, ap, ◌∙◌, subst, arith, length-set, length-append, get_or-set_same, get_or-set_other}
use Rattle.std.proofs.lemmas.List.{get_or_past, length-replicate}
use Rattle.fr_links.specs.Lists.{has_item, list_at, list_of, with_empty, with_last}
use Rattle.fr_links.specs.Rings.{AllDifferent}
use Rattle.fr_links.proofs.Has.{by_number, by_truth, differ, different_push, eq_apart, true_false}
use Rattle.fr_eras.specs.Lives.{AreNew, AreSame, BeginsEra, IsAlone, JoinsEra, is_era, is_set}
use Rattle.fr_eras.specs.Kept.{AreApart, AreEras, AreLives, HasRoom, NoneCame, lives_of}
use Rattle.fr_eras.proofs.Lookups.{at_empty, at_last, at_other, in_no_list}
use Rattle.fr_eras.proofs.Moves.{pushed_is}

by_bound : (i n : ℕ) → (i < n) ⊎ (n ≤ i)
by_bound i n = grind arith

-- an era's flag lies in the list of flags
pub flag_inside : (begun : List Bool) (lists : List (List ℕ)) (era : ℕ) → is_era (lives_of lists begun) era ≡ true → era < length begun
flag_inside begun lists era is = elim (by_bound era (length begun)) [ inl lt ↦ lt | inr le ↦ true_false (is_era (lives_of lists begun) era) is (get_or_past begun era false le) ]

pub list_inside : (begun : List Bool) (lists : List (List ℕ)) (era : ℕ) → AreLives (lives_of lists begun) → is_era (lives_of lists begun) era ≡ true → era + 1 < length lists
list_inside begun lists era lives is =
    let lt : era < length begun = flag_inside begun lists era is in
    let places : length begun < length lists = lives.places in
    omega arith

abbrev padding : ℕ → List (List ℕ)
padding many = replicate many []

pub length_empty : (lists : List (List ℕ)) (many : ℕ) → (length lists ≤ length (with_empty lists many)) × (many ≤ length (with_empty lists many))
length_empty lists many =
    let e : length (with_empty lists many) ≡ length lists + length (padding (many - length lists)) = length-append lists (padding (many - length lists)) in
    let f : length (padding (many - length lists)) ≡ many - length lists = length-replicate (many - length lists) [] in
    (omega arith, omega arith)

-- the same lists, maybe with empty ones behind
module _ (old new : List (List ℕ)) (begun after : List Bool) (same : (l : ℕ) → list_at new l ≡ list_at old l) where
  kept_apart : AreApart old → AreApart new
  kept_apart a = record {
    once = λ l. subst AllDifferent (sym (same l)) (a.once l);
    one = λ l m i h g. a.one l m i (was l i h) (was m i g);
    small = λ l i h. a.small l i (was l i h);
  }
    where
      was : (l i : ℕ) → has_item (list_at new l) i ≡ true → has_item (list_at old l) i ≡ true
      was l i h = subst (λ (xs : List ℕ). has_item xs i ≡ true) (same l) h

  pub kept_lives : ((era : ℕ) → is_era (lives_of old begun) era ≡ true → is_era (lives_of new after) era ≡ true) → length after < length new
      → length after ≤ 2 ^ 24 + 1 → AreLives (lives_of old begun) → AreLives (lives_of new after)
  kept_lives on places few lives = record {
    apart = kept_apart lives.apart;
    program = on 0 lives.program;
    empty = λ era off. same (era + 1) ∙ lives.empty era (elim (by_truth (is_era (lives_of old begun) era)) [
      | inl is ↦ true_false (is_era (lives_of new after) era) (on era is) off
      | inr n ↦ n
    ]);
    places = places;
    few = few;
  }

  pub kept_room : (room more : ℕ) → room ≤ more → HasRoom (lives_of old begun) room → HasRoom (lives_of new after) more
  kept_room room more le has l i h =
      let p : i < room = has l i (subst (λ (xs : List ℕ). has_item xs i ≡ true) (same l) h) in
      omega arith

  pub are_same : ((era : ℕ) → is_era (lives_of new after) era ≡ is_era (lives_of old begun) era) → AreSame (lives_of old begun) (lives_of new after)
  are_same flags = record { each = λ era. same (era + 1); eras = flags; buried = same 0 }

  pub begins_era : (era : ℕ) → is_era (lives_of new after) era ≡ true
      → ((other : ℕ) → other ≢ era → is_era (lives_of new after) other ≡ is_era (lives_of old begun) other)
      → AreLives (lives_of old begun) → is_era (lives_of old begun) era ≡ false → BeginsEra (lives_of old begun) (lives_of new after) era
  begins_era era here others lives off = record {
    here = here;
    fresh = same (era + 1) ∙ lives.empty era off;
    each = λ other. same (other + 1);
    eras = others;
    buried = same 0;
  }

-- what came into no list keeps its room
pub room_stays : (old new : List (List ℕ)) (begun after : List Bool) (room : ℕ) → NoneCame old new → HasRoom (lives_of old begun) room
    → HasRoom (lives_of new after) room
room_stays old new begun after room came has l i h = let c = came l i h in has c.0 i c.1

pub absent : (lists : List (List ℕ)) (begun : List Bool) (item : ℕ) → IsAlone (lives_of lists begun) item → (l : ℕ) → has_item (list_at lists l) item ≡ false
absent lists begun item alone l = elim (by_number l 0) [
  | inl e ↦ ap (λ (n : ℕ). has_item (list_at lists n) item) e ∙ alone.no_grave
  | inr apart ↦
      let back : l ≡ l - 1 + 1 = omega arith in
      ap (λ (n : ℕ). has_item (list_at lists n) item) back ∙ alone.no_member (l - 1)
]

-- a node joins an era
module _ (lists : List (List ℕ)) (begun : List Bool) (lives : AreLives (lives_of lists begun)) (era item : ℕ) (is : is_era (lives_of lists begun) era ≡ true)
    (none : (l : ℕ) → has_item (list_at lists l) item ≡ false) (small : item < 2 ^ 32) where
  here_now : list_at (with_last lists (era + 1) item) (era + 1) ≡ list_at lists (era + 1) ++ item ∷ []
  here_now = at_last lists (era + 1) item (list_inside begun lists era lives is)

  came : (l i : ℕ) → has_item (list_at (with_last lists (era + 1) item) l) i ≡ true
      → ((l ≡ era + 1) × (i ≡ item)) ⊎ ((has_item (list_at lists l) i ≡ true) × (i ≢ item))
  came l i h = elim (by_number l (era + 1)) [
    | inl e ↦ elim
        (pushed_is (list_at lists (era + 1)) item i
        (subst (λ (xs : List ℕ). has_item xs i ≡ true) (ap (list_at (with_last lists (era + 1) item)) e ∙ here_now) h)) [
          | inl old ↦ inr
              (subst (λ (n : ℕ). has_item (list_at lists n) i ≡ true) (sym e) old, differ (list_at lists (era + 1)) i item old (none (era + 1)))
          | inr it ↦ inl (e, it)
        ]
    | inr apart ↦
        let old : has_item (list_at lists l) i ≡ true = subst (λ (xs : List ℕ). has_item xs i ≡ true) (at_other lists (era + 1) l item apart) h in
        inr (old, differ (list_at lists l) i item old (none l))
  ]

  joined_apart : AreApart (with_last lists (era + 1) item)
  joined_apart = record {
    once = λ l. elim (by_number l (era + 1)) [
      | inl e ↦ subst AllDifferent (sym (ap (list_at (with_last lists (era + 1) item)) e ∙ here_now))
          (different_push (list_at lists (era + 1)) item (lives.apart.once (era + 1)) (none (era + 1)))
      | inr apart ↦ subst AllDifferent (sym (at_other lists (era + 1) l item apart)) (lives.apart.once l)
    ];
    one = λ l m i h g. elim (came l i h) [
      | inl p ↦ elim (came m i g) [ inl q ↦ p.0 ∙ sym q.0 | inr q ↦ absurd (q.1 p.1) ]
      | inr p ↦ elim (came m i g) [ inl q ↦ absurd (p.1 q.1) | inr q ↦ lives.apart.one l m i p.0 q.0 ]
    ];
    small = λ l i h. elim (came l i h) [
      | inl p ↦ subst (λ (n : ℕ). n < 2 ^ 32) (sym p.1) small
      | inr p ↦ lives.apart.small l i p.0
    ];
  }

  step : (i j : ℕ) → i ≢ j → i + 1 ≢ j + 1
  step i j apart e = apart (omega arith)

  no_grave : (i : ℕ) → 0 ≢ i + 1
  no_grave i e = omega arith

  pub joined_lives : AreLives (lives_of (with_last lists (era + 1) item) begun)
  joined_lives = record {
    apart = joined_apart;
    program = lives.program;
    empty = λ other off. at_other lists (era + 1) (other + 1) item
        (step other era (λ e. true_false (is_era (lives_of lists begun) other) (ap (is_era (lives_of lists begun)) e ∙ is) off))
        ∙ lives.empty other off;
    places = subst (λ (n : ℕ). length begun < n) (sym (length-set lists (era + 1) (list_at lists (era + 1) ++ item ∷ []))) lives.places;
    few = lives.few;
  }

  pub joined_room : (room more : ℕ) → HasRoom (lives_of lists begun) room → room ≤ more → item < more
      → HasRoom (lives_of (with_last lists (era + 1) item) begun) more
  joined_room room more has le fits l i h = elim (came l i h) [
    | inl p ↦ subst (λ (n : ℕ). n < more) (sym p.1) fits
    | inr p ↦ let q : i < room = has l i p.0 in omega arith
  ]

  pub joins_era : JoinsEra (lives_of lists begun) (lives_of (with_last lists (era + 1) item) begun) era item
  joins_era = record {
    here = here_now;
    each = λ other apart. at_other lists (era + 1) (other + 1) item (step other era apart);
    eras = λ other. refl;
    buried = at_other lists (era + 1) 0 item (no_grave era);
  }

grown_same : (old new : List (List ℕ)) (many : ℕ) → new ≡ with_empty old many → (l : ℕ) → list_at new l ≡ list_at old l
grown_same old new many is l = ap (λ (ls : List (List ℕ)). list_at ls l) is ∙ at_empty old many l

pub set_keeps : (begun after : List Bool) (number : ℕ) → number < length after → ((other : ℕ) → is_set after other ≡ is_set begun other)
    → (other : ℕ) → is_set begun other ≡ true → is_set (slice_set after number true) other ≡ true
set_keeps begun after number lt same other is = elim (by_number other number) [
  | inl e ↦ ap (λ (n : ℕ). is_set (slice_set after number true) n) e ∙ get_or-set_same after number true false lt
  | inr apart ↦ get_or-set_other after number other true false apart ∙ same other ∙ is
]

-- lists and flags were added, for an era
pub grown_eras : (old new : List (List ℕ)) (begun after : List Bool) (room era many : ℕ) → new ≡ with_empty old many → many ≡ era + 1 + 1 → era < 2 ^ 24 + 1
    → length after ≤ max (length begun) (era + 1) → ((other : ℕ) → is_set begun other ≡ true → is_set after other ≡ true)
    → AreEras (lives_of old begun) room → AreEras (lives_of new after) room
grown_eras old new begun after room era many is long small few on eras =
    let lists = length_empty old many in
    let more : length old ≤ length new = subst (λ (ls : List (List ℕ)). length old ≤ length ls) (sym is) lists.0 in
    let enough : many ≤ length new = subst (λ (ls : List (List ℕ)). many ≤ length ls) (sym is) lists.1 in
    let places : length begun < length old = eras.fit.places in
    let most : length begun ≤ 2 ^ 24 + 1 = eras.fit.few in
    record {
      fit = kept_lives old new begun after (grown_same old new many is) on (omega arith) (omega arith) eras.fit;
      wide = kept_room old new begun after (grown_same old new many is) room room (omega arith) eras.wide;
    }

pub alone_now : (old new : List (List ℕ)) (begun : List Bool) (many item : ℕ) → new ≡ with_empty old many → IsAlone (lives_of old begun) item → list_of new item ≡ None
alone_now old new begun many item is alone =
    in_no_list new item (λ l. ap (λ (xs : List ℕ). has_item xs item) (grown_same old new many is l) ∙ absent old begun item alone l)

pub joined_eras : (old new : List (List ℕ)) (begun : List Bool) (room more era item list : ℕ) → new ≡ with_empty old 0 → list ≡ era + 1
    → is_era (lives_of old begun) era ≡ true → IsAlone (lives_of old begun) item → item < 2 ^ 32 → room ≤ more → item < more → AreEras (lives_of old begun) room
    → AreEras (lives_of (with_last new list item) begun) more
joined_eras old new begun room more era item list is at there alone small le fits eras =
    let lists = length_empty old 0 in
    let longer : length old ≤ length new = subst (λ (ls : List (List ℕ)). length old ≤ length ls) (sym is) lists.0 in
    let places : length begun < length old = eras.fit.places in
    let now : AreLives (lives_of new begun) = kept_lives old new begun begun (grown_same old new 0 is) (λ other e. e) (omega arith) eras.fit.few eras.fit in
    let none : (l : ℕ) → has_item (list_at new l) item ≡ false =
    λ l. ap (λ (xs : List ℕ). has_item xs item) (grown_same old new 0 is l) ∙ absent old begun item alone l in
    subst (λ (l : ℕ). AreEras (lives_of (with_last new l item) begun) more) (sym at)
    (record {
      fit = joined_lives new begun now era item there none small;
      wide = joined_room new begun now era item there none small room more (kept_room old new begun begun (grown_same old new 0 is) room room (omega arith) eras.wide) le fits;
    })

-- what holds at first
new_lists : (many l : ℕ) → list_at (with_empty [] many) l ≡ []
new_lists many l = at_empty [] many l

module _ (lists : List (List ℕ)) (begun : List Bool) (room : ℕ) (is : lists ≡ with_empty [] 2) (flags : begun ≡ true ∷ []) where
  empty : (l : ℕ) → list_at lists l ≡ []
  empty l = ap (λ (ls : List (List ℕ)). list_at ls l) is ∙ new_lists 2 l

  absent_at_first : (l i : ℕ) → has_item (list_at lists l) i ≡ false
  absent_at_first l i = ap (λ (xs : List ℕ). has_item xs i) (empty l)

  flags_of : (era : ℕ) → is_era (lives_of lists begun) era ≡ nat_eq era 0
  flags_of era = ap (λ (bs : List Bool). is_era (lives_of lists bs) era) flags ∙ one_flag era
    where
      one_flag : (era : ℕ) → is_era (lives_of lists (true ∷ [])) era ≡ nat_eq era 0
      one_flag zero = refl
      one_flag (suc era) = sym (eq_apart (suc era) 0 (λ e. omega arith))

  pub new_eras : AreEras (lives_of lists begun) room
  new_eras = record {
    fit = record {
      apart = record {
        once = λ l. subst AllDifferent (sym (empty l)) tt;
        one = λ l m i h g. true_false (has_item (list_at lists l) i) h (absent_at_first l i);
        small = λ l i h. true_false (has_item (list_at lists l) i) h (absent_at_first l i);
      };
      program = flags_of 0;
      empty = λ era off. empty (era + 1);
      places = subst (λ (ls : List (List ℕ)). length begun < length ls) (sym is) (subst (λ (bs : List Bool). length bs < 2) (sym flags) (omega arith));
      few = subst (λ (bs : List Bool). length bs ≤ 2 ^ 24 + 1) (sym flags) (omega arith);
    };
    wide = λ l i h. true_false (has_item (list_at lists l) i) h (absent_at_first l i);
  }

  pub are_new : AreNew (lives_of lists begun)
  are_new = record { each = λ era. empty (era + 1); eras = flags_of; buried = empty 0 }
