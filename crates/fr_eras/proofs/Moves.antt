-- The items of a list go to the end of list 0, one after another.
use Rattle.std.proofs.Common.{◌≡◌, ◌≢◌, ℕ, ◌+◌, ◌^◌, ◌<◌, ◌≤◌, List, [], ◌∷◌, ◌++◌, length, ◌⊎◌, inl, inr, Some, IsSome, slice_get, Bool, true, false, refl, sym, ap, ◌∙◌, subst, arith, append_assoc, length-set}
use Rattle.std.proofs.lemmas.List.{append-nil, length-map}
use Rattle.fr_links.specs.Lists.{has_item, list_at, list_of, others, with_last, without}
use Rattle.fr_links.specs.Rings.{AllDifferent}
use Rattle.fr_links.proofs.Has.{by_number, by_truth, differ, different_push, has_append_cases, has_append_right, here, there, true_false}
use Rattle.fr_links.proofs.Others.{others_absent, others_split}
use Rattle.fr_eras.specs.Lives.{EndsEra, is_era}
use Rattle.fr_eras.specs.Kept.{AreApart, AreLives, Moving, NoneCame, lives_of}
use Rattle.fr_eras.proofs.Lookups.{at_last, at_other, at_without, in_this_list, is_some}
use Rattle.fr_eras.proofs.Places.{first_of, first_stands}

pub alone_is : (x y : ℕ) → has_item (x ∷ []) y ≡ true → y ≡ x
alone_is x y h = elim (by_number y x) [
  | inl e ↦ e
  | inr apart ↦ true_false (has_item (x ∷ []) y) h (not_alone x y apart)
]
  where
    not_alone : (x y : ℕ) → y ≢ x → has_item (x ∷ []) y ≡ false
    not_alone x y apart = grind arith

pub pushed_is : (xs : List ℕ) (x y : ℕ) → has_item (xs ++ x ∷ []) y ≡ true → (has_item xs y ≡ true) ⊎ (y ≡ x)
pushed_is xs x y h = elim (has_append_cases xs (x ∷ []) y h) [ inl l ↦ inl l | inr r ↦ inr (alone_is x y r) ]

pub pushed_has : (xs : List ℕ) (x : ℕ) → has_item (xs ++ x ∷ []) x ≡ true
pushed_has xs x = has_append_right xs (x ∷ []) x (here x [])

module _ (lists : List (List ℕ)) (a : AreApart lists) (list m : ℕ) (rest : List ℕ) (is : list_at lists list ≡ m ∷ rest) (other : list ≢ 0)
    (long : 0 < length lists) where
  abbrev new : List (List ℕ)
  new = with_last (without lists m) 0 m

  stands : has_item (list_at lists list) m ≡ true
  stands = subst (λ (xs : List ℕ). has_item xs m ≡ true) (sym is) (here m rest)

  different : AllDifferent (m ∷ rest)
  different = subst AllDifferent is (a.once list)

  absent : (l : ℕ) → l ≢ list → has_item (list_at lists l) m ≡ false
  absent l apart = elim (by_truth (has_item (list_at lists l) m)) [ inl h ↦ absurd (apart (a.one l list m h stands)) | inr n ↦ n ]

  at_else : (l : ℕ) → l ≢ 0 → list_at new l ≡ others (list_at lists l) m
  at_else l apart = at_other (without lists m) 0 l m apart ∙ at_without lists m l

  to : list_at new 0 ≡ list_at lists 0 ++ m ∷ []
  to =
      at_last (without lists m) 0 m (subst (λ (n : ℕ). 0 < n) (sym (length-map lists (λ xs. others xs m))) long)
      ∙ ap (λ (xs : List ℕ). xs ++ m ∷ []) (at_without lists m 0 ∙ others_absent (list_at lists 0) m (absent 0 (λ e. other (sym e))))

  from : list_at new list ≡ rest
  from = at_else list other ∙ ap (λ (xs : List ℕ). others xs m) is ∙ others_split [] m rest different

  same : (l : ℕ) → l ≢ list → l ≢ 0 → list_at new l ≡ list_at lists l
  same l apart not_grave = at_else l not_grave ∙ others_absent (list_at lists l) m (absent l apart)

  came : (l i : ℕ) → has_item (list_at new l) i ≡ true → ((l ≡ 0) × (i ≡ m)) ⊎ ((has_item (list_at lists l) i ≡ true) × (i ≢ m))
  came l i h = elim (by_number l 0) [
    | inl e ↦
        let g : has_item (list_at lists 0 ++ m ∷ []) i ≡ true = subst (λ (xs : List ℕ). has_item xs i ≡ true) (ap (list_at new) e ∙ to) h in
        elim (pushed_is (list_at lists 0) m i g) [
          | inl old ↦ inr
              (subst (λ (k : ℕ). has_item (list_at lists k) i ≡ true) (sym e) old, differ (list_at lists 0) i m old (absent 0 (λ f. other (sym f))))
          | inr it ↦ inl (e, it)
        ]
    | inr not_grave ↦ elim (by_number l list) [
      | inl e ↦
          let g : has_item rest i ≡ true = subst (λ (xs : List ℕ). has_item xs i ≡ true) (ap (list_at new) e ∙ from) h in
          inr (subst (λ (xs : List ℕ). has_item xs i ≡ true) (sym (ap (list_at lists) e ∙ is)) (there m i rest g), differ rest i m g different.0)
      | inr apart ↦
          let g : has_item (list_at lists l) i ≡ true = subst (λ (xs : List ℕ). has_item xs i ≡ true) (same l apart not_grave) h in
          inr (g, differ (list_at lists l) i m g (absent l apart))
    ]
  ]

  moved_apart : AreApart new
  moved_apart = record {
    once = λ l. elim (by_number l 0) [
      | inl e ↦ subst AllDifferent (sym (ap (list_at new) e ∙ to)) (different_push (list_at lists 0) m (a.once 0) (absent 0 (λ f. other (sym f))))
      | inr not_grave ↦ elim (by_number l list) [
        | inl e ↦ subst AllDifferent (sym (ap (list_at new) e ∙ from)) different.1
        | inr apart ↦ subst AllDifferent (sym (same l apart not_grave)) (a.once l)
      ]
    ];
    one = λ l k i h g. elim (came l i h) [
      | inl p ↦ elim (came k i g) [ inl q ↦ p.0 ∙ sym q.0 | inr q ↦ absurd (q.1 p.1) ]
      | inr p ↦ elim (came k i g) [ inl q ↦ absurd (p.1 q.1) | inr q ↦ a.one l k i p.0 q.0 ]
    ];
    small = λ l i h. elim (came l i h) [
      | inl p ↦ subst (λ (k : ℕ). k < 2 ^ 32) (sym p.1) (a.small list m stands)
      | inr p ↦ a.small l i p.0
    ];
  }

  pub moved_one : (old : List (List ℕ)) → Moving old lists list → Moving old (with_last (without lists m) 0 m) list
  moved_one old k = record {
    moved = k.moved ++ m ∷ [];
    from = k.from ∙ ap (λ (xs : List ℕ). k.moved ++ xs) is ∙ sym (append_assoc {A = ℕ} k.moved (m ∷ []) rest) ∙ ap (λ (xs : List ℕ). (k.moved ++ m ∷ []) ++ xs) (sym from);
    to = to ∙ ap (λ (xs : List ℕ). xs ++ m ∷ []) k.to ∙ append_assoc {A = ℕ} (list_at old 0) k.moved (m ∷ []);
    other = λ l apart not_grave. same l apart not_grave ∙ k.other l apart not_grave;
    apart = moved_apart;
    long = length-set (without lists m) 0 (list_at (without lists m) 0 ++ m ∷ []) ∙ length-map lists (λ xs. others xs m) ∙ k.long;
  }

  pub one_less : length (list_at (with_last (without lists m) 0 m) list) < length (list_at lists list)
  one_less = let e : length (list_at lists list) ≡ length rest + 1 = ap length is ∙ length_more rest m in let f : length (list_at new list) ≡ length rest = ap length from in omega arith
    where
      length_more : (xs : List ℕ) (x : ℕ) → length (x ∷ xs) ≡ length xs + 1
      length_more xs x = omega arith

pub goes_on : (old lists : List (List ℕ)) (list m : ℕ) → Moving old lists list → Some m ≡ slice_get (list_at lists list) 0 → list ≢ 0 → 0 < length old
    → Moving old (with_last (without lists m) 0 m) list
goes_on old lists list m k first other long =
    let f = first_of (list_at lists list) m first in
    moved_one lists k.apart list m f.0 f.1 other (subst (λ (n : ℕ). 0 < n) (sym k.long) long) old k

pub comes_nearer : (old lists : List (List ℕ)) (list m : ℕ) → Moving old lists list → Some m ≡ slice_get (list_at lists list) 0 → list ≢ 0 → 0 < length old
    → length (list_at (with_last (without lists m) 0 m) list) < length (list_at lists list)
comes_nearer old lists list m k first other long =
    let f = first_of (list_at lists list) m first in
    one_less lists k.apart list m f.0 f.1 other (subst (λ (n : ℕ). 0 < n) (sym k.long) long)

-- an item of the lists, for calls of links
pub stands_somewhere : (lists : List (List ℕ)) (l i : ℕ) → AreApart lists → has_item (list_at lists l) i ≡ true → IsSome (list_of lists i)
stands_somewhere lists l i a h = is_some (list_of lists i) l (in_this_list lists i (λ m n g k. a.one m n i g k) l h)

pub first_stands_somewhere : (lists : List (List ℕ)) (l i : ℕ) → AreApart lists → Some i ≡ slice_get (list_at lists l) 0 → IsSome (list_of lists i)
first_stands_somewhere lists l i a first = stands_somewhere lists l i a (first_stands (list_at lists l) (Some i) first i refl)

pub none_moved : (lists : List (List ℕ)) (list : ℕ) → AreApart lists → Moving lists lists list
none_moved lists list a = record {
  moved = [];
  from = refl;
  to = sym (append-nil (list_at lists 0));
  other = λ l apart not_grave. refl;
  apart = a;
  long = refl;
}

-- a whole era went, and its flag fell
module _ (old new : List (List ℕ)) (begun after : List Bool) (era : ℕ) (k : Moving old new (era + 1)) (empty : list_at new (era + 1) ≡ []) (off : is_era (lives_of new after) era ≡ false)
    (rest : (other : ℕ) → other ≢ era → is_era (lives_of new after) other ≡ is_era (lives_of old begun) other) where
  whole : k.moved ≡ list_at old (era + 1)
  whole = sym (k.from ∙ ap (λ (xs : List ℕ). k.moved ++ xs) empty ∙ append-nil k.moved)

  step : (i j : ℕ) → i ≢ j → i + 1 ≢ j + 1
  step i j apart e = apart (omega arith)

  no_grave : (i : ℕ) → i + 1 ≢ 0
  no_grave i e = omega arith

  pub era_ends : EndsEra (lives_of old begun) (lives_of new after) era
  era_ends = record {
    moved = k.to ∙ ap (λ (xs : List ℕ). list_at old 0 ++ xs) whole;
    empty = empty;
    ended = off;
    each = λ other apart. k.other (other + 1) (step other era apart) (no_grave other);
    eras = rest;
  }

  pub era_came : NoneCame old new
  era_came l i h = elim (by_number l 0) [
    | inl e ↦ elim
        (has_append_cases (list_at old 0) k.moved i (subst (λ (xs : List ℕ). has_item xs i ≡ true) (ap (list_at new) e ∙ k.to) h)) [
          | inl g ↦ (0, g)
          | inr g ↦ (era + 1, subst (λ (xs : List ℕ). has_item xs i ≡ true) whole g)
        ]
    | inr not_grave ↦ elim (by_number l (era + 1)) [
      | inl e ↦ (
        era + 1,
        subst (λ (xs : List ℕ). has_item xs i ≡ true) (sym k.from)
            (has_append_right k.moved (list_at new (era + 1)) i (subst (λ (n : ℕ). has_item (list_at new n) i ≡ true) e h)),
      )
      | inr apart ↦ (l, subst (λ (xs : List ℕ). has_item xs i ≡ true) (k.other l apart not_grave) h)
    ]
  ]

  pub era_lives : AreLives (lives_of old begun) → era ≢ 0 → length after ≡ length begun → AreLives (lives_of new after)
  era_lives a not_program same = record {
    apart = k.apart;
    program = rest 0 (λ e. not_program (sym e)) ∙ a.program;
    empty = λ other none. elim (by_number other era) [
      | inl e ↦ ap (λ (n : ℕ). list_at new (n + 1)) e ∙ empty
      | inr apart ↦ k.other (other + 1) (step other era apart) (no_grave other) ∙ a.empty other (sym (rest other apart) ∙ none)
    ];
    places = (let p : length begun < length old = a.places in let q : length new ≡ length old = k.long in omega arith);
    few = subst (λ (n : ℕ). n ≤ 2 ^ 24 + 1) (sym same) a.few;
  }
