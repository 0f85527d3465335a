-- One dead node more is buried.
use Rattle.std.proofs.Common.{◌≡◌, ◌≢◌, ℕ, ◌+◌, ◌^◌, ◌<◌, List, [], ◌∷◌, ◌++◌, length, inl, inr, Option, Some, None, IsSome, slice_get, Bool, true, false, refl, sym, ap, ◌∙◌, subst, arith, append_assoc, get_or-set_same, get_or-set_other, length-set}
use Rattle.std.proofs.lemmas.List.{append-nil, length-map}
use Rattle.fr_links.specs.Lists.{has_item, list_at, others, without}
use Rattle.fr_links.specs.Rings.{AllDifferent}
use Rattle.fr_links.proofs.Has.{by_number, by_truth, has_append_left, has_append_right, here, true_false}
use Rattle.fr_links.proofs.Others.{others_absent, others_different, others_has, others_split}
use Rattle.fr_store.specs.declared.node.Node.{Node}
use Rattle.fr_store.specs.Nodes.{Renames, Stored, cleared, node_at, node_in, with_node}
use Rattle.fr_eras.specs.Kept.{AreApart, AreEras, lives_of}
use Rattle.fr_eras.specs.Burial.{Buries, Burying, Empties, GivesUp}
use Rattle.fr_eras.proofs.Lookups.{at_without}
use Rattle.fr_eras.proofs.Moves.{pushed_has, pushed_is}
use Rattle.fr_eras.proofs.Only.{node_inside, some_node}
use Rattle.fr_eras.proofs.Places.{absent_before, first_of, none_first}

pub burying_begins : (lists : List (List ℕ)) (store : Stored) → AreApart lists → Burying lists lists store store
burying_begins lists store apart = record {
  gone = [];
  split = refl;
  each = λ l not_grave. refl;
  long = refl;
  apart = apart;
  gives_up = record { limit = refl; long = refl; out = λ i h. cc; others = λ i h. refl };
}

-- one item is taken out
left_apart : (lists : List (List ℕ)) (item : ℕ) → AreApart lists → AreApart (without lists item)
left_apart lists item a = record {
  once = λ l. subst AllDifferent (sym (at_without lists item l)) (others_different (list_at lists l) item (a.once l));
  one = λ l m i h g. a.one l m i (was l i h) (was m i g);
  small = λ l i h. a.small l i (was l i h);
}
  where
    was : (l i : ℕ) → has_item (list_at (without lists item) l) i ≡ true → has_item (list_at lists l) i ≡ true
    was l i h = (others_has (list_at lists l) item i (subst (λ (xs : List ℕ). has_item xs i ≡ true) (at_without lists item l) h)).0

module _ (old lists : List (List ℕ)) (before cur : Stored) (item : ℕ) (b : Burying old lists before cur)
    (first : Some item ≡ slice_get (list_at lists 0) 0) (apart : AreApart old)
    (live : (node : ℕ) → has_item (list_at old 0) node ≡ true → IsSome (node_at before node)) where
  abbrev rest : List ℕ
  rest = (first_of (list_at lists 0) item first).0

  is : list_at lists 0 ≡ item ∷ rest
  is = (first_of (list_at lists 0) item first).1

  whole : list_at old 0 ≡ b.gone ++ item ∷ rest
  whole = b.split ∙ ap (λ (xs : List ℕ). b.gone ++ xs) is

  not_gone : has_item b.gone item ≡ false
  not_gone = absent_before b.gone item rest (subst AllDifferent whole (apart.once 0))

  pub waits : has_item (list_at lists 0) item ≡ true
  waits = subst (λ (xs : List ℕ). has_item xs item ≡ true) (sym is) (here item rest)

  pub still_there : IsSome (node_at cur item)
  still_there =
      subst (λ (o : Option Node). IsSome o) (sym (b.gives_up.others item not_gone))
      (live item (subst (λ (xs : List ℕ). has_item xs item ≡ true) (sym whole) (has_append_right b.gone (item ∷ rest) item (here item rest))))

  pub item_small : item < 2 ^ 32
  item_small = b.apart.small 0 item waits

  module _ (mid : Stored) (clears : (n : Node) → node_at cur item ≡ Some n → Renames cur mid item (cleared n)) where
    abbrev was : Node
    was = (some_node (node_at cur item) still_there).0

    renames : Renames cur mid item (cleared was)
    renames = clears was (some_node (node_at cur item) still_there).1

    inside : item < length cur.nodes
    inside = node_inside cur.nodes item was (some_node (node_at cur item) still_there).1

    pub cleared_here : (n : Node) × (node_at mid item ≡ Some n) × (n.inputs ≡ [])
    cleared_here = (
      cleared was,
      ap (λ (nodes : List (Option Node)). node_in nodes item) renames.nodes ∙ get_or-set_same cur.nodes item (Some (cleared was)) None inside,
      refl,
    )

    module _ (new : Stored) (gives : new ≡ with_node mid item None) where
      long_mid : length mid.nodes ≡ length cur.nodes
      long_mid = ap length renames.nodes ∙ length-set cur.nodes item (Some (cleared was))

      gone_here : node_at new item ≡ None
      gone_here =
          ap (λ (s : Stored). node_at s item) gives
          ∙ get_or-set_same mid.nodes item None None (subst (λ (n : ℕ). item < n) (sym long_mid) inside)

      as_before : (i : ℕ) → i ≢ item → node_at new i ≡ node_at cur i
      as_before i other =
          ap (λ (s : Stored). node_at s i) gives ∙ get_or-set_other mid.nodes item i None None other
          ∙ ap (λ (nodes : List (Option Node)). node_in nodes i) renames.nodes
          ∙ get_or-set_other cur.nodes item i (Some (cleared was)) None other

      pub burying_goes_on : Burying old (without lists item) before new
      burying_goes_on = record {
        gone = b.gone ++ item ∷ [];
        split = whole ∙ sym (append_assoc {A = ℕ} b.gone (item ∷ []) rest) ∙ ap (λ (xs : List ℕ). (b.gone ++ item ∷ []) ++ xs) (sym left);
        each = λ l not_grave.
            at_without lists item l ∙ others_absent (list_at lists l) item (nowhere l not_grave) ∙ b.each l not_grave;
        long = length-map lists (λ xs. others xs item) ∙ b.long;
        apart = left_apart lists item b.apart;
        gives_up = record {
          limit = ap (λ (s : Stored). s.limit) gives ∙ renames.limit ∙ b.gives_up.limit;
          long = ap (λ (s : Stored). length s.nodes) gives ∙ length-set mid.nodes item None ∙ long_mid ∙ b.gives_up.long;
          out = λ i h. elim (by_number i item) [
            | inl e ↦ ap (node_at new) e ∙ gone_here
            | inr other ↦ elim (pushed_is b.gone item i h) [
              | inl earlier ↦ as_before i other ∙ b.gives_up.out i earlier
              | inr e ↦ absurd (other e)
            ]
          ];
          others = λ i h. elim (by_number i item) [
            | inl e ↦ true_false (has_item (b.gone ++ item ∷ []) i) (subst (λ (j : ℕ). has_item (b.gone ++ item ∷ []) j ≡ true) (sym e) (pushed_has b.gone item)) h
            | inr other ↦ as_before i other ∙ b.gives_up.others i (elim (by_truth (has_item b.gone i)) [
              | inl g ↦ true_false (has_item (b.gone ++ item ∷ []) i) (has_append_left b.gone (item ∷ []) i g) h
              | inr n ↦ n
            ])
          ];
        };
      }
        where
          left : list_at (without lists item) 0 ≡ rest
          left = at_without lists item 0 ∙ ap (λ (xs : List ℕ). others xs item) is ∙ others_split [] item rest (subst AllDifferent is (b.apart.once 0))

          nowhere : (l : ℕ) → l ≢ 0 → has_item (list_at lists l) item ≡ false
          nowhere l not_grave = elim (by_truth (has_item (list_at lists l) item)) [
            | inl h ↦ absurd (not_grave (b.apart.one l 0 item h waits))
            | inr n ↦ n
          ]

  pub grave_shrinks : length (list_at (without lists item) 0) < length (list_at lists 0)
  grave_shrinks =
      let e : length (list_at lists 0) ≡ length rest + 1 = ap length is ∙ one_more rest item in
      let f : length (list_at (without lists item) 0) ≡ length rest =
      ap length (at_without lists item 0 ∙ ap (λ (xs : List ℕ). others xs item) is ∙ others_split [] item rest (subst AllDifferent is (b.apart.once 0))) in
      omega arith
    where
      one_more : (xs : List ℕ) (x : ℕ) → length (x ∷ xs) ≡ length xs + 1
      one_more xs x = omega arith

module _ (old lists : List (List ℕ)) (before cur : Stored) (b : Burying old lists before cur) (none : None ≡ slice_get (list_at lists 0) 0) where
  pub all_gone : b.gone ≡ list_at old 0
  all_gone = sym (b.split ∙ ap (λ (xs : List ℕ). b.gone ++ xs) (none_first (list_at lists 0) none) ∙ append-nil b.gone)

  pub burying_empties : Empties old lists
  burying_empties = record { empty = none_first (list_at lists 0) none; each = b.each; long = b.long; apart = b.apart }

  pub burying_gives_up : GivesUp (list_at old 0) before cur
  burying_gives_up = subst (λ (gone : List ℕ). GivesUp gone before cur) all_gone b.gives_up

-- the eras as the grave becomes empty
module _ (old new : List (List ℕ)) (begun : List Bool) (e : Empties old new) where
  no_grave : (era : ℕ) → era + 1 ≢ 0
  no_grave era z = omega arith

  pub buries : Buries (lives_of old begun) (lives_of new begun)
  buries = record { empty = e.empty; each = λ era. e.each (era + 1) (no_grave era); eras = λ era. refl }

  pub buried_eras : (room : ℕ) → AreEras (lives_of old begun) room → AreEras (lives_of new begun) room
  buried_eras room a = record {
    fit = record {
      apart = e.apart;
      program = a.fit.program;
      empty = λ era off. e.each (era + 1) (no_grave era) ∙ a.fit.empty era off;
      places = (let p : length begun < length old = a.fit.places in let q : length new ≡ length old = e.long in omega arith);
      few = a.fit.few;
    };
    wide = λ l i h. elim (by_number l 0) [
      | inl z ↦ true_false (has_item (list_at new l) i) h (ap (λ (k : ℕ). has_item (list_at new k) i) z ∙ ap (λ (xs : List ℕ). has_item xs i) e.empty)
      | inr not_grave ↦ a.wide l i (subst (λ (xs : List ℕ). has_item xs i ≡ true) (e.each l not_grave) h)
    ];
  }
