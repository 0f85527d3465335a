-- The list of work as nodes come and go.
use Rattle.std.proofs.Common.{◌≡◌, ℕ, ◌^◌, ◌<◌, ◌≤◌, List, [], ◌∷◌, ◌++◌, length, inl, inr, Option, Some, None, IsSome, true, false, slice_get, sym, ap, ◌∙◌, subst, arith, length-set}
use Rattle.std.proofs.lemmas.List.{length-map}
use Rattle.fr_links.specs.Lists.{Linked, has_item, list_at, list_of, others, with_last, without}
use Rattle.fr_links.specs.Rings.{AllDifferent}
use Rattle.fr_links.proofs.Has.{by_truth, different_push, here}
use Rattle.fr_links.proofs.Others.{others_different, others_has, others_split}
use Rattle.fr_eras.specs.Work.{IsWork}
use Rattle.fr_eras.proofs.Lookups.{at_last, at_without, has_inside, in_this_list, is_some}
use Rattle.fr_eras.proofs.Moves.{pushed_is}
use Rattle.fr_eras.proofs.Places.{first_of}

pub no_item : (lists : List (List ℕ)) (o : Option ℕ) (i : ℕ) → o ≡ None → ((l : ℕ) → has_item (list_at lists l) i ≡ true → o ≡ Some l) → has_item (list_at lists 0) i ≡ false
no_item lists o i none only = elim (by_truth (has_item (list_at lists 0) i)) [ inl h ↦ let e : o ≡ Some 0 = only 0 h in cc | inr n ↦ n ]

pub noted_work : (links new : Linked) (room node : ℕ) → IsWork links room → has_item (list_at links.lists 0) node ≡ false → node < room
    → new ≡ record links { lists = with_last links.lists 0 node } → IsWork new room
noted_work links new room node w absent fits is = subst (λ (k : Linked). IsWork k room) (sym is) (record {
  one = length-set links.lists 0 (list_at links.lists 0 ++ node ∷ []) ∙ w.one;
  wide = w.wide;
  once = subst AllDifferent (sym at) (different_push (list_at links.lists 0) node w.once absent);
  few = w.few;
  small = λ i h. elim (pushed_is (list_at links.lists 0) node i (subst (λ (xs : List ℕ). has_item xs i ≡ true) at h)) [
    | inl before ↦ w.small i before
    | inr e ↦ subst (λ (n : ℕ). n < links.items) (sym e) (subst (λ (n : ℕ). node < n) w.wide fits)
  ];
})
  where
    inside : 0 < length links.lists
    inside = let e : length links.lists ≡ 1 = w.one in omega arith

    at : list_at (with_last links.lists 0 node) 0 ≡ list_at links.lists 0 ++ node ∷ []
    at = at_last links.lists 0 node inside

module _ (links : Linked) (room node : ℕ) (w : IsWork links room) (first : Some node ≡ slice_get (list_at links.lists 0) 0) where
  rest : List ℕ
  rest = (first_of (list_at links.lists 0) node first).0

  all : list_at links.lists 0 ≡ node ∷ rest
  unfolding rest
  all = (first_of (list_at links.lists 0) node first).1

  has : has_item (list_at links.lists 0) node ≡ true
  has = subst (λ (xs : List ℕ). has_item xs node ≡ true) (sym all) (here node rest)

  pub taken_stands : IsSome (list_of links.lists node)
  taken_stands = is_some (list_of links.lists node) 0 (in_this_list links.lists node (λ l m h g. zero_of l h ∙ sym (zero_of m g)) 0 has)
    where
      zero_of : (l : ℕ) → has_item (list_at links.lists l) node ≡ true → l ≡ 0
      zero_of l h = let lt : l < length links.lists = has_inside links.lists l node h in let e : length links.lists ≡ 1 = w.one in omega arith

  pub taken_small : node < 2 ^ 32
  taken_small = let a : node < links.items = w.small node has in let b : links.items ≤ 2 ^ 32 = w.few in omega arith

  pub taken_rest : list_at links.lists 0 ≡ node ∷ list_at (without links.lists node) 0
  taken_rest =
      all
      ∙ ap (λ (xs : List ℕ). node ∷ xs)
      (sym (at_without links.lists node 0 ∙ ap (λ (xs : List ℕ). others xs node) all ∙ others_split [] node rest (subst AllDifferent all w.once)))

  pub taken_work : (new : Linked) → new ≡ record links { lists = without links.lists node } → IsWork new room
  taken_work new is = subst (λ (k : Linked). IsWork k room) (sym is) (record {
    one = length-map links.lists (λ xs. others xs node) ∙ w.one;
    wide = w.wide;
    once = subst AllDifferent (sym (at_without links.lists node 0)) (others_different (list_at links.lists 0) node w.once);
    few = w.few;
    small = λ i h. w.small i (others_has (list_at links.lists 0) node i (subst (λ (xs : List ℕ). has_item xs i ≡ true) (at_without links.lists node 0) h)).0;
  })
