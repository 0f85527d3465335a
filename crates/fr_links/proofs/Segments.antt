-- How a ring goes on as a place is put in or taken out.
use Rattle.std.proofs.Common.{◌≡◌, ◌≢◌, ℕ, zero, suc, ◌≤◌, List, [], ◌∷◌, ◌++◌, length, Bool, true, false, cond, nat_eq, refl, sym, ap, ◌∙◌, subst, arith}
use Rattle.fr_links.specs.declared.place.Places.{Places}
use Rattle.fr_links.specs.Lists.{has_item}
use Rattle.fr_links.specs.Rings.{AllDifferent, IsSegment, Puts, TakesOut, next_of, places_from, previous_of}
use Rattle.fr_links.proofs.Has.{differ, eq_self, has_append_left, here, not_first, not_tail, or_none, there, true_false}

-- the same links, the same segment
pub segment_frame : (next previous next' previous' : ℕ → ℕ) (a : ℕ) (ps : List ℕ) (b : ℕ)
    → ((i : ℕ) → has_item (a ∷ ps) i ≡ true → next' i ≡ next i) → ((i : ℕ) → has_item (ps ++ b ∷ []) i ≡ true → previous' i ≡ previous i)
    → IsSegment next previous a ps b → IsSegment next' previous' a ps b
segment_frame next previous next' previous' a [] b n p s = (n a (here a []) ∙ s.0, p b (here b []) ∙ s.1)
segment_frame next previous next' previous' a (x ∷ ps) b n p s = (
  n a (here a (x ∷ ps)) ∙ s.0,
  p x (here x (ps ++ b ∷ [])) ∙ s.1,
  segment_frame next previous next' previous' x ps b (λ i h. n i (there a i (x ∷ ps) h)) (λ i h. p i (there x i (ps ++ b ∷ []) h)) s.2,
)

module _ (next previous : ℕ → ℕ) where
  -- the place before the end is in the list, or the start
  pub last_in : (a : ℕ) (ps : List ℕ) (b : ℕ) → IsSegment next previous a ps b → has_item (a ∷ ps) (previous b) ≡ true
  last_in a [] b s = subst (λ (i : ℕ). has_item (a ∷ []) i ≡ true) (sym s.1) (here a [])
  last_in a (x ∷ ps) b s = there a (previous b) (x ∷ ps) (last_in x ps b s.2)

  -- the place after the start is in the list, or the end
  pub first_in : (a : ℕ) (ps : List ℕ) (b : ℕ) → IsSegment next previous a ps b → has_item (ps ++ b ∷ []) (next a) ≡ true
  first_in a [] b s = subst (λ (i : ℕ). has_item (b ∷ []) i ≡ true) (sym s.0) (here b [])
  first_in a (x ∷ ps) b s = subst (λ (i : ℕ). has_item (x ∷ (ps ++ b ∷ [])) i ≡ true) (sym s.0) (here x (ps ++ b ∷ []))

  -- from the place after the start back
  pub back_again : (a : ℕ) (ps : List ℕ) → IsSegment next previous a ps a → previous (next a) ≡ a
  back_again a [] s = ap previous s.0 ∙ s.1
  back_again a (x ∷ ps) s = ap previous s.0 ∙ s.1

  pub before_in : (a : ℕ) (ps : List ℕ) (x : ℕ) (qs : List ℕ) (b : ℕ) → IsSegment next previous a (ps ++ x ∷ qs) b → has_item (a ∷ ps) (previous x) ≡ true
  before_in a [] x qs b s = subst (λ (i : ℕ). has_item (a ∷ []) i ≡ true) (sym s.1) (here a [])
  before_in a (z ∷ ps) x qs b s = there a (previous x) (z ∷ ps) (before_in z ps x qs b s.2)

  pub after_in : (a : ℕ) (ps : List ℕ) (x : ℕ) (qs : List ℕ) (b : ℕ) → IsSegment next previous a (ps ++ x ∷ qs) b → has_item (qs ++ b ∷ []) (next x) ≡ true
  after_in a [] x qs b s = first_in x qs b s.2
  after_in a (z ∷ ps) x qs b s = after_in z ps x qs b s.2

  -- what is seen along a segment
  pub seen : (fuel a : ℕ) (ps : List ℕ) (b : ℕ) → length ps ≤ fuel → has_item ps b ≡ false → IsSegment next previous a ps b
      → places_from fuel next b (next a) ≡ ps
  seen zero a [] b le nb s = refl
  seen (suc k) a [] b le nb s =
      ap (λ (i : ℕ). cond (nat_eq i b) [] (i ∷ places_from k next b (next i))) s.0
      ∙ ap (λ (c : Bool). cond c [] (b ∷ places_from k next b (next b))) (eq_self b)
  seen zero a (x ∷ ps) b le nb s = absurd (omega arith)
  seen (suc k) a (x ∷ ps) b le nb s =
      let n = or_none (nat_eq x b) (has_item ps b) nb in
      ap (λ (i : ℕ). cond (nat_eq i b) [] (i ∷ places_from k next b (next i))) s.0
      ∙ ap (λ (c : Bool). cond c [] (x ∷ places_from k next b (next x))) n.0
      ∙ ap (λ (l : List ℕ). x ∷ l) (seen k x ps b (omega arith) n.1 s.2)

module _ (old new : Places) where
  pub segment_put_last : (a : ℕ) (ps : List ℕ) (b x r : ℕ) → Puts old new x b r → AllDifferent (a ∷ ps) → has_item ps b ≡ false → has_item (a ∷ ps) x ≡ false
      → IsSegment (next_of old) (previous_of old) a ps b → IsSegment (next_of new) (previous_of new) a (ps ++ x ∷ []) b
  segment_put_last a [] b x r p o nb nx s = (ap (next_of new) (sym s.1) ∙ p.next_last, p.previous_new ∙ s.1, (p.next_new, p.previous_before))
  segment_put_last a (y ∷ ps) b x r p o nb nx s =
      let a_last : a ≢ previous_of old b = λ e. differ (y ∷ ps) (previous_of old b) a (last_in (next_of old) (previous_of old) y ps b s.2) o.0 (sym e) in
      let a_x : a ≢ x = differ (a ∷ y ∷ ps) a x (here a (y ∷ ps)) nx in
      let y_b : y ≢ b = differ (y ∷ ps) y b (here y ps) nb in
      let y_x : y ≢ x = differ (a ∷ y ∷ ps) y x (there a y (y ∷ ps) (here y ps)) nx in (
        p.next_other a a_last a_x ∙ s.0,
        p.previous_other y y_b y_x ∙ s.1,
        segment_put_last y ps b x r p o.1 (or_none (nat_eq y b) (has_item ps b) nb).1 (or_none (nat_eq a x) (has_item (y ∷ ps) x) nx).1 s.2,
      )

  -- into a ring through a, in front
  pub segment_put_first : (a : ℕ) (ps : List ℕ) (x r : ℕ) → Puts old new x (next_of old a) r → AllDifferent (a ∷ ps) → has_item (a ∷ ps) x ≡ false
      → IsSegment (next_of old) (previous_of old) a ps a → IsSegment (next_of new) (previous_of new) a (x ∷ ps) a
  segment_put_first a [] x r p o nx s =
      let last : previous_of old (next_of old a) ≡ a = ap (previous_of old) s.0 ∙ s.1 in
      (ap (next_of new) (sym last) ∙ p.next_last, p.previous_new ∙ last, (p.next_new ∙ s.0, ap (previous_of new) (sym s.0) ∙ p.previous_before))
  segment_put_first a (y ∷ ps) x r p o nx s =
      let first : next_of old a ≡ y = s.0 in
      let last : previous_of old (next_of old a) ≡ a = ap (previous_of old) s.0 ∙ s.1 in
      let tail = or_none (nat_eq a x) (has_item (y ∷ ps) x) nx in
      let a_y : a ≢ y = λ e. differ (y ∷ ps) y a (here y ps) o.0 (sym e) in (
        ap (next_of new) (sym last) ∙ p.next_last,
        p.previous_new ∙ last,
        (
          p.next_new ∙ first,
          ap (previous_of new) (sym first) ∙ p.previous_before,
          segment_frame (next_of old) (previous_of old) (next_of new) (previous_of new) y ps a
              (λ i h. p.next_other i (λ e. differ (y ∷ ps) i a h o.0 (e ∙ last)) (differ (y ∷ ps) i x h tail.1))
              (λ i h. p.previous_other i
              (λ e. not_first ps a y i h o.1.0 (apart_eq y a (λ t. a_y (sym t))) (e ∙ first))
              (λ e. not_first ps a x i h (or_none (nat_eq y x) (has_item ps x) tail.1).1
              (apart_eq x a (λ t. true_false (nat_eq a x) (ap (nat_eq a) t ∙ eq_self a) tail.0)) e))
              s.2,
        ),
      )
    where
      apart_eq : (i j : ℕ) → i ≢ j → nat_eq i j ≡ false
      apart_eq i j apart = grind arith

  pub segment_out : (a : ℕ) (ps : List ℕ) (x : ℕ) (qs : List ℕ) (b : ℕ) → TakesOut old new x → AllDifferent (a ∷ (ps ++ x ∷ qs))
      → has_item (ps ++ x ∷ qs) b ≡ false
      → IsSegment (next_of old) (previous_of old) a (ps ++ x ∷ qs) b → IsSegment (next_of new) (previous_of new) a (ps ++ qs) b
  segment_out a [] x [] b t o nb s =
      let p : previous_of old x ≡ a = s.1 in
      let n : next_of old x ≡ b = s.2.0 in
      (ap (next_of new) (sym p) ∙ t.next_before ∙ n, ap (previous_of new) (sym n) ∙ t.previous_after ∙ p)
  segment_out a [] x (y ∷ qs) b t o nb s =
      let p : previous_of old x ≡ a = s.1 in
      let n : next_of old x ≡ y = s.2.0 in (
        ap (next_of new) (sym p) ∙ t.next_before ∙ n,
        ap (previous_of new) (sym n) ∙ t.previous_after ∙ p,
        segment_frame (next_of old) (previous_of old) (next_of new) (previous_of new) y qs b
            (λ i h. t.next_other i (λ e. differ (x ∷ y ∷ qs) i a (there x i (y ∷ qs) h) o.0 (e ∙ p)))
            (λ i h. t.previous_other i (λ e. not_first qs b y i h o.1.1.0
            (or_none (nat_eq y b) (has_item qs b) (or_none (nat_eq x b) (has_item (y ∷ qs) b) nb).1).0 (e ∙ n)))
            s.2.2,
      )
  segment_out a (z ∷ ps) x qs b t o nb s =
      let before : has_item (z ∷ ps) (previous_of old x) ≡ true = before_in (next_of old) (previous_of old) z ps x qs b s.2 in
      let a_p : a ≢ previous_of old x = λ e. differ (z ∷ (ps ++ x ∷ qs)) (previous_of old x) a
      (has_append_left (z ∷ ps) (x ∷ qs) (previous_of old x) before) o.0 (sym e) in
      let later : has_item (qs ++ b ∷ []) (next_of old x) ≡ true = after_in (next_of old) (previous_of old) z ps x qs b s.2 in
      let z_n : z ≢ next_of old x = λ e. not_first qs b z (next_of old x) later (not_tail ps x qs z o.1.0)
      (or_none (nat_eq z b) (has_item (ps ++ x ∷ qs) b) nb).0 (sym e) in
      (t.next_other a a_p ∙ s.0, t.previous_other z z_n ∙ s.1, segment_out z ps x qs b t o.1 (or_none (nat_eq z b) (has_item (ps ++ x ∷ qs) b) nb).1 s.2)
