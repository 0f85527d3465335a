-- What holds of all that an evaluation visits, from what holds of what is inside each visit.
use Rattle.std.proofs.Common.{◌≡◌, ◌⊎◌, ◌↔◌, ℕ, ◌+◌, zero, suc, List, [], ◌∷◌, ◌++◌, map, slice_get, refl, sym, ap, ◌∙◌, inl, inr, arith, subst, Option, Some, None}
use Rattle.std.specs.List.{AllByRecursion, flat_map}
use Rattle.std.specs.Option.{option_or}
use Rattle.std.proofs.lemmas.List.{append_assoc, append-nil, map-append}
use Rattle.std.proofs.lemmas.List.Elements.{All-contains, All-from_recursion}
use Rattle.fr_value.specs.Data.{total}
use Rattle.fr_value.specs.declared.now.Bad.{Bad}
use Rattle.fr_core.specs.WellFormed.{AreDistinct}
use Rattle.fr_core.specs.declared.core_form.Core.{Core, out-Core}
use Rattle.fr_core.specs.declared.core_form.Core.TheOpen.{Core-F}
use Rattle.fr_core.proofs.PartLists.{total-append}
use Rattle.fr_meaning.specs.Words.{First}
use Rattle.fr_meaning.specs.Evaluation.{World}
use Rattle.fr_meaning.specs.Visits.{Binding, places, Visit, paths, answer, inside_shape, inside, visits_to, visits, all_visits, own_cost, own_error, error_at, first_error, placed, place_of, variable_place, reads_to, uses}
use Rattle.fr_meaning.specs.Order.{EndsBefore, AreRising, IsWithin, StandsWhole, IsOneOf, IsReady, outer_places, AreReady, UsesEarlier, AgreeWhereUsed, ErrsNowhere}
use Rattle.fr_meaning.proofs.Order.{never_itself, part_before, ready_before, ready_inside, IsLeftOf, left_within, left_before, left_ready, apart, apart_back, within_itself, within_further, whole_outside}
use Rattle.fr_meaning.proofs.Each.{each_weaker, each_both, each_append, each_cut, each_flat, each_of_flat, each_flip, each_one, each_is_one, one_append}
use Rattle.fr_meaning.proofs.Laid.{Begins, AreApart, AreKnown, Laid, laid_shape, laid}
use Rattle.fr_meaning.proofs.Told.{spent, firsts, follows}
use Rattle.fr_meaning.proofs.Decided.{IsDecided, decided}
use Rattle.fr_meaning.proofs.Prefixes.{first_of_three}

-- the second visit stands within the first, or not
abbrev Inner : Visit → Visit → Type 0
Inner v u = IsWithin v.path u.path

abbrev Outside : Visit → Visit → Type 0
Outside v u = IsWithin v.path u.path → ⊥

-- the first visit stands left of the second, or ends before it
abbrev Left : Visit → Visit → Type 0
Left u x = IsLeftOf u.path x.path

abbrev Ends : Visit → Visit → Type 0
Ends u x = EndsBefore u.path x.path

-- the first visit is inside the second
abbrev Deeper : Visit → Visit → Type 0
Deeper v u = EndsBefore u.path v.path × (IsWithin u.path v.path → ⊥)

module _ (w : World) where
  -- on the same level all visits are those of their own levels
  same_level : (n : ℕ) (us : List Visit) → AllByRecursion (λ u. u.level ≡ n) us → flat_map (visits_to n w) us ≡ all_visits w us
  same_level n [] h = refl
  same_level n (u ∷ us) h = ap (λ m. visits_to m w u ++ flat_map (visits_to n w) us) (sym h.0) ∙ ap (λ vs. visits w u ++ vs) (same_level n us h.1)

  levels : (n : ℕ) (v : Visit) (us : List Visit) → Laid n v us → AllByRecursion (λ u. u.level ≡ n) us
  levels n v us h = each_weaker (Begins v.path n 0 h.last) (λ u. u.level ≡ n) (λ u g. g.level) us h.block.begin

  -- all that is inside, each with what is inside it, and then the expression itself
  pub opens : (v : Visit) → visits w v ≡ all_visits w (inside w v) ++ v ∷ []
  unfolding visits_to
  opens v = at v.level
    where
      at : (m : ℕ) → let u = record v { level = m } in visits w u ≡ all_visits w (inside w u) ++ u ∷ []
      at zero = refl
      at (suc n) =
          let u = record v { level = suc n } in
          let us = inside_shape w n u (out-Core v.expr) in
          ap (λ vs. vs ++ u ∷ []) (same_level n us (levels n u us (laid_shape w n u (out-Core v.expr))))

  -- what follows for a visit where it holds of all inside it holds of every visit
  pub by_inside : (P : Visit → Type 0) → ((v : Visit) → AllByRecursion P (inside w v) → P v) → (v : Visit) → P v
  by_inside P step v = at v.level v
    where
      at : (m : ℕ) (v : Visit) → P (record v { level = m })
      at zero v = step (record v { level = zero }) tt
      at (suc n) v =
          let u = record v { level = suc n } in
          let us = inside_shape w n u (out-Core v.expr) in
          step u (each_weaker (λ x. x.level ≡ n) P (λ x h. subst (λ m. P (record x { level = m })) (sym h) (at n x)) us (levels n u us (laid_shape w n u (out-Core v.expr))))

  -- what holds of a visit's list of visits, where it holds of one that ends in the visit
  abbrev pub Whole : (Visit → List Visit → Type 0) → Visit → Type 0
  Whole P v = P v (visits w v)

  pub by_visits : (P : Visit → List Visit → Type 0) → ((v : Visit) → AllByRecursion (Whole P) (inside w v) → P v (all_visits w (inside w v) ++ v ∷ [])) → (v : Visit) → P v (visits w v)
  by_visits P step = by_inside (Whole P) (λ v h. subst (P v) (sym (opens v)) (step v h))

  -- the costs

  abbrev pub Adds : Visit → List Visit → Type 0
  Adds v vs = total (map (own_cost w) vs) ≡ (answer w v).cost

  adds_append : (us vs : List Visit) → total (map (own_cost w) (us ++ vs)) ≡ total (map (own_cost w) us) + total (map (own_cost w) vs)
  adds_append us vs = ap total (map-append (own_cost w) us vs) ∙ total-append (map (own_cost w) us) (map (own_cost w) vs)

  pub all_cost : (us : List Visit) → AllByRecursion (Whole Adds) us → total (map (own_cost w) (all_visits w us)) + total (map (λ u. u.price) us) ≡ spent w us
  all_cost [] h = omega arith
  all_cost (u ∷ us) h = let one = h.0 in let rest = all_cost us h.1 in let both = adds_append (visits w u) (all_visits w us) in omega (arith, one, rest, both)

  pub costs_add_up : (v : Visit) → Adds v (visits w v)
  costs_add_up = by_visits Adds (λ v h.
      let all = all_cost (inside w v) h in
      let both = adds_append (all_visits w (inside w v)) (v ∷ []) in
      let whole = (follows w v).cost in
      omega (arith, all, both, whole))

  -- the first error

  abbrev pub Errs : Visit → List Visit → Type 0
  Errs v vs = first_error w vs ≡ placed v.path (answer w v).first

  errs_append : (us vs : List Visit) → first_error w (us ++ vs) ≡ option_or (first_error w us) (first_error w vs)
  errs_append [] vs = refl
  errs_append (u ∷ us) vs = rw (errs_append us vs) (first_of_three (error_at u.path (own_error w u)) (first_error w us) (first_error w vs))

  pub all_errors : (us : List Visit) → AllByRecursion (Whole Errs) us → first_error w (all_visits w us) ≡ firsts w us
  all_errors [] h = refl
  all_errors (u ∷ us) h = errs_append (visits w u) (all_visits w us) ∙ rw (h.0, all_errors us h.1) refl

  or_none : (f : First) → option_or f None ≡ f
  or_none None = refl
  or_none (Some x) = refl

  pub first_is_found : (v : Visit) → Errs v (visits w v)
  first_is_found = by_visits Errs (λ v h.
      errs_append (all_visits w (inside w v)) (v ∷ []) ∙ rw (all_errors (inside w v) h, or_none (error_at v.path (own_error w v))) (sym (follows w v).first))

  none_before : (o : Option Bad) (p : List ℕ) (f : First) → option_or (error_at p o) f ≡ None → (o ≡ None) × (f ≡ None)
  none_before None p f h = (refl, h)
  none_before (Some b) p f h = absurd (some_or_none (p, b) h)
    where
      some_or_none : (x : List ℕ × Bad) → Some x ≡ None → ⊥
      some_or_none x h = cc

  -- no error is found exactly where no visit has one
  pub none_found : (vs : List Visit) → ErrsNowhere w vs ↔ (first_error w vs ≡ None)
  none_found vs = (found vs, missed vs)
    where
      found : (vs : List Visit) → ErrsNowhere w vs → first_error w vs ≡ None
      found [] h = refl
      found (u ∷ vs) h = rw h.0 (found vs h.1)

      missed : (vs : List Visit) → first_error w vs ≡ None → ErrsNowhere w vs
      missed [] h = tt
      missed (u ∷ vs) h = let t = none_before (own_error w u) u.path (first_error w vs) h in (t.0, missed vs t.1)

  none_placed : (at : List ℕ) (f : First) → (placed at f ≡ None) ↔ (f ≡ None)
  none_placed at None = (λ h. refl, λ h. refl)
  none_placed at (Some x) = (λ h. cc, λ h. cc)

  pub clean : (v : Visit) → ErrsNowhere w (visits w v) ↔ ((answer w v).first ≡ None)
  clean v =
      let same = first_is_found v in
      let found = none_found (visits w v) in
      let bare = none_placed v.path (answer w v).first in
      (λ h. bare.0 (sym same ∙ found.0 h), λ h. found.1 (same ∙ bare.1 h))

  -- where visits stand

  abbrev Within : Visit → List Visit → Type 0
  Within v vs = AllByRecursion (Inner v) vs

  inside_within : (v : Visit) → AllByRecursion (Inner v) (inside w v)
  inside_within v =
      let h = laid w v in
      each_weaker (Begins v.path h.0 0 h.1.last) (Inner v) (λ u g. (g.number ∷ g.rest, g.path)) (inside w v) h.1.block.begin

  pub are_within : (v : Visit) → Within v (visits w v)
  are_within = by_visits Within (λ v h.
      each_append (Inner v) (all_visits w (inside w v)) (v ∷ [])
      (each_flat (Inner v) (visits w) (inside w v)
      (each_both (Inner v) (Whole Within) (λ u. AllByRecursion (Inner v) (visits w u))
      (λ u a b. each_weaker (Inner u) (Inner v) (λ x c. within_further v.path u.path x.path a c) (visits w u) b) (inside w v) (inside_within v) h))
      (within_itself v.path, tt))

  -- all visits of one stand left of all visits of those behind it
  crossed : (u : Visit) (us : List Visit) → AllByRecursion (Left u) us → AllByRecursion (λ y. AllByRecursion (Left y) (all_visits w us)) (visits w u)
  crossed u us h =
      each_weaker (Inner u) (λ y. AllByRecursion (Left y) (all_visits w us))
      (λ y a. each_flat (Left y) (visits w) us
      (each_weaker (Left u) (λ z. AllByRecursion (Left y) (visits w z))
      (λ z l. each_weaker (Inner z) (Left y) (λ x b. left_within u.path z.path y.path x.path l a b) (visits w z) (are_within z)) us h))
      (visits w u) (are_within u)

  -- the order

  abbrev pub Rises : Visit → List Visit → Type 0
  Rises v vs = AreRising vs

  rising_append : (us vs : List Visit) → AreRising us → AreRising vs → AllByRecursion (λ u. AllByRecursion (Ends u) vs) us → AreRising (us ++ vs)
  rising_append [] vs h g all = g
  rising_append (u ∷ us) vs h g all = (each_append (Ends u) us vs h.0 all.0, rising_append us vs h.1 g all.1)

  pub all_rise : (us : List Visit) → AreApart us → AllByRecursion (Whole Rises) us → AreRising (all_visits w us)
  all_rise [] a h = tt
  all_rise (u ∷ us) a h =
      rising_append (visits w u) (all_visits w us) h.0 (all_rise us a.1 h.1)
      (each_weaker (λ y. AllByRecursion (Left y) (all_visits w us)) (λ y. AllByRecursion (Ends y) (all_visits w us))
      (λ y l. each_weaker (Left y) (Ends y) (λ x. left_before y.path x.path) (all_visits w us) l) (visits w u) (crossed u us a.0))

  -- all inside a visit ends before it, and is not what the visit is within
  all_deeper : (v : Visit) → AllByRecursion (Deeper v) (all_visits w (inside w v))
  all_deeper v =
      let h = laid w v in
      let P = Deeper v in
      each_flat P (visits w) (inside w v)
      (each_weaker (Begins v.path h.0 0 h.1.last) (λ u. AllByRecursion P (visits w u))
      (λ u g. each_weaker (Inner u) P (λ x a.
      let path : x.path ≡ v.path ++ g.number ∷ (g.rest ++ a.0) = a.1 ∙ ap (λ p. p ++ a.0) g.path ∙ append_assoc v.path (g.number ∷ g.rest) a.0 in
      rw path (part_before v.path g.number (g.rest ++ a.0), whole_outside v.path g.number (g.rest ++ a.0))) (visits w u) (are_within u)) (inside w v) h.1.block.begin)

  pub they_rise : (v : Visit) → AreRising (visits w v)
  they_rise = by_visits Rises (λ v h.
      let us = all_visits w (inside w v) in
      rising_append us (v ∷ []) (all_rise (inside w v) (laid w v).1.block.apart h) (tt, tt)
      (each_weaker (Deeper v) (λ u. AllByRecursion (Ends u) (v ∷ [])) (λ u g. (g.0, tt)) us (all_deeper v)))

  -- a place's visits together

  abbrev pub Together : Visit → List Visit → Type 0
  Together v vs = AllByRecursion (StandsWhole w vs) vs

  more_behind : (vs more : List Visit) (v : Visit) → AllByRecursion (Outside v) more → StandsWhole w vs v → StandsWhole w (vs ++ more) v
  more_behind vs more v none h = record {
    before = h.before;
    behind = h.behind ++ more;
    together = ap (λ us. us ++ more) h.together ∙ append_assoc h.before (visits w v ++ h.behind) more ∙ ap (λ us. h.before ++ us) (append_assoc (visits w v) h.behind more);
    none_before = h.none_before;
    none_behind = each_append (Outside v) h.behind more h.none_behind none;
  }

  more_before : (more vs : List Visit) (v : Visit) → AllByRecursion (Outside v) more → StandsWhole w vs v → StandsWhole w (more ++ vs) v
  more_before more vs v none h = record {
    before = more ++ h.before;
    behind = h.behind;
    together = ap (λ us. more ++ us) h.together ∙ sym (append_assoc more h.before (visits w v ++ h.behind));
    none_before = each_append (Outside v) more h.before none h.none_before;
    none_behind = h.none_behind;
  }

  pub all_together : (us : List Visit) → AreApart us → AllByRecursion (Whole Together) us → AllByRecursion (StandsWhole w (all_visits w us)) (all_visits w us)
  all_together [] a h = tt
  all_together (u ∷ us) a h =
      let one = visits w u in
      let rest = all_visits w us in
      let left = crossed u us a.0 in
      each_append (StandsWhole w (one ++ rest)) one rest
      (each_both (λ y. AllByRecursion (Left y) rest) (StandsWhole w one) (StandsWhole w (one ++ rest))
      (λ y l. more_behind one rest y (each_weaker (Left y) (Outside y) (λ x. apart y.path x.path) rest l)) one left h.0)
      (each_both (λ x. AllByRecursion (λ y. IsLeftOf y.path x.path) one) (StandsWhole w rest) (StandsWhole w (one ++ rest))
      (λ x l. more_before one rest x (each_weaker (λ y. IsLeftOf y.path x.path) (Outside x) (λ y. apart_back y.path x.path) one l))
      rest (each_flip Left one rest left) (all_together us a.1 h.1))

  pub they_stand_together : (v : Visit) → Together v (visits w v)
  they_stand_together = by_visits Together (λ v h.
      let us = all_visits w (inside w v) in
      let whole : StandsWhole w (us ++ v ∷ []) v = record { before = []; behind = []; together = sym (append-nil (visits w v) ∙ opens v); none_before = tt; none_behind = tt } in
      each_append (StandsWhole w (us ++ v ∷ [])) us (v ∷ [])
      (each_both (Deeper v) (StandsWhole w us) (StandsWhole w (us ++ v ∷ []))
      (λ u g. more_behind us (v ∷ []) u (g.1, tt)) us (all_deeper v) (all_together (inside w v) (laid w v).1.block.apart h))
      (whole, tt))

  -- what is used

  abbrev pub Uses : Visit → List Visit → Type 0
  Uses v vs = AreReady v (outer_places v) → AllByRecursion (UsesEarlier w vs (outer_places v)) vs

  paths-append : (us vs : List Visit) → paths (us ++ vs) ≡ paths us ++ paths vs
  paths-append us vs = map-append (λ v. v.path) us vs

  -- a visit uses what ends before it: one of these visits, or what is known
  abbrev UsesKnown : List Visit → (List ℕ → Type 0) → Visit → Type 0
  UsesKnown vs K v = AllByRecursion (λ p. EndsBefore p v.path × (IsOneOf (paths vs) p ⊎ K p)) (uses w v)

  -- among more visits, and with more that is known
  uses_more : (us vs : List Visit) (K L : List ℕ → Type 0) → ((p : List ℕ) → IsOneOf (paths us) p ⊎ K p → IsOneOf (paths vs) p ⊎ L p) → (v : Visit) → UsesKnown us K v → UsesKnown vs L v
  uses_more us vs K L f v h =
      each_weaker (λ p. EndsBefore p v.path × (IsOneOf (paths us) p ⊎ K p)) (λ p. EndsBefore p v.path × (IsOneOf (paths vs) p ⊎ L p)) (λ p g. (g.0, f p g.1)) (uses w v) h

  -- a visit is the last of its own
  itself_visited : (u : Visit) → IsOneOf (paths (visits w u)) u.path
  itself_visited u =
      subst (λ vs. IsOneOf (paths vs) u.path) (sym (opens u))
      (subst (λ ps. IsOneOf ps u.path) (sym (paths-append (all_visits w (inside w u)) (u ∷ []))) (one_append (paths (all_visits w (inside w u))) (u.path ∷ []) u.path (inr (inl refl))))

  pub all_use : (K : List ℕ → Type 0) (us : List Visit) → AreApart us → AreKnown K us → AllByRecursion (λ u. (p : List ℕ) → K p → IsReady u.path p) us → AllByRecursion (Whole Uses) us
      → AllByRecursion (UsesKnown (all_visits w us) K) (all_visits w us)
  all_use K [] a k r h = tt
  all_use K (u ∷ us) a k r h =
      let one = visits w u in
      let rest = all_visits w us in
      let more = λ (p : List ℕ). (u.path ≡ p) ⊎ K p in
      let ready = each_weaker K (IsReady u.path) r.0 (outer_places u) k.0 in
      let among = λ (p : List ℕ) (s : IsOneOf (paths one) p ⊎ IsOneOf (paths rest) p). subst (λ ps. IsOneOf ps p) (sym (paths-append one rest)) (one_append (paths one) (paths rest) p s) in
      let later = all_use more us a.1 k.1
      (each_both (Left u) (λ x. (p : List ℕ) → K p → IsReady x.path p) (λ x. (p : List ℕ) → more p → IsReady x.path p)
      (λ x l g p s. elim s [ inl e ↦ subst (λ q. IsReady x.path q) e (left_ready u.path x.path l) | inr t ↦ g p t ]) us a.0 r.1) h.1 in
      each_append (UsesKnown (one ++ rest) K) one rest
      (each_weaker (UsesEarlier w one (outer_places u)) (UsesKnown (one ++ rest) K)
      (uses_more one (one ++ rest) (IsOneOf (outer_places u)) K (λ p s. elim s [ inl g ↦ inl (among p (inl g)) | inr g ↦ inr (each_one K (outer_places u) p k.0 g) ])) one (h.0 ready))
      (each_weaker (UsesKnown rest more) (UsesKnown (one ++ rest) K)
      (uses_more rest (one ++ rest) more K (λ p s. elim s [
        | inl g ↦ inl (among p (inr g))
        | inr (inl e) ↦ inl (among p (inl (subst (IsOneOf (paths one)) e (itself_visited u))))
        | inr (inr g) ↦ inr g
      ])) rest later)

  variable_outside : (scope : List Binding) (l : Core-F Core) → AllByRecursion (IsOneOf (places scope)) (variable_place scope l)
  variable_outside scope (Core-F.Var x) = nth scope x.0
    where
      nth : (scope : List Binding) (x : ℕ) → AllByRecursion (IsOneOf (places scope)) (place_of (slice_get scope x))
      nth [] x = tt
      nth (b ∷ scope) zero = (inl refl, tt)
      nth (b ∷ scope) (suc x) = each_weaker (IsOneOf (places scope)) (IsOneOf (places (b ∷ scope))) (λ p h. inr h) (place_of (slice_get scope x)) (nth scope x)
  variable_outside scope l = tt

  reads_outside : (v : Visit) → AllByRecursion (IsOneOf (places v.scope)) (reads_to v.level v)
  reads_outside v = at v.level
    where
      at : (m : ℕ) → AllByRecursion (IsOneOf (places v.scope)) (reads_to m v)
      at zero = tt
      at (suc n) = variable_outside v.scope (out-Core v.expr)

  pub they_use : (v : Visit) → Uses v (visits w v)
  they_use = by_visits Uses (λ v h ready.
      let us = all_visits w (inside w v) in
      let all = us ++ v ∷ [] in
      let outer = outer_places v in
      let l = laid w v in
      let known = λ (p : List ℕ) (g : IsOneOf (places v.scope) p). one_append v.waits (places v.scope) p (inr g) in
      let ends = λ (p : List ℕ) (g : IsOneOf outer p). ready_before v.path p (each_one (IsReady v.path) outer p ready g) in
      let among = λ (p : List ℕ) (s : IsOneOf (paths us) p). subst (λ ps. IsOneOf ps p) (sym (paths-append us (v ∷ []))) (one_append (paths us) (v.path ∷ []) p (inl s)) in
      let below = each_weaker (Begins v.path l.0 0 l.1.last) (λ u. (p : List ℕ) → IsOneOf (places v.scope) p → IsReady u.path p)
      (λ u g p s. subst (λ q. IsReady q p) (sym g.path) (ready_inside v.path (g.number ∷ g.rest) p (each_one (IsReady v.path) outer p ready (known p s)))) (inside w v) l.1.block.begin in
      let inner = all_use (IsOneOf (places v.scope)) (inside w v) l.1.block.apart l.1.known below h in
      let U = λ (p : List ℕ). EndsBefore p v.path × (IsOneOf (paths all) p ⊎ IsOneOf outer p) in
      each_append (UsesEarlier w all outer) us (v ∷ [])
      (each_weaker (UsesKnown us (IsOneOf (places v.scope))) (UsesEarlier w all outer)
      (uses_more us all (IsOneOf (places v.scope)) (IsOneOf outer) (λ p s. elim s [ inl g ↦ inl (among p g) | inr g ↦ inr (known p g) ])) us inner) (
        each_append U v.waits (reads_to v.level v ++ paths (inside w v))
            (each_weaker (IsOneOf v.waits) U (λ p g. let o = one_append v.waits (places v.scope) p (inl g) in (ends p o, inr o)) v.waits (each_is_one v.waits))
            (each_append U (reads_to v.level v) (paths (inside w v))
            (each_weaker (IsOneOf (places v.scope)) U (λ p g. (ends p (known p g), inr (known p g))) (reads_to v.level v) (reads_outside v))
            (each_weaker (λ p. EndsBefore p v.path × IsOneOf (paths us) p) U (λ p g. (g.0, inl (among p g.1))) (paths (inside w v)) (inside_used v))),
        tt,
      ))
    where
      visited : (us : List Visit) → AllByRecursion (λ u. IsOneOf (paths (all_visits w us)) u.path) us
      visited [] = tt
      visited (u ∷ us) = (
        subst (λ ps. IsOneOf ps u.path) (sym (paths-append (visits w u) (all_visits w us))) (one_append (paths (visits w u)) (paths (all_visits w us)) u.path (inl (itself_visited u))),
        each_weaker (λ x. IsOneOf (paths (all_visits w us)) x.path) (λ x. IsOneOf (paths (all_visits w (u ∷ us))) x.path)
            (λ x g. subst (λ ps. IsOneOf ps x.path) (sym (paths-append (visits w u) (all_visits w us))) (one_append (paths (visits w u)) (paths (all_visits w us)) x.path (inr g))) us (visited us),
      )

      of_paths : (P : List ℕ → Type 0) (us : List Visit) → AllByRecursion (λ u. P u.path) us → AllByRecursion P (paths us)
      of_paths P [] h = tt
      of_paths P (u ∷ us) h = (h.0, of_paths P us h.1)

      inside_used : (v : Visit) → AllByRecursion (λ p. EndsBefore p v.path × IsOneOf (paths (all_visits w (inside w v))) p) (paths (inside w v))
      inside_used v =
          let h = laid w v in
          let P = λ (p : List ℕ). EndsBefore p v.path × IsOneOf (paths (all_visits w (inside w v))) p in
          of_paths P (inside w v)
          (each_both (Begins v.path h.0 0 h.1.last) (λ u. IsOneOf (paths (all_visits w (inside w v))) u.path) (λ u. P u.path)
          (λ u g o. (subst (λ p. EndsBefore p v.path) (sym g.path) (part_before v.path g.number g.rest), o)) (inside w v) h.1.block.begin (visited (inside w v)))

  -- where this holds of each place that visits use, the evaluation is decided
  abbrev Settled : (List ℕ → Type 0) → Visit → List Visit → Type 0
  Settled U v vs = AllByRecursion (λ u. AllByRecursion U (uses w u)) vs → IsDecided U w v

  settled : (U : List ℕ → Type 0) (v : Visit) → Settled U v (visits w v)
  settled U = by_visits (Settled U) (λ v h f.
      let P = λ (u : Visit). AllByRecursion U (uses w u) in
      let t = each_cut P (all_visits w (inside w v)) (v ∷ []) f in
      let own = (each_cut U (reads_to v.level v) (paths (inside w v)) (each_cut U v.waits (reads_to v.level v ++ paths (inside w v)) t.1.0).1).0 in
      decided U w v own (each_both (λ u. AllByRecursion P (visits w u)) (Whole (Settled U)) (IsDecided U w) (λ u g s. s g) (inside w v) (each_of_flat P (visits w) (inside w v) t.0) h))

  pub used_values_decide : (v : Visit) (other : List Binding) → AgreeWhereUsed w (visits w v) v.scope other → answer w v ≡ answer w (record v { scope = other })
  used_values_decide v other a =
      let us = flat_map (uses w) (visits w v) in
      settled (IsOneOf us) v (each_of_flat (IsOneOf us) (uses w) (visits w v) (each_is_one us)) other a

  pub all_distinct : (vs : List Visit) → AreRising vs → AreDistinct (paths vs)
  all_distinct [] h = tt
  all_distinct (v ∷ vs) h = (λ c. never_itself v.path (All-contains (EndsBefore v.path) (paths vs) v.path (All-from_recursion (EndsBefore v.path) (paths vs) (of_paths vs h.0)) c), all_distinct vs h.1)
    where
      of_paths : (us : List Visit) → AllByRecursion (Ends v) us → AllByRecursion (EndsBefore v.path) (paths us)
      of_paths [] h = tt
      of_paths (u ∷ us) h = (h.0, of_paths us h.1)
