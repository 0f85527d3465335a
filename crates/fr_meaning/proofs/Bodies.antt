-- What holds of all that the evaluation of a program's body visits.
use Rattle.std.proofs.Common.{◌≡◌, ◌≤◌, ◌⊎◌, ◌↔◌, ℕ, ◌+◌, List, [], ◌∷◌, ◌++◌, map, refl, sym, ◌∙◌, inl, inr, arith, subst, Some, None}
use Rattle.std.specs.List.{AllByRecursion}
use Rattle.std.specs.Option.{option_or}
use Rattle.std.proofs.lemmas.List.{map-append}
use Rattle.fr_value.specs.Data.{total}
use Rattle.fr_value.specs.declared.now.Now.{Now}
use Rattle.fr_core.specs.declared.kept.Kept.{Kept}
use Rattle.fr_core.specs.declared.program.Item.{Item}
use Rattle.fr_core.specs.declared.program.Item.TheVariants as item
use Rattle.fr_core.specs.declared.program.Program.{Program}
use Rattle.fr_meaning.specs.Words.{Seen, First, Done, under}
use Rattle.fr_meaning.specs.Evaluation.{World, world_of, eval}
use Rattle.fr_meaning.specs.Afresh.{Evaluated, join_item, items, body}
use Rattle.fr_meaning.specs.Dependence.{with_bound}
use Rattle.fr_meaning.specs.Visits.{Binding, env_of, places, Visit, answer, given, own_cost, first_error, placed, item_visit, item_visits, body_visits}
use Rattle.fr_meaning.specs.Order.{AreRising, StandsWhole, IsOneOf, IsReady, UsesEarlier, ErrsNowhere}
use Rattle.fr_meaning.proofs.Order.{IsLeftOf}
use Rattle.fr_meaning.proofs.Each.{each, each_weaker}
use Rattle.fr_meaning.proofs.Laid.{AreApart, AreKnown, each_place}
use Rattle.fr_meaning.proofs.Told.{spent, firsts}
use Rattle.fr_meaning.proofs.Visits.{Whole, Adds, Errs, Rises, Together, Uses, all_cost, costs_add_up, all_errors, first_is_found, none_found, all_rise, they_rise, all_together, they_stand_together, all_use, they_use}

under_place : (i : ℕ) (f : First) → under i f ≡ placed (i ∷ []) f
under_place i None = refl
under_place i (Some x) = refl

-- items that were evaluated cost this and err so
record Told (e : Evaluated) (cost : ℕ) (first : First) : Type 0 where
  spent_in : e.cost ≡ cost
  erred_in : e.first ≡ first

one_told : (i : ℕ) (shown : List Seen) (d : Done) (e : Evaluated) (c : ℕ) (f : First) → Told e c f → Told (join_item i shown d e) (0 + d.cost + c) (option_or (placed (i ∷ []) d.first) f)
one_told i shown d e c f h = record { spent_in = let rest = h.spent_in in omega (arith, rest); erred_in = rw (under_place i d.first, h.erred_in) refl }

module _ (w : World) (k : Kept) where
  items_told : (scope : List Binding) (i : ℕ) (is : List Item) → Told (items (eval w 1) (env_of scope) k i is) (spent w (item_visits w scope k i is)) (firsts w (item_visits w scope k i is))
  items_told scope i [] = record { spent_in = refl; erred_in = refl }
  items_told scope i (item.Define e ∷ is) =
      let v = item_visit scope k i (item.Define e) in
      let d = answer w v in
      let more = scope ++ given w v ∷ [] in
      one_told i [] d (items (eval w 1) (env_of scope ++ d.value ∷ []) k (i + 1) is) _ _
      (subst (λ env. Told (items (eval w 1) env k (i + 1) is) (spent w (item_visits w more k (i + 1) is)) (firsts w (item_visits w more k (i + 1) is))) (map-append (λ b. b.value) scope (given w v ∷ [])) (items_told more (i + 1) is))
  items_told scope i (item.Show name e ∷ is) =
      let d = answer w (item_visit scope k i (item.Show name e)) in
      one_told i (d.value ∷ []) d (items (eval w 1) (env_of scope) k (i + 1) is) _ _ (items_told scope (i + 1) is)

  items_free : (scope : List Binding) (i : ℕ) (is : List Item) → total (map (λ u. u.price) (item_visits w scope k i is)) ≡ 0
  items_free scope i [] = refl
  items_free scope i (x ∷ is) = let rest = items_free (with_bound x scope (given w (item_visit scope k i x))) (i + 1) is in omega (arith, rest)

  items_later : (p : ℕ) (scope : List Binding) (i : ℕ) → p + 1 ≤ i → (is : List Item) → AllByRecursion (λ u. IsLeftOf (p ∷ []) u.path) (item_visits w scope k i is)
  items_later p scope i l [] = tt
  items_later p scope i l (x ∷ is) = (inl (omega (arith, l)), items_later p (with_bound x scope (given w (item_visit scope k i x))) (i + 1) (omega (arith, l)) is)

  items_apart : (scope : List Binding) (i : ℕ) (is : List Item) → AreApart (item_visits w scope k i is)
  items_apart scope i [] = tt
  items_apart scope i (x ∷ is) = let more = with_bound x scope (given w (item_visit scope k i x)) in (items_later i more (i + 1) (omega arith) is, items_apart more (i + 1) is)

  bound_known : (K : List ℕ → Type 0) (x : Item) (scope : List Binding) (b : Binding) → AllByRecursion K (places scope) → K b.place → AllByRecursion K (places (with_bound x scope b))
  bound_known K (item.Define e) scope b h g = each_place K scope (b ∷ []) h (g, tt)
  bound_known K (item.Show name e) scope b h g = h

  items_known : (K : List ℕ → Type 0) (scope : List Binding) (i : ℕ) (is : List Item) → AllByRecursion K (places scope) → AreKnown K (item_visits w scope k i is)
  items_known K scope i [] h = tt
  items_known K scope i (x ∷ is) h =
      let v = item_visit scope k i x in
      let more = λ (p : List ℕ). (v.path ≡ p) ⊎ K p in
      (h, items_known more (with_bound x scope (given w v)) (i + 1) is (bound_known more x scope (given w v) (each_weaker K more (λ p g. inr g) (places scope) h) (inl refl)))

module _ (p : Program) (sources : List Now) (k : Kept) where
  abbrev at_instant : World
  at_instant = world_of p sources

  abbrev all_items : List Visit
  all_items = item_visits at_instant [] k 0 p.body

  pub body_costs_add_up : total (map (own_cost at_instant) (body_visits p sources k)) ≡ (body p sources k).cost
  body_costs_add_up =
      let all = all_cost at_instant all_items (each (Whole at_instant (Adds at_instant)) (costs_add_up at_instant) all_items) in
      let free = items_free at_instant k [] 0 p.body in
      let told = (items_told at_instant k [] 0 p.body).spent_in in
      omega (arith, all, free, told)

  pub body_first_is_found : first_error at_instant (body_visits p sources k) ≡ (body p sources k).first
  body_first_is_found =
      all_errors at_instant all_items (each (Whole at_instant (Errs at_instant)) (first_is_found at_instant) all_items)
      ∙ sym (items_told at_instant k [] 0 p.body).erred_in

  pub body_clean : ErrsNowhere at_instant (body_visits p sources k) ↔ ((body p sources k).first ≡ None)
  body_clean = subst (λ f. ErrsNowhere at_instant (body_visits p sources k) ↔ (f ≡ None)) body_first_is_found (none_found at_instant (body_visits p sources k))

  pub body_rises : AreRising (body_visits p sources k)
  body_rises = all_rise at_instant all_items (items_apart at_instant k [] 0 p.body) (each (Whole at_instant (Rises at_instant)) (they_rise at_instant) all_items)

  pub body_stands_together : AllByRecursion (StandsWhole at_instant (body_visits p sources k)) (body_visits p sources k)
  body_stands_together =
      all_together at_instant all_items (items_apart at_instant k [] 0 p.body)
      (each (Whole at_instant (Together at_instant)) (they_stand_together at_instant) all_items)

  pub body_uses : AllByRecursion (UsesEarlier at_instant (body_visits p sources k) []) (body_visits p sources k)
  body_uses =
      all_use at_instant (IsOneOf []) all_items (items_apart at_instant k [] 0 p.body) (items_known at_instant k (IsOneOf []) [] 0 p.body tt)
      (each (λ u. (p : List ℕ) → IsOneOf [] p → IsReady u.path p) (λ u p h. absurd h) all_items)
      (each (Whole at_instant (Uses at_instant)) (they_use at_instant) all_items)
