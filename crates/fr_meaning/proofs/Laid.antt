-- How the visits inside one are laid out, shape by shape: their places stand apart in rising order, and each has its variables and what it waits for from the whole or from earlier ones.
use Rattle.std.proofs.Common.{◌≡◌, ◌<◌, ◌≤◌, ◌⊎◌, ℕ, ◌+◌, zero, suc, List, [], ◌∷◌, ◌++◌, map, length, slice_get, refl, ap, ◌∙◌, inl, inr, arith, subst, Option, Some, None, Result, Ok, Err}
use Rattle.std.specs.List.{AllByRecursion}
use Rattle.std.proofs.lemmas.List.{append_assoc, append-nil}
use Rattle.fr_value.specs.declared.now.Bad.{Bad}
use Rattle.fr_core.specs.declared.core_form.Core.{Core, out-Core}
use Rattle.fr_core.specs.declared.core_form.Core.TheOpen.{Core-F}
use Rattle.fr_core.specs.declared.kept.Kept.{Kept}
use Rattle.fr_meaning.specs.Words.{Seen, Env, part}
use Rattle.fr_meaning.specs.Cells.{child}
use Rattle.fr_meaning.specs.States.{Begun, known, asks, of_operator, of_handler, of_feedback, fed, handler_begin}
use Rattle.fr_meaning.specs.Evaluation.{World, Ev, parts, Choice, choose, body_for, rounds, form_cell, behind_cell, eval_to}
use Rattle.fr_meaning.specs.Visits.{Binding, places, Visit, paths, answer, part_at, part_visit, part_visits, part_values, given_by, choice_visits, call_visits, handler_visits, round_binding, turn_visit, given, turn_visits, loop_visits, inside_shape, inside_to, inside}
use Rattle.fr_meaning.specs.Order.{IsOneOf, outer_places}
use Rattle.fr_meaning.proofs.Begins.{IsBehindTest, behind_test, TurnsWell, rounds_well}
use Rattle.fr_meaning.proofs.Order.{IsLeftOf, left_under}
use Rattle.fr_meaning.proofs.Each.{each_weaker, each_append, each_is_one}

-- a visit on this level in a part of these numbers, or inside one, of what stands at this place
pub record Begins (at : List ℕ) (n lo hi : ℕ) (u : Visit) : Type 0 where
  pub number : ℕ
  pub rest : List ℕ
  pub path : u.path ≡ at ++ number ∷ rest
  pub least : lo ≤ number
  pub most : number < hi
  pub level : u.level ≡ n

-- each visit's place is left of those behind it
abbrev pub AreApart : List Visit → Type 0
AreApart [] = Unit {0}
AreApart (u ∷ us) = AllByRecursion (λ x. IsLeftOf u.path x.path) us × AreApart us

-- visits on this level, apart, in parts from number lo on and below hi
pub record Block (at : List ℕ) (n lo hi : ℕ) (us : List Visit) : Type 0 where
  pub apart : AreApart us
  pub begin : AllByRecursion (Begins at n lo hi) us

-- what each visit has from outside is among these places, or is the place of an earlier one
abbrev pub AreKnown : (List ℕ → Type 0) → List Visit → Type 0
AreKnown K [] = Unit {0}
AreKnown K (u ∷ us) = AllByRecursion K (outer_places u) × AreKnown (λ p. (u.path ≡ p) ⊎ K p) us

-- visits inside this one, on the level below
pub record Laid (n : ℕ) (v : Visit) (us : List Visit) : Type 0 where
  pub last : ℕ
  pub block : Block v.path n 0 last us
  pub known : AreKnown (IsOneOf (places v.scope)) us

apart_append : (us vs : List Visit) → AreApart us → AreApart vs → AllByRecursion (λ u. AllByRecursion (λ x. IsLeftOf u.path x.path) vs) us → AreApart (us ++ vs)
apart_append [] vs h g all = g
apart_append (u ∷ us) vs h g all = (each_append (λ x. IsLeftOf u.path x.path) us vs h.0 all.0, apart_append us vs h.1 g all.1)

module _ (at : List ℕ) (n : ℕ) where
  wider : (lo hi lo' hi' : ℕ) → lo' ≤ lo → hi ≤ hi' → (u : Visit) → Begins at n lo hi u → Begins at n lo' hi' u
  wider lo hi lo' hi' a b u h = record { number = h.number; rest = h.rest; path = h.path; least = omega (arith, a); most = omega (arith, b); level = h.level }

  in_order : (lo mid hi : ℕ) (u x : Visit) → Begins at n lo mid u → Begins at n mid hi x → IsLeftOf u.path x.path
  in_order lo mid hi u x h g = rw (h.path, g.path) (left_under at (h.number ∷ h.rest) (g.number ∷ g.rest) (inl (omega arith)))

  none : (lo hi : ℕ) → Block at n lo hi []
  none lo hi = record { apart = tt; begin = tt }

  -- one part
  one : (i : ℕ) (u : Visit) → u.path ≡ part_at at i → u.level ≡ n → Block at n i (i + 1) (u ∷ [])
  one i u path level = record { apart = (tt, tt); begin = (record { number = i; rest = []; path = path; least = omega arith; most = omega arith; level = level }, tt) }

  grown : (lo hi lo' hi' : ℕ) → lo' ≤ lo → hi ≤ hi' → (us : List Visit) → Block at n lo hi us → Block at n lo' hi' us
  grown lo hi lo' hi' a b us h = record { apart = h.apart; begin = each_weaker (Begins at n lo hi) (Begins at n lo' hi') (wider lo hi lo' hi' a b) us h.begin }

  -- parts before others
  join : (lo mid hi : ℕ) → lo ≤ mid → mid ≤ hi → (us vs : List Visit) → Block at n lo mid us → Block at n mid hi vs → Block at n lo hi (us ++ vs)
  join lo mid hi a b us vs h g = record {
    apart = apart_append us vs h.apart g.apart
        (each_weaker (Begins at n lo mid) (λ u. AllByRecursion (λ x. IsLeftOf u.path x.path) vs) (λ u k. each_weaker (Begins at n mid hi) (λ x. IsLeftOf u.path x.path) (λ x. in_order lo mid hi u x k) vs g.begin) us h.begin);
    begin = each_append (Begins at n lo hi) us vs (grown lo mid lo hi (omega arith) b us h).begin (grown mid hi lo hi a (omega arith) vs g).begin;
  }

  -- what stands inside part number m
  in_part : (m lo hi : ℕ) (us : List Visit) → Block (part_at at m) n lo hi us → Block at n m (m + 1) us
  in_part m lo hi us h = record {
    apart = h.apart;
    begin = each_weaker (Begins (part_at at m) n lo hi) (Begins at n m (m + 1))
        (λ u g. record { number = m; rest = g.number ∷ g.rest; path = g.path ∙ append_assoc at (m ∷ []) (g.number ∷ g.rest); least = omega arith; most = omega arith; level = g.level }) us h.begin;
  }

known_wider : (K L : List ℕ → Type 0) → ((p : List ℕ) → K p → L p) → (us : List Visit) → AreKnown K us → AreKnown L us
known_wider K L f [] h = tt
known_wider K L f (u ∷ us) h = (
  each_weaker K L f (outer_places u) h.0,
  known_wider (λ p. (u.path ≡ p) ⊎ K p) (λ p. (u.path ≡ p) ⊎ L p) (λ p g. elim g [ inl e ↦ inl e | inr k ↦ inr (f p k) ]) us h.1,
)

known_append : (K : List ℕ → Type 0) (us vs : List Visit) → AreKnown K us → AreKnown (λ p. IsOneOf (paths us) p ⊎ K p) vs → AreKnown K (us ++ vs)
known_append K [] vs h g = known_wider (λ p. IsOneOf [] p ⊎ K p) K (λ p k. elim k [ inl l ↦ absurd l | inr r ↦ r ]) vs g
known_append K (u ∷ us) vs h g =
    let more = λ (p : List ℕ). (u.path ≡ p) ⊎ K p in (
      h.0,
      known_append more us vs h.1 (known_wider (λ p. IsOneOf (paths (u ∷ us)) p ⊎ K p) (λ p. IsOneOf (paths us) p ⊎ more p)
          (λ p k. elim k [ inl (inl e) ↦ inr (inl e) | inl (inr l) ↦ inl l | inr r ↦ inr (inr r) ]) vs g),
    )

-- what is known of two lists of variables is known of both together
pub each_place : (K : List ℕ → Type 0) (scope more : List Binding) → AllByRecursion K (places scope) → AllByRecursion K (places more) → AllByRecursion K (places (scope ++ more))
each_place K [] more h g = g
each_place K (b ∷ scope) more h g = (h.0, each_place K scope more h.1 g)

given_known : (us : List Visit) (xs : List Seen) → AllByRecursion (IsOneOf (paths us)) (places (given_by us xs))
given_known [] xs = tt
given_known (u ∷ us) [] = tt
given_known (u ∷ us) (x ∷ xs) = (inl refl, each_weaker (IsOneOf (paths us)) (IsOneOf (paths (u ∷ us))) (λ p h. inr h) (places (given_by us xs)) (given_known us xs))

-- as many values as parts
pub parts_length : (ev : Ev) (env : Env) (k : Kept) (i : ℕ) (es : List Core) → length (parts ev env k i es).values ≡ length es
parts_length ev env k i [] = refl
parts_length ev env k i (e ∷ es) = ap suc (parts_length ev env k (i + 1) es)

module _ (w : World) (n : ℕ) (v : Visit) where
  -- the place of a part, or of a variable of the whole
  abbrev Known : List Visit → List ℕ → Type 0
  Known ps p = IsOneOf (paths ps) p ⊎ IsOneOf (places v.scope) p

  own_known : (ps : List Visit) → AllByRecursion (Known ps) (places v.scope)
  own_known ps = each_weaker (IsOneOf (places v.scope)) (Known ps) (λ p h. inr h) (places v.scope) (each_is_one (places v.scope))

  parts_known : (ps : List Visit) (qs : List (List ℕ)) → AllByRecursion (IsOneOf (paths ps)) qs → AllByRecursion (Known ps) qs
  parts_known ps qs h = each_weaker (IsOneOf (paths ps)) (Known ps) (λ p k. inl k) qs h

  -- the scope of the whole, and variables that parts give
  scope_known : (ps : List Visit) (xs : List Seen) → AllByRecursion (Known ps) (places (v.scope ++ given_by ps xs))
  scope_known ps xs = each_place (Known ps) v.scope (given_by ps xs) (own_known ps) (parts_known ps (places (given_by ps xs)) (given_known ps xs))

  part_block : (k : Kept) (i : ℕ) (es : List Core) → Block v.path n i (i + length es) (part_visits n v k i es)
  part_block k i [] = none v.path n i (i + 0)
  part_block k i (e ∷ es) =
      let u = part_visit n v i e v.scope (child k i) in
      join v.path n i (i + 1) (i + length (e ∷ es)) (omega arith) (omega arith) (u ∷ []) (part_visits n v k (i + 1) es) (one v.path n i u refl refl)
      (grown v.path n (i + 1) (i + 1 + length es) (i + 1) (i + length (e ∷ es)) (omega arith) (omega arith) _ (part_block k (i + 1) es))

  part_scopes : (K : List ℕ → Type 0) → AllByRecursion K (places v.scope) → (k : Kept) (i : ℕ) (es : List Core) → AreKnown K (part_visits n v k i es)
  part_scopes K h k i [] = tt
  part_scopes K h k i (e ∷ es) =
      let more = λ (p : List ℕ). (part_at v.path i ≡ p) ⊎ K p in
      (h, part_scopes more (each_weaker K more (λ p g. inr g) (places v.scope) h) k (i + 1) es)

  -- parts, and then what stands behind them
  abbrev Behind : ℕ → List Visit → List Visit → Type 0
  Behind m ps us = (hi : ℕ) × (m ≤ hi) × Block v.path n m hi us × AreKnown (Known ps) us

  nothing_behind : (m : ℕ) (ps : List Visit) → Behind m ps []
  nothing_behind m ps = (m, omega arith, none v.path n m m, tt)

  one_behind : (m i : ℕ) (ps : List Visit) (u : Visit) → m ≤ i → u.path ≡ part_at v.path i → u.level ≡ n → AllByRecursion (Known ps) (outer_places u) → Behind m ps (u ∷ [])
  one_behind m i ps u l path level h = (i + 1, omega (arith, l), grown v.path n i (i + 1) m (i + 1) l (omega arith) (u ∷ []) (one v.path n i u path level), (h, tt))

  laid_parts : (k : Kept) (es : List Core) (us : List Visit) → Behind (length es) (part_visits n v k 0 es) us → Laid n v (part_visits n v k 0 es ++ us)
  laid_parts k es us h =
      let ps = part_visits n v k 0 es in
      let scope = each_is_one (places v.scope) in
      record {
        last = h.0;
        block = join v.path n 0 (length es) h.0 (omega arith) h.1 ps us (grown v.path n 0 (0 + length es) 0 (length es) (omega arith) (omega arith) ps (part_block k 0 es)) h.2;
        known = known_append (IsOneOf (places v.scope)) ps us (part_scopes (IsOneOf (places v.scope)) scope k 0 es) h.3;
      }

  choice_behind : (ps : List Visit) → IsOneOf (paths ps) (part_at v.path 0) → (r : Result Choice Bad) → IsBehindTest r → Behind 1 ps (choice_visits n v r)
  choice_behind ps test (Err b) l = nothing_behind 1 ps
  choice_behind ps test (Ok c) l = one_behind 1 c.number ps _ l refl refl (inl test, own_known ps)

  call_behind : (m : ℕ) (ps : List Visit) (xs : List Seen) (body : Option Core) → Behind m ps (call_visits n v m (given_by ps xs) body)
  call_behind m ps xs None = nothing_behind m ps
  call_behind m ps xs (Some body) = one_behind m m ps _ (omega arith) refl refl (parts_known ps (places (given_by ps xs)) (given_known ps xs))

  handler_behind : (m : ℕ) (ps : List Visit) (body : Core) (b : Begun) → Behind m ps (handler_visits n v m ps body b)
  handler_behind m ps body (known l) = nothing_behind m ps
  handler_behind m ps body (asks args) =
      one_behind m m ps _ (omega arith) refl refl (each_append (Known ps) (paths ps) _ (parts_known ps (paths ps) (each_is_one (paths ps))) (scope_known ps args))

  module _ (m : ℕ) (body : Core) where
    turn_block : (t : ℕ) (acc : Binding) (rest : List (List Seen)) → Block (part_at v.path m) n t (t + length rest) (turn_visits w n v m body t acc rest)
    turn_block t acc [] = none (part_at v.path m) n t (t + 0)
    turn_block t acc (xs ∷ rest) =
        let u = turn_visit n v m body t acc xs in
        join (part_at v.path m) n t (t + 1) (t + length (xs ∷ rest)) (omega arith) (omega arith) (u ∷ []) _ (one (part_at v.path m) n t u refl refl)
        (grown (part_at v.path m) n (t + 1) (t + 1 + length rest) (t + 1) (t + length (xs ∷ rest)) (omega arith) (omega arith) _ (turn_block (t + 1) (given w u) rest))

    round_known : (K : List ℕ → Type 0) → K (part_at v.path 1) → (xs : List Seen) → AllByRecursion K (places (map (round_binding v) xs))
    round_known K list [] = tt
    round_known K list (x ∷ xs) = (list, round_known K list xs)

    turn_scopes : (K : List ℕ → Type 0) → AllByRecursion K (places v.scope) → K (part_at v.path 1) → (t : ℕ) (acc : Binding) (rest : List (List Seen)) → K acc.place → AreKnown K (turn_visits w n v m body t acc rest)
    turn_scopes K scope list t acc [] h = tt
    turn_scopes K scope list t acc (xs ∷ rest) h =
        let u = turn_visit n v m body t acc xs in
        let more = λ (p : List ℕ). (u.path ≡ p) ⊎ K p in (
          (list, each_place K v.scope (acc ∷ map (round_binding v) xs) scope (h, round_known K list xs)),
          turn_scopes more (each_weaker K more (λ p g. inr g) (places v.scope) scope) (inr list) (t + 1) (given w u) rest (inl refl),
        )

    loop_behind : (ps : List Visit) → (2 ≤ m → IsOneOf (paths ps) (part_at v.path 0) × IsOneOf (paths ps) (part_at v.path 1)) → (acc : Seen) (r : Result (List (List Seen)) Bad) → TurnsWell m r
        → Behind m ps (loop_visits w n v m body acc r)
    loop_behind ps two acc (Err b) h = nothing_behind m ps
    loop_behind ps two acc (Ok rest) h = (
      m + 1,
      omega arith,
      in_part v.path n m 0 (0 + length rest) _ (turn_block 0 _ rest),
      turn_scopes (Known ps) (own_known ps) (inl (two h).1) 0 _ rest (inl (two h).0),
    )

  first_two : (k : Kept) (es : List Core) → 2 ≤ length es → IsOneOf (paths (part_visits n v k 0 es)) (part_at v.path 0) × IsOneOf (paths (part_visits n v k 0 es)) (part_at v.path 1)
  first_two k [] h = absurd (omega (arith, h))
  first_two k (e ∷ []) h = absurd (omega (arith, h))
  first_two k (e ∷ f ∷ es) h = (inl refl, inr (inl refl))

  pub laid_shape : (l : Core-F Core) → Laid n v (inside_shape w n v l)
  laid_shape (Core-F.Lit x) = laid_parts v.kept [] [] (nothing_behind 0 [])
  laid_shape (Core-F.Var x) = laid_parts v.kept [] [] (nothing_behind 0 [])
  laid_shape (Core-F.Source s) = laid_parts v.kept [] [] (nothing_behind 0 [])
  laid_shape (Core-F.Let es body) =
      let m = length es in
      let ps = part_visits n v v.kept 0 es in
      laid_parts v.kept es _ (one_behind m m ps _ (omega arith) refl refl (scope_known ps (part_values w n v v.kept es)))
  laid_shape (Core-F.If test a b) =
      let t = part_visit n v 0 test v.scope (child v.kept 0) in
      laid_parts v.kept (test ∷ []) _ (choice_behind (t ∷ []) (inl refl) (choose a b (answer w t).value) (behind_test a b (answer w t).value))
  laid_shape (Core-F.Apply f es) =
      laid_parts v.kept es _ (call_behind (length es) (part_visits n v v.kept 0 es) (part_values w n v v.kept es) (body_for (slice_get w.functions f.0) (length es)))
  laid_shape (Core-F.Operator o es) =
      let k = behind_cell (of_operator o) v.kept in
      subst (Laid n v) (append-nil (part_visits n v k 0 es)) (laid_parts k es [] (nothing_behind (length es) (part_visits n v k 0 es)))
  laid_shape (Core-F.Handler h es body) =
      let k = behind_cell (of_handler h) v.kept in
      laid_parts k es _ (handler_behind (length es) (part_visits n v k 0 es) body (handler_begin h (form_cell (of_handler h) v.kept) (part_values w n v k es)))
  laid_shape (Core-F.Loop l es body) =
      let xs = part_values w n v v.kept es in
      let r = rounds l (part xs 1) in
      laid_parts v.kept es _ (loop_behind (length es) body (part_visits n v v.kept 0 es) (first_two v.kept es) (part xs 0) r
      (subst (λ m. TurnsWell m r) (parts_length (eval_to n w) _ v.kept 0 es) (rounds_well l xs)))
  laid_shape (Core-F.Feedback init body) =
      let k = behind_cell of_feedback v.kept in
      let i = part_visit n v 0 init v.scope (child k 0) in
      laid_parts k (init ∷ []) _ (one_behind 1 1 (i ∷ []) _ (omega arith) refl refl (scope_known (i ∷ []) (fed (form_cell of_feedback v.kept) (answer w i).value ∷ [])))

-- at every number of levels
pub laid : (w : World) (v : Visit) → (n : ℕ) × Laid n v (inside w v)
laid w v = at v.level
  where
    at : (m : ℕ) → (n : ℕ) × Laid n v (inside_to m w v)
    at zero = (0, record { last = 0; block = none v.path 0 0 0; known = tt })
    at (suc n) = (n, laid_shape w n v (out-Core v.expr))
