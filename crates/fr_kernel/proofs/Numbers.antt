-- An expression over slots evaluates as the one from which it was numbered.
use Rattle.std.proofs.Common.{◌≡◌, ◌+◌, ◌-◌, ◌≤◌, ◌<◌, ◌⊎◌, inl, inr, ℕ, zero, suc, Bool, true, false, ◌&&◌, if◌then◌else◌, nat_lt, List, [], ◌∷◌, ◌++◌, map, length, slice_get, refl, sym, ap, subst, ◌∙◌, append_assoc, arith, Option, Some, None, Ok, Err, Result}
use Rattle.std.specs.Option.{option_or}
use Rattle.std.proofs.lemmas.Bool.{false≢true, le-ltb}
use Rattle.std.proofs.lemmas.List.{length-map, append-nil}
use Rattle.fr_value.specs.declared.now.Now.{Now}
use Rattle.fr_value.specs.declared.now.Bad.{Bad}
use Rattle.fr_core.specs.Shapes.{parts_in, all_true}
use Rattle.fr_core.specs.Classes.{all_pure, is_prim, pure_itself, judge, FunctionSet, closed_itself, names_only, takes, calls_of, FitsPure, IsPureExpr}
use Rattle.fr_core.specs.declared.core_form.Core.{Core, out-Core, fold_out-Core, map-Core}
use Rattle.fr_core.specs.declared.core_form.Core.TheOpen.{Core-F}
use Rattle.fr_core.specs.declared.core_form.Core.TheVariants.{outs-Lit, outs-Var, outs-Let, outs-If, outs-Apply, outs-Operator, outs-Handler, outs-Loop, outs-Feedback}
use Rattle.fr_core.specs.declared.core_form.Operator.{Operator}
use Rattle.fr_core.specs.declared.core_form.Operator.TheVariants as operator
use Rattle.fr_core.specs.declared.kept.Kept.{Kept}
use Rattle.fr_core.specs.declared.kept.Kept.TheVariants as kept
use Rattle.fr_core.specs.declared.program.Program.{Program}
use Rattle.fr_core.proofs.Folds.{judge-opens, names-opens, Each, by_parts}
use Rattle.fr_meaning.specs.Words.{Seen, Env, Done, under, part, found, on_ok, test_of}
use Rattle.fr_meaning.specs.Primitives.{applied}
use Rattle.fr_meaning.specs.Cells.{Cell, child}
use Rattle.fr_meaning.specs.States.{gives, of_operator, no_call, state_now}
use Rattle.fr_meaning.specs.Evaluation.{world_of, Ev, Parts, parts, join_part, ended, leaf, source_seen, layer, after_parts, chosen_by, choice_kept, choice_done, test_refused, switch_done, call_done, body_for, turned, turns, turns_done, all_turns, rounds, body_with, loop_done, line_done, behind_cell, eval_to, eval}
use Rattle.fr_meaning.specs.Agreement.{Agree}
use Rattle.fr_meaning.specs.Dependence.{joined, own_variable, variables, own_source, sources_of, AgreeAt}
use Rattle.fr_meaning.proofs.Named.{variables-opens, sources-opens, each_outer, each_body}
use Rattle.fr_meaning.proofs.Pure.{named_sources_decide}
use Rattle.fr_kernel.specs.Answers.{world}
use Rattle.fr_kernel.specs.Numbers.{Scheme, around, width, variable_slot, source_slot, number_step, numbered, Every, Stand}

pub both_true : (a b : Bool) → a && b ≡ true → (a ≡ true) × (b ≡ true)
both_true true true h = (refl, refl)
both_true true false h = cc
both_true false b h = cc

pub every_both : (P : ℕ → Type 0) (ms ns : List ℕ) → Every P (ms ++ ns) → Every P ms × Every P ns
every_both P [] ns h = (tt, h)
every_both P (m ∷ ms) ns h = let t = every_both P ms ns h.1 in ((h.0, t.0), t.1)

-- a closed function's body names no source

abbrev NamesNone : FunctionSet → Core → Type 0
NamesNone s e = names_only s e ≡ true → sources_of e ≡ []

own_none : (s : FunctionSet) (l : Core-F Core) → closed_itself s l ≡ true → own_source l ≡ []
own_none s (Core-F.Source x) h = absurd (false≢true h)
own_none s _ h = refl

parts_none : (s : FunctionSet) (es : List Core) → Each (NamesNone s) es → all_true (map (names_only s) es) ≡ true → joined (map sources_of es) ≡ []
parts_none s [] h closed = refl
parts_none s (e ∷ es) h closed = let t = both_true (names_only s e) (all_true (map (names_only s) es)) closed in rw (h.0 t.0, parts_none s es h.1 t.1) refl

names_none : (s : FunctionSet) (e : Core) → NamesNone s e
names_none s = by_parts (NamesNone s) (λ e h closed.
    let l = out-Core e in
    let t = both_true (closed_itself s l) (all_true (map (names_only s) (parts_in l))) (sym (names-opens s e) ∙ closed) in
    sources-opens e ∙ rw (own_none s l t.0, parts_none s (parts_in l) h t.1) refl)

-- what is told beside what is kept

abbrev pub bare : Done → Done
bare d = record { value = d.value; kept = kept.Nothing; cost = d.cost; first = d.first }

abbrev pub bare_parts : Parts → Parts
bare_parts ps = record { values = ps.values; kepts = []; cost = ps.cost; first = ps.first }

pub bare_agree : (a b : Done) → Agree a b → bare a ≡ bare b
bare_agree a b h = rw (h.value, h.cost, h.first) refl

operator_agree : (o : Operator) → is_prim o ≡ true → (c c' : Option Cell) (ps ps' : Parts) → bare_parts ps ≡ bare_parts ps'
    → bare (line_done ps (state_now (of_operator o) c ps.values no_call)) ≡ bare (line_done ps' (state_now (of_operator o) c' ps'.values no_call))
operator_agree (operator.Prim p) h c c' ps ps' a = ap (λ ps. bare (line_done ps (gives (applied p ps.values) None))) a
operator_agree o h c c' ps ps' a = absurd (false≢true h)

module _ (body body' : List Seen → Done) (h : (vs : List Seen) → bare (body vs) ≡ bare (body' vs)) where
  turns_agree : (t : ℕ) (acc : Seen) (rest : List (List Seen)) → turns body t acc rest ≡ turns body' t acc rest
  turns_agree t acc [] = refl
  turns_agree t acc (vs ∷ rest) = ap (λ (d : Done). turned t d (turns body (t + 1) d.value rest)) (h (acc ∷ vs)) ∙ ap (turned t (body' (acc ∷ vs))) (turns_agree (t + 1) (body' (acc ∷ vs)).value rest)

  all_agree : (acc : Seen) (r : Result (List (List Seen)) Bad) → all_turns body acc r ≡ all_turns body' acc r
  all_agree acc (Err b) = refl
  all_agree acc (Ok rest) = turns_agree 0 acc rest

-- what a numbered expression opens to

abbrev pub number_layer : Scheme → Core-F Core → Core-F Core
number_layer s (Core-F.Var x) = Core-F.Var (record { 0 = variable_slot s x.0 })
number_layer s (Core-F.Source x) = Core-F.Var (record { 0 = source_slot s x.0 })
number_layer s l = map-Core Core Core (numbered s) l

step_opens : (s : Scheme) (l : Core-F Core) → out-Core (number_step s (map-Core Core Core (numbered s) l)) ≡ number_layer s l
step_opens s (Core-F.Var x) = outs-Var _
step_opens s (Core-F.Source x) = outs-Var _
step_opens s (Core-F.Lit v) = outs-Lit _
step_opens s (Core-F.Let es b) = outs-Let _ _
step_opens s (Core-F.If a b c) = outs-If _ _ _
step_opens s (Core-F.Apply f es) = outs-Apply _ _
step_opens s (Core-F.Operator o es) = outs-Operator _ _
step_opens s (Core-F.Handler h es b) = outs-Handler _ _ _
step_opens s (Core-F.Loop l es b) = outs-Loop _ _ _
step_opens s (Core-F.Feedback a b) = outs-Feedback _ _

pub numbered-opens : (s : Scheme) (e : Core) → out-Core (numbered s e) ≡ number_layer s (out-Core e)
unfolding numbered
numbered-opens s e = ap out-Core (fold_out-Core Core (number_step s) e) ∙ step_opens s (out-Core e)

-- a variable has one value at both

pub get_front : {X : Type 0} (xs ys : List X) (i : ℕ) → i < length xs → slice_get (xs ++ ys) i ≡ slice_get xs i
get_front [] ys i h = absurd (omega (arith, h))
get_front (x ∷ xs) ys zero h = refl
get_front (x ∷ xs) ys (suc i) h = get_front xs ys i (omega (arith, h))

pub get_behind : {X : Type 0} (xs ys : List X) (i j : ℕ) → i ≡ length xs + j → slice_get (xs ++ ys) i ≡ slice_get ys j
get_behind [] ys i j h = ap (slice_get ys) (omega (arith, h))
get_behind (x ∷ xs) ys zero j h = absurd (omega (arith, h))
get_behind (x ∷ xs) ys (suc i) j h = get_behind xs ys i j (omega (arith, h))

get_inside : {X : Type 0} (xs : List X) (i : ℕ) → i < length xs → slice_get xs i ≡ None → ⊥
get_inside [] i h e = omega (arith, h)
get_inside (x ∷ xs) zero h e = cc
get_inside (x ∷ xs) (suc i) h e = get_inside xs i (omega (arith, h)) e

get_past : {X : Type 0} (xs : List X) (i : ℕ) → (i < length xs) ⊎ (slice_get xs i ≡ None)
get_past [] i = inr refl
get_past (x ∷ xs) zero = inl (omega arith)
get_past (x ∷ xs) (suc i) = elim (get_past xs i) [ inl h ↦ inl (omega (arith, h)) | inr e ↦ inr e ]

pub below_or : (a b : ℕ) → (a < b) ⊎ (b ≤ a)
below_or a zero = inr (omega arith)
below_or zero (suc b) = inl (omega arith)
below_or (suc a) (suc b) = elim (below_or a b) [ inl h ↦ inl (omega (arith, h)) | inr h ↦ inr (omega (arith, h)) ]

own_slot : (s : Scheme) (x : ℕ) → around s ≤ x → variable_slot s x ≡ x - around s + width s
own_slot s x h =
    let past_first : nat_lt x s.first ≡ false = le-ltb x s.first (omega (arith, h)) in
    let past_all : nat_lt x (s.first + s.params) ≡ false = le-ltb x (s.first + s.params) h in
    rw (past_first, past_all) refl

module _ (p : Program) (set : FunctionSet) (fits : FitsPure p set) (s : Scheme) (sources : List Now) (env slots : Env) (scope : length env ≡ around s) (wide : length slots ≡ width s) where
  abbrev SameVariable : ℕ → Type 0
  SameVariable x = x < around s → slice_get env x ≡ slice_get slots (variable_slot s x)

  abbrev SameSource : ℕ → Type 0
  SameSource x = (source_slot s x < width s) × (found (slice_get slots (source_slot s x)) ≡ source_seen (slice_get sources x))

  -- an expression is pure where calls of members are, and the slots have what it names
  record Sound (e : Core) : Type 0 where
    pure : (judge (calls_of p set) e).pure ≡ true
    named : Every SameVariable (variables e)
    read : Every SameSource (sources_of e)

  each_sound : (es : List Core) → all_pure (map (judge (calls_of p set)) es) ≡ true → Every SameVariable (joined (map variables es)) → Every SameSource (joined (map sources_of es)) → Each Sound es
  each_sound [] h g r = tt
  each_sound (e ∷ es) h g r =
      let t = both_true (judge (calls_of p set) e).pure (all_pure (map (judge (calls_of p set)) es)) h in
      let u = every_both SameVariable (variables e) (joined (map variables es)) g in
      let v = every_both SameSource (sources_of e) (joined (map sources_of es)) r in
      (record { pure = t.0; named = u.0; read = v.0 }, each_sound es t.1 u.1 v.1)

  -- the body that a pure call evaluates: it is pure and names no source
  pure_call : (f n : ℕ) → calls_of p set f n ≡ true → (body : Core) × (body_for (slice_get p.functions f) n ≡ Some body) × IsPureExpr p body × (sources_of body ≡ [])
  pure_call f n pure =
      let t = both_true (set f) (takes (slice_get p.functions f) n) pure in
      let over = fits.fits f t.0 in
      let closed = over.closed.fits.fits f over.closed.member in
      let same : closed.function ≡ over.function = cc (closed.stands, over.stands) in
      let none = names_none over.closed.set over.function.body (ap (λ g. names_only over.closed.set g.body) (sym same) ∙ closed.body) in
      let arity = subst (λ o. takes o n ≡ true) over.stands t.1 in
      let stands = ap (λ o. body_for o n) over.stands ∙ ap (λ b. if b then Some over.function.body else None) arity in
      (over.function.body, stands, record { set = set; fits = fits; pure = over.body }, none)

  variable_same : (bs : Env) (x : ℕ) → SameVariable x → slice_get (env ++ bs) x ≡ slice_get (slots ++ bs) (variable_slot s x)
  variable_same bs x same = elim (below_or x (around s)) [
    | inl h ↦ outer_same bs x h (same h)
    | inr h ↦ own_same bs x h
  ]
    where
      slot_within : (x : ℕ) → x < around s → slice_get env x ≡ slice_get slots (variable_slot s x) → variable_slot s x < length slots
      slot_within x h e = elim (get_past slots (variable_slot s x)) [
        | inl w ↦ w
        | inr none ↦ absurd (get_inside env x (omega (arith, h, scope)) (e ∙ none))
      ]

      outer_same : (bs : Env) (x : ℕ) → x < around s → slice_get env x ≡ slice_get slots (variable_slot s x) → slice_get (env ++ bs) x ≡ slice_get (slots ++ bs) (variable_slot s x)
      outer_same bs x h e = get_front env bs x (omega (arith, h, scope)) ∙ e ∙ sym (get_front slots bs (variable_slot s x) (slot_within x h e))

      own_same : (bs : Env) (x : ℕ) → around s ≤ x → slice_get (env ++ bs) x ≡ slice_get (slots ++ bs) (variable_slot s x)
      own_same bs x h =
          let i = x - around s in
          get_behind env bs x i (omega (arith, h, scope)) ∙ sym (get_behind slots bs (variable_slot s x) i (omega (arith, own_slot s x h, wide)))

  -- an expression tells the same over the slots, over any two kept trees
  abbrev Same : Ev → Ev → Core → Type 0
  Same ev ev' e = (bs : Env) (k k' : Kept) → bare (ev e (env ++ bs) k) ≡ bare (ev' (numbered s e) (slots ++ bs) k')

  -- so does the body of a pure function over its arguments
  abbrev Bodies : Ev → Ev → Type 0
  Bodies ev ev' = (e : Core) → IsPureExpr p e → sources_of e ≡ [] → (args : Env) (k k' : Kept) → bare (ev e args k) ≡ bare (ev' e args k')

  module _ (ev ev' : Ev) (ih : (e : Core) → Sound e → Same ev ev' e) (bodies : Bodies ev ev') (bs : Env) where
    abbrev f : Core → Core
    f = numbered s

    inside : (e : Core) → Sound e → (vs : Env) (k k' : Kept) → bare (ev e (env ++ bs ++ vs) k) ≡ bare (ev' (f e) (slots ++ bs ++ vs) k')
    inside e h vs k k' = rw (append_assoc env bs vs, append_assoc slots bs vs) (ih e h (bs ++ vs) k k')

    parts_agree : (k k' : Kept) (i : ℕ) (es : List Core) → Each Sound es → bare_parts (parts ev (env ++ bs) k i es) ≡ bare_parts (parts ev' (slots ++ bs) k' i (map f es))
    parts_agree k k' i [] h = refl
    parts_agree k k' i (e ∷ es) h =
        ap (λ d. bare_parts (join_part i d (parts ev (env ++ bs) k (i + 1) es))) (ih e h.0 bs (child k i) (child k' i))
        ∙ ap (λ ps. bare_parts (join_part i (ev' (f e) (slots ++ bs) (child k' i)) ps)) (parts_agree k k' (i + 1) es h.1)

    module _ (k k' : Kept) (a b : Core) (first : Sound a) (second : Sound b) (t t' : Done) (q : bare t ≡ bare t') where
      chosen_same : (r : Result Bool Bad) → bare (switch_done ev (env ++ bs) k t (on_ok (chosen_by a b) r)) ≡ bare (switch_done ev' (slots ++ bs) k' t' (on_ok (chosen_by (f a) (f b)) r))
      chosen_same (Err bad) = ap (λ t. bare (test_refused t bad)) q
      chosen_same (Ok true) =
          let c = chosen_by a b true in
          let c' = chosen_by (f a) (f b) true in
          ap (λ d. bare (choice_done t c d)) (ih a first bs (choice_kept k c) (choice_kept k' c')) ∙ ap (λ t. bare (choice_done t c' (ev' (f a) (slots ++ bs) (choice_kept k' c')))) q
      chosen_same (Ok false) =
          let c = chosen_by a b false in
          let c' = chosen_by (f a) (f b) false in
          ap (λ d. bare (choice_done t c d)) (ih b second bs (choice_kept k c) (choice_kept k' c')) ∙ ap (λ t. bare (choice_done t c' (ev' (f b) (slots ++ bs) (choice_kept k' c')))) q

    one_level : (k k' : Kept) (l : Core-F Core) → pure_itself (calls_of p set) l ≡ true → Every SameVariable (own_variable l) → Every SameSource (own_source l) → Each Sound (parts_in l)
        → bare (layer (world_of p sources) ev (env ++ bs) k l) ≡ bare (layer (world p.functions) ev' (slots ++ bs) k' (number_layer s l))
    one_level k k' (Core-F.Lit v) pure named read h = refl
    one_level k k' (Core-F.Var x) pure named read h = ap (λ o. leaf (found o)) (variable_same bs x.0 named.0)
    one_level k k' (Core-F.Source x) pure named read h =
        let i = source_slot s x.0 in
        ap leaf (sym read.0.1 ∙ ap found (sym (get_front slots bs i (omega (arith, read.0.0, wide)))))
    one_level k k' (Core-F.Let es body) pure named read h =
        let n = length es in
        let t = each_body Sound es n body h in
        let ps = parts ev (env ++ bs) k 0 es in
        rw (length-map es f) (ap (λ d. bare (after_parts n ps d)) (inside body t.1 ps.values (child k n) (child k' n))
        ∙ ap (λ ps. bare (after_parts n ps (ev' (f body) (slots ++ bs ++ ps.values) (child k' n)))) (parts_agree k k' 0 es t.0))
    one_level k k' (Core-F.If test a b) pure named read h =
        let t = ev test (env ++ bs) (child k 0) in
        let t' = ev' (f test) (slots ++ bs) (child k' 0) in
        let q = ih test h.0 bs (child k 0) (child k' 0) in
        rw (← ap (λ d. d.value) q) (chosen_same k k' a b h.1.0 h.1.1.0 t t' q (test_of t.value))
    one_level k k' (Core-F.Apply g es) pure named read h =
        let n = length es in
        let c = pure_call g.0 n pure in
        let ps = parts ev (env ++ bs) k 0 es in
        rw (length-map es f, c.1) (ap (λ (d : Done). bare (ended d.value kept.Nothing (ps.cost + (d.cost + 1)) (option_or ps.first (under n d.first)))) (bodies c.0 c.2 c.3 ps.values (child k n) (child k' n))
        ∙ ap (λ ps. bare (call_done ev' k' n ps (Some c.0))) (parts_agree k k' 0 es (each_outer Sound es h)))
    one_level k k' (Core-F.Operator o es) pure named read h =
        let before = behind_cell (of_operator o) k in
        let before' = behind_cell (of_operator o) k' in
        operator_agree o pure _ _ (parts ev (env ++ bs) before 0 es) (parts ev' (slots ++ bs) before' 0 (map f es)) (parts_agree before before' 0 es (each_outer Sound es h))
    one_level k k' (Core-F.Handler g es body) pure named read h = absurd (false≢true pure)
    one_level k k' (Core-F.Loop g es body) pure named read h =
        let n = length es in
        let t = each_body Sound es _ body h in
        let vs = (parts ev (env ++ bs) k 0 es).values in
        let turns = all_agree (body_with ev (env ++ bs) body) (body_with ev' (slots ++ bs) (f body)) (λ vs. inside body t.1 vs kept.Nothing kept.Nothing) (part vs 0) (rounds g (part vs 1)) in
        rw (length-map es f) (ap (λ t. bare (turns_done n (parts ev (env ++ bs) k 0 es) t)) turns ∙ ap (λ ps. bare (loop_done ev' (slots ++ bs) g n ps (f body))) (parts_agree k k' 0 es t.0))
    one_level k k' (Core-F.Feedback init body) pure named read h = absurd (false≢true pure)

  bodies_same : (n : ℕ) → n ≤ 2001 → Bodies (eval_to n (world_of p sources)) (eval_to n (world p.functions))
  bodies_same n few e pure none args k k' =
      let w = world_of p sources in
      let w' = world p.functions in
      let levels : 2001 - (2001 - n) ≡ n = omega (arith, few) in
      let agree = named_sources_decide p sources [] e pure (subst (λ ns. AgreeAt ns sources []) (sym none) tt) (2001 - n) args k k' in
      bare_agree (eval_to n w e args k) (eval_to n w' e args k') (subst (λ m. Agree (eval_to m w e args k) (eval_to m w' e args k')) levels agree)

  -- at every number of levels that there is
  same : (n : ℕ) → n ≤ 2001 → (e : Core) → Sound e → Same (eval_to n (world_of p sources)) (eval_to n (world p.functions)) e
  unfolding eval_to
  same zero few e h bs k k' = refl
  same (suc n) few e h bs k k' =
      let calls = calls_of p set in
      let l = out-Core e in
      let t = both_true (pure_itself calls l) (all_pure (map (judge calls) (parts_in l))) (ap (λ j. j.pure) (sym (judge-opens calls e)) ∙ h.pure) in
      let u = every_both SameVariable (own_variable l) (joined (map variables (parts_in l))) (subst (Every SameVariable) (variables-opens e) h.named) in
      let v = every_both SameSource (own_source l) (joined (map sources_of (parts_in l))) (subst (Every SameSource) (sources-opens e) h.read) in
      let below : n ≤ 2001 = omega (arith, few) in
      rw (numbered-opens s e) (one_level (eval_to n (world_of p sources)) (eval_to n (world p.functions)) (same n below) (bodies_same n below) bs k k' l t.0 u.0 v.0 (each_sound (parts_in l) t.1 u.1 v.1))

pub numbered_same : (p : Program) (s : Scheme) (e : Core) (sources : List Now) (env slots : Env) → IsPureExpr p e → Stand s e sources env slots
    → (nest : ℕ) (k k' : Kept) → Agree (eval (world_of p sources) nest e env k) (eval (world p.functions) nest (numbered s e) slots k')
numbered_same p s e sources env slots h stand nest k k' =
    let sound = same p h.set h.fits s sources env slots stand.env_length stand.slots_length (2001 - nest) (omega arith) e (record { pure = h.pure; named = stand.variables_read; read = stand.sources_read }) [] k k' in
    let plain = rw (append-nil env, append-nil slots) at sound in
    record { value = ap (λ d. d.value) plain; cost = ap (λ d. d.cost) plain; first = ap (λ d. d.first) plain }
