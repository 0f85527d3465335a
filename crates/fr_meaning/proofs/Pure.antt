-- A pure expression's evaluation depends neither on its kept tree nor on sources that it doesn't name.
use Rattle.std.proofs.Common.{◌≡◌, ℕ, ◌+◌, ◌-◌, zero, suc, Bool, true, false, ◌&&◌, if◌then◌else◌, List, [], ◌∷◌, ◌++◌, map, length, slice_get, refl, ap, sym, ◌∙◌, subst, Option, Some, None, Result, Ok, Err}
use Rattle.std.specs.Option.{option_or}
use Rattle.std.proofs.lemmas.Bool.{false≢true}
use Rattle.fr_value.specs.declared.now.Now.{Now}
use Rattle.fr_value.specs.declared.now.Bad.{Bad}
use Rattle.fr_core.specs.Shapes.{parts_in, all_true}
use Rattle.fr_core.specs.Classes.{all_pure, is_prim, pure_itself, judge, FunctionSet, closed_itself, names_only, takes, calls_of, FitsPure, IsPureExpr}
use Rattle.fr_core.specs.declared.core_form.Core.{Core, out-Core}
use Rattle.fr_core.specs.declared.core_form.Core.TheOpen.{Core-F}
use Rattle.fr_core.specs.declared.core_form.Operator.{Operator}
use Rattle.fr_core.specs.declared.core_form.Operator.TheVariants as operator
use Rattle.fr_core.specs.declared.kept.Kept.{Kept}
use Rattle.fr_core.specs.declared.kept.Kept.TheVariants as kept
use Rattle.fr_core.specs.declared.program.Program.{Program}
use Rattle.fr_core.proofs.Folds.{judge-opens, names-opens, Each, by_parts}
use Rattle.fr_meaning.specs.Words.{Seen, Env, Done, under, part}
use Rattle.fr_meaning.specs.Primitives.{applied}
use Rattle.fr_meaning.specs.Cells.{Cell, child}
use Rattle.fr_meaning.specs.States.{gives, of_operator, no_call, state_now}
use Rattle.fr_meaning.specs.Evaluation.{world_of, Ev, Parts, parts, join_part, ended, leaf, source_seen, layer, after_parts, Choice, chosen_by, choice_kept, choice_done, test_refused, switch_done, call_done, body_for, turned, turns, turns_done, all_turns, rounds, body_with, loop_done, line_done, behind_cell, eval_to, most_levels}
use Rattle.fr_meaning.specs.Agreement.{IsSteady, IsSteadyOver}
use Rattle.fr_meaning.specs.Dependence.{joined, own_source, sources_of, AgreeAt}
use Rattle.fr_meaning.proofs.Begins.{choice_cases}
use Rattle.fr_meaning.proofs.Named.{sources-opens, both_agree, always_agree, each_outer, each_body}

pub both_true : (a b : Bool) → a && b ≡ true → (a ≡ true) × (b ≡ true)
both_true true true h = (refl, refl)
both_true true false h = cc
both_true false b h = cc

-- an expression that names no source is none, and its parts name none
abbrev pub NamesNone : FunctionSet → Core → Type 0
NamesNone s e = names_only s e ≡ true → sources_of e ≡ []

pub own_none : (s : FunctionSet) (l : Core-F Core) → closed_itself s l ≡ true → own_source l ≡ []
own_none s (Core-F.Source x) h = absurd (false≢true h)
own_none s _ h = refl

pub parts_none : (s : FunctionSet) (es : List Core) → Each (NamesNone s) es → all_true (map (names_only s) es) ≡ true → joined (map sources_of es) ≡ []
parts_none s [] h closed = refl
parts_none s (e ∷ es) h closed = let t = both_true (names_only s e) (all_true (map (names_only s) es)) closed in rw (h.0 t.0, parts_none s es h.1 t.1) refl

pub names_none : (s : FunctionSet) (e : Core) → NamesNone s e
names_none s = by_parts (NamesNone s) (λ e h closed.
    let l = out-Core e in
    let t = both_true (closed_itself s l) (all_true (map (names_only s) (parts_in l))) (sym (names-opens s e) ∙ closed) in
    sources-opens e ∙ rw (own_none s l t.0, parts_none s (parts_in l) h t.1) refl)

-- what is told of an evaluation and of parts beside what they keep
abbrev pub bare : Done → Done
bare d = record { value = d.value; kept = kept.Nothing; cost = d.cost; first = d.first }

abbrev pub bare_parts : Parts → Parts
bare_parts ps = record { values = ps.values; kepts = []; cost = ps.cost; first = ps.first }

pub operator_agree : (o : Operator) → is_prim o ≡ true → (c c' : Option Cell) (ps ps' : Parts) → bare_parts ps ≡ bare_parts ps'
    → bare (line_done ps (state_now (of_operator o) c ps.values no_call)) ≡ bare (line_done ps' (state_now (of_operator o) c' ps'.values no_call))
operator_agree (operator.Prim p) h c c' ps ps' a = ap (λ ps. bare (line_done ps (gives (applied p ps.values) None))) a
operator_agree o h c c' ps ps' a = absurd (false≢true h)

module _ (body body' : List Seen → Done) (h : (vs : List Seen) → bare (body vs) ≡ bare (body' vs)) where
  pub turns_agree : (t : ℕ) (acc : Seen) (rest : List (List Seen)) → turns body t acc rest ≡ turns body' t acc rest
  turns_agree t acc [] = refl
  turns_agree t acc (vs ∷ rest) = ap (λ (d : Done). turned t d (turns body (t + 1) d.value rest)) (h (acc ∷ vs)) ∙ ap (turned t (body' (acc ∷ vs))) (turns_agree (t + 1) (body' (acc ∷ vs)).value rest)

  pub all_agree : (acc : Seen) (r : Result (List (List Seen)) Bad) → all_turns body acc r ≡ all_turns body' acc r
  all_agree acc (Err b) = refl
  all_agree acc (Ok rest) = turns_agree 0 acc rest

module _ (p : Program) (s : FunctionSet) (fits : FitsPure p s) (sources other : List Now) where
  -- an expression is pure where calls of members are, and the sources agree at what it names
  record Firm (e : Core) : Type 0 where
    pure : (judge (calls_of p s) e).pure ≡ true
    named : AgreeAt (sources_of e) sources other

  each_firm : (es : List Core) → all_pure (map (judge (calls_of p s)) es) ≡ true → AgreeAt (joined (map sources_of es)) sources other → Each Firm es
  each_firm [] h g = tt
  each_firm (e ∷ es) h g =
      let t = both_true (judge (calls_of p s) e).pure (all_pure (map (judge (calls_of p s)) es)) h in
      let u = both_agree (sources_of e) (joined (map sources_of es)) sources other g in
      (record { pure = t.0; named = u.0 }, each_firm es t.1 u.1)

  -- the body that a pure call evaluates: it names no source
  firm_call : (f n : ℕ) → calls_of p s f n ≡ true → (body : Core) × (body_for (slice_get p.functions f) n ≡ Some body) × Firm body
  firm_call f n pure =
      let t = both_true (s f) (takes (slice_get p.functions f) n) pure in
      let over = fits.fits f t.0 in
      let closed = over.closed.fits.fits f over.closed.member in
      let same : closed.function ≡ over.function = cc (closed.stands, over.stands) in
      let none = names_none over.closed.set over.function.body (ap (λ g. names_only over.closed.set g.body) (sym same) ∙ closed.body) in
      let arity = subst (λ o. takes o n ≡ true) over.stands t.1 in
      let stands = ap (λ o. body_for o n) over.stands ∙ ap (λ b. if b then Some over.function.body else None) arity in
      (over.function.body, stands, record { pure = over.body; named = subst (λ ns. AgreeAt ns sources other) (sym none) tt })

  -- two evaluations of an expression tell the same, over any two kept trees
  abbrev Steady : Ev → Ev → Core → Type 0
  Steady ev ev' e = (env : Env) (k k' : Kept) → bare (ev e env k) ≡ bare (ev' e env k')

  module _ (ev ev' : Ev) (ih : (e : Core) → Firm e → Steady ev ev' e) (env : Env) where
    parts_agree : (k k' : Kept) (i : ℕ) (es : List Core) → Each Firm es → bare_parts (parts ev env k i es) ≡ bare_parts (parts ev' env k' i es)
    parts_agree k k' i [] h = refl
    parts_agree k k' i (e ∷ es) h =
        ap (λ d. bare_parts (join_part i d (parts ev env k (i + 1) es))) (ih e h.0 env (child k i) (child k' i))
        ∙ ap (λ ps. bare_parts (join_part i (ev' e env (child k' i)) ps)) (parts_agree k k' (i + 1) es h.1)

    one_level : (k k' : Kept) (l : Core-F Core) → pure_itself (calls_of p s) l ≡ true → AgreeAt (own_source l) sources other → Each Firm (parts_in l)
        → bare (layer (world_of p sources) ev env k l) ≡ bare (layer (world_of p other) ev' env k' l)
    one_level k k' (Core-F.Lit v) pure named h = refl
    one_level k k' (Core-F.Var x) pure named h = refl
    one_level k k' (Core-F.Source x) pure named h = ap (λ o. leaf (source_seen o)) named.0
    one_level k k' (Core-F.Let es body) pure named h =
        let n = length es in
        let t = each_body Firm es n body h in
        let ps = parts ev env k 0 es in
        ap (λ d. bare (after_parts n ps d)) (ih body t.1 (env ++ ps.values) (child k n) (child k' n))
        ∙ ap (λ ps. bare (after_parts n ps (ev' body (env ++ ps.values) (child k' n)))) (parts_agree k k' 0 es t.0)
    one_level k k' (Core-F.If test a b) pure named h =
        let t = ev test env (child k 0) in
        let t' = ev' test env (child k' 0) in
        let q = ih test h.0 env (child k 0) (child k' 0) in
        let same = λ (c : Choice) (g : Firm c.expr). ap (λ d. bare (choice_done t c d)) (ih c.expr g env (choice_kept k c) (choice_kept k' c)) ∙ ap (λ t. bare (choice_done t c (ev' c.expr env (choice_kept k' c)))) q in
        rw (← ap (λ d. d.value) q) (choice_cases (λ r. bare (switch_done ev env k t r) ≡ bare (switch_done ev' env k' t' r)) a b (λ bad. ap (λ t. bare (test_refused t bad)) q)
        (same (chosen_by a b true) h.1.0) (same (chosen_by a b false) h.1.1.0) t.value)
    one_level k k' (Core-F.Apply f es) pure named h =
        let n = length es in
        let c = firm_call f.0 n pure in
        let ps = parts ev env k 0 es in
        rw c.1 (ap (λ (d : Done). bare (ended d.value kept.Nothing (ps.cost + (d.cost + 1)) (option_or ps.first (under n d.first)))) (ih c.0 c.2 ps.values (child k n) (child k' n))
        ∙ ap (λ ps. bare (call_done ev' k' n ps (Some c.0))) (parts_agree k k' 0 es (each_outer Firm es h)))
    one_level k k' (Core-F.Operator o es) pure named h =
        let inside = behind_cell (of_operator o) k in
        let inside' = behind_cell (of_operator o) k' in
        operator_agree o pure _ _ (parts ev env inside 0 es) (parts ev' env inside' 0 es) (parts_agree inside inside' 0 es (each_outer Firm es h))
    one_level k k' (Core-F.Handler g es body) pure named h = absurd (false≢true pure)
    one_level k k' (Core-F.Loop g es body) pure named h =
        let n = length es in
        let t = each_body Firm es _ body h in
        let vs = (parts ev env k 0 es).values in
        let turns = all_agree (body_with ev env body) (body_with ev' env body) (λ vs. ih body t.1 (env ++ vs) kept.Nothing kept.Nothing) (part vs 0) (rounds g (part vs 1)) in
        ap (λ t. bare (turns_done n (parts ev env k 0 es) t)) turns ∙ ap (λ ps. bare (loop_done ev' env g n ps body)) (parts_agree k k' 0 es t.0)
    one_level k k' (Core-F.Feedback init body) pure named h = absurd (false≢true pure)

  -- at every number of levels
  steady : (n : ℕ) (e : Core) → Firm e → Steady (eval_to n (world_of p sources)) (eval_to n (world_of p other)) e
  unfolding eval_to
  steady zero e h env k k' = refl
  steady (suc n) e h env k k' =
      let calls = calls_of p s in
      let l = out-Core e in
      let t = both_true (pure_itself calls l) (all_pure (map (judge calls) (parts_in l))) (ap (λ j. j.pure) (sym (judge-opens calls e)) ∙ h.pure) in
      let u = both_agree (own_source l) (joined (map sources_of (parts_in l))) sources other (subst (λ ns. AgreeAt ns sources other) (sources-opens e) h.named) in
      one_level (eval_to n (world_of p sources)) (eval_to n (world_of p other)) (steady n) env k k' l t.0 u.0 (each_firm (parts_in l) t.1 u.1)

pub named_sources_decide : (p : Program) (sources other : List Now) (e : Core) → IsPureExpr p e → AgreeAt (sources_of e) sources other → IsSteadyOver (world_of p sources) (world_of p other) e
named_sources_decide p sources other e h named nest env k k' =
    let same = steady p h.set h.fits sources other (most_levels + 1 - nest) e (record { pure = h.pure; named = named }) env k k' in
    record { value = ap (λ d. d.value) same; cost = ap (λ d. d.cost) same; first = ap (λ d. d.first) same }

pub pure_is_steady : (p : Program) (sources : List Now) (e : Core) → IsPureExpr p e → IsSteady (world_of p sources) e
pure_is_steady p sources e h = named_sources_decide p sources sources e h (always_agree (sources_of e) sources)
