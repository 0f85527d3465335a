-- The parts of a pure expression are pure, and so is the body that it calls; and an expression that is pure is so over slots.
use Rattle.std.proofs.Common.{◌≡◌, ℕ, Bool, true, ◌&&◌, if◌then◌else◌, List, [], ◌∷◌, ◌++◌, map, length, slice_get, refl, sym, ap, subst, ◌∙◌, Some, None}
use Rattle.std.proofs.lemmas.Bool.{false≢true}
use Rattle.std.proofs.lemmas.List.{length-map}
use Rattle.fr_value.specs.declared.ids.FunId.{FunId}
use Rattle.fr_core.specs.Shapes.{outer, parts_in}
use Rattle.fr_core.specs.Classes.{all_pure, is_prim, pure_itself, judge, FunctionSet, takes, calls_of, FitsPure}
use Rattle.fr_core.specs.declared.core_form.Core.{Core, out-Core}
use Rattle.fr_core.specs.declared.core_form.Core.TheOpen.{Core-F}
use Rattle.fr_core.specs.declared.core_form.Handler.{Handler}
use Rattle.fr_core.specs.declared.core_form.Loop.{Loop}
use Rattle.fr_core.specs.declared.core_form.Operator.{Operator}
use Rattle.fr_core.specs.declared.program.Function.{Function}
use Rattle.fr_core.specs.declared.program.Program.{Program}
use Rattle.fr_core.proofs.Folds.{judge-opens, Each, by_parts}
use Rattle.fr_core.proofs.Parts.{parts_in-map}
use Rattle.fr_meaning.specs.Evaluation.{body_for}
use Rattle.fr_kernel.specs.Numbers.{Scheme, numbered}
use Rattle.fr_kernel.specs.Purity.{IsPureOver, ArePureOver, IsPureCall}
use Rattle.fr_kernel.proofs.Numbers.{both_true, number_layer, numbered-opens}

each_pure : (fs : List Function) (p : Program) (set : FunctionSet) → FitsPure p set → p.functions ≡ fs → (es : List Core) → all_pure (map (judge (calls_of p set)) es) ≡ true → ArePureOver fs es
each_pure fs p set fits same [] h = tt
each_pure fs p set fits same (e ∷ es) h =
    let t = both_true (judge (calls_of p set) e).pure (all_pure (map (judge (calls_of p set)) es)) h in
    (record { program = p; functions = same; pure = record { set = set; fits = fits; pure = t.0 } }, each_pure fs p set fits same es t.1)

-- what is known of an expression itself and of its parts
record Opened (fs : List Function) (l : Core-F Core) : Type 0 where
  program : Program
  functions : program.functions ≡ fs
  set : FunctionSet
  fits : FitsPure program set
  itself : pure_itself (calls_of program set) l ≡ true
  parts : ArePureOver fs (parts_in l)

opened : (fs : List Function) (e : Core) (l : Core-F Core) → out-Core e ≡ l → IsPureOver fs e → Opened fs l
opened fs e l is h =
    let calls = calls_of h.program h.pure.set in
    let both = subst (λ l. (pure_itself calls l && all_pure (map (judge calls) (parts_in l))) ≡ true) is (ap (λ j. j.pure) (sym (judge-opens calls e)) ∙ h.pure.pure) in
    let t = both_true (pure_itself calls l) (all_pure (map (judge calls) (parts_in l))) both in
    record { program = h.program; functions = h.functions; set = h.pure.set; fits = h.pure.fits; itself = t.0; parts = each_pure fs h.program h.pure.set h.pure.fits h.functions (parts_in l) t.1 }

outer_pure : (fs : List Function) (es : List Core) → ArePureOver fs (map (λ (x : ℕ × Core). x.1) (outer es)) → ArePureOver fs es
outer_pure fs [] h = tt
outer_pure fs (e ∷ es) h = (h.0, outer_pure fs es h.1)

body_pure : (fs : List Function) (es : List Core) (n : ℕ) (b : Core) → ArePureOver fs (map (λ (x : ℕ × Core). x.1) (outer es ++ (n, b) ∷ [])) → ArePureOver fs es × IsPureOver fs b
body_pure fs [] n b h = (tt, h.0)
body_pure fs (e ∷ es) n b h = let t = body_pure fs es n b h.1 in ((h.0, t.0), t.1)

pub pure_if : (fs : List Function) (e a b c : Core) → out-Core e ≡ Core-F.If a b c → IsPureOver fs e → IsPureOver fs a × IsPureOver fs b × IsPureOver fs c
pure_if fs e a b c is h = let ps = (opened fs e (Core-F.If a b c) is h).parts in (ps.0, ps.1.0, ps.1.1.0)

pub pure_let : (fs : List Function) (e : Core) (es : List Core) (b : Core) → out-Core e ≡ Core-F.Let es b → IsPureOver fs e → ArePureOver fs es × IsPureOver fs b
pure_let fs e es b is h = body_pure fs es _ b (opened fs e (Core-F.Let es b) is h).parts

pub pure_loop : (fs : List Function) (e : Core) (g : Loop) (es : List Core) (b : Core) → out-Core e ≡ Core-F.Loop g es b → IsPureOver fs e → ArePureOver fs es × IsPureOver fs b
pure_loop fs e g es b is h = body_pure fs es _ b (opened fs e (Core-F.Loop g es b) is h).parts

pub pure_operator : (fs : List Function) (e : Core) (o : Operator) (es : List Core) → out-Core e ≡ Core-F.Operator o es → IsPureOver fs e → (is_prim o ≡ true) × ArePureOver fs es
pure_operator fs e o es is h = let t = opened fs e (Core-F.Operator o es) is h in (t.itself, outer_pure fs es t.parts)

call_pure : (p : Program) (set : FunctionSet) → FitsPure p set → (f n : ℕ) → calls_of p set f n ≡ true → IsPureCall p.functions f n
call_pure p set fits f n pure body is =
    let t = both_true (set f) (takes (slice_get p.functions f) n) pure in
    let over = fits.fits f t.0 in
    let arity = subst (λ o. takes o n ≡ true) over.stands t.1 in
    let stands = ap (λ o. body_for o n) over.stands ∙ ap (λ b. if b then Some over.function.body else None) arity in
    let same : over.function.body ≡ body = cc (stands, is) in
    subst (IsPureOver p.functions) same (record { program = p; functions = refl; pure = record { set = set; fits = fits; pure = over.body } })

pub pure_call : (fs : List Function) (e : Core) (f : FunId) (es : List Core) → out-Core e ≡ Core-F.Apply f es → IsPureOver fs e → ArePureOver fs es × IsPureCall fs f.0 (length es)
pure_call fs e f es is h =
    let t = opened fs e (Core-F.Apply f es) is h in
    (outer_pure fs es t.parts, subst (λ fs. IsPureCall fs f.0 (length es)) t.functions (call_pure t.program t.set t.fits f.0 (length es) t.itself))

pub no_handler : (fs : List Function) (e : Core) (g : Handler) (es : List Core) (b : Core) → out-Core e ≡ Core-F.Handler g es b → IsPureOver fs e → ⊥
no_handler fs e g es b is h = false≢true (opened fs e (Core-F.Handler g es b) is h).itself

pub no_feedback : (fs : List Function) (e a b : Core) → out-Core e ≡ Core-F.Feedback a b → IsPureOver fs e → ⊥
no_feedback fs e a b is h = false≢true (opened fs e (Core-F.Feedback a b) is h).itself

-- over slots

module _ (calls : ℕ → ℕ → Bool) (s : Scheme) where
  abbrev Stays : Core → Type 0
  Stays e = (judge calls e).pure ≡ true → (judge calls (numbered s e)).pure ≡ true

  parts_stay : (es : List Core) → Each Stays es → all_pure (map (judge calls) es) ≡ true → all_pure (map (judge calls) (map (numbered s) es)) ≡ true
  parts_stay [] h pure = refl
  parts_stay (e ∷ es) h pure =
      let t = both_true (judge calls e).pure (all_pure (map (judge calls) es)) pure in
      rw (h.0 t.0) (parts_stay es h.1 t.1)

  itself_stays : (l : Core-F Core) → pure_itself calls l ≡ true → pure_itself calls (number_layer s l) ≡ true
  itself_stays (Core-F.Lit v) h = refl
  itself_stays (Core-F.Var x) h = refl
  itself_stays (Core-F.Source x) h = refl
  itself_stays (Core-F.Let es b) h = refl
  itself_stays (Core-F.If a b c) h = refl
  itself_stays (Core-F.Apply f es) h = rw (length-map es (numbered s)) h
  itself_stays (Core-F.Operator o es) h = h
  itself_stays (Core-F.Handler g es b) h = h
  itself_stays (Core-F.Loop g es b) h = refl
  itself_stays (Core-F.Feedback a b) h = h

  layer_parts : (l : Core-F Core) → parts_in (number_layer s l) ≡ map (numbered s) (parts_in l)
  layer_parts (Core-F.Var x) = refl
  layer_parts (Core-F.Source x) = refl
  layer_parts (Core-F.Lit v) = refl
  layer_parts (Core-F.Let es b) = parts_in-map (numbered s) (Core-F.Let es b)
  layer_parts (Core-F.If a b c) = refl
  layer_parts (Core-F.Apply f es) = parts_in-map (numbered s) (Core-F.Apply f es)
  layer_parts (Core-F.Operator o es) = parts_in-map (numbered s) (Core-F.Operator o es)
  layer_parts (Core-F.Handler g es b) = parts_in-map (numbered s) (Core-F.Handler g es b)
  layer_parts (Core-F.Loop g es b) = parts_in-map (numbered s) (Core-F.Loop g es b)
  layer_parts (Core-F.Feedback a b) = refl

  stays : (e : Core) → Stays e
  stays = by_parts Stays (λ e h pure.
      let l = out-Core e in
      let t = both_true (pure_itself calls l) (all_pure (map (judge calls) (parts_in l))) (ap (λ j. j.pure) (sym (judge-opens calls e)) ∙ pure) in
      ap (λ j. j.pure) (judge-opens calls (numbered s e)) ∙ rw (numbered-opens s e, itself_stays l t.0, layer_parts l) (parts_stay (parts_in l) h t.1))

-- a pure expression is pure over slots too
pub numbered_pure : (fs : List Function) (s : Scheme) (e : Core) → IsPureOver fs e → IsPureOver fs (numbered s e)
numbered_pure fs s e h = record {
  program = h.program;
  functions = h.functions;
  pure = record { set = h.pure.set; fits = h.pure.fits; pure = stays (calls_of h.program h.pure.set) s e h.pure.pure };
}
