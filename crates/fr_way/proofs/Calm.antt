-- What stands for an expression never occurs for ever, where the variables in scope don't.
use Rattle.std.proofs.Common.{◌≡◌, ℕ, zero, suc, Bool, true, false, ◌&&◌, if◌then◌else◌, List, [], ◌∷◌, ◌++◌, length, slice_get, refl, sym, Option, Some, None, Result, Ok, Err}
use Rattle.std.proofs.lemmas.Bool.{false≢true}
use Rattle.fr_value.specs.declared.now.Bad.{Bad}
use Rattle.fr_value.specs.declared.value.Value.{Value}
use Rattle.fr_core.specs.declared.core_form.Operator.TheVariants as operator
use Rattle.fr_core.specs.declared.lowered.Low.{Low, out-Low}
use Rattle.fr_core.specs.declared.lowered.Low.TheOpen.{Low-F}
use Rattle.fr_core.specs.declared.lowered.Slot.{Slot}
use Rattle.fr_core.specs.declared.lowered.Slot.TheVariants as slot
use Rattle.fr_core.specs.declared.program.Program.{Program}
use Rattle.fr_meaning.specs.Words.{Seen, plain, test_of}
use Rattle.fr_meaning.specs.Cells.{Cell}
use Rattle.fr_kernel.specs.Kernels.{Kernels, Kernel}
use Rattle.fr_kernel.specs.Purity.{IsPureOver}
use Rattle.fr_graph.specs.Graph.{Part, steady, signal, Work, operates, handles, loops, runs, feeds, work_line, is_plain}
use Rattle.fr_graph.specs.Walk.{Plan, first, rest, Walk, AllPlaced, place_all, by_value, by_next, all_steady, steady_values, place_work, variable_part, slot_parts, low_body, place_chosen, place_switch, place_call, place_shape, place}
use Rattle.fr_graph.specs.Wired.{inputs_of}
use Rattle.fr_graph.specs.Sound.{IsPlanOf}
use Rattle.fr_way.specs.Frame.{occurs_now, AreCalm}
use Rattle.fr_way.specs.Calm.{Quiet, KernelsCalm}
use Rattle.fr_way.proofs.Clear.{AreClear, clear_kernels, clear_work}

both_true : (a b : Bool) → a && b ≡ true → (a ≡ true) × (b ≡ true)
both_true true true h = (refl, refl)
both_true true false h = cc
both_true false b h = cc

-- an occurrence is neither an error nor a plain value

no_error : (b : Bad) → occurs_now (Err b) ≡ false
no_error b = refl

no_datum : (v : Value) → occurs_now (plain v) ≡ false
no_datum v = refl

clear : (xs : List Seen) → Quiet xs → AreClear occurs_now no_error no_datum xs
clear [] q = tt
clear (x ∷ xs) q = (q.0, clear xs q.1)

quiet : (xs : List Seen) → AreClear occurs_now no_error no_datum xs → Quiet xs
quiet [] c = tt
quiet (x ∷ xs) c = (c.0, quiet xs c.1)

-- kernels of pure expressions give no occurrence over values that don't occur
pub kernels_calm : (t : Kernels) → ((i : ℕ) (k : Kernel) → slice_get t.kernels i ≡ Some k → IsPureOver t.functions k.expr) → KernelsCalm t
kernels_calm t pure n i slots args qs qa = clear_kernels occurs_now no_error no_datum t pure n i slots args (clear slots qs) (clear args qa)

pub plan_calm : (pr : Program) (p : Plan) → IsPlanOf pr p → KernelsCalm p.table
plan_calm pr p plan = kernels_calm p.table (λ i k e. record { program = pr; functions = sym plan.table; pure = plan.pure i k e })

-- nor does a plain work
plain_calm : (t : Kernels) → KernelsCalm t → (n : ℕ) (w : Work) (c : Option Cell) (xs : List Seen) → is_plain w ≡ true → Quiet xs → occurs_now (work_line t n w c xs).value ≡ false
plain_calm t kernels n w c xs h q =
    clear_work occurs_now no_error no_datum t (λ n i slots args cs ca. kernels n i slots args (quiet slots cs) (quiet args ca)) n w c xs h (clear xs q)

-- parts

calm_at : (ps : List Part) (i : ℕ) → AreCalm ps → AreCalm (variable_part (slice_get ps i) ∷ [])
calm_at [] i c = (refl, tt)
calm_at (steady v ∷ ps) zero c = (c.0, tt)
calm_at (signal m ∷ ps) zero c = tt
calm_at (steady v ∷ ps) (suc i) c = calm_at ps i c.1
calm_at (signal m ∷ ps) (suc i) c = calm_at ps i c

pub calm_append : (ps qs : List Part) → AreCalm ps → AreCalm qs → AreCalm (ps ++ qs)
calm_append [] qs c d = d
calm_append (steady v ∷ ps) qs c d = (c.0, calm_append ps qs c.1 d)
calm_append (signal m ∷ ps) qs c d = calm_append ps qs c d

calm_cons : (p : Part) (ps : List Part) → AreCalm (p ∷ []) → AreCalm ps → AreCalm (p ∷ ps)
calm_cons (steady v) ps c d = (c.0, d)
calm_cons (signal m) ps c d = d

calm_values : (ps : List Part) → all_steady ps ≡ true → AreCalm ps → Quiet (steady_values ps)
calm_values [] s c = tt
calm_values (steady v ∷ ps) s c = (c.0, calm_values ps s c.1)
calm_values (signal m ∷ ps) s c = absurd (false≢true s)

pub slots_calm : (p : Plan) (env : List Part) (ss : List Slot) → AreCalm env → AreCalm (slot_parts p env ss)
slots_calm p env [] c = tt
slots_calm p env (slot.Var x ∷ ss) c = calm_cons (variable_part (slice_get env x.0)) (slot_parts p env ss) (calm_at env x.0 c) (slots_calm p env ss c)
slots_calm p env (slot.Source s ∷ ss) c = slots_calm p env ss c

-- the inputs of a work among calm parts are calm
pub inputs_calm : (w : Work) (ps : List Part) → AreCalm ps → AreCalm (inputs_of w ps)
inputs_calm (operates operator.Delay) [] c = tt
inputs_calm (operates operator.Delay) (steady v ∷ ps) c = (c.0, tt)
inputs_calm (operates operator.Delay) (signal m ∷ ps) c = tt
inputs_calm (operates operator.DelayE) ps c = tt
inputs_calm (operates (operator.Prim p)) ps c = c
inputs_calm (operates operator.MergeE) ps c = c
inputs_calm (operates operator.Hold) ps c = c
inputs_calm (operates operator.Changes) ps c = c
inputs_calm (operates operator.OnceE) ps c = c
inputs_calm (handles f id) ps c = c
inputs_calm (loops l id) ps c = c
inputs_calm (runs id) ps c = c
inputs_calm feeds ps c = c

module _ (p : Plan) (kernels : KernelsCalm p.table) where
  abbrev pub CalmAt : ℕ → Type 0
  CalmAt n = (e : Low) (env : List Part) (ms : List ℕ) → AreCalm env → AreCalm ((place p n e env ms).part ∷ [])

  work_calm : (n : ℕ) (w : Work) (ps : List Part) (ms : List ℕ) → AreCalm ps → AreCalm ((place_work p n w ps ms).part ∷ [])
  work_calm n w ps ms c = by_steady (is_plain w && all_steady ps) refl
    where
      by_steady : (b : Bool) → is_plain w && all_steady ps ≡ b → AreCalm ((if b then by_value (work_line p.table n w None (steady_values ps)).value ms else by_next ms).part ∷ [])
      by_steady true e = let both = both_true (is_plain w) (all_steady ps) e in (plain_calm p.table kernels n w None (steady_values ps) both.0 (calm_values ps both.1 c), tt)
      by_steady false e = tt

  module _ (n : ℕ) (ih : CalmAt n) (env : List Part) (calm : AreCalm env) where
    abbrev walk : Walk
    walk = place p n

    pub all_parts_calm : (es : List Low) (ms : List ℕ) → AreCalm (place_all walk env es ms).parts
    all_parts_calm [] ms = tt
    all_parts_calm (e ∷ es) ms = calm_cons (walk e env ms).part (place_all walk env es (walk e env ms).left).parts (ih e env ms calm) (all_parts_calm es (walk e env ms).left)

    chosen_calm : (a b : Low) (ms : List ℕ) (o : Result Bool Bad) → AreCalm ((place_chosen walk a b env ms o).part ∷ [])
    chosen_calm a b ms (Err bad) = (refl, tt)
    chosen_calm a b ms (Ok true) = ih a env ms calm
    chosen_calm a b ms (Ok false) = ih b env ms calm

    switch_calm : (a b : Low) (t : Part) (ms : List ℕ) → AreCalm ((place_switch walk a b env t ms).part ∷ [])
    switch_calm a b (steady v) ms = chosen_calm a b ms (test_of v)
    switch_calm a b (signal i) ms = tt

    call_calm : (o : Option Low) (qs : AllPlaced) → AreCalm qs.parts → AreCalm ((place_call walk o qs).part ∷ [])
    call_calm None qs c = (refl, tt)
    call_calm (Some body) qs c = ih body qs.parts qs.left c

    shape_calm : (l : Low-F Low) (ms : List ℕ) → AreCalm ((place_shape p n walk env ms l).part ∷ [])
    shape_calm (Low-F.Lit v) ms = (refl, tt)
    shape_calm (Low-F.Var v) ms = calm_at env v.0 calm
    shape_calm (Low-F.Source s) ms = tt
    shape_calm (Low-F.Let es body) ms = let qs = place_all walk env es ms in ih body (env ++ qs.parts) qs.left (calm_append env qs.parts calm (all_parts_calm es ms))
    shape_calm (Low-F.If site test a b) ms = switch_calm a b (walk test env ms).part (walk test env ms).left
    shape_calm (Low-F.Apply f es) ms = call_calm (low_body (slice_get p.functions f.0) (length es)) (place_all walk env es ms) (all_parts_calm es ms)
    shape_calm (Low-F.Operator o es) ms = let qs = place_all walk env es ms in work_calm n (operates o) qs.parts qs.left (all_parts_calm es ms)
    shape_calm (Low-F.Handler f es id ss) ms =
        let qs = place_all walk env es ms in
        work_calm n (handles f id.0) (qs.parts ++ slot_parts p env ss) qs.left (calm_append qs.parts (slot_parts p env ss) (all_parts_calm es ms) (slots_calm p env ss calm))
    shape_calm (Low-F.Loop f es id ss) ms =
        let qs = place_all walk env es ms in
        work_calm n (loops f id.0) (qs.parts ++ slot_parts p env ss) qs.left (calm_append qs.parts (slot_parts p env ss) (all_parts_calm es ms) (slots_calm p env ss calm))
    shape_calm (Low-F.Feedback init body) ms =
        let i = walk init env ms in
        ih body (env ++ signal (first i.left) ∷ []) (rest i.left) (calm_append env (signal (first i.left) ∷ []) calm tt)
    shape_calm (Low-F.Collapse id ss) ms = work_calm n (runs id.0) (slot_parts p env ss) ms (slots_calm p env ss calm)

  -- CALM. What stands for an expression is no value that occurs for ever.
  pub place_calm : (n : ℕ) → CalmAt n
  unfolding place
  place_calm zero e env ms calm = (refl, tt)
  place_calm (suc n) e env ms calm = shape_calm n (place_calm n) env calm (out-Low e) ms
