-- What a run of a kernel, or of a loop over one, tells of its expression.
use Rattle.std.proofs.Common.{◌≡◌, ◌+◌, ◌<◌, ℕ, zero, suc, List, [], ◌∷◌, ◌++◌, map, drop, length, get_or, slice_get, sym, refl, ap, subst, ◌∙◌, arith, Some, Ok, Err, Result}
use Rattle.std.proofs.lemmas.List.{length-map, map-append}
use Rattle.fr_value.specs.declared.now.Now.{Now}
use Rattle.fr_core.specs.Classes.{IsPureExpr}
use Rattle.fr_core.specs.Shapes.{loop_binds}
use Rattle.fr_core.specs.declared.core_form.Core.{Core}
use Rattle.fr_core.specs.declared.core_form.Loop.{Loop}
use Rattle.fr_core.specs.declared.kept.Kept.{Kept}
use Rattle.fr_core.specs.declared.kept.Kept.TheVariants as kept
use Rattle.fr_core.specs.declared.program.Function.{Function}
use Rattle.fr_core.specs.declared.program.Program.{Program}
use Rattle.fr_meaning.specs.Words.{Seen, Env, Done}
use Rattle.fr_meaning.specs.Evaluation.{World, world_of, body_with, eval, eval_to}
use Rattle.fr_meaning.specs.Agreement.{Agree}
use Rattle.fr_kernel.specs.declared.fuel.KernStop.{KernStop}
use Rattle.fr_kernel.specs.declared.table.Kern.{Kern}
use Rattle.fr_kernel.specs.Answers.{world, slot_values, Ran}
use Rattle.fr_kernel.specs.Kernels.{Kernel, Kernels, kernel_for, slot_seen, world_at, AreInputs, AreOthers}
use Rattle.fr_kernel.specs.Loops.{loop_over, loop_at}
use Rattle.fr_kernel.specs.Numbers.{Scheme, numbered, restored}
use Rattle.fr_kernel.specs.Placed.{scheme_of, scheme_for}
use Rattle.fr_kernel.specs.Purity.{IsPureOver}
use Rattle.fr_kernel.specs.Runs.{code_of, CodeRan, CodeLooped}
use Rattle.fr_kernel.specs.Slots.{slots_for}
use Rattle.fr_kernel.specs.Tables.{expr_of, kernel_of, IsKernel, AreKernels}
use Rattle.fr_kernel.proofs.Turning.{loops_same}
use Rattle.fr_kernel.proofs.Numbers.{bare_agree, numbered_same}
use Rattle.fr_kernel.proofs.Restoring.{Named, restores}
use Rattle.fr_kernel.proofs.Standing.{named_for, values_of, stands, slots_seen, inputs_stand}

-- a kernel that is added

named_at : (s : Scheme) (first params : ℕ) (e : Core) → s ≡ scheme_for first params e → Named s e
named_at s first params e is = subst (λ t. Named t e) (sym is) (named_for first params e)

module _ (fs : List Function) (first params : ℕ) (e : Core) (k : Kern) (names : scheme_of k.names ≡ scheme_for first params e) (code : k.code ≡ numbered (scheme_of k.names) e) where
  back : expr_of k ≡ e
  back = ap (restored (scheme_of k.names)) code ∙ restores (scheme_of k.names) e (named_at (scheme_of k.names) first params e names)

  first_is : k.names.first ≡ first
  first_is = ap (λ s. s.first) names

  params_is : k.names.params ≡ params
  params_is = ap (λ s. s.params) names

  pub made : IsPureOver fs e → IsKernel fs k
  made pure = record {
    code = code ∙ ap (numbered (scheme_of k.names)) (sym back);
    names = names ∙ sym (ap (λ n. scheme_for n k.names.params (expr_of k)) first_is ∙ ap (λ n. scheme_for first n (expr_of k)) params_is ∙ ap (scheme_for first params) back);
    pure = subst (IsPureOver fs) (sym back) pure;
  }

  pub seen : kernel_of k ≡ kernel_for first params e
  seen = rw (back, first_is, params_is, ap (λ s. s.outer) names, ap (λ s. s.sources) names) refl

pub one_more : (fs : List Function) (ks : List Kern) (k : Kern) → AreKernels fs ks → IsKernel fs k → AreKernels fs (ks ++ k ∷ [])
one_more fs [] k h g = (g, tt)
one_more fs (q ∷ ks) k h g = (h.0, one_more fs ks k h.1 g)

abbrev seen_as : List Function → List Kernel → Kernels
seen_as fs kernels = record { functions = fs; kernels = kernels }

pub appended : (fs : List Function) (ks new : List Kern) (k : Kern) (kernel : Kernel) (t : Kernels) → seen_as fs (map kernel_of ks) ≡ t → new ≡ ks ++ k ∷ [] → kernel_of k ≡ kernel
    → seen_as fs (map kernel_of new) ≡ record t { kernels = t.kernels ++ kernel ∷ [] }
appended fs ks new k kernel t view is same =
    ap (λ l. seen_as fs (map kernel_of l)) is ∙ ap (seen_as fs) (map-append kernel_of ks (k ∷ []) ∙ ap (λ q. map kernel_of ks ++ q ∷ []) same)
    ∙ ap (λ (t : Kernels). record t { kernels = t.kernels ++ kernel ∷ [] }) view

-- a kernel that is found

pub kernel_at : (fs : List Function) (ks : List Kern) (i : ℕ) (q : Kern) → i < length ks → q ≡ get_or ks i q → AreKernels fs ks → IsKernel fs q
kernel_at fs [] i q within is h = absurd (omega (arith, within))
kernel_at fs (k ∷ ks) zero q within is h = subst (IsKernel fs) (sym is) h.0
kernel_at fs (k ∷ ks) (suc i) q within is h = kernel_at fs ks i q (omega (arith, within)) is h.1

seen_at : (ks : List Kern) (i : ℕ) (q : Kern) → i < length ks → q ≡ get_or ks i q → slice_get (map kernel_of ks) i ≡ Some (kernel_of q)
seen_at [] i q within is = absurd (omega (arith, within))
seen_at (p ∷ ks) zero q within is = ap (λ p. Some (kernel_of p)) (sym is)
seen_at (p ∷ ks) (suc i) q within is = seen_at ks i q (omega (arith, within)) is

-- over the slots that its code has, a kernel tells what its expression does at its place
pub code_agrees : (p : Program) (s : Scheme) (first params : ℕ) (e : Core) → s ≡ scheme_for first params e → IsPureExpr p e
    → (sources : List Now) (env args : Env) → length env ≡ s.first → length args ≡ s.params
    → (nest : ℕ) (k k' : Kept) → Agree (eval (world_of p sources) nest e (env ++ args) k) (eval (world p.functions) nest (numbered s e) (values_of s sources env args) k')
code_agrees p s first params e is pure sources env args near own nest k k' =
    numbered_same p s e sources (env ++ args) (values_of s sources env args) pure (stands s e sources env args near own (named_at s first params e is)) nest k k'

-- the values of its code's slots, from its inputs
stood : (s : Scheme) (k : Kernel) → k.params ≡ s.params → k.slots ≡ slots_for s.outer s.sources
    → (sources : List Now) (env args : Env) (inputs : List Now) → AreInputs k sources env args inputs → slot_values s.params inputs ≡ values_of s sources env args
stood s k params slots sources env args inputs i =
    let own : s.params ≡ length args = sym (i.params ∙ params) in
    let seen = ap (map (slot_seen sources env)) slots ∙ slots_seen s sources env in
    ap (λ n. slot_values n inputs) own ∙ inputs_stand inputs args (map (slot_seen sources env) k.slots) i.values ∙ ap (λ l. l ++ args) seen

both_agree : (a b c : Done) → Agree a c → Agree b c → Agree a b
both_agree a b c h g = record { value = h.value ∙ sym g.value; cost = h.cost ∙ sym g.cost; first = h.first ∙ sym g.first }

-- two places where a kernel has the same inputs
pub places_agree : (p : Program) (first params : ℕ) (e : Core) (inputs sources others : List Now) (env args far more : Env) → IsPureExpr p e
    → AreInputs (kernel_for first params e) sources env args inputs → AreInputs (kernel_for first params e) others far more inputs
    → (nest : ℕ) (k other : Kept) → Agree (eval (world_of p sources) nest e (env ++ args) k) (eval (world_of p others) nest e (far ++ more) other)
places_agree p first params e inputs sources others env args far more pure i j nest k other =
    let s = scheme_for first params e in
    let q = kernel_for first params e in
    let code = eval (world p.functions) nest (numbered s e) in
    let here = code_agrees p s first params e refl pure sources env args i.around i.params nest k k in
    let there = code_agrees p s first params e refl pure others far more j.around j.params nest other k in
    let same : values_of s others far more ≡ values_of s sources env args = sym (stood s q refl refl others far more inputs j) ∙ stood s q refl refl sources env args inputs i in
    both_agree _ _ (code (values_of s sources env args) k) here (subst (λ l. Agree (eval (world_of p others) nest e (far ++ more) other) (code l k)) same there)

-- what is told of an evaluation is told of one that agrees
ran_agrees : (r : Result Now KernStop) (before after : ℕ) (a b : Done) → Agree a b → Ran r before after b → Ran r before after a
ran_agrees (Ok v) before after a b h g = record { value = h.value ∙ g.value; clean = h.first ∙ g.clean; paid = rw h.cost g.paid }
ran_agrees (Err s) before after a b h g = rw (h.cost, h.first) g

-- the functions, where the sources have these values
abbrev at : List Function → List Now → World
at fs sources = record { functions = fs; sources = sources }

module _ (fs : List Function) (q : Kern) (h : IsKernel fs q) (sources : List Now) where
  abbrev s : Scheme
  s = scheme_of q.names

  kern_agrees : (env args : Env) → length env ≡ q.names.first → length args ≡ q.names.params
      → (nest : ℕ) (k k' : Kept) → Agree (eval (at fs sources) nest (expr_of q) (env ++ args) k) (eval (world fs) nest q.code (values_of s sources env args) k')
  kern_agrees env args near own nest k k' =
      let over = code_agrees h.pure.program s q.names.first q.names.params (expr_of q) h.names h.pure.pure sources env args near own nest k k' in
      let there = subst (λ gs. Agree (eval (at gs sources) nest (expr_of q) (env ++ args) k) (eval (world gs) nest (numbered s (expr_of q)) (values_of s sources env args) k')) h.pure.functions over in
      subst (λ c. Agree (eval (at fs sources) nest (expr_of q) (env ++ args) k) (eval (world fs) nest c (values_of s sources env args) k')) (sym h.code) there

  pub kern_runs : (inputs : List Now) (r : Result Now KernStop) (before after nest : ℕ)
      → ((k : Kept) → Ran r before after (eval (world fs) nest q.code (slot_values q.names.params inputs) k))
      → (env args : Env) → AreInputs (kernel_of q) sources env args inputs
      → (k : Kept) → Ran r before after (eval (at fs sources) nest (expr_of q) (env ++ args) k)
  kern_runs inputs r before after nest run env args i k =
      let others = map (slot_seen sources env) (kernel_of q).slots in
      let values : slot_values q.names.params inputs ≡ values_of s sources env args =
      ap (λ n. slot_values n inputs) (sym i.params) ∙ inputs_stand inputs args others i.values ∙ ap (λ l. l ++ args) (slots_seen s sources env) in
      ran_agrees r before after _ _ (kern_agrees env args i.around i.params nest k k) (subst (λ l. Ran r before after (eval (world fs) nest q.code l k)) values (run k))

  pub loop_runs : (l : Loop) (inputs : List Now) (r : Result Now KernStop) (before after nest : ℕ) → q.names.params ≡ loop_binds l
      → Ran r before after (loop_over l (body_with (eval (world fs) (nest + 1)) (map (λ n. Ok n) (drop 2 inputs)) q.code) (map (λ n. Ok n) inputs))
      → (env : Env) → AreOthers (kernel_of q) sources env (drop 2 inputs)
      → Ran r before after (loop_at (at fs sources) nest l (expr_of q) env inputs)
  loop_runs l inputs r before after nest binds run env i =
      let body = body_with (eval (at fs sources) (nest + 1)) env (expr_of q) in
      let body' = body_with (eval (world fs) (nest + 1)) (map (λ n. Ok n) (drop 2 inputs)) q.code in
      let others = i.values ∙ slots_seen s sources env in
      let same = loops_same body body' l (λ vs long. bare_agree (body vs) (body' vs)
      (subst (λ slots. Agree (body vs) (eval (world fs) (nest + 1) q.code (slots ++ vs) kept.Nothing)) (sym others)
      (kern_agrees env vs i.around (long ∙ sym binds) (nest + 1) kept.Nothing kept.Nothing))) (map (λ n. Ok n) inputs) in
      subst (Ran r before after) (sym same) run

-- a kernel of a table as the code reads it

module _ (fs : List Function) (ks : List Kern) (t : Kernels) (view : record { functions = fs; kernels = map kernel_of ks } ≡ t) (i : ℕ) (all : List Kern) (same : all ≡ ks) (q : Kern) (is : q ≡ get_or all i q)
    (number : i < length t.kernels) (sound : AreKernels fs ks) where
  here : q ≡ get_or ks i q
  here = is ∙ ap (λ l. get_or l i q) same

  within : i < length ks
  within = omega (arith, number, ap (λ (t : Kernels). length t.kernels) view, length-map ks kernel_of)

  pub kernel_here : IsKernel fs q
  kernel_here = kernel_at fs ks i q within here sound

  pub seen_here : slice_get t.kernels i ≡ Some (kernel_of q)
  seen_here = subst (λ (t : Kernels). slice_get t.kernels i ≡ Some (kernel_of q)) view (seen_at ks i q within here)

  only : (k : Kernel) → slice_get t.kernels i ≡ Some k → kernel_of q ≡ k
  only k h = let e : Some (kernel_of q) ≡ Some k = sym seen_here ∙ h in cc

  -- its code
  pub code_here : (k : Kernel) → slice_get t.kernels i ≡ Some k → q.code ≡ code_of k
  code_here k at =
      let h = kernel_here in
      let coded : q.code ≡ code_of (kernel_of q) = h.code ∙ ap (λ s. numbered s (expr_of q)) h.names in
      coded ∙ ap code_of (only k at)

  pub code_answers : (gs : List Function) → gs ≡ fs → (slots args : List Seen) (r : Result Now KernStop) (before after levels : ℕ)
      → ((kept : Kept) → Ran r before after (eval_to levels (world gs) q.code (slots ++ args) kept)) → CodeRan t i slots args levels before after r
  code_answers gs of_table slots args r before after levels run k at kept =
      subst (λ c. Ran r before after (eval_to levels (world_at t []) c (slots ++ args) kept)) (code_here k at)
      (subst (λ hs. Ran r before after (eval_to levels (world hs) q.code (slots ++ args) kept)) (of_table ∙ ap (λ (t : Kernels). t.functions) view) (run kept))

  pub code_loops : (gs : List Function) → gs ≡ fs → (l : Loop) (values slots : List Seen) (r : Result Now KernStop) (before after levels : ℕ)
      → Ran r before after (loop_over l (body_with (eval_to levels (world gs)) slots q.code) values) → CodeLooped t i l values slots levels before after r
  code_loops gs of_table l values slots r before after levels run k at =
      subst (λ c. Ran r before after (loop_over l (body_with (eval_to levels (world_at t [])) slots c) values)) (code_here k at)
      (subst (λ hs. Ran r before after (loop_over l (body_with (eval_to levels (world hs)) slots q.code) values)) (of_table ∙ ap (λ (t : Kernels). t.functions) view) run)

  module _ (gs : List Function) (of_table : gs ≡ fs) (inputs : List Now) (r : Result Now KernStop) (before after nest : ℕ) where
    pub kern_answers : ((k : Kept) → Ran r before after (eval (world gs) nest q.code (slot_values q.names.params inputs) k))
        → (k : Kernel) (sources : List Now) (env args : Env) → slice_get t.kernels i ≡ Some k → AreInputs k sources env args inputs → (kept : Kept) → Ran r before after (eval (world_at t sources) nest k.expr (env ++ args) kept)
    kern_answers run k sources env args at given kept =
        let run' = λ (k : Kept). subst (λ hs. Ran r before after (eval (world hs) nest q.code (slot_values q.names.params inputs) k)) of_table (run k) in
        let given' = subst (λ (k : Kernel). AreInputs k sources env args inputs) (sym (only k at)) given in
        let answer = kern_runs fs q kernel_here sources inputs r before after nest run' env args given' kept in
        let over = subst (λ (t : Kernels). Ran r before after (eval (world_at t sources) nest (expr_of q) (env ++ args) kept)) view answer in
        subst (λ (k : Kernel). Ran r before after (eval (world_at t sources) nest k.expr (env ++ args) kept)) (only k at) over

    pub loop_answers : (l : Loop) → q.names.params ≡ loop_binds l
        → Ran r before after (loop_over l (body_with (eval (world gs) (nest + 1)) (map (λ n. Ok n) (drop 2 inputs)) q.code) (map (λ n. Ok n) inputs))
        → (k : Kernel) (sources : List Now) (env : Env) → slice_get t.kernels i ≡ Some k → AreOthers k sources env (drop 2 inputs) → Ran r before after (loop_at (world_at t sources) nest l k.expr env inputs)
    loop_answers l binds run k sources env at given =
        let run' = subst (λ hs. Ran r before after (loop_over l (body_with (eval (world hs) (nest + 1)) (map (λ n. Ok n) (drop 2 inputs)) q.code) (map (λ n. Ok n) inputs))) of_table run in
        let given' = subst (λ (k : Kernel). AreOthers k sources env (drop 2 inputs)) (sym (only k at)) given in
        let answer = loop_runs fs q kernel_here sources l inputs r before after nest binds run' env given' in
        let over = subst (λ (t : Kernels). Ran r before after (loop_at (world_at t sources) nest l (expr_of q) env inputs)) view answer in
        subst (λ (k : Kernel). Ran r before after (loop_at (world_at t sources) nest l k.expr env inputs)) (only k at) over
