-- Where neither an error nor a plain value is marked, nothing that is pure gives a marked value over values that aren't: a primitive, a loop, an expression, a kernel and a plain work.
use Rattle.std.proofs.Common.{◌≡◌, ◌+◌, ℕ, zero, suc, Bool, true, false, List, [], ◌∷◌, ◌++◌, map, drop, length, replicate, slice_get, refl, subst, Option, Some, None, Result, Ok, Err}
use Rattle.std.proofs.lemmas.Bool.{false≢true}
use Rattle.fr_value.specs.declared.now.Bad.{Bad}
use Rattle.fr_value.specs.declared.now.Bad.TheVariants.{WrongType, Arity, Deep}
use Rattle.fr_value.specs.Data.{value_of}
use Rattle.fr_value.specs.declared.value.Datum.{Datum}
use Rattle.fr_value.specs.declared.value.Value.{Value}
use Rattle.fr_value.specs.declared.primitive.Primitive.{Primitive}
use Rattle.fr_prims.specs.Integers.{Answer}
use Rattle.fr_prims.specs.Table.{prim_on}
use Rattle.fr_core.specs.Classes.{is_prim}
use Rattle.fr_core.specs.declared.core_form.Core.{Core, out-Core}
use Rattle.fr_core.specs.declared.core_form.Core.TheOpen.{Core-F}
use Rattle.fr_core.specs.declared.core_form.Loop.{Loop}
use Rattle.fr_core.specs.declared.core_form.Loop.TheVariants as loop
use Rattle.fr_core.specs.declared.core_form.Operator.{Operator}
use Rattle.fr_core.specs.declared.core_form.Operator.TheVariants as operator
use Rattle.fr_core.specs.declared.kept.Kept.{Kept}
use Rattle.fr_core.specs.declared.kept.Kept.TheVariants as kept
use Rattle.fr_core.specs.declared.program.Function.{Function}
use Rattle.fr_meaning.specs.Words.{Seen, Env, Done, plain, part, on_ok, test_of}
use Rattle.fr_meaning.specs.Cells.{Cell, child}
use Rattle.fr_meaning.specs.Primitives.{first_bad, plain_values, answer_seen, on_values, unless_bad, applied}
use Rattle.fr_meaning.specs.States.{of_operator, no_call}
use Rattle.fr_meaning.specs.Evaluation.{World, Ev, Parts, parts, chosen_by, choice_kept, switch_done, body_for, call_done, body_with, turns, all_turns, rounds, list_in, count_in, state_done, layer, eval_to}
use Rattle.fr_kernel.specs.Kernels.{Kernels, Kernel}
use Rattle.fr_kernel.specs.Numbers.{numbered}
use Rattle.fr_kernel.specs.Placed.{scheme_for}
use Rattle.fr_kernel.specs.Purity.{IsPureOver, ArePureOver}
use Rattle.fr_graph.specs.Graph.{Work, operates, handles, loops, runs, feeds, run_of, kernel_run, work_line, is_plain}
use Rattle.fr_way.proofs.Purity.{pure_if, pure_let, pure_loop, pure_operator, pure_call, no_handler, no_feedback, numbered_pure}

same_ok : (a b : List (List Seen)) → Path (Result (List (List Seen)) Bad) (Ok a) (Ok b) → a ≡ b
same_ok a b e = cc

module _ (marked : Seen → Bool) (errs : (b : Bad) → marked (Err b) ≡ false) (plains : (v : Value) → marked (plain v) ≡ false) where
  -- none of these values is marked
  abbrev pub AreClear : List Seen → Type 0
  AreClear [] = Unit {0}
  AreClear (x ∷ xs) = (marked x ≡ false) × AreClear xs

  clear_part : (xs : List Seen) (i : ℕ) → AreClear xs → marked (part xs i) ≡ false
  clear_part [] i c = errs Deep
  clear_part (x ∷ xs) zero c = c.0
  clear_part (x ∷ xs) (suc i) c = clear_part xs i c.1

  clear_drop : (k : ℕ) (xs : List Seen) → AreClear xs → AreClear (drop k xs)
  clear_drop zero xs c = c
  clear_drop (suc k) [] c = tt
  clear_drop (suc k) (x ∷ xs) c = clear_drop k xs c.1

  clear_append : (xs ys : List Seen) → AreClear xs → AreClear ys → AreClear (xs ++ ys)
  clear_append [] ys c d = d
  clear_append (x ∷ xs) ys c d = (c.0, clear_append xs ys c.1 d)

  -- a primitive

  clear_answer : (a : Answer) → marked (answer_seen a) ≡ false
  clear_answer (Ok v) = plains v
  clear_answer (Err b) = errs b

  clear_on_values : (p : Primitive) (o : Option (List Value)) → marked (on_values p o) ≡ false
  clear_on_values p None = errs WrongType
  clear_on_values p (Some vs) = clear_answer (prim_on p vs)

  clear_unless : (o : Option Bad) (x : Seen) → marked x ≡ false → marked (unless_bad o x) ≡ false
  clear_unless None x h = h
  clear_unless (Some b) x h = errs b

  clear_applied : (p : Primitive) (xs : List Seen) → marked (applied p xs) ≡ false
  unfolding applied
  clear_applied p xs = clear_unless (first_bad xs) (on_values p (plain_values xs)) (clear_on_values p (plain_values xs))

  -- a loop whose turns give none

  abbrev EachClear : List (List Seen) → Type 0
  EachClear [] = Unit {0}
  EachClear (vs ∷ more) = AreClear vs × EachClear more

  clear_turns : (run : List Seen → Done) → ((args : List Seen) → AreClear args → marked (run args).value ≡ false) → (t : ℕ) (acc : Seen) (more : List (List Seen)) → marked acc ≡ false → EachClear more
      → marked (turns run t acc more).value ≡ false
  clear_turns run clear t acc [] a c = a
  clear_turns run clear t acc (vs ∷ more) a c = clear_turns run clear (t + 1) (run (acc ∷ vs)).value more (clear (acc ∷ vs) (a, c.0)) c.1

  clear_all_turns : (run : List Seen → Done) → ((args : List Seen) → AreClear args → marked (run args).value ≡ false) → (acc : Seen) (o : Result (List (List Seen)) Bad) → marked acc ≡ false
      → ((more : List (List Seen)) → o ≡ Ok more → EachClear more) → marked (all_turns run acc o).value ≡ false
  clear_all_turns run clear acc (Err b) a c = errs b
  clear_all_turns run clear acc (Ok more) a c = clear_turns run clear 0 acc more a (c more refl)

  clear_items : (ds : List Datum) → EachClear (map (λ d. plain (value_of d) ∷ []) ds)
  clear_items [] = tt
  clear_items (d ∷ ds) = ((plains (value_of d), tt), clear_items ds)

  clear_many : (n : ℕ) → EachClear (replicate n [])
  clear_many zero = tt
  clear_many (suc n) = (tt, clear_many n)

  clear_rounds : (l : Loop) (x : Seen) (more : List (List Seen)) → rounds l x ≡ Ok more → EachClear more
  clear_rounds loop.Fold x more e = by_list (list_in x) e
    where
      by_list : (r : Result (List Datum) Bad) → on_ok (map (λ d. plain (value_of d) ∷ [])) r ≡ Ok more → EachClear more
      by_list (Err b) e = cc
      by_list (Ok ds) e = subst EachClear (same_ok (map (λ d. plain (value_of d) ∷ []) ds) more e) (clear_items ds)
  clear_rounds loop.Repeat x more e = by_count (count_in x) e
    where
      by_count : (r : Result ℕ Bad) → on_ok (λ n. replicate n []) r ≡ Ok more → EachClear more
      by_count (Err b) e = cc
      by_count (Ok n) e = subst EachClear (same_ok (replicate n []) more e) (clear_many n)

  -- a pure expression

  module _ (fs : List Function) where
    abbrev world : World
    world = record { functions = fs; sources = [] }

    abbrev EvalsClear : ℕ → Type 0
    EvalsClear n = (e : Core) (env : Env) (k : Kept) → IsPureOver fs e → AreClear env → marked (eval_to n world e env k).value ≡ false

    module _ (n : ℕ) (ih : EvalsClear n) (env : Env) (c : AreClear env) where
      abbrev ev : Ev
      ev = eval_to n world

      clear_parts : (es : List Core) (k : Kept) (i : ℕ) → ArePureOver fs es → AreClear (parts ev env k i es).values
      clear_parts [] k i h = tt
      clear_parts (e ∷ es) k i h = (ih e env (child k i) h.0 c, clear_parts es k (i + 1) h.1)

      clear_switch : (a b : Core) (k : Kept) (t : Done) (r : Result Bool Bad) → IsPureOver fs a → IsPureOver fs b → marked (switch_done ev env k t (on_ok (chosen_by a b) r)).value ≡ false
      clear_switch a b k t (Err bad) h j = errs bad
      clear_switch a b k t (Ok true) h j = ih a env (choice_kept k (chosen_by a b true)) h c
      clear_switch a b k t (Ok false) h j = ih b env (choice_kept k (chosen_by a b false)) j c

      clear_call : (o : Option Core) (ps : Parts) (k : Kept) (m : ℕ) → ((body : Core) → o ≡ Some body → IsPureOver fs body) → AreClear ps.values → marked (call_done ev k m ps o).value ≡ false
      clear_call None ps k m h r = errs Arity
      clear_call (Some body) ps k m h r = ih body ps.values (child k m) (h body refl) r

      clear_operator : (o : Operator) (es : List Core) (k : Kept) → is_prim o ≡ true → marked (state_done ev env k (of_operator o) es no_call).value ≡ false
      clear_operator (operator.Prim p) es k h = clear_applied p (parts ev env k 0 es).values
      clear_operator operator.MergeE es k h = absurd (false≢true h)
      clear_operator operator.Hold es k h = absurd (false≢true h)
      clear_operator operator.Changes es k h = absurd (false≢true h)
      clear_operator operator.OnceE es k h = absurd (false≢true h)
      clear_operator operator.Delay es k h = absurd (false≢true h)
      clear_operator operator.DelayE es k h = absurd (false≢true h)

      clear_layer : (e : Core) (l : Core-F Core) (k : Kept) → out-Core e ≡ l → IsPureOver fs e → marked (layer world ev env k l).value ≡ false
      clear_layer e (Core-F.Lit v) k is h = plains v
      clear_layer e (Core-F.Var x) k is h = clear_part env x.0 c
      clear_layer e (Core-F.Source s) k is h = errs Deep
      clear_layer e (Core-F.Let es b) k is h =
          let t = pure_let fs e es b is h in
          let ps = parts ev env k 0 es in
          ih b (env ++ ps.values) (child k (length es)) t.1 (clear_append env ps.values c (clear_parts es k 0 t.0))
      clear_layer e (Core-F.If test a b) k is h =
          let t = pure_if fs e test a b is h in
          let d = ev test env (child k 0) in
          clear_switch a b k d (test_of d.value) t.1 t.2
      clear_layer e (Core-F.Apply f es) k is h =
          let t = pure_call fs e f es is h in
          clear_call (body_for (slice_get fs f.0) (length es)) (parts ev env k 0 es) k (length es) t.1 (clear_parts es k 0 t.0)
      clear_layer e (Core-F.Operator o es) k is h = clear_operator o es k (pure_operator fs e o es is h).0
      clear_layer e (Core-F.Handler g es b) k is h = absurd (no_handler fs e g es b is h)
      clear_layer e (Core-F.Loop l es b) k is h =
          let t = pure_loop fs e l es b is h in
          let ps = parts ev env k 0 es in
          clear_all_turns (body_with ev env b) (λ args a. ih b (env ++ args) kept.Nothing t.1 (clear_append env args c a)) (part ps.values 0) (rounds l (part ps.values 1))
          (clear_part ps.values 0 (clear_parts es k 0 t.0)) (clear_rounds l (part ps.values 1))
      clear_layer e (Core-F.Feedback a b) k is h = absurd (no_feedback fs e a b is h)

    -- PURE AND CLEAR. A pure expression that names no source gives no marked value where no variable has one.
    clear_eval : (n : ℕ) → EvalsClear n
    unfolding eval_to
    clear_eval zero e env k h c = errs Deep
    clear_eval (suc n) e env k h c = clear_layer n (clear_eval n) env c e (out-Core e) k refl h

  -- so does a kernel

  abbrev pub KernelsClear : Kernels → Type 0
  KernelsClear t = (n i : ℕ) (slots args : List Seen) → AreClear slots → AreClear args → marked (kernel_run t n i slots args).value ≡ false

  pub clear_kernels : (t : Kernels) → ((i : ℕ) (k : Kernel) → slice_get t.kernels i ≡ Some k → IsPureOver t.functions k.expr) → KernelsClear t
  clear_kernels t pure n i slots args cs ca = by_kernel (slice_get t.kernels i) refl
    where
      by_kernel : (o : Option Kernel) → slice_get t.kernels i ≡ o → marked (run_of t n o slots args).value ≡ false
      by_kernel None e = errs Deep
      by_kernel (Some k) e =
          clear_eval t.functions n (numbered (scheme_for k.first k.params k.expr) k.expr) (slots ++ args) kept.Nothing (numbered_pure t.functions (scheme_for k.first k.params k.expr) k.expr (pure i k e)) (clear_append slots args cs ca)

  -- and a plain work

  pub clear_work : (t : Kernels) → KernelsClear t → (n : ℕ) (w : Work) (cell : Option Cell) (xs : List Seen) → is_plain w ≡ true → AreClear xs → marked (work_line t n w cell xs).value ≡ false
  clear_work t kernels n (operates (operator.Prim p)) cell xs h c = clear_applied p xs
  clear_work t kernels n (operates operator.MergeE) cell xs h c = absurd (false≢true h)
  clear_work t kernels n (operates operator.Hold) cell xs h c = absurd (false≢true h)
  clear_work t kernels n (operates operator.Changes) cell xs h c = absurd (false≢true h)
  clear_work t kernels n (operates operator.OnceE) cell xs h c = absurd (false≢true h)
  clear_work t kernels n (operates operator.Delay) cell xs h c = absurd (false≢true h)
  clear_work t kernels n (operates operator.DelayE) cell xs h c = absurd (false≢true h)
  clear_work t kernels n (handles f id) cell xs h c = absurd (false≢true h)
  clear_work t kernels n (loops l id) cell xs h c =
      clear_all_turns (kernel_run t n id (drop 2 xs)) (λ args a. kernels n id (drop 2 xs) args (clear_drop 2 xs c) a) (part xs 0) (rounds l (part xs 1)) (clear_part xs 0 c) (clear_rounds l (part xs 1))
  clear_work t kernels n (runs id) cell xs h c = kernels (suc n) id xs [] c tt
  clear_work t kernels n feeds cell xs h c = absurd (false≢true h)
