-- What holds at all places of an expression holds at all places of its parts.
use Rattle.std.proofs.Common.{◌≡◌, ◌+◌, ◌==◌, ℕ, zero, suc, Bool, true, false, if◌then◌else◌, List, [], ◌∷◌, ◌++◌, length, slice_get, refl, sym, subst, Option, Some, None, arith}
use Rattle.std.specs.Option.{option_and_then}
use Rattle.std.proofs.lemmas.Bool.{eqb-true}
use Rattle.fr_value.specs.declared.ids.FunId.{FunId}
use Rattle.fr_value.specs.declared.ids.KernId.{KernId}
use Rattle.fr_value.specs.declared.ids.SiteId.{SiteId}
use Rattle.fr_core.specs.Shapes.{outer}
use Rattle.fr_core.specs.declared.core_form.Operator.{Operator}
use Rattle.fr_core.specs.declared.core_form.Handler.{Handler}
use Rattle.fr_core.specs.declared.core_form.Loop.{Loop}
use Rattle.fr_core.specs.declared.lowered.Low.{Low, out-Low}
use Rattle.fr_core.specs.declared.lowered.Low.TheOpen.{Low-F}
use Rattle.fr_core.specs.declared.lowered.LowFunction.{LowFunction}
use Rattle.fr_core.specs.declared.lowered.Slot.{Slot}
use Rattle.fr_kernel.specs.Erasure.{Place, Everywhere, inner_low, place_below}
use Rattle.fr_graph.specs.Walk.{low_body}
use Rattle.fr_build.specs.Ready.{EachEverywhere}

module _ (P : Place → Type 0) where
  abbrev pub At : ℕ → Low → Type 0
  At n e = Everywhere P (record { variables = n; expr = e })

  abbrev Inside : ℕ → List (ℕ × Low) → Type 0
  Inside n xs = (i : ℕ) (x : ℕ × Low) → slice_get xs i ≡ Some x → At (n + x.0) x.1

  pub at_itself : (s : Place) → Everywhere P s → P s
  at_itself s h = h.holds [] s refl

  inside_at : (n : ℕ) (e : Low) → At n e → Inside n (inner_low (out-Low e))
  inside_at n e h i x found = record {
    holds = λ path r below. h.holds (i ∷ path) r (subst (λ (o : Option (ℕ × Low)). option_and_then (λ x. place_below (record { variables = n + x.0; expr = x.1 }) path) o ≡ Some r) (sym found) below);
  }

  in_place : (n : ℕ) (e : Low) → At (n + 0) e → At n e
  in_place n e h = let same : n + 0 ≡ n = omega arith in subst (λ m. At m e) same h

  outer_each : (n : ℕ) (es : List Low) → Inside n (outer es) → EachEverywhere P n es
  outer_each n [] h = tt
  outer_each n (e ∷ es) h = (in_place n e (h 0 (0, e) refl), outer_each n es (λ i x g. h (suc i) x g))

  body_each : (n m : ℕ) (es : List Low) (b : Low) → Inside n (outer es ++ (m, b) ∷ []) → EachEverywhere P n es × At (n + m) b
  body_each n m [] b h = (tt, h 0 (m, b) refl)
  body_each n m (e ∷ es) b h =
      let behind = body_each n m es b (λ i x g. h (suc i) x g) in
      ((in_place n e (h 0 (0, e) refl), behind.0), behind.1)

  -- where an expression is of a shape
  inside_shape : (n : ℕ) (e : Low) (l : Low-F Low) → out-Low e ≡ l → At n e → Inside n (inner_low l)
  inside_shape n e l o h = subst (λ (k : Low-F Low). Inside n (inner_low k)) o (inside_at n e h)

  pub in_let : (n : ℕ) (e : Low) (es : List Low) (b : Low) → out-Low e ≡ Low-F.Let es b → At n e → EachEverywhere P n es × At (n + length es) b
  in_let n e es b o h = body_each n (length es) es b (inside_shape n e (Low-F.Let es b) o h)

  pub in_if : (n : ℕ) (e : Low) (site : SiteId) (a b c : Low) → out-Low e ≡ Low-F.If site a b c → At n e → At n a × At n b × At n c
  in_if n e site a b c o h =
      let inner = inside_shape n e (Low-F.If site a b c) o h in
      (in_place n a (inner 0 (0, a) refl), in_place n b (inner 1 (0, b) refl), in_place n c (inner 2 (0, c) refl))

  pub in_apply : (n : ℕ) (e : Low) (f : FunId) (es : List Low) → out-Low e ≡ Low-F.Apply f es → At n e → EachEverywhere P n es
  in_apply n e f es o h = outer_each n es (inside_shape n e (Low-F.Apply f es) o h)

  pub in_operator : (n : ℕ) (e : Low) (op : Operator) (es : List Low) → out-Low e ≡ Low-F.Operator op es → At n e → EachEverywhere P n es
  in_operator n e op es o h = outer_each n es (inside_shape n e (Low-F.Operator op es) o h)

  pub in_handler : (n : ℕ) (e : Low) (k : Handler) (es : List Low) (id : KernId) (ss : List Slot) → out-Low e ≡ Low-F.Handler k es id ss → At n e → EachEverywhere P n es
  in_handler n e k es id ss o h = outer_each n es (inside_shape n e (Low-F.Handler k es id ss) o h)

  pub in_loop : (n : ℕ) (e : Low) (l : Loop) (es : List Low) (id : KernId) (ss : List Slot) → out-Low e ≡ Low-F.Loop l es id ss → At n e → EachEverywhere P n es
  in_loop n e l es id ss o h = outer_each n es (inside_shape n e (Low-F.Loop l es id ss) o h)

  pub in_feedback : (n : ℕ) (e : Low) (a b : Low) → out-Low e ≡ Low-F.Feedback a b → At n e → At n a × At (n + 1) b
  in_feedback n e a b o h =
      let inner = inside_shape n e (Low-F.Feedback a b) o h in
      (in_place n a (inner 0 (0, a) refl), inner 1 (1, b) refl)

  -- the body that a call enters
  pub in_body : (o : Option LowFunction) (m : ℕ) (body : Low) → ((f : LowFunction) → o ≡ Some f → At f.params f.body) → low_body o m ≡ Some body → At m body
  in_body None m body h e = absurd cc
  in_body (Some f) m body h e = by_count (f.params == m) refl e
    where
      by_count : (b : Bool) → (f.params == m) ≡ b → (if b then Some f.body else None) ≡ Some body → At m body
      by_count true c e =
          let same : f.body ≡ body = cc in
          let count : f.params ≡ m = eqb-true f.params m c in
          subst (λ n. At n body) count (subst (At f.params) same (h f refl))
      by_count false c e = absurd cc

  -- one of some expressions, and those before it
  pub each_at : (n : ℕ) (es : List Low) (i : ℕ) (e : Low) → slice_get es i ≡ Some e → EachEverywhere P n es → At n e
  each_at n [] i e found h = absurd cc
  each_at n (k ∷ es) zero e found h = let same : k ≡ e = cc in subst (At n) same h.0
  each_at n (k ∷ es) (suc i) e found h = each_at n es i e found h.1

  pub each_first : (n : ℕ) (es ds : List Low) → EachEverywhere P n (es ++ ds) → EachEverywhere P n es
  each_first n [] ds h = tt
  each_first n (e ∷ es) ds h = (h.0, each_first n es ds h.1)

  pub each_last : (n : ℕ) (es : List Low) (e : Low) → EachEverywhere P n (es ++ e ∷ []) → At n e
  each_last n [] e h = h.0
  each_last n (k ∷ es) e h = each_last n es e h.1
