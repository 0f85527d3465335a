-- What is known of an expression that can be built, and whose sites have its switches' choices, is known of its parts.
use Rattle.std.proofs.Common.{◌≡◌, ◌+◌, ◌==◌, ℕ, zero, suc, Bool, true, false, if◌then◌else◌, List, [], ◌∷◌, ◌++◌, slice_get, refl, subst, Option, Some, None, arith}
use Rattle.std.proofs.lemmas.Bool.{eqb-true}
use Rattle.fr_core.specs.Shapes.{outer}
use Rattle.fr_core.specs.declared.lowered.Low.{Low, out-Low}
use Rattle.fr_core.specs.declared.lowered.Low.TheOpen.{Low-F}
use Rattle.fr_core.specs.declared.lowered.LowFunction.{LowFunction}
use Rattle.fr_kernel.specs.Erasure.{Place, Everywhere, inner_low, named_in, FitsIfNamed}
use Rattle.fr_graph.specs.Walk.{low_body}
use Rattle.fr_nodes.specs.Kinds.{Sites}
use Rattle.fr_ready.specs.Ready.{Planned, IsReadyAt, IsReady, IsPlanReady, HasChoices, Matches, PlanMatches}
use Rattle.fr_ready.proofs.Inside.{everywhere_inside}

module _ (planned : Planned) (sites : Sites) where
  -- both facts at a place
  abbrev pub IsFitAt : Place → Type 0
  IsFitAt s = IsReadyAt planned.table planned.sources s × HasChoices sites (out-Low s.expr)

  abbrev pub At : ℕ → Low → Type 0
  At n e = Everywhere IsFitAt (record { variables = n; expr = e })

  abbrev pub InsideAt : ℕ → List (ℕ × Low) → Type 0
  InsideAt n xs = (i : ℕ) (x : ℕ × Low) → slice_get xs i ≡ Some x → At (n + x.0) x.1

  pub both_at : (n : ℕ) (e : Low) → IsReady planned n e → Matches sites n e → At n e
  both_at n e r m = record { holds = λ path s k. (r.holds path s k, m.holds path s k) }

  pub ready_at : (n : ℕ) (e : Low) → At n e → IsReady planned n e
  ready_at n e h = record { holds = λ path s k. (h.holds path s k).0 }

  pub matches_at : (n : ℕ) (e : Low) → At n e → Matches sites n e
  matches_at n e h = record { holds = λ path s k. (h.holds path s k).1 }

  -- what is known of a shape
  pub record IsShapeAt (n : ℕ) (l : Low-F Low) : Type 0 where
    pub fits : FitsIfNamed planned.table.kernels n (named_in l)
    pub inside : InsideAt n (inner_low l)

  pub shape_at : (n : ℕ) (e : Low) → At n e → IsShapeAt n (out-Low e)
  shape_at n e h = record {
    fits = (h.holds [] (record { variables = n; expr = e }) refl).0.sound.fits;
    inside = everywhere_inside IsFitAt n e h;
  }

  pub in_place : (n : ℕ) (e : Low) → At (n + 0) e → At n e
  in_place n e h = let same : n + 0 ≡ n = omega arith in subst (λ m. At m e) same h

  -- the parts that bind nothing, before the body of a form
  pub before_body : (n : ℕ) (es : List Low) (x : ℕ × Low) → InsideAt n (outer es ++ x ∷ []) → InsideAt n (outer es)
  before_body n [] x h i y k = absurd cc
  before_body n (e ∷ es) x h zero y k = h zero y k
  before_body n (e ∷ es) x h (suc i) y k = before_body n es x (λ j z g. h (suc j) z g) i y k

  pub body_at : (n : ℕ) (es : List Low) (x : ℕ × Low) → InsideAt n (outer es ++ x ∷ []) → At (n + x.0) x.1
  body_at n [] x h = h zero x refl
  body_at n (e ∷ es) x h = body_at n es x (λ j z g. h (suc j) z g)

  -- the body that a call enters
  pub called_at : ((i : ℕ) (f : LowFunction) → slice_get planned.functions i ≡ Some f → At f.params f.body) → (i m : ℕ) (body : Low) → low_body (slice_get planned.functions i) m ≡ Some body → At m body
  called_at bodies i m body e = by_function (slice_get planned.functions i) refl e
    where
      by_count : (f : LowFunction) (b : Bool) → (f.params == m) ≡ b → At f.params f.body → (if b then Some f.body else None) ≡ Some body → At m body
      by_count f true c h e =
          let same : f.body ≡ body = cc in
          let count : f.params ≡ m = eqb-true f.params m c in
          subst (λ n. At n body) count (subst (At f.params) same h)
      by_count f false c h e = absurd cc

      by_function : (o : Option LowFunction) → slice_get planned.functions i ≡ o → low_body o m ≡ Some body → At m body
      by_function None k e = absurd cc
      by_function (Some f) k e = by_count f (f.params == m) refl (bodies i f k) e

  pub bodies_at : IsPlanReady planned → PlanMatches sites planned → (i : ℕ) (f : LowFunction) → slice_get planned.functions i ≡ Some f → At f.params f.body
  bodies_at ready matches i f k = both_at f.params f.body (ready.bodies i f k) (matches.bodies i f k)
