-- The evaluation of an expression, one level at a time.
use Rattle.std.proofs.Common.{◌≡◌, ◌≢◌, ℕ, zero, suc, ◌-◌, refl, ap, sub-one}
use Rattle.fr_core.specs.declared.core_form.Core.{Core, out-Core}
use Rattle.fr_core.specs.declared.core_form.Core.TheOpen.{Core-F}
use Rattle.fr_core.specs.declared.kept.Kept.{Kept}
use Rattle.fr_meaning.specs.Words.{Env}
use Rattle.fr_meaning.specs.Evaluation.{World, eval_to, layer, deep}

-- `outs-Let` and the like tell the shape
pub evaluates : (n : ℕ) (w : World) (e : Core) (env : Env) (k : Kept) → eval_to (suc n) w e env k ≡ layer w (eval_to n w) env k (out-Core e)
unfolding eval_to
evaluates n w e env k = refl

-- the same, where a number of levels is not 0, of what opens to this shape
pub at_level : (n : ℕ) (w : World) (env : Env) (k : Kept) (e : Core) (l : Core-F Core) → n ≢ 0 → out-Core e ≡ l → eval_to n w e env k ≡ layer w (eval_to (n - 1) w) env k l
unfolding eval_to
at_level zero w env k e l some h = absurd (some refl)
at_level (suc n) w env k e l some h = rw (sub-one (suc n)) (ap (layer w (eval_to n w) env k) h)

pub at_zero : (n : ℕ) (w : World) (env : Env) (k : Kept) (e : Core) → n ≡ 0 → eval_to n w e env k ≡ deep
unfolding eval_to
at_zero n w env k e h = rw h refl
