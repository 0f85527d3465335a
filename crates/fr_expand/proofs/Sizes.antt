-- How much there is of forms.
use Rattle.std.specs.Prelude.{ℕ, zero, suc, ◌≡◌, ◌+◌, ◌<◌, ◌≤◌, List, [], ◌∷◌, map, length, Option, Some, None}
use Rattle.std.proofs.Common.{arith, ap, refl, get_or}
use Rattle.fr_value.specs.Data.{total, datum_size}
use Rattle.fr_value.specs.declared.value.Datum.{Datum}
use Rattle.fr_syntax.proofs.Bounds.{positive}
use Rattle.fr_syntax.proofs.SmallForms.{form_weighs}
use Rattle.fr_syntax.specs.Shapes.{form_of}
use Rattle.fr_syntax.specs.Weights.{form_weight}
use Rattle.fr_syntax.specs.declared.form.Form.{Form}
use Rattle.fr_syntax.specs.declared.form.Form.TheVariants as form
use Rattle.fr_expand.specs.Shaped.{and_behind, shaped}

-- a form weighs something
pub some_weight : (f : Form) → 1 ≤ form_weight f
some_weight (form.Input name v) = omega arith
some_weight (form.Event name) = omega arith
some_weight (form.Function name params body) = omega arith
some_weight (form.Define name e) = omega arith
some_weight (form.Show name e) = omega arith

-- there are at most as many forms as they weigh
pub few_forms : (fs : List Form) → length fs ≤ total (map form_weight fs)
few_forms [] = omega arith
few_forms (f ∷ fs) = omega (arith, some_weight f, few_forms fs)

-- each weighs at most as much as all
pub weight_at : (fs : List Form) (i : ℕ) (f : Form) → i < length fs → f ≡ get_or fs i f → form_weight f ≤ total (map form_weight fs)
weight_at [] i f h e = omega (arith, h)
weight_at (g ∷ fs) zero f h e = let same : form_weight f ≡ form_weight g = ap form_weight e in omega (arith, same)
weight_at (g ∷ fs) (suc i) f h e = omega (arith, weight_at fs i f (omega (arith, h)) e)

-- there are at most as many data as their sizes
pub few_data : (ds : List Datum) → length ds ≤ total (map datum_size ds)
few_data [] = omega arith
few_data (d ∷ ds) = omega (arith, positive d, few_data ds)

behind_small : (d : Datum) (x : Option Form) (fs : List Form) (n : ℕ) → form_of d ≡ x → total (map form_weight fs) ≤ n → total (map form_weight (and_behind x fs)) ≤ datum_size d + n
behind_small d None fs n e h = omega arith
behind_small d (Some f) fs n e h = omega (arith, form_weighs d f e, h)

-- the forms that have a shape weigh at most as much as the data
pub shaped_small : (ds : List Datum) → total (map form_weight (shaped ds)) ≤ total (map datum_size ds)
shaped_small [] = omega arith
shaped_small (d ∷ ds) = behind_small d (form_of d) (shaped ds) _ refl (shaped_small ds)

behind_few : (x : Option Form) (fs : List Form) (n : ℕ) → length fs ≤ n → length (and_behind x fs) ≤ suc n
behind_few None fs n h = omega arith
behind_few (Some f) fs n h = omega (arith, h)

-- there are at most as many forms that have a shape as data
pub shaped_few : (ds : List Datum) → length (shaped ds) ≤ length ds
shaped_few [] = omega arith
shaped_few (d ∷ ds) = behind_few (form_of d) (shaped ds) (length ds) (shaped_few ds)
