-- What is inside a sound expression, and what it erases to.
use Rattle.std.proofs.Common.{◌≡◌, ◌+◌, ◌==◌, ℕ, zero, suc, Bool, true, false, if◌then◌else◌, List, [], ◌∷◌, ◌++◌, map, length, slice_get, refl, ap, sym, subst, Option, Some, None, arith}
use Rattle.std.specs.Option.{option_and_then, option_map}
use Rattle.std.proofs.lemmas.Bool.{eqb-true}
use Rattle.fr_core.specs.Shapes.{outer}
use Rattle.fr_core.specs.declared.core_form.Core.{Core}
use Rattle.fr_core.specs.declared.lowered.Low.{Low, out-Low, fold_out-Low, map-Low}
use Rattle.fr_core.specs.declared.lowered.Low.TheOpen.{Low-F}
use Rattle.fr_core.specs.declared.lowered.LowFunction.{LowFunction}
use Rattle.fr_meaning.specs.Evaluation.{body_for}
use Rattle.fr_graph.specs.Graph.{Part}
use Rattle.fr_kernel.specs.Kernels.{Kernels, Kernel}
use Rattle.fr_kernel.specs.Erasure.{erase, erase_step, erased_function, inner_low, place_below, named_in, FitsIfNamed}
use Rattle.fr_graph.specs.Walk.{Walk, place_all, low_body}
use Rattle.fr_graph.specs.Sound.{HasParts, IsSoundAt, Sound}

pub erase-opens : (ks : List Kernel) (e : Low) → erase ks e ≡ erase_step ks (map-Low Low Core (erase ks) (out-Low e))
unfolding erase
erase-opens ks e = fold_out-Low Core (erase_step ks) e

-- what is told of a shape whose expression is sound, where so many variables are in scope
pub record SoundShape (t : Kernels) (n : ℕ) (l : Low-F Low) : Type 0 where
  pub parts : HasParts l
  pub fits : FitsIfNamed t.kernels n (named_in l)
  pub inside : (i : ℕ) (x : ℕ × Low) → slice_get (inner_low l) i ≡ Some x → Sound t (n + x.0) x.1

pub sound_shape : (t : Kernels) (n : ℕ) (e : Low) → Sound t n e → SoundShape t n (out-Low e)
sound_shape t n e s =
    let here : IsSoundAt t (record { variables = n; expr = e }) = s.holds [] (record { variables = n; expr = e }) refl in
    record {
      parts = here.parts;
      fits = here.fits;
      inside = λ i x h. record { holds = λ path r found. s.holds (i ∷ path) r (subst (λ (o : Option (ℕ × Low)). option_and_then (λ x. place_below (record { variables = n + x.0; expr = x.1 }) path) o ≡ Some r) (sym h) found) };
    }

-- each of these is sound
abbrev pub AllSound : Kernels → ℕ → List Low → Type 0
AllSound t n [] = Unit {0}
AllSound t n (e ∷ es) = Sound t n e × AllSound t n es

abbrev InsideSound : Kernels → ℕ → List (ℕ × Low) → Type 0
InsideSound t n xs = (i : ℕ) (x : ℕ × Low) → slice_get xs i ≡ Some x → Sound t (n + x.0) x.1

pub outer_sound : (t : Kernels) (n : ℕ) (es : List Low) → InsideSound t n (outer es) → AllSound t n es
outer_sound t n [] h = tt
outer_sound t n (e ∷ es) h =
    let same : n + 0 ≡ n = omega arith in
    (subst (λ m. Sound t m e) same (h 0 (0, e) refl), outer_sound t n es (λ i x g. h (suc i) x g))

pub body_sound : (t : Kernels) (n m : ℕ) (es : List Low) (b : Low) → InsideSound t n (outer es ++ (m, b) ∷ []) → AllSound t n es × Sound t (n + m) b
body_sound t n m [] b h = (tt, h 0 (m, b) refl)
body_sound t n m (e ∷ es) b h =
    let same : n + 0 ≡ n = omega arith in
    let behind = body_sound t n m es b (λ i x g. h (suc i) x g) in
    ((subst (λ m. Sound t m e) same (h 0 (0, e) refl), behind.0), behind.1)

pub all_length : (walk : Walk) (env : List Part) (es : List Low) (ms : List ℕ) → length (place_all walk env es ms).parts ≡ length es
all_length walk env [] ms = refl
all_length walk env (e ∷ es) ms = ap suc (all_length walk env es (walk e env ms).left)

-- the body of a function erases to that of the function
pub bodies_match : (ks : List Kernel) (fs : List LowFunction) (i m : ℕ) → body_for (slice_get (map (erased_function ks) fs) i) m ≡ option_map (erase ks) (low_body (slice_get fs i) m)
bodies_match ks [] i m = refl
bodies_match ks (f ∷ fs) zero m = by_count (f.params == m)
  where
    by_count : (b : Bool) → (if b then Some (erase ks f.body) else None) ≡ option_map (erase ks) (if b then Some f.body else None)
    by_count true = refl
    by_count false = refl
bodies_match ks (f ∷ fs) (suc i) m = bodies_match ks fs i m

-- the body that a call evaluates is sound
pub low_sound : (t : Kernels) (o : Option LowFunction) (m : ℕ) (body : Low) → ((f : LowFunction) → o ≡ Some f → Sound t f.params f.body) → low_body o m ≡ Some body → Sound t m body
low_sound t None m body h e = absurd cc
low_sound t (Some f) m body h e = by_count (f.params == m) refl e
  where
    by_count : (b : Bool) → (f.params == m) ≡ b → (if b then Some f.body else None) ≡ Some body → Sound t m body
    by_count true c e =
        let same : f.body ≡ body = cc in
        let count : f.params ≡ m = eqb-true f.params m c in
        subst (λ n. Sound t n body) count (subst (Sound t f.params) same (h f refl))
    by_count false c e = absurd cc
