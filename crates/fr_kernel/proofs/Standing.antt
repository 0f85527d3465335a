-- The slots of a kernel have what its expression names.
use Rattle.std.proofs.Common.{◌≡◌, ◌+◌, ◌-◌, ◌<◌, inl, inr, ℕ, zero, suc, Bool, true, false, if◌then◌else◌, ◌==◌, List, [], ◌∷◌, ◌++◌, map, take, drop, length, slice_get, refl, sym, ap, ◌∙◌, arith, Some, Ok}
use Rattle.std.proofs.lemmas.Bool.Decides.{nat_tests}
use Rattle.std.proofs.lemmas.List.{length-append, length-map, map-append}
use Rattle.std.proofs.Math.Seq.{drop-append_seam, take-append_seam}
use Rattle.fr_value.specs.declared.now.Now.{Now}
use Rattle.fr_core.specs.declared.core_form.Core.{Core}
use Rattle.fr_core.proofs.Parts.{map-map}
use Rattle.fr_meaning.specs.Words.{Env, found, part}
use Rattle.fr_meaning.specs.Evaluation.{source_seen}
use Rattle.fr_meaning.specs.Dependence.{variables, sources_of}
use Rattle.fr_kernel.specs.Answers.{slot_values}
use Rattle.fr_kernel.specs.Kernels.{slot_seen}
use Rattle.fr_kernel.specs.Numbers.{Scheme, around, width, index_of, before_params, variable_slot, source_slot, Every, Stand}
use Rattle.fr_kernel.specs.Placed.{scheme_for}
use Rattle.fr_kernel.specs.Slots.{outer_of, all_below, slot_of_variable, slot_of_source, slots_for}
use Rattle.fr_kernel.proofs.InOrder.{all_listed, below_listed}
use Rattle.fr_kernel.proofs.Numbers.{below_or, get_front, get_behind}
use Rattle.fr_kernel.proofs.Restoring.{Named, HasSlot, IsSource, slot_outer, slot_param}

-- a kernel's slots are those that its expression names
pub named_for : (first params : ℕ) (e : Core) → Named (scheme_for first params e) e
named_for first params e = record {
  found = below_listed first (variables e) (outer_of first e) (all_listed (all_below first (variables e)));
  read = all_listed (sources_of e);
}

get_listed : {X : Type 0} (f : ℕ → X) (q : ℕ) (ns : List ℕ) → index_of q ns < length ns → slice_get (map f ns) (index_of q ns) ≡ Some (f q)
get_listed f q [] h = absurd (omega (arith, h))
get_listed {X} f q (n ∷ ns) h = by (q == n) refl (get_listed f q ns) h
  where
    by : (t : Bool) → (q == n) ≡ t → (index_of q ns < length ns → slice_get (map f ns) (index_of q ns) ≡ Some (f q))
        → (if t then 0 else 1 + index_of q ns) < length (n ∷ ns) → slice_get (f n ∷ map f ns) (if t then 0 else 1 + index_of q ns) ≡ Some (f q)
    by true e rest g = let same : q ≡ n = grind (arith, nat_tests) in ap (λ m. Some (f m)) (sym same)
    by false e rest g =
        let one : 1 + index_of q ns ≡ suc (index_of q ns) = omega arith in
        ap (slice_get (f n ∷ map f ns)) one ∙ rest (omega (arith, g))

get_here : (env : Env) (x : ℕ) → x < length env → slice_get env x ≡ Some (part env x)
get_here [] x h = absurd (omega (arith, h))
get_here (v ∷ env) zero h = refl
get_here (v ∷ env) (suc x) h = get_here env x (omega (arith, h))

every_given : (P Q : ℕ → Type 0) (ns : List ℕ) → ((n : ℕ) → P n → Q n) → Every P ns → Every Q ns
every_given P Q [] f h = tt
every_given P Q (n ∷ ns) f h = (f n h.0, every_given P Q ns f h.1)

-- the values of variables and of sources, and behind them those of the parameters
abbrev pub values_of : Scheme → List Now → Env → Env → Env
values_of s sources env args = (map (part env) s.outer ++ map (λ x. source_seen (slice_get sources x)) s.sources) ++ args

module _ (s : Scheme) (e : Core) (sources : List Now) (env args : Env) (near : length env ≡ s.first) (own : length args ≡ s.params) where
  abbrev outer_values : Env
  outer_values = map (part env) s.outer

  abbrev source_values : Env
  source_values = map (λ x. source_seen (slice_get sources x)) s.sources

  abbrev slots : Env
  slots = values_of s sources env args

  long : length (outer_values ++ source_values) ≡ before_params s
  long = length-append outer_values source_values ∙ omega (arith, length-map s.outer (part env), length-map s.sources (λ (x : ℕ). source_seen (slice_get sources x)))

  front_long : length outer_values ≡ length s.outer
  front_long = length-map s.outer (part env)

  variable_stands : (x : ℕ) → HasSlot s x → x < around s → slice_get (env ++ args) x ≡ slice_get slots (variable_slot s x)
  variable_stands x h below = elim (below_or x s.first) [
    | inl less ↦
        let i = index_of x s.outer in
        let within = h less in
        let here = get_front env args x (omega (arith, less, near)) ∙ get_here env x (omega (arith, less, near)) in
        let there = get_front (outer_values ++ source_values) args i (omega (arith, within, long)) ∙ get_front outer_values source_values i (omega (arith, within, front_long)) ∙ get_listed (part env) x s.outer within in
        here ∙ sym (ap (slice_get slots) (slot_outer s x less) ∙ there)
    | inr past ↦
        let i = x - s.first in
        let there = get_behind (outer_values ++ source_values) args (i + before_params s) i (omega (arith, long)) in
        get_behind env args x i (omega (arith, past, near)) ∙ sym (ap (slice_get slots) (slot_param s x past below) ∙ there)
  ]

  source_stands : (x : ℕ) → IsSource s x → (source_slot s x < width s) × (found (slice_get slots (source_slot s x)) ≡ source_seen (slice_get sources x))
  source_stands x h =
      let i = index_of x s.sources in
      let k = length s.outer + i in
      let there = get_front (outer_values ++ source_values) args k (omega (arith, h, long)) ∙ get_behind outer_values source_values k i (omega (arith, front_long)) ∙ get_listed (λ y. source_seen (slice_get sources y)) x s.sources h in
      (omega (arith, h), ap found there)

  pub stands : Named s e → Stand s e sources (env ++ args) slots
  stands h = record {
    env_length = length-append env args ∙ omega (arith, near, own);
    slots_length = length-append (outer_values ++ source_values) args ∙ omega (arith, long, own);
    variables_read = every_given (HasSlot s) (λ x. x < around s → slice_get (env ++ args) x ≡ slice_get slots (variable_slot s x)) (variables e) variable_stands h.found;
    sources_read = every_given (IsSource s) (λ x. (source_slot s x < width s) × (found (slice_get slots (source_slot s x)) ≡ source_seen (slice_get sources x))) (sources_of e) source_stands h.read;
  }

-- the values of the slots that stand for these variables and sources

pub slots_seen : (s : Scheme) (sources : List Now) (env : Env) → map (slot_seen sources env) (slots_for s.outer s.sources) ≡ map (part env) s.outer ++ map (λ x. source_seen (slice_get sources x)) s.sources
slots_seen s sources env =
    map-append (slot_seen sources env) (map slot_of_variable s.outer) (map slot_of_source s.sources)
    ∙ rw (map-map (slot_seen sources env) slot_of_variable s.outer, map-map (slot_seen sources env) slot_of_source s.sources) refl

-- inputs, those of the parameters first, as values of slots

abbrev good : List Now → Env
good vs = map (λ v. Ok v) vs

take-good : (n : ℕ) (vs : List Now) → good (take n vs) ≡ take n (good vs)
take-good zero vs = refl
take-good (suc n) [] = refl
take-good (suc n) (v ∷ vs) = ap (λ l. Ok v ∷ l) (take-good n vs)

drop-good : (n : ℕ) (vs : List Now) → good (drop n vs) ≡ drop n (good vs)
drop-good zero vs = refl
drop-good (suc n) [] = refl
drop-good (suc n) (v ∷ vs) = drop-good n vs

pub inputs_stand : (inputs : List Now) (args others : Env) → good inputs ≡ args ++ others → slot_values (length args) inputs ≡ others ++ args
inputs_stand inputs args others h = rw (take-good (length args) inputs, drop-good (length args) inputs, h, drop-append_seam args others, take-append_seam args others) refl
