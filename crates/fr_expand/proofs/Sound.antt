-- The program that forms are is well formed, and has few expressions.
use Rattle.std.specs.Prelude.{ℕ, ◌≡◌, ◌+◌, ◌*◌, ◌<◌, ◌≤◌, List, [], ◌∷◌, ◌++◌, map, length, Some, None}
use Rattle.std.proofs.Common.{ap, ◌∙◌, arith, subst}
use Rattle.fr_value.specs.Data.{total}
use Rattle.fr_value.specs.declared.value.Datum.{Datum}
use Rattle.fr_core.specs.declared.program.Program.{Program}
use Rattle.fr_core.specs.WellFormed.{IsWellFormed, roots, count, last_source}
use Rattle.fr_syntax.specs.declared.form.Form.{Form}
use Rattle.fr_syntax.specs.declared.form.Form.TheVariants as form
use Rattle.fr_syntax.specs.Outlines.{Global}
use Rattle.fr_syntax.specs.Weights.{form_weight}
use Rattle.fr_scope.specs.Meanings.{Binder, globals_in, meaning_of}
use Rattle.fr_expand.specs.Expansion.{inputs_from, events_from, functions_in, items_from, program_in}
use Rattle.fr_expand.specs.Passes.{nothing_yet, refusal_from}
use Rattle.fr_expand.specs.Shaped.{shaped}
use Rattle.fr_expand.proofs.Bound.{IsThere, sources_among, functions_among, meaning_there}
use Rattle.fr_expand.proofs.DistinctNames.{names_distinct}
use Rattle.fr_expand.proofs.Numbered.{numbered}
use Rattle.fr_expand.proofs.Outlined.{outlines_of, globals_shaped, functions_counted, sources_counted}
use Rattle.fr_expand.proofs.Passed.{all_passed, forms_hold}
use Rattle.fr_expand.proofs.Roots.{Rooted, rooted}
use Rattle.fr_expand.proofs.Sizes.{few_forms}
use Rattle.fr_expand.proofs.Translated.{Translates, translates}

few_inputs : (n : ℕ) (fs : List Form) → length (inputs_from n fs) ≤ length fs
few_inputs n [] = omega arith
few_inputs n (form.Input name v ∷ fs) = omega (arith, few_inputs (n + 1) fs)
few_inputs n (form.Event name ∷ fs) = omega (arith, few_inputs (n + 1) fs)
few_inputs n (f ∷ fs) = omega (arith, few_inputs n fs)

few_events : (n : ℕ) (fs : List Form) → length (events_from n fs) ≤ length fs
few_events n [] = omega arith
few_events n (form.Input name v ∷ fs) = omega (arith, few_events (n + 1) fs)
few_events n (form.Event name ∷ fs) = omega (arith, few_events (n + 1) fs)
few_events n (f ∷ fs) = omega (arith, few_events n fs)

few_functions : (g : List Global) (fs : List Form) → length (functions_in g fs) ≤ length fs
few_functions g [] = omega arith
few_functions g (form.Function name params body ∷ fs) = omega (arith, few_functions g fs)
few_functions g (f ∷ fs) = omega (arith, few_functions g fs)

few_items : (g : List Global) (values : List (List ℕ)) (fs : List Form) → length (items_from g values fs) ≤ length fs
few_items g values [] = omega arith
few_items g values (form.Define name e ∷ fs) = omega (arith, few_items g (values ++ name ∷ []) fs)
few_items g values (f ∷ fs) = omega (arith, few_items g values fs)

-- what a name means is in the program
in_program : (g : List Global) (fs : List Form) → g ≡ outlines_of fs → (s : List Binder) (name : List ℕ)
    → IsThere (length (functions_in g fs)) (last_source (program_in g fs)) (length s) (meaning_of g s name)
in_program g fs e s name =
    let functions : functions_among g ≡ length (functions_in g fs) = ap functions_among e ∙ functions_counted g fs in
    let sources : sources_among g ≡ last_source (program_in g fs) = ap sources_among e ∙ sources_counted 1 fs in
    subst (λ f. IsThere f (last_source (program_in g fs)) (length s) (meaning_of g s name)) functions
    (subst (λ x. IsThere (functions_among g) x (length s) (meaning_of g s name)) sources (meaning_there g s name))

module _ (ds : List Datum) (none : None ≡ refusal_from (globals_in ds) 1 nothing_yet (map Some (shaped ds))) (all : length ds ≤ length (shaped ds)) (small : total (map form_weight (shaped ds)) ≤ 8388608) where
  abbrev the_program : Program
  the_program = program_in (globals_in ds) (shaped ds)

  good : Rooted (length the_program.functions) (last_source the_program) (10 * total (map form_weight (shaped ds))) 8388608 16777216 (roots the_program)
  good =
      let g = globals_in ds in
      let there = in_program g (shaped ds) (globals_shaped ds all) in
      rooted g _ _ there 8388608 16777216 (shaped ds) (all_passed g 1 nothing_yet (shaped ds) none) (forms_hold (Translates g _ _ there) (translates g _ _ there) ds) small (omega arith)

  -- the program is well formed
  pub well_formed : IsWellFormed the_program
  well_formed =
      let g = globals_in ds in
      let fs = shaped ds in
      let few = few_forms fs in
      record {
        formed = good.formed;
        scoped = good.scoped;
        numbered = numbered g fs;
        named = names_distinct g nothing_yet 1 fs (all_passed g 1 nothing_yet fs none);
        shallow = good.shallow;
        short = record {
          inputs = omega (arith, few, small, few_inputs 1 fs);
          events = omega (arith, few, small, few_events 1 fs);
          functions = omega (arith, few, small, few_functions g fs);
          body = omega (arith, few, small, few_items g [] fs);
          parts = omega (arith, good.short);
        };
        narrow = omega (arith, good.narrow);
        small = omega (arith, small, good.few);
      }

  -- it has fewer than 268,435,456 expressions
  pub few_counted : total (map (λ r. count r.expr) (roots the_program)) < 268435456
  few_counted = omega (arith, small, good.few)
