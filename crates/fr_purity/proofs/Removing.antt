-- The removal of functions, step by step.
use Rattle.std.proofs.Common.{ℕ, ◌≡◌, ◌+◌, ◌<◌, Bool, true, false, List, [], ◌∷◌, ◌++◌, length, sym, ap, ◌∙◌, subst, arith, length-append}
use Rattle.std.proofs.lemmas.Bool.Decides.{nat_tests}
use Rattle.std.proofs.lemmas.List.Folds.{list_any-append}
use Rattle.fr_core.specs.Classes.{FunctionSet}
use Rattle.fr_purity.specs.Marks.{set_of}
use Rattle.fr_purity.specs.Removal.{has, list_at, CallsMembers, IsWithin, without, marked_among}
use Rattle.fr_purity.proofs.Marking.{marks_in, set_of-without, has-marked_among, marks_in-without}

-- between two steps: the functions that were taken and whose callers weren't yet stand in the list
pub record Removing (callers : List (List ℕ)) (first marks : List Bool) (taken : List ℕ) : Type 0 where
  pub within : IsWithin (set_of marks) (set_of first)
  pub unmarked : (g : ℕ) → has taken g ≡ true → set_of marks g ≡ false
  pub done : (f g : ℕ) → g < length first → set_of marks g ≡ false → has taken g ≡ false → has (list_at callers g) f ≡ true → set_of marks f ≡ false
  pub greatest : (s : FunctionSet) → IsWithin s (set_of first) → CallsMembers callers s → IsWithin s (set_of marks)

-- the callers of one more function that was taken are taken
pub removing_next : (callers : List (List ℕ)) (first marks : List Bool) (rest : List ℕ) (number : ℕ) → Removing callers first marks (rest ++ number ∷ [])
    → Removing callers first (without marks (list_at callers number)) (rest ++ marked_among marks (list_at callers number))
removing_next callers first marks rest number r =
    let ns = list_at callers number in
    record {
      within = λ f h. r.within f (grind (arith, h, set_of-without marks ns f));
      unmarked = λ g h. grind (arith, nat_tests, h, r.unmarked g, list_any-append {X = ℕ}, set_of-without marks ns g, has-marked_among marks ns g);
      done = λ f g short gone rested calls. grind (arith, nat_tests, gone, rested, calls, r.done f g short, list_any-append {X = ℕ}, set_of-without marks ns f, set_of-without marks ns g, has-marked_among marks ns g);
      greatest = λ s inside members f h.
          grind (arith, nat_tests, h, r.greatest s inside members f h, r.greatest s inside members number, r.unmarked number, members.called f number h, list_any-append {X = ℕ}, set_of-without marks ns f);
    }

-- the same for the values of the code
pub removing_on : (callers : List (List ℕ)) (first marks new : List Bool) (taken rest more ns : List ℕ) (number : ℕ) → taken ≡ rest ++ number ∷ [] → ns ≡ list_at callers number
    → new ≡ without marks ns → more ≡ rest ++ marked_among marks ns → Removing callers first marks taken → Removing callers first new more
removing_on callers first marks new taken rest more ns number taken_is ns_is new_is more_is r =
    let next = removing_next callers first marks rest number (subst (λ l. Removing callers first marks l) taken_is r) in
    subst (λ m. Removing callers first m more) (sym (new_is ∙ ap (without marks) ns_is))
    (subst (λ l. Removing callers first (without marks (list_at callers number)) l) (sym (more_is ∙ ap (λ l. rest ++ marked_among marks l) ns_is)) next)

-- each step takes a function from the list or a mark
pub removing_falls : (marks new : List Bool) (taken rest more ns : List ℕ) (number : ℕ) → taken ≡ rest ++ number ∷ [] → new ≡ without marks ns → more ≡ rest ++ marked_among marks ns
    → length more + marks_in new < length taken + marks_in marks
removing_falls marks new taken rest more ns number taken_is new_is more_is =
    omega (arith, marks_in-without marks ns, length-append rest (marked_among marks ns), length-append rest (number ∷ []), ap length taken_is, ap length more_is, ap marks_in new_is)
