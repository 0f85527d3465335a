-- Taking functions away until those that are left call none of those that were taken.
use Rattle.std.specs.Prelude.{ℕ, ◌≡◌, ◌<◌, ◌==◌, ◌&&◌, if◌then◌else◌, not, nat_lt, Bool, true, false, List, [], ◌∷◌, ◌++◌, length, map, slice_index_or, slice_set}
use Rattle.std.specs.List.{list_any}
use Rattle.fr_core.specs.Classes.{FunctionSet}
use Rattle.fr_core.specs.declared.program.Function.{Function}
use Rattle.fr_purity.specs.Calls.{calls}
use Rattle.fr_purity.specs.Marks.{set_of}

-- whether the number stands in the list
abbrev pub has : List ℕ → ℕ → Bool
has xs n = list_any (λ x. x == n) xs

-- the list at an index, and the empty one past the end
abbrev pub list_at : List (List ℕ) → ℕ → List ℕ
list_at xss n = slice_index_or xss n []

-- the functions that each function calls
abbrev pub called_by : List Function → List (List ℕ)
called_by functions = map (λ f. calls f.body) functions

-- one list for each function, with exactly the functions that call it
pub record AreCallers (called callers : List (List ℕ)) : Type 0 where
  pub one_for_each : length callers ≡ length called
  pub members : (f g : ℕ) → g < length called → has (list_at callers g) f ≡ has (list_at called f) g

-- the lists with a caller behind those of each function that it calls
abbrev pub with_caller : List (List ℕ) → ℕ → List ℕ → List (List ℕ)
with_caller callers caller [] = callers
with_caller callers caller (n ∷ ns) = with_caller (slice_set callers n (list_at callers n ++ caller ∷ [])) caller ns

-- members call members alone
pub record CallsMembers (callers : List (List ℕ)) (s : FunctionSet) : Type 0 where
  pub called : (f g : ℕ) → s f ≡ true → has (list_at callers g) f ≡ true → s g ≡ true

-- each member of the first is one of the second
abbrev pub IsWithin : FunctionSet → FunctionSet → Type 0
IsWithin s t = (f : ℕ) → s f ≡ true → t f ≡ true

-- the greatest set within the first whose members call members alone
pub record IsGreatest (callers : List (List ℕ)) (first kept : FunctionSet) : Type 0 where
  pub within : IsWithin kept first
  pub closed : CallsMembers callers kept
  pub greatest : (s : FunctionSet) → IsWithin s first → CallsMembers callers s → IsWithin s kept

-- the marks without those of these functions
abbrev pub without : List Bool → List ℕ → List Bool
without marks [] = marks
without marks (n ∷ ns) = without (slice_set marks n false) ns

-- those of these functions that are marked, each once
abbrev pub marked_among : List Bool → List ℕ → List ℕ
marked_among marks [] = []
marked_among marks (n ∷ ns) = (if set_of marks n then n ∷ [] else []) ++ marked_among (slice_set marks n false) ns

-- the list has exactly the functions of the list of marks that aren't marked
pub record AreUnmarked (marks : List Bool) (numbers : List ℕ) : Type 0 where
  pub members : (n : ℕ) → has numbers n ≡ nat_lt n (length marks) && not (set_of marks n)
