-- Sets of functions as lists of truth values, one for each function.
use Rattle.std.specs.Prelude.{ℕ, ◌≡◌, ◌↔◌, nat_lt, Bool, false, List, length, slice_index_or, IsTrue}
use Rattle.fr_core.specs.Classes.{FunctionSet, IsClosed, IsPure}
use Rattle.fr_core.specs.declared.program.Program.{Program}

-- the functions at whose numbers the list is true
abbrev pub set_of : List Bool → FunctionSet
set_of marks f = slice_index_or marks f false

-- the functions whose numbers are below this one
abbrev pub below : ℕ → FunctionSet
below n f = nat_lt f n

-- the lists have one truth value for each function of the program, and tell which functions are closed and which are pure
pub record AreClasses (p : Program) (closed pure : List Bool) : Type 0 where
  pub closed_length : length closed ≡ length p.functions
  pub closed_members : (f : ℕ) → IsTrue (set_of closed f) ↔ IsClosed p f
  pub pure_length : length pure ≡ length p.functions
  pub pure_members : (f : ℕ) → IsTrue (set_of pure f) ↔ IsPure p f
