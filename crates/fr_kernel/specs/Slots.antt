-- Which variables and sources the slots of a kernel stand for.
use Rattle.std.specs.Prelude.{ℕ, ◌==◌, nat_lt, if◌then◌else◌, List, [], ◌∷◌, ◌++◌, map}
use Rattle.fr_core.specs.declared.core_form.Core.{Core}
use Rattle.fr_core.specs.declared.lowered.Slot.{Slot}
use Rattle.fr_core.specs.declared.lowered.Slot.TheVariants as slot
use Rattle.fr_meaning.specs.Dependence.{variables, sources_of}

-- a rising list with a number put into its place, where it isn't there yet
abbrev pub with_number : ℕ → List ℕ → List ℕ
with_number n [] = n ∷ []
with_number n (m ∷ ms) = if nat_lt n m then n ∷ m ∷ ms else if n == m then m ∷ ms else m ∷ with_number n ms

-- these numbers, each once and in rising order
abbrev pub in_order : List ℕ → List ℕ
in_order [] = []
in_order (n ∷ ns) = with_number n (in_order ns)

-- a number, where it is below the bound
abbrev pub if_below : ℕ → ℕ → List ℕ
if_below bound n = if nat_lt n bound then n ∷ [] else []

-- those below a bound
abbrev pub all_below : ℕ → List ℕ → List ℕ
all_below bound [] = []
all_below bound (n ∷ ns) = if_below bound n ++ all_below bound ns

-- the variables below `first` that an expression names, each once and in rising order
abbrev pub outer_of : ℕ → Core → List ℕ
outer_of first e = in_order (all_below first (variables e))

-- the sources that an expression names, each once and in rising order
abbrev pub read_by : Core → List ℕ
read_by e = in_order (sources_of e)

-- a slot for a variable, and one for a source
abbrev pub slot_of_variable : ℕ → Slot
slot_of_variable x = slot.Var (record { 0 = x })

abbrev pub slot_of_source : ℕ → Slot
slot_of_source x = slot.Source (record { 0 = x })

-- slots for these variables and then these sources
abbrev pub slots_for : List ℕ → List ℕ → List Slot
slots_for outer sources = map slot_of_variable outer ++ map slot_of_source sources

-- what an expression reads from its place, where `first` variables are around it: the variables below `first` that it names and then its sources, each once and in rising order
abbrev pub slots_of : ℕ → Core → List Slot
slots_of first e = slots_for (outer_of first e) (read_by e)
