-- What a run tells of an evaluation.
use Rattle.std.specs.Prelude.{◌≡◌, ℕ, ℤ, ◌+◌, ◌<◌, Bool, true, false, List, [], ◌∷◌, ◌++◌, map, take, drop, Option, Some, None, Result, Ok, Err}
use Rattle.fr_value.specs.declared.now.Now.{Now}
use Rattle.fr_value.specs.declared.now.Bad.{Bad}
use Rattle.fr_value.specs.declared.now.Bad.TheVariants.{Deep}
use Rattle.fr_value.specs.declared.value.Value.TheVariants as value
use Rattle.fr_core.specs.declared.program.Function.{Function}
use Rattle.fr_meaning.specs.Words.{Seen, Env, First, Done, own, plain, test_of}
use Rattle.fr_meaning.specs.Evaluation.{World, Ev, leaf, eval_to}
use Rattle.fr_kernel.specs.declared.machine.Kind.{Kind}
use Rattle.fr_kernel.specs.declared.machine.Kind.TheVariants as kind
use Rattle.fr_kernel.specs.declared.machine.Machine.{Machine}
use Rattle.fr_kernel.specs.declared.fuel.KernStop.{KernStop}
use Rattle.fr_kernel.specs.declared.fuel.KernStop.TheVariants as stop

-- the functions of a program; an expression of a kernel names no source
abbrev pub world : List Function → World
world fs = record { functions = fs; sources = [] }

-- an evaluation to a number of nested levels
abbrev pub here : List Function → ℕ → Ev
here fs n = eval_to n (world fs)

-- the kind of a first error
abbrev pub kind_of : First → Option Bad
kind_of None = None
kind_of (Some f) = Some f.1

-- why a run ended, of an evaluation with this cost and this first error, where so much fuel was left: its first error is of that kind, or its cost is above what was left; want of memory tells nothing
abbrev pub StopsBy : KernStop → ℕ → ℕ → First → Type 0
StopsBy (stop.Memory e) left cost first = Unit {0}
StopsBy (stop.Bad b) left cost first = kind_of first ≡ Some b
StopsBy stop.Fuel left cost first = left < cost

-- the value that an answer is, as it lies in the machine
abbrev pub answer : Kind → Machine → Seen
answer kind.Int m = plain (value.Int m.int)
answer kind.False m = plain (value.Bool false)
answer kind.True m = plain (value.Bool true)
answer kind.Other m = m.other
answer kind.Stop m = Err Deep

-- an evaluation has this value and no error, exactly its cost was spent, and the stacks are as before
pub record Gives (a : Seen) (old new : Machine) (v : Seen) (cost : ℕ) (first : First) : Type 0 where
  pub value : v ≡ a
  pub good : own v ≡ None
  pub clean : first ≡ None
  pub paid : new.fuel + cost ≡ old.fuel
  pub slots : new.slots ≡ old.slots
  pub held : new.held ≡ old.held

-- what an answer tells of an evaluation with this value, this cost and this first error
abbrev pub Answers : Kind → Machine → Machine → Seen → ℕ → First → Type 0
Answers kind.Stop old new v cost first = StopsBy new.stop old.fuel cost first
Answers kind.Int old new v cost first = Gives (answer kind.Int new) old new v cost first
Answers kind.False old new v cost first = Gives (answer kind.False new) old new v cost first
Answers kind.True old new v cost first = Gives (answer kind.True new) old new v cost first
Answers kind.Other old new v cost first = Gives (answer kind.Other new) old new v cost first

-- the same, of what an evaluation answers
abbrev pub Tells : Kind → Machine → Machine → Done → Type 0
Tells k old new d = Answers k old new d.value d.cost d.first

-- the variables in scope: the slots from a number on
abbrev pub scope : ℕ → Machine → Env
scope base m = drop base m.slots

-- evaluations have these values and no error, exactly their cost was spent, and their values are held behind the others
pub record Holds (old new : Machine) (vs : List Seen) (cost : ℕ) (first : First) : Type 0 where
  pub clean : first ≡ None
  pub paid : new.fuel + cost ≡ old.fuel
  pub slots : new.slots ≡ old.slots
  pub held : new.held ≡ old.held ++ vs

-- what is told of evaluations whose values are held, where that went well
abbrev pub HoldsOr : Bool → Machine → Machine → List Seen → ℕ → First → Type 0
HoldsOr true old new vs cost first = Holds old new vs cost first
HoldsOr false old new vs cost first = StopsBy new.stop old.fuel cost first

-- memory is wanting
abbrev pub IsWant : KernStop → Type 0
IsWant (stop.Memory e) = Unit {0}
IsWant s = ⊥

-- an answer was taken as a value
pub record Takes (a given : Seen) (old new : Machine) : Type 0 where
  pub value : a ≡ given
  pub fuel : new.fuel ≡ old.fuel
  pub slots : new.slots ≡ old.slots
  pub held : new.held ≡ old.held

-- the value of an answer, if it is one
abbrev pub TakesOr : Option Seen → Kind → Machine → Machine → Type 0
TakesOr None kind.Stop old new = new ≡ old
TakesOr (Some a) kind.Stop old new = ⊥
TakesOr None k old new = ⊥
TakesOr (Some a) k old new = Takes a (answer k old) old new

-- an answer was put behind the held values
pub record Puts (a : Seen) (old new : Machine) : Type 0 where
  pub fuel : new.fuel ≡ old.fuel
  pub slots : new.slots ≡ old.slots
  pub held : new.held ≡ old.held ++ a ∷ []

-- an answer behind the held values, if it is one and there is memory
abbrev pub PutsOr : Bool → Kind → Machine → Machine → Type 0
PutsOr true kind.Stop old new = ⊥
PutsOr false kind.Stop old new = new.stop ≡ old.stop
PutsOr true k old new = Puts (answer k old) old new
PutsOr false k old new = IsWant new.stop

-- this can't be told to hold or not, and why
pub record Untold (v : Seen) (new : Machine) : Type 0 where
  pub bad : Bad
  pub test : test_of v ≡ Err bad
  pub stop : new.stop ≡ stop.Bad bad

-- whether a test with this answer holds, if it has one and that can be told
abbrev pub TestsOr : Option Bool → Kind → Machine → Machine → Type 0
TestsOr (Some t) kind.Stop old new = ⊥
TestsOr None kind.Stop old new = new ≡ old
TestsOr (Some t) k old new = (test_of (answer k old) ≡ Ok t) × (new ≡ old)
TestsOr None k old new = Untold (answer k old) new

-- the held values from an index on became slots, or memory is wanting
abbrev pub BindsOr : Bool → ℕ → Machine → Machine → Type 0
BindsOr true from old new = new ≡ record old { slots = old.slots ++ drop from old.held; held = take from old.held }
BindsOr false from old new = IsWant new.stop

-- these values became slots, or memory is wanting
abbrev pub BindsTurnOr : Bool → Machine → Machine → List Seen → Type 0
BindsTurnOr true old new vs = new ≡ record old { slots = old.slots ++ vs }
BindsTurnOr false old new vs = IsWant new.stop

-- an answer of this value, where the held values from an index on are let go of
abbrev pub AppliesHeld : Kind → ℕ → Machine → Machine → Seen → Type 0
AppliesHeld k from old new v = Answers k (record old { held = take from old.held }) new v 0 (own v)

-- one was spent, or none was left
abbrev pub SpendsOr : Bool → Machine → Machine → Type 0
SpendsOr true old new = (new ≡ record old { fuel = new.fuel }) × (new.fuel + 1 ≡ old.fuel)
SpendsOr false old new = (new.stop ≡ stop.Fuel) × (old.fuel ≡ 0)

-- the values of a kernel's slots, where it is run over these: those of its parameters come behind the others
abbrev pub slot_values : ℕ → List Now → Env
slot_values params inputs = map (λ n. Ok n) (drop params inputs) ++ map (λ n. Ok n) (take params inputs)

-- a run begins with so much fuel over these slots
pub record Begins (m : Machine) (left : ℕ) (vs : List Seen) : Type 0 where
  pub fuel : m.fuel ≡ left
  pub slots : m.slots ≡ vs

-- an evaluation has this value and no error, and exactly its cost was spent
pub record Pays (v : Now) (before after : ℕ) (d : Done) : Type 0 where
  pub value : d.value ≡ Ok v
  pub clean : d.first ≡ None
  pub paid : after + d.cost ≡ before

-- what a run tells of an evaluation, where so much fuel was left before and after
abbrev pub Ran : Result Now KernStop → ℕ → ℕ → Done → Type 0
Ran (Ok v) before after d = Pays v before after d
Ran (Err s) before after d = StopsBy s before d.cost d.first

-- an integer that is read in place is this value
abbrev pub IntOr : Option ℤ → Seen → Type 0
IntOr None v = Unit {0}
IntOr (Some n) v = v ≡ plain (value.Int n)

-- an integer that is read in place is what is evaluated
abbrev pub LeafOr : Option ℤ → Done → Type 0
LeafOr None d = Unit {0}
LeafOr (Some n) d = d ≡ leaf (plain (value.Int n))

-- these values were held behind the others, or memory is wanting
abbrev pub PushesOr : Bool → Machine → Machine → List Seen → Type 0
PushesOr true old new vs = new ≡ record old { held = old.held ++ vs }
PushesOr false old new vs = IsWant new.stop
