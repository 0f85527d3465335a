-- What holds of a graph between two instants and between two takings of one, beside what is under way.
use Rattle.std.specs.Prelude.{◌≡◌, ℕ, ◌<◌, true, List, Option}
use Rattle.fr_value.specs.declared.now.Now.{Now}
use Rattle.fr_core.specs.declared.lowered.LowItem.{LowItem}
use Rattle.fr_meaning.specs.Cells.{Cell}
use Rattle.fr_queue.specs.Queue.{IsEmpty}
use Rattle.fr_graph.specs.Graph.{Graph}
use Rattle.fr_graph.specs.Walk.{Plan}
use Rattle.fr_graph.specs.Items.{HasNodes, IsSettled}
use Rattle.fr_way.specs.Frame.{IsFramed}
use Rattle.fr_way.specs.Way.{Way, UnderWay}
use Rattle.fr_way.specs.Order.{DeadAreLevelled}
use Rattle.fr_way.specs.Ends.{Begins, Takes}
use Rattle.fr_way.specs.Fronts.{AreUsed}
use Rattle.fr_way.specs.Burial.{Buries}

-- no node awaits burial: each number in use is that of a live node
abbrev pub NothingAwaits : Way → Type 0
NothingAwaits at = (m : ℕ) → at.taken m ≡ true → at.graph.live m ≡ true

-- the numbers in use are below a bound
abbrev pub InUseBelow : ℕ → Way → Type 0
InUseBelow numbers at = (m : ℕ) → at.taken m ≡ true → m < numbers

-- a graph between two instants: its nodes and eras stand, each node used, framed and at rest; nothing is queued, and the live nodes are the numbers in use, which are below a bound
pub record IsWhole (p : Plan) (is : List LowItem) (ms : List ℕ) (numbers : ℕ) (sources : List Now) (before : ℕ → Option Cell) (at : Way) : Type 0 where
  pub nodes : HasNodes at.graph p is ms
  pub settled : IsSettled at.graph p sources before
  pub frame : IsFramed at.graph at.height
  pub used : AreUsed at.graph p is ms
  pub queue : IsEmpty at.queued
  pub taken : (m : ℕ) → at.graph.live m ≡ true → at.taken m ≡ true
  pub awaits : NothingAwaits at
  pub below : InUseBelow numbers at

-- a graph between two takings: it is under way, what awaits burial stands above what it reads, each node of the program's era is used, and the numbers in use are below a bound
pub record IsOnItsWay (p : Plan) (is : List LowItem) (ms : List ℕ) (numbers : ℕ) (sources : List Now) (old : Graph) (at : Way) : Type 0 where
  pub under_way : UnderWay p is ms sources old at
  pub dead : DeadAreLevelled at
  pub used : AreUsed at.graph p is ms
  pub below : InUseBelow numbers at

-- a further instant starts: what it begins with is queued, and nodes are in use as before, at the same heights
pub record Starts (sources : List Now) (was at : Way) : Type 0 where
  pub begins : Begins sources was.graph at
  pub taken : (m : ℕ) → at.taken m ≡ was.taken m
  pub heights : (m : ℕ) → was.graph.live m ≡ true → at.height m ≡ was.height m

-- an instant closes: nothing is queued, the late works take the values of their last parts, and what awaits burial is buried
pub record Closes (at : Way) (latched : Graph) (new : Way) : Type 0 where
  pub empty : IsEmpty at.queued
  pub takes : Takes at.graph latched
  pub buries : Buries latched new.graph
  pub queue : IsEmpty new.queued
  pub taken : (m : ℕ) → new.taken m ≡ new.graph.live m
  pub heights : (m : ℕ) → new.graph.live m ≡ true → new.height m ≡ at.height m
