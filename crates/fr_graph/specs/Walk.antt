-- Where each expression's node stands among the members of an era. Nothing of the graph is read.
use Rattle.std.specs.Prelude.{ℕ, zero, suc, Bool, true, false, ◌&&◌, ◌==◌, if◌then◌else◌, List, [], ◌∷◌, ◌++◌, map, length, slice_get, Option, Some, None, Result, Ok, Err}
use Rattle.fr_value.specs.declared.now.Bad.{Bad}
use Rattle.fr_value.specs.declared.now.Bad.TheVariants.{Arity, Deep}
use Rattle.fr_core.specs.declared.lowered.Low.{Low, out-Low}
use Rattle.fr_core.specs.declared.lowered.Low.TheOpen.{Low-F}
use Rattle.fr_core.specs.declared.lowered.LowFunction.{LowFunction}
use Rattle.fr_core.specs.declared.lowered.Slot.{Slot}
use Rattle.fr_core.specs.declared.lowered.Slot.TheVariants as slot
use Rattle.fr_meaning.specs.Words.{Seen, plain, test_of}
use Rattle.fr_kernel.specs.Kernels.{Kernels}
use Rattle.fr_graph.specs.Graph.{Part, steady, signal, Work, operates, handles, loops, runs, work_line, is_plain}

-- what every walk of a lowered program goes by: its functions, its kernels, and the nodes of its sources
pub record Plan : Type 0 where
  pub functions : List LowFunction
  pub table : Kernels
  pub node_of : ℕ → ℕ

-- the next member; 0 stands where there is none
abbrev pub first : List ℕ → ℕ
first [] = 0
first (m ∷ ms) = m

-- the members behind it
abbrev pub rest : List ℕ → List ℕ
rest [] = []
rest (m ∷ ms) = ms

-- what stands for an expression, and the members that are left
pub record Placed : Type 0 where
  pub part : Part
  pub left : List ℕ

-- what stands for some expressions
pub record AllPlaced : Type 0 where
  pub parts : List Part
  pub left : List ℕ

-- a walk of an expression, over what stands for the variables in scope and over members
abbrev pub Walk : Type 0
Walk = Low → List Part → List ℕ → Placed

-- expressions from left to right
abbrev pub place_all : Walk → List Part → List Low → List ℕ → AllPlaced
place_all walk env [] ms = record { parts = []; left = ms }
place_all walk env (e ∷ es) ms =
    let p = walk e env ms in
    let q = place_all walk env es p.left in
    record { parts = p.part ∷ q.parts; left = q.left }

-- the next member stands for the expression
abbrev pub by_next : List ℕ → Placed
by_next ms = record { part = signal (first ms); left = rest ms }

abbrev pub by_value : Seen → List ℕ → Placed
by_value v ms = record { part = steady v; left = ms }

-- a part that never changes
abbrev pub is_steady : Part → Bool
is_steady (steady v) = true
is_steady (signal m) = false

abbrev pub all_steady : List Part → Bool
all_steady [] = true
all_steady (p ∷ ps) = is_steady p && all_steady ps

-- the value of a part that never changes
abbrev pub steady_value : Part → Seen
steady_value (steady v) = v
steady_value (signal m) = Err Deep

abbrev pub steady_values : List Part → List Seen
steady_values ps = map steady_value ps

-- a work over these inputs: a value where it is plain and none of them varies, and else a node
abbrev pub place_work : Plan → ℕ → Work → List Part → List ℕ → Placed
place_work p n w ps ms = if is_plain w && all_steady ps then by_value (work_line p.table n w None (steady_values ps)).value ms else by_next ms

-- what stands for a variable
abbrev pub variable_part : Option Part → Part
variable_part None = steady (Err Deep)
variable_part (Some p) = p

-- what stands for a slot
abbrev pub slot_part : Plan → List Part → Slot → Part
slot_part p env (slot.Var x) = variable_part (slice_get env x.0)
slot_part p env (slot.Source s) = signal (p.node_of s.0)

abbrev pub slot_parts : Plan → List Part → List Slot → List Part
slot_parts p env ss = map (slot_part p env) ss

-- the choice of a switch whose test never changes
abbrev pub place_chosen : Walk → Low → Low → List Part → List ℕ → Result Bool Bad → Placed
place_chosen walk a b env ms (Err bad) = by_value (Err bad) ms
place_chosen walk a b env ms (Ok true) = walk a env ms
place_chosen walk a b env ms (Ok false) = walk b env ms

-- a switch behind its test: where the test varies the next members are its watch and its result, which stands for it
abbrev pub place_switch : Walk → Low → Low → List Part → Part → List ℕ → Placed
place_switch walk a b env (steady v) ms = place_chosen walk a b env ms (test_of v)
place_switch walk a b env (signal m) ms = by_next (rest ms)

-- the body of a function that has so many parameters
abbrev pub low_body : Option LowFunction → ℕ → Option Low
low_body None n = None
low_body (Some f) n = if f.params == n then Some f.body else None

-- a call behind its arguments
abbrev pub place_call : Walk → Option Low → AllPlaced → Placed
place_call walk None q = by_value (Err Arity) q.left
place_call walk (Some body) q = walk body q.parts q.left

-- one case for each shape, where so many levels are left below
abbrev pub place_shape : Plan → ℕ → Walk → List Part → List ℕ → Low-F Low → Placed
place_shape p n walk env ms (Low-F.Lit v) = by_value (plain v) ms
place_shape p n walk env ms (Low-F.Var x) = record { part = variable_part (slice_get env x.0); left = ms }
place_shape p n walk env ms (Low-F.Source s) = record { part = signal (p.node_of s.0); left = ms }
place_shape p n walk env ms (Low-F.Let es body) = let q = place_all walk env es ms in walk body (env ++ q.parts) q.left
place_shape p n walk env ms (Low-F.If site test a b) = let t = walk test env ms in place_switch walk a b env t.part t.left
place_shape p n walk env ms (Low-F.Apply f es) = place_call walk (low_body (slice_get p.functions f.0) (length es)) (place_all walk env es ms)
place_shape p n walk env ms (Low-F.Operator o es) = let q = place_all walk env es ms in place_work p n (operates o) q.parts q.left
place_shape p n walk env ms (Low-F.Handler h es id ss) = let q = place_all walk env es ms in place_work p n (handles h id.0) (q.parts ++ slot_parts p env ss) q.left
place_shape p n walk env ms (Low-F.Loop l es id ss) = let q = place_all walk env es ms in place_work p n (loops l id.0) (q.parts ++ slot_parts p env ss) q.left
place_shape p n walk env ms (Low-F.Feedback init body) = let i = walk init env ms in walk body (env ++ signal (first i.left) ∷ []) (rest i.left)
place_shape p n walk env ms (Low-F.Collapse id ss) = place_work p n (runs id.0) (slot_parts p env ss) ms

-- what stands for an expression on so many levels
unfoldable pub place : Plan → ℕ → Walk
place p zero e env ms = by_value (Err Deep) ms
place p (suc n) e env ms = place_shape p n (place p n) env ms (out-Low e)
