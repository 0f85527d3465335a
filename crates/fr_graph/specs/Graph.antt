-- The graph of signals, as functions of a node's number.
use Rattle.std.specs.Prelude.{◌≡◌, ℕ, ◌+◌, suc, Bool, true, false, List, [], ◌++◌, map, take, drop, slice_get, Option, Some, None, Err}
use Rattle.fr_value.specs.declared.now.Bad.TheVariants.{Deep}
use Rattle.fr_core.specs.declared.core_form.Operator.{Operator}
use Rattle.fr_core.specs.declared.core_form.Operator.TheVariants as operator
use Rattle.fr_core.specs.declared.core_form.Handler.{Handler}
use Rattle.fr_core.specs.declared.core_form.Loop.{Loop}
use Rattle.fr_core.specs.declared.kept.Kept.TheVariants as kept
use Rattle.fr_core.specs.declared.lowered.Low.{Low}
use Rattle.fr_core.specs.Shapes.{handler_parts}
use Rattle.fr_meaning.specs.Words.{Seen, Done, own, part}
use Rattle.fr_meaning.specs.Cells.{Cell}
use Rattle.fr_meaning.specs.States.{Line, gives, Call, of_operator, of_handler, fed, base_of, refusal_in, refused_by, early_value, no_call, state_now}
use Rattle.fr_meaning.specs.Evaluation.{Turns, all_turns, rounds, eval_to}
use Rattle.fr_kernel.specs.Kernels.{Kernels, Kernel, world_at}
use Rattle.fr_kernel.specs.Placed.{scheme_for}
use Rattle.fr_kernel.specs.Numbers.{numbered}

-- what stands for an expression: a value that never changes, or the value of a node
pub data Part : Type 0 where
  steady : Seen → Part
  signal : ℕ → Part

-- what a node computes from the values of its inputs: an operator; a handler or a loop with the kernel of its body; a kernel as a whole; or what the name of a `feedback` is bound to
pub data Work : Type 0 where
  operates : Operator → Work
  handles : Handler → ℕ → Work
  loops : Loop → ℕ → Work
  runs : ℕ → Work
  feeds : Work

-- the kind of a node: a source of the program; a work; a watch, which has the two choices and the variables in scope there; the result of a watch
pub data Kind : Type 0 where
  source : ℕ → Kind
  works : Work → Kind
  watch : Low → Low → List Part → Kind
  result : Kind

-- the graph: for each node whether it lives, its kind, its inputs, the part that its cell takes behind the instant, its value and its cell, how many levels are left below its expression, and its era; for each era its members in order; for each watch its result; and the nodes of the sources
pub record Graph : Type 0 where
  pub live : ℕ → Bool
  pub kind : ℕ → Kind
  pub inputs : ℕ → List Part
  pub later : ℕ → Option Part
  pub value : ℕ → Seen
  pub cell : ℕ → Option Cell
  pub level : ℕ → ℕ
  pub era : ℕ → ℕ
  pub members : ℕ → List ℕ
  pub result_of : ℕ → ℕ

-- the value of a part
abbrev pub part_value : Graph → Part → Seen
part_value g (steady v) = v
part_value g (signal m) = g.value m

abbrev pub part_values : Graph → List Part → List Seen
part_values g ps = map (part_value g) ps

-- a kernel that may not be there, over the values of its slots and of its parameters
abbrev pub run_of : Kernels → ℕ → Option Kernel → List Seen → List Seen → Done
run_of t n None slots args = record { value = Err Deep; kept = kept.Nothing; cost = 0; first = Some ([], Deep) }
run_of t n (Some k) slots args = eval_to n (world_at t []) (numbered (scheme_for k.first k.params k.expr) k.expr) (slots ++ args) kept.Nothing

-- the kernel of a number, on so many levels
abbrev pub kernel_run : Kernels → ℕ → ℕ → List Seen → List Seen → Done
kernel_run t n id slots args = run_of t n (slice_get t.kernels id) slots args

-- the call of a handler by its kernel, which costs 1
abbrev pub kernel_call : Kernels → ℕ → ℕ → List Seen → Call
kernel_call t n id slots args = let d = kernel_run t n id slots args in record { value = d.value; cost = d.cost + 1; first = d.first }

-- a line of a value that an evaluation gave
abbrev pub turns_line : Turns → Line
turns_line ts = record { value = ts.value; next = None; cost = ts.cost; inner = ts.first; refusal = None }

abbrev pub done_line : Done → Line
done_line d = record { value = d.value; next = None; cost = d.cost; inner = d.first; refusal = None }

-- the line of an operator before its cell takes its last part's value
abbrev pub operator_early : Operator → Option Cell → List Seen → Line
operator_early operator.Delay cell xs = gives (early_value (of_operator operator.Delay) cell xs) None
operator_early operator.DelayE cell xs = gives (early_value (of_operator operator.DelayE) cell xs) None
operator_early o cell xs = state_now (of_operator o) cell xs no_call

-- the line of a work over the values of its inputs, where so many levels are left below its expression; what a late work's cell takes isn't in it
abbrev pub work_line : Kernels → ℕ → Work → Option Cell → List Seen → Line
work_line t n (operates o) cell xs = operator_early o cell xs
work_line t n (handles h id) cell xs = state_now (of_handler h) cell (take (handler_parts h) xs) (kernel_call t n id (drop (handler_parts h) xs))
work_line t n (loops l id) cell xs = turns_line (all_turns (kernel_run t n id (drop 2 xs)) (part xs 0) (rounds l (part xs 1)))
work_line t n (runs id) cell xs = done_line (kernel_run t (suc n) id xs [])
work_line t n feeds cell xs = refused_by (refusal_in (base_of cell (part xs 0))) (gives (fed cell (part xs 0)) None)

-- a work takes its last part's value behind the instant
abbrev pub is_late : Work → Bool
is_late (operates operator.Delay) = true
is_late (operates operator.DelayE) = true
is_late feeds = true
is_late w = false

-- a work whose value follows from the values of its inputs alone
abbrev pub is_plain : Work → Bool
is_plain (operates (operator.Prim p)) = true
is_plain (loops l id) = true
is_plain (runs id) = true
is_plain w = false

-- a line has a value, and neither its handler's call errs nor does it refuse a part
pub record IsClean (l : Line) : Type 0 where
  pub value : own l.value ≡ None
  pub inner : l.inner ≡ None
  pub refusal : l.refusal ≡ None
