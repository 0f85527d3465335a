-- What an operator's line costs.
use Rattle.std.proofs.Common.{◌≡◌, ℕ, List, refl, sym, Option, Result, Ok, Err}
use Rattle.fr_value.specs.declared.now.Bad.{Bad}
use Rattle.fr_core.specs.declared.core_form.Operator.{Operator}
use Rattle.fr_core.specs.declared.core_form.Operator.TheVariants as operator
use Rattle.fr_meaning.specs.Words.{Seen}
use Rattle.fr_meaning.specs.Cells.{Cell}
use Rattle.fr_meaning.specs.States.{of_operator, no_call, state_now, beside, state_next, early_value}
use Rattle.fr_kernel.specs.Kernels.{Kernels}
use Rattle.fr_graph.specs.Graph.{operates, work_line}

pub beside_cost : (v : Seen) (r : Result Cell Bad) → (beside v r).cost ≡ 0
beside_cost v (Err b) = refl
beside_cost v (Ok c) = refl

-- an operator's line costs the same before its cell takes its last part's value
pub operator_cost : (t : Kernels) (n : ℕ) (o : Operator) (c : Option Cell) (xs : List Seen) → (work_line t n (operates o) c xs).cost ≡ (state_now (of_operator o) c xs no_call).cost
operator_cost t n operator.Delay c xs = sym (beside_cost (early_value (of_operator operator.Delay) c xs) (state_next (of_operator operator.Delay) xs))
operator_cost t n operator.DelayE c xs = sym (beside_cost (early_value (of_operator operator.DelayE) c xs) (state_next (of_operator operator.DelayE) xs))
operator_cost t n (operator.Prim p) c xs = refl
operator_cost t n operator.MergeE c xs = refl
operator_cost t n operator.Hold c xs = refl
operator_cost t n operator.Changes c xs = refl
operator_cost t n operator.OnceE c xs = refl
