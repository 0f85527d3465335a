-- The run of a kernel of a sound plan gives the value of the expression that it was made from.
use Rattle.std.proofs.Common.{◌≡◌, ◌-◌, List, [], ◌++◌, map, ap, sym, ◌∙◌, subst, arith}
use Rattle.fr_value.specs.declared.now.Now.{Now}
use Rattle.fr_core.specs.declared.kept.Kept.TheVariants as kept
use Rattle.fr_core.specs.declared.program.Program.{Program}
use Rattle.fr_meaning.specs.Evaluation.{world_of, eval_to}
use Rattle.fr_kernel.specs.Answers.{world}
use Rattle.fr_kernel.specs.Kernels.{slot_seen, world_at}
use Rattle.fr_kernel.specs.Numbers.{numbered}
use Rattle.fr_kernel.specs.Placed.{scheme_for}
use Rattle.fr_kernel.proofs.Numbers.{numbered_same}
use Rattle.fr_kernel.proofs.Standing.{named_for, values_of, stands, slots_seen}
use Rattle.fr_graph.specs.Graph.{kernel_run, run_of}
use Rattle.fr_graph.specs.Walk.{Plan}
use Rattle.fr_graph.specs.Sound.{IsPlanOf, AreAlike, KernelsMean}

pub kernels_mean : (pr : Program) (p : Plan) (sources : List Now) → IsPlanOf pr p → KernelsMean p pr sources
kernels_mean pr p sources plan n i k few there vs args near own tree =
    let s = scheme_for k.first k.params k.expr in
    let levels : 2001 - (2001 - n) ≡ n = omega (arith, few) in
    let stand = stands s k.expr sources vs args near own (named_for k.first k.params k.expr) in
    let same = numbered_same pr s k.expr sources (vs ++ args) (values_of s sources vs args) (plan.pure i k there) stand (2001 - n) tree kept.Nothing in
    let slots : map (slot_seen sources vs) k.slots ≡ _ = ap (map (slot_seen sources vs)) (plan.slots i k there) ∙ slots_seen s sources vs in
    let code = eval_to n (world pr.functions) (numbered s k.expr) (values_of s sources vs args) kept.Nothing in
    let run : kernel_run p.table n i (map (slot_seen sources vs) k.slots) args ≡ code
    = ap (λ o. run_of p.table n o (map (slot_seen sources vs) k.slots) args) there
    ∙ ap (λ us. eval_to n (world_at p.table []) (numbered s k.expr) (us ++ args) kept.Nothing) slots
    ∙ ap (λ fs. eval_to n (world fs) (numbered s k.expr) (values_of s sources vs args) kept.Nothing) plan.table in
    let there : AreAlike code (eval_to n (world_of pr sources) k.expr (vs ++ args) tree)
    = subst (λ m. AreAlike (eval_to m (world pr.functions) (numbered s k.expr) (values_of s sources vs args) kept.Nothing) (eval_to m (world_of pr sources) k.expr (vs ++ args) tree)) levels
    (record { value = sym same.value; cost = sym same.cost; first = sym same.first }) in
    subst (λ d. AreAlike d (eval_to n (world_of pr sources) k.expr (vs ++ args) tree)) (sym run) there
