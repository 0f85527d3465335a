-- What is defined of an expression by its shape, from what is of its parts: one equation for any expression.
use Rattle.std.proofs.Common.{◌≡◌, ◌+◌, ℕ, List, length, ap, ◌∙◌, arith}
use Rattle.fr_value.specs.Data.{total}
use Rattle.fr_syntax.specs.Outlines.{Global}
use Rattle.fr_syntax.specs.Weights.{weight, weight_step}
use Rattle.fr_syntax.specs.declared.expr.Expr.{Expr, out-Expr, map-Expr, fold_out-Expr}
use Rattle.fr_syntax.specs.declared.expr.Expr.TheOpen.{Expr-F}
use Rattle.fr_expand.proofs.OfParts.{shape-map}
use Rattle.fr_scope.specs.Meanings.{Binder}
use Rattle.fr_expand.specs.Depths.{depth, depth_by, depth_step}
use Rattle.fr_expand.specs.Faults.{faults, faults_by, faults_step}
use Rattle.fr_expand.specs.Faults.{Part as FaultPart}
use Rattle.fr_expand.specs.Shapes.{Shape, call, choice, chain, clauses, all_of, any_of, operation, binder, feedback, shape, shape_of, mapped}
use Rattle.fr_expand.specs.Translation.{Part, core_of, core_by, core_step}

pub core_opens : (globals : List Global) (e : Expr) (scope : List Binder) → core_of globals e scope ≡ core_by globals (mapped (core_of globals) (shape_of e)) scope
unfolding core_of
core_opens globals e scope =
    ap (λ p. p scope) (fold_out-Expr Part (core_step globals) e) ∙ ap (λ s. core_by globals s scope) (shape-map (core_of globals) (out-Expr e))

pub faults_opens : (globals : List Global) (e : Expr) (scope : List Binder) → faults globals e scope ≡ faults_by globals (mapped (faults globals) (shape_of e)) scope
unfolding faults
faults_opens globals e scope =
    ap (λ p. p scope) (fold_out-Expr FaultPart (faults_step globals) e) ∙ ap (λ s. faults_by globals s scope) (shape-map (faults globals) (out-Expr e))

pub depth_opens : (e : Expr) → depth e ≡ depth_by (mapped depth (shape_of e))
unfolding depth
depth_opens e = fold_out-Expr ℕ depth_step e ∙ ap depth_by (shape-map depth (out-Expr e))

-- how heavy a shape is
abbrev pub weight_by : Shape ℕ → ℕ
weight_by (call f es) = 1 + total es
weight_by (choice a b c) = 1 + a + b + c
weight_by (chain xs es b) = 1 + length xs + total es + b
weight_by (clauses ts es e) = 1 + total ts + total es + e
weight_by (all_of es) = 1 + total es
weight_by (any_of es) = 1 + total es
weight_by (operation o es) = 1 + total es
weight_by (binder k es xs b) = 1 + length xs + total es + b
weight_by (feedback x a b) = 2 + a + b
weight_by _ = 1

step_weighs : (f : Expr-F ℕ) → weight_step f ≡ weight_by (shape f)
step_weighs (Expr-F.Literal v) = omega arith
step_weighs _ = omega arith

pub weight_opens : (e : Expr) → weight e ≡ weight_by (mapped weight (shape_of e))
unfolding weight
weight_opens e = fold_out-Expr ℕ weight_step e ∙ step_weighs (map-Expr Expr ℕ weight (out-Expr e)) ∙ ap weight_by (shape-map weight (out-Expr e))
