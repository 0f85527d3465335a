-- How deep the core expression of an expression nests, whatever its names mean.
use Rattle.std.specs.Prelude.{ℕ, ◌+◌, List, [], ◌∷◌, length, take, max}
use Rattle.fr_value.specs.Data.{greatest}
use Rattle.fr_core.specs.WellFormed.{deepest_nesting}
use Rattle.fr_syntax.specs.declared.expr.Expr.{Expr, fold-Expr}
use Rattle.fr_syntax.specs.declared.expr.Expr.TheOpen.{Expr-F}
use Rattle.fr_expand.specs.Shapes.{Shape, literal, reference, call, choice, chain, clauses, all_of, any_of, operation, binder, feedback, shape}

-- where a count of levels ends: one above the deepest nesting
abbrev pub count_end : ℕ
count_end = deepest_nesting + 1

-- each stands in an expression around what is behind it
abbrev pub around : List ℕ → ℕ → ℕ
around [] last = last
around (d ∷ ds) last = 1 + max d (around ds last)

-- one binding inside another
abbrev pub chain_depth : List (List ℕ) → List ℕ → ℕ → ℕ
chain_depth xs ds body = around (take (length xs) ds) body

-- one test inside another
abbrev pub cond_depth : List ℕ → List ℕ → ℕ → ℕ
cond_depth ts ds other = max (around (take (length ds) ts) other) (around (take (length ts) ds) other)

-- all but the last are tests
abbrev pub and_depth : List ℕ → ℕ
and_depth [] = 1
and_depth (d ∷ []) = d
and_depth (d ∷ ds) = 1 + max d (and_depth ds)

-- all but the last are bound and then tested
abbrev pub or_depth : List ℕ → ℕ
or_depth [] = 1
or_depth (d ∷ []) = d
or_depth (d ∷ ds) = 1 + max d (1 + or_depth ds)

-- the depth of a shape from those of its parts
abbrev pub depth_by : Shape ℕ → ℕ
depth_by (literal v) = 1
depth_by (reference x) = 1
depth_by (call f es) = 1 + greatest es
depth_by (choice a b c) = 1 + max a (max b c)
depth_by (chain xs es b) = chain_depth xs es b
depth_by (clauses ts es e) = cond_depth ts es e
depth_by (all_of es) = and_depth es
depth_by (any_of es) = or_depth es
depth_by (operation o es) = 1 + greatest es
depth_by (binder k es xs b) = 1 + max (greatest es) b
depth_by (feedback x a b) = 1 + max a b

-- the depth from those of the parts
abbrev pub depth_step : Expr-F ℕ → ℕ
depth_step f = depth_by (shape f)

-- how deep the core expression nests, where a leaf counts 1 and a compound one more than its deepest part
unfoldable pub depth : Expr → ℕ
depth = fold-Expr ℕ depth_step
