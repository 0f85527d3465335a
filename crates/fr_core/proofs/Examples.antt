-- Worked examples, computed from the definitions.
use Rattle.std.proofs.Common.{◌≡◌, ℕ, pos, [], ◌∷◌, true, false}
use Rattle.fr_value.specs.declared.ids.SrcId.{SrcId}
use Rattle.fr_value.specs.declared.ids.VarId.{VarId}
use Rattle.fr_value.specs.declared.primitive.Primitive.TheVariants as prim
use Rattle.fr_value.specs.declared.value.Value.TheVariants as value
use Rattle.fr_core.specs.declared.core_form.Core.{Core}
use Rattle.fr_core.specs.declared.core_form.Core.TheVariants as core
use Rattle.fr_core.specs.declared.core_form.Core.TheVariants.{outs-Lit, outs-Var, outs-Source, outs-Let, outs-Operator, outs-Loop}
use Rattle.fr_core.specs.declared.core_form.Operator.TheVariants as operator
use Rattle.fr_core.specs.declared.core_form.Loop.TheVariants as loop
use Rattle.fr_core.specs.WellFormed.{nesting, count, longest, widest, is_scoped, is_formed}
use Rattle.fr_core.proofs.Folds.{nesting-opens, count-opens, longest-opens, widest-opens, scoped-opens, formed-opens}

abbrev var : ℕ → Core
var n = let v : VarId = record { 0 = n } in core.Var v

abbrev source : ℕ → Core
source n = let s : SrcId = record { 0 = n } in core.Source s

-- (let ((a 1)) (for/fold ((acc a)) ((x (list))) (+ acc E)))
abbrev looping : Core → Core
looping e = core.Let (core.Lit (value.Int (pos 1)) ∷ []) (core.Loop loop.Fold (var 0 ∷ core.Operator (operator.Prim prim.List) [] ∷ []) (core.Operator (operator.Prim prim.Add) (var 1 ∷ e ∷ [])))

ruleset outs = (outs-Lit, outs-Var, outs-Source, outs-Let, outs-Operator, outs-Loop)

looping_nesting : nesting (looping (var 2)) ≡ 4
looping_nesting = simp (nesting-opens, outs)

looping_count : count (looping (var 2)) ≡ 8
looping_count = simp (count-opens, outs)

looping_longest : longest (looping (var 2)) ≡ 2
looping_longest = simp (longest-opens, outs)

looping_widest : widest (looping (var 2)) ≡ 3
looping_widest = simp (widest-opens, outs)

-- the item is the third variable in scope, and there is no fourth
looping_scoped : is_scoped 0 0 (looping (var 2)) 0 ≡ true
looping_scoped = simp (scoped-opens, outs)

looping_not_scoped : is_scoped 0 0 (looping (var 3)) 0 ≡ false
looping_not_scoped = simp (scoped-opens, outs)

-- source 0 is there without inputs and events, and source 1 isn't
now_scoped : is_scoped 0 0 (looping (source 0)) 0 ≡ true
now_scoped = simp (scoped-opens, outs)

no_source : is_scoped 0 0 (looping (source 1)) 0 ≡ false
no_source = simp (scoped-opens, outs)

-- each form has its parts, and a loop without its list hasn't
looping_formed : is_formed (looping (var 2)) ≡ true
looping_formed = simp (formed-opens, outs)

lacks_its_list : is_formed (core.Loop loop.Fold (var 0 ∷ []) (var 0)) ≡ false
lacks_its_list = simp (formed-opens, outs)
