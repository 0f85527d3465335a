-- What a copy of an expression is made of, shape by shape.
use Rattle.std.proofs.Common.{◌≡◌, List, [], ◌∷◌, map, Option, Some, None, refl, ap, ◌∙◌}
use Rattle.fr_value.specs.declared.ids.FunId.{FunId}
use Rattle.fr_value.specs.declared.ids.VarId.{VarId}
use Rattle.fr_value.specs.declared.ids.SrcId.{SrcId}
use Rattle.fr_value.specs.declared.value.Value.{Value}
use Rattle.fr_core.specs.declared.core_form.Handler.{Handler}
use Rattle.fr_core.specs.declared.core_form.Loop.{Loop}
use Rattle.fr_core.specs.declared.core_form.Operator.{Operator}
use Rattle.fr_core.specs.declared.core_form.Core.{Core, out-Core, fold_out-Core, map-Core}
use Rattle.fr_core.specs.declared.core_form.Core.TheOpen.{Core-F}
use Rattle.fr_core.specs.declared.core_form.Core.TheVariants as core
use Rattle.fr_core.specs.declared.core_form.Core.TheVariants.{outs-Lit, outs-Var, outs-Source, outs-Let, outs-If, outs-Apply, outs-Operator, outs-Handler, outs-Loop, outs-Feedback}
use Rattle.fr_kernel.specs.Numbers.{Scheme, variable_slot, source_slot, number_step, numbered}
use Rattle.fr_kernel.specs.Placed.{placed}

opened : (s : Scheme) (e : Core) (l : Core-F Core) → out-Core e ≡ l → numbered s e ≡ number_step s (map-Core Core Core (numbered s) l)
unfolding numbered
opened s e l h = fold_out-Core Core (number_step s) e ∙ ap (λ l. number_step s (map-Core Core Core (numbered s) l)) h

all_same : (es : List Core) → es ≡ map (placed None) es
all_same [] = refl
all_same (e ∷ es) = ap (λ l. e ∷ l) (all_same es)

pub placed_lit : (o : Option Scheme) (v : Value) → placed o (core.Lit v) ≡ core.Lit v
placed_lit None v = refl
placed_lit (Some s) v = opened s (core.Lit v) _ (outs-Lit v)

pub placed_var : (s : Scheme) (x : VarId) → numbered s (core.Var x) ≡ core.Var (record { 0 = variable_slot s x.0 })
placed_var s x = opened s (core.Var x) _ (outs-Var x)

pub placed_source : (s : Scheme) (x : SrcId) → numbered s (core.Source x) ≡ core.Var (record { 0 = source_slot s x.0 })
placed_source s x = opened s (core.Source x) _ (outs-Source x)

pub placed_let : (o : Option Scheme) (es : List Core) (b : Core) → placed o (core.Let es b) ≡ core.Let (map (placed o) es) (placed o b)
placed_let None es b = ap (λ l. core.Let l b) (all_same es)
placed_let (Some s) es b = opened s (core.Let es b) _ (outs-Let es b)

pub placed_if : (o : Option Scheme) (a b c : Core) → placed o (core.If a b c) ≡ core.If (placed o a) (placed o b) (placed o c)
placed_if None a b c = refl
placed_if (Some s) a b c = opened s (core.If a b c) _ (outs-If a b c)

pub placed_apply : (o : Option Scheme) (f : FunId) (es : List Core) → placed o (core.Apply f es) ≡ core.Apply f (map (placed o) es)
placed_apply None f es = ap (core.Apply f) (all_same es)
placed_apply (Some s) f es = opened s (core.Apply f es) _ (outs-Apply f es)

pub placed_operator : (o : Option Scheme) (p : Operator) (es : List Core) → placed o (core.Operator p es) ≡ core.Operator p (map (placed o) es)
placed_operator None p es = ap (core.Operator p) (all_same es)
placed_operator (Some s) p es = opened s (core.Operator p es) _ (outs-Operator p es)

pub placed_handler : (o : Option Scheme) (h : Handler) (es : List Core) (b : Core) → placed o (core.Handler h es b) ≡ core.Handler h (map (placed o) es) (placed o b)
placed_handler None h es b = ap (λ l. core.Handler h l b) (all_same es)
placed_handler (Some s) h es b = opened s (core.Handler h es b) _ (outs-Handler h es b)

pub placed_loop : (o : Option Scheme) (l : Loop) (es : List Core) (b : Core) → placed o (core.Loop l es b) ≡ core.Loop l (map (placed o) es) (placed o b)
placed_loop None l es b = ap (λ es. core.Loop l es b) (all_same es)
placed_loop (Some s) l es b = opened s (core.Loop l es b) _ (outs-Loop l es b)

pub placed_feedback : (o : Option Scheme) (a b : Core) → placed o (core.Feedback a b) ≡ core.Feedback (placed o a) (placed o b)
placed_feedback None a b = refl
placed_feedback (Some s) a b = opened s (core.Feedback a b) _ (outs-Feedback a b)
