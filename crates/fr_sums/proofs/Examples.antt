-- Worked examples: the sites of small expressions, and what building them costs.
use Rattle.std.proofs.Common.{◌≡◌, ℕ, suc, ℤ, pos, Bool, true, false, [], ◌∷◌, refl, Some}
use Rattle.fr_value.specs.declared.value.Value.TheVariants as value
use Rattle.fr_value.specs.declared.now.Now.TheVariants.{Plain, Occ}
use Rattle.fr_core.specs.declared.core_form.Core.TheVariants.{outs-Lit, outs-Var, outs-Source, outs-Let, outs-If, outs-Apply, outs-Operator, outs-Handler, outs-Loop, outs-Feedback}
use Rattle.fr_core.specs.declared.core_form.Operator.TheVariants as operator
use Rattle.fr_core.specs.declared.kept.Kept.TheVariants as kept
use Rattle.fr_core.specs.declared.lowered.Low.{Low, out-Low}
use Rattle.fr_core.specs.declared.lowered.Low.TheVariants as low
use Rattle.fr_core.specs.declared.lowered.Low.TheVariants.{outs-Lit as low-Lit, outs-Var as low-Var, outs-Source as low-Source, outs-Let as low-Let, outs-If as low-If, outs-Apply as low-Apply, outs-Operator as low-Operator, outs-Feedback as low-Feedback}
use Rattle.fr_meaning.proofs.Levels.{evaluates}
use Rattle.fr_graph.proofs.Inside.{erase-opens}
use Rattle.fr_sums.specs.Sites.{Site, Setting, Scope, shape_varies, varies, shape_sites, sites}

ruleset outs = (outs-Lit, outs-Var, outs-Source, outs-Let, outs-If, outs-Apply, outs-Operator, outs-Handler, outs-Loop, outs-Feedback, low-Lit, low-Var, low-Source, low-Let, low-If, low-Apply, low-Operator, low-Feedback)

-- these open one level at a time

varies-opens : (s : Setting) (n : ℕ) (e : Low) (c : Scope) (k : Rattle.fr_core.specs.declared.kept.Kept.Kept) → varies s (suc n) e c k ≡ shape_varies s n (varies s n) c k (out-Low e)
unfolding varies
varies-opens s n e c k = refl

sites-opens : (s : Setting) (weigh : Site → ℕ) (n : ℕ) (e : Low) (c : Scope) (k : Rattle.fr_core.specs.declared.kept.Kept.Kept) → sites s weigh (suc n) e c k ≡ shape_sites s weigh n (varies s n) (sites s weigh n) c k (out-Low e)
unfolding sites
sites-opens s weigh n e c k = refl

-- `now`, an input, and an event, which occurs with 5
abbrev setting : Bool → Setting
setting holds = record { functions = []; kernels = []; world = record { functions = []; sources = Plain (value.Int (pos 9)) ∷ Plain (value.Bool holds) ∷ Occ (Some (value.Int (pos 5))) ∷ [] } }

abbrev nothing : Scope
nothing = record { varies = []; values = [] }

abbrev one : Site → ℕ
one s = 1

abbrev input : Low
input = low.Source (record { 0 = 1 })

abbrev event : Low
event = low.Source (record { 0 = 2 })

abbrev int : ℤ → Low
int n = low.Lit (value.Int n)

-- (if x (hold e 0) 7)
abbrev switch : Low
switch = low.If (record { 0 = 0 }) input (low.Operator operator.Hold (event ∷ int (pos 0) ∷ [])) (int (pos 7))

-- a watch, a result and, where the test holds, the node that holds
switch_holds : (n : ℕ) → sites (setting true) one (suc (suc (suc n))) switch nothing kept.Nothing ≡ 3
switch_holds n = simp (sites-opens, varies-opens, erase-opens, evaluates, outs)

switch_fails : (n : ℕ) → sites (setting false) one (suc (suc (suc n))) switch nothing kept.Nothing ≡ 2
switch_fails n = simp (sites-opens, varies-opens, erase-opens, evaluates, outs)
