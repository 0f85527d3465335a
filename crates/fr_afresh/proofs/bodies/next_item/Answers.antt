use Rattle.std.proofs.Common.{◌≡◌, ◌+◌, ℕ, List, ◌∷◌, None, Some, refl, append_assoc}
use Rattle.std.specs.Option.{option_or}
use Rattle.fr_core.specs.declared.kept.Kept.{Kept}
use Rattle.fr_core.specs.declared.program.Item.{Item}
use Rattle.fr_core.specs.declared.program.Item.TheVariants as item
use Rattle.fr_meaning.specs.Words.{First}
use Rattle.fr_meaning.specs.Cells.{child}
use Rattle.fr_meaning.specs.Evaluation.{Ev, eval_to, most_levels}
use Rattle.fr_meaning.specs.Dependence.{item_expr}
use Rattle.fr_afresh.specs.declared.bodies.Progress.{Progress}
use Rattle.fr_afresh.specs.Bodies.{behind_item, whole}
use Rattle.fr_afresh.specs.Outcomes.{without_cost}
use Rattle.fr_afresh.proofs.bodies.next_item.Goals as goal

or_assoc : (a b c : First) → option_or (option_or a b) c ≡ option_or a (option_or b c)
or_assoc None b c = refl
or_assoc (Some x) b c = refl

item_next : (ev : Ev) (k : Kept) (n : ℕ) (p : Progress) (i : Item) (is : List Item) → whole ev k (n + 1) (behind_item p n i (without_cost (ev (item_expr i) p.env (child k n)))) is ≡ whole ev k n p (i ∷ is)
item_next ev k n p (item.Define e) is = simp (append_assoc, or_assoc)
item_next ev k n p (item.Show name e) is = simp (append_assoc, or_assoc)

pub returns : goal.returns
returns c = λ is.
    rw (c.in_ok-next.ensures, c.in_ok-done.ensures.env, c.in_ok-done.ensures.value, c.kept_part-before.ensures, c.expr_of.ensures)
    (item_next (eval_to most_levels c.args.world.now) c.args.kept.now c.args.number c.args.so_far c.args.item.now is)
