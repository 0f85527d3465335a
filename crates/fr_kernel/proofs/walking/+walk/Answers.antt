use Rattle.std.proofs.Common.{◌<◌, ◌+◌, [], ◌∷◌, None, length, drop, refl, ap, subst, ◌∙◌, arith, rules}
use Rattle.std.proofs.lemmas.Int.{to_z-of_z}
use mir.Syntax.{w64}
use mir.Val.{SFits}
use Rattle.std.specs.Option.{option_or}
use Rattle.fr_value.specs.declared.value.Value.TheVariants as value
use Rattle.fr_meaning.specs.Words.{own, plain}
use Rattle.fr_meaning.specs.Primitives.{applied}
use Rattle.fr_meaning.specs.States.{gives}
use Rattle.fr_kernel.proofs.Operands.{two_parts, int_then, ints_then, holds_two, first_stop, second_stop}
use Rattle.fr_core.specs.declared.core_form.Core.{out-Core}
use Rattle.fr_core.specs.declared.core_form.Core.TheVariants.{outs-Lit, outs-Var, outs-Source, outs-Let, outs-If, outs-Apply, outs-Operator, outs-Handler, outs-Loop, outs-Feedback}
use Rattle.fr_core.specs.declared.kept.Kept.{Kept}
use Rattle.fr_core.specs.declared.kept.Kept.TheVariants as kept
use Rattle.fr_meaning.specs.Cells.{child}
use Rattle.fr_meaning.specs.Evaluation.{parts}
use Rattle.fr_meaning.proofs.Levels.{at_zero, at_level}
use Rattle.fr_forms.specs.Lent.{bound}
use Rattle.fr_kernel.specs.declared.machine.Machine.{Machine}
use Rattle.fr_kernel.specs.Answers.{here, scope, Answers, Tells}
use Rattle.fr_kernel.proofs.Runs.{let_tells, call_tells, turn_tells, enters, told, onward, onward_stop, puts, puts_none, prim_tells, next_part, within_entered, within_held}
use Rattle.fr_kernel.proofs.Purity.{pure_if, pure_let, pure_loop, pure_operator, pure_call, no_handler, no_feedback, pure_at}
use Rattle.fr_kernel.proofs.walking.+walk.Goals as goal

pub walk-returns-then-left-eq0 : goal.walk-returns-then-left-eq0
walk-returns-then-left-eq0 t c = λ k. rw (at_zero _ _ _ _ _ c.if-left-eq0.true, c.stopped.ensures.0, c.stopped.ensures.1) refl

pub walk-returns-in-Lit : goal.walk-returns-in-Lit
walk-returns-in-Lit t c = λ k. rw (at_level c.args.left _ _ _ _ _ c.if-left-eq0.false (ap out-Core c.in-Lit.is ∙ outs-Lit _)) c.literal.ensures

pub walk-returns-in-Var : goal.walk-returns-in-Var
walk-returns-in-Var t c = λ k. rw (at_level c.args.left _ _ _ _ _ c.if-left-eq0.false (ap out-Core c.in-Var.is ∙ outs-Var _)) c.slot.ensures

pub walk-returns-in-Source : goal.walk-returns-in-Source
walk-returns-in-Source t c = λ k. rw (at_level c.args.left _ _ _ _ _ c.if-left-eq0.false (ap out-Core c.in-Source.is ∙ outs-Source _), c.stopped-in-Source.ensures.0, c.stopped-in-Source.ensures.1) refl

pub walk-returns-in-If : goal.walk-returns-in-If
walk-returns-in-If t c =
    let h = rw (c.get.ensures, c.get-in-If.ensures, c.get-in-If-2.ensures) at c.walk_if.ensures in
    λ k. rw (at_level c.args.left _ _ _ _ _ c.if-left-eq0.false (ap out-Core c.in-If.is ∙ outs-If _ _ _)) (h k)

pub walk-returns-in-Operator : goal.walk-returns-in-Operator
walk-returns-in-Operator t c =
    let h = rw c.as_slice.ensures at c.walk_operator.ensures in
    λ k. rw (at_level c.args.left _ _ _ _ _ c.if-left-eq0.false (ap out-Core c.in-Operator.is ∙ outs-Operator _ _)) (h k)

pub walk_operator-returns : goal.walk_operator-returns
walk_operator-returns t c = λ k. rw c.in-Some.ensures (c.walk_prim.ensures k)

pub walk-returns-in-Let : goal.walk-returns-in-Let
walk-returns-in-Let t c =
    let h = rw (c.as_slice-in-Let.ensures, c.get-in-Let.ensures) at c.walk_let.ensures in
    λ k. rw (at_level c.args.left _ _ _ _ _ c.if-left-eq0.false (ap out-Core c.in-Let.is ∙ outs-Let _ _)) (h k)

pub walk-returns-in-Apply : goal.walk-returns-in-Apply
walk-returns-in-Apply t c =
    let h = rw c.as_slice-in-Apply.ensures at c.walk_call.ensures in
    λ k. rw (at_level c.args.left _ _ _ _ _ c.if-left-eq0.false (ap out-Core c.in-Apply.is ∙ outs-Apply _ _)) (h k)

pub walk-returns-in-Loop : goal.walk-returns-in-Loop
walk-returns-in-Loop t c =
    let h = rw (c.as_slice-in-Loop.ensures, c.get-in-Loop.ensures) at c.walk_loop.ensures in
    λ k. rw (at_level c.args.left _ _ _ _ _ c.if-left-eq0.false (ap out-Core c.in-Loop.is ∙ outs-Loop _ _ _)) (h k)

pub walk_call-returns : goal.walk_call-returns
walk_call-returns t c =
    let e = rw c.len-held.ensures at c.if-not-bind_held.ensures in
    let last = rw c.len-inner.ensures at c.walk-kind.ensures in
    λ k. rw (c.cut_slots.ensures, c.len-inner.ensures, ← c.in-Some.ensures) (call_tells c.args.functions.now c.args.left k c.walk-kind.result c.args.m.now c.walk_parts.new.m c.spend.new.m c.bind_held.new.m c.walk-kind.new.m
    (parts (here c.args.functions.now c.args.left) (scope c.args.base c.args.m.now) k 0 c.args.args.now) (length c.args.args.now) c.in-Some.body.now
    (c.if-not-walk_parts.ensures k) c.if-not-spend.ensures e (last (child k (length c.args.args.now))))

pub walk_if-walk-requires : goal.walk_if-walk-requires
walk_if-walk-requires t c =
    let d = here c.args.functions.now c.args.left c.args.test.now (scope c.args.base c.args.m.now) kept.Nothing in
    let g = told c.walk-kind.result c.args.m.now c.walk-kind.new.m c.tested.new.m d.value d.cost d.first c.in-Some-true.field-0 c.in-Some-true.ensures (c.walk-kind.ensures kept.Nothing) in
    (search rules, (within_entered c.args.base c.args.m.now c.tested.new.m [] g.1.slots c.requires.slots, c.requires.first))

pub walk_if-walk-requires-in-Some-false : goal.walk_if-walk-requires-in-Some-false
walk_if-walk-requires-in-Some-false t c =
    let d = here c.args.functions.now c.args.left c.args.test.now (scope c.args.base c.args.m.now) kept.Nothing in
    let g = told c.walk-kind.result c.args.m.now c.walk-kind.new.m c.tested.new.m d.value d.cost d.first c.in-Some-false.field-0 c.in-Some-false.ensures (c.walk-kind.ensures kept.Nothing) in
    (search rules, (within_entered c.args.base c.args.m.now c.tested.new.m [] g.1.slots c.requires.slots, c.requires.second))

pub walk_let-walk-kind-requires : goal.walk_let-walk-kind-requires
walk_let-walk-kind-requires t c =
    let ps = parts (here c.args.functions.now c.args.left) (scope c.args.base c.args.m.now) kept.Nothing 0 c.args.exprs.now in
    let e = rw c.len-held.ensures at c.if-not-bind_held.ensures in
    let g = enters c.args.m.now c.walk_parts.new.m c.bind_held.new.m ps.values ps.cost ps.first (c.if-not-walk_parts.ensures kept.Nothing) e in
    (search rules, (within_entered c.args.base c.args.m.now c.bind_held.new.m ps.values g.slots c.requires.slots, c.requires.body))

pub walk_let-returns : goal.walk_let-returns
walk_let-returns t c =
    let e = rw c.len-held.ensures at c.if-not-bind_held.ensures in
    λ k. rw (c.cut_slots.ensures, c.len-outer.ensures) (let_tells c.args.functions.now c.args.left c.args.base k c.walk-kind.result c.args.m.now c.walk_parts.new.m c.bind_held.new.m c.walk-kind.new.m c.args.exprs.now c.args.body.now
    c.requires.slots (c.if-not-walk_parts.ensures k) e (c.walk-kind.ensures (child k (length c.args.exprs.now))))

pub walk_loop-walk_rounds-requires : goal.walk_loop-walk_rounds-requires
walk_loop-walk_rounds-requires t c =
    let h = c.if-not-walk_parts.ensures kept.Nothing in
    (search rules, (rw (ap (λ (m : Machine). m.slots) c.in-Ok.ensures.1, h.slots) c.requires.slots, c.requires.body))

pub walk_parts-returns-then-not-hold : goal.walk_parts-returns-then-not-hold
walk_parts-returns-then-not-hold t c =
    let ev = here c.args.functions.now c.args.left in
    let env = scope c.args.base c.args.m.now in
    let i = c.loop-i.i in
    let e = c.index-exprs-i.result in
    let within : i < length c.args.exprs.now = grind arith in
    let front = next_part c.args.exprs.now i e within c.index-exprs-i.is in
    let w = λ (k : Kept). subst (λ s. Tells c.walk-kind.result c.loop-i.m c.walk-kind.new.m (ev e (drop c.args.base s) k)) c.loop-i.invariant.same_slots (c.walk-kind.ensures k) in
    λ k. let d = ev e env (child k i) in
    onward_stop c.args.m.now c.loop-i.m c.hold.new.m d i (parts ev env k (i + 1) (drop (i + 1) c.args.exprs.now)) (parts ev env k 0 c.args.exprs.now)
    (rw front at c.loop-i.invariant.so_far k)
    (puts_none c.walk-kind.result c.loop-i.m c.walk-kind.new.m c.hold.new.m d.value d.cost d.first c.if-not-hold.ensures (w (child k i)))

pub walk_parts-loop-i-preserved : goal.walk_parts-loop-i-preserved
walk_parts-loop-i-preserved t c =
    let ev = here c.args.functions.now c.args.left in
    let env = scope c.args.base c.args.m.now in
    let i = c.loop-i.i in
    let e = c.index-exprs-i.result in
    let within : i < length c.args.exprs.now = grind arith in
    let front = next_part c.args.exprs.now i e within c.index-exprs-i.is in
    let w = λ (k : Kept). subst (λ s. Tells c.walk-kind.result c.loop-i.m c.walk-kind.new.m (ev e (drop c.args.base s) k)) c.loop-i.invariant.same_slots (c.walk-kind.ensures k) in
    let held = λ (k : Kept). puts c.walk-kind.result c.loop-i.m c.walk-kind.new.m c.hold.new.m (ev e env k).value (ev e env k).cost (ev e env k).first c.if-not-hold.ensures (w k) in
    record {
      same_slots = (held kept.Nothing).slots ∙ c.loop-i.invariant.same_slots;
      so_far = λ k. onward c.args.m.now c.loop-i.m c.hold.new.m (ev e env (child k i)) i (parts ev env k (i + 1) (drop (i + 1) c.args.exprs.now)) (parts ev env k 0 c.args.exprs.now)
          (rw front at c.loop-i.invariant.so_far k) (held (child k i));
    }

pub walk_many-apply_held-requires : goal.walk_many-apply_held-requires
walk_many-apply_held-requires t c =
    let vs = (parts (here c.args.functions.now c.args.left) (scope c.args.base c.args.m.now) kept.Nothing 0 c.args.exprs.now).values in
    rw c.len-held.ensures (within_held c.args.m.now c.walk_parts.new.m vs (c.if-not-walk_parts.ensures kept.Nothing).held)

pub walk_turn-returns : goal.walk_turn-returns
walk_turn-returns t c = rw (c.cut_slots.ensures, c.len-outer.ensures) (turn_tells c.args.functions.now c.args.left c.args.base c.walk-kind.result c.args.m.now c.spend.new.m c.bind_turn.new.m c.walk-kind.new.m c.args.body.now
    (c.args.acc ∷ bound c.args.item) c.requires.slots c.if-not-spend.ensures c.if-not-bind_turn.ensures c.walk-kind.ensures)

pub walk_prim-returns-in-Some : goal.walk_prim-returns-in-Some
walk_prim-returns-in-Some t c = λ k. rw c.in-Some.ensures (c.walk_two.ensures k)

pub walk_two-walk_second-requires : goal.walk_two-walk_second-requires
walk_two-walk_second-requires t c =
    let h = rw c.in-Int.is at c.operand-first.ensures in
    (search rules, (rw (h kept.Nothing).slots c.requires.slots, c.requires.second))

pub walk_two-returns-in-Int : goal.walk_two-returns-in-Int
walk_two-returns-in-Int t c =
    let ev = here c.args.functions.now c.args.left in
    let env = scope c.args.base c.args.m.now in
    let m1 = c.operand-first.new.m in
    let h = rw c.in-Int.is at c.operand-first.ensures in
    let fits : SFits w64 m1.int = search rules in
    let second = λ (k : Kept). rw (to_z-of_z w64 m1.int fits) at c.walk_second.ensures k in
    let w = λ (k : Kept). subst (λ s. let d = ev c.args.b.now (drop c.args.base s) k in
    let v = applied c.args.prim (plain (value.Int m1.int) ∷ d.value ∷ []) in
    Answers c.walk_second.result m1 c.walk_second.new.m v d.cost (option_or d.first (own v))) (h kept.Nothing).slots (second k) in
    λ k. int_then c.walk_second.result c.args.m.now m1 c.walk_second.new.m c.args.prim (ev c.args.a.now env (child k 0)) (ev c.args.b.now env (child k 1)) (h (child k 0)) (w (child k 1))

pub walk_two-operand-second-requires : goal.walk_two-operand-second-requires
walk_two-operand-second-requires t c =
    let d = here c.args.functions.now c.args.left c.args.a.now (scope c.args.base c.args.m.now) kept.Nothing in
    let h = puts c.operand-first.result c.args.m.now c.operand-first.new.m c.hold.new.m d.value d.cost d.first c.if-not-hold.ensures (c.operand-first.ensures kept.Nothing) in
    (search rules, (rw h.slots c.requires.slots, c.requires.second))

pub walk_two-returns-then-not-hold : goal.walk_two-returns-then-not-hold
walk_two-returns-then-not-hold t c =
    let ev = here c.args.functions.now c.args.left in
    let env = scope c.args.base c.args.m.now in
    λ k. let a = ev c.args.a.now env (child k 0) in
    let b = ev c.args.b.now env (child k 1) in
    first_stop c.hold.new.m.stop c.args.m.now.fuel a b (gives (applied c.args.prim (a.value ∷ b.value ∷ [])) None)
    (puts_none c.operand-first.result c.args.m.now c.operand-first.new.m c.hold.new.m a.value a.cost a.first c.if-not-hold.ensures (c.operand-first.ensures (child k 0)))

pub walk_two-returns-then-not-hold-2 : goal.walk_two-returns-then-not-hold-2
walk_two-returns-then-not-hold-2 t c =
    let ev = here c.args.functions.now c.args.left in
    let env = scope c.args.base c.args.m.now in
    let held = λ (k : Kept). puts c.operand-first.result c.args.m.now c.operand-first.new.m c.hold.new.m (ev c.args.a.now env k).value (ev c.args.a.now env k).cost (ev c.args.a.now env k).first c.if-not-hold.ensures (c.operand-first.ensures k) in
    let w = λ (k : Kept). subst (λ s. Tells c.operand-second.result c.hold.new.m c.operand-second.new.m (ev c.args.b.now (drop c.args.base s) k)) (held kept.Nothing).slots (c.operand-second.ensures k) in
    λ k. let a = ev c.args.a.now env (child k 0) in
    let b = ev c.args.b.now env (child k 1) in
    second_stop c.hold-2.new.m.stop c.args.m.now c.hold.new.m a b (gives (applied c.args.prim (a.value ∷ b.value ∷ [])) None) (held (child k 0))
    (puts_none c.operand-second.result c.hold.new.m c.operand-second.new.m c.hold-2.new.m b.value b.cost b.first c.if-not-hold-2.ensures (w (child k 1)))

pub walk_two-apply_held-requires : goal.walk_two-apply_held-requires
walk_two-apply_held-requires t c =
    let ev = here c.args.functions.now c.args.left in
    let env = scope c.args.base c.args.m.now in
    let a = ev c.args.a.now env kept.Nothing in
    let b = ev c.args.b.now env kept.Nothing in
    let held = puts c.operand-first.result c.args.m.now c.operand-first.new.m c.hold.new.m a.value a.cost a.first c.if-not-hold.ensures (c.operand-first.ensures kept.Nothing) in
    let w = subst (λ s. Tells c.operand-second.result c.hold.new.m c.operand-second.new.m (ev c.args.b.now (drop c.args.base s) kept.Nothing)) held.slots (c.operand-second.ensures kept.Nothing) in
    let both = holds_two c.args.m.now c.hold.new.m c.hold-2.new.m a b held (puts c.operand-second.result c.hold.new.m c.operand-second.new.m c.hold-2.new.m b.value b.cost b.first c.if-not-hold-2.ensures w) in
    rw c.len-held.ensures (within_held c.args.m.now c.hold-2.new.m (a.value ∷ b.value ∷ []) both.held)

pub walk_two-returns : goal.walk_two-returns
walk_two-returns t c =
    let ev = here c.args.functions.now c.args.left in
    let env = scope c.args.base c.args.m.now in
    let held = λ (k : Kept). puts c.operand-first.result c.args.m.now c.operand-first.new.m c.hold.new.m (ev c.args.a.now env k).value (ev c.args.a.now env k).cost (ev c.args.a.now env k).first c.if-not-hold.ensures (c.operand-first.ensures k) in
    let w = λ (k : Kept). subst (λ s. Tells c.operand-second.result c.hold.new.m c.operand-second.new.m (ev c.args.b.now (drop c.args.base s) k)) (held kept.Nothing).slots (c.operand-second.ensures k) in
    let last = rw c.len-held.ensures at c.apply_held.ensures in
    λ k. let a = ev c.args.a.now env (child k 0) in
    let b = ev c.args.b.now env (child k 1) in
    let both = holds_two c.args.m.now c.hold.new.m c.hold-2.new.m a b (held (child k 0)) (puts c.operand-second.result c.hold.new.m c.operand-second.new.m c.hold-2.new.m b.value b.cost b.first c.if-not-hold-2.ensures (w (child k 1))) in
    prim_tells c.apply_held.result c.args.m.now c.hold-2.new.m c.apply_held.new.m c.args.prim (two_parts a b) both last

pub walk_second-returns-in-Int : goal.walk_second-returns-in-Int
walk_second-returns-in-Int t c =
    let m1 = c.operand-second.new.m in
    let h = rw c.in-Int.is at c.operand-second.ensures in
    let fits : SFits w64 m1.int = search rules in
    let g = rw (to_z-of_z w64 c.args.x c.ranges.x, to_z-of_z w64 m1.int fits) at c.on_ints.ensures in
    λ k. ints_then c.on_ints.result c.args.m.now m1 c.on_ints.new.m c.args.prim c.args.x (here c.args.functions.now c.args.left c.args.b.now (scope c.args.base c.args.m.now) k) (h k) g

pub walk_second-returns-in_default : goal.walk_second-returns-in_default
walk_second-returns-in_default t c = λ k. rw (to_z-of_z w64 c.args.x c.ranges.x) at
    c.apply_second.ensures c.args.m.now (here c.args.functions.now c.args.left c.args.b.now (scope c.args.base c.args.m.now) k) (c.operand-second.ensures k)

pub operand-returns-in-Some : goal.operand-returns-in-Some
operand-returns-in-Some t c =
    let leaf = rw c.as_slice.ensures at c.in-Some.ensures in
    let fits : SFits w64 c.in-Some.n = search rules in
    let put = rw (to_z-of_z w64 c.in-Some.n fits) at c.int.ensures.1 in
    λ k. rw (leaf c.args.functions.now k, c.int.ensures.0, put) (record { value = refl; good = refl; clean = refl; paid = omega arith; slots = refl; held = refl })

pub walk-walk_if-requires : goal.walk-walk_if-requires
walk-walk_if-requires t c =
    let ps = pure_if c.args.functions.now c.args.expr.now _ _ _ (ap out-Core c.in-If.is ∙ outs-If _ _ _) c.requires.pure in
    (search rules, (c.requires.slots, rw (c.get.ensures, c.get-in-If.ensures, c.get-in-If-2.ensures) (ps.0, (ps.1, ps.2))))

pub walk-walk_operator-requires : goal.walk-walk_operator-requires
walk-walk_operator-requires t c =
    let ps = pure_operator c.args.functions.now c.args.expr.now _ _ (ap out-Core c.in-Operator.is ∙ outs-Operator _ _) c.requires.pure in
    (search rules, (c.requires.slots, rw c.as_slice.ensures ps))

pub walk-walk_let-requires : goal.walk-walk_let-requires
walk-walk_let-requires t c =
    let ps = pure_let c.args.functions.now c.args.expr.now _ _ (ap out-Core c.in-Let.is ∙ outs-Let _ _) c.requires.pure in
    (search rules, (c.requires.slots, rw (c.as_slice-in-Let.ensures, c.get-in-Let.ensures) ps))

pub walk-walk_call-requires : goal.walk-walk_call-requires
walk-walk_call-requires t c =
    let ps = pure_call c.args.functions.now c.args.expr.now _ _ (ap out-Core c.in-Apply.is ∙ outs-Apply _ _) c.requires.pure in
    (search rules, (c.requires.slots, rw c.as_slice-in-Apply.ensures ps))

pub walk-walk_loop-requires : goal.walk-walk_loop-requires
walk-walk_loop-requires t c =
    let ps = pure_loop c.args.functions.now c.args.expr.now _ _ _ (ap out-Core c.in-Loop.is ∙ outs-Loop _ _ _) c.requires.pure in
    (search rules, (c.requires.slots, rw (c.as_slice-in-Loop.ensures, c.get-in-Loop.ensures) ps))

pub walk-unreachable-requires : goal.walk-unreachable-requires
walk-unreachable-requires t c = no_handler c.args.functions.now c.args.expr.now _ _ _ (ap out-Core c.in-Handler.is ∙ outs-Handler _ _ _) c.requires.pure

pub walk-unreachable-requires-in-Feedback : goal.walk-unreachable-requires-in-Feedback
walk-unreachable-requires-in-Feedback t c = no_feedback c.args.functions.now c.args.expr.now _ _ (ap out-Core c.in-Feedback.is ∙ outs-Feedback _ _) c.requires.pure

pub walk_parts-walk-kind-requires : goal.walk_parts-walk-kind-requires
walk_parts-walk-kind-requires t c =
    let within : c.loop-i.i < length c.args.exprs.now = grind arith in
    let pure = pure_at c.args.functions.now c.args.exprs.now c.loop-i.i c.index-exprs-i.result within c.index-exprs-i.is c.requires.pure in
    (search rules, (rw c.loop-i.invariant.same_slots c.requires.slots, pure))
