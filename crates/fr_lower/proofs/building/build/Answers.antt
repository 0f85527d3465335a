use Rattle.std.proofs.Common.{length, ap, ◌∙◌}
use Rattle.fr_lower.proofs.Parts.{outside_if, outside_feedback}
use Rattle.fr_lower.proofs.Shapes.{built_let, built_if, built_apply, built_operator, built_handler, built_loop, built_feedback, three_parts, two_parts}
use Rattle.fr_lower.proofs.building.build.Goals as goal

pub returns-in_ok-body-in-Let : goal.returns-in_ok-body-in-Let
returns-in_ok-body-in-Let c = λ p o apart. built_let p o c.args.variables c.args.made.now c.args.e.now c.in-Let.field-0 c.in-Let.field-1 c.args.parts c.last.new.parts c.in_ok-body-in-Let.body c.in-Let.is c.in_ok-body-in-Let.ensures apart

pub returns-in_ok-next_site-in-If : goal.returns-in_ok-next_site-in-If
returns-in_ok-next_site-in-If c = λ p o apart.
    let three = three_parts c.args.parts c.last-in-If.new.parts c.last-in-If-2.new.parts c.last-in-If-3.new.parts c.in_ok-test-in-If.test c.in_ok-then-in-If.then c.in_ok-other-in-If.other
    (c.requires.parts ∙ ap length (outside_if c.args.e.now c.in-If.field-0 c.in-If.field-1 c.in-If.field-2 c.in-If.is)) c.in_ok-other-in-If.ensures c.in_ok-then-in-If.ensures c.in_ok-test-in-If.ensures in
    built_if p o c.args.variables c.args.made.now c.next_site.new.made c.args.e.now c.in-If.field-0 c.in-If.field-1 c.in-If.field-2 c.args.parts c.in_ok-next_site-in-If.field-0 c.in_ok-test-in-If.test c.in_ok-then-in-If.then c.in_ok-other-in-If.other
    c.in-If.is three c.in_ok-next_site-in-If.ensures.number c.in_ok-next_site-in-If.ensures.counted apart

pub returns-in-Apply : goal.returns-in-Apply
returns-in-Apply c = λ p o apart. built_apply p o c.args.variables c.args.made.now c.args.e.now c.in-Apply.function c.in-Apply.field-1 c.args.parts c.in-Apply.is apart

pub returns-in-Operator : goal.returns-in-Operator
returns-in-Operator c = λ p o apart. built_operator p o c.args.variables c.args.made.now c.args.e.now c.in-Operator.operator c.in-Operator.field-1 c.args.parts c.in-Operator.is apart

pub returns-in_ok-kernel-in-Handler : goal.returns-in_ok-kernel-in-Handler
returns-in_ok-kernel-in-Handler c = λ p o apart.
    built_handler p o c.args.variables c.args.made.now c.add_kernel.new.made c.args.e.now c.in-Handler.handler c.in-Handler.field-1 c.in-Handler.body c.bound_by_handler-binds.result c.args.parts c.in_ok-kernel-in-Handler.kernel
    c.in_ok-kernel-in-Handler.slots c.in-Handler.is c.bound_by_handler-binds.ensures c.in_ok-kernel-in-Handler.ensures.grows (rw c.get.ensures at c.in_ok-kernel-in-Handler.ensures.kernel) apart

pub returns-in_ok-kernel-in-Loop : goal.returns-in_ok-kernel-in-Loop
returns-in_ok-kernel-in-Loop c = λ p o apart.
    built_loop p o c.args.variables c.args.made.now c.add_kernel-in-Loop.new.made c.args.e.now c.in-Loop.looped c.in-Loop.field-1 c.in-Loop.body c.bound_by_loop-binds.result c.args.parts c.in_ok-kernel-in-Loop.kernel c.in_ok-kernel-in-Loop.slots
    c.in-Loop.is c.bound_by_loop-binds.ensures c.in_ok-kernel-in-Loop.ensures.grows (rw c.get-in-Loop.ensures at c.in_ok-kernel-in-Loop.ensures.kernel) apart

pub returns-in_ok-first-in-Feedback : goal.returns-in_ok-first-in-Feedback
returns-in_ok-first-in-Feedback c = λ p o apart.
    let two = two_parts c.args.parts c.last-in-Feedback.new.parts c.last-in-Feedback-2.new.parts c.in_ok-first-in-Feedback.first c.in_ok-body-in-Feedback.body
    (c.requires.parts ∙ ap length (outside_feedback c.args.e.now c.in-Feedback.field-0 c.in-Feedback.field-1 c.in-Feedback.is)) c.in_ok-body-in-Feedback.ensures c.in_ok-first-in-Feedback.ensures in
    built_feedback p o c.args.variables c.args.made.now c.args.e.now c.in-Feedback.field-0 c.in-Feedback.field-1 c.args.parts c.in_ok-first-in-Feedback.first c.in_ok-body-in-Feedback.body c.in-Feedback.is two apart
