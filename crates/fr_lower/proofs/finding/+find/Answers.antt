use Rattle.std.proofs.Common.{◌≡◌, ◌+◌, ◌&&◌, is_none, drop, sym, ◌∙◌, arith}
use Rattle.fr_core.proofs.PartLists.{within_parts, drop_part, drop_none}
use Rattle.fr_lower.specs.Making.{given, outside, part_seen}
use Rattle.fr_lower.proofs.Added.{joined_then, joined_else, none_told}
use Rattle.fr_lower.proofs.Joining.{fit_outside, outside_nests_less, compound_apart, body_ready}
use Rattle.fr_lower.proofs.Rows.{closed_length}
use Rattle.fr_lower.proofs.Steps.{gathers_first, gathers_next, gathered, found_none, found_some, gathered_ready}
use Rattle.fr_lower.proofs.finding.+find.Goals as goal
use Rattle.fr_lower.proofs.finding.+find.Goals.{then-joins, else-joins}

pub loop-part-init : goal.loop-part-init
loop-part-init t c =
    rw c.new-found.ensures.items (gathers_first c.args.program.now (given c.args.classes) c.args.variables c.args.made.now c.args.e.now c.joins_itself-joins.result c.requires.classes c.requires.fit c.joins_itself-joins.ensures)

pub find-requires : goal.find-requires
find-requires t c =
    let at = sym c.in-Some.ensures.value in (
      omega (arith, outside_nests_less c.args.e.now c.loop-part.number (part_seen c.in-Some.part) at),
      (c.requires.classes, (c.loop-part.invariant.grows.functions ∙ c.requires.table, fit_outside c.args.program.now c.args.e.now c.requires.fit c.loop-part.number (part_seen c.in-Some.part) at)),
    )

pub loop-part-smaller : goal.loop-part-smaller
loop-part-smaller t c = omega (arith, within_parts (outside c.args.e.now) c.loop-part.number (part_seen c.in-Some.part) c.in-Some.ensures.value)

pub loop-part-preserved : goal.loop-part-preserved
loop-part-preserved t c =
    let joined : c.if-joins.joins ≡ c.loop-part.joins && is_none c.in_ok-lowered.lowered
    = elim c.if-joins.branch [
      | then-joins w ↦ joined_then c.loop-part.joins (is_none c.in_ok-lowered.lowered) c.if-joins.joins w.if-joins.true (w.joins-is ∙ none_told c.in_ok-lowered.lowered w.is_none-joins.result w.is_none-joins.ensures)
      | else-joins w ↦ joined_else c.loop-part.joins (is_none c.in_ok-lowered.lowered) c.if-joins.joins w.if-joins.false (w.joins-is ∙ w.if-joins.false)
    ] in
    rw c.in_ok-push_back.ensures.items
    (gathers_next c.args.program.now (given c.args.classes) c.args.variables c.in_ok-inside.inside c.args.made.now c.loop-part.made c.find.new.made c.args.e.now c.loop-part.found.items c.loop-part.joins (part_seen c.in-Some.part)
    (drop (c.loop-part.number + 1) (outside c.args.e.now)) c.in_ok-lowered.lowered c.if-joins.joins c.in_ok-inside.ensures c.in_ok-lowered.ensures joined
    (rw (drop_part (outside c.args.e.now) c.loop-part.number (part_seen c.in-Some.part) c.in-Some.ensures.value) at c.loop-part.invariant))

pub returns-then-joins-2 : goal.returns-then-joins-2
returns-then-joins-2 t c =
    let g = gathered c.args.program.now (given c.args.classes) c.args.variables c.args.made.now c.loop-part.made c.args.e.now c.loop-part.found.items c.loop-part.joins (drop c.loop-part.number (outside c.args.e.now))
    (drop_none (outside c.args.e.now) c.loop-part.number c.in_default.ensures.value) c.loop-part.invariant in
    found_none c.args.program.now (given c.args.classes) c.args.variables c.args.made.now c.loop-part.made c.args.e.now c.loop-part.found.items c.loop-part.joins c.if-joins-2.true g

pub close_parts-requires : goal.close_parts-requires
close_parts-requires t c =
    let g = gathered c.args.program.now (given c.args.classes) c.args.variables c.args.made.now c.loop-part.made c.args.e.now c.loop-part.found.items c.loop-part.joins (drop c.loop-part.number (outside c.args.e.now))
    (drop_none (outside c.args.e.now) c.loop-part.number c.in_default.ensures.value) c.loop-part.invariant in
    gathered_ready c.args.program.now (given c.args.classes) c.args.variables c.args.made.now c.loop-part.made c.args.e.now c.loop-part.found.items c.loop-part.joins c.requires.classes c.requires.table g

pub build-requires-clause-compound : goal.build-requires-clause-compound
build-requires-clause-compound t c =
    let g = gathered c.args.program.now (given c.args.classes) c.args.variables c.args.made.now c.loop-part.made c.args.e.now c.loop-part.found.items c.loop-part.joins (drop c.loop-part.number (outside c.args.e.now))
    (drop_none (outside c.args.e.now) c.loop-part.number c.in_default.ensures.value) c.loop-part.invariant in
    compound_apart c.args.program.now (given c.args.classes) c.args.e.now (sym g.told ∙ c.if-joins-2.false)

pub build-requires-clause-parts : goal.build-requires-clause-parts
build-requires-clause-parts t c =
    closed_length c.close_parts.new.made.table.kernels c.args.variables (outside c.args.e.now) c.loop-part.found.items c.in_ok-parts.parts (c.in_ok-parts.ensures.later c.close_parts.new.made.table.kernels (λ id k h. h))

pub build-requires-clause-body : goal.build-requires-clause-body
build-requires-clause-body t c =
    body_ready c.args.program.now c.close_parts.new.made.table.functions c.args.e.now (c.in_ok-parts.ensures.grows.functions ∙ (c.loop-part.invariant.grows.functions ∙ c.requires.table)) c.requires.fit

pub returns : goal.returns
returns t c =
    let g = gathered c.args.program.now (given c.args.classes) c.args.variables c.args.made.now c.loop-part.made c.args.e.now c.loop-part.found.items c.loop-part.joins (drop c.loop-part.number (outside c.args.e.now))
    (drop_none (outside c.args.e.now) c.loop-part.number c.in_default.ensures.value) c.loop-part.invariant in
    found_some c.args.program.now (given c.args.classes) c.args.variables c.args.made.now c.loop-part.made c.close_parts.new.made c.build.new.made c.args.e.now c.loop-part.found.items c.loop-part.joins c.in_ok-parts.parts
    c.in_ok-build.field-0 c.if-joins-2.false g c.in_ok-parts.ensures c.in_ok-build.ensures
