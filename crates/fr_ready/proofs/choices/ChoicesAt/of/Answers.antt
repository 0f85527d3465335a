use Rattle.fr_ready.specs.Seen.{entries_seen}
use Rattle.fr_ready.proofs.Gathering.{gather_begins, gather_falls, gather_goes}
use Rattle.fr_ready.proofs.choices.ChoicesAt.of.Goals as goal

pub loop-e-init : goal.loop-e-init
loop-e-init c =
    gather_begins c.args.lowered.now c.new-found.result.items c.new-waiting.result.items c.wait_for_functions.new.waiting.items c.wait_for_items.new.waiting.items c.as_slice.result.now c.as_slice-2.result.now c.new-found.ensures.items
    c.new-waiting.ensures.items c.as_slice.ensures c.as_slice-2.ensures c.in_ok-wait_for_functions.ensures c.in_ok-wait_for_items.ensures

pub loop-e-smaller : goal.loop-e-smaller
loop-e-smaller c = gather_falls c.loop-e.waiting.items c.pop.new.self.items c.wait_for_parts.new.waiting.items c.in-Some.e c.in-Some.ensures.items c.in_ok-wait_for_parts.ensures

pub loop-e-preserved : goal.loop-e-preserved
loop-e-preserved c =
    gather_goes c.args.lowered.now c.requires (entries_seen c.loop-e.found.items) (entries_seen c.note.new.found.items) c.loop-e.waiting.items c.pop.new.self.items c.wait_for_parts.new.waiting.items c.in-Some.e c.in-Some.ensures.items
    c.in_ok-note.ensures c.in_ok-wait_for_parts.ensures c.loop-e.invariant
