use Rattle.std.proofs.Common.{length}
use Rattle.fr_core.specs.declared.lowered.Slot.TheVariants.{Var}
use Rattle.fr_build.proofs.Slots.{slot_in}
use Rattle.fr_build.proofs.works.with_slots.Goals as goal

pub slot_part-requires : goal.slot_part-requires
slot_part-requires c =
    slot_in (length c.args.env.now) c.args.plan.now.sources c.args.slots.now c.loop-slot.slot-index (Var (record { 0 = 0 })) c.requires c.loop-slot-test.true
