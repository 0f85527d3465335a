-- Slots by their numbers.
use Rattle.std.proofs.Common.{ℕ, zero, suc, ◌<◌, List, [], ◌∷◌, length, slice_index_or, arith}
use Rattle.fr_core.specs.declared.lowered.Slot.{Slot}
use Rattle.fr_build.specs.Ready.{IsSlotIn, AreSlotsIn}

pub slot_in : (v s : ℕ) (xs : List Slot) (i : ℕ) (d : Slot) → AreSlotsIn v s xs → i < length xs → IsSlotIn v s (slice_index_or xs i d)
slot_in v s [] i d h lt = absurd (omega arith)
slot_in v s (x ∷ xs) zero d h lt = h.0
slot_in v s (x ∷ xs) (suc i) d h lt = slot_in v s xs i d h.1 (omega arith)
