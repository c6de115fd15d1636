use Rattle.av1_plan.specs.Plan.{slot_values}
use Rattle.av1_tile.specs.Motion.{frame_with}
use Rattle.av1_tile.proofs.FilledSlots.{HoldsFirst}
use Rattle.av1_tile.proofs.slots.stored_references.Given as goal

abbrev pub invariant-loop-slot : goal.invariant-loop-slot
invariant-loop-slot g l = HoldsFirst g.T.Pixel.num (frame_with l.header (slot_values l.references)) l.slot l.fi
