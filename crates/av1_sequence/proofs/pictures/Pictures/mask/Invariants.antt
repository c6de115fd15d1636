use Rattle.std.proofs.Common.{◌≡◌}
use Rattle.av1_sequence.specs.Kept.{slots_shown}
use Rattle.av1_sequence.specs.Slots.{bits_of, is_read}
use Rattle.av1_sequence.proofs.pictures.Pictures.mask.Given as goal

abbrev pub invariant-loop-slot : goal.invariant-loop-slot
invariant-loop-slot g l = l.mask ≡ bits_of (is_read l.head.slots (slots_shown g.T.Pixel.num l.self.header l.self.fi l.self.places)) l.slot
