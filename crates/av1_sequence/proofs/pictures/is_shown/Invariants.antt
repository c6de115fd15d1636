use Rattle.std.proofs.Common.{ℕ, ◌<◌, ◌≡◌, ◌≢◌, false, Some, None, slice_index_or}
use Rattle.av1_sequence.specs.Slots.{has_bit}
use Rattle.av1_sequence.proofs.pictures.is_shown.Given as goal

abbrev pub invariant-loop-slot : goal.invariant-loop-slot
invariant-loop-slot l = (s : ℕ) → s < l.slot → has_bit l.refresh s ≡ false → slice_index_or l.places s None ≢ Some l.place
