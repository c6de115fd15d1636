use Rattle.std.proofs.Common.{ℕ, ◌<◌, ◌≡◌, false, Some, None, slice_index_or}
use Rattle.av1_sequence.specs.Slots.{has_bit}
use Rattle.av1_sequence.proofs.pictures.free_place.Given as goal

abbrev pub invariant-loop-place : goal.invariant-loop-place
invariant-loop-place l = (i : ℕ) → i < l.place → (s : ℕ) × ((s < 8) × (has_bit l.refresh s ≡ false) × (slice_index_or l.places s None ≡ Some i))
