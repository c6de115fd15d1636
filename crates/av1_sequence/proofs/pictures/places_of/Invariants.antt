use Rattle.std.proofs.Common.{ℕ, ◌<◌, ◌≡◌, Some, None, length, slice_index_or}
use Rattle.av1_sequence.proofs.pictures.places_of.Given as goal

abbrev pub invariant-loop-reference : goal.invariant-loop-reference
invariant-loop-reference l = record {
  count : length l.named ≡ 7;
  names : (i place : ℕ) → i < l.reference → slice_index_or l.places (slice_index_or l.slots i 0) None ≡ Some place → slice_index_or l.named i 0 ≡ place;
}
