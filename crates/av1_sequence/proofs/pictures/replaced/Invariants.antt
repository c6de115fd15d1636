use Rattle.std.proofs.Common.{ℕ, ◌<◌, ◌≤◌, ◌≡◌, true, false, Some, None, length, slice_index_or}
use Rattle.av1_sequence.specs.Slots.{has_bit}
use Rattle.av1_sequence.proofs.pictures.replaced.Given as goal

abbrev pub invariant-loop-slot : goal.invariant-loop-slot
invariant-loop-slot l = record {
  count : length l.replaced ≡ 8;
  new : (s : ℕ) → s < l.slot → has_bit l.refresh s ≡ true → slice_index_or l.replaced s None ≡ Some l.place;
  old : (s : ℕ) → s < 8 → has_bit l.refresh s ≡ false → slice_index_or l.replaced s None ≡ slice_index_or l.fn.places s None;
  rest : (s : ℕ) → l.slot ≤ s → slice_index_or l.replaced s None ≡ slice_index_or l.fn.places s None;
}
