use Rattle.std.proofs.Common.{ℕ, ◌<◌, slice_index}
use Rattle.av1_calls.proofs.samples.have_8_bits.Given as goal

abbrev pub invariant-loop-i : goal.invariant-loop-i
invariant-loop-i l = (k : ℕ) → k < l.i → slice_index l.samples k < 256
