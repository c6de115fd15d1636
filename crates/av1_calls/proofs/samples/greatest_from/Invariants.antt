use Rattle.std.proofs.Common.{ℕ, ◌+◌, ◌<◌, ◌≤◌, slice_index}
use Rattle.av1_calls.proofs.samples.greatest_from.Given as goal

abbrev pub invariant-loop-i : goal.invariant-loop-i
invariant-loop-i l = record {
  above : l.fn.least ≤ l.greatest;
  each : (k : ℕ) → k < l.i → slice_index l.samples (l.start + k) ≤ l.greatest;
  reached : (bound : ℕ) → l.fn.least ≤ bound → ((k : ℕ) → k < l.i → slice_index l.samples (l.start + k) ≤ bound) → l.greatest ≤ bound;
}
