use Rattle.std.proofs.Common.{◌≡◌, ℕ, ◌<◌, get_or, length}
use Rattle.av1_view.specs.Packed.{less, residue, sign_last}
use Rattle.av1_view.proofs.packed.later_group.Given as goal

abbrev pub invariant-loop-i : goal.invariant-loop-i
invariant-loop-i l = record {
  long : length l.group ≡ 8;
  so_far : (k : ℕ) → k < l.i → get_or l.group k 0 ≡ sign_last (less (residue l.planes l.predictions k) (residue l.planes_before l.predictions_before k));
}
