use Rattle.std.proofs.Common.{◌≡◌, ℕ, ◌+◌, ◌<◌, get_or, length}
use Rattle.av1_view.specs.Packed.{change, sign_last}
use Rattle.av1_view.proofs.packed.any_group.Given as goal

abbrev pub invariant-loop-i : goal.invariant-loop-i
invariant-loop-i l = record {
  long : length l.group ≡ 8;
  so_far : (k : ℕ) → k < l.i → get_or l.group k 0 ≡ sign_last (change l.row l.planes l.predictions (l.at + k));
}
