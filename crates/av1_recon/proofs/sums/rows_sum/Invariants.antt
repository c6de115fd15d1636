use Rattle.std.proofs.Common.{◌≡◌, ◌*◌, ◌^◌, ◌≤◌}
use Rattle.av1_recon.proofs.RowSums.{rows_total}
use Rattle.av1_recon.proofs.sums.rows_sum.Given as goal

abbrev pub invariant-loop-y : goal.invariant-loop-y
invariant-loop-y g l = record {
  value : l.total ≡ rows_total g.T.Pixel.num l.state l.p l.y;
  small : l.total ≤ l.y * 2 ^ 32;
}
