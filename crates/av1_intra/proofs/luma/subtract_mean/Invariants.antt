use Rattle.std.proofs.Common.{◌≡◌, map, pos, ◌-ℤ◌, unsigned_abs}
use Rattle.av1_frame.specs.Samples.{paint_row}
use Rattle.av1_intra.specs.Dc.{mean}
use Rattle.av1_intra.proofs.luma.subtract_mean.Given as goal

abbrev pub invariant-loop-k : goal.invariant-loop-k
invariant-loop-k l = l.ac ≡ paint_row l.k (λ _ v. v -ℤ pos (mean (map unsigned_abs l.initial.ac))) l.initial.ac
