use Rattle.av1_inter.proofs.Sums.{IsSum}
use Rattle.av1_inter.proofs.bytes.weigh_bytes.Given as goal

abbrev pub invariant-loop-t : goal.invariant-loop-t
invariant-loop-t g l = IsSum l.sum l.t l.halves l.values
