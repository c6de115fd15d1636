use Rattle.std.proofs.Common.{◌≡◌, ◌*◌, ◌≤◌, sum, map, take, unsigned_abs}
use Rattle.av1_intra.proofs.luma.total.Given as goal

abbrev pub invariant-loop-v : goal.invariant-loop-v
invariant-loop-v l =
    record { value : l.total ≡ sum (map unsigned_abs (take l.v-index l.ac)); small : l.total ≤ l.v-index * 32768 }
