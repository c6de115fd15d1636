use Rattle.std.proofs.Common.{◌≡◌, fold, max, take}
use Rattle.av1_view.proofs.packed.bits_of.Given as goal

abbrev pub invariant-loop-n : goal.invariant-loop-n
invariant-loop-n l = l.greatest ≡ fold max 0 (take l.n-index l.group)
