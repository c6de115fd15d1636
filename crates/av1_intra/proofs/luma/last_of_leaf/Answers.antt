use Rattle.std.proofs.Common.{arith}
use Rattle.av1_intra.proofs.LumaBlocks.{small_shift}
use Rattle.av1_intra.proofs.luma.last_of_leaf.Goals as goal

pub overflow_sub-result : goal.overflow_sub-result
overflow_sub-result c = let h = small_shift c.args.decimation c.requires.decimation in omega (arith, c.max.ensures)
