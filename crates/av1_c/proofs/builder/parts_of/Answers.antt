use Rattle.std.proofs.Common.{arith}
use Rattle.av1_c.specs.Builders.{part_of}
use Rattle.av1_c.proofs.Arrays.{all_read}
use Rattle.av1_c.proofs.builder.parts_of.Goals as goal

pub returns : goal.returns
returns c = let l = c.loop-i in all_read part_of l.i c.args.numbers.now l.parts l.invariant.so_far (omega arith) (omega arith)
