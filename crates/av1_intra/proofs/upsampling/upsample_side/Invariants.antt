use Rattle.av1_intra.specs.Sides.{entries}
use Rattle.av1_intra.proofs.Doubled.{IsUpsampledPast}
use Rattle.av1_intra.proofs.upsampling.upsample_side.Given as goal

abbrev pub invariant-loop-g : goal.invariant-loop-g
invariant-loop-g l = IsUpsampledPast l.bit_depth l.size l.g (entries l.fn.numbers) l.initial.numbers l.numbers
