use Rattle.std.proofs.Common.{◌≡◌, pos, ◌+ℤ◌}
use Rattle.av1_frame.specs.Arithmetic.{clip}
use Rattle.av1_frame.specs.Samples.{corner, paint}
use Rattle.av1_intra.specs.ChromaFromLuma.{scaled_luma, ac_at}
use Rattle.av1_intra.proofs.chroma_from_luma.block_from_luma.Given as goal

abbrev pub invariant-loop-r : goal.invariant-loop-r
invariant-loop-r g l =
    l.samples ≡ paint l.stride (corner l.area l.area.width l.r)
    (λ r c _. g.T.Pixel.pixel
    (clip l.weight.bit_depth (pos (g.T.Pixel.num l.weight.dc) +ℤ scaled_luma l.weight.alpha (ac_at l.area.width l.ac r c)))) l.initial.samples
