use Rattle.std.proofs.Common.{◌≡◌, pos}
use Rattle.av1_edges.specs.Edges.{region_sample}
use Rattle.av1_intra.specs.ChromaFromLuma.{luma_at, with_rows}
use Rattle.av1_intra.proofs.luma.luma_rows.Given as goal

abbrev pub invariant-loop-r : goal.invariant-loop-r
invariant-loop-r g l =
    l.ac ≡ with_rows l.block.width l.r (λ r c. pos (luma_at (region_sample g.T.Pixel.num l.luma) l.block r c)) l.initial.ac
