use Rattle.std.proofs.Common.{◌+◌}
use Rattle.av1_intra.specs.ChromaFromLuma.{chroma_block, first_luma_column, first_luma_row}
use Rattle.av1_intra.proofs.LumaFits.{difference_fits}
use Rattle.av1_intra.proofs.laws.luma_differences_fit.Goals as goal

pub returns : goal.returns
returns c = λ luma leaf r q h l m n low.
    difference_fits (λ x y. luma (first_luma_column leaf + x) (first_luma_row leaf + y)) (chroma_block leaf) r q h l m n low
