use Rattle.av1_order.proofs.ChromaFromLuma.{luma_is_written}
use Rattle.av1_order.proofs.laws.luma_is_written.Goals as goal

pub returns : goal.returns
returns c = luma_is_written
