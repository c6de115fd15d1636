use Rattle.av1_rav1e.proofs.Lending.{block_rows}
use Rattle.av1_rav1e.proofs.rust.pred_paeth.Goals as goal

pub pred_paeth_to-requires-clause-rows : goal.pred_paeth_to-requires-clause-rows
pred_paeth_to-requires-clause-rows g c = search block_rows
