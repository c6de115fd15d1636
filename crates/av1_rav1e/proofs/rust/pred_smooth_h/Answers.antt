use Rattle.av1_rav1e.proofs.Lending.{block_rows}
use Rattle.av1_rav1e.proofs.rust.pred_smooth_h.Goals as goal

pub pred_smooth_h_to-requires-clause-rows : goal.pred_smooth_h_to-requires-clause-rows
pred_smooth_h_to-requires-clause-rows g c = search block_rows
