use Rattle.av1_rav1e.proofs.Lending.{block_rows}
use Rattle.av1_rav1e.proofs.rust.from_luma.flat_from_luma.Goals as goal

pub pred_cfl_to-requires-clause-rows : goal.pred_cfl_to-requires-clause-rows
pred_cfl_to-requires-clause-rows g c = search block_rows
