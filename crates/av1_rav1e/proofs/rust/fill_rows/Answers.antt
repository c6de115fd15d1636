use Rattle.av1_rav1e.proofs.Lending.{block_rows}
use Rattle.av1_rav1e.proofs.rust.fill_rows.Goals as goal

pub fill_block-requires : goal.fill_block-requires
fill_block-requires g c = record { rows = block_rows c.requires.block c.corner-area.ensures c.rows_mut.ensures.value }
