use Rattle.std.proofs.Common.{◌-◌, refl}
use Rattle.av1_rav1e.specs.TileLuma.{leaf_in_tile}
use Rattle.av1_rav1e.proofs.NearLeaf.{block_near}
use Rattle.av1_rav1e.proofs.tile_luma.leaf_in_tile.Goals as goal

pub returns-clause-block : goal.returns-clause-block
returns-clause-block g c =
    let a = c.args in
    block_near (leaf_in_tile a.ts.now a.tile_bo a.bsize a.tx_size a.fi.now) (a.fi.now.w_in_b - a.ts.now.sbo.x) (a.fi.now.h_in_b - a.ts.now.sbo.y)
    a.tile_bo.0.x a.tile_bo.0.y _ _ refl refl refl refl c.visible_near-visible_width.ensures c.visible_near-visible_height.ensures
