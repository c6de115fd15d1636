-- The luma of a tile.
use Rattle.std.specs.Prelude.{ℕ, ◌+◌, ◌-◌, ◌*◌, map, slice_index}
use Rattle.av1_blocks.specs.declared.partition.BlockSize.{BlockSize}
use Rattle.av1_blocks.specs.declared.transform.TxSize.{TxSize}
use Rattle.av1_frame.specs.declared.block_unit.TileBlockOffset.{TileBlockOffset}
use Rattle.av1_frame.specs.declared.frame_invariants.FrameInvariants.{FrameInvariants}
use Rattle.av1_frame.specs.declared.plane_region.PlaneRegionMut.{PlaneRegionMut}
use Rattle.av1_frame.specs.declared.tile_state.TileStateMut.{TileStateMut}
use Rattle.av1_frame.specs.Samples.{row_start}
use Rattle.av1_frame.specs.Regions.{stored}
use Rattle.av1_intra.specs.declared.luma.LumaLeaf.{LumaLeaf}

-- the number of the sample at column x of row y of a region
abbrev pub tile_luma : {T : Type 0} → (T → ℕ) → PlaneRegionMut T → ℕ → ℕ → ℕ
tile_luma num r x y = slice_index (map num (stored r)) (row_start r.plane_cfg.stride r.area y + x)

-- the leaf at a cell of the tile; all positions count from the tile's first sample
abbrev pub leaf_in_tile : {T : Type 0} → TileStateMut T → TileBlockOffset → BlockSize → TxSize → FrameInvariants T →
    LumaLeaf
leaf_in_tile ts bo bsize tx_size fi = record {
  x = 4 * bo.0.x;
  y = 4 * bo.0.y;
  bsize = bsize;
  tx_size = tx_size;
  visible_width = 4 * (fi.w_in_b - ts.sbo.x);
  visible_height = 4 * (fi.h_in_b - ts.sbo.y);
  xdec = ts.u.plane_cfg.xdec;
  ydec = ts.u.plane_cfg.ydec;
}
