-- The rows that a region lends, to predict a block in them.
use Rattle.std.proofs.Common.{ℕ, ◌≡◌, List, length}
use Rattle.av1_frame.specs.declared.plane_region.PlaneRegionMut.{PlaneRegionMut}
use Rattle.av1_frame.specs.declared.plane_region.StoredArea.{StoredArea}
use Rattle.av1_frame.specs.Areas.{AreRows}
use Rattle.av1_frame.specs.Samples.{in_rows}
use Rattle.av1_frame.specs.Regions.{own_rows}
use Rattle.av1_frame.proofs.Regions.{lent_rows}
use Rattle.av1_rav1e.specs.Blocks.{HoldsBlock}

-- the block is a rectangle of the rows that are lent
pub block_rows : {T : Type 0} {r : PlaneRegionMut T} {w h : ℕ} {a : StoredArea} {rows : List T} → HoldsBlock r w h → a ≡ in_rows r.area w h →
    rows ≡ own_rows r →
    AreRows r.plane_cfg.stride a (length rows)
block_rows {T} {r} {w} {h} {a} {rows} b e l = lent_rows r w h a rows b.fits b.columns b.rows e l
