-- Rectangles of a plane: of its visible samples, of its storage, and rectangles that an area names.
use Rattle.std.specs.Prelude.{◌≡◌, ℕ, ◌+◌, ◌-◌, ◌*◌, ◌/◌, ◌^◌, ◌≤◌, ◌<◌, Bool, ◌&&◌, nat_le, nat_lt, ℤ, pos, ◌+ℤ◌, ◌-ℤ◌}
use Rattle.std.specs.Prelude.{◌≤ℤ◌, unsigned_abs}
use Rattle.av1_frame.specs.declared.plane.PlaneConfig.{PlaneConfig}
use Rattle.av1_frame.specs.declared.plane_region.StoredArea.{StoredArea}
use Rattle.av1_frame.specs.declared.plane_region.Rect.{Rect}
use Rattle.av1_frame.specs.declared.plane_region.Area.{Area}
use Rattle.av1_frame.specs.declared.plane_region.Area.TheVariants.{Rect as Rectangle, BlockStartingAt}

-- a rectangle of a plane, counted in samples from the first visible one
pub record VisibleArea : Type 0 where
  pub x : ℕ
  pub y : ℕ
  pub width : ℕ
  pub height : ℕ

-- the rectangle of storage that this rectangle is
abbrev pub stored_area : PlaneConfig → VisibleArea → StoredArea
stored_area cfg a = record { x = cfg.xorigin + a.x; y = cfg.yorigin + a.y; width = a.width; height = a.height }

-- the visible samples
abbrev pub all_visible : PlaneConfig → VisibleArea
all_visible cfg = record { x = 0; y = 0; width = cfg.width; height = cfg.height }

-- whether column x of row y, counted from the first visible sample, lies in a
abbrev pub in_visible : VisibleArea → ℕ → ℕ → Bool
in_visible a x y = (nat_le a.x x && nat_lt x (a.x + a.width)) && (nat_le a.y y && nat_lt y (a.y + a.height))

-- the rectangle of storage a, counted from the first visible sample
abbrev pub rect_of : PlaneConfig → StoredArea → Rect
rect_of cfg a = record {
  x = pos a.x -ℤ pos cfg.xorigin;
  y = pos a.y -ℤ pos cfg.yorigin;
  width = a.width;
  height = a.height;
}

-- storage from the first visible sample on
abbrev pub from_origin : PlaneConfig → StoredArea
from_origin cfg =
    record {
      x = cfg.xorigin;
      y = cfg.yorigin;
      width = cfg.stride - cfg.xorigin;
      height = cfg.alloc_height - cfg.yorigin;
    }

-- the first column or row of the block at a cell of 4 luma samples, in a plane of this decimation
abbrev pub block_start : ℕ → ℕ → ℕ
block_start cell decimation = cell / 2 ^ decimation * 4

-- the column and the row of storage at which an area begins that counts from the first sample of a
abbrev pub first_column : PlaneConfig → StoredArea → Area → ℤ
first_column cfg a (Rectangle x y width height) = pos a.x +ℤ x
first_column cfg a (BlockStartingAt bo) = pos (a.x + block_start bo.x cfg.xdec)

abbrev pub first_row : PlaneConfig → StoredArea → Area → ℤ
first_row cfg a (Rectangle x y width height) = pos a.y +ℤ y
first_row cfg a (BlockStartingAt bo) = pos (a.y + block_start bo.y cfg.ydec)

-- the rectangle of storage that an area names
abbrev pub area_from : PlaneConfig → StoredArea → Area → StoredArea
area_from cfg a (Rectangle x y width height) =
    record { x = unsigned_abs (pos a.x +ℤ x); y = unsigned_abs (pos a.y +ℤ y); width = width; height = height }
area_from cfg a (BlockStartingAt bo) = record {
  x = a.x + block_start bo.x cfg.xdec;
  y = a.y + block_start bo.y cfg.ydec;
  width = a.width - block_start bo.x cfg.xdec;
  height = a.height - block_start bo.y cfg.ydec;
}

-- this rectangle begins at this column and this row of storage or after them, and ends in a
pub record LiesIn (column row : ℕ) (cfg : PlaneConfig) (a : StoredArea) (area : Area) : Type 0 where
  pub left : pos column ≤ℤ first_column cfg a area
  pub top : pos row ≤ℤ first_row cfg a area
  pub right : (area_from cfg a area).x + (area_from cfg a area).width ≤ a.x + a.width
  pub bottom : (area_from cfg a area).y + (area_from cfg a area).height ≤ a.y + a.height

-- an area that counts from the plane's first visible sample lies in storage
abbrev pub IsStored : PlaneConfig → Area → Type 0
IsStored cfg area = LiesIn 0 0 cfg (from_origin cfg) area

-- an area that counts from the first sample of a lies in a
abbrev pub IsPartOf : PlaneConfig → StoredArea → Area → Type 0
IsPartOf cfg a area = LiesIn a.x a.y cfg a area

-- n samples fill the rows of cfg, and the visible ones lie among them with the pads around them
pub record IsStorage (cfg : PlaneConfig) (n : ℕ) : Type 0 where
  pub fills : n ≡ cfg.alloc_height * cfg.stride
  pub visible_columns : cfg.xorigin + cfg.width + cfg.xpad ≤ cfg.stride
  pub visible_rows : cfg.yorigin + cfg.height + cfg.ypad ≤ cfg.alloc_height
  pub left_pad : cfg.xpad ≤ cfg.xorigin
  pub top_pad : cfg.ypad ≤ cfg.yorigin
  pub some_columns : 0 < cfg.width
  pub some_rows : 0 < cfg.height
  pub few : n < 2 ^ 63
  pub few_columns : cfg.stride < 2 ^ 63
  pub few_rows : cfg.alloc_height < 2 ^ 63
  pub xdec : cfg.xdec ≤ 1
  pub ydec : cfg.ydec ≤ 1

-- the rectangle a lies in such storage
pub record AreaFits (a : StoredArea) (cfg : PlaneConfig) (n : ℕ) : Type 0 where
  pub storage : IsStorage cfg n
  pub columns : a.x + a.width ≤ cfg.stride
  pub rows : a.y + a.height ≤ cfg.alloc_height

-- the rectangle a lies in n samples, in rows of this stride
pub record AreRows (stride : ℕ) (a : StoredArea) (n : ℕ) : Type 0 where
  pub some : 0 < stride
  pub columns : a.x + a.width ≤ stride
  pub rows : (a.y + a.height) * stride ≤ n
  pub few : n < 2 ^ 63
