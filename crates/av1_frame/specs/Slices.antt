-- Slices: a position in stored samples, which may lie outside them, and what is stored from there on.
use Rattle.std.specs.Prelude.{ℕ, ◌+◌, ◌-◌, ◌*◌, List, drop, map, slice_index, min, ℤ, pos, negsuc, ◌+ℤ◌, ◌≤ℤ◌, ◌<ℤ◌}
use Rattle.std.specs.Prelude.{neg_ℤ, unsigned_abs}
use Rattle.std.specs.Int.{int_min, int_max}
use Rattle.av1_frame.specs.declared.plane.PlaneConfig.{PlaneConfig}
use Rattle.av1_frame.specs.declared.plane.Plane.{Plane}
use Rattle.av1_frame.specs.declared.plane_slice.PlaneSlice.{PlaneSlice}
use Rattle.av1_frame.specs.Samples.{part}

-- column x and row y, counted from the first visible sample, are stored
pub record IsStoredPlace (cfg : PlaneConfig) (x y : ℤ) : Type 0 where
  pub left : pos 0 ≤ℤ (pos cfg.xorigin +ℤ x)
  pub right : (pos cfg.xorigin +ℤ x) <ℤ pos cfg.stride
  pub top : pos 0 ≤ℤ (pos cfg.yorigin +ℤ y)
  pub bottom : (pos cfg.yorigin +ℤ y) <ℤ pos cfg.alloc_height

-- the column or row from -pad to side that is nearest to z
abbrev pub within_pads : ℤ → ℕ → ℕ → ℤ
within_pads z pad side = int_min (int_max z (neg_ℤ (pos pad))) (pos side)

-- the stored column of column x, and the stored row of row y
abbrev pub stored_column : PlaneConfig → ℤ → ℕ
stored_column cfg x = unsigned_abs (pos cfg.xorigin +ℤ x)

abbrev pub stored_row : PlaneConfig → ℤ → ℕ
stored_row cfg y = unsigned_abs (pos cfg.yorigin +ℤ y)

-- the number of the sample that is stored at column x of row y
abbrev pub stored_sample : {T : Type 0} → (T → ℕ) → Plane T → ℤ → ℤ → ℕ
stored_sample num p x y =
    slice_index (map num p.samples) (stored_row p.plane_cfg y * p.plane_cfg.stride + stored_column p.plane_cfg x)

-- the visible column or row, of n, that is nearest to z
abbrev pub nearest_visible : ℕ → ℤ → ℕ
nearest_visible n (pos i) = min i (n - 1)
nearest_visible n (negsuc i) = 0

-- the samples of row y from column x to the end of the stored row
abbrev pub row_from : {T : Type 0} → Plane T → ℤ → ℤ → List T
row_from p x y = part (stored_row p.plane_cfg y * p.plane_cfg.stride + stored_column p.plane_cfg x)
    (p.plane_cfg.stride - stored_column p.plane_cfg x) p.samples

-- all that is stored from column x of row y on
abbrev pub all_from : {T : Type 0} → Plane T → ℤ → ℤ → List T
all_from p x y = drop (stored_row p.plane_cfg y * p.plane_cfg.stride + stored_column p.plane_cfg x) p.samples

-- the samples that s reads and their settings, as a plane has them
abbrev pub slice_plane : {T : Type 0} → PlaneSlice T → Plane T
slice_plane s = record { samples = s.samples.now; plane_cfg = s.plane_cfg.now }

-- row r of the slice s is stored
abbrev pub RowIsStored : {T : Type 0} → PlaneSlice T → ℕ → Type 0
RowIsStored s r = IsStoredPlace s.plane_cfg.now s.x (s.y +ℤ pos r)
