-- Planes, and the planes that operations on them leave.
use Rattle.std.specs.Prelude.{ℕ, ◌+◌, ◌*◌, ◌-◌, ◌/◌, ◌%◌, ◌^◌, max, min, List, length, slice_index, map}
use Rattle.std.specs.Int.{next_multiple_of}
use Rattle.std.specs.Borrow.{Lends, MutBor, Fml, Array, RattleType}
use Rattle.av1_frame.specs.Samples.{with_part, paint, gathered}
use Rattle.av1_frame.specs.Areas.{VisibleArea, stored_area, IsStorage, AreaFits}
use Rattle.av1_frame.specs.declared.plane.PlaneConfig.{PlaneConfig}
use Rattle.av1_frame.specs.declared.plane.Plane.{Plane}
use Rattle.av1_frame.specs.declared.plane_region.StoredArea.{StoredArea}
use Rattle.av1_frame.specs.contracts.plane.Plane as plane
use Rattle.av1_frame.specs.contracts.storage.Storage as storage

-- the settings of a new plane: width and height rounded up to whole blocks of 64 luma samples, and pads on both sides
abbrev pub new_config : ℕ → ℕ → ℕ → ℕ → ℕ → ℕ → PlaneConfig
new_config width height xdec ydec xpad ypad = record {
  stride = xpad + next_multiple_of width (64 / 2 ^ xdec) + xpad;
  alloc_height = ypad + next_multiple_of height (64 / 2 ^ ydec) + ypad;
  width = width;
  height = height;
  xdec = xdec;
  ydec = ydec;
  xpad = xpad;
  ypad = ypad;
  xorigin = xpad;
  yorigin = ypad;
}

-- the settings of this many rows that are `stride` apart, of which the rectangle a is visible
abbrev pub bare_config : ℕ → ℕ → StoredArea → PlaneConfig
bare_config stride rows a = record {
  stride = stride;
  alloc_height = rows;
  width = a.width;
  height = a.height;
  xdec = 0;
  ydec = 0;
  xpad = 0;
  ypad = 0;
  xorigin = a.x;
  yorigin = a.y;
}

-- the settings of a plane that has exactly these rows
abbrev pub plain_config : ℕ → ℕ → PlaneConfig
plain_config width height = bare_config width height (record { x = 0; y = 0; width = width; height = height })

-- the samples of p fill its rows, and the visible ones lie among them
abbrev pub IsWhole : {T : Type 0} → Plane T → Type 0
IsWhole p = IsStorage p.plane_cfg (length p.samples)

-- the position in storage of column x of row y, counted from the first visible sample
abbrev pub place_at : PlaneConfig → ℕ → ℕ → ℕ
place_at cfg x y = (cfg.yorigin + y) * cfg.stride + (cfg.xorigin + x)

-- the number of the sample at column x of row y of p, counted from the first visible one
abbrev pub sample_at : {T : Type 0} → (T → ℕ) → Plane T → ℕ → ℕ → ℕ
sample_at num p x y = slice_index (map num p.samples) (place_at p.plane_cfg x y)

-- the rectangle a lies in p's storage
abbrev pub InPlane : {T : Type 0} → VisibleArea → Plane T → Type 0
InPlane a p = AreaFits (stored_area p.plane_cfg a) p.plane_cfg (length p.samples)

-- p after each sample v of the rectangle a becomes f ROW COLUMN v, by its row and column in a; the others are unchanged
abbrev pub painted_plane : {T : Type 0} → Plane T → VisibleArea → (ℕ → ℕ → T → T) → Plane T
painted_plane p a f = record p { samples = paint p.plane_cfg.stride (stored_area p.plane_cfg a) f p.samples }

-- p with this many visible columns and rows
abbrev pub with_sides : {T : Type 0} → (width height : ℕ) → Plane T → Plane T
with_sides width height p = record p { plane_cfg = record p.plane_cfg { width = width; height = height } }

-- the nearest of the `count` numbers from `first` on
abbrev pub nearest : ℕ → ℕ → ℕ → ℕ
nearest first count i = max first (min i (first + count - 1))

-- p after each position of storage gets the sample at the nearest visible position
abbrev pub padded : {T : Type 0} → Plane T → Plane T
padded p =
    let cfg = p.plane_cfg in
    record p {
      samples = gathered
          (λ k. nearest cfg.yorigin cfg.height (k / cfg.stride) * cfg.stride + nearest cfg.xorigin cfg.width
          (k % cfg.stride)) p.samples;
    }

-- what a `&mut` to storage or to a plane points to, as the logic names it
abbrev pub storage_row : RattleType → RattleType
storage_row T = storage.the_row T

abbrev pub plane_row : RattleType → RattleType
plane_row T = plane.the_row T

-- what is written through the part of s from i on is in s afterwards
abbrev pub LendsPart : (T : RattleType) → MutBor (List T.Denot) → ℕ → MutBor (List T.Denot) → Fml
LendsPart T s i result = Lends (storage_row T) (Array T 0) s result (with_part i s.now)

-- the same for the part of p's samples
abbrev pub LendsPlanePart : (T : RattleType) → MutBor (Plane T.Denot) → ℕ → MutBor (List T.Denot) → Fml
LendsPlanePart T p i result =
    Lends (plane_row T) (Array T 0) p result (λ ws. record p.now { samples = with_part i p.now.samples ws })
