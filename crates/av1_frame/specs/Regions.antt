-- Regions, and what a write through one leaves.
use Rattle.std.specs.Prelude.{◌≡◌, ℕ, ◌*◌, List, [], length}
use Rattle.std.specs.Borrow.{Lends, MutBor, Fml, Array, RattleType}
use mir.Syntax.{named}
use Rattle.av1_frame.specs.Samples.{part, with_part, paint, corner, row_start}
use Rattle.av1_frame.specs.Areas.{rect_of, AreaFits}
use Rattle.av1_frame.specs.Planes.{plane_row}
use Rattle.av1_frame.specs.declared.plane.Plane.{Plane}
use Rattle.av1_frame.specs.declared.plane_region.StoredArea.{StoredArea}
use Rattle.av1_frame.specs.declared.plane_region.PlaneRegion.{PlaneRegion}
use Rattle.av1_frame.specs.declared.plane_region.PlaneRegionMut.{PlaneRegionMut}
use Rattle.av1_frame.specs.contracts.plane_region.PlaneRegionMut as region

-- the samples of the plane that r is a part of
abbrev pub stored : {T : Type 0} → PlaneRegionMut T → List T
stored r = r.plane.now.samples

-- the region r lies in its plane, and its settings and its rectangle are that plane's
pub record InStorage {T : Type 0} (r : PlaneRegionMut T) : Type 0 where
  pub fits : AreaFits r.area r.plane_cfg (length (stored r))
  pub cfg : r.plane.now.plane_cfg ≡ r.plane_cfg
  pub rect : r.rect ≡ rect_of r.plane_cfg r.area

-- the region r lies in the samples that it reads, and its rectangle is the one of its settings
pub record IsReadable {T : Type 0} (r : PlaneRegion T) : Type 0 where
  pub fits : AreaFits r.area r.plane_cfg (length r.samples.now)
  pub rect : r.rect ≡ rect_of r.plane_cfg r.area

-- r with the plane p behind its reference; the rest is unchanged
abbrev pub with_plane : {T : Type 0} → PlaneRegionMut T → Plane T → PlaneRegionMut T
with_plane r p = record r { plane = record r.plane { now = p } }

-- r with the samples ws in its plane; the rest is unchanged
abbrev pub with_samples : {T : Type 0} → PlaneRegionMut T → List T → PlaneRegionMut T
with_samples r ws = with_plane r (record r.plane.now { samples = ws })

-- r after each sample v of its first h rows and w columns becomes f ROW COLUMN v; the others are unchanged
abbrev pub painted : {T : Type 0} → PlaneRegionMut T → ℕ → ℕ → (ℕ → ℕ → T → T) → PlaneRegionMut T
painted r w h f = with_samples r (paint r.plane_cfg.stride (corner r.area w h) f (stored r))

-- r after each sample v of the rectangle a of its plane becomes f ROW COLUMN v; the others are unchanged
abbrev pub painted_within : {T : Type 0} → PlaneRegionMut T → StoredArea → (ℕ → ℕ → T → T) → PlaneRegionMut T
painted_within r a f = with_samples r (paint r.plane_cfg.stride a f (stored r))

-- what a `&mut` to a region points to, as the logic names it
abbrev pub region_row : RattleType → RattleType
region_row T = region.the_row (record { mir = named 1; lft = [] }) T

-- what is written through row y of r is in r afterwards
abbrev pub LendsRow : (T : RattleType) → MutBor (PlaneRegionMut T.Denot) → ℕ → MutBor (List T.Denot) → Fml
LendsRow T r y result =
    Lends (region_row T)
    (Array T 0) r result
    (λ ws. with_samples r.now (with_part (row_start r.now.plane_cfg.stride r.now.area y) (stored r.now) ws))

-- what is written through a part of r, as a region of its own, is in r afterwards
abbrev pub LendsSub : (T : RattleType) → MutBor (PlaneRegionMut T.Denot) → PlaneRegionMut T.Denot → Fml
LendsSub T r result = Lends (region_row T) (plane_row T) r result.plane (with_plane r.now)

-- the rows of r: all that is stored from the start of its first row to the end of its last
abbrev pub own_rows : {T : Type 0} → PlaneRegionMut T → List T
own_rows r = part (r.area.y * r.plane_cfg.stride) (r.area.height * r.plane_cfg.stride) (stored r)

-- what is written through the rows of r is in r afterwards
abbrev pub LendsRows : (T : RattleType) → MutBor (PlaneRegionMut T.Denot) → MutBor (List T.Denot) → Fml
LendsRows T r result =
    Lends (region_row T)
    (Array T 0) r result
    (λ ws. with_samples r.now (with_part (r.now.area.y * r.now.plane_cfg.stride) (stored r.now) ws))
