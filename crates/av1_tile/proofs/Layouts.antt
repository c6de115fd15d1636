-- Frames that are laid out alike: planes that store one of them store the other.
use Rattle.std.proofs.Common.{◌≡◌, ◌∙◌, ℕ, zero, suc, ◌+◌, ◌*◌, ◌/◌, ◌^◌, ◌<◌, ◌≤◌, All, if◌then◌else◌, nat_lt, ◌==◌, ap, ap₂, sym, refl, subst}
use Rattle.std.specs.Int.{next_multiple_of}
use Rattle.av1_frame.specs.declared.plane.Plane.{Plane}
use Rattle.av1_frame.specs.declared.plane.PlaneConfig.{PlaneConfig}
use Rattle.av1_plan.specs.declared.header.Header.{Header}
use Rattle.av1_plan.specs.Geometry.{xdec, ydec, plane_width, plane_height, shown_columns, shown_rows, coded_side, coded_width, coded_height}
use Rattle.av1_tile.specs.Memory.{HasRoomFor, WalkRoom}
use Rattle.av1_tile.specs.State.{AreAlike, IsSound, Picture}
use Rattle.av1_tile.specs.Walk.{Stores, StoresAll, HasRoomIn, HasRoom}

-- a header is alike to each that equals one that it is alike to
pub alike_to : (h k g : Header) → AreAlike h k → g ≡ k → AreAlike h g
alike_to h k g alike same = subst (AreAlike h) (sym same) alike

-- equal headers are alike
pub alike_same : (h k : Header) → h ≡ k → AreAlike h k
alike_same h k same = record {
  width = ap (λ (g : Header). g.width) same;
  height = ap (λ (g : Header). g.height) same;
  depth = ap (λ (g : Header). g.depth) same;
  sampling = ap (λ (g : Header). g.sampling) same;
}

module _ (h k : Header) (alike : AreAlike h k) where
  -- what a sample of a plane stands for, and the sides of planes
  xdec_same : (p : ℕ) → xdec h p ≡ xdec k p
  unfolding xdec
  xdec_same zero = refl
  xdec_same (suc p) = ap (λ (s : ℕ). if nat_lt s 2 then 1 else 0) alike.sampling

  ydec_same : (p : ℕ) → ydec h p ≡ ydec k p
  unfolding ydec
  ydec_same zero = refl
  ydec_same (suc p) = ap (λ (s : ℕ). if s == 0 then 1 else 0) alike.sampling

  across_same : coded_width h ≡ coded_width k
  unfolding coded_width
  across_same = ap coded_side alike.width

  down_same : coded_height h ≡ coded_height k
  unfolding coded_height
  down_same = ap coded_side alike.height

  width_same : (p : ℕ) → plane_width h p ≡ plane_width k p
  unfolding plane_width
  width_same p = ap₂ (λ (n d : ℕ). n / 2 ^ d) across_same (xdec_same p)

  height_same : (p : ℕ) → plane_height h p ≡ plane_height k p
  unfolding plane_height
  height_same p = ap₂ (λ (n d : ℕ). n / 2 ^ d) down_same (ydec_same p)

  columns_same : (p : ℕ) → shown_columns h p ≡ shown_columns k p
  unfolding shown_columns
  columns_same p = ap₂ (λ (n d : ℕ). (n + d) / 2 ^ d) alike.width (xdec_same p)

  rows_same : (p : ℕ) → shown_rows h p ≡ shown_rows k p
  unfolding shown_rows
  rows_same p = ap₂ (λ (n d : ℕ). (n + d) / 2 ^ d) alike.height (ydec_same p)

  -- a plane that stores its part of one frame stores that of the other
  stores_same : {T : Type 0} (num : T → ℕ) (p : ℕ) (plane : Plane T) → Stores num h p plane → Stores num k p plane
  stores_same num p plane s = record {
    place = record {
      whole = s.place.whole;
      width = s.place.width ∙ width_same p;
      height = s.place.height ∙ height_same p;
      shown_columns = subst (λ (n : ℕ). n ≤ plane.plane_cfg.width) (columns_same p) s.place.shown_columns;
      shown_rows = subst (λ (n : ℕ). n ≤ plane.plane_cfg.height) (rows_same p) s.place.shown_rows;
      xdec = s.place.xdec ∙ xdec_same p;
      ydec = s.place.ydec ∙ ydec_same p;
    };
    within = subst (λ (d : ℕ). All (λ v. num v < 2 ^ d) plane.samples) alike.depth s.within;
  }

  room_same : (p : ℕ) (cfg : PlaneConfig) → HasRoomIn h p cfg → HasRoomIn k p cfg
  room_same p cfg room = record {
    columns = subst (λ (n : ℕ). cfg.xorigin + n ≤ cfg.stride) (ap₂ (λ (n d : ℕ). next_multiple_of n (64 / 2 ^ d)) (width_same p) (xdec_same p)) room.columns;
    rows = subst (λ (n : ℕ). cfg.yorigin + n ≤ cfg.alloc_height) (ap₂ (λ (n d : ℕ). next_multiple_of n (64 / 2 ^ d)) (height_same p) (ydec_same p)) room.rows;
  }

  -- memory with room for one frame has room for the other
  pub memory_alike : (memory after : WalkRoom) → after.cells ≡ memory.cells → HasRoomFor h memory → HasRoomFor k after
  memory_alike memory after cells room =
      subst (λ (n : ℕ). coded_height k / 4 * (coded_width k / 4) ≤ n) (sym cells)
      (subst (λ (n : ℕ). n ≤ memory.cells) (ap₂ (λ (rows columns : ℕ). rows / 4 * (columns / 4)) down_same across_same) room)

-- a sound state is sound for each header that is alike to its own
pub sound_alike : {T : Type 0} (num : T → ℕ) (s r : Picture T) → AreAlike s.header r.header → r.planes ≡ s.planes → IsSound num s → IsSound num r
sound_alike num s r alike same sound =
    let h = s.header in
    let k = r.header in
    let p = s.planes in
    let stores : StoresAll num k p = record {
      y = stores_same h k alike num 0 p.y sound.stores.y;
      u = stores_same h k alike num 1 p.u sound.stores.u;
      v = stores_same h k alike num 2 p.v sound.stores.v;
    } in
    let room : HasRoom k p = record {
      y = room_same h k alike 0 p.y.plane_cfg sound.room.y;
      u = room_same h k alike 1 p.u.plane_cfg sound.room.u;
      v = room_same h k alike 2 p.v.plane_cfg sound.room.v;
    } in
    record { stores = subst (StoresAll num k) (sym same) stores; room = subst (HasRoom k) (sym same) room }
