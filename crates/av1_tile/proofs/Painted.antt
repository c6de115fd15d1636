-- A rectangle that was predicted through a region shows the motion of the plan.
use Rattle.std.proofs.Common.{ℕ, ◌+◌, ◌<◌, ◌≡◌, ◌∙◌, ap, arith, Bool, true, false, if◌then◌else◌, List, Some, ℤ, pos, refl, ◌+ℤ◌}
use Rattle.std.proofs.lemmas.Int.{ints}
use Rattle.av1_blocks.specs.declared.mc.FilterMode.{FilterMode}
use Rattle.av1_blocks.specs.declared.mc.MotionVector.{MotionVector}
use Rattle.av1_blocks.specs.declared.partition.RefType.{RefType}
use Rattle.av1_frame.specs.declared.frame_invariants.FrameInvariants.{FrameInvariants}
use Rattle.av1_frame.specs.declared.plane.Plane.{Plane}
use Rattle.av1_frame.specs.declared.plane_region.PlaneRegionMut.{PlaneRegionMut}
use Rattle.av1_frame.specs.declared.plane_region.Area.{Area}
use Rattle.av1_frame.specs.declared.plane_region.Area.TheVariants.{Rect}
use Rattle.av1_frame.specs.declared.tile_state.TileRect.{TileRect}
use Rattle.av1_frame.specs.Areas.{VisibleArea, area_from, from_origin, stored_area}
use Rattle.av1_frame.specs.Frames.{slot_plane}
use Rattle.av1_frame.specs.Planes.{painted_plane}
use Rattle.av1_frame.specs.Regions.{painted}
use Rattle.av1_frame.proofs.Planes.{region_painted}
use Rattle.av1_frame.proofs.Regions.{painted_same}
use Rattle.av1_inter.specs.Filters.{mode_along}
use Rattle.av1_inter.specs.Motion.{averaged}
use Rattle.av1_inter.specs.Prediction.{compound_pixel, PredictsCompound, PredictsSingle, single_pixel}
use Rattle.av1_inter.specs.Reference.{as_reference, frame_filter, is_reference, prepared_in, single_in, slot_of, vector_of, reference_of as reference_in}
use Rattle.av1_plan.specs.Geometry.{follows_av1}
use Rattle.av1_plan.specs.Plan.{PlanValue}
use Rattle.av1_plan.specs.Validity.{has_reference}
use Rattle.av1_tile.specs.declared.motion.Motion.{Motion}
use Rattle.av1_tile.specs.Motion.{compound_motion, in_frame, ServesPlan, plan_filter, plan_motion, reference_plane, single_motion, slot_in}
use Rattle.av1_inter.proofs.SameReferences.{ShowSame, prepared_in_same, single_in_same}
use Rattle.av1_tile.proofs.Served.{held_same, plane_holds, plane_of_slot}

-- a region of a plane that is this rectangle of it, and the sides and the place in the tile's frame that a prediction was asked for
pub record IsLeafRegion {T : Type 0} (plane : Plane T) (area : VisibleArea) (tile : TileRect) (r : PlaneRegionMut T) (x y : ℤ) (w h : ℕ) : Type 0 where
  pub plane_is : r.plane.now ≡ plane
  pub cfg_is : r.plane_cfg ≡ plane.plane_cfg
  pub area_is : r.area ≡ stored_area plane.plane_cfg area
  pub column : x ≡ pos (tile.x + area.x)
  pub row : y ≡ pos (tile.y + area.y)
  pub columns : w ≡ area.width
  pub rows : h ≡ area.height

-- a place that counts from the first sample of the tile
from_first : (tile n : ℕ) (offset : ℤ) → offset ≡ pos n → (pos tile +ℤ offset) ≡ pos (tile + n)
from_first tile n offset h = omega (arith, ints, h)

-- such a region, asked for by the rectangle, beside its first sample in the tile
pub leaf_region : {T : Type 0} (plane : Plane T) (area : VisibleArea) (tile : TileRect) (r : PlaneRegionMut T) {asked : Area} {x y : ℤ} {w h : ℕ} →
    r.plane.now ≡ plane → r.plane_cfg ≡ plane.plane_cfg
    → r.area ≡ area_from plane.plane_cfg (from_origin plane.plane_cfg) asked →
    asked ≡ Rect (pos area.x) (pos area.y) area.width area.height
    → x ≡ pos area.x → y ≡ pos area.y → w ≡ area.width → h ≡ area.height →
    IsLeafRegion plane area tile r (pos tile.x +ℤ x) (pos tile.y +ℤ y) w h
leaf_region plane area tile r {asked} {x} {y} plane_is cfg_is area_is asked_is x_is y_is columns rows = record {
  plane_is = plane_is;
  cfg_is = cfg_is;
  area_is = area_is ∙ ap (area_from plane.plane_cfg (from_origin plane.plane_cfg)) asked_is;
  column = from_first tile.x area.x x x_is;
  row = from_first tile.y area.y y y_is;
  columns = columns;
  rows = rows;
}

-- the plane of such a region that was painted
pub leaf_painted : {T : Type 0} (plane : Plane T) (area : VisibleArea) (tile : TileRect) (r o : PlaneRegionMut T) (x y : ℤ) (w h : ℕ) (f : ℕ → ℕ → T → T) →
    IsLeafRegion plane area tile r x y w h → o ≡ painted r area.width area.height f → o.plane.now ≡ painted_plane plane area f
leaf_painted plane area tile r o x y w h f leaf e = region_painted plane area f r o leaf.plane_is leaf.cfg_is leaf.area_is e

module _ {T : Type 0} (num : T → ℕ) (pixel : ℕ → T) (value : PlanValue) (fi : FrameInvariants T) (holds : ServesPlan num value fi) (p : ℕ) (below : p < 3)
    (plane : Plane T) (area : VisibleArea) (tile : TileRect) (r o : PlaneRegionMut T) (x y : ℤ) (w h : ℕ) (leaf : IsLeafRegion plane area tile r x y w h) where
  -- the plane of a slot shows what the plan's does
  shown : (reference : RefType) (q : Plane T) → has_reference value.header reference ≡ true → slot_plane fi (slot_of fi reference) p ≡ Some q →
      ShowSame (as_reference num q) (reference_plane value (slot_in value.header reference) p)
  shown reference q has is = held_same num value (slot_in value.header reference) p q (plane_holds num value fi holds reference has p q below is)

  -- the frame's filter is the plan's, along each side
  filter_is : frame_filter fi ≡ plan_filter value.header
  filter_is =
      ap (λ (by_av1 : Bool). mode_along by_av1 fi.default_filter) holds.settings.short_by_av1
      ∙ ap (λ (mode : FilterMode). mode_along (follows_av1 value.header) mode) holds.settings.filter

  -- a prediction from a plane, by the place and the sides of the rectangle
  moved_to : (f : ℤ → ℤ → ℕ → ℕ → ℕ → ℕ → T → T) (g : ℕ → ℕ → T → T) → o ≡ painted r w h (f x y w h)
      → ((i j : ℕ) (v : T) → i < area.height → j < area.width →
      f (pos (tile.x + area.x)) (pos (tile.y + area.y)) area.width area.height i j v ≡ g i j v)
      → o ≡ painted r area.width area.height g
  moved_to f g e same =
      let a = in_frame tile area in
      let at : o ≡ painted r a.width a.height (f (pos a.x) (pos a.y) a.width a.height) =
      e ∙ ap (λ z. painted r w h (f z y w h)) leaf.column ∙ ap (λ z. painted r w h (f (pos a.x) z w h)) leaf.row
      ∙ ap (λ n. painted r n h (f (pos a.x) (pos a.y) n h)) leaf.columns ∙ ap (λ n. painted r a.width n (f (pos a.x) (pos a.y) a.width n)) leaf.rows in
      painted_same r o a.width a.height (f (pos a.x) (pos a.y) a.width a.height) g at same

  single_region : (reference : RefType) (mv : MotionVector) → has_reference value.header reference ≡ true →
      PredictsSingle num pixel fi p reference x y mv w h r o
      → o ≡ painted r area.width area.height (λ i j _. pixel (single_motion value p reference mv (in_frame tile area) i j))
  single_region reference mv has predicts =
      let (q, is) = plane_of_slot num value fi holds reference has p below in
      let a = in_frame tile area in
      moved_to (λ (x y : ℤ) (w h : ℕ). single_pixel num pixel fi q x y mv w h) (λ i j _. pixel (single_motion value p reference mv a i j)) (predicts q is)
      (λ i j v l k. ap pixel (
      ap (λ (d : ℕ). single_in d (frame_filter fi) (as_reference num q) (pos a.x) (pos a.y) mv a.width a.height i j) holds.settings.depth
      ∙ ap (λ (m : ℕ → FilterMode). single_in value.header.depth m (as_reference num q) (pos a.x) (pos a.y) mv a.width a.height i j) filter_is
      ∙ single_in_same (as_reference num q) (reference_plane value (slot_in value.header reference) p)
      (shown reference q has is) value.header.depth (plan_filter value.header) (pos a.x) (pos a.y) mv a.width a.height i j))

  -- what is prepared of a reference
  prepared_same : (reference : RefType) (q : Plane T) (mv : MotionVector) → has_reference value.header reference ≡ true →
      slot_plane fi (slot_of fi reference) p ≡ Some q → (i j : ℕ)
      → i < area.height → j < area.width
      → prepared_in fi.bit_depth (frame_filter fi) (as_reference num q) (pos (tile.x + area.x)) (pos (tile.y + area.y)) mv area.width area.height i j
      ≡ prepared_in value.header.depth (plan_filter value.header) (reference_plane value (slot_in value.header reference) p) (pos (tile.x + area.x))
      (pos (tile.y + area.y)) mv area.width area.height i j
  prepared_same reference q mv has is i j l k =
      let a = in_frame tile area in
      ap (λ (d : ℕ). prepared_in d (frame_filter fi) (as_reference num q) (pos a.x) (pos a.y) mv a.width a.height i j) holds.settings.depth
      ∙ ap (λ (m : ℕ → FilterMode). prepared_in value.header.depth m (as_reference num q) (pos a.x) (pos a.y) mv a.width a.height i j) filter_is
      ∙ prepared_in_same (as_reference num q) (reference_plane value (slot_in value.header reference) p)
      (shown reference q has is) value.header.depth (plan_filter value.header) (pos a.x) (pos a.y) mv a.width a.height i j

  compound_region : (references : List RefType) (mvs : List MotionVector) → has_reference value.header (reference_in references 0) ≡ true
      → has_reference value.header (reference_in references 1) ≡ true → PredictsCompound num pixel fi p references x y mvs w h r o
      → o ≡ painted r area.width area.height (λ i j _. pixel (compound_motion value p references mvs (in_frame tile area) i j))
  compound_region references mvs has_first has_second predicts =
      let (q, q_is) = plane_of_slot num value fi holds (reference_in references 0) has_first p below in
      let (t, t_is) = plane_of_slot num value fi holds (reference_in references 1) has_second p below in
      let a = in_frame tile area in
      let one = λ (i j : ℕ). prepared_in fi.bit_depth (frame_filter fi) (as_reference num q) (pos a.x) (pos a.y) (vector_of mvs 0) a.width a.height i j in
      let two = λ (i j : ℕ). prepared_in fi.bit_depth (frame_filter fi) (as_reference num t) (pos a.x) (pos a.y) (vector_of mvs 1) a.width a.height i j in
      let second =
      λ (i j : ℕ). prepared_in value.header.depth (plan_filter value.header)
      (reference_plane value (slot_in value.header (reference_in references 1)) p)
      (pos a.x) (pos a.y) (vector_of mvs 1) a.width a.height i j in
      let first =
      λ (i j : ℕ). prepared_in value.header.depth (plan_filter value.header)
      (reference_plane value (slot_in value.header (reference_in references 0)) p)
      (pos a.x) (pos a.y) (vector_of mvs 0) a.width a.height i j in
      moved_to (λ (x y : ℤ) (w h : ℕ). compound_pixel num pixel fi q t x y mvs w h) (λ i j _. pixel (compound_motion value p references mvs a i j))
      (predicts q t q_is t_is) (λ i j v l k. ap pixel (
      ap (λ (d : ℕ). averaged d (one i j) (two i j)) holds.settings.depth
      ∙ ap (λ (z : ℤ). averaged value.header.depth z (two i j)) (prepared_same (reference_in references 0) q (vector_of mvs 0) has_first q_is i j l k)
      ∙ ap (λ (z : ℤ). averaged value.header.depth (first i j) z) (prepared_same (reference_in references 1) t (vector_of mvs 1) has_second t_is i j l k)))

  -- what a motion predicts: from both of its references where the second is one, or else from the first
  pub motion_region : (m : Motion) → has_reference value.header (reference_in m.references 0) ≡ true
      → (is_reference (reference_in m.references 1) ≡ true → has_reference value.header (reference_in m.references 1) ≡ true)
      → (is_reference (reference_in m.references 1) ≡ false → PredictsSingle num pixel fi p (reference_in m.references 0) x y (vector_of m.mvs 0) w h r o)
      → (is_reference (reference_in m.references 1) ≡ true → PredictsCompound num pixel fi p m.references x y m.mvs w h r o)
      → o ≡ painted r area.width area.height (λ i j _. pixel (plan_motion value p m (in_frame tile area) i j))
  motion_region m first second single compound = go (is_reference (reference_in m.references 1)) refl
    where
      go : (two : Bool) → is_reference (reference_in m.references 1) ≡ two →
          o ≡ painted r area.width area.height
          (λ i j _.
          pixel (if two then compound_motion value p m.references m.mvs (in_frame tile area) i j
          else single_motion value p (reference_in m.references 0) (vector_of m.mvs 0) (in_frame tile area) i j))
      go true e = compound_region m.references m.mvs first (second e) (compound e)
      go false e = single_region (reference_in m.references 0) (vector_of m.mvs 0) first (single e)
