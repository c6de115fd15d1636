-- What planes in memory show, in a frame's own header as in that of its sequence.
use Rattle.std.proofs.Common.{ℕ, zero, suc, ◌<◌, ◌≤◌, ◌≡◌, ◌∙◌, ◌^◌, true, List, Option, Some, None, refl, sym, subst, arith, is_some, All}
use Rattle.std.proofs.Common.{◌+◌, ◌*◌, ◌/◌, ◌%◌, length, get_or, inl, inr}
use Rattle.std.specs.Option.{option_map}
use Rattle.std.proofs.Math.Nat.{le_of_eq, mul_comm}
use Rattle.std.proofs.lemmas.Bool.{cases_lt}
use Rattle.std.proofs.lemmas.List.{get_or_past}
use Rattle.av1_frame.specs.declared.frame_invariants.FrameInvariants.{FrameInvariants}
use Rattle.av1_frame.specs.declared.plane.Plane.{Plane}
use Rattle.av1_frame.specs.Planes.{IsWhole, nearest, padded, sample_at, with_sides}
use Rattle.av1_frame.specs.Samples.{gathered}
use Rattle.av1_frame.proofs.Gather.{length-gathered}
use Rattle.av1_frame.proofs.Slices.{padded_is_whole}
use Rattle.av1_frame.proofs.Update.{get_or-update}
use Rattle.av1_frame.proofs.Within.{sample_below, some_numbers}
use Rattle.av1_inter.proofs.Vectors.{padded_is_padded, visible_stays}
use Rattle.av1_plan.specs.declared.header.Header.{Header}
use Rattle.av1_plan.specs.Geometry.{plane_height, plane_width, shown_columns, shown_rows, xdec, ydec}
use Rattle.av1_plan.specs.ReadPlans.{ArePlane}
use Rattle.av1_plan.proofs.Shown.{columns_shown, rows_shown}
use Rattle.av1_tile.specs.Motion.{HoldsPlane}
use Rattle.av1_tile.specs.PlaneBlocks.{shown_of}
use Rattle.av1_tile.specs.Walk.{HasPad, Stores}
use Rattle.av1_sequence.specs.declared.head.FrameHead.{FrameHead}
use Rattle.av1_sequence.specs.Frames.{frame_header}
use Rattle.av1_sequence.specs.Kept.{AreFrames, coded_plane, plane_shown, shown_in, shown_plane}
use Rattle.av1_sequence.specs.Slots.{Slots}
use Rattle.av1_sequence.proofs.Rows.{sample_in, samples_all, samples_count, samples_same}

-- ---- a plane

-- a plane in the frame of a header, told of the samples that it shows
pub plane_held : {T : Type 0} (num : T → ℕ) (h : Header) (p : ℕ) (plane : Plane T) → HoldsPlane num h p (plane_shown num h p plane) plane →
    ArePlane h p (plane_shown num h p plane)
plane_held num h p plane holds = record {
  count = samples_count (shown_of h p) (λ x y. sample_at num plane x y) ∙ mul_comm (shown_rows h p) (shown_columns h p);
  range = samples_all (λ sample. sample < 2 ^ h.depth) (shown_of h p) (λ x y. sample_at num plane x y) holds.within;
}

-- padding takes each sample from another
padded_within : {T : Type 0} (num : T → ℕ) (bound : ℕ) (plane : Plane T) → All (λ (v : T). num v < bound) plane.samples →
    All (λ (v : T). num v < bound) (padded plane).samples
unfolding gathered
padded_within {T} num bound plane within = λ k d l.
    let cfg = plane.plane_cfg in
    let s = plane.samples in
    let from = nearest cfg.yorigin cfg.height (k / cfg.stride) * cfg.stride + nearest cfg.xorigin cfg.width (k % cfg.stride) in
    let at : k < length s = omega (
      arith,
      l,
      length-gathered (λ k. nearest cfg.yorigin cfg.height (k / cfg.stride) * cfg.stride
          + nearest cfg.xorigin cfg.width (k % cfg.stride)) s,
    ) in
    subst (λ (v : T). num v < bound)
    (sym (get_or-update (λ k v. get_or s (nearest cfg.yorigin cfg.height (k / cfg.stride) * cfg.stride + nearest cfg.xorigin cfg.width (k % cfg.stride)) v)
    s k d at))
    (elim (cases_lt from (length s)) [
      | inl b ↦ within from (get_or s k d) b
      | inr b ↦ subst (λ (v : T). num v < bound) (sym (get_or_past s from (get_or s k d) b)) (within k d at)
    ])

-- a plane with other sides, around which its pads have room
sides_whole : {T : Type 0} (width height : ℕ) (plane : Plane T) → IsWhole plane → 0 < width → 0 < height
    → plane.plane_cfg.xorigin + width + plane.plane_cfg.xpad ≤ plane.plane_cfg.stride
    → plane.plane_cfg.yorigin + height + plane.plane_cfg.ypad ≤ plane.plane_cfg.alloc_height → IsWhole (with_sides width height plane)
sides_whole width height plane whole some_columns some_rows columns rows = record {
  fills = whole.fills;
  visible_columns = columns;
  visible_rows = rows;
  left_pad = whole.left_pad;
  top_pad = whole.top_pad;
  some_columns = some_columns;
  some_rows = some_rows;
  few = whole.few;
  few_columns = whole.few_columns;
  few_rows = whole.few_rows;
  xdec = whole.xdec;
  ydec = whole.ydec;
}

-- whatever the numbers of its sides are called
pub sides_as : {T : Type 0} (plane : Plane T) (w t width height : ℕ) → w ≡ width → t ≡ height → IsWhole (with_sides width height plane) →
    IsWhole (with_sides w t plane)
sides_as plane w t width height across down whole = rw (across, down) whole

-- what is shown of a plane of a frame is one
pub cut_whole : {T : Type 0} (num : T → ℕ) (h : Header) (p : ℕ) (plane : Plane T) → AreFrames h → Stores num h p plane → IsWhole (shown_plane h p plane)
cut_whole num h p plane frames stores =
    let place = stores.place in
    sides_whole (shown_columns h p) (shown_rows h p) plane place.whole (columns_shown h p frames.width frames.shown_width).0
    (rows_shown h p frames.height frames.shown_height).0
    (omega (arith, place.shown_columns, place.whole.visible_columns)) (omega (arith, place.shown_rows, place.whole.visible_rows))

module _ {T : Type 0} (num : T → ℕ) (h : Header) (p : ℕ) (plane : Plane T) (frames : AreFrames h) (stores : Stores num h p plane) where
  -- what is shown of it, padded
  abbrev pub kept : Plane T
  kept = padded (shown_plane h p plane)

  cut : IsWhole (shown_plane h p plane)
  cut = cut_whole num h p plane frames stores

  -- it can take a later frame, once what is coded is visible again
  pub kept_stores : Stores num h p (coded_plane h p kept)
  kept_stores =
      let place = stores.place in
      let some = padded_is_whole (shown_plane h p plane) kept refl cut in
      record {
        place = record {
          whole =
              sides_whole (plane_width h p) (plane_height h p) kept some (omega (arith, place.width, place.whole.some_columns))
              (omega (arith, place.height, place.whole.some_rows))
              (omega (arith, place.width, place.whole.visible_columns)) (omega (arith, place.height, place.whole.visible_rows));
          width = refl;
          height = refl;
          shown_columns = omega (arith, place.width, place.shown_columns);
          shown_rows = omega (arith, place.height, place.shown_rows);
          xdec = place.xdec;
          ydec = place.ydec;
        };
        within = padded_within num (2 ^ h.depth) (shown_plane h p plane) stores.within;
      }

  kept_same : (x y : ℕ) → x < shown_columns h p → y < shown_rows h p → sample_at num kept x y ≡ sample_at num plane x y
  kept_same x y hx hy = visible_stays num (shown_plane h p plane) x y cut hx hy

  -- padding changes nothing that is shown
  pub kept_shown : plane_shown num h p kept ≡ plane_shown num h p plane
  kept_shown = samples_same (shown_of h p) (λ x y. sample_at num kept x y) (λ x y. sample_at num plane x y) kept_same

  -- a plane that was padded holds what it shows
  pub kept_holds : HasPad h p 80 plane.plane_cfg → HoldsPlane num h p (plane_shown num h p kept) kept
  kept_holds pad = record {
    padded = padded_is_padded num (shown_plane h p plane) kept refl cut;
    xpad = le_of_eq (sym pad.columns);
    ypad = le_of_eq (sym pad.rows);
    width = refl;
    height = refl;
    xdec = stores.place.xdec;
    ydec = stores.place.ydec;
    shows = λ x y hx hy. sym (sample_in (shown_of h p) (λ x y. sample_at num kept x y) x y hx hy);
    within =
        λ x y hx hy. subst (λ (n : ℕ). n < 2 ^ h.depth) (sym (kept_same x y hx hy))
        (sample_below num (2 ^ h.depth) plane x y (some_numbers h.depth) stores.within);
  }

-- ---- the same in a frame's own header

module _ {T : Type 0} (num : T → ℕ) (h : Header) (slots : Slots) (head : FrameHead) where
  pub shown_same : (p : ℕ) (plane : Plane T) → plane_shown num (frame_header h slots head) p plane ≡ plane_shown num h p plane
  unfolding shown_columns shown_rows xdec ydec
  shown_same zero plane = refl
  shown_same (suc p) plane = refl

  pub held_same : (p : ℕ) (samples : List ℕ) (plane : Plane T) → HoldsPlane num h p samples plane → HoldsPlane num (frame_header h slots head) p samples plane
  unfolding shown_columns shown_rows xdec ydec
  held_same zero samples plane o =
      record {
        padded = o.padded;
        xpad = o.xpad;
        ypad = o.ypad;
        width = o.width;
        height = o.height;
        xdec = o.xdec;
        ydec = o.ydec;
        shows = o.shows;
        within = o.within;
      }
  held_same (suc p) samples plane o =
      record {
        padded = o.padded;
        xpad = o.xpad;
        ypad = o.ypad;
        width = o.width;
        height = o.height;
        xdec = o.xdec;
        ydec = o.ydec;
        shows = o.shows;
        within = o.within;
      }

-- ---- places

-- a slot that shows a frame has a place
pub place_of : {T : Type 0} (num : T → ℕ) (h : Header) (fi : FrameInvariants T) (o : Option ℕ) → is_some (shown_in num h fi o) ≡ true →
    (place : ℕ) × (o ≡ Some place)
place_of num h fi None e = absurd cc
place_of num h fi (Some place) e = (place, refl)

-- a place that is filled has three planes
pub filled_planes : {X : Type 0} (o : Option X) → is_some o ≡ true → (x : X) × (o ≡ Some x)
filled_planes None e = absurd cc
filled_planes (Some x) e = (x, refl)

pub some_mapped : {X Y : Type 0} (f : X → Y) (o : Option X) → is_some (option_map f o) ≡ is_some o
some_mapped f None = refl
some_mapped f (Some x) = refl
