-- Every step leaves samples within the depth.
use Rattle.std.proofs.Common.{ℕ, ◌+◌, ◌-◌, ◌/◌, ◌^◌, ◌<◌, ◌≤◌, ◌≡◌, ◌&&◌, Bool, true, false, cond, min, if◌then◌else◌, List, [], ◌∷◌, ℤ, arith, refl, Option}
use Rattle.std.proofs.Common.{None, subst, sym, ◌∙◌}
use Rattle.std.specs.Prelude.{nat_lt}
use Rattle.std.specs.List.{fold}
use Rattle.av1_blocks.specs.declared.predict.PredictionMode.{PredictionMode}
use Rattle.av1_blocks.specs.declared.predict.PredictionMode.TheVariants.{UV_CFL_PRED}
use Rattle.av1_blocks.specs.declared.predict.IntraParam.{IntraParam}
use Rattle.av1_blocks.specs.declared.predict.IntraParam.TheVariants.{AngleDelta, Alpha}
use Rattle.av1_edges.specs.Edges.{Edge}
use Rattle.av1_edges.specs.Parts.{effective, step_of, needs_left, needs_above_right, needs_below_left, needs_corner, smooths_corner}
use Rattle.av1_edges.specs.Sides.{above_at, base, corner_at, left_at, num_avail, where_needed}
use Rattle.av1_frame.specs.declared.plane.Plane.{Plane}
use Rattle.av1_frame.specs.Areas.{VisibleArea}
use Rattle.av1_frame.specs.Planes.{sample_at, painted_plane}
use Rattle.av1_frame.proofs.Planes.{painted_plane_whole}
use Rattle.av1_intra.specs.declared.neighbours.IntraEdgeFilterParameters.{IntraEdgeFilterParameters}
use Rattle.av1_plan.specs.declared.header.Header.{Header}
use Rattle.av1_plan.specs.declared.leaf.Triple.{Triple}
use Rattle.av1_plan.specs.declared.geometry.PlaneArea.{PlaneArea}
use Rattle.av1_plan.specs.Geometry.{plane_width, plane_height}
use Rattle.av1_tile.specs.declared.references.TileReferences.{TileReferences}
use Rattle.av1_tile.specs.Motion.{in_frame, leaf_area, plan_motion, rect_of}
use Rattle.av1_tile.proofs.MotionWithin.{compound_motion_within, held_motion_within}
use Rattle.av1_inter.specs.Reference.{is_reference, reference_of, vector_of}
use Rattle.av1_tile.specs.declared.motion.Motion.{Motion}
use Rattle.av1_tile.specs.declared.shared_chroma.MotionParts.{MotionParts}
use Rattle.av1_tile.specs.declared.plane_block.PlaneBlock.{PlaneBlock}
use Rattle.av1_tile.specs.declared.plane_block.Prediction.{Prediction}
use Rattle.av1_tile.specs.declared.plane_block.Prediction.TheVariants as predictions
use Rattle.av1_tile.specs.PlaneBlocks.{extent_of, is_whole}
use Rattle.av1_tile.specs.Reference.{Scene, above, beside, by_mode, by_prediction, no_luma, parts_motion}
use Rattle.av1_tile.specs.Steps.{predict, add, own_prediction, whole_steps}
use Rattle.av1_tile.specs.Walk.{IsPlaneOf, MotionServes, PartsServe, ServesScene, Stores, PredictionFits, edge_by_place, answer_right, answer_low}
use Rattle.av1_tile.specs.Walk.{placed_edge, fast_in}
use Rattle.av1_frame.proofs.Within.{chosen_below, clip_within, painted_numbers_below, sample_below, some_numbers}
use Rattle.av1_edges.proofs.Within.{above_within, base_within, corner_within, left_within, smoothed_within, some_available, available_inside}
use Rattle.av1_lists.proofs.Lists.{by_index-all}
use Rattle.av1_edges.specs.Within.{EdgeIsWithin}
use Rattle.av1_intra.proofs.Within.{predicted_within}

-- a painted plane is one of the same plane of the frame
pub painted_place : {T : Type 0} (h : Header) (p : ℕ) (plane : Plane T) (a : VisibleArea) (f : ℕ → ℕ → T → T) → IsPlaneOf h p plane →
    IsPlaneOf h p (painted_plane plane a f)
painted_place h p plane a f s = record {
  whole = painted_plane_whole plane a f s.whole;
  width = s.width;
  height = s.height;
  shown_columns = s.shown_columns;
  shown_rows = s.shown_rows;
  xdec = s.xdec;
  ydec = s.ydec;
}

-- a rectangle that begins in the visible plane
pub record BeginsIn (h : Header) (p : ℕ) (a : VisibleArea) : Type 0 where
  pub some_columns : 0 < a.width
  pub some_rows : 0 < a.height
  pub column : a.x < plane_width h p
  pub row : a.y < plane_height h p

module _ {T : Type 0} (num : T → ℕ) (h : Header) (p : ℕ) (plane : Plane T) (stores : Stores num h p plane) (deep : 8 ≤ h.depth) (a : VisibleArea)
    (is : BeginsIn h p a) where
  samples_within : (x y : ℕ) → x < plane_width h p → y < plane_height h p → sample_at num plane x y < 2 ^ h.depth
  samples_within x y hx hy = sample_below num (2 ^ h.depth) plane x y (some_numbers h.depth) stores.within

  edge_within : (filter right low : Bool) (mode : PredictionMode) (step : ℤ) →
      EdgeIsWithin h.depth (edge_by_place (extent_of h p) (sample_at num plane) filter a right low mode step)
  edge_within filter right low mode step =
      let s = sample_at num plane in
      let w = plane_width h p in
      let t = plane_height h p in
      let run = min a.width a.height in
      let goes_right = needs_above_right mode step && right in
      let goes_low = needs_below_left mode step && low in
      let n = num_avail w a.x a.width goes_right run in
      let m = num_avail t a.y a.height goes_low run in
      let above : (j : ℕ) → above_at s (base h.depth) a.x a.y n j < 2 ^ h.depth = λ j.
      above_within s h.depth w t deep samples_within a.x a.y n j is.column is.row (some_available w a.x a.width run goes_right is.column is.some_columns)
      (available_inside w a.x a.width run goes_right is.column) in
      let left : (i : ℕ) → left_at s (base h.depth) a.x a.y m i < 2 ^ h.depth = λ i.
      left_within s h.depth w t deep samples_within a.x a.y m i is.column is.row (some_available t a.y a.height run goes_low is.row is.some_rows)
      (available_inside t a.y a.height run goes_low is.row) in
      let corner : cond (needs_corner mode step) (corner_at s (base h.depth) a.x a.y) (base h.depth) < 2 ^ h.depth =
      chosen_below (needs_corner mode step) _ _ _ (corner_within s h.depth w t deep samples_within a.x a.y is.column is.row)
      (omega (arith, base_within h.depth deep)) in
      record {
        above = by_index-all (λ k. k < 2 ^ h.depth) (a.width + where_needed (needs_above_right mode step) a.height) _ (λ j l. above j);
        left = by_index-all (λ k. k < 2 ^ h.depth)
            (where_needed (needs_left mode a.x) a.height + where_needed (needs_below_left mode step) a.width) _ (λ i l. left i);
        corner = chosen_below (smooths_corner filter mode step a.width a.height) _ _ _ (smoothed_within _ _ _ _ (left 0) corner (above 0)) corner;
      }

  -- what an intra mode predicts lies within the depth
  pub mode_within : (block : PlaneBlock) (n : ℕ) (filter : Option IntraEdgeFilterParameters) (mode : PredictionMode) (param : IntraParam) (luma : ℕ → ℕ → ℤ)
      (r c : ℕ)
      → by_mode (extent_of h p) filter mode param a (placed_edge h p block n a num plane) luma r c < 2 ^ h.depth
  mode_within block n filter mode param luma r c =
      predicted_within _ _ _ _ luma _ r c deep (edge_within h.edge_filter (answer_right h p block n a) (answer_low h p block n a) (effective mode a.x a.y)
      (step_of param))

module _ {T : Type 0} (num : T → ℕ) (pixel : ℕ → T) (law : (v : ℕ) → num (pixel v) ≡ v) (back : (x : T) → pixel (num x) ≡ x) (plan : Scene) (p : ℕ)
    (luma : PlaneBlock → ℕ → ℕ → ℤ) (plane : Plane T) (stores : Stores num plan.header p plane) where
  -- what a prediction from the samples round a block gives does
  prediction_within : 8 ≤ plan.header.depth → (block : PlaneBlock) (n : ℕ) (a : VisibleArea) → BeginsIn plan.header p a → (of : Prediction) →
      is_whole of ≡ false → (f : ℕ → ℕ → ℤ) (r c : ℕ)
      → by_prediction plan p of a (placed_edge plan.header p block n a num plane) f r c < 2 ^ plan.header.depth
  unfolding by_prediction
  prediction_within deep block n a is (predictions.Intra mode step filter) e f r c =
      mode_within num plan.header p plane stores deep a is block n filter mode (AngleDelta step) no_luma r c
  prediction_within deep block n a is (predictions.FromLuma alpha) e f r c =
      mode_within num plan.header p plane stores deep a is block n None UV_CFL_PRED (Alpha alpha) f r c
  prediction_within deep block n a is (predictions.Inter motion) e f r c = absurd cc
  prediction_within deep block n a is (predictions.Parts parts) e f r c = absurd cc

  -- so the plane stores its part of the frame once a transform block is predicted, where it is predicted by itself,
  pub own_stores : 8 ≤ plan.header.depth → (block : PlaneBlock) (n : ℕ) (a : VisibleArea) → BeginsIn plan.header p a →
      Stores num plan.header p (fold (fast_in num pixel plan p luma) plane (own_prediction block n a))
  unfolding fast_in
  own_stores deep block n a is = go (is_whole block.prediction) refl
    where
      go : (t : Bool) → is_whole block.prediction ≡ t →
          Stores num plan.header p (fold (fast_in num pixel plan p luma) plane (if t then [] else predict block n a ∷ []))
      go true e = stores
      go false e = record {
        place = painted_place plan.header p plane a _ stores.place;
        within =
            painted_numbers_below num pixel law (2 ^ plan.header.depth) plane a _ stores.within
            (λ r c v hr hc l. prediction_within deep block n a is block.prediction e (luma block) r c);
      }

  module _ (from : TileReferences T) (holds : ServesScene num plan from) (below : p < 3) where
    -- what a motion predicts lies within the depth
    abbrev AreWithin : (VisibleArea → ℕ → ℕ → ℕ) → Type 0
    AreWithin f = (a : VisibleArea) (r c : ℕ) → f a r c < 2 ^ plan.header.depth

    plan_within : (m : Motion) → MotionServes plan.header m → (a : VisibleArea) (r c : ℕ) →
        plan_motion holds.plan p m a r c < 2 ^ holds.plan.header.depth
    plan_within m serves a r c =
        let first = reference_of m.references 0 in
        chosen_below (is_reference (reference_of m.references 1)) _ _ _ (compound_motion_within holds.plan p m.references m.mvs a r c)
        (held_motion_within num holds.plan from.fi.now first p (vector_of m.mvs 0) a r c holds.serves (holds.has first ∙ serves.first.has) below)

    motion_within : (m : Motion) → MotionServes plan.header m → AreWithin (plan.motion p m)
    motion_within m serves a r c =
        let own = plan_within m serves (in_frame (rect_of from p) a) r c in
        subst (λ (n : ℕ). n < 2 ^ plan.header.depth) (sym (holds.motion p m a r c))
        (subst (λ (d : ℕ). plan_motion holds.plan p m (in_frame (rect_of from p) a) r c < 2 ^ d) holds.depth own)

    -- and so do halves
    narrow_within : (narrow : Bool) (f g : VisibleArea → ℕ → ℕ → ℕ) → AreWithin f → AreWithin g → AreWithin (beside narrow f g)
    narrow_within false f g first second a r c = second a r c
    narrow_within true f g first second a r c =
        let w = a.width / 2 in
        chosen_below (nat_lt c w) _ _ _ (first (record a { width = w }) r c) (second (record a { x = a.x + w; width = a.width - w }) r (c - w))

    low_within : (low : Bool) (f g : VisibleArea → ℕ → ℕ → ℕ) → AreWithin f → AreWithin g → AreWithin (above low f g)
    low_within false f g first second a r c = second a r c
    low_within true f g first second a r c =
        let n = a.height / 2 in
        chosen_below (nat_lt r n) _ _ _ (first (record a { height = n }) r c) (second (record a { y = a.y + n; height = a.height - n }) (r - n) c)

    parts_within : (parts : MotionParts) → PartsServe plan.header parts → AreWithin (parts_motion (plan.motion p) parts)
    parts_within parts serve =
        low_within parts.low _ _ (narrow_within parts.narrow _ _ (motion_within parts.corner serve.corner) (motion_within parts.over serve.over))
        (narrow_within parts.narrow _ _ (motion_within parts.side serve.side) (motion_within parts.own serve.own))

    -- what is predicted from references that frame settings hold lies within the depth too
    whole_within : (area : PlaneArea) (of : Prediction) → PredictionFits plan.header p area of → is_whole of ≡ true →
        (a : VisibleArea) (edge : PredictionMode → ℤ → Edge) (f : ℕ → ℕ → ℤ) (r c : ℕ)
        → by_prediction plan p of a edge f r c < 2 ^ plan.header.depth
    unfolding by_prediction
    whole_within area (predictions.Intra mode step filter) fits e a edge f r c = absurd cc
    whole_within area (predictions.FromLuma alpha) fits e a edge f r c = absurd cc
    whole_within area (predictions.Inter motion) fits e a edge f r c = motion_within motion fits.serves a r c
    whole_within area (predictions.Parts parts) fits e a edge f r c = parts_within parts fits.serve a r c

    -- and a whole area is
    pub whole_stores : (block : PlaneBlock) → PredictionFits plan.header p block.area block.prediction →
        Stores num plan.header p (fold (fast_in num pixel plan p luma) plane (whole_steps block))
    unfolding fast_in
    whole_stores block fits = go (is_whole block.prediction) refl
      where
        go : (t : Bool) → is_whole block.prediction ≡ t →
            Stores num plan.header p (fold (fast_in num pixel plan p luma) plane (if t then predict block 0 (leaf_area block.area) ∷ [] else []))
        go true e = record {
          place = painted_place plan.header p plane (leaf_area block.area) _ stores.place;
          within =
              painted_numbers_below num pixel law (2 ^ plan.header.depth) plane (leaf_area block.area) _ stores.within
              (λ r c v hr hc l. whole_within block.area block.prediction fits e (leaf_area block.area) _ (luma block) r c);
        }
        go false e = stores

  -- and once a residue is added
  pub added_stores : (block : PlaneBlock) (triples : List Triple) (n : ℕ) (a : VisibleArea) →
      Stores num plan.header p (fast_in num pixel plan p luma plane (add block triples n a))
  unfolding fast_in
  added_stores block triples n a = record {
    place = painted_place plan.header p plane a _ stores.place;
    within = painted_numbers_below num pixel law (2 ^ plan.header.depth) plane a _ stores.within (λ r c v hr hc l. clip_within plan.header.depth _);
  }
