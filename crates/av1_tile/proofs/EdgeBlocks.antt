-- A transform block that is predicted from its edge: what the two calls of prediction say, in the walk's words.
use Rattle.std.proofs.Common.{ℕ, ◌-◌, ◌*◌, ◌+◌, ◌/◌, ◌%◌, ◌<◌, ◌≤◌, ◌≡◌, ◌≢◌, List, length, map, reverse, refl, ap, arith, ◌∙◌, sym, subst, Option, Some, ℤ}
use Rattle.std.proofs.Common.{pos, true, false}
use Rattle.std.specs.Prelude.{unsigned_abs, option_map}
use Rattle.std.proofs.lemmas.List.{reverse-reverse, length-reverse}
use mathlib.Core.Path.{fun_ext}
use Rattle.av1_blocks.specs.declared.predict.PredictionMode.{PredictionMode}
use Rattle.av1_blocks.specs.declared.predict.PredictionMode.TheVariants.{UV_CFL_PRED}
use Rattle.av1_blocks.specs.declared.predict.IntraParam.{IntraParam}
use Rattle.av1_blocks.specs.Modes.{is_cfl, is_directional}
use Rattle.av1_blocks.specs.Transforms.{tx_width, tx_height}
use Rattle.av1_avail.specs.Asked.{takes_above_right, takes_below_left}
use Rattle.av1_edges.specs.Edges.{Edge, prepared_edge, region_sample, visible_columns, visible_rows}
use Rattle.av1_edges.specs.Edges.{position_of}
use Rattle.av1_edges.specs.Parts.{effective, step_of}
use Rattle.av1_lists.proofs.Lists.{length-by_index, length_shown}
use Rattle.av1_intra.specs.Angles.{is_interpolated}
use Rattle.av1_intra.specs.ChromaFromLuma.{ac_at}
use Rattle.av1_intra.specs.Predicted.{edge_round, predicted, places_above, places_left, variant_at, alpha_of, angle_or_alpha}
use Rattle.av1_intra.specs.Neighbours.{uses_smooth_filter}
use Rattle.av1_intra.specs.declared.directional.DirectionalBlock.{DirectionalBlock}
use Rattle.av1_intra.specs.declared.neighbours.IntraEdgeFilterParameters.{IntraEdgeFilterParameters}
use Rattle.av1_intra.specs.declared.variant.PredictionVariant.{PredictionVariant}
use Rattle.av1_intra.proofs.ByMode.{angle_fine, angle_given, weighed_alike}
use Rattle.av1_intra.proofs.EdgeLengths.{enough_above, enough_left}
use Rattle.av1_edges.proofs.WholePlane.{IsAllVisible, whole_columns, whole_rows, whole_sample}
use Rattle.av1_frame.specs.declared.block_unit.TileBlockOffset.{TileBlockOffset}
use Rattle.av1_frame.specs.declared.plane.Plane.{Plane}
use Rattle.av1_frame.specs.declared.plane.PlaneConfig.{PlaneConfig}
use Rattle.av1_frame.specs.declared.plane.PlaneOffset.{PlaneOffset}
use Rattle.av1_frame.specs.declared.plane_region.PlaneRegion.{PlaneRegion}
use Rattle.av1_frame.specs.Areas.{all_visible, stored_area}
use Rattle.av1_frame.specs.Planes.{sample_at}
use Rattle.av1_plan.specs.declared.header.Header.{Header}
use Rattle.av1_plan.specs.Geometry.{xdec, ydec, blocks_across, plane_width, plane_height}
use Rattle.av1_tile.specs.declared.block.BlockPlace.{BlockPlace}
use Rattle.av1_tile.specs.declared.plane_block.PlaneBlock.{PlaneBlock}
use Rattle.av1_tile.specs.PlaneBlocks.{extent_of}
use Rattle.av1_tile.specs.Reference.{by_mode}
use Rattle.av1_tile.specs.Walk.{IsPlaceIn, IsPlaneOf, area_at, edge_by_place, edge_for, placed_edge}
use Rattle.av1_tile.proofs.BlockTurns.{place_prepared}

-- ---- the region that the edge is read from

column_is : (a r c : ℕ) → c < a → (r * a + c) % a ≡ c
column_is a r c h = grind arith

row_is : (a r c : ℕ) → c < a → (r * a + c) / a ≡ r
row_is a r c h = grind arith

module _ {T : Type 0} (num : T → ℕ) (h : Header) (block : PlaneBlock) (at : BlockPlace) (is : IsPlaceIn h block at) (plane : Plane T)
    (place : IsPlaneOf h block.plane plane)
    (r : PlaneRegion T) (r_samples : r.samples.now ≡ plane.samples) (r_cfg : r.plane_cfg ≡ plane.plane_cfg)
    (r_place : r.area ≡ stored_area plane.plane_cfg (all_visible plane.plane_cfg)) where
  all : IsAllVisible r
  all = r_place ∙ ap (λ (c : PlaneConfig). stored_area c (all_visible c)) (sym r_cfg)

  columns : plane_width h block.plane ≡ visible_columns r
  columns = sym (whole_columns r all ∙ ap (λ (c : PlaneConfig). c.width) r_cfg ∙ place.width)

  rows : plane_height h block.plane ≡ visible_rows r
  rows = sym (whole_rows r all ∙ ap (λ (c : PlaneConfig). c.height) r_cfg ∙ place.height)

  -- the edge that is prepared there
  pub edge_placed : (mode : PredictionMode) (param : IntraParam) (po : PlaneOffset) (depth : ℕ) (q : Plane T) → po ≡ record { x = pos at.x; y = pos at.y } →
      depth ≡ h.depth → q ≡ plane
      → prepared_edge num r
      (position_of (record { 0 = record { x = block.leaf.x / 4; y = block.leaf.y / 4 } }) at.column at.row block.leaf.size po block.area.tx_size) depth
      (Some mode) h.edge_filter param ≡ edge_for h block at mode param num q
  edge_placed mode param po depth q e deep same =
      let t = block.area.tx_size in
      let size = block.leaf.size in
      let bo : TileBlockOffset = record { 0 = record { x = block.leaf.x / 4; y = block.leaf.y / 4 } } in
      let p0 : PlaneOffset = record { x = pos at.x; y = pos at.y } in
      let samples : region_sample num r ≡ sample_at num plane = fun_ext (λ x. fun_ext (λ y. whole_sample r all num plane x y r_samples r_cfg)) in
      let across : r.plane_cfg.xdec ≡ xdec h block.plane = ap (λ (c : PlaneConfig). c.xdec) r_cfg ∙ place.xdec in
      let down : r.plane_cfg.ydec ≡ ydec h block.plane = ap (λ (c : PlaneConfig). c.ydec) r_cfg ∙ place.ydec in
      let n = at.number % blocks_across block.area in
      let m = at.number / blocks_across block.area in
      let column : n ≡ at.column = ap (λ (k : ℕ). k % blocks_across block.area) is.number ∙ column_is (blocks_across block.area) at.row at.column is.column in
      let row : m ≡ at.row = ap (λ (k : ℕ). k / blocks_across block.area) is.number ∙ row_is (blocks_across block.area) at.row at.column is.column in
      let f : (ℕ → ℕ → ℕ) → ℕ → ℕ → ℕ → ℕ → Edge = λ s dx dy i j.
      edge_by_place (extent_of h block.plane) s h.edge_filter (area_at block at)
      (takes_above_right size bo.0.x bo.0.y t i j dx dy at.x (plane_width h block.plane))
      (takes_below_left size bo.0.x bo.0.y t i j dx dy at.y (plane_height h block.plane)) (effective mode at.x at.y) (step_of param) in
      let s = sample_at num plane in
      ap (λ (p : PlaneOffset). prepared_edge num r (position_of bo at.column at.row size p t) depth (Some mode) h.edge_filter param) e
      ∙ ap (λ (d : ℕ). prepared_edge num r (position_of bo at.column at.row size p0 t) d (Some mode) h.edge_filter param) deep
      ∙ sym (place_prepared num r (extent_of h block.plane) h.edge_filter mode param bo at.column at.row size p0 t columns rows)
      ∙ ap (λ (k : ℕ → ℕ → ℕ). f k r.plane_cfg.xdec r.plane_cfg.ydec at.column at.row) samples
      ∙ ap (λ (d : ℕ). f s d r.plane_cfg.ydec at.column at.row) across
      ∙ ap (λ (d : ℕ). f s (xdec h block.plane) d at.column at.row) down
      ∙ ap (λ (i : ℕ). f s (xdec h block.plane) (ydec h block.plane) i at.row) (sym column)
      ∙ ap (f s (xdec h block.plane) (ydec h block.plane) n) (sym row)
      ∙ ap (λ (k : Plane T). edge_for h block at mode param num k) (sym same)

-- ---- the edge in its buffer

-- the edge that is handed on is the one whose numbers these are
pub edge_held : {T : Type 0} (num : T → ℕ) (left : List T) (corner : T) (above : List T) (E : Edge) → map num left ≡ reverse E.left → num corner ≡ E.corner →
    map num above ≡ E.above → edge_round num left (num corner) above ≡ E
edge_held num left corner above E l k a = rw (l, k, a, reverse-reverse E.left) refl

-- ---- the rectangle that is predicted

-- the block as a mode predicts it
abbrev pub rectangle_by : Header → PlaneBlock → BlockPlace → Option IntraEdgeFilterParameters → PredictionMode → IntraParam → DirectionalBlock
rectangle_by h block at filter mode param = record {
  p_angle = unsigned_abs (angle_or_alpha mode param);
  width = tx_width block.area.tx_size;
  height = tx_height block.area.tx_size;
  bit_depth = h.depth;
  smooth_filter = option_map uses_smooth_filter filter;
  visible_columns = plane_width h block.plane - at.x;
  visible_rows = plane_height h block.plane - at.y;
}

-- the weight of luma is what the mode takes, if it takes one
weight_taken : (mode : PredictionMode) (param : IntraParam) → is_cfl mode ≡ true → alpha_of param ≡ angle_or_alpha mode param
weight_taken mode param =
    elim mode as (λ m. is_cfl m ≡ true → alpha_of param ≡ angle_or_alpha m param) [
      | UV_CFL_PRED ↦ λ h. refl
      | _ ↦ λ h. (let f : false ≡ true = h in cc)
    ]

-- the mode in effect, the sides in the tile and the rectangle, as the code has them
module _ {T : Type 0} (num : T → ℕ) (h : Header) (block : PlaneBlock) (at : BlockPlace) (plane : Plane T) (filter : Option IntraEdgeFilterParameters)
    (mode : PredictionMode) (param : IntraParam) (m : PredictionMode) (v : PredictionVariant) (b : DirectionalBlock) (m_is : m ≡ effective mode at.x at.y)
    (v_is : v ≡ variant_at at.x at.y)
    (b_is : b ≡ rectangle_by h block at filter m param) where
  -- sides with these numbers are as long as the mode reads
  pub above_enough : (xs : List T) → map num xs ≡ (edge_for h block at mode param num plane).above → places_above m v b.p_angle b.width b.height ≤ length xs
  above_enough xs e =
      let w = tx_width block.area.tx_size in
      let d = tx_height block.area.tx_size in
      let long = length_shown num xs _ e ∙ length-by_index _ _ in
      let M = effective mode at.x at.y in
      let here : places_above M (variant_at at.x at.y) (unsigned_abs (angle_or_alpha M param)) w d ≤ length xs =
      omega (arith, enough_above h.edge_filter M param at.x at.y w d, long) in
      subst (λ (k : DirectionalBlock). places_above m v k.p_angle k.width k.height ≤ length xs) (sym b_is)
      (subst (λ (n : PredictionMode). places_above n v (unsigned_abs (angle_or_alpha n param)) w d ≤ length xs) (sym m_is)
      (subst (λ (u : PredictionVariant). places_above M u (unsigned_abs (angle_or_alpha M param)) w d ≤ length xs) (sym v_is) here))

  pub left_enough : (xs : List T) → unsigned_abs (step_of param) ≤ 3 → map num xs ≡ reverse (edge_for h block at mode param num plane).left →
      places_left m v b.p_angle b.width b.height ≤ length xs
  left_enough xs few e =
      let w = tx_width block.area.tx_size in
      let d = tx_height block.area.tx_size in
      let long = length_shown num xs _ e ∙ length-reverse (edge_for h block at mode param num plane).left ∙ length-by_index _ _ in
      let M = effective mode at.x at.y in
      let here : places_left M (variant_at at.x at.y) (unsigned_abs (angle_or_alpha M param)) w d ≤ length xs =
      omega (arith, enough_left h.edge_filter M param at.x at.y w d few, long) in
      subst (λ (k : DirectionalBlock). places_left m v k.p_angle k.width k.height ≤ length xs) (sym b_is)
      (subst (λ (n : PredictionMode). places_left n v (unsigned_abs (angle_or_alpha n param)) w d ≤ length xs) (sym m_is)
      (subst (λ (u : PredictionVariant). places_left M u (unsigned_abs (angle_or_alpha M param)) w d ≤ length xs) (sym v_is) here))

  -- its angle is one that directional prediction takes
  pub angle_taken : unsigned_abs (step_of param) ≤ 3 → unsigned_abs (alpha_of param) ≤ 16 → is_directional m ≡ true → b.p_angle ≢ 90 → b.p_angle ≢ 180 →
      is_interpolated b.p_angle ≡ true
  angle_taken few small has =
      let P : ℕ → Type 0 = λ n. n ≢ 90 → n ≢ 180 → is_interpolated n ≡ true in
      subst (λ (k : DirectionalBlock). P k.p_angle) (sym b_is) (angle_fine m has (angle_or_alpha m param) (angle_given m param few small))

  -- the sample at row q and column p that is predicted
  pub rectangle_predicted : (luma : List ℤ) (z : ℤ) (e : Edge) (q p : ℕ) → z ≡ alpha_of param → e ≡ edge_for h block at mode param num plane
      → predicted b v m z (ac_at b.width luma) e q p
      ≡ by_mode (extent_of h block.plane) filter mode param (area_at block at)
      (placed_edge h block.plane block at.number (area_at block at) num plane) (ac_at (tx_width block.area.tx_size) luma) q p
  rectangle_predicted luma z e q p z_is e_is =
      let R = λ (n : PredictionMode). rectangle_by h block at filter n param in
      let L = ac_at (tx_width block.area.tx_size) luma in
      let M = effective mode at.x at.y in
      let V = variant_at at.x at.y in
      ap (λ (k : DirectionalBlock). predicted k v m z (ac_at k.width luma) e q p) b_is
      ∙ ap (λ (n : PredictionMode). predicted (R n) v n z L e q p) m_is
      ∙ ap (λ (u : PredictionVariant). predicted (R M) u M z L e q p) v_is
      ∙ weighed_alike (R M) V M z (angle_or_alpha M param) L e q p (λ c. z_is ∙ weight_taken M param c)
      ∙ ap (λ (k : Edge). predicted (R M) V M (angle_or_alpha M param) L k q p) e_is
