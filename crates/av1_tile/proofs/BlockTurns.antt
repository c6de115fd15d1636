-- When the turn of a transform block comes: what the canvas knows of its sides is what the availability calls answer; and the edge that is
-- prepared by place.
use Rattle.std.proofs.Common.{ℕ, zero, suc, ◌+◌, ◌-◌, ◌<◌, ◌≤◌, ◌≡◌, Bool, true, false, ◌&&◌, nat_lt, if◌then◌else◌, List, [], ◌++◌, refl, ap, arith, ◌∙◌, sym}
use Rattle.std.proofs.Common.{Some, None}
use Rattle.std.specs.Option.{is_some}
use Rattle.std.specs.Prelude.{unsigned_abs}
use Rattle.std.specs.List.{flat_map, range_with_len}
use Rattle.std.proofs.lemmas.Bool.{lt-ltb}
use Rattle.std.proofs.lemmas.Grind.{flat_map-append}
use Rattle.std.proofs.lemmas.List.{append-nil}
use Rattle.av1_blocks.specs.declared.predict.PredictionMode.{PredictionMode}
use Rattle.av1_blocks.specs.Transforms.{tx_width, tx_height}
use Rattle.av1_frame.specs.declared.plane_region.PlaneRegion.{PlaneRegion}
use Rattle.av1_frame.specs.declared.block_unit.TileBlockOffset.{TileBlockOffset}
use Rattle.av1_frame.specs.declared.plane.PlaneOffset.{PlaneOffset}
use Rattle.av1_blocks.specs.declared.partition.BlockSize.{BlockSize}
use Rattle.av1_blocks.specs.declared.predict.IntraParam.{IntraParam}
use Rattle.av1_blocks.specs.declared.transform.TxSize.{TxSize}
use Rattle.av1_avail.specs.Asked.{takes_above_right, takes_below_left}
use Rattle.av1_edges.specs.Edges.{edge_of_parts, prepared_edge, region_sample, visible_columns, visible_rows}
use Rattle.av1_edges.specs.Edges.{position_of}
use Rattle.av1_edges.specs.Parts.{effective, step_of}
use Rattle.av1_order.specs.Plans.{IsWholeFrame, is_inter}
use Rattle.av1_order.specs.Steps as order
use Rattle.av1_order.specs.Turns.{SidesAreKnown, answer_above_right, answer_below_left, is_written, is_written_above, is_written_left, leaves_steps}
use Rattle.av1_order.specs.Turns.{steps_before, tx_in}
use Rattle.av1_order.proofs.PlanBlocks.{numbered_in}
use Rattle.av1_order.proofs.Sizes.{tx_some}
use Rattle.av1_plan.proofs.ValidLeaves.{IsValidLeaf}
use Rattle.av1_plan.specs.CodingOrder.{IsOnGrid}
use Rattle.av1_plan.specs.Geometry.{block_count, plane_height, plane_width, xdec, ydec}
use Rattle.av1_plan.specs.Plan.{LeafValue}
use Rattle.av1_plan.specs.declared.geometry.TransformBlock.{TransformBlock}
use Rattle.av1_plan.specs.declared.header.Header.{Header}
use Rattle.av1_plan.specs.declared.leaf.Triple.{Triple}
use Rattle.av1_tile.specs.declared.plane_block.Nearby.{Nearby}
use Rattle.av1_tile.specs.declared.extent.PlaneExtent.{PlaneExtent}
use Rattle.av1_tile.specs.Canvas.{Component, Written}
use Rattle.av1_tile.specs.Edge.{known, known_above, known_left}
use Rattle.av1_tile.specs.PlaneBlocks.{extent_of, number, block_told}
use Rattle.av1_tile.specs.Walk.{edge_by_place}
use Rattle.av1_tile.specs.Steps.{PlaneStep, in_component, joined, steps_at}
use Rattle.av1_tile.specs.Lookups.{KnowsSides}
use Rattle.av1_tile.proofs.UnitSteps.{number_units, pieces_kept, unit_of, units, units_joined}

-- ---- the steps before it

module _ (h : Header) (near : Nearby) (k : Component) (leaf : LeafValue) (frame : IsWholeFrame h) (grid : IsOnGrid h leaf)
    (valid : IsValidLeaf h leaf) (intra : is_inter leaf.kind ≡ false) where
  -- Of leaves, of the leaf's steps in other planes, and of its blocks below number n: in plane k these are the steps before block n.
  pub units_before : (earlier : List LeafValue) (front other : List PlaneStep) (triples : List Triple) (n : ℕ) →
      n ≤ block_count (block_told h near k leaf).area
      → units (xdec h (number k)) (ydec h (number k)) k front ≡ leaves_steps h (number k) earlier → units (xdec h (number k)) (ydec h (number k)) k other ≡ []
      → units (xdec h (number k)) (ydec h (number k)) k ((front ++ other) ++ in_component k (joined n (steps_at h (block_told h near k leaf) triples)))
      ≡ steps_before h (number k) earlier leaf n
  unfolding joined
  units_before earlier front other triples n le are none =
      let sx = xdec h (number k) in
      let sy = ydec h (number k) in
      let u = unit_of sx sy k in
      let block = block_told h near k leaf in
      let own = in_component k (flat_map (steps_at h block triples) (range_with_len 0 n)) in
      flat_map-append u (front ++ other) own
      ∙ ap (λ (l : List order.Step). l ++ flat_map u own) (flat_map-append u front other ∙ ap (λ (l : List order.Step). l ++ flat_map u other) are
      ∙ ap (λ (l : List order.Step). leaves_steps h (number k) earlier ++ l) none ∙ append-nil _)
      ∙ ap (λ (l : List order.Step). leaves_steps h (number k) earlier ++ l)
      (units_joined sx sy k (steps_at h block triples) (range_with_len 0 n)
      ∙ pieces_kept (λ m. units sx sy k (in_component k (steps_at h block triples m))) (numbered_in h (number k) leaf frame grid valid) 0 n
      (λ m lt. number_units h near k leaf frame grid valid triples intra m (omega arith)))

-- ---- what the canvas knows

known_some : (extent : PlaneExtent) (written : Written) (x y : ℕ) →
    is_some (known extent written x y) ≡ (nat_lt x extent.width && nat_lt y extent.height && is_some (written x y))
known_some extent written x y = go (nat_lt x extent.width && nat_lt y extent.height)
  where
    go : (t : Bool) → is_some (if t then written x y else None) ≡ (t && is_some (written x y))
    go true = refl
    go false = refl

module _ (h : Header) (p : ℕ) (steps : List order.Step) (written : Written) (same : (x y : ℕ) → is_some (written x y) ≡ is_written h p steps x y) where
  above_is : (x y : ℕ) → is_some (known_above (extent_of h p) written x y) ≡ is_written_above h p steps x y
  above_is x zero = refl
  above_is x (suc y) =
      let e : y ≡ suc y - 1 = omega arith in
      known_some (extent_of h p) written x y ∙ ap (λ (b : Bool). nat_lt x (plane_width h p) && nat_lt y (plane_height h p) && b) (same x y)
      ∙ ap (λ (m : ℕ). nat_lt x (plane_width h p) && nat_lt m (plane_height h p) && is_written h p steps x m) e
      ∙ ap (λ (b : Bool). b && nat_lt x (plane_width h p) && nat_lt (suc y - 1) (plane_height h p) && is_written h p steps x (suc y - 1))
      (sym (lt-ltb 0 (suc y) (omega arith)))

  left_is : (x y : ℕ) → is_some (known_left (extent_of h p) written x y) ≡ is_written_left h p steps x y
  left_is zero y = refl
  left_is (suc x) y =
      let e : x ≡ suc x - 1 = omega arith in
      known_some (extent_of h p) written x y ∙ ap (λ (b : Bool). nat_lt x (plane_width h p) && nat_lt y (plane_height h p) && b) (same x y)
      ∙ turned (nat_lt x (plane_width h p)) (nat_lt y (plane_height h p)) (is_written h p steps x y)
      ∙ ap (λ (m : ℕ). nat_lt y (plane_height h p) && nat_lt m (plane_width h p) && is_written h p steps m y) e
      ∙ ap (λ (b : Bool). b && nat_lt y (plane_height h p) && nat_lt (suc x - 1) (plane_width h p) && is_written h p steps (suc x - 1) y)
      (sym (lt-ltb 0 (suc x) (omega arith)))
    where
      turned : (a b c : Bool) → (a && b && c) ≡ (b && a && c)
      turned true true c = refl
      turned true false c = refl
      turned false true c = refl
      turned false false c = refl

  -- the law of coding order, said of the canvas
  pub block_known : (l : LeafValue) (n : ℕ) (b : TransformBlock) → SidesAreKnown h p l steps n b → b.x < plane_width h p → b.y < plane_height h p
      → KnowsSides (extent_of h p) written (record { x = b.x; y = b.y; width = tx_width (tx_in h p l); height = tx_height (tx_in h p l) })
      (answer_above_right h p l n b) (answer_below_left h p l n b)
  block_known l n b sides begins_x begins_y =
      let some = tx_some (tx_in h p l) in
      record {
        some_columns = omega (arith, some.0);
        some_rows = omega (arith, some.1);
        begins_x = begins_x;
        begins_y = begins_y;
        above = λ j near. above_is (b.x + j) b.y ∙ sides.above j near;
        left = λ i near. left_is b.x (b.y + i) ∙ sides.left i near;
        corner = λ column row. same (b.x - 1) (b.y - 1) ∙ sides.corner column row;
      }

-- ---- the edge

-- The edge by place, of a region's samples, is the one that is prepared there; and what may be taken there is what is answered.
pub place_prepared : {T : Type 0} (num : T → ℕ) (r : PlaneRegion T) (extent : PlaneExtent) (near : Bool) (mode : PredictionMode) (param : IntraParam)
    (bo : TileBlockOffset) (bx by : ℕ) (size : BlockSize) (po : PlaneOffset) (t : TxSize)
    → extent.width ≡ visible_columns r → extent.height ≡ visible_rows r
    → edge_by_place extent (region_sample num r) near
    (record { x = unsigned_abs po.x; y = unsigned_abs po.y; width = tx_width t; height = tx_height t })
    (takes_above_right size bo.0.x bo.0.y t bx by r.plane_cfg.xdec r.plane_cfg.ydec (unsigned_abs po.x) extent.width)
    (takes_below_left size bo.0.x bo.0.y t bx by r.plane_cfg.xdec r.plane_cfg.ydec (unsigned_abs po.y) extent.height)
    (effective mode (unsigned_abs po.x) (unsigned_abs po.y)) (step_of param)
    ≡ prepared_edge num r (position_of bo bx by size po t) extent.depth (Some mode) near param
unfolding edge_of_parts
place_prepared num r extent near mode param bo bx by size po t columns rows = rw (columns, rows) refl
