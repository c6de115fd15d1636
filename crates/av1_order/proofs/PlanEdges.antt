-- What is written round a transform block of a plan when its turn comes.
use Rattle.std.proofs.Common.{◌≡◌, ℕ, ◌+◌, ◌-◌, ◌/◌, ◌<◌, true, false, List, ◌∷◌, ◌++◌, map, length, Some, None, sym, ◌∙◌, ap, ◌≤◌, arith}
use Rattle.std.specs.List.{All, filter_map, range_with_len}
use Rattle.std.proofs.lemmas.List.{append_assoc, map-append}
use Rattle.av1_plan.specs.declared.header.Header.{Header}
use Rattle.av1_plan.specs.CodingOrder.{superblock_count, placed, IsOnGrid}
use Rattle.av1_plan.specs.Geometry.{xdec, ydec, covers_plane, block_count, plane_width, plane_height, coded_width, coded_height}
use Rattle.av1_plan.specs.Plan.{LeafValue}
use Rattle.av1_plan.specs.Tree.{Tree, frame_leaves}
use Rattle.av1_plan.specs.Validity.{fault_of}
use Rattle.av1_plan.proofs.ValidLeaves.{IsValidLeaf}
use Rattle.av1_order.specs.Steps.{Coding, Step, plane_steps}
use Rattle.av1_order.specs.Samples.{EdgesAreTold, IsVisible, is_covered_sample}
use Rattle.av1_order.specs.Places.{told_before}
use Rattle.av1_order.specs.Asked.{HasSizes, IsAnswered}
use Rattle.av1_order.proofs.Asked.{is_answered}
use Rattle.av1_blocks.specs.declared.partition.BlockSize.{BlockSize}
use Rattle.av1_blocks.specs.declared.transform.TxSize.{TxSize}
use Rattle.av1_order.specs.Plans.{IsWholeFrame, is_inter, coding_in}
use Rattle.av1_order.proofs.Edges.{planes_are_written, told_at_cut, edges_at_cut, placed_at_cut}
use Rattle.av1_order.proofs.Each.{IsPlaced}
use Rattle.av1_order.proofs.Numbered.{kept_cut}
use Rattle.av1_order.proofs.PlanBlocks.{visible_units, numbered_in, area_in, leaf_numbered}
use Rattle.av1_order.proofs.Planes.{plane_steps-append, frame_is_ordered}
use Rattle.av1_order.proofs.Plans.{halved_x, halved_y, plans_are_frames}

-- a sample of the visible plane
pub visible_in : (h : Header) (p : ℕ) → IsWholeFrame h → (x y : ℕ) → x < plane_width h p → y < plane_height h p →
    IsVisible (xdec h p) (ydec h p) (coded_width h / 4) (coded_height h / 4) x y
unfolding plane_width plane_height
visible_in h p frame x y column row =
    let low : ydec h p ≤ 1 = omega (arith, halved_x h p, halved_y h p) in
    let across = visible_units (coded_width h) (xdec h p) (halved_x h p) frame.width in
    let along = visible_units (coded_height h) (ydec h p) low frame.height in
    record { column = rw across at column; row = rw along at row }

-- the steps of all leaves write each of them
pub plan_written : (h : Header) (p : ℕ) (leaves : List LeafValue) (trees : List (Tree Coding 4)) → IsWholeFrame h → All (λ l. fault_of h l ≡ None) leaves
    → frame_leaves (coded_width h / 4) (coded_height h / 4) trees ≡ map (placed (coding_in h p)) leaves →
    length trees ≡ superblock_count (coded_width h / 4) (coded_height h / 4)
    → (x y : ℕ) → IsVisible (xdec h p) (ydec h p) (coded_width h / 4) (coded_height h / 4) x y
    → is_covered_sample (xdec h p) (ydec h p)
    (plane_steps (xdec h p) (ydec h p) (coded_width h / 4) (coded_height h / 4) (map (placed (coding_in h p)) leaves)) x y ≡ true
plan_written h p leaves trees frame faultless ordered count x y here =
    ap (λ ls. is_covered_sample (xdec h p) (ydec h p) (plane_steps (xdec h p) (ydec h p) (coded_width h / 4) (coded_height h / 4) ls) x y) (sym ordered)
    ∙ planes_are_written (xdec h p) (ydec h p) (coded_width h / 4)
    (coded_height h / 4) trees (plans_are_frames h p leaves trees frame faultless ordered) count x y here

module _ (h : Header) (p : ℕ) (earlier : List LeafValue) (l : LeafValue) (later : List LeafValue) (trees : List (Tree Coding 4))
    (frame : IsWholeFrame h) (grid : IsOnGrid h l) (valid : IsValidLeaf h l) (faultless : All (λ l. fault_of h l ≡ None) (earlier ++ l ∷ later))
    (ordered : frame_leaves (coded_width h / 4) (coded_height h / 4) trees ≡ map (placed (coding_in h p)) (earlier ++ l ∷ later))
    (intra : is_inter l.kind ≡ false) (covered : covers_plane h l.x l.y l.size p ≡ true)
    (n : ℕ) (within : n < block_count (area_in h p l frame grid valid)) (s : Step) (is : numbered_in h p l frame grid valid n ≡ Some s) where
  -- the steps before block n of the leaf: those of the leaves before it, and those of its blocks of lower numbers
  abbrev pub steps_before : List Step
  steps_before =
      plane_steps (xdec h p) (ydec h p) (coded_width h / 4) (coded_height h / 4) (map (placed (coding_in h p)) earlier)
      ++ filter_map (numbered_in h p l frame grid valid) (range_with_len 0 n)

  abbrev steps_after : List Step
  steps_after =
      filter_map (numbered_in h p l frame grid valid) (range_with_len (n + 1) (block_count (area_in h p l frame grid valid) - n - 1))
      ++ plane_steps (xdec h p) (ydec h p) (coded_width h / 4) (coded_height h / 4) (map (placed (coding_in h p)) later)

  cut_there : plane_steps (xdec h p) (ydec h p) (coded_width h / 4) (coded_height h / 4) (frame_leaves (coded_width h / 4) (coded_height h / 4) trees) ≡
      steps_before ++ s ∷ steps_after
  cut_there =
      let code = placed (coding_in h p) in
      let steps = plane_steps (xdec h p) (ydec h p) (coded_width h / 4) (coded_height h / 4) in
      let f = numbered_in h p l frame grid valid in
      let all = block_count (area_in h p l frame grid valid) in
      let low = filter_map f (range_with_len 0 n) in
      let high = filter_map f (range_with_len (n + 1) (all - n - 1)) in
      ap steps (ordered ∙ map-append code earlier (l ∷ later))
      ∙ plane_steps-append (xdec h p) (ydec h p) (coded_width h / 4) (coded_height h / 4) (map code earlier) (map code (l ∷ later))
      ∙ ap (λ ss. steps (map code earlier) ++ (ss ++ steps (map code later)))
      (leaf_numbered h p l frame grid valid intra covered ∙ kept_cut f n all s within is)
      ∙ ap (λ ss. steps (map code earlier) ++ ss) (append_assoc low (s ∷ high) (steps (map code later)))
      ∙ sym (append_assoc (steps (map code earlier)) low (s ∷ (high ++ steps (map code later))))

  pub block_edges : EdgesAreTold (xdec h p) (ydec h p) (coded_width h / 4) (coded_height h / 4) steps_before s
  block_edges =
      edges_at_cut (xdec h p) (ydec h p) (coded_width h / 4) (coded_height h / 4) (length trees) (frame_leaves (coded_width h / 4) (coded_height h / 4) trees)
      (frame_is_ordered (xdec h p) (ydec h p) (coded_width h / 4)
      (coded_height h / 4) trees (plans_are_frames h p (earlier ++ l ∷ later) trees frame faultless ordered))
      steps_before s steps_after cut_there

  pub block_placed : IsPlaced (xdec h p) (ydec h p) (coded_width h / 4) (coded_height h / 4) s
  block_placed =
      placed_at_cut (xdec h p) (ydec h p) (coded_width h / 4) (coded_height h / 4) (length trees) (frame_leaves (coded_width h / 4) (coded_height h / 4) trees)
      (frame_is_ordered (xdec h p) (ydec h p) (coded_width h / 4)
      (coded_height h / 4) trees (plans_are_frames h p (earlier ++ l ∷ later) trees frame faultless ordered))
      steps_before s steps_after cut_there

  pub block_told : (x y : ℕ) → IsVisible (xdec h p) (ydec h p) (coded_width h / 4) (coded_height h / 4) x y
      → is_covered_sample (xdec h p) (ydec h p) steps_before x y ≡ told_before (xdec h p) (ydec h p) s (x / 4) (y / 4)
  block_told =
      told_at_cut (xdec h p) (ydec h p) (coded_width h / 4) (coded_height h / 4) (length trees) (frame_leaves (coded_width h / 4) (coded_height h / 4) trees)
      (frame_is_ordered (xdec h p) (ydec h p) (coded_width h / 4)
      (coded_height h / 4) trees (plans_are_frames h p (earlier ++ l ∷ later) trees frame faultless ordered))
      steps_before s steps_after cut_there

  pub block_answered : (b : BlockSize) (t : TxSize) → HasSizes s b t →
      IsAnswered (xdec h p) (ydec h p) (coded_width h / 4) (coded_height h / 4) steps_before s b t
  block_answered =
      let low : ydec h p ≤ 1 = omega (arith, halved_x h p, halved_y h p) in
      is_answered (xdec h p) (ydec h p) (coded_width h / 4) (coded_height h / 4) (halved_x h p) low steps_before s block_placed block_told
