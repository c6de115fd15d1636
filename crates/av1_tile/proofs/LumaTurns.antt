-- When the chroma of a leaf has its turn, the luma that it is predicted from is written: by the law of coding order.
use Rattle.std.proofs.Common.{ℕ, zero, suc, ◌+◌, ◌-◌, ◌*◌, ◌/◌, ◌^◌, ◌<◌, ◌≤◌, ◌≡◌, min, max, true, List, [], ◌∷◌, ◌++◌, refl, ap, arith, ◌∙◌, sym, subst}
use Rattle.std.specs.Int.{next_multiple_of}
use Rattle.std.specs.List.{AllByRecursion}
use Rattle.std.specs.Prelude.{nat_le, if◌then◌else◌}
use Rattle.av1_blocks.specs.Blocks.{block_width, block_height}
use Rattle.av1_blocks.specs.Chroma.{plane_side}
use Rattle.av1_blocks.specs.Transforms.{tx_width, tx_height}
use Rattle.av1_blocks.specs.declared.partition.BlockSize.{BlockSize}
use Rattle.av1_blocks.specs.declared.partition.BlockSize.TheVariants.{BLOCK_4X4}
use Rattle.av1_blocks.specs.declared.transform.TxSize.{TxSize}
use Rattle.av1_blocks.specs.declared.transform.TxSize.TheVariants.{TX_4X4}
use Rattle.av1_intra.specs.ChromaFromLuma.{luma_start, last_of_leaf, chroma_block, columns_read, rows_read, first_luma_column, first_luma_row}
use Rattle.av1_order.specs.ChromaFromLuma as order
use Rattle.av1_plan.specs.CodingOrder.{IsQuarterInside}
use Rattle.av1_order.specs.Steps.{Step}
use Rattle.av1_order.specs.Turns.{IsCodedPlan, leaves_steps, is_written}
use Rattle.av1_order.proofs.ChromaFromLuma.{luma_is_written, luma_width, luma_height}
use Rattle.av1_order.proofs.Cuts.{cut_faultless}
use Rattle.av1_order.proofs.Plans.{halved_x, halved_y, in_plane_block}
use Rattle.av1_plan.proofs.ValidLeaves.{IsValidLeaf, valid_leaf}
use Rattle.av1_plan.proofs.ValidModes.{valid_modes}
use Rattle.av1_plan.specs.Geometry.{xdec, ydec, carries_chroma, plane_width, plane_height, plane_size, coded_width, coded_height}
use Rattle.av1_plan.specs.Plan.{LeafValue}
use Rattle.av1_plan.specs.declared.header.Header.{Header}
use Rattle.av1_tile.specs.Canvas.{Y}
use Rattle.av1_tile.specs.PlaneBlocks.{is_from_luma}
use Rattle.av1_tile.specs.Reference.{luma_of}
use Rattle.av1_tile.specs.Steps.{PlaneStep}
use Rattle.av1_tile.specs.Walk.{luma_block}
use Rattle.av1_tile.proofs.CflSizes.{small_sides}
use Rattle.av1_tile.proofs.Readiness.{LumaReady}
use Rattle.av1_tile.proofs.Units.{StepFits, covered}
use Rattle.av1_tile.proofs.UnitSteps.{units}

-- ---- sides

-- whole transforms are counted by rounding up
multiple_across : (t : TxSize) (n : ℕ) → next_multiple_of n (tx_width t) ≡ (n + tx_width t - 1) / tx_width t * tx_width t
multiple_across TX_4X4 n = omega arith
multiple_across _ n = omega arith

multiple_down : (t : TxSize) (n : ℕ) → next_multiple_of n (tx_height t) ≡ (n + tx_height t - 1) / tx_height t * tx_height t
multiple_down TX_4X4 n = omega arith
multiple_down _ n = omega arith

side_across : (size : BlockSize) (s : ℕ) → s ≤ 1 → plane_side (block_width size) s ≡ 4 * (max (block_width size / 4) (2 ^ s) / 2 ^ s)
side_across size zero h = whole size
  where
    whole : (size : BlockSize) → plane_side (block_width size) 0 ≡ 4 * (max (block_width size / 4) 1 / 1)
    whole BLOCK_4X4 = refl
    whole _ = refl
side_across size (suc zero) h = halved size
  where
    halved : (size : BlockSize) → plane_side (block_width size) 1 ≡ 4 * (max (block_width size / 4) 2 / 2)
    halved BLOCK_4X4 = refl
    halved _ = refl
side_across size (suc (suc s)) h = absurd (omega arith)

side_down : (size : BlockSize) (s : ℕ) → s ≤ 1 → plane_side (block_height size) s ≡ 4 * (max (block_height size / 4) (2 ^ s) / 2 ^ s)
side_down size zero h = whole size
  where
    whole : (size : BlockSize) → plane_side (block_height size) 0 ≡ 4 * (max (block_height size / 4) 1 / 1)
    whole BLOCK_4X4 = refl
    whole _ = refl
side_down size (suc zero) h = halved size
  where
    halved : (size : BlockSize) → plane_side (block_height size) 1 ≡ 4 * (max (block_height size / 4) 2 / 2)
    halved BLOCK_4X4 = refl
    halved _ = refl
side_down size (suc (suc s)) h = absurd (omega arith)

-- ---- along one direction

-- A place of luma that is read, counted from the first: it is over a sample of chroma, or past what is coded over the last one.
record IsOver (s width last x : ℕ) : Type 0 where
  place : x / 2 ^ s < width
  sample : x - min (x / 2 ^ s * 2 ^ s) last < 2 ^ s
  sum : min (x / 2 ^ s * 2 ^ s) last + (x - min (x / 2 ^ s * 2 ^ s) last) ≡ x

is_over : (s width last x : ℕ) → s ≤ 1 → x < min (width * 2 ^ s) (last + 2 ^ s) → IsOver s width last x
is_over zero width last x h lt = record { place = omega (arith, lt); sample = omega (arith, lt); sum = omega (arith, lt) }
is_over (suc zero) width last x h lt = record { place = omega (arith, lt); sample = omega (arith, lt); sum = omega (arith, lt) }
is_over (suc (suc s)) width last x h lt = absurd (omega arith)

start_same : (s side z : ℕ) → s ≤ 1 → order.luma_start s side z ≡ luma_start z side s
start_same zero side z h = refl
start_same (suc zero) side z h = refl
start_same (suc (suc s)) side z h = absurd (omega arith)

-- chroma of the leaf and the law of coding order read the same places
module _ (s side z frame visible tx : ℕ) (low : s ≤ 1) (same : visible ≡ frame) (multiple : (n : ℕ) → next_multiple_of n tx ≡ (n + tx - 1) / tx * tx) where
  last_same : max (order.unpadded_side s side z frame tx) 8 - 2 ^ s ≡ last_of_leaf z side tx visible s
  last_same =
      let last = λ (k : ℕ). max (side - (side - (if nat_le side 8 then side else k)) / (4 * 2 ^ s) * (4 * 2 ^ s)) 8 - 2 ^ s in
      ap (λ (b : ℕ). last (next_multiple_of (min side (frame - b)) tx)) (start_same s side z low)
      ∙ ap (λ (f : ℕ). last (next_multiple_of (min side (f - luma_start z side s)) tx)) (sym same)
      ∙ ap last (multiple (min side (visible - luma_start z side s)))

  place_same : (c i : ℕ) → order.luma_place s side z frame tx c i ≡ luma_start z side s + (min (c * 2 ^ s) (last_of_leaf z side tx visible s) + i)
  place_same c i =
      ap (λ (b : ℕ). b + min (c * 2 ^ s) (max (order.unpadded_side s side z frame tx) 8 - 2 ^ s) + i) (start_same s side z low)
      ∙ ap (λ (l : ℕ). luma_start z side s + min (c * 2 ^ s) l + i) last_same
      ∙ three (luma_start z side s) (min (c * 2 ^ s) (last_of_leaf z side tx visible s)) i
    where
      three : (a b c : ℕ) → a + b + c ≡ a + (b + c)
      three a b c = omega arith

  over_same : (width x : ℕ) → IsOver s width (last_of_leaf z side tx visible s) x
      → order.luma_place s side z frame tx (x / 2 ^ s) (x - min (x / 2 ^ s * 2 ^ s) (last_of_leaf z side tx visible s)) ≡ luma_start z side s + x
  over_same width x over = place_same (x / 2 ^ s) (x - min (x / 2 ^ s * 2 ^ s) (last_of_leaf z side tx visible s))
      ∙ ap (λ (n : ℕ). luma_start z side s + n) over.sum

-- ---- a leaf

-- a place by two names of its column and of its row
written_at : (h : Header) (steps : List Step) (x z y w : ℕ) → z ≡ x → w ≡ y → is_written h 0 steps z w ≡ true → is_written h 0 steps x y ≡ true
written_at h steps x z y w column row is = ap (λ (n : ℕ). is_written h 0 steps n y) (sym column) ∙ ap (λ (n : ℕ). is_written h 0 steps z n) (sym row) ∙ is

module _ (h : Header) (earlier : List LeafValue) (leaf : LeafValue) (later : List LeafValue) (is : IsCodedPlan h 0 (earlier ++ leaf ∷ later))
    (quarter : IsQuarterInside h leaf)
    (carried : carries_chroma h leaf.x leaf.y leaf.size ≡ true) (from : is_from_luma leaf.kind ≡ true) where
  valid : IsValidLeaf h leaf
  valid = valid_leaf h leaf (cut_faultless h 0 earlier leaf later is)

  low : ydec h 1 ≤ 1
  low = omega (arith, halved_x h 1, halved_y h 1)

  written : (x y : ℕ) → x < columns_read (chroma_block (luma_of h (luma_block leaf))) → y < rows_read (chroma_block (luma_of h (luma_block leaf)))
      → is_written h 0 (leaves_steps h 0 (earlier ++ leaf ∷ [])) (first_luma_column (luma_of h (luma_block leaf)) + x)
      (first_luma_row (luma_of h (luma_block leaf)) + y) ≡ true
  unfolding plane_size
  written x y hx hy =
      let all = leaves_steps h 0 (earlier ++ leaf ∷ []) in
      let (narrow, short) = small_sides h leaf.size leaf.kind (valid_modes h leaf valid) from in
      let plane = in_plane_block h leaf.size 1 valid.size in
      let column =
      is_over (xdec h 1) (plane_side (block_width leaf.size) (xdec h 1)) (chroma_block (luma_of h (luma_block leaf))).last_column x (halved_x h 1) hx in
      let row = is_over (ydec h 1) (plane_side (block_height leaf.size) (ydec h 1)) (chroma_block (luma_of h (luma_block leaf))).last_row y low hy in
      let across = over_same (xdec h 1) (block_width leaf.size) leaf.x (coded_width h) (plane_width h 0) (tx_width leaf.tx_size) (halved_x h 1) (luma_width h)
      (multiple_across leaf.tx_size) _ x column in
      let down = over_same (ydec h 1) (block_height leaf.size) leaf.y (coded_height h) (plane_height h 0) (tx_height leaf.tx_size) low (luma_height h)
      (multiple_down leaf.tx_size) _ y row in
      let law = luma_is_written h earlier leaf later is carried narrow short quarter (x / 2 ^ xdec h 1) (y / 2 ^ ydec h 1)
      (subst (λ (n : ℕ). x / 2 ^ xdec h 1 < n) (side_across leaf.size (xdec h 1) (halved_x h 1) ∙ sym plane.width) column.place)
      (subst (λ (n : ℕ). y / 2 ^ ydec h 1 < n) (side_down leaf.size (ydec h 1) low ∙ sym plane.height) row.place) _ _ column.sample row.sample in
      written_at h all _ _ _ _ across down law

  -- it is written once the leaf's own steps in luma are done
  pub luma_ready : (before : List PlaneStep) → AllByRecursion (StepFits h) before →
      units (xdec h 0) (ydec h 0) Y before ≡ leaves_steps h 0 (earlier ++ leaf ∷ []) → LumaReady h before (luma_block leaf)
  luma_ready before fits are x y hx hy =
      covered h Y before fits (first_luma_column (luma_of h (luma_block leaf)) + x) (first_luma_row (luma_of h (luma_block leaf)) + y)
      ∙ ap (λ (ss : List Step). is_written h 0 ss (first_luma_column (luma_of h (luma_block leaf)) + x) (first_luma_row (luma_of h (luma_block leaf)) + y)) are
      ∙ written x y hx hy
