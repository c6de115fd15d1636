-- The contracts of the calls that predict a block by an intra mode. The block is in numbers, and its first sample is at
-- column x of row y. Rows are `stride` samples apart. AV1 specification: intra prediction process.
use Rattle.std.specs.Prelude.{◌≡◌, ◌≢◌, ◌⊎◌, ℕ, ◌*◌, ◌≤◌, ◌==◌, IsTrue, not, if◌then◌else◌, Bool, false, List, []}
use Rattle.std.specs.Prelude.{length, Option, None, Some, slice_get, ℤ, pos, unsigned_abs}
use Rattle.av1_blocks.specs.Depths.{IsDepth}
use Rattle.av1_blocks.specs.Modes.{is_cfl, is_directional, is_intra}
use Rattle.av1_blocks.specs.Transforms.{tx_height, tx_width}
use Rattle.av1_blocks.specs.declared.predict.IntraParam.TheVariants.{AngleDelta}
use Rattle.av1_blocks.specs.declared.predict.PredictionMode.{PredictionMode}
use Rattle.av1_blocks.specs.declared.predict.TheConstants.PredictionMode as modes
use Rattle.av1_blocks.specs.declared.transform.TxSize.{TxSize}
use Rattle.av1_edges.specs.Parts.{effective}
use Rattle.av1_frame.specs.Areas.{AreRows}
use Rattle.av1_frame.specs.Samples.{paint}
use Rattle.av1_intra.specs.ChromaFromLuma.{ac_at}
use Rattle.av1_intra.specs.Predicted.{angle_or_alpha, edge_round, places_above, places_left, predicted, variant_at}
use Rattle.av1_intra.specs.declared.directional.DirectionalBlock.{DirectionalBlock}
use Rattle.av1_intra.specs.declared.variant.PredictionVariant.{PredictionVariant}
use Rattle.av1_calls.specs.Arguments.{HasNoSize, IsSize, rectangle}
use Rattle.av1_calls.specs.declared.argument.BadArgument.{BadArgument}
use Rattle.av1_calls.specs.declared.argument.BadArgument.TheVariants as bad
use Rattle.av1_calls.specs.declared.intra.Counts.{Counts}
use Rattle.av1_calls.specs.declared.intra.IntraBlock.{IntraBlock}
use Rattle.av1_calls.specs.declared.intra.PredictedBlock.{PredictedBlock}
use Rattle.av1_calls.specs.declared.motion.Place.{Place}
use Rattle.av1_calls.specs.declared.status.TheConstants.{BAD_ANGLE, BAD_AREA, BAD_DEPTH, BAD_MODE, BAD_SIZE, DONE}
use Rattle.av1_calls.specs.declared.status.TheConstants.{TOO_SHORT}

-- ---- what is required

-- this is the intra mode of the number; chroma from luma has its own call
pub record IsIntraMode (number : ℕ) (mode : PredictionMode) : Type 0 where
  pub named : slice_get modes.ALL number ≡ Some mode
  pub intra : IsTrue (is_intra mode)
  pub own : is_cfl mode ≡ false

-- the mode may turn this many steps: up to three either way if it has an angle, else none
pub record IsTurn (mode : PredictionMode) (step : ℤ) : Type 0 where
  pub few : unsigned_abs step ≤ 3
  pub straight : is_directional mode ≡ false → step ≡ pos 0

-- samples of this many bits can have this depth
pub record IsDepthWithin (bits depth : ℕ) : Type 0 where
  pub known : IsDepth depth
  pub fits : depth ≤ bits

-- the edge filter: none if it is off, else whether a neighbour is smooth
abbrev pub filter_of : (on smooth : ℕ) → Option Bool
filter_of on smooth = if on == 0 then None else Some (not (smooth == 0))

-- the mode that predicts the block: Paeth prediction becomes another mode if a side is outside the tile
abbrev pub mode_in : IntraBlock → PredictionMode → PredictionMode
mode_in b mode = effective mode b.has_left b.has_above

-- the block's sides that lie in its tile
abbrev pub variant_in : IntraBlock → PredictionVariant
variant_in b = variant_at b.has_left b.has_above

-- the block of this size and mode; the angle of a mode without a direction is not read
abbrev pub block_of : IntraBlock → PredictionMode → TxSize → DirectionalBlock
block_of b mode size = record {
  p_angle = unsigned_abs (angle_or_alpha mode (AngleDelta b.angle_step));
  width = tx_width size;
  height = tx_height size;
  bit_depth = b.bit_depth;
  smooth_filter = filter_of b.edge_filter b.smooth_neighbour;
  visible_columns = b.visible_columns;
  visible_rows = b.visible_rows;
}

-- The sides and luma's differences are as long as this mode reads them for the block.
pub record AreLong (b : DirectionalBlock) (variant : PredictionVariant) (mode : PredictionMode)
    (left above ac : ℕ) : Type 0 where
  pub left_long : places_left mode variant b.p_angle b.width b.height ≤ left
  pub above_long : places_above mode variant b.p_angle b.width b.height ≤ above
  pub ac_long : IsTrue (is_cfl mode) → b.width * b.height ≤ ac

-- the sides and luma's differences are long enough for a block in numbers
abbrev pub HasSides : IntraBlock → PredictionMode → TxSize → (left above ac : ℕ) → Type 0
HasSides b mode size left above ac =
    AreLong (block_of b (mode_in b mode) size) (variant_in b) (mode_in b mode) left above ac

-- The block has this size, and is valid for prediction by this mode in samples of this many bits.
pub record IsIntraBlock (bits : ℕ) (b : IntraBlock) (mode : PredictionMode) (stride x y left above ac samples : ℕ)
    (size : TxSize) : Type 0 where
  pub sized : IsSize b.tx_size size
  pub turn : IsTurn mode b.angle_step
  pub depth : IsDepthWithin bits b.bit_depth
  pub rows : AreRows stride (rectangle x y size) samples
  pub sides : HasSides b mode size left above ac

-- the samples with those of the rectangle predicted by this mode; the others are unchanged
abbrev pub with_prediction : {T : Type 0} → (T → ℕ) → (ℕ → T) → IntraBlock → PredictionMode → (stride x y : ℕ) →
    TxSize → (left : List T) → (corner : T) → (above : List T) → (ac : List ℤ) → (alpha : ℤ) → List T → List T
with_prediction num pixel b mode stride x y size left corner above ac alpha samples =
    let m = mode_in b mode in
    paint stride (rectangle x y size)
    (λ r c _.
    pixel (predicted (block_of b m size) (variant_in b) m alpha (ac_at (tx_width size) ac)
    (edge_round num left (num corner) above) r c)) samples

-- ---- what is rejected: each reason includes that the tests before it passed

-- no intra mode has the number
abbrev pub HasNoMode : ℕ → Type 0
HasNoMode number = (mode : PredictionMode) → ¬ IsIntraMode number mode

-- the mode may not turn this many steps
abbrev pub HasNoAngle : IntraBlock → PredictionMode → Type 0
HasNoAngle b mode = (size : TxSize) × (IsSize b.tx_size size × (¬ IsTurn mode b.angle_step))

-- samples of this many bits have no such depth
abbrev pub HasNoDepth : (bits : ℕ) → IntraBlock → PredictionMode → Type 0
HasNoDepth bits b mode =
    (size : TxSize) × (IsSize b.tx_size size × (IsTurn mode b.angle_step × (¬ IsDepthWithin bits b.bit_depth)))

-- the block does not lie in the samples
abbrev pub LiesOutside : (bits : ℕ) → IntraBlock → PredictionMode → (stride x y samples : ℕ) → Type 0
LiesOutside bits b mode stride x y samples =
    (size : TxSize) ×
    (IsSize b.tx_size size ×
    (IsTurn mode b.angle_step ×
    (IsDepthWithin bits b.bit_depth × (¬ AreRows stride (rectangle x y size) samples))))

-- a side, or luma's differences, are shorter than the mode reads them
abbrev pub HasShortSides : (bits : ℕ) → IntraBlock → PredictionMode → (stride x y left above ac samples : ℕ) → Type 0
HasShortSides bits b mode stride x y left above ac samples =
    (size : TxSize) ×
    (IsSize b.tx_size size ×
    (IsTurn mode b.angle_step ×
    (IsDepthWithin bits b.bit_depth ×
    (AreRows stride (rectangle x y size) samples × (¬ HasSides b mode size left above ac)))))

-- ---- the contracts: `before` is the samples before the call, `after` after it, and `answer` is the status

-- The call predicts a block by this mode, in samples of at most this many bits.
pub record PredictsBy {T : Type 0} (bits : ℕ) (num : T → ℕ) (pixel : ℕ → T) (block : IntraBlock) (by : PredictionMode)
    (stride x y : ℕ) (left : List T) (corner : T) (above : List T) (ac : List ℤ) (alpha : ℤ) (before after : List T)
    (answer : ℕ) : Type 0 where
  -- The arguments name a block, and the mode predicts its samples.
  pub done : answer ≡ DONE → (size : TxSize)
      × (IsIntraBlock bits block by stride x y (length left) (length above) (length ac) (length before) size
      × (after ≡ with_prediction num pixel block by stride x y size left corner above ac alpha before))
  -- The call requires nothing else of its arguments.
  pub asked : (size : TxSize)
      → IsIntraBlock bits block by stride x y (length left) (length above) (length ac) (length before) size
      → answer ≡ DONE
  -- The status names the first bad argument, and these clauses say what is wrong with it.
  pub size : answer ≡ BAD_SIZE → HasNoSize block.tx_size
  pub angle : answer ≡ BAD_ANGLE → HasNoAngle block by
  pub depth : answer ≡ BAD_DEPTH → HasNoDepth bits block by
  pub area : answer ≡ BAD_AREA → LiesOutside bits block by stride x y (length before)
  pub short : answer ≡ TOO_SHORT
      → HasShortSides bits block by stride x y (length left) (length above) (length ac) (length before)
  -- If the call rejects an argument, the samples are unchanged.
  pub kept : answer ≢ DONE → after ≡ before
  pub known : (answer ≡ DONE) ⊎ ((answer ≡ BAD_SIZE) ⊎ ((answer ≡ BAD_ANGLE) ⊎ ((answer ≡ BAD_DEPTH)
      ⊎ ((answer ≡ BAD_AREA) ⊎ (answer ≡ TOO_SHORT)))))

-- The call predicts a block by the mode of its number, in samples of at most this many bits.
pub record Predicts {T : Type 0} (bits : ℕ) (num : T → ℕ) (pixel : ℕ → T) (block : IntraBlock) (stride x y : ℕ)
    (left : List T) (corner : T) (above : List T) (before after : List T) (answer : ℕ) : Type 0 where
  -- The arguments name a mode and a block, and the mode predicts its samples.
  pub done : answer ≡ DONE → (by : PredictionMode) × ((size : TxSize) × (IsIntraMode block.mode by
      × (IsIntraBlock bits block by stride x y (length left) (length above) 0 (length before) size
      × (after ≡ with_prediction num pixel block by stride x y size left corner above [] (pos 0) before))))
  -- The call requires nothing else of its arguments.
  pub asked : (by : PredictionMode) → (size : TxSize) → IsIntraMode block.mode by
      → IsIntraBlock bits block by stride x y (length left) (length above) 0 (length before) size → answer ≡ DONE
  -- The status names the first bad argument, and these clauses say what is wrong with it.
  pub mode : answer ≡ BAD_MODE → HasNoMode block.mode
  pub size : answer ≡ BAD_SIZE → (by : PredictionMode) × (IsIntraMode block.mode by × HasNoSize block.tx_size)
  pub angle : answer ≡ BAD_ANGLE → (by : PredictionMode) × (IsIntraMode block.mode by × HasNoAngle block by)
  pub depth : answer ≡ BAD_DEPTH → (by : PredictionMode) × (IsIntraMode block.mode by × HasNoDepth bits block by)
  pub area : answer ≡ BAD_AREA → (by : PredictionMode)
      × (IsIntraMode block.mode by × LiesOutside bits block by stride x y (length before))
  pub short : answer ≡ TOO_SHORT → (by : PredictionMode) × (IsIntraMode block.mode by
      × HasShortSides bits block by stride x y (length left) (length above) 0 (length before))
  -- If the call rejects an argument, the samples are unchanged.
  pub kept : answer ≢ DONE → after ≡ before
  pub known : (answer ≡ DONE) ⊎ ((answer ≡ BAD_MODE) ⊎ ((answer ≡ BAD_SIZE) ⊎ ((answer ≡ BAD_ANGLE)
      ⊎ ((answer ≡ BAD_DEPTH) ⊎ ((answer ≡ BAD_AREA) ⊎ (answer ≡ TOO_SHORT))))))

-- ---- definitions for private contracts: why nothing is written

abbrev pub IsIntraFault : (bits : ℕ) → IntraBlock → PredictionMode → Place → Counts → BadArgument → Type 0
IsIntraFault bits b mode at has bad.Size = HasNoSize b.tx_size
IsIntraFault bits b mode at has bad.Angle = HasNoAngle b mode
IsIntraFault bits b mode at has bad.Depth = HasNoDepth bits b mode
IsIntraFault bits b mode at has bad.Area = LiesOutside bits b mode at.stride at.x at.y has.samples
IsIntraFault bits b mode at has bad.Short =
    HasShortSides bits b mode at.stride at.x at.y has.left has.above has.ac has.samples
IsIntraFault bits b mode at has fault = ⊥

-- ---- definitions for private contracts

-- The sides are as long as this mode reads them for the block.
pub record AreSidesLong (b : DirectionalBlock) (variant : PredictionVariant) (mode : PredictionMode)
    (left above : ℕ) : Type 0 where
  pub left_long : places_left mode variant b.p_angle b.width b.height ≤ left
  pub above_long : places_above mode variant b.p_angle b.width b.height ≤ above

-- This is the prediction that the numbers name, at a place and with these lengths.
pub record IsPredictionOf (bits : ℕ) (b : IntraBlock) (mode : PredictionMode) (at : Place) (has : Counts)
    (p : PredictedBlock) : Type 0 where
  pub asked : IsIntraBlock bits b mode at.stride at.x at.y has.left has.above has.ac has.samples p.size
  pub mode_is : p.mode ≡ mode_in b mode
  pub variant_is : p.variant ≡ variant_in b
  pub block_is : p.block ≡ block_of b (mode_in b mode) p.size
  pub area_is : p.area ≡ rectangle at.x at.y p.size
