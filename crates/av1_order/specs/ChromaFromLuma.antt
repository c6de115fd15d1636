-- Which luma samples chroma from luma reads, and that they are written.
-- AV1 specification: predict chroma from luma process; transform block syntax (MaxLumaW, MaxLumaH).
use Rattle.std.specs.Prelude.{◌≡◌, true, ℕ, ◌+◌, ◌-◌, ◌*◌, ◌/◌, ◌^◌, ◌<◌, ◌≤◌, min, max, ◌==◌, nat_le, ◌&&◌}
use Rattle.std.specs.Prelude.{if◌then◌else◌, List, [], ◌∷◌, ◌++◌}
use Rattle.std.specs.Int.{next_multiple_of}
use Rattle.av1_blocks.specs.Blocks.{block_width, block_height}
use Rattle.av1_blocks.specs.Transforms.{tx_width, tx_height}
use Rattle.av1_plan.specs.declared.header.Header.{Header}
use Rattle.av1_plan.specs.CodingOrder.{IsQuarterInside}
use Rattle.av1_plan.specs.Geometry.{xdec, ydec, carries_chroma, plane_size, coded_width, coded_height}
use Rattle.av1_plan.specs.Plan.{LeafValue}
use Rattle.av1_order.specs.Turns.{IsCodedPlan, is_written, leaves_steps}

-- One direction, in luma samples: chroma is halved in it if s is 1. The leaf has a side of length `side`, and begins at
-- position `place`.
module _ (s side place : ℕ) where
  -- where the luma that is read begins: at the cell before the leaf's if the side is 4 and the direction halved
  abbrev pub luma_start : ℕ
  luma_start = if s == 1 && side == 4 then place - 4 else place

  -- the coded luma plane and the leaf's luma transforms have sides of these lengths
  module _ (frame tx : ℕ) where
    -- how far luma is coded: up to the end of the last transform that begins in the coded plane; sides up to 8 are
    -- coded whole
    abbrev pub coded_side : ℕ
    coded_side = if nat_le side 8 then side else next_multiple_of (min side (frame - luma_start)) tx

    -- the side without the whole units of chroma of which no luma is coded
    abbrev pub unpadded_side : ℕ
    unpadded_side = side - (side - coded_side) / (4 * 2 ^ s) * (4 * 2 ^ s)

    -- the luma that is read for chroma position c: each of its 2 ^ s samples; past what is coded the last ones again
    abbrev pub luma_place : (c i : ℕ) → ℕ
    luma_place c i = luma_start + min (c * 2 ^ s) (max unpadded_side 8 - 2 ^ s) + i

-- All luma that a leaf's chroma sample at column c of row r reads is written by these luma steps.
abbrev pub ReadsWritten : Header → LeafValue → List LeafValue → (c r : ℕ) → Type 0
ReadsWritten h l leaves c r =
    (i j : ℕ) → i < 2 ^ xdec h 1 → j < 2 ^ ydec h 1
    → is_written h 0 (leaves_steps h 0 leaves)
    (luma_place (xdec h 1) (block_width l.size) l.x (coded_width h) (tx_width l.tx_size) c i)
    (luma_place (ydec h 1) (block_height l.size) l.y (coded_height h) (tx_height l.tx_size) r j)
    ≡ true

-- This holds for each leaf that carries chroma and has sides up to 32, after its own luma steps and those of the
-- earlier leaves.
abbrev pub LumaIsWritten : Type 0
LumaIsWritten =
    (h : Header) (earlier : List LeafValue) (l : LeafValue) (later : List LeafValue) →
    IsCodedPlan h 0 (earlier ++ l ∷ later)
    → carries_chroma h l.x l.y l.size ≡ true → block_width l.size ≤ 32 → block_height l.size ≤ 32 → IsQuarterInside h l
    → (c r : ℕ) → c < block_width (plane_size h l.size 1) → r < block_height (plane_size h l.size 1) →
    ReadsWritten h l (earlier ++ l ∷ []) c r
