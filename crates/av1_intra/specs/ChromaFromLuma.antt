-- Chroma from luma: chroma follows luma's distance from its mean.
-- AV1 specification: predict chroma from luma process.
-- `luma x y` is the number of the luma sample at column x of row y.
use Rattle.std.specs.Prelude.{ℕ, ◌+◌, ◌-◌, ◌*◌, ◌/◌, ◌%◌, ◌^◌, ◌==◌, ◌&&◌, not, nat_le, if◌then◌else◌, min, max, List}
use Rattle.std.specs.Prelude.{sum, slice_index_or, ℤ, pos, neg_ℤ, ◌+ℤ◌, ◌-ℤ◌, ◌*ℤ◌, unsigned_abs}
use Rattle.std.specs.Prelude.{int_lt}
use Rattle.std.specs.Ordering.{int_eq}
use Rattle.av1_blocks.specs.declared.partition.BlockSize.{BlockSize}
use Rattle.av1_blocks.specs.Blocks.{block_width, block_height}
use Rattle.av1_blocks.specs.Transforms.{tx_width, tx_height}
use Rattle.av1_blocks.specs.Chroma.{plane_side}
use Rattle.av1_frame.specs.Arithmetic.{clip}
use Rattle.av1_frame.specs.Samples.{paint_row}
use Rattle.av1_lists.specs.Lists.{by_index}
use Rattle.av1_intra.specs.Dc.{mean}
use Rattle.av1_intra.specs.Sides.{numbers}
use Rattle.av1_intra.specs.declared.luma.LumaLeaf.{LumaLeaf}
use Rattle.av1_intra.specs.declared.luma.ChromaBlock.{ChromaBlock}

-- ---- luma and its mean

-- eight times the mean of the luma samples over one sample of chroma, of which the first is at column x of row y
abbrev pub covered : (ℕ → ℕ → ℕ) → (xdec ydec x y : ℕ) → ℕ
covered luma xdec ydec x y =
    sum (by_index (2 ^ ydec) (λ v. sum (by_index (2 ^ xdec) (λ u. luma (x + u) (y + v))))) * 2 ^ (3 - xdec - ydec)

-- two rows of samples as luma
abbrev pub two_rows : {X : Type 0} → (X → ℕ) → List X → List X → ℕ → ℕ → ℕ
two_rows num top below x y = numbers num (if y == 0 then top else below) x

-- the luma of the sample of chroma at row r and column c of the block
abbrev pub luma_at : (ℕ → ℕ → ℕ) → ChromaBlock → ℕ → ℕ → ℕ
luma_at luma b r c = covered luma b.xdec b.ydec (min (c * 2 ^ b.xdec) b.last_column) (min (r * 2 ^ b.ydec) b.last_row)

-- the luma over all samples of the block, row by row
abbrev pub lumas : (ℕ → ℕ → ℕ) → ChromaBlock → List ℕ
lumas luma b = by_index (b.width * b.height) (λ k. luma_at luma b (k / b.width) (k % b.width))

-- how far the luma at row r and column c is from the mean, in eighths
unfoldable pub luma_difference : (ℕ → ℕ → ℕ) → ChromaBlock → ℕ → ℕ → ℤ
luma_difference luma b r c = pos (luma_at luma b r c) -ℤ pos (mean (lumas luma b))

-- the list ac with f ROW COLUMN in its first entries, the h rows of w columns one after the other; the rest is
-- unchanged
abbrev pub with_rows : (w h : ℕ) → (ℕ → ℕ → ℤ) → List ℤ → List ℤ
with_rows w h f ac = paint_row (w * h) (λ k _. f (k / w) (k % w)) ac

-- the number of luma columns that are read, and then of rows, from the first of the block on
abbrev pub columns_read : ChromaBlock → ℕ
columns_read b = min (b.width * 2 ^ b.xdec) (b.last_column + 2 ^ b.xdec)

abbrev pub rows_read : ChromaBlock → ℕ
rows_read b = min (b.height * 2 ^ b.ydec) (b.last_row + 2 ^ b.ydec)

-- the last luma column (or row) at which a chroma sample begins, if `averaged` of them are averaged; at least 8 are
abbrev pub last_begun : (averaged decimation : ℕ) → ℕ
last_begun averaged decimation = max averaged 8 - 2 ^ decimation

-- a block of chroma of this size, whose last w_pad units of 4 columns and h_pad units of 4 rows have no luma of their
-- own
abbrev pub padded_block : BlockSize → (w_pad h_pad xdec ydec : ℕ) → ChromaBlock
padded_block bsize w_pad h_pad xdec ydec = record {
  width = block_width bsize;
  height = block_height bsize;
  xdec = xdec;
  ydec = ydec;
  last_column = last_begun ((block_width bsize - 4 * w_pad) * 2 ^ xdec) xdec;
  last_row = last_begun ((block_height bsize - 4 * h_pad) * 2 ^ ydec) ydec;
}

-- ---- the luma of a leaf, along its rows or its columns

-- The luma position at which the chroma of a leaf begins, along one direction. If a side of 4 is halved, its chroma
-- belongs to 8 luma samples, of which the leaf has the last 4.
abbrev pub luma_start : (first side decimation : ℕ) → ℕ
luma_start first side decimation = if not (decimation == 0) && side == 4 then first - 4 else first

-- How much of the side is coded: all transforms that begin in the coded plane (MaxLumaW and MaxLumaH), which ends at
-- `visible`. Sides up to 8 are coded whole.
abbrev pub coded_side : (first side tx_side visible : ℕ) → ℕ
coded_side first side tx_side visible =
    if nat_le side 8 then side else (min side (visible - first) + tx_side - 1) / tx_side * tx_side

-- How much of the side is averaged, in rav1e's form: the side without whole units of 4 chroma samples of which no luma
-- is coded. In a valid plan that is the coded part, since frames and leaves of more than 8 are cut at multiples of 8.
abbrev pub averaged_side : (side coded decimation : ℕ) → ℕ
averaged_side side coded decimation = side - (side - coded) / (4 * 2 ^ decimation) * (4 * 2 ^ decimation)

-- the last luma column (or row) at which a chroma sample of the leaf begins
abbrev pub last_of_leaf : (first side tx_side visible decimation : ℕ) → ℕ
last_of_leaf first side tx_side visible decimation =
    last_begun (averaged_side side (coded_side (luma_start first side decimation) side tx_side visible) decimation)
    decimation

-- the leaf's block of chroma
abbrev pub chroma_block : LumaLeaf → ChromaBlock
chroma_block leaf = record {
  width = plane_side (block_width leaf.bsize) leaf.xdec;
  height = plane_side (block_height leaf.bsize) leaf.ydec;
  xdec = leaf.xdec;
  ydec = leaf.ydec;
  last_column = last_of_leaf leaf.x (block_width leaf.bsize) (tx_width leaf.tx_size) leaf.visible_width leaf.xdec;
  last_row = last_of_leaf leaf.y (block_height leaf.bsize) (tx_height leaf.tx_size) leaf.visible_height leaf.ydec;
}

-- the luma column and then the luma row at which that block begins
abbrev pub first_luma_column : LumaLeaf → ℕ
first_luma_column leaf = luma_start leaf.x (block_width leaf.bsize) leaf.xdec

abbrev pub first_luma_row : LumaLeaf → ℕ
first_luma_row leaf = luma_start leaf.y (block_height leaf.bsize) leaf.ydec

-- how far the luma at row r and column c of the leaf's block of chroma is from its mean
abbrev pub leaf_difference : (ℕ → ℕ → ℕ) → LumaLeaf → ℕ → ℕ → ℤ
leaf_difference luma leaf r c =
    luma_difference (λ x y. luma (first_luma_column leaf + x) (first_luma_row leaf + y)) (chroma_block leaf) r c

-- ---- prediction

-- What the difference d of luma, in eighths, adds at the weight alpha, also in eighths. It is rounded to the nearest
-- number, and away from 0 if two are equally near.
abbrev pub scaled_luma : (alpha d : ℤ) → ℤ
scaled_luma alpha d =
    let q = alpha *ℤ d in
    let n = pos ((unsigned_abs q + 32) / 64) in
    if int_lt q (pos 0) then neg_ℤ n else n

-- the sample of chroma whose DC prediction is dc, clipped to the depth; without a weight it is that prediction
unfoldable pub from_luma : (depth : ℕ) → (alpha : ℤ) → (dc : ℕ) → (d : ℤ) → ℕ
from_luma depth alpha dc d = if int_eq alpha (pos 0) then dc else clip depth (pos dc +ℤ scaled_luma alpha d)

-- the difference at row r and column c of a block of w columns, from a list of its rows one after the other
abbrev pub ac_at : ℕ → List ℤ → ℕ → ℕ → ℤ
ac_at w ac r c = slice_index_or ac (r * w + c) (pos 0)
