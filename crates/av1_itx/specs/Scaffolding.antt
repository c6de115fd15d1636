-- What the functions inside the crate promise one another. No public contract cites this file.
use Rattle.std.specs.Prelude.{◌≡◌, true, ◌&&◌, if◌then◌else◌, ℕ, ◌+◌, ◌*◌, ◌/◌, ◌^◌, ◌≤◌, ◌<◌, List, length, ℤ, pos}
use Rattle.av1_blocks.specs.declared.transform.TxType.{TxType}
use Rattle.av1_blocks.specs.Transforms.{tx_width, tx_height, coded_area}
use Rattle.av1_lists.specs.Sides.{IsTransformSide}
use Rattle.av1_dct.specs.Arithmetic.{at, clamp_value, FitsBits}
use Rattle.av1_dct.specs.Columns.{column_of}
use Rattle.av1_dct.specs.Operations.{half_btf}
use Rattle.av1_frame.specs.Areas.{AreRows}
use Rattle.av1_frame.specs.Arithmetic.{round_shift}
use Rattle.av1_itx.specs.declared.block.Block.{Block}
use Rattle.av1_itx.specs.declared.inverse.StridedArea.{StridedArea}
use Rattle.av1_itx.specs.declared.kinds.TxType1D.{TxType1D}
use Rattle.av1_itx.specs.declared.columns.Columns.{Columns}
use Rattle.av1_itx.specs.Kinds.{column_kind, row_kind}
use Rattle.av1_itx.specs.Networks.{HasNetwork, network}
use Rattle.av1_itx.specs.LaneGroups.{is_cosine}
use Rattle.av1_itx.specs.Residue.{column_power, column_range, column_value, is_lossless}
use Rattle.av1_itx.specs.Residue.{row_power, row_range, row_shift, row_value, transformed_row}
use Rattle.std.specs.Prelude.{map}
use Rattle.std.specs.Borrow.{RattleType}
use Rattle.std.specs.Mem.{type_size}

-- Columns of a buffer that can be transformed four at a time, or eight if the buffer has that many.
pub record AreColumns (columns : Columns) (buffer : List ℤ) : Type 0 where
  pub fours : 4 * (columns.count / 4) ≡ columns.count
  pub eights : 8 ≤ columns.width → 8 * (columns.count / 8) ≡ columns.count
  pub within : columns.count ≤ columns.width
  pub few : columns.width ≤ 64
  pub height : IsTransformSide columns.height
  pub power : columns.height ≡ 2 * 2 ^ columns.power
  pub has : HasNetwork columns.kind columns.power
  pub long : length buffer ≡ columns.height * columns.width
  pub range : (8 ≤ columns.range) × (columns.range ≤ 20)
  pub fit : (r c : ℕ) → r < columns.height → c < columns.count →
      FitsBits columns.range (at buffer (r * columns.width + c))

-- those columns after their transform
abbrev pub AreTransformed : Columns → (old new : List ℤ) → Type 0
AreTransformed columns old new = (r c : ℕ) → r < columns.height → c < columns.count →
    at new (r * columns.width + c) ≡
    at (network columns.kind columns.range columns.power (column_of columns.height columns.width c old)) r

-- the number of groups that are counted: all of them, if they take the cosine transform
abbrev pub cosine_groups : TxType1D → ℕ → ℕ
cosine_groups kind groups = if is_cosine kind then groups else 0

-- A block whose type has both of its transforms, with its first coefficients; all others are 0.
pub record AreCoefficients {C : Type 0} (val : C → ℤ) (block : Block) (input : List C) : Type 0 where
  pub depth : (8 ≤ block.bd) × (block.bd ≤ 12)
  pub rows : HasNetwork (row_kind block.tx_type) (row_power block.tx_size)
  pub columns : HasNetwork (column_kind block.tx_type) (column_power block.tx_size)
  pub fit : (i : ℕ) → i < coded_area block.tx_size → FitsBits (block.bd + 8) (at (map val input) i)

-- the number of bits that hold the inputs of the columns of a block
abbrev pub column_bits : Block → ℕ
column_bits block = if block.by_av1 && is_lossless block.tx_type then 20 else column_range block.bd

-- All columns of a block.
abbrev pub block_columns : Block → Columns
block_columns block = record {
  kind = column_kind block.tx_type;
  count = tx_width block.tx_size;
  width = tx_width block.tx_size;
  height = tx_height block.tx_size;
  power = column_power block.tx_size;
  range = column_bits block;
}

-- `buffer` has the inputs of the columns of a block, row by row
abbrev pub AreRowsDone : Block → (coefficients buffer : List ℤ) → Type 0
AreRowsDone block coefficients buffer = (r c : ℕ) → r < tx_height block.tx_size → c < tx_width block.tx_size →
    at buffer (r * tx_width block.tx_size + c) ≡
    column_value block.by_av1 block.tx_size block.tx_type block.bd
    (at (transformed_row block.by_av1 block.tx_size block.tx_type block.bd coefficients r) c)

-- A rectangle, among `count` samples, with the width and height of a block.
pub record IsPlaceFor (block : Block) (place : StridedArea) (count : ℕ) : Type 0 where
  pub rows : AreRows place.stride place.area count
  pub width : place.area.width ≡ tx_width block.tx_size
  pub height : place.area.height ≡ tx_height block.tx_size

-- a word takes no more than 64 bytes: 16 lanes of 32 bits
abbrev pub IsSmallWord : RattleType → Type 0
IsSmallWord W = type_size W ≤ 64

-- A block that takes the cosine transform both ways and has no coefficient but its first.
pub record IsSingleBlock {C : Type 0} (val : C → ℤ) (type : TxType) (input : List C) : Type 0 where
  pub rows : is_cosine (row_kind type) ≡ true
  pub columns : is_cosine (column_kind type) ≡ true
  pub none : (i : ℕ) → 0 < i → at (map val input) i ≡ pos 0

-- the first input of each column of such a block
abbrev pub top_of : Block → (first : ℤ) → ℤ
top_of block first =
    let z = row_value block.tx_size block.tx_type block.bd first in
    clamp_value
    (round_shift (clamp_value (half_btf (pos 2896) z (pos 0) z) (row_range block.bd)) (row_shift block.tx_size))
    (column_range block.bd)
