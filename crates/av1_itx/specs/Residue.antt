-- The 2D inverse transform process of the AV1 specification: an inverse transform along each row of coefficients, then
-- one down each column.
use Rattle.std.specs.Prelude.{ℕ, ◌+◌, ◌-◌, ◌*◌, ◌==◌, ◌||◌, ◌&&◌, nat_lt, max, if◌then◌else◌, Bool, true, false, ℤ}
use Rattle.std.specs.Prelude.{pos, ◌*ℤ◌}
use Rattle.std.specs.Prelude.{List, []}
use Rattle.std.specs.Int.{int_shr}
use Rattle.av1_blocks.specs.declared.transform.TxSize.{TxSize}
use Rattle.av1_blocks.specs.declared.transform.TxSize.TheVariants.{TX_4X4, TX_8X8, TX_16X16, TX_32X32, TX_64X64, TX_4X8}
use Rattle.av1_blocks.specs.declared.transform.TxSize.TheVariants.{TX_8X4, TX_8X16, TX_16X8, TX_16X32, TX_32X16}
use Rattle.av1_blocks.specs.declared.transform.TxSize.TheVariants.{TX_32X64, TX_64X32, TX_4X16, TX_16X4, TX_8X32}
use Rattle.av1_blocks.specs.declared.transform.TxSize.TheVariants.{TX_32X8, TX_16X64, TX_64X16}
use Rattle.av1_blocks.specs.declared.transform.TxType.{TxType}
use Rattle.av1_blocks.specs.declared.transform.TxType.TheVariants.{WHT_WHT}
use Rattle.av1_blocks.specs.Blocks.{side_log2}
use Rattle.av1_blocks.specs.Transforms.{tx_width, tx_height, coded}
use Rattle.av1_dct.specs.Arithmetic.{at, clamp_value}
use Rattle.av1_lists.specs.Lists.{by_index}
use Rattle.av1_frame.specs.Arithmetic.{round_shift}
use Rattle.av1_itx.specs.Kinds.{row_kind, row_kind_by, column_kind}
use Rattle.av1_itx.specs.Networks.{HasNetwork, network}

-- the lossless type
abbrev pub is_lossless : TxType → Bool
is_lossless WHT_WHT = true
is_lossless type = false

-- one side is twice the other
abbrev pub is_two_to_one : TxSize → Bool
is_two_to_one size = (tx_width size == 2 * tx_height size) || (tx_height size == 2 * tx_width size)

-- rows have 2^(k+1) values and columns 2^(l+1): these are k and l
abbrev pub row_power : TxSize → ℕ
row_power size = side_log2 (tx_width size) - 1

abbrev pub column_power : TxSize → ℕ
column_power size = side_log2 (tx_height size) - 1

-- both transforms of a type exist: one of the length of the size's rows, one of the length of its columns
abbrev pub HasNetworks : TxSize → TxType → Type 0
HasNetworks size type = HasNetwork (row_kind type) (row_power size) × HasNetwork (column_kind type) (column_power size)

-- Transform_Row_Shift: the number of bits by which values are rounded between the rows and the columns
abbrev pub row_shift : TxSize → ℕ
row_shift TX_4X4 = 0
row_shift TX_8X8 = 1
row_shift TX_16X16 = 2
row_shift TX_32X32 = 2
row_shift TX_64X64 = 2
row_shift TX_4X8 = 0
row_shift TX_8X4 = 0
row_shift TX_8X16 = 1
row_shift TX_16X8 = 1
row_shift TX_16X32 = 1
row_shift TX_32X16 = 1
row_shift TX_32X64 = 1
row_shift TX_64X32 = 1
row_shift TX_4X16 = 1
row_shift TX_16X4 = 1
row_shift TX_8X32 = 2
row_shift TX_32X8 = 2
row_shift TX_16X64 = 2
row_shift TX_64X16 = 2

-- the number of bits by which they are rounded after the columns
abbrev pub column_shift : TxType → ℕ
column_shift type = if is_lossless type then 0 else 4

-- the number of bits to which the values of rows are clamped, and then those of columns
abbrev pub row_range : ℕ → ℕ
row_range depth = depth + 8

abbrev pub column_range : ℕ → ℕ
column_range depth = max (depth + 6) 16

-- a coefficient as an input of a row: scaled by the square root of one half if one side is twice the other, by a
-- quarter in a lossless block, and clamped
unfoldable pub row_value : TxSize → TxType → ℕ → ℤ → ℤ
row_value size type depth z =
    clamp_value (if is_two_to_one size then round_shift (pos 2896 *ℤ z) 12 else if is_lossless type then int_shr z 2
    else z) (row_range depth)

-- the input of row r at column c. Coefficients are stored column by column; rows and columns from 32 on have none
unfoldable pub row_input : TxSize → TxType → ℕ → List ℤ → ℕ → ℕ → ℤ
row_input size type depth coefficients r c =
    if nat_lt c (coded (tx_width size))
    then row_value size type depth (at coefficients (c * coded (tx_height size) + r)) else pos 0

-- row r after its transform; the rows from 32 on are zeros, which is what positions past a list's end give
unfoldable pub transformed_row : (by_av1 : Bool) → TxSize → TxType → ℕ → List ℤ → ℕ → List ℤ
transformed_row by_av1 size type depth coefficients r =
    if nat_lt r (coded (tx_height size))
    then network (row_kind_by by_av1 type) (row_range depth) (row_power size)
    (by_index (tx_width size) (row_input size type depth coefficients r))
    else []

-- the input of a column for the value z of a row: z rounded and clamped, but AV1 does not clamp in lossless blocks
abbrev pub column_value : (by_av1 : Bool) → TxSize → TxType → ℕ → ℤ → ℤ
column_value by_av1 size type depth z =
    let v = round_shift z (row_shift size) in
    if by_av1 && is_lossless type then v else clamp_value v (column_range depth)

-- the inputs of a column whose values after the rows are f 0, f 1 and so on
abbrev pub column_input : (by_av1 : Bool) → TxSize → TxType → ℕ → (ℕ → ℤ) → List ℤ
column_input by_av1 size type depth f = by_index (tx_height size) (λ r. column_value by_av1 size type depth (f r))

-- the column with these inputs, after its transform
unfoldable pub column_network : (by_av1 : Bool) → TxSize → TxType → ℕ → (ℕ → ℤ) → List ℤ
column_network by_av1 size type depth f =
    network (column_kind type) (column_range depth) (column_power size) (column_input by_av1 size type depth f)

-- column c after its transform
unfoldable pub transformed_column : (by_av1 : Bool) → TxSize → TxType → ℕ → List ℤ → ℕ → List ℤ
transformed_column by_av1 size type depth coefficients c =
    column_network by_av1 size type depth (λ r. at (transformed_row by_av1 size type depth coefficients r) c)

-- The residual at row r and column c: what is added to the sample. By AV1's rule (`by_av1`) identities along rows never
-- wrap, and lossless blocks are not clamped between the passes. Identities down columns never wrap by either rule.
unfoldable pub residue_by : (by_av1 : Bool) → TxSize → TxType → ℕ → List ℤ → ℕ → ℕ → ℤ
residue_by by_av1 size type depth coefficients r c =
    round_shift (at (transformed_column by_av1 size type depth coefficients c) r) (column_shift type)

-- the residual by rav1e's rule
abbrev pub residue : TxSize → TxType → ℕ → List ℤ → ℕ → ℕ → ℤ
residue = residue_by false
