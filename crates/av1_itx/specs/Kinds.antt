-- The one-dimensional transforms of a block: which of them runs along the rows and which down the columns.
use Rattle.std.specs.Prelude.{Bool, if◌then◌else◌}
use Rattle.av1_blocks.specs.declared.transform.TxType.{TxType}
use Rattle.av1_blocks.specs.declared.transform.TxType.TheVariants.{DCT_DCT, ADST_DCT, DCT_ADST, ADST_ADST, FLIPADST_DCT}
use Rattle.av1_blocks.specs.declared.transform.TxType.TheVariants.{DCT_FLIPADST, FLIPADST_FLIPADST, ADST_FLIPADST}
use Rattle.av1_blocks.specs.declared.transform.TxType.TheVariants.{FLIPADST_ADST, IDTX, V_DCT, H_DCT, V_ADST, H_ADST}
use Rattle.av1_blocks.specs.declared.transform.TxType.TheVariants.{V_FLIPADST, H_FLIPADST, WHT_WHT}
use Rattle.av1_itx.specs.declared.kinds.TxType1D.{TxType1D}
use Rattle.av1_itx.specs.declared.kinds.TxType1D.TheVariants.{DCT, ADST, FLIPADST, IDENTITY}
use Rattle.av1_itx.specs.declared.kinds.TxType1D.TheVariants.{EXACT_IDENTITY, WHT}

-- the transform down the columns
abbrev pub column_kind : TxType → TxType1D
column_kind DCT_DCT = DCT
column_kind ADST_DCT = ADST
column_kind DCT_ADST = DCT
column_kind ADST_ADST = ADST
column_kind FLIPADST_DCT = FLIPADST
column_kind DCT_FLIPADST = DCT
column_kind FLIPADST_FLIPADST = FLIPADST
column_kind ADST_FLIPADST = ADST
column_kind FLIPADST_ADST = FLIPADST
column_kind IDTX = IDENTITY
column_kind V_DCT = DCT
column_kind H_DCT = IDENTITY
column_kind V_ADST = ADST
column_kind H_ADST = IDENTITY
column_kind V_FLIPADST = FLIPADST
column_kind H_FLIPADST = IDENTITY
column_kind WHT_WHT = WHT

-- the transform along the rows
abbrev pub row_kind : TxType → TxType1D
row_kind DCT_DCT = DCT
row_kind ADST_DCT = DCT
row_kind DCT_ADST = ADST
row_kind ADST_ADST = ADST
row_kind FLIPADST_DCT = DCT
row_kind DCT_FLIPADST = FLIPADST
row_kind FLIPADST_FLIPADST = FLIPADST
row_kind ADST_FLIPADST = FLIPADST
row_kind FLIPADST_ADST = ADST
row_kind IDTX = IDENTITY
row_kind V_DCT = IDENTITY
row_kind H_DCT = DCT
row_kind V_ADST = IDENTITY
row_kind H_ADST = ADST
row_kind V_FLIPADST = IDENTITY
row_kind H_FLIPADST = FLIPADST
row_kind WHT_WHT = WHT

-- the same kind, but an identity becomes one that never wraps
abbrev pub exact_kind : TxType1D → TxType1D
exact_kind IDENTITY = EXACT_IDENTITY
exact_kind kind = kind

-- the transform along the rows; with `by_av1` an identity never wraps there, as in AV1
abbrev pub row_kind_by : (by_av1 : Bool) → TxType → TxType1D
row_kind_by by_av1 type = if by_av1 then exact_kind (row_kind type) else row_kind type
