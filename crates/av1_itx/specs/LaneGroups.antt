-- The number of groups of eight columns of a block that go through the lanes.
use Rattle.std.specs.Prelude.{ℕ, ◌/◌, if◌then◌else◌, Bool, true, false}
use Rattle.av1_blocks.specs.declared.transform.TxSize.{TxSize}
use Rattle.av1_blocks.specs.declared.transform.TxType.{TxType}
use Rattle.av1_blocks.specs.Transforms.{tx_width}
use Rattle.av1_itx.specs.declared.kinds.TxType1D.{TxType1D}
use Rattle.av1_itx.specs.declared.kinds.TxType1D.TheVariants.{DCT}
use Rattle.av1_itx.specs.Kinds.{column_kind}

abbrev pub is_cosine : TxType1D → Bool
is_cosine DCT = true
is_cosine kind = false

-- all of them if the columns take the cosine transform, else none
abbrev pub lane_groups : TxSize → TxType → ℕ
lane_groups size type = if is_cosine (column_kind type) then tx_width size / 8 else 0
