-- The transform along rows, where an identity never wraps, beside that of the type.
use Rattle.std.proofs.Common.{ℕ, Bool, true, false, ◌≡◌}
use Rattle.av1_blocks.specs.declared.transform.TxType.{TxType}
use Rattle.av1_itx.specs.declared.kinds.TxType1D.{TxType1D}
use Rattle.av1_itx.specs.declared.kinds.TxType1D.TheVariants.{DCT, ADST, FLIPADST, IDENTITY, EXACT_IDENTITY, WHT}
use Rattle.av1_itx.specs.Kinds.{exact_kind, row_kind, row_kind_by}
use Rattle.av1_itx.specs.LaneGroups.{is_cosine}
use Rattle.av1_itx.specs.Networks.{HasNetwork}

exact_cosine : (kind : TxType1D) → is_cosine kind ≡ true → is_cosine (exact_kind kind) ≡ true
exact_cosine DCT h = h
exact_cosine ADST h = h
exact_cosine FLIPADST h = h
exact_cosine IDENTITY h = h
exact_cosine EXACT_IDENTITY h = h
exact_cosine WHT h = h

-- a cosine transform stays one
pub cosine_row : (by_av1 : Bool) (type : TxType) → is_cosine (row_kind type) ≡ true → is_cosine (row_kind_by by_av1 type) ≡ true
cosine_row true type h = exact_cosine (row_kind type) h
cosine_row false type h = h

exact_network : (kind : TxType1D) (k : ℕ) → HasNetwork kind k → HasNetwork (exact_kind kind) k
exact_network DCT k h = h
exact_network ADST k h = h
exact_network FLIPADST k h = h
exact_network IDENTITY k h = h
exact_network EXACT_IDENTITY k h = h
exact_network WHT k h = h

-- and exists for as many values
pub network_row : (by_av1 : Bool) (type : TxType) (k : ℕ) → HasNetwork (row_kind type) k → HasNetwork (row_kind_by by_av1 type) k
network_row true type k h = exact_network (row_kind type) k h
network_row false type k h = h
