-- The transforms of a leaf that are drawn are of the plan grammar, and fit the leaf.
use Rattle.std.proofs.Common.{◌≡◌, ℕ, zero, suc, ◌*◌, ◌<◌, ◌≤◌, Bool, true, false, ◌&&◌, Option, Some, None, slice_index_or, refl, arith, lit<, lit≤}
use Rattle.std.specs.Prelude.{nat_le}
use Rattle.av1_blocks.specs.declared.partition.BlockSize.{BlockSize}
use Rattle.av1_blocks.specs.declared.partition.BlockSize.TheVariants.{BLOCK_4X4}
use Rattle.av1_blocks.specs.declared.transform.TxSize.{TxSize}
use Rattle.av1_blocks.specs.declared.transform.TxSize.TheVariants.{TX_4X4, TX_8X8, TX_16X16, TX_32X32, TX_64X64, TX_4X8, TX_8X4, TX_8X16, TX_16X8, TX_16X32}
use Rattle.av1_blocks.specs.declared.transform.TxSize.TheVariants.{TX_32X16, TX_32X64, TX_64X32, TX_4X16, TX_16X4, TX_8X32, TX_32X8, TX_16X64, TX_64X16}
use Rattle.av1_blocks.specs.declared.transform.TheConstants.TxSize as tx_sizes
use Rattle.av1_blocks.specs.declared.transform.TxType.{TxType}
use Rattle.av1_blocks.specs.Blocks.{block_width, block_height}
use Rattle.av1_blocks.specs.Chroma.{largest_chroma_tx_size}
use Rattle.av1_blocks.specs.Transforms.{tx_number, tx_width, tx_height, block_tx_size}
use Rattle.av1_plan.specs.Format.{one, Format, done, ◌>>=◌}
use Rattle.av1_plan.specs.Geometry.{xdec, ydec, plane_tx_size}
use Rattle.av1_plan.specs.Grammar.{byte_from}
use Rattle.av1_plan.specs.Grammar as grammar
use Rattle.av1_plan.specs.Validity.{is_transform, has_transforms}
use Rattle.av1_plan.proofs.Numbers.{tx_type_of}
use Rattle.av1_plan.specs.Draft.{writes, draws, ◌>>◌, only_if}
use Rattle.av1_plan.specs.Generator.{frame, type_within, tx_type, luma_tx_size, luma_transforms}
use Rattle.av1_lists.proofs.Below.{all_below, below}
use Rattle.av1_plan.proofs.FieldKinds.{byte_is}
use Rattle.av1_plan.proofs.Fills.{Fills, ends, fills_done, asked, asked_last, weaker, drawing}

-- ---- types

one_type : (size : TxSize) (v : ℕ) → v ≤ 16 → is_transform size (tx_type_of v) ≡ true → Fills (writes one v) grammar.tx_type 1 (λ t. is_transform size t ≡ true)
unfolding grammar.tx_type
one_type size v le is =
    asked_last (byte_from 0 16) (λ v. done (tx_type_of v)) v (byte_is 0 16 v (lit< tt) (omega arith) le) (fills_done (tx_type_of v) is)

-- the cosine transform or the identity
two_types : (size : TxSize) → is_transform size (tx_type_of 0) ≡ true → is_transform size (tx_type_of 9) ≡ true
    → Fills (draws 2 (λ v. writes one (9 * v))) grammar.tx_type 1 (λ t. is_transform size t ≡ true)
two_types size cosine identity = drawing 2 (λ v. writes one (9 * v)) (lit< tt) (λ v lt. each_type v lt)
  where
    each_type : (v : ℕ) → v < 2 → Fills (writes one (9 * v)) grammar.tx_type 1 (λ t. is_transform size t ≡ true)
    each_type zero lt = one_type size 0 (lit≤ tt) cosine
    each_type (suc zero) lt = one_type size 9 (lit≤ tt) identity
    each_type (suc (suc v)) lt = absurd (omega arith)

-- all but the Walsh-Hadamard transform
many_types : (size : TxSize) → all_below 16 (λ v. is_transform size (tx_type_of v)) ≡ true →
    Fills (draws 16 (λ v. writes one v)) grammar.tx_type 1 (λ t. is_transform size t ≡ true)
many_types size all =
    drawing 16 (λ v. writes one v) (lit< tt) (λ v lt. one_type size v (omega arith) (below 16 (λ v. is_transform size (tx_type_of v)) all v lt))

pub type_fills : (size : TxSize) → Fills (tx_type size) grammar.tx_type 1 (λ t. is_transform size t ≡ true)
unfolding tx_type type_within is_transform
type_fills TX_4X4 = many_types TX_4X4 refl
type_fills TX_8X8 = many_types TX_8X8 refl
type_fills TX_16X16 = many_types TX_16X16 refl
type_fills TX_32X32 = two_types TX_32X32 refl refl
type_fills TX_64X64 = one_type TX_64X64 0 (lit≤ tt) refl
type_fills TX_4X8 = many_types TX_4X8 refl
type_fills TX_8X4 = many_types TX_8X4 refl
type_fills TX_8X16 = many_types TX_8X16 refl
type_fills TX_16X8 = many_types TX_16X8 refl
type_fills TX_16X32 = two_types TX_16X32 refl refl
type_fills TX_32X16 = two_types TX_32X16 refl refl
type_fills TX_32X64 = one_type TX_32X64 0 (lit≤ tt) refl
type_fills TX_64X32 = one_type TX_64X32 0 (lit≤ tt) refl
type_fills TX_4X16 = many_types TX_4X16 refl
type_fills TX_16X4 = many_types TX_16X4 refl
type_fills TX_8X32 = two_types TX_8X32 refl refl
type_fills TX_32X8 = two_types TX_32X8 refl refl
type_fills TX_16X64 = one_type TX_16X64 0 (lit≤ tt) refl
type_fills TX_64X16 = one_type TX_64X16 0 (lit≤ tt) refl

-- ---- luma

-- the sides of a transform are no longer than those of the block
abbrev pub is_within : BlockSize → TxSize → Bool
is_within size t = nat_le (tx_width t) (block_width size) && nat_le (tx_height t) (block_height size)

own_within : (size : BlockSize) → is_within size (block_tx_size size) ≡ true
own_within BLOCK_4X4 = refl
own_within _ = refl

least_within : (size : BlockSize) → is_within size TX_4X4 ≡ true
least_within BLOCK_4X4 = refl
least_within _ = refl

luma_within : (size : BlockSize) (v : ℕ) → is_within size (luma_tx_size size v) ≡ true
unfolding luma_tx_size
luma_within size zero = own_within size
luma_within size (suc v) = least_within size

named : (t : TxSize) → slice_index_or tx_sizes.ALL (tx_number t) TX_4X4 ≡ t
named TX_4X4 = refl
named _ = refl

numbered : (t : TxSize) → tx_number t ≤ 18
numbered TX_4X4 = lit≤ tt
numbered _ = lit≤ tt

-- the size of luma's transforms and their type
abbrev pub luma : Format (TxSize × TxType)
luma = grammar.tx_size >>= λ size. grammar.tx_type >>= λ type. done (size, type)

-- they fit a block of this size
pub record AreFitting (size : BlockSize) (p : TxSize × TxType) : Type 0 where
  pub choice : (v : ℕ) × (p.0 ≡ luma_tx_size size v)
  pub within : is_within size p.0 ≡ true
  pub type : is_transform p.0 p.1 ≡ true

pub luma_fills : (size : BlockSize) → Fills (luma_transforms size) luma 2 (AreFitting size)
unfolding luma_transforms grammar.tx_size
luma_fills size =
    drawing 2 (λ v. writes one (tx_number (luma_tx_size size v)) >> tx_type (luma_tx_size size v)) (lit< tt) (λ v lt.
    let t = luma_tx_size size v in
    asked {n = 1} (byte_from 0 18) (λ v. grammar.tx_type >>= λ type. done (slice_index_or tx_sizes.ALL v TX_4X4, type)) (tx_number t)
    (byte_is 0 18 (tx_number t) (lit< tt) (omega arith) (numbered t))
    (rw (named t)
    (ends (λ type. done (t, type)) (type_fills t)
    (λ type is. fills_done (t, type) (record { choice = (v, refl); within = luma_within size v; type = is })))))

-- ---- chroma

-- the type of chroma's transforms fits, where there is one
abbrev pub IsChromaType : BlockSize → Option TxType → Type 0
IsChromaType size (Some t) = is_transform (largest_chroma_tx_size size 1 1) t ≡ true
IsChromaType size None = Unit {0}

pub chroma_type_fills : (size : BlockSize) (carried : Bool) →
    Fills (only_if carried (tx_type (largest_chroma_tx_size size 1 1))) (grammar.uv_type carried) 1 (IsChromaType size)
unfolding grammar.uv_type
chroma_type_fills size true = ends (λ t. done (Some t)) (type_fills (largest_chroma_tx_size size 1 1)) (λ t is. fills_done (Some t) is)
chroma_type_fills size false = weaker (lit≤ tt) (λ t p. p) (fills_done None tt)

pub transforms_are : (version number : ℕ) (size : BlockSize) (p : TxSize × TxType) (uv : Option TxType) → AreFitting size p → IsChromaType size uv
    → has_transforms (frame version number) size p.0 p.1 uv ≡ true
unfolding has_transforms plane_tx_size xdec ydec frame
transforms_are version number size p None l c = rw (l.within, l.type) refl
transforms_are version number size p (Some t) l c = rw (l.within, l.type, c) refl
