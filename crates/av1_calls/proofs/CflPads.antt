-- A block of chroma whose pads were worked out from a side of luma has luma, and takes the same as the leaf does.
use Rattle.std.proofs.Common.{ℕ, ◌≡◌, ◌⊎◌, inl, inr, refl, ◌+◌, ◌-◌, ◌*◌, ◌/◌, ◌^◌, ◌<◌, ◌≤◌, min, arith, ap, ◌∙◌, sym}
use Rattle.std.proofs.lemmas.Bool.{cases_lt}
use Rattle.std.proofs.lemmas.Bool.Decides.{nat_tests}
use Rattle.std.proofs.Math.Nat.{lt-div-mul-add}
use Rattle.av1_blocks.specs.Blocks.{block_height, block_width}
use Rattle.av1_blocks.specs.Chroma.{IsSubsampled, plane_side}
use Rattle.av1_blocks.specs.Transforms.{tx_height, tx_width}
use Rattle.av1_blocks.specs.declared.partition.BlockSize.{BlockSize}
use Rattle.av1_blocks.specs.declared.partition.BlockSize.TheVariants.{BLOCK_4X4, BLOCK_4X8, BLOCK_8X4, BLOCK_4X16, BLOCK_16X4}
use Rattle.av1_blocks.specs.declared.transform.TxSize.{TxSize}
use Rattle.av1_blocks.proofs.Sides.{block_height_range, block_width_range, tx_height_range, tx_width_range}
use Rattle.av1_intra.specs.ChromaFromLuma.{averaged_side, chroma_block, coded_side, last_begun, last_of_leaf, luma_start, padded_block}
use Rattle.av1_intra.proofs.LumaBlocks.{by_decimation}
use Rattle.av1_calls.specs.CflPads.{AreSizes, IsLumaFault, IsVisible, leaf_of, pad_along}
use Rattle.av1_calls.specs.LumaBlocks.{IsSampling}
use Rattle.av1_calls.specs.declared.argument.BadArgument.{BadArgument}
use Rattle.av1_calls.specs.declared.argument.BadArgument.TheVariants as bad
use Rattle.av1_calls.specs.declared.cfl_block.LumaLeafBlock.{LumaLeafBlock}

-- a side is 4, or a multiple of 8
abbrev IsLumaSide : ℕ → Type 0
IsLumaSide side = (side ≡ 4) ⊎ (side ≡ side / 8 * 8)

width_side : (b : BlockSize) → IsLumaSide (block_width b)
width_side b = elim b as (λ s. IsLumaSide (block_width s)) [ BLOCK_4X4 ↦ inl refl | BLOCK_4X8 ↦ inl refl | BLOCK_4X16 ↦ inl refl | _ ↦ inr refl ]

height_side : (b : BlockSize) → IsLumaSide (block_height b)
height_side b = elim b as (λ s. IsLumaSide (block_height s)) [ BLOCK_4X4 ↦ inl refl | BLOCK_8X4 ↦ inl refl | BLOCK_16X4 ↦ inl refl | _ ↦ inr refl ]

-- the pad of a side of which so much is coded
abbrev pad_of : (side coded decimation : ℕ) → ℕ
pad_of side coded decimation = (side - coded) / (4 * 2 ^ decimation)

coded_some : (side tx visible : ℕ) → 4 ≤ side → 0 < tx → 0 < visible → 0 < coded_side 0 side tx visible
coded_some side tx visible long some seen =
    let up = lt-div-mul-add {a = min side visible + tx - 1} {b = tx} some in
    elim (cases_lt 8 side) [
      | inl b ↦ grind (arith, nat_tests, up)
      | inr b ↦ grind (arith, nat_tests)
    ]

fits_at : (side coded d : ℕ) → 4 ≤ side → IsLumaSide side → 0 < coded → d ≤ 1 → 4 * pad_of side coded d < plane_side side d
fits_at side coded d long (inl e) some h =
    by_decimation (λ n. 4 * pad_of side coded n < plane_side side n) d h (omega (arith, e)) (omega (arith, e))
fits_at side coded d long (inr e) some h =
    by_decimation (λ n. 4 * pad_of side coded n < plane_side side n) d h (omega arith) (omega (arith, e))

-- some of a side has luma of its own
pub pad_fits : (side tx visible d : ℕ) → 4 ≤ side → IsLumaSide side → 0 < tx → 0 < visible → d ≤ 1 →
    4 * pad_along side tx visible d < plane_side side d
pad_fits side tx visible d long is some seen h = fits_at side (coded_side 0 side tx visible) d long is (coded_some side tx visible long some seen) h

start_first : (side d : ℕ) → luma_start 0 side d ≡ 0
start_first side d = grind (arith, nat_tests)

ends_at : (side coded d : ℕ) → 4 ≤ side → IsLumaSide side → d ≤ 1 →
    last_begun ((plane_side side d - 4 * pad_of side coded d) * 2 ^ d) d ≡ last_begun (averaged_side side coded d) d
ends_at side coded d long (inl e) h =
    by_decimation (λ n. last_begun ((plane_side side n - 4 * pad_of side coded n) * 2 ^ n) n ≡ last_begun (averaged_side side coded n) n) d h
    (omega (arith, e)) (omega (arith, e))
ends_at side coded d long (inr e) h =
    by_decimation (λ n. last_begun ((plane_side side n - 4 * pad_of side coded n) * 2 ^ n) n ≡ last_begun (averaged_side side coded n) n) d h
    (omega arith) (omega (arith, e))

-- the last column, or row, that samples of chroma begin at
pub pad_ends : (side tx visible d plane pad : ℕ) → 4 ≤ side → IsLumaSide side → d ≤ 1 → plane ≡ plane_side side d → pad ≡ pad_along side tx visible d →
    last_begun ((plane - 4 * pad) * 2 ^ d) d ≡ last_of_leaf 0 side tx visible d
pad_ends side tx visible d plane pad long is h plane_is pad_is =
    ap (λ n. last_begun ((n - 4 * pad) * 2 ^ d) d) plane_is
    ∙ ap (λ n. last_begun ((plane_side side d - 4 * n) * 2 ^ d) d) pad_is
    ∙ ends_at side (coded_side 0 side tx visible) d long is h
    ∙ ap (λ n. last_begun (averaged_side side (coded_side n side tx visible) d) d) (sym (start_first side d))

-- the block of chroma by its pads is that of the leaf
pub padded_same : (l : LumaLeafBlock) (luma : BlockSize) (transform : TxSize) (chroma : BlockSize) (w_pad h_pad : ℕ) → l.xdec ≤ 1 → l.ydec ≤ 1
    → IsSubsampled luma l.xdec l.ydec chroma
    → w_pad ≡ pad_along (block_width luma) (tx_width transform) l.visible_columns l.xdec
    → h_pad ≡ pad_along (block_height luma) (tx_height transform) l.visible_rows l.ydec
    → padded_block chroma w_pad h_pad l.xdec l.ydec ≡ chroma_block (leaf_of l luma transform)
padded_same l luma transform chroma w_pad h_pad columns rows sides w h =
    let leaf = leaf_of l luma transform in
    let block = λ (width height last_column last_row : ℕ). record (chroma_block leaf) {
      width = width;
      height = height;
      last_column = last_column;
      last_row = last_row;
    } in
    let last_column = last_begun ((block_width chroma - 4 * w_pad) * 2 ^ l.xdec) l.xdec in
    let last_row = last_begun ((block_height chroma - 4 * h_pad) * 2 ^ l.ydec) l.ydec in
    let wide = plane_side (block_width luma) l.xdec in
    let high = plane_side (block_height luma) l.ydec in
    ap (λ n. block n (block_height chroma) last_column last_row) sides.width
    ∙ ap (λ n. block wide n last_column last_row) sides.height
    ∙ ap (λ n. block wide high n last_row)
    (pad_ends (block_width luma) (tx_width transform) l.visible_columns l.xdec _ w_pad (block_width_range luma).0 (width_side luma) columns sides.width w)
    ∙ ap (λ n. block wide high (chroma_block leaf).last_column n)
    (pad_ends (block_height luma) (tx_height transform) l.visible_rows l.ydec _ h_pad (block_height_range luma).0 (height_side luma) rows sides.height h)

-- and some of it has luma
pub width_fits : (luma : BlockSize) (transform : TxSize) (visible d plane pad : ℕ) → d ≤ 1 → 0 < visible → plane ≡ plane_side (block_width luma) d
    → pad ≡ pad_along (block_width luma) (tx_width transform) visible d → 4 * pad < plane
width_fits luma transform visible d plane pad h seen plane_is pad_is =
    let some = (tx_width_range transform).0 in
    let fits = pad_fits (block_width luma) (tx_width transform) visible d (block_width_range luma).0 (width_side luma) (omega (arith, some)) seen h in
    omega (arith, fits, plane_is, pad_is)

pub height_fits : (luma : BlockSize) (transform : TxSize) (visible d plane pad : ℕ) → d ≤ 1 → 0 < visible → plane ≡ plane_side (block_height luma) d
    → pad ≡ pad_along (block_height luma) (tx_height transform) visible d → 4 * pad < plane
height_fits luma transform visible d plane pad h seen plane_is pad_is =
    let some = (tx_height_range transform).0 in
    let fits = pad_fits (block_height luma) (tx_height transform) visible d (block_height_range luma).0 (height_side luma) (omega (arith, some)) seen h in
    omega (arith, fits, plane_is, pad_is)

-- what is asked for is not refused
pub not_refused : (l : LumaLeafBlock) (luma : BlockSize) (transform : TxSize) (chroma : BlockSize) (fault : BadArgument) → IsSampling l.xdec l.ydec →
    AreSizes l luma transform chroma → IsVisible l → ¬ IsLumaFault l fault
not_refused l luma transform chroma bad.Sampling sampled sizes seen f = f sampled
not_refused l luma transform chroma bad.Size sampled sizes seen f = f.1 luma transform chroma sizes
not_refused l luma transform chroma bad.Pad sampled sizes seen f = f.1.1.1.1.1 seen
not_refused l luma transform chroma _ sampled sizes seen f = f
