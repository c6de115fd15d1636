-- What of luma and of its differences is looked at.
use Rattle.std.proofs.Common.{ℕ, ◌+◌, ◌*◌, ◌/◌, ◌%◌, ◌^◌, ◌<◌, ◌≤◌, ◌≡◌, [], min, refl, false, ap, subst, arith, ◌∙◌, List, ℤ, pos, ◌-ℤ◌}
use Rattle.std.proofs.lemmas.List.{get_or_past}
use Rattle.std.proofs.Math.Nat.{mul_comm, div-lt_iff_lt-mul, mod-lt}
use Rattle.av1_blocks.specs.declared.predict.PredictionMode.{PredictionMode}
use Rattle.av1_blocks.specs.declared.predict.PredictionMode.TheVariants.{UV_CFL_PRED}
use Rattle.av1_blocks.specs.Modes.{is_cfl}
use Rattle.av1_lists.proofs.Lists.{by_index-same}
use Rattle.av1_edges.specs.Edges.{Edge}
use Rattle.av1_intra.specs.declared.directional.DirectionalBlock.{DirectionalBlock}
use Rattle.av1_intra.specs.declared.variant.PredictionVariant.{PredictionVariant}
use Rattle.av1_intra.specs.declared.luma.ChromaBlock.{ChromaBlock}
use Rattle.av1_intra.specs.declared.luma.LumaLeaf.{LumaLeaf}
use Rattle.av1_intra.specs.Dc.{mean}
use Rattle.av1_intra.specs.ChromaFromLuma.{luma_at, lumas, luma_difference, columns_read, rows_read, chroma_block, first_luma_column, first_luma_row}
use Rattle.av1_intra.specs.ChromaFromLuma.{leaf_difference}
use Rattle.av1_intra.specs.ChromaFromLuma.{from_luma, ac_at, with_rows}
use Rattle.av1_intra.specs.Predicted.{dc, predicted}
use Rattle.av1_intra.proofs.LumaBlocks.{by_decimation, covered_same}

-- ---- two lumas that agree on the columns and rows that are read

-- the columns, or rows, over a sample of chroma are read
side_read : (k n last d t : ℕ) → d ≤ 1 → k < n → t < 2 ^ d → min (k * 2 ^ d) last + t < min (n * 2 ^ d) (last + 2 ^ d)
side_read k n last d t h l =
    by_decimation (λ d. t < 2 ^ d → min (k * 2 ^ d) last + t < min (n * 2 ^ d) (last + 2 ^ d)) d h (λ m. omega arith) (λ m. omega arith)

module _ (f g : ℕ → ℕ → ℕ) (b : ChromaBlock) (x : b.xdec ≤ 1) (y : b.ydec ≤ b.xdec) (agree : (p q : ℕ) → p < columns_read b → q < rows_read b →
    f p q ≡ g p q) where
  luma_at_same : (r c : ℕ) → r < b.height → c < b.width → luma_at f b r c ≡ luma_at g b r c
  luma_at_same r c h l =
      let p = min (c * 2 ^ b.xdec) b.last_column in
      let q = min (r * 2 ^ b.ydec) b.last_row in
      covered_same f g p q q b.xdec b.ydec x y
      (λ s t m n. agree (p + s) (q + t) (side_read c b.width b.last_column b.xdec s x l m) (side_read r b.height b.last_row b.ydec t (omega arith) h n))

  pub luma_difference_same : (r c : ℕ) → r < b.height → c < b.width → luma_difference f b r c ≡ luma_difference g b r c
  unfolding luma_difference
  luma_difference_same r c h l =
      let some : 0 < b.width = omega arith in
      let row : (k : ℕ) → k < b.width * b.height → k / b.width < b.height = λ k m. (div-lt_iff_lt-mul some).1 (subst (λ n. k < n) (mul_comm b.width b.height) m)
      in
      let e : lumas f b ≡ lumas g b = by_index-same (b.width * b.height) _ _ (λ k m. luma_at_same (k / b.width) (k % b.width) (row k m) (mod-lt k some)) in
      ap (λ n. pos n -ℤ pos (mean (lumas f b))) (luma_at_same r c h l) ∙ ap (λ ns. pos (luma_at g b r c) -ℤ pos (mean ns)) e

pub leaf_difference_same : (f g : ℕ → ℕ → ℕ) (leaf : LumaLeaf) (r c : ℕ) → leaf.xdec ≤ 1 → leaf.ydec ≤ leaf.xdec
    → r < (chroma_block leaf).height → c < (chroma_block leaf).width
    → ((x y : ℕ) → x < columns_read (chroma_block leaf) → y < rows_read (chroma_block leaf) →
    f (first_luma_column leaf + x) (first_luma_row leaf + y) ≡ g (first_luma_column leaf + x) (first_luma_row leaf + y))
    → leaf_difference f leaf r c ≡ leaf_difference g leaf r c
leaf_difference_same f g leaf r c x y h l agree =
    luma_difference_same (λ p q. f (first_luma_column leaf + p) (first_luma_row leaf + q)) (λ p q. g (first_luma_column leaf + p) (first_luma_row leaf + q))
    (chroma_block leaf) x y agree r c h l

-- ---- prediction

-- a sample looks at luma's difference at its own row and column alone
pub predicted_luma : (b : DirectionalBlock) (v : PredictionVariant) (mode : PredictionMode) (alpha : ℤ) (ac other : ℕ → ℕ → ℤ) (e : Edge) (r c : ℕ)
    → ac r c ≡ other r c → predicted b v mode alpha ac e r c ≡ predicted b v mode alpha other e r c
unfolding predicted
predicted_luma b v UV_CFL_PRED alpha ac other e r c h = ap (from_luma b.bit_depth alpha (dc v b.bit_depth b.width b.height e)) h
predicted_luma b v mode alpha ac other e r c h = refl

-- and but for chroma from luma neither at a difference nor at a weight
pub predicted_without_luma : (b : DirectionalBlock) (v : PredictionVariant) (mode : PredictionMode) (alpha beta : ℤ) (ac other : ℕ → ℕ → ℤ) (e : Edge) (r c : ℕ)
    → is_cfl mode ≡ false → predicted b v mode alpha ac e r c ≡ predicted b v mode beta other e r c
unfolding predicted
predicted_without_luma b v UV_CFL_PRED alpha beta ac other e r c h = cc
predicted_without_luma b v mode alpha beta ac other e r c h = refl

-- no difference is listed
pub ac_at_nil : (w r c : ℕ) → ac_at w [] r c ≡ pos 0
ac_at_nil w r c = get_or_past [] (r * w + c) (pos 0) (omega arith)

-- ---- one block of chroma for another

pub rows_of_block : (f : ℕ → ℕ → ℕ) (b c : ChromaBlock) (ac : List ℤ) → b ≡ c →
    with_rows b.width b.height (luma_difference f b) ac ≡ with_rows c.width c.height (luma_difference f c) ac
rows_of_block f b c ac e = ap (λ (k : ChromaBlock). with_rows k.width k.height (luma_difference f k) ac) e

pub area_of_block : (b c : ChromaBlock) → b ≡ c → b.width * b.height ≡ c.width * c.height
area_of_block b c e = ap (λ (k : ChromaBlock). k.width * k.height) e
