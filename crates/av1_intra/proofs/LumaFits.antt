-- The differences of luma from its mean fit 16 bits.
use Rattle.std.proofs.Common.{ℕ, zero, suc, ◌+◌, ◌*◌, ◌/◌, ◌%◌, ◌<◌, ◌≤◌, ◌≡◌, length, sum, arith, ap, ◌∙◌, sym, add-one, w16, FitsSigned}
use Rattle.std.proofs.lemmas.Int.{ints}
use Rattle.std.proofs.lemmas.List.FromFn.{sum_by-map-range_with_len_more}
use Rattle.std.proofs.Math.Nat.{le-mul_of_pos_right}
use Rattle.av1_lists.specs.Lists.{by_index}
use Rattle.av1_lists.proofs.Lists.{length-by_index}
use Rattle.av1_intra.specs.Dc.{mean}
use Rattle.av1_intra.specs.ChromaFromLuma.{luma_at, luma_difference, columns_read, rows_read}
use Rattle.av1_intra.specs.declared.luma.ChromaBlock.{ChromaBlock}
use Rattle.av1_intra.proofs.LumaBlocks.{luma_small, each_small}
use Rattle.av1_intra.proofs.Means.{mean_fits}

-- numbers of which none is large
listed_within : (n : ℕ) (f : ℕ → ℕ) → ((k : ℕ) → k < n → f k ≤ 32760) → sum (by_index n f) ≤ n * 32760
listed_within zero f h = omega arith
listed_within (suc n) f h =
    let r = listed_within n f (λ k l. h k (omega arith)) in
    let l = h n (omega arith) in
    let e : sum (by_index (suc n) f) ≡ sum (by_index n f) + f n = ap (λ m. sum (by_index m f)) (sym (add-one n))
    ∙ sum_by-map-range_with_len_more (λ x. x) f 0 n n (omega arith) in
    omega (arith, r, l, e)

-- and their mean
listed_mean : (n : ℕ) (f : ℕ → ℕ) → 0 < n → ((k : ℕ) → k < n → f k ≤ 32760) → mean (by_index n f) < 32761
listed_mean n f s h =
    let r = listed_within n f h in
    let l = length-by_index n f in
    mean_fits (sum (by_index n f)) (length (by_index n f)) 32761 (omega (arith, l)) (omega (arith, r, l))

pub difference_fits : (luma : ℕ → ℕ → ℕ) (b : ChromaBlock) (r c : ℕ) → b.xdec ≤ 1 → b.ydec ≤ b.xdec → r < b.height → c < b.width →
    ((x y : ℕ) → x < columns_read b → y < rows_read b → luma x y < 4096) → FitsSigned w16 (luma_difference luma b r c)
unfolding luma_difference
difference_fits luma b r c x y h l low =
    let p : b.width ≤ b.width * b.height = le-mul_of_pos_right b.width (omega arith) in
    let s : 0 < b.width * b.height = omega (arith, p) in
    let a = luma_small luma b r c x y h l low in
    let m = listed_mean (b.width * b.height) (λ k. luma_at luma b (k / b.width) (k % b.width)) s (λ k d. each_small luma b k x y (omega arith) d low) in
    omega (arith, ints, a, m)
