-- Parts that are filtered twice: what is kept of their rows, and what the second filter reads of that.
use Rattle.std.proofs.Common.{ℕ, ◌+◌, ◌*◌, ◌<◌, ◌≤◌, ◌≡◌, ◌∙◌, ap, arith, subst, sym, List, get_or, length, map, slice_index, ℤ, pos}
use Rattle.std.proofs.lemmas.List.{get_or-map}
use Rattle.av1_frame.specs.Arithmetic.{clip}
use Rattle.av1_frame.specs.Samples.{paint}
use Rattle.av1_frame.proofs.Paint.{length_paint, paint_inside}
use Rattle.av1_frame.proofs.Within.{clip_within}
use Rattle.av1_inter.specs.declared.rounding.Rounding.{Rounding}
use Rattle.av1_inter.specs.declared.strip.Strip.{Strip}
use Rattle.av1_inter.specs.declared.strip.Taps.{Taps}
use Rattle.av1_inter.specs.Motion.{weighted}
use Rattle.av1_inter.specs.Scaffolding.{along, between_filters, both_ways, doubled, filtered, IsBlock, IsFilter, IsLaid, IsRounding, sample_of, settled}
use Rattle.av1_inter.proofs.Halves.{depth_numbers}
use Rattle.av1_inter.proofs.Sums.{weighted_same}

-- all rows that a part of n columns reads, and filters that are laid on rows and on columns of what is kept
abbrev pub rows_of : {T : Type 0} → Strip T → ℕ → Strip T
rows_of part n = record {
  area = record { x = 0; y = 0; width = n; height = part.area.height + 7 };
  source = part.source;
  source_stride = part.source_stride;
  bit_depth = part.bit_depth;
}

abbrev pub across_of : List ℤ → Rounding → Taps
across_of halves rounding = record { start = 0; step = 1; halves = halves; rounding = rounding }

abbrev pub down_of : List ℤ → Rounding → Taps
down_of halves rounding = record { start = 0; step = 16; halves = halves; rounding = rounding }

module _ {T : Type 0} (num : T → ℕ) (part : Strip T) (n : ℕ) (halves : List ℤ) (rounding : Rounding) where
  sample_there : (r c t : ℕ) → slice_index (map num part.source.now) (0 + r * part.source_stride + c + t * 1) ≡ sample_of num part (c + t) r
  sample_there r c t = ap (λ i. slice_index (map num part.source.now) i) (omega arith)

  pub rows_laid : IsBlock num 7 7 part → part.area.width ≡ n → IsFilter (doubled halves) → IsRounding rounding →
      IsLaid num (rows_of part n) (across_of halves rounding)
  rows_laid block width f s = record {
    filter = f;
    rounding = s;
    reach = λ r k. omega (arith, block.reach r k, width);
    small = λ r c t k l i. (let w = block.within (c + t) r (omega (arith, l, i, width)) k
        in omega (arith, sample_there r c t, w, depth_numbers part.bit_depth block.depths));
  }

  pub rows_filtered : rounding ≡ between_filters part.bit_depth → (r c : ℕ) →
      filtered num (rows_of part n) (across_of halves rounding) r c ≡ along (between_filters part.bit_depth) halves (sample_of num part) r c
  rows_filtered e r c =
      ap (λ s. settled s (weighted halves (λ t. pos (slice_index (map num part.source.now) (0 + r * part.source_stride + c + t * 1))))) e
      ∙ ap (settled (between_filters part.bit_depth)) (weighted_same halves _ _ (λ t l. ap pos (sample_there r c t)))

module _ (num : ℕ → ℕ) (same : (v : ℕ) → num v ≡ v) (now : List ℕ) (n h : ℕ) (old : List ℕ) (f : ℕ → ℕ → ℤ)
    (kept : now ≡ paint 16 (record { x = 0; y = 0; width = n; height = h + 7 }) (λ r c _. clip 15 (f r c)) old)
    (long : length old ≡ 624) (narrow : n ≤ 16) (low : h ≤ 32) where
  now_long : length now ≡ 624
  now_long = ap length kept ∙ length_paint 16 _ _ old ∙ long

  kept_at : (r c : ℕ) → r < h + 7 → c < n → slice_index (map num now) ((0 + r) * 16 + (0 + c)) ≡ clip 15 (f r c)
  kept_at r c k l =
      get_or-map num now ((0 + r) * 16 + (0 + c)) 0 0 (omega (arith, now_long, k, l, low, narrow)) ∙ same _ ∙ ap (λ s. get_or s ((0 + r) * 16 + (0 + c)) 0) kept
      ∙ paint_inside 16 _ _ old r c 0 k l (omega (arith, narrow)) (omega (arith, long, k, l, low, narrow))

  kept_there : (r c t : ℕ) → r < h → c < n → t < 8 → slice_index (map num now) (0 + r * 16 + c + t * 16) ≡ clip 15 (f (r + t) c)
  kept_there r c t k l b = ap (λ i. slice_index (map num now) i) (let i : 0 + r * 16 + c + t * 16 ≡ (0 + (r + t)) * 16 + (0 + c) = omega arith in i)
      ∙ kept_at (r + t) c (omega (arith, k, b)) l

  pub columns_laid : (columns : Strip ℕ) → columns.source.now ≡ now → columns.source_stride ≡ 16 → columns.area.width ≡ n → columns.area.height ≡ h →
      (halves : List ℤ) (rounding : Rounding) → IsFilter (doubled halves) → IsRounding rounding
      → IsLaid num columns (down_of halves rounding)
  columns_laid columns is stride width height halves rounding filter s = record {
    filter = filter;
    rounding = s;
    reach = λ r k. (let e : r * columns.source_stride ≡ r * 16 = ap (λ s. r * s) stride
        in omega (arith, e, ap length is, now_long, k, low, narrow, width, height));
    small = λ r c t k l b. subst (λ (v : ℕ). v < 32768)
        (sym (ap (λ s. slice_index (map num s) (0 + r * columns.source_stride + c + t * 16)) is
        ∙ ap (λ s. slice_index (map num now) (0 + r * s + c + t * 16)) stride
        ∙ kept_there r c t (omega (arith, k, height)) (omega (arith, l, width)) b))
        (clip_within 15 (f (r + t) c));
  }

  pub columns_filtered : (halves : List ℤ) (rounding : Rounding) (r c : ℕ) → r < h → c < n
      → settled rounding (weighted halves (λ t. pos (slice_index (map num now) (0 + r * 16 + c + t * 16)))) ≡
      settled rounding (weighted halves (λ t. pos (clip 15 (f (r + t) c))))
  columns_filtered halves rounding r c k l = ap (settled rounding) (weighted_same halves _ _ (λ t b. ap pos (kept_there r c t k l b)))

-- what both filters give, where samples agree that stand x columns and y rows further
pub both_moved : (both : Rounding) (depth : ℕ) (across down : List ℤ) (s t : ℕ → ℕ → ℕ) (x y : ℕ) → ((p q : ℕ) → s p q ≡ t (x + p) (y + q)) → (r c : ℕ) →
    both_ways both depth across down s r c ≡ both_ways both depth across down t (y + r) (x + c)
both_moved both depth across down s t x y same r c =
    ap (settled both) (weighted_same down _ _ (λ i l. ap (λ z. pos (clip 15 (settled (between_filters depth) z))) (weighted_same across _ _ (λ u k.
    ap pos (same (c + u) (r + i) ∙ ap (λ p. t p (y + (r + i))) (let e : x + (c + u) ≡ x + c + u = omega arith in e)
    ∙ ap (t (x + c + u)) (let e : y + (r + i) ≡ y + r + i = omega arith in e))))))
