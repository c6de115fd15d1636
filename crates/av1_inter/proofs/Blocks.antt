-- Filters that are laid on a whole block, along its rows or down its columns alone, and what is read for them.
use Rattle.std.proofs.Common.{ℕ, zero, suc, ◌+◌, ◌*◌, ◌≡◌, ◌≢◌, ◌⊎◌, ◌≤◌, length, ap, arith, inl, inr, refl, List, map, slice_index, ℤ, pos}
use Rattle.av1_inter.specs.declared.rounding.Rounding.{Rounding}
use Rattle.av1_inter.specs.declared.rounding.Roundings.{Roundings}
use Rattle.av1_inter.specs.declared.strip.Strip.{Strip}
use Rattle.av1_inter.specs.declared.strip.Taps.{Taps}
use Rattle.av1_blocks.specs.Depths.{IsDepth}
use Rattle.av1_inter.specs.Places.{AreWithinDepth, HoldRows, read_beside}
use Rattle.av1_inter.specs.Scaffolding.{along, both_ways, doubled, down_alone, filtered, IsBlock, IsFilter, IsLaid, IsRounding, sample_of, settled}
use Rattle.av1_inter.specs.Scaffolding.{value_of}
use Rattle.av1_inter.proofs.Halves.{depth_numbers}
use Rattle.av1_inter.proofs.Sums.{weighted_same}

module _ {T : Type 0} (num : T → ℕ) (block : Strip T) (halves : List ℤ) (rounding : Rounding) where
  abbrev pub row_taps : Taps
  row_taps = record { start = 0; step = 1; halves = halves; rounding = rounding }

  abbrev pub column_taps : Taps
  column_taps = record { start = 0; step = block.source_stride; halves = halves; rounding = rounding }

  row_there : (r c t : ℕ) → slice_index (map num block.source.now) (0 + r * block.source_stride + c + t * 1) ≡ sample_of num block (c + t) r
  row_there r c t = ap (λ i. slice_index (map num block.source.now) i) (omega arith)

  column_there : (r c t : ℕ) →
      slice_index (map num block.source.now) (0 + r * block.source_stride + c + t * block.source_stride) ≡ sample_of num block c (r + t)
  column_there r c t = ap (λ i. slice_index (map num block.source.now) i) (grind arith)

  pub block_rows_laid : IsBlock num 7 0 block → IsFilter (doubled halves) → IsRounding rounding → IsLaid num block row_taps
  block_rows_laid b f s = record {
    filter = f;
    rounding = s;
    reach = λ r k. omega (arith, b.reach r (omega (arith, k)));
    small = λ r c t k l i. (let w = b.within (c + t) r (omega (arith, l, i)) (omega (arith, k))
        in omega (arith, row_there r c t, w, depth_numbers block.bit_depth b.depths));
  }

  pub block_columns_laid : IsBlock num 0 7 block → IsFilter (doubled halves) → IsRounding rounding → IsLaid num block column_taps
  block_columns_laid b f s = record {
    filter = f;
    rounding = s;
    reach = λ r k. (let m : (r + 7) * block.source_stride ≡ r * block.source_stride + 7 * block.source_stride = grind arith
        in omega (arith, m, b.reach (r + 7) (omega (arith, k))));
    small = λ r c t k l i. (let w = b.within c (r + t) (omega (arith, l)) (omega (arith, k, i))
        in omega (arith, column_there r c t, w, depth_numbers block.bit_depth b.depths));
  }

  pub rows_are : (r c : ℕ) → filtered num block row_taps r c ≡ along rounding halves (sample_of num block) r c
  rows_are r c = ap (settled rounding) (weighted_same halves _ _ (λ t l. ap pos (row_there r c t)))

  pub columns_are : (r c : ℕ) → filtered num block column_taps r c ≡ down_alone rounding halves (sample_of num block) r c
  columns_are r c = ap (settled rounding) (weighted_same halves _ _ (λ t l. ap pos (column_there r c t)))

-- what is read beside a block whose fractions are known to be 0, or not
module _ {T : Type 0} (num : T → ℕ) (block : Strip T) where
  pub read_rows : (fx fy : ℕ) → (fx ≢ 0) ⊎ (fy ≢ 0) → fy ≡ 0 → IsBlock num (read_beside fx) (read_beside fy) block → IsBlock num 7 0 block
  read_rows zero zero (inl h) e b = absurd (h refl)
  read_rows zero zero (inr h) e b = absurd (h refl)
  read_rows (suc i) zero h e b = b
  read_rows fx (suc j) h e b = absurd (omega (arith, e))

  pub read_columns : (fx fy : ℕ) → fx ≡ 0 → fy ≢ 0 → IsBlock num (read_beside fx) (read_beside fy) block → IsBlock num 0 7 block
  read_columns zero zero e h b = absurd (h refl)
  read_columns zero (suc j) e h b = b
  read_columns (suc i) fy e h b = absurd (omega (arith, e))

  pub read_both : (fx fy : ℕ) → fx ≢ 0 → fy ≢ 0 → IsBlock num (read_beside fx) (read_beside fy) block → IsBlock num 7 7 block
  read_both zero fy g h b = absurd (g refl)
  read_both (suc i) zero g h b = absurd (h refl)
  read_both (suc i) (suc j) g h b = b

  pub made_block : (fx fy : ℕ) → block.area.width ≤ 128 → block.area.height ≤ 128 → block.area.height ≢ 0 → IsDepth block.bit_depth
      → HoldRows (length block.source.now) block.source_stride (block.area.width + read_beside fx) (block.area.height + read_beside fy)
      → AreWithinDepth block.bit_depth (sample_of num block) (block.area.width + read_beside fx) (block.area.height + read_beside fy)
      → IsBlock num (read_beside fx) (read_beside fy) block
  made_block fx fy wide high some depths reach within =
      record { wide = wide; high = high; some = omega (arith, some); depths = depths; reach = reach; within = within }

  pub read_alone : (fx fy : ℕ) → fx ≡ 0 → fy ≡ 0 → IsBlock num (read_beside fx) (read_beside fy) block → IsBlock num 0 0 block
  read_alone zero zero g h b = b
  read_alone (suc i) fy g h b = absurd (omega (arith, g))
  read_alone zero (suc j) g h b = absurd (omega (arith, h))

-- which of them a block takes
module _ (roundings : Roundings) (depth : ℕ) (across down : List ℤ) (samples : ℕ → ℕ → ℕ) (r c : ℕ) where
  pub value_along : (fx fy : ℕ) → fy ≡ 0 → along roundings.rows across samples r c ≡ value_of roundings depth fx fy across down samples r c
  value_along fx zero e = refl
  value_along fx (suc k) e = absurd (omega (arith, e))

  pub value_down : (fx fy : ℕ) → fx ≡ 0 → fy ≢ 0 → down_alone roundings.columns down samples r c ≡ value_of roundings depth fx fy across down samples r c
  value_down fx zero e h = absurd (h refl)
  value_down zero (suc k) e h = refl
  value_down (suc j) (suc k) e h = absurd (omega (arith, e))

  pub value_both : (fx fy : ℕ) → fx ≢ 0 → fy ≢ 0 →
      both_ways roundings.both depth across down samples r c ≡ value_of roundings depth fx fy across down samples r c
  value_both fx zero e h = absurd (h refl)
  value_both zero (suc k) e h = absurd (e refl)
  value_both (suc j) (suc k) e h = refl
