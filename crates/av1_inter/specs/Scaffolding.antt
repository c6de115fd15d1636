-- What the functions inside the crate promise one another. No public contract cites this file.
use Rattle.std.specs.Prelude.{◌≡◌, ℕ, zero, suc, ◌+◌, ◌-◌, ◌*◌, ◌^◌, ◌≤◌, ◌<◌, ◌⊎◌, List, []}
use Rattle.std.specs.Prelude.{◌∷◌, length, map, slice_index, nat_lt, if◌then◌else◌, ℤ, pos, negsuc, neg_ℤ, ◌+ℤ◌}
use Rattle.std.specs.Prelude.{◌-ℤ◌, ◌*ℤ◌, ◌≤ℤ◌}
use Rattle.std.specs.Int.{int_shr, saturate_signed, w16}
use Rattle.av1_blocks.specs.Depths.{IsDepth}
use Rattle.av1_frame.specs.declared.plane_region.StoredArea.{StoredArea}
use Rattle.av1_inter.specs.declared.rounding.Rounding.{Rounding}
use Rattle.av1_inter.specs.declared.rounding.Roundings.{Roundings}
use Rattle.av1_inter.specs.declared.strip.Strip.{Strip}
use Rattle.av1_inter.specs.declared.strip.Taps.{Taps}
use Rattle.av1_inter.specs.declared.two_filters.Halves.{Halves}
use Rattle.av1_frame.specs.Arithmetic.{clip}
use Rattle.av1_inter.specs.Motion.{bias, entry, intermediate_bits, weighted}
use Rattle.av1_inter.specs.Places.{AreWithinDepth, HoldRows, sample_in}

-- the sum of a filter's positive weights, and then of its negative weights without their sign
abbrev pub gains : List ℤ → ℕ
gains [] = 0
gains (pos n ∷ taps) = n + gains taps
gains (negsuc n ∷ taps) = gains taps

abbrev pub losses : List ℤ → ℕ
losses [] = 0
losses (pos n ∷ taps) = losses taps
losses (negsuc n ∷ taps) = suc n + losses taps

-- eight even weights that sum to 128. The positive ones sum to at most 184 and the negative ones to at least -56, as in
-- every filter
pub record IsFilter (taps : List ℤ) : Type 0 where
  pub size : length taps ≡ 8
  pub whole : gains taps ≡ 128 + losses taps
  pub gains : gains taps ≤ 184
  pub losses : losses taps ≤ 56
  pub even : (t : ℕ) → t < 8 → pos 2 *ℤ int_shr (entry taps t) 1 ≡ entry taps t

-- twice each weight
abbrev pub doubled : List ℤ → List ℤ
doubled halves = map (λ h. pos 2 *ℤ h) halves

-- the outer n weights on either side are 0
abbrev pub AreZero : ℕ → List ℤ → Type 0
AreZero n halves = (t : ℕ) → t < n → (entry halves t ≡ pos 0) × (entry halves (7 - t) ≡ pos 0)

-- z is from -a to b
pub record Between (a b : ℕ) (z : ℤ) : Type 0 where
  pub low : neg_ℤ (pos a) ≤ℤ z
  pub high : z ≤ℤ pos b

-- z is at most n in magnitude
pub record IsWithin (n : ℕ) (z : ℤ) : Type 0 where
  pub low : neg_ℤ (pos n) ≤ℤ z
  pub high : z ≤ℤ pos n

-- a sum of eight numbers, each times half its weight; the numbers are `step` apart, from `start` on
abbrev pub sum_from : (halves : List ℤ) → (ℕ → ℤ) → (start step : ℕ) → ℤ
sum_from halves number start step = weighted halves (λ t. number (start + t * step))

-- the value of such a sum in 16 bits
abbrev pub settled : Rounding → ℤ → ℤ
settled rounding sum = saturate_signed w16 (int_shr (sum +ℤ rounding.add) rounding.shift -ℤ rounding.bias)

-- the roundings that occur
pub record IsRounding (rounding : Rounding) : Type 0 where
  pub add : Between 0 512 rounding.add
  pub bias : Between 8192 16384 rounding.bias
  pub shift : (rounding.shift ≡ 2) ⊎
      ((rounding.shift ≡ 4) ⊎ ((rounding.shift ≡ 6) ⊎ ((rounding.shift ≡ 8) ⊎ (rounding.shift ≡ 10))))

-- The roundings at a depth. Values between the filters are raised by 8192, so that they have no sign. Halved weights
-- sum to 64, so a sum of such values is 64 * 8192 too great, which is subtracted afterwards.
abbrev pub between_filters : ℕ → Rounding
between_filters depth = record {
  add = pos (2 ^ (5 - intermediate_bits depth));
  shift = 6 - intermediate_bits depth;
  bias = negsuc 8191;
}

abbrev pub row_put : ℕ → Rounding
row_put depth = record { add = pos (32 + 2 ^ (5 - intermediate_bits depth)); shift = 6; bias = pos 0 }

abbrev pub column_put : Rounding
column_put = record { add = pos 32; shift = 6; bias = pos 0 }

abbrev pub both_put : ℕ → Rounding
both_put depth = record {
  add = pos (2 ^ (5 + intermediate_bits depth));
  shift = 6 + intermediate_bits depth;
  bias = pos (2 ^ (13 - intermediate_bits depth));
}

abbrev pub one_prepared : ℕ → Rounding
one_prepared depth = record {
  add = pos (2 ^ (5 - intermediate_bits depth));
  shift = 6 - intermediate_bits depth;
  bias = bias depth;
}

abbrev pub both_prepared : ℕ → Rounding
both_prepared depth = record { add = pos 32; shift = 6; bias = pos 8192 +ℤ bias depth }

-- the roundings of a block that gives samples, of a block whose values go to the filter down the columns, and of a
-- prepared block
abbrev pub put_roundings : ℕ → Roundings
put_roundings depth = record { rows = row_put depth; columns = column_put; both = both_put depth }

abbrev pub kept_roundings : ℕ → Roundings
kept_roundings depth =
    record { rows = between_filters depth; columns = between_filters depth; both = between_filters depth }

abbrev pub prepared_roundings : ℕ → Roundings
prepared_roundings depth =
    record { rows = one_prepared depth; columns = one_prepared depth; both = both_prepared depth }

-- a rounding of sums that become values by only one filter, among the roundings of a block: all of these are alike
-- except for what is added
pub record IsAlone (roundings : Roundings) (rounding : Rounding) : Type 0 where
  pub shift : rounding.shift ≡ roundings.rows.shift
  pub bias : rounding.bias ≡ roundings.rows.bias

-- the roundings of a block that occur
pub record AreRoundings (roundings : Roundings) : Type 0 where
  pub rows : IsRounding roundings.rows
  pub columns : IsRounding roundings.columns
  pub both : IsRounding roundings.both
  pub alone : IsAlone roundings roundings.columns

-- number i of a strip's source
abbrev pub number_at : {T : Type 0} → (T → ℕ) → Strip T → ℕ → ℤ
number_at num strip i = pos (slice_index (map num strip.source.now) i)

-- the value that a filter gives for row r and column c of a strip
abbrev pub filtered : {T : Type 0} → (T → ℕ) → Strip T → Taps → (r c : ℕ) → ℤ
filtered num strip taps r c =
    settled taps.rounding (sum_from taps.halves (number_at num strip)
    (taps.start + r * strip.source_stride + c) taps.step)

-- A filter that is laid on a strip: the numbers that it reads are stored, and have at most 15 bits.
pub record IsLaid {T : Type 0} (num : T → ℕ) (strip : Strip T) (taps : Taps) : Type 0 where
  pub filter : IsFilter (doubled taps.halves)
  pub rounding : IsRounding taps.rounding
  pub reach : (r : ℕ) → r < strip.area.height →
      taps.start + r * strip.source_stride + strip.area.width + 7 * taps.step ≤ length strip.source.now
  pub small : (r c t : ℕ) → r < strip.area.height → c < strip.area.width → t < 8 →
      slice_index (map num strip.source.now) (taps.start + r * strip.source_stride + c + t * taps.step) < 32768

-- the number at column x and row y of a strip's source
abbrev pub sample_of : {T : Type 0} → (T → ℕ) → Strip T → (x y : ℕ) → ℕ
sample_of num strip = sample_in num strip.source.now strip.source_stride

-- A block whose source has `across` columns and `down` rows more than the block, with samples of the depth.
pub record IsBlock {T : Type 0} (num : T → ℕ) (across down : ℕ) (block : Strip T) : Type 0 where
  pub wide : block.area.width ≤ 128
  pub high : block.area.height ≤ 128
  pub some : 0 < block.area.height
  pub depths : IsDepth block.bit_depth
  pub reach : HoldRows (length block.source.now) block.source_stride (block.area.width + across)
      (block.area.height + down)
  pub within : AreWithinDepth block.bit_depth (sample_of num block) (block.area.width + across)
      (block.area.height + down)

-- half of each weight
abbrev pub halved : List ℤ → List ℤ
halved taps = map (λ z. int_shr z 1) taps

-- The values that filters give for row r and column c of a block, over the samples that it reads and by halved weights:
-- only along its rows, only down its columns, and both ways. Between the two filters, values are kept as numbers of 15
-- bits.
abbrev pub along : Rounding → List ℤ → (ℕ → ℕ → ℕ) → (y c : ℕ) → ℤ
along rounding halves samples y c = settled rounding (weighted halves (λ t. pos (samples (c + t) y)))

abbrev pub down_alone : Rounding → List ℤ → (ℕ → ℕ → ℕ) → (r c : ℕ) → ℤ
down_alone rounding halves samples r c = settled rounding (weighted halves (λ t. pos (samples c (r + t))))

abbrev pub both_ways : Rounding → (depth : ℕ) → (across down : List ℤ) → (ℕ → ℕ → ℕ) → (r c : ℕ) → ℤ
both_ways rounding depth across down samples r c =
    settled rounding (weighted down (λ t. pos (clip 15 (along (between_filters depth) across samples (r + t) c))))

abbrev pub value_of : Roundings → (depth fx fy : ℕ) → (across down : List ℤ) → (ℕ → ℕ → ℕ) → (r c : ℕ) → ℤ
value_of roundings depth fx zero across down samples r c = along roundings.rows across samples r c
value_of roundings depth zero (suc _) across down samples r c = down_alone roundings.columns down samples r c
value_of roundings depth (suc _) (suc _) across down samples r c =
    both_ways roundings.both depth across down samples r c

-- halved weights of filters along rows and down columns
pub record AreFilters (halves : Halves) : Type 0 where
  pub across : IsFilter (doubled halves.across)
  pub down : IsFilter (doubled halves.down)

-- the values that both filters give for row r and column c of a block, one after the other
abbrev pub twice_filtered : {T : Type 0} → (T → ℕ) → Roundings → Strip T → Halves → (r c : ℕ) → ℤ
twice_filtered num roundings block halves r c =
    both_ways roundings.both block.bit_depth halves.across halves.down (sample_of num block) r c

-- the widths of strips
abbrev pub IsStripWidth : ℕ → Type 0
IsStripWidth n = (n ≡ 16) ⊎ ((n ≡ 8) ⊎ ((n ≡ 4) ⊎ (n ≡ 1)))

-- the place of a column among 16, if columns 4 to 7 and columns 8 to 11 are exchanged
abbrev pub crossed : ℕ → ℕ
crossed c = if nat_lt c 4 then c else (if nat_lt c 8 then c + 4 else (if nat_lt c 12 then c - 4 else c))

-- a part of a rectangle
abbrev pub part_of : StoredArea → (x y width height : ℕ) → StoredArea
part_of a x y width height = record { x = a.x + x; y = a.y + y; width = width; height = height }

-- `columns` columns of the first `rows` rows of a rectangle, from column `start` on
abbrev pub strip_of : StoredArea → (start columns rows : ℕ) → StoredArea
strip_of a start columns rows = record { x = a.x + start; y = a.y; width = columns; height = rows }
