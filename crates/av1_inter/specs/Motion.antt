-- The samples of a block that is predicted from a reference: block inter prediction process.
--
-- `samples x y` is the sample at column x and row y, counted from the position 3 columns left of and 3 rows above the
-- block's first sample in the reference. So the eight taps for column c are at columns c to c + 7, and those for row r
-- at rows r to r + 7. The sample that they surround is at column c + 3 and row r + 3. A block is moved by the fractions
-- fx and fy, in sixteenths of a sample to the right and down; `across` and `down` are the weights of their filters.
use Rattle.std.specs.Prelude.{ℕ, zero, suc, ◌+◌, ◌-◌, ◌*◌, ◌^◌, ◌==◌, if◌then◌else◌, List, slice_index_or, ℤ, pos, ◌+ℤ◌}
use Rattle.std.specs.Prelude.{◌-ℤ◌, ◌*ℤ◌}
use Rattle.av1_frame.specs.Arithmetic.{round_shift, clip}

-- entry i of a list, and 0 past its end
abbrev pub entry : List ℤ → ℕ → ℤ
entry values i = slice_index_or values i (pos 0)

-- the sum of the first n terms
unfoldable pub sum_to : ℕ → (ℕ → ℤ) → ℤ
sum_to zero term = pos 0
sum_to (suc n) term = sum_to n term +ℤ term n

-- the sum of eight values, each times its weight
abbrev pub weighted : List ℤ → (ℕ → ℤ) → ℤ
weighted taps value = sum_to 8 (λ t. entry taps t *ℤ value t)

-- the number of bits that values between the two filters have more than samples: InterRound0 of the rounding variables
-- derivation process is 7 less these
abbrev pub intermediate_bits : ℕ → ℕ
intermediate_bits depth = if depth == 12 then 2 else 4

-- what is subtracted from a prepared value, so that it fits 16 bits; the average adds it again
abbrev pub bias : ℕ → ℤ
bias depth = if depth == 8 then pos 0 else pos 8192

-- column c of a row in the intermediate bits: its sample if the fraction is 0, else the row filtered along itself and
-- rounded
abbrev pub intermediate_at : (depth fx : ℕ) → (across : List ℤ) → (row : ℕ → ℕ) → (c : ℕ) → ℤ
intermediate_at depth zero across row c = pos (row (c + 3) * 2 ^ intermediate_bits depth)
intermediate_at depth (suc _) across row c =
    round_shift (weighted across (λ t. pos (row (c + t)))) (7 - intermediate_bits depth)

abbrev pub intermediate : (depth fx : ℕ) → (across : List ℤ) → (ℕ → ℕ → ℕ) → (y c : ℕ) → ℤ
intermediate depth fx across samples y c = intermediate_at depth fx across (λ x. samples x y) c

-- rows in the intermediate bits, filtered down a column, from row r on
abbrev pub down_intermediate : (depth fx : ℕ) → (across down : List ℤ) → (ℕ → ℕ → ℕ) → (r c : ℕ) → ℤ
down_intermediate depth fx across down samples r c = weighted down (λ t. intermediate depth fx across samples (r + t) c)

-- the samples themselves filtered down a column, from row r on
abbrev pub down_samples : (down : List ℤ) → (ℕ → ℕ → ℕ) → (r c : ℕ) → ℤ
down_samples down samples r c = weighted down (λ t. pos (samples (c + 3) (r + t)))

-- the sample at row r and column c of a block with one reference
abbrev pub single : (depth fx fy : ℕ) → (across down : List ℤ) → (ℕ → ℕ → ℕ) → (r c : ℕ) → ℕ
single depth zero zero across down samples r c = samples (c + 3) (r + 3)
single depth zero (suc _) across down samples r c = clip depth (round_shift (down_samples down samples r c) 7)
single depth (suc fx) zero across down samples r c =
    clip depth (round_shift (intermediate depth (suc fx) across samples (r + 3) c) (intermediate_bits depth))
single depth (suc fx) (suc _) across down samples r c =
    clip depth (round_shift (down_intermediate depth (suc fx) across down samples r c) (7 + intermediate_bits depth))

-- what one of two references gives, before the bias is subtracted; `prepared` has it subtracted
abbrev pub unbiased : (depth fx fy : ℕ) → (across down : List ℤ) → (ℕ → ℕ → ℕ) → (r c : ℕ) → ℤ
unbiased depth fx zero across down samples r c = intermediate depth fx across samples (r + 3) c
unbiased depth zero (suc _) across down samples r c =
    round_shift (down_samples down samples r c) (7 - intermediate_bits depth)
unbiased depth (suc fx) (suc _) across down samples r c =
    round_shift (down_intermediate depth (suc fx) across down samples r c) 7

abbrev pub prepared : (depth fx fy : ℕ) → (across down : List ℤ) → (ℕ → ℕ → ℕ) → (r c : ℕ) → ℤ
prepared depth fx fy across down samples r c = unbiased depth fx fy across down samples r c -ℤ bias depth

-- the sample that is the average of two prepared values
abbrev pub averaged : ℕ → (first second : ℤ) → ℕ
averaged depth first second =
    clip depth (round_shift (first +ℤ second +ℤ pos 2 *ℤ bias depth) (intermediate_bits depth + 1))
