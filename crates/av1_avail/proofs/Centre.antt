-- The centre of a block 128 samples wide.
use Rattle.std.proofs.Common.{◌≡◌, ℕ, zero, suc, ◌+◌, ◌/◌, ◌%◌, ◌^◌, ◌<◌, ◌≤◌, false, arith}
use Rattle.std.proofs.lemmas.Bool.{lt-ltb, le-ltb}
use Rattle.av1_blocks.specs.declared.partition.BlockSize.{BlockSize}
use Rattle.av1_avail.specs.Cells.{block_columns}
use Rattle.av1_avail.specs.Availability.{table_top_right}
use Rattle.av1_avail.proofs.Halved.{some_units}

ends_at_half : (s c tw : ℕ) → s ≤ 1 → 0 < tw → c + tw ≡ 16 / 2 ^ s → 16 / 2 ^ s ≤ c % (16 / 2 ^ s) + tw
ends_at_half zero c tw h some e = omega arith
ends_at_half (suc zero) c tw h some e = omega arith
ends_at_half (suc (suc s)) c tw h some e = absurd (omega arith)

pub centre_is_not : (b : BlockSize) (x y tw r c sx sy : ℕ) → sx ≤ 1 → sy ≤ 1 → block_columns b ≡ 32 → 0 < tw → r ≡ 16 / 2 ^ sy → c + tw ≡ 16 / 2 ^ sx
    → table_top_right b x y tw r c sx ≡ false
unfolding table_top_right
centre_is_not b x y tw r c sx sy hx hy wide some at_row at_column =
    let below : 0 < r = omega (arith, some_units sy hy) in
    let wider : 16 < block_columns b = omega arith in
    rw (lt-ltb 0 r below, lt-ltb 16 (block_columns b) wider) (le-ltb (c % (16 / 2 ^ sx) + tw) (16 / 2 ^ sx) (ends_at_half sx c tw hx some at_column))
