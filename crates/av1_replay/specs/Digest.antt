-- CRC-32, as in zip files: the remainder by a polynomial over bits, each byte's low bit first.
use Rattle.std.specs.Prelude.{◌≡◌, ℕ, ◌-◌, ◌*◌, ◌/◌, ◌%◌, ◌^◌, List, [], ◌∷◌, length, min, bit_xor}
use Rattle.av1_replay.specs.declared.digest.Digest.{Digest as Sums}

-- the remainder after one more bit: the polynomial is subtracted if the low bit is 1
abbrev pub after_bit : ℕ → ℕ
after_bit sum = bit_xor (sum / 2) (sum % 2 * 0xedb88320)

-- the remainder after four more bits
abbrev pub after_four_bits : ℕ → ℕ
after_four_bits sum = after_bit (after_bit (after_bit (after_bit sum)))

-- the remainder after one more byte
unfoldable pub after_byte : ℕ → ℕ → ℕ
after_byte sum byte = after_four_bits (after_four_bits (bit_xor sum byte))

-- the remainder after these bytes
unfoldable pub after_bytes : ℕ → List ℕ → ℕ
after_bytes sum [] = sum
after_bytes sum (byte ∷ bytes) = after_bytes (after_byte sum byte) bytes

-- the digest of bytes: the remainder begins with all bits set, and all bits are inverted at the end
abbrev pub crc32 : List ℕ → ℕ
crc32 bytes = bit_xor (after_bytes 0xffffffff bytes) 0xffffffff

-- the digest holds these bytes: their remainder, and how many there are, at most the last value of a `u32`
pub record Holds (digest : Sums) (bytes : List ℕ) : Type 0 where
  pub remainder : digest.sum ≡ after_bytes 0xffffffff bytes
  pub number : digest.count ≡ min (length bytes) (2 ^ 32 - 1)
