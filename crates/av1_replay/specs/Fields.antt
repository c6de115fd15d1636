-- The rest of the bytes of rows, and the bytes of fields.
use Rattle.std.specs.Prelude.{◌≡◌, ℕ, ◌<◌, ℤ, Bool, if◌then◌else◌, List, ◌∷◌, ◌++◌, length}
use Rattle.std.specs.Int.{cast_unsigned, to_le_bytes, w8, w16, w32}
use Rattle.av1_replay.specs.declared.fields.Fields.{Fields as Unread}

-- the bytes that were not read yet
abbrev pub unread : Unread → List ℕ
unread fields = fields.left.now

-- fewer than this many bytes are left, and none was read
pub record Lacks (count : ℕ) (old new : List ℕ) : Type 0 where
  pub fewer : length old < count
  pub same : new ≡ old

-- a byte that is 1 or 0, before other bytes
abbrev pub flag_before : Bool → List ℕ → List ℕ
flag_before flag others = (if flag then 1 else 0) ∷ others

-- a number of one byte in two's complement
abbrev pub signed_before : ℤ → List ℕ → List ℕ
signed_before number others = cast_unsigned w8 number ∷ others

-- a number of two bytes, the low byte first
abbrev pub two_before : ℕ → List ℕ → List ℕ
two_before number others = to_le_bytes w16 number ++ others

-- a number of four bytes, the low byte first
abbrev pub four_before : ℕ → List ℕ → List ℕ
four_before number others = to_le_bytes w32 number ++ others

-- the number of some bytes, in one byte, and then the bytes
abbrev pub short_part_before : List ℕ → List ℕ → List ℕ
short_part_before part others = length part ∷ (part ++ others)

-- the number of some bytes, in four bytes, and then the bytes
abbrev pub part_before : List ℕ → List ℕ → List ℕ
part_before part others = four_before (length part) (part ++ others)
