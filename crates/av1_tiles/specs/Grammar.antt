-- The format of a grid of tiles: the frame as in a plan, where the columns and rows of tiles begin, and a part for each
-- tile in raster order. Numbers are little-endian.
use Rattle.std.specs.Prelude.{codes, zero, suc, ◌*◌, ◌-◌, ◌%◌, ◌&&◌, nat_lt, ℕ, Bool, ◌==◌, List, [], ◌∷◌, ◌++◌, length}
use Rattle.std.specs.Prelude.{Option, Ok, ◌||◌, if◌then◌else◌}
use Rattle.std.specs.Int.{w32, from_le_bytes}
use Rattle.av1_plan.specs.Format.{two, four, Kind, Format, done, ◌>>=◌, field, Input, Reading, on_ok, read, read_part}
use Rattle.av1_plan.specs.Format.{start, ended}
use Rattle.av1_plan.specs.Grammar.{where_, byte_from, frame, references}
use Rattle.av1_plan.specs.declared.header.Header.{Header}

-- ---- the fields before the parts

-- the four letters at the front, for one of the two versions
abbrev pub is_magic : ℕ → Bool
is_magic v = v == from_le_bytes w32 (codes "RTL1") || v == from_le_bytes w32 (codes "RTL2")

-- the version of plans that the tiles have, from these letters
abbrev pub version_of : ℕ → ℕ
version_of letters = if letters == from_le_bytes w32 (codes "RTL2") then 3 else 2

-- the start of a column or row of tiles: a multiple of 64, after the start before it, and in the frame
abbrev pub start_after : (side previous : ℕ) → Kind
start_after side previous = where_ two (λ v. v % 64 == 0 && nat_lt previous v && nat_lt v side)

-- the next `count` starts after the start before them, and then the width or height of the frame
unfoldable pub starts : (side previous count : ℕ) → Format (List ℕ)
starts side previous zero = done (side ∷ [])
starts side previous (suc count) = do
  next ← field (start_after side previous)
  more ← starts side next count
  done (next ∷ [] ++ more)

-- where the columns or rows of tiles begin, and where the last one ends; the first begins at 0 and isn't written
unfoldable pub bounds : (side : ℕ) → Format (List ℕ)
bounds side = do
  count ← field (byte_from 1 32)
  more ← starts side 0 (count - 1)
  done (0 ∷ [] ++ more)

-- The fields before the parts of the tiles: the frame, its references for each slot, and the bounds of the columns and
-- rows of tiles.
pub record FrontValue : Type 0 where
  pub header : Header
  pub references : List (Option (List (List ℕ)))
  pub columns : List ℕ
  pub rows : List ℕ

unfoldable pub front : Format FrontValue
front = do
  letters ← field (where_ four is_magic)
  header ← frame (version_of letters)
  references ← references header
  columns ← bounds header.width
  rows ← bounds header.height
  done (record { header = header; references = references; columns = columns; rows = rows })

-- how many tiles these bounds make
abbrev pub count_tiles : FrontValue → ℕ
count_tiles f = (length f.columns - 1) * (length f.rows - 1)

-- ---- the parts

-- a grid of tiles: the fields before the parts, and the bytes of each part
pub record FileValue : Type 0 where
  pub front : FrontValue
  pub parts : List (List ℕ)

-- the parts of the next tiles, after the parts that were read before
unfoldable pub read_parts : ℕ → List (List ℕ) × Input → Reading (List (List ℕ) × Input)
read_parts zero s = Ok s
read_parts (suc count) s = on_ok (read_part s.1) (λ p. read_parts count (s.0 ++ p.0 ∷ [], p.1))

-- the grid of tiles that the bytes are, or the offset of the first field that is cut off, not valid or left over
unfoldable pub read_file : List ℕ → Reading FileValue
read_file bytes =
    on_ok (read front (start bytes))
    (λ f. on_ok (read_parts (count_tiles f.0) ([], f.1)) (λ p. ended (record { front = f.0; parts = p.0 }, p.1)))
