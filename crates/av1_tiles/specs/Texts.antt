-- How far bytes agree with a grid of tiles. The bytes are compared with the texts of lists of fields. Nothing here
-- reads.
use Rattle.std.specs.Prelude.{◌≡◌, ◌⊎◌, zero, suc, ℕ, ◌<◌, ◌^◌, List, [], ◌++◌, length, All, Ok, Err}
use Rattle.std.specs.List.{flat_map}
use Rattle.av1_plan.specs.Parts.{length_text, part_text, IsProperText, IsLongestText}
use Rattle.av1_plan.specs.Spelling.{Spells, text}
use Rattle.av1_streams.specs.Streams.{AreBytes}
use Rattle.av1_tiles.specs.Grammar.{FileValue, count_tiles, front, read_file}

-- The text of the first fields of n parts. Either there is no field, or only the length of a part, or a whole part and
-- then the first fields of the other parts.
abbrev pub IsRun : ℕ → List ℕ → Type 0
IsRun zero run = run ≡ []
IsRun (suc n) run =
    (run ≡ []) ⊎ ((len : ℕ) × (len < 2 ^ 32) × (run ≡ length_text len)) ⊎ ((part : List ℕ) × (length part < 2 ^ 32) ×
    ((more : List ℕ) × IsRun n more × (run ≡ part_text part ++ more)))

-- the text of the first fields of a grid: fields of its front, or all of these and the first fields of its parts
abbrev pub IsGridRun : List ℕ → Type 0
IsGridRun = IsProperText front (λ f. IsRun (count_tiles f))

-- the bytes are the text of this grid: all fields before the parts, and a part for each tile
pub record IsGridText (bytes : List ℕ) (f : FileValue) : Type 0 where
  pub values : List ℕ
  pub spells : Spells front values f.front
  pub count : length f.parts ≡ count_tiles f.front
  pub short : All (λ part. length part < 2 ^ 32) f.parts
  pub whole : bytes ≡ text front values ++ flat_map part_text f.parts

-- Bytes that are not a valid grid are rejected at the end of the longest proper list of fields at their front.
abbrev pub RefusedAtLongest : Type 0
RefusedAtLongest = (bytes : List ℕ) (at : ℕ) → AreBytes bytes → read_file bytes ≡ Err at →
    IsLongestText IsGridRun bytes at

-- Bytes are a grid exactly if they are its text.
abbrev pub FoundAtText : Type 0
FoundAtText = (bytes : List ℕ) (f : FileValue) → AreBytes bytes → (read_file bytes ≡ Ok f → IsGridText bytes f) ×
    (IsGridText bytes f → read_file bytes ≡ Ok f)
