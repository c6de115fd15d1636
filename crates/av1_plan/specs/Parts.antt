-- How far bytes agree with a container: the fields of its front, and then the parts that the front names, each after
-- its length. The texts of lists of fields are compared with the bytes, and nothing here reads.
use Rattle.std.specs.Prelude.{◌≡◌, ◌⊎◌, ℕ, ◌≤◌, List, ◌++◌, length}
use Rattle.std.specs.Int.{w32, to_le_bytes}
use Rattle.av1_plan.specs.Format.{Format}
use Rattle.av1_plan.specs.Spelling.{IsProper, Spells, text, IsPrefix}

-- the length of a part, as a field
abbrev pub length_text : ℕ → List ℕ
length_text n = to_le_bytes w32 n

-- a part after its length
abbrev pub part_text : List ℕ → List ℕ
part_text part = length_text (length part) ++ part

-- the text of the first fields of a container, each valid after the fields before it. These are fields of the front; or
-- they are the whole front, and then bytes that may follow the front that they spell
abbrev pub IsProperText : {A : Type 0} → Format A → (A → List ℕ → Type 0) → List ℕ → Type 0
IsProperText {A} front IsBehind run =
    ((values : List ℕ) × IsProper front values × (run ≡ text front values))
    ⊎ ((f : A) ×
    ((values : List ℕ) × Spells front values f ×
    ((behind : List ℕ) × IsBehind f behind × (run ≡ text front values ++ behind))))

-- `at` is the length of the longest of these texts that the bytes begin with
pub record IsLongestText (IsText : List ℕ → Type 0) (bytes : List ℕ) (at : ℕ) : Type 0 where
  pub reached : (run : List ℕ) × IsText run × IsPrefix run bytes × (length run ≡ at)
  pub longest : (run : List ℕ) → IsText run → IsPrefix run bytes → length run ≤ at
