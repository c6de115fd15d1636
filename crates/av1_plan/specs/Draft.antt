-- Drafts of texts: numbers that are drawn and fields that are written, one after the other. A number that was drawn may
-- decide what comes next.
use Rattle.std.specs.Prelude.{ℕ, zero, suc, ◌+◌, ◌%◌, List, ◌++◌, Bool, if◌then◌else◌}
use Rattle.std.specs.Int.{to_le_bytes}
use Rattle.av1_plan.specs.Format.{Length, width}

infixr 10 ◌>>◌
pub data Draft : Type 0 where
  -- no field
  nothing : Draft
  -- a field of this length, with this number
  writes : Length → ℕ → Draft
  -- a number below k is drawn, and then what it decides
  draws : ℕ → (ℕ → Draft) → Draft
  -- one draft, and after it another
  ◌>>◌ : Draft → Draft → Draft

-- a draft that is written only if a test holds
abbrev pub only_if : Bool → Draft → Draft
only_if b d = if b then d else nothing

-- d i, d (i + 1) and so on, n of them
unfoldable pub each : (ℕ → Draft) → ℕ → ℕ → Draft
each d i zero = nothing
each d i (suc n) = d i >> each d (i + 1) n

-- The bytes of a draft after the bytes that are there already, and the state after it. A draw goes on to the next
-- state, and gives the number of that state, modulo k.
abbrev pub written : (next number : ℕ → ℕ) → Draft → List ℕ × ℕ → List ℕ × ℕ
written next number nothing s = s
written next number (writes size v) s = (s.0 ++ to_le_bytes (width size) v, s.1)
written next number (draws k d) s = written next number (d (number (next s.1) % k)) (s.0, next s.1)
written next number (d >> e) s = written next number e (written next number d s)
