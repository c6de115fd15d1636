-- The number of bytes before the leaves of a plan.
use Rattle.std.specs.Prelude.{◌≡◌, ℕ, zero, suc, ◌+◌, ◌*◌, ◌==◌, List, Option, length, if◌then◌else◌}
use Rattle.av1_plan.specs.declared.header.Header.{Header}
use Rattle.av1_plan.specs.Geometry.{plane_len, has_slot}
use Rattle.av1_plan.specs.Grammar.{header, references}
use Rattle.av1_plan.specs.Spelling.{AreText}

-- the number of slots that carry planes, of the first n
abbrev pub slots_held : Header → ℕ → ℕ
slots_held h zero = 0
slots_held h (suc n) = slots_held h n + (if has_slot h n then 1 else 0)

-- the number of bytes of a slot's planes: one for each sample at depth 8, else two
abbrev pub slot_bytes : Header → ℕ
slot_bytes h = (plane_len h 0 + plane_len h 1 + plane_len h 2) * (if h.depth == 8 then 1 else 2)

-- A header has 20 bytes.
abbrev pub HeadersAreTwenty : Type 0
HeadersAreTwenty = (head : List ℕ) (h : Header) → AreText header head h → length head ≡ 20

-- References have the bytes of the slots that carry planes.
abbrev pub ReferencesAreSlots : Type 0
ReferencesAreSlots =
    (samples : List ℕ) (h : Header) (stored : List (Option (List (List ℕ))))
    → AreText (references h) samples stored → length samples ≡ slots_held h 8 * slot_bytes h
