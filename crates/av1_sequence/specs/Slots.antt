-- The slots of a sequence: what slots hold, which slots a frame reads, and which it replaces.
use Rattle.std.specs.Prelude.{◌*◌, slice_index, ℕ, zero, suc, ◌+◌, ◌/◌, ◌%◌, ◌^◌, ◌==◌, ◌&&◌, Bool, List, Option, Some}
use Rattle.std.specs.Prelude.{None, slice_index_or, is_some, if◌then◌else◌}
use Rattle.std.specs.List.{list_any}
use Rattle.av1_lists.specs.Lists.{by_index}

-- the visible planes of a frame, Y, U and V, each row by row
abbrev pub Frame : Type 0
Frame = List (List ℕ)

-- eight slots, each empty or with a frame
abbrev pub Slots : Type 0
Slots = List (Option Frame)

abbrev pub slot_of : Slots → ℕ → Option Frame
slot_of slots s = slice_index_or slots s None

-- whether one of the references names a slot
abbrev pub is_named : (named : List ℕ) → ℕ → Bool
is_named named s = list_any (λ n. n == s) named

-- a frame reads a slot if a reference names it and it is filled
abbrev pub is_read : (named : List ℕ) → Slots → ℕ → Bool
is_read named slots s = is_named named s && is_some (slot_of slots s)

-- the number whose bits are set for the numbers below n that pass a test
abbrev pub bits_of : (ℕ → Bool) → ℕ → ℕ
bits_of test zero = 0
bits_of test (suc n) = bits_of test n + (if test n then 2 ^ n else 0)

-- how many of the numbers below n pass a test
abbrev pub count_of : (ℕ → Bool) → ℕ → ℕ
count_of test zero = 0
count_of test (suc n) = count_of test n + (if test n then 1 else 0)

-- bit s of a number
unfoldable pub has_bit : ℕ → ℕ → Bool
has_bit bits s = bits / 2 ^ s % 2 == 1

-- the slots after a frame has replaced the slots with these bits
abbrev pub refreshed : Slots → (refresh : ℕ) → Frame → Slots
refreshed slots refresh frame = by_index 8 (λ s. if has_bit refresh s then Some frame else slot_of slots s)

-- row y of a plane whose rows have this width
abbrev pub row_in : (width : ℕ) → (samples : List ℕ) → (y : ℕ) → List ℕ
row_in width samples y = by_index width (λ x. slice_index samples (y * width + x))
