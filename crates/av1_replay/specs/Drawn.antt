-- The numbers of a seed: splitmix64, one step for each number.
use Rattle.std.specs.Prelude.{ℕ, zero, suc, ◌+◌, ◌-◌, ◌*◌, ◌/◌, ◌%◌, ◌^◌, ◌==◌, List, [], ◌∷◌, ◌++◌, ℤ, pos, ◌-ℤ◌}
use Rattle.std.specs.Prelude.{bit_xor, if◌then◌else◌}
use Rattle.av1_replay.specs.declared.way.Way.{Way}
use Rattle.av1_replay.specs.declared.way.Way.TheVariants.{Any, Ends, Same}
use Rattle.av1_replay.specs.declared.way.Signed.{Signed}

-- the state after a step
abbrev pub next_state : ℕ → ℕ
next_state state = (state + 0x9e3779b97f4a7c15) % 2 ^ 64

-- the exclusive or of a number and its upper bits, moved down, times a factor
abbrev pub mixed : ℕ → ℕ → ℕ → ℕ
mixed number places factor = bit_xor number (number / 2 ^ places) * factor % 2 ^ 64

-- the number of 64 bits that a step from this state gives
unfoldable pub word : ℕ → ℕ
word state =
    let z = mixed (mixed (next_state state) 30 0xbf58476d1ce4e5b9) 27 0x94d049bb133111eb in
    bit_xor z (z / 2 ^ 31)

-- the upper bits of this number
abbrev pub upper : ℕ → ℕ → ℕ
upper bits state = word state / 2 ^ (64 - bits)

-- A number of this many bits, drawn in a way, and the state after it. In the way `Same` it is `same`.
abbrev pub in_way : Way → ℕ → ℕ → ℕ → ℕ × ℕ
in_way Any bits same state = (upper bits state, next_state state)
in_way Ends bits same state = (if upper 1 state == 0 then 0 else 2 ^ bits - 1, next_state state)
in_way Same bits same state = (same, state)

-- the number that a list repeats in the way `Same`, drawn before the list, and the state after it
abbrev pub same_for : Way → ℕ → ℕ → ℕ × ℕ
same_for Any bits state = (0, state)
same_for Ends bits state = (0, state)
same_for Same bits state = (upper bits state, next_state state)

-- the number of this many bits in two's complement that is `number` above the least one
abbrev pub centred : ℕ → ℕ → ℤ
centred bits number = pos number -ℤ pos (2 ^ (bits - 1))

-- A signed number, and the state after it. If there are spare bits and their step doesn't give 0, the number is 0.
abbrev pub signed_in_way : Signed → ℕ → ℕ → ℤ × ℕ
signed_in_way drawn same state =
    if drawn.spare == 0
    then (centred drawn.bits (in_way drawn.way drawn.bits same state).0, (in_way drawn.way drawn.bits same state).1)
    else (if upper drawn.spare state == 0
    then (
      centred drawn.bits (in_way drawn.way drawn.bits same (next_state state)).0,
      (in_way drawn.way drawn.bits same (next_state state)).1,
    )
    else (pos 0, next_state state))

-- n values, one after another, and the state after them
unfoldable pub repeated : {X : Type 0} → (ℕ → X × ℕ) → ℕ → ℕ → List X × ℕ
repeated step zero state = ([], state)
repeated step (suc n) state =
    let before = repeated step n state in
    (before.0 ++ (step before.1).0 ∷ [], (step before.1).1)

-- `count` samples of a depth, as numbers, and the state after them
abbrev pub drawn_samples : ℕ → ℕ → Way → ℕ → List ℕ × ℕ
drawn_samples count depth way state =
    let first = same_for way depth state in
    repeated (in_way way depth first.0) count first.1

-- `count` signed numbers, and the state after them
abbrev pub drawn_signed : ℕ → Signed → ℕ → List ℤ × ℕ
drawn_signed count drawn state =
    let first = same_for drawn.way drawn.bits state in
    repeated (signed_in_way drawn first.0) count first.1
