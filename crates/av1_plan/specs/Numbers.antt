-- The numbers that are drawn.
use Rattle.std.specs.Prelude.{ℕ, zero, suc, ◌+◌, ◌*◌, ◌/◌, ◌%◌, ◌^◌}

-- the state after a state: a linear congruential generator of 64 bits
unfoldable pub state_after : ℕ → ℕ
state_after s = (s * 6364136223846793005 + 1442695040888963407) % 2 ^ 64

-- the number of a state: its upper 31 bits
unfoldable pub number_of : ℕ → ℕ
number_of s = s / 2 ^ 33

-- the state after i draws, where the first state is a seed
unfoldable pub state : ℕ → ℕ → ℕ
state seed zero = seed
state seed (suc i) = state_after (state seed i)

-- the number of draw i, counted from 1, before it is taken modulo the limit of the draw
unfoldable pub drawn : ℕ → ℕ → ℕ
drawn seed i = number_of (state seed i)
