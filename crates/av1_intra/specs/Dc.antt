-- DC prediction. AV1 specification: DC intra prediction process.
use Rattle.std.specs.Prelude.{ℕ, ◌+◌, ◌/◌, List, length, sum}

-- the mean of numbers, rounded to the nearest number, and up if two are equally near
abbrev pub mean : List ℕ → ℕ
mean xs = (sum xs + length xs / 2) / length xs
