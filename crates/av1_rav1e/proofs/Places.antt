-- Places that are counted from another one, as signed numbers.
use Rattle.std.proofs.Common.{ℕ, ◌^◌, ◌<◌, ◌≡◌, arith, pos, ◌-ℤ◌, to_z, of_z, w64}
use Rattle.std.proofs.lemmas.Int.{ints}

-- the word that holds such a place holds it
pub place_fits : (x origin : ℕ) → x < 2 ^ 63 → origin < 2 ^ 63 → to_z w64 (of_z w64 (pos x -ℤ pos origin)) ≡ pos x -ℤ pos origin
place_fits x origin h l =
    grind (arith, ints)
