-- Which places of a side are available: those that lie in the frame, before the side's own end or where it goes on.
use Rattle.std.proofs.Common.{◌≡◌, ℕ, ◌+◌, ◌-◌, ◌<◌, min, Bool, true, false, ◌&&◌, ◌||◌, arith}
use Rattle.std.specs.Prelude.{nat_lt}
use Rattle.std.proofs.lemmas.Bool.Decides.{nat_tests}
use Rattle.av1_edges.specs.Sides.{num_avail}

going_on : (limit first count run j : ℕ) → first < limit → j < count + run
    → nat_lt j (min count (limit - first) + min run (limit - first - count)) ≡ (nat_lt (first + j) limit && (nat_lt j count || true))
going_on limit first count run j begins near = grind (arith, nat_tests)

ending : (limit first count run j : ℕ) → first < limit → nat_lt j (min count (limit - first) + 0) ≡ (nat_lt (first + j) limit && (nat_lt j count || false))
ending limit first count run j begins = grind (arith, nat_tests)

-- place j of a side of `count` places that begins at `first`
pub available_place : (limit first count run j : ℕ) (goes_on : Bool) → first < limit → j < count + run
    → nat_lt j (num_avail limit first count goes_on run) ≡ (nat_lt (first + j) limit && (nat_lt j count || goes_on))
available_place limit first count run j true begins near = going_on limit first count run j begins near
available_place limit first count run j false begins near = ending limit first count run j begins
