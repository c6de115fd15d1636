-- The kinds of fields that drawn numbers fit.
use Rattle.std.proofs.Common.{ℕ, ◌<◌, ◌≤◌, refl, arith}
use Rattle.std.proofs.lemmas.Bool.{le-leb}
use Rattle.av1_plan.specs.declared.header.Header.{Header}
use Rattle.av1_plan.specs.Grammar.{where_, byte_from, is_mark}
use Rattle.av1_plan.specs.Format.{Length, one, two, four, IsAdmitted, any}
use Rattle.av1_plan.specs.Generator.{less}

pub byte_is : (first last v : ℕ) → last < 256 → first ≤ v → v ≤ last → IsAdmitted (byte_from first last) v
byte_is first last v small low high = record { fits = omega arith; admitted = rw (le-leb first v low, le-leb v last high) refl }

-- the marks of every version
pub mark_is : (h : Header) (level x y mark : ℕ) → mark < 4 → IsAdmitted (where_ one (is_mark h level x y)) mark
unfolding is_mark
mark_is h level x y mark lt = record { fits = omega arith; admitted = rw (le-leb mark 3 (omega (arith, lt))) refl }

-- two's complement fits any field of its length
pub less_is : (size : Length) (v by : ℕ) → IsAdmitted (any size) (less size v by)
unfolding less
less_is one v by = record { fits = omega arith; admitted = refl }
less_is two v by = record { fits = omega arith; admitted = refl }
less_is four v by = record { fits = omega arith; admitted = refl }
