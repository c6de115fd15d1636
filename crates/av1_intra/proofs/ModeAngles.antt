-- The angles of the modes and their steps.
use Rattle.std.proofs.Common.{ℕ, ◌*◌, ◌%◌, ◌<◌, ◌≤◌, ◌≡◌, Bool, true, not, ◌&&◌, ◌||◌, arith, leb, eqb, ℤ, pos, negsuc, ◌+ℤ◌, ◌*ℤ◌, ◌-ℤ◌, unsigned_abs, ap, ◌∙◌}
use Rattle.std.proofs.lemmas.Bool.Decides.{nat_tests}
use Rattle.std.proofs.lemmas.Int.{ints}
use Rattle.av1_intra.specs.Sides.{distance}
use Rattle.av1_intra.specs.Angles.{is_interpolated}
use Rattle.av1_intra.proofs.Derivatives.{each_below, one_below}

-- a step's angle is so far from the mode's
step_distance : (p a : ℕ) (step : ℤ) → 9 ≤ a → unsigned_abs step ≤ 3 → pos p ≡ pos a +ℤ pos 3 *ℤ step → distance p a ≡ 3 * unsigned_abs step
step_distance p a (pos n) m h e = grind (arith, ints)
step_distance p a (negsuc n) m h e = grind (arith, ints)

-- whether p is interpolated, where it is near the angle a
abbrev near_fine : ℕ → ℕ → Bool
near_fine a p = not (leb (distance p a) 9 && eqb (distance p a % 3) 0) || (eqb p 90 || (eqb p 180 || is_interpolated p))

near_is : (a p : ℕ) → near_fine a p ≡ true → distance p a ≤ 9 → distance p a % 3 ≡ 0 → (p ≡ 90 → ⊥) → (p ≡ 180 → ⊥) → is_interpolated p ≡ true
near_is a p f d m x y = grind (arith, nat_tests)

pub step_fine : (a p : ℕ) (step : ℤ) → each_below (near_fine a) 300 ≡ true → 9 ≤ a → a < 290 → unsigned_abs step ≤ 3 → pos p ≡ pos a +ℤ pos 3 *ℤ step →
    (p ≡ 90 → ⊥) → (p ≡ 180 → ⊥) → is_interpolated p ≡ true
step_fine a p step t l m h e x y =
    let d = step_distance p a step l h e in
    near_is a p (one_below (near_fine a) 300 p t (omega (arith, d))) (omega (arith, d)) (omega (arith, d)) x y

-- how far a number is from an angle
turned_distance : (a : ℕ) (z : ℤ) → 9 ≤ a → unsigned_abs (z -ℤ pos a) ≤ 9 → distance (unsigned_abs z) a ≡ unsigned_abs (z -ℤ pos a)
turned_distance a (pos n) h l = grind (arith, ints)
turned_distance a (negsuc n) h l = absurd (omega (arith, ints))

near_parts : (d : ℕ) → (leb d 9 && eqb (d % 3) 0) ≡ true → (d ≤ 9) × (d % 3 ≡ 0)
near_parts d h = (grind (arith, nat_tests), grind (arith, nat_tests))

-- the same of an angle that is given by itself
pub turned_fine : (a : ℕ) (z : ℤ) → each_below (near_fine a) 300 ≡ true → 9 ≤ a → a < 290 →
    (leb (unsigned_abs (z -ℤ pos a)) 9 && eqb (unsigned_abs (z -ℤ pos a) % 3) 0) ≡ true → (unsigned_abs z ≡ 90 → ⊥) → (unsigned_abs z ≡ 180 → ⊥) →
    is_interpolated (unsigned_abs z) ≡ true
turned_fine a z t l m h x y =
    let parts = near_parts (unsigned_abs (z -ℤ pos a)) h in
    let n : unsigned_abs (z -ℤ pos a) ≤ 9 = parts.0 in
    let r : unsigned_abs (z -ℤ pos a) % 3 ≡ 0 = parts.1 in
    let d = turned_distance a z l n in
    near_is a (unsigned_abs z) (one_below (near_fine a) 300 (unsigned_abs z) t (omega (arith, d, n))) (omega (arith, d, n)) (ap (λ k. k % 3) d ∙ r) x y
