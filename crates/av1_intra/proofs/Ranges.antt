-- The sample of each range of angles.
use Rattle.std.proofs.Common.{ℕ, ◌+◌, ◌-◌, ◌*◌, ◌<◌, ◌≡◌, List, take, true, false, refl, arith, ltb, min, ◌-ℤ◌, unsigned_abs, add-zero, to_z, of_z, w64}
use Rattle.std.proofs.lemmas.Bool.Decides.{nat_tests}
use Rattle.std.proofs.lemmas.Int.{ints}
use Rattle.av1_intra.specs.Sides.{distance}
use Rattle.av1_intra.specs.Angles.{derivative}
use Rattle.av1_intra.specs.Directional.{side, directional, below_90, between, at, prepared, upsampling}
use Rattle.av1_intra.specs.declared.directional.DirectionalBlock.{DirectionalBlock}

-- how far an angle is from a side's own, through the words that hold them
pub delta_is : (p q : ℕ) → p < 300 → q < 300 → unsigned_abs (to_z w64 (of_z w64 (to_z w64 p -ℤ to_z w64 q))) ≡ distance p q
delta_is p q h l = grind (arith, ints)

module _ (b : DirectionalBlock) (corner : ℕ) (above left : List ℕ) (i j : ℕ) where
  pub is_below_90 : b.p_angle < 90
      → below_90 b.bit_depth (prepared b (distance b.p_angle 90) (min b.width b.visible_columns + b.height) (b.width + b.height)
      (side corner (take (b.width + b.height) above)))
      (upsampling b (distance b.p_angle 90)) (b.width + b.height) ((i + 1) * derivative b.p_angle + 64) j ≡ directional b corner above left i j
  unfolding directional
  is_below_90 l =
      let t : ltb b.p_angle 90 ≡ true = grind (arith, nat_tests) in
      rw t refl

  pub is_between : 90 < b.p_angle → b.p_angle < 180
      → between b.bit_depth (prepared b (distance b.p_angle 90) (min b.width b.visible_columns) b.width (side corner (take b.width above)))
      (upsampling b (distance b.p_angle 90))
      (prepared b (distance b.p_angle 180) (min b.height b.visible_rows) b.height (side corner (take b.height left))) (upsampling b (distance b.p_angle 180))
      (derivative (180 - b.p_angle))
      (derivative (b.p_angle - 90)) i j ≡ directional b corner above left i j
  unfolding directional
  is_between l m =
      let t : ltb b.p_angle 90 ≡ false = grind (arith, nat_tests) in
      let u : ltb b.p_angle 180 ≡ true = grind (arith, nat_tests) in
      let v : ltb 180 b.p_angle ≡ false = grind (arith, nat_tests) in
      rw (t, u, v) (simp add-zero)

  pub is_past_180 : 180 < b.p_angle
      → at b.bit_depth (prepared b (distance b.p_angle 180) (min b.height b.visible_rows + b.width) (b.height + b.width)
      (side corner (take (b.height + b.width) left))) (upsampling b (distance b.p_angle 180)) ((j + 1) * derivative (270 - b.p_angle) + 64) i ≡
      directional b corner above left i j
  unfolding directional
  is_past_180 l =
      let t : ltb b.p_angle 90 ≡ false = grind (arith, nat_tests) in
      let u : ltb b.p_angle 180 ≡ false = grind (arith, nat_tests) in
      let v : ltb 180 b.p_angle ≡ true = grind (arith, nat_tests) in
      rw (t, u, v) refl
