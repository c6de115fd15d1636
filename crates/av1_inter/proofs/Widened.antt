-- Samples in the intermediate bits, as the machine forms them.
use Rattle.std.proofs.Common.{ℕ, ◌*◌, ◌%◌, ◌^◌, ◌<◌, ◌≤◌, ◌≡◌, ◌∙◌, ap, arith, subst, sym, inl, inr, ℤ, pos, ◌-ℤ◌, w16, w32, to_z, of_z, FitsSigned}
use Rattle.std.proofs.lemmas.Int.{ints, to_z-of_z}
use Rattle.av1_blocks.specs.Depths.{IsDepth}
use Rattle.av1_inter.specs.Motion.{bias, intermediate_bits}
use Rattle.av1_inter.specs.Scaffolding.{Between, IsWithin}
use Rattle.av1_inter.proofs.Halves.{short_sum_fits}
use Rattle.av1_inter.proofs.Sums.{fits_of, shifted_is}

small_at : (depth n : ℕ) → IsDepth depth → n < 2 ^ depth → Between 8192 8191 (pos (n * 2 ^ intermediate_bits depth) -ℤ bias depth)
small_at depth n (inl e) h =
    let k : n < 256 = subst (λ d. n < 2 ^ d) e h in
    rw e (record { low = omega (arith, ints, k); high = omega (arith, ints, k) })
small_at depth n (inr (inl e)) h =
    let k : n < 1024 = subst (λ d. n < 2 ^ d) e h in
    rw e (record { low = omega (arith, ints, k); high = omega (arith, ints, k) })
small_at depth n (inr (inr e)) h =
    let k : n < 4096 = subst (λ d. n < 2 ^ d) e h in
    rw e (record { low = omega (arith, ints, k); high = omega (arith, ints, k) })

bias_within : (depth : ℕ) → IsDepth depth → IsWithin 8192 (bias depth)
bias_within depth (inl e) = rw e (record { low = omega (arith, ints); high = omega (arith, ints) })
bias_within depth (inr (inl e)) = rw e (record { low = omega (arith, ints); high = omega (arith, ints) })
bias_within depth (inr (inr e)) = rw e (record { low = omega (arith, ints); high = omega (arith, ints) })

bits_few : (depth : ℕ) → IsDepth depth → intermediate_bits depth ≤ 4
bits_few depth (inl e) = rw e (omega arith)
bits_few depth (inr (inl e)) = rw e (omega arith)
bits_few depth (inr (inr e)) = rw e (omega arith)

-- the bias as it was read
bias_read : (b p y : ℤ) → y ≡ to_z w16 (of_z w16 p) → p ≡ b → IsWithin 8192 b → to_z w32 (of_z w32 y) ≡ b
bias_read b p y ey ep w = omega (arith, ints, ey, ep, w.low, w.high)

-- a sample of this depth, shifted up, and less the bias
module _ (depth n : ℕ) (d : IsDepth depth) (h : n < 2 ^ depth) (z p y : ℤ) (bits : ℕ) (ez : z ≡ pos n) (small : n < 2 ^ 16)
    (eb : bits ≡ intermediate_bits depth)
    (ep : p ≡ bias depth) (ey : y ≡ to_z w16 (of_z w16 p)) where
  difference : to_z w32 (of_z w32 z * 2 ^ bits % 4294967296) -ℤ to_z w32 (of_z w32 y) ≡ pos (n * 2 ^ intermediate_bits depth) -ℤ bias depth
  difference =
      ap (λ b. to_z w32 (of_z w32 z * 2 ^ b % 4294967296) -ℤ to_z w32 (of_z w32 y)) eb
      ∙ ap (λ v. v -ℤ to_z w32 (of_z w32 y)) (shifted_is z n (intermediate_bits depth) ez small (bits_few depth d))
      ∙ ap (λ b. pos (n * 2 ^ intermediate_bits depth) -ℤ b) (bias_read (bias depth) p y ey ep (bias_within depth d))

  kept : to_z w32 (of_z w32 (to_z w32 (of_z w32 z * 2 ^ bits % 4294967296) -ℤ to_z w32 (of_z w32 y))) ≡ pos (n * 2 ^ intermediate_bits depth) -ℤ bias depth
  kept =
      let s = small_at depth n d h in
      ap (λ v. to_z w32 (of_z w32 v)) difference ∙ to_z-of_z w32 _ (fits_of _ (omega (arith, ints, s.low)) (omega (arith, ints, s.high)))

  pub widened_fits : FitsSigned w16 (to_z w32 (of_z w32 (to_z w32 (of_z w32 z * 2 ^ bits % 4294967296) -ℤ to_z w32 (of_z w32 y))))
  widened_fits =
      let P : ℤ → Type 0 = λ v. FitsSigned w16 v in
      let s = small_at depth n d h in
      subst P (sym kept) (short_sum_fits _ (record { low = omega (arith, ints, s.low); high = omega (arith, ints, s.high) }))

  pub widened_is : to_z w16 (of_z w16 (to_z w32 (of_z w32 (to_z w32 (of_z w32 z * 2 ^ bits % 4294967296) -ℤ to_z w32 (of_z w32 y))))) ≡
      pos (n * 2 ^ intermediate_bits depth) -ℤ bias depth
  widened_is = to_z-of_z w16 _ widened_fits ∙ kept
