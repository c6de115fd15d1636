-- What sums become in 16 bits, as the machine forms it.
use Rattle.std.proofs.Common.{ℕ, ◌*◌, ◌%◌, ◌^◌, ◌≡◌, ◌∙◌, ap, sym, subst, arith, inl, inr, ℤ, pos, negsuc, ◌+ℤ◌, ◌-ℤ◌, ◌*ℤ◌, w16, w32, to_z, of_z, FitsSigned}
use Rattle.std.specs.Int.{int_shr, saturate_signed}
use Rattle.std.specs.Int.Signed.{shr_z}
use Rattle.std.proofs.lemmas.Int.{int_wrap_fits, ints, to_z-of_z, wrapping_mul_is}
use Rattle.av1_inter.specs.declared.rounding.Rounding.{Rounding}
use Rattle.av1_inter.specs.Scaffolding.{Between, IsRounding, IsWithin, settled}
use Rattle.av1_inter.proofs.Halves.{short_sum_fits}
use Rattle.av1_inter.proofs.Sums.{fits_of}

-- a rounding's numbers, as they are read in 32 bits
pub read_wide : (z w : ℤ) → w ≡ to_z w16 (of_z w16 z) → Between 8192 16384 z → w ≡ z
read_wide z w e b = omega (arith, ints, e, b.low, b.high)

pub passed_wide : (z w : ℤ) → w ≡ z → Between 8192 16384 z → to_z w32 (of_z w32 w) ≡ z
passed_wide z w e b = omega (arith, ints, e, b.low, b.high)

pub add_wide : (z : ℤ) → Between 0 512 z → Between 8192 16384 z
add_wide z b = record { low = omega (arith, ints, b.low); high = omega (arith, ints, b.high) }

-- a number of 16 bits is held as it is
pub held_fits : (z : ℤ) → FitsSigned w16 z → saturate_signed w16 z ≡ z
held_fits (pos n) f = ap pos (omega (arith, f.sfits))
held_fits (negsuc n) f = ap negsuc (omega (arith, f.sfits))

-- a sum over samples of 8 bits that is shifted down
shr_4 : (z : ℤ) → Between 7140 23972 z → Between 1785 5993 (shr_z z 4)
shr_4 (pos n) h = record { low = omega (arith, ints); high = omega (arith, ints, h.high) }
shr_4 (negsuc n) h = record { low = omega (arith, ints, h.low); high = omega (arith, ints) }

shr_16 : (z : ℤ) → Between 7140 23972 z → Between 1785 5993 (shr_z z 16)
shr_16 (pos n) h = record { low = omega (arith, ints); high = omega (arith, ints, h.high) }
shr_16 (negsuc n) h = record { low = omega (arith, ints, h.low); high = omega (arith, ints) }

shr_64 : (z : ℤ) → Between 7140 23972 z → Between 1785 5993 (shr_z z 64)
shr_64 (pos n) h = record { low = omega (arith, ints); high = omega (arith, ints, h.high) }
shr_64 (negsuc n) h = record { low = omega (arith, ints, h.low); high = omega (arith, ints) }

shr_256 : (z : ℤ) → Between 7140 23972 z → Between 1785 5993 (shr_z z 256)
shr_256 (pos n) h = record { low = omega (arith, ints); high = omega (arith, ints, h.high) }
shr_256 (negsuc n) h = record { low = omega (arith, ints, h.low); high = omega (arith, ints) }

shr_1024 : (z : ℤ) → Between 7140 23972 z → Between 1785 5993 (shr_z z 1024)
shr_1024 (pos n) h = record { low = omega (arith, ints); high = omega (arith, ints, h.high) }
shr_1024 (negsuc n) h = record { low = omega (arith, ints, h.low); high = omega (arith, ints) }

shifted : (r : Rounding) → IsRounding r → (z : ℤ) → Between 7140 23972 z → Between 1785 5993 (int_shr z r.shift)
shifted r h z b =
    let P : ℕ → Type 0 = λ n. Between 1785 5993 (int_shr z n) in
    elim h.shift [
      | inl e ↦ subst P (sym e) (shr_4 z b)
      | inr (inl e) ↦ subst P (sym e) (shr_16 z b)
      | inr (inr (inl e)) ↦ subst P (sym e) (shr_64 z b)
      | inr (inr (inr (inl e))) ↦ subst P (sym e) (shr_256 z b)
      | inr (inr (inr (inr e))) ↦ subst P (sym e) (shr_1024 z b)
    ]

module _ (r : Rounding) (h : IsRounding r) (z : ℤ) (b : Between 7140 23460 z) where
  moved : Between 7140 23972 (z +ℤ r.add)
  moved = record { low = omega (arith, ints, b.low, h.add.low); high = omega (arith, ints, b.high, h.add.high) }

  read : (v : ℤ) → Between 32767 32767 v → to_z w16 (of_z w16 v) ≡ v
  read v k = to_z-of_z w16 v (short_sum_fits v k)

  -- the steps of the machine
  steps : to_z w16 (of_z w16 (shr_z (to_z w16 (of_z w16 (to_z w16 (of_z w16 z) +ℤ to_z w16 (of_z w16 r.add)))) (2 ^ r.shift))) -ℤ to_z w16
      (of_z w16 r.bias) ≡ int_shr (z +ℤ r.add) r.shift -ℤ r.bias
  steps =
      let s = shifted r h (z +ℤ r.add) moved in
      let bias = to_z w16 (of_z w16 r.bias) in
      ap (λ u. to_z w16 (of_z w16 (shr_z (to_z w16 (of_z w16 (u +ℤ to_z w16 (of_z w16 r.add)))) (2 ^ r.shift))) -ℤ bias)
      (read z (record { low = omega (arith, ints, b.low); high = omega (arith, ints, b.high) }))
      ∙ ap (λ u. to_z w16 (of_z w16 (shr_z (to_z w16 (of_z w16 (z +ℤ u))) (2 ^ r.shift))) -ℤ bias)
      (read r.add (record { low = omega (arith, ints, h.add.low); high = omega (arith, ints, h.add.high) }))
      ∙ ap (λ u. to_z w16 (of_z w16 (shr_z u (2 ^ r.shift))) -ℤ bias)
      (read (z +ℤ r.add) (record { low = omega (arith, ints, moved.low); high = omega (arith, ints, moved.high) }))
      ∙ ap (λ u. u -ℤ bias) (read (int_shr (z +ℤ r.add) r.shift) (record { low = omega (arith, ints, s.low); high = omega (arith, ints, s.high) }))
      ∙ ap (λ u. int_shr (z +ℤ r.add) r.shift -ℤ u) (read r.bias (record { low = omega (arith, ints, h.bias.low); high = omega (arith, ints, h.bias.high) }))

  value_fits : FitsSigned w16 (int_shr (z +ℤ r.add) r.shift -ℤ r.bias)
  value_fits = let s = shifted r h (z +ℤ r.add) moved
      in short_sum_fits _ (record { low = omega (arith, ints, s.low, h.bias.high); high = omega (arith, ints, s.high, h.bias.low) })

  pub short_fits : FitsSigned w16
      (to_z w16 (of_z w16 (shr_z (to_z w16 (of_z w16 (to_z w16 (of_z w16 z) +ℤ to_z w16 (of_z w16 r.add)))) (2 ^ r.shift))) -ℤ to_z w16 (of_z w16 r.bias))
  short_fits = let P : ℤ → Type 0 = λ v. FitsSigned w16 v in subst P (sym steps) value_fits

  pub short_is : to_z w16
      (of_z w16
      (to_z w16 (of_z w16 (shr_z (to_z w16 (of_z w16 (to_z w16 (of_z w16 z) +ℤ to_z w16 (of_z w16 r.add)))) (2 ^ r.shift))) -ℤ to_z w16
      (of_z w16 r.bias))) ≡ settled r z
  short_is = to_z-of_z w16 _ short_fits ∙ steps ∙ sym (held_fits _ value_fits)

-- What is taken off behind a shift is taken off before it: at each shift, the product that the machine forms, and how great the steps are.
abbrev AreSteps : (z a b : ℤ) → ℕ → Type 0
AreSteps z a b s =
    (to_z w32 (of_z w32 b * 2 ^ s % 4294967296) ≡ b *ℤ pos (2 ^ s))
    × (IsWithin (2 ^ 24) (b *ℤ pos (2 ^ s)) × ((int_shr (z +ℤ (a -ℤ b *ℤ pos (2 ^ s))) s ≡ int_shr (z +ℤ a) s -ℤ b) × IsWithin (2 ^ 26) (int_shr (z +ℤ a) s)))

product_4 : (b : ℤ) → Between 8192 16384 b → to_z w32 (of_z w32 b * 4 % 4294967296) ≡ b *ℤ pos 4
product_4 b h =
    wrapping_mul_is w32 b (pos 4) (fits_of b (omega (arith, ints, h.low)) (omega (arith, ints, h.high)))
    (fits_of (pos 4) (omega (arith, ints)) (omega (arith, ints)))
    ∙ int_wrap_fits w32 (b *ℤ pos 4) (fits_of _ (omega (arith, ints, h.low, h.high)) (omega (arith, ints, h.low, h.high)))

less_4 : (b w v : ℤ) → v ≡ w -ℤ b *ℤ pos 4 → shr_z v 4 ≡ shr_z w 4 -ℤ b
less_4 b (pos n) (pos k) e = omega (arith, ints, e)
less_4 b (pos n) (negsuc k) e = omega (arith, ints, e)
less_4 b (negsuc n) (pos k) e = omega (arith, ints, e)
less_4 b (negsuc n) (negsuc k) e = omega (arith, ints, e)

wide_4 : (w : ℤ) → IsWithin (2 ^ 26) w → IsWithin (2 ^ 26) (shr_z w 4)
wide_4 (pos n) h = record { low = omega (arith, ints); high = omega (arith, ints, h.high) }
wide_4 (negsuc n) h = record { low = omega (arith, ints, h.low); high = omega (arith, ints) }

product_16 : (b : ℤ) → Between 8192 16384 b → to_z w32 (of_z w32 b * 16 % 4294967296) ≡ b *ℤ pos 16
product_16 b h =
    wrapping_mul_is w32 b (pos 16) (fits_of b (omega (arith, ints, h.low)) (omega (arith, ints, h.high)))
    (fits_of (pos 16) (omega (arith, ints)) (omega (arith, ints)))
    ∙ int_wrap_fits w32 (b *ℤ pos 16) (fits_of _ (omega (arith, ints, h.low, h.high)) (omega (arith, ints, h.low, h.high)))

less_16 : (b w v : ℤ) → v ≡ w -ℤ b *ℤ pos 16 → shr_z v 16 ≡ shr_z w 16 -ℤ b
less_16 b (pos n) (pos k) e = omega (arith, ints, e)
less_16 b (pos n) (negsuc k) e = omega (arith, ints, e)
less_16 b (negsuc n) (pos k) e = omega (arith, ints, e)
less_16 b (negsuc n) (negsuc k) e = omega (arith, ints, e)

wide_16 : (w : ℤ) → IsWithin (2 ^ 26) w → IsWithin (2 ^ 26) (shr_z w 16)
wide_16 (pos n) h = record { low = omega (arith, ints); high = omega (arith, ints, h.high) }
wide_16 (negsuc n) h = record { low = omega (arith, ints, h.low); high = omega (arith, ints) }

product_64 : (b : ℤ) → Between 8192 16384 b → to_z w32 (of_z w32 b * 64 % 4294967296) ≡ b *ℤ pos 64
product_64 b h =
    wrapping_mul_is w32 b (pos 64) (fits_of b (omega (arith, ints, h.low)) (omega (arith, ints, h.high)))
    (fits_of (pos 64) (omega (arith, ints)) (omega (arith, ints)))
    ∙ int_wrap_fits w32 (b *ℤ pos 64) (fits_of _ (omega (arith, ints, h.low, h.high)) (omega (arith, ints, h.low, h.high)))

less_64 : (b w v : ℤ) → v ≡ w -ℤ b *ℤ pos 64 → shr_z v 64 ≡ shr_z w 64 -ℤ b
less_64 b (pos n) (pos k) e = omega (arith, ints, e)
less_64 b (pos n) (negsuc k) e = omega (arith, ints, e)
less_64 b (negsuc n) (pos k) e = omega (arith, ints, e)
less_64 b (negsuc n) (negsuc k) e = omega (arith, ints, e)

wide_64 : (w : ℤ) → IsWithin (2 ^ 26) w → IsWithin (2 ^ 26) (shr_z w 64)
wide_64 (pos n) h = record { low = omega (arith, ints); high = omega (arith, ints, h.high) }
wide_64 (negsuc n) h = record { low = omega (arith, ints, h.low); high = omega (arith, ints) }

product_256 : (b : ℤ) → Between 8192 16384 b → to_z w32 (of_z w32 b * 256 % 4294967296) ≡ b *ℤ pos 256
product_256 b h =
    wrapping_mul_is w32 b (pos 256) (fits_of b (omega (arith, ints, h.low)) (omega (arith, ints, h.high)))
    (fits_of (pos 256) (omega (arith, ints)) (omega (arith, ints)))
    ∙ int_wrap_fits w32 (b *ℤ pos 256) (fits_of _ (omega (arith, ints, h.low, h.high)) (omega (arith, ints, h.low, h.high)))

less_256 : (b w v : ℤ) → v ≡ w -ℤ b *ℤ pos 256 → shr_z v 256 ≡ shr_z w 256 -ℤ b
less_256 b (pos n) (pos k) e = omega (arith, ints, e)
less_256 b (pos n) (negsuc k) e = omega (arith, ints, e)
less_256 b (negsuc n) (pos k) e = omega (arith, ints, e)
less_256 b (negsuc n) (negsuc k) e = omega (arith, ints, e)

wide_256 : (w : ℤ) → IsWithin (2 ^ 26) w → IsWithin (2 ^ 26) (shr_z w 256)
wide_256 (pos n) h = record { low = omega (arith, ints); high = omega (arith, ints, h.high) }
wide_256 (negsuc n) h = record { low = omega (arith, ints, h.low); high = omega (arith, ints) }

product_1024 : (b : ℤ) → Between 8192 16384 b → to_z w32 (of_z w32 b * 1024 % 4294967296) ≡ b *ℤ pos 1024
product_1024 b h =
    wrapping_mul_is w32 b (pos 1024) (fits_of b (omega (arith, ints, h.low)) (omega (arith, ints, h.high)))
    (fits_of (pos 1024) (omega (arith, ints)) (omega (arith, ints)))
    ∙ int_wrap_fits w32 (b *ℤ pos 1024) (fits_of _ (omega (arith, ints, h.low, h.high)) (omega (arith, ints, h.low, h.high)))

less_1024 : (b w v : ℤ) → v ≡ w -ℤ b *ℤ pos 1024 → shr_z v 1024 ≡ shr_z w 1024 -ℤ b
less_1024 b (pos n) (pos k) e = omega (arith, ints, e)
less_1024 b (pos n) (negsuc k) e = omega (arith, ints, e)
less_1024 b (negsuc n) (pos k) e = omega (arith, ints, e)
less_1024 b (negsuc n) (negsuc k) e = omega (arith, ints, e)

wide_1024 : (w : ℤ) → IsWithin (2 ^ 26) w → IsWithin (2 ^ 26) (shr_z w 1024)
wide_1024 (pos n) h = record { low = omega (arith, ints); high = omega (arith, ints, h.high) }
wide_1024 (negsuc n) h = record { low = omega (arith, ints, h.low); high = omega (arith, ints) }

module _ (r : Rounding) (h : IsRounding r) (z : ℤ) (within : IsWithin (2 ^ 25) z) where
  sum_within : IsWithin (2 ^ 26) (z +ℤ r.add)
  sum_within = record { low = omega (arith, ints, within.low, h.add.low); high = omega (arith, ints, within.high, h.add.high) }

  are_steps : AreSteps z r.add r.bias r.shift
  are_steps =
      let P : ℕ → Type 0 = λ n. AreSteps z r.add r.bias n in
      elim h.shift [
        | inl e ↦ subst P (sym e) (
          product_4 r.bias h.bias,
          (
            record { low = omega (arith, ints, h.bias.low, h.bias.high); high = omega (arith, ints, h.bias.low, h.bias.high) },
            (less_4 r.bias (z +ℤ r.add) _ (omega (arith, ints)), wide_4 (z +ℤ r.add) sum_within),
          ),
        )
        | inr (inl e) ↦ subst P (sym e) (
          product_16 r.bias h.bias,
          (
            record { low = omega (arith, ints, h.bias.low, h.bias.high); high = omega (arith, ints, h.bias.low, h.bias.high) },
            (less_16 r.bias (z +ℤ r.add) _ (omega (arith, ints)), wide_16 (z +ℤ r.add) sum_within),
          ),
        )
        | inr (inr (inl e)) ↦ subst P (sym e) (
          product_64 r.bias h.bias,
          (
            record { low = omega (arith, ints, h.bias.low, h.bias.high); high = omega (arith, ints, h.bias.low, h.bias.high) },
            (less_64 r.bias (z +ℤ r.add) _ (omega (arith, ints)), wide_64 (z +ℤ r.add) sum_within),
          ),
        )
        | inr (inr (inr (inl e))) ↦ subst P (sym e) (
          product_256 r.bias h.bias,
          (
            record { low = omega (arith, ints, h.bias.low, h.bias.high); high = omega (arith, ints, h.bias.low, h.bias.high) },
            (less_256 r.bias (z +ℤ r.add) _ (omega (arith, ints)), wide_256 (z +ℤ r.add) sum_within),
          ),
        )
        | inr (inr (inr (inr e))) ↦ subst P (sym e) (
          product_1024 r.bias h.bias,
          (
            record { low = omega (arith, ints, h.bias.low, h.bias.high); high = omega (arith, ints, h.bias.low, h.bias.high) },
            (less_1024 r.bias (z +ℤ r.add) _ (omega (arith, ints)), wide_1024 (z +ℤ r.add) sum_within),
          ),
        )
      ]

  module _ (x y : ℤ) (ex : to_z w32 (of_z w32 x) ≡ r.add) (ey : y ≡ r.bias) where
    added : to_z w32 (of_z w32 z) +ℤ to_z w32 (of_z w32 (to_z w32 (of_z w32 x) -ℤ to_z w32 (of_z w32 y * 2 ^ r.shift % 4294967296))) ≡
        z +ℤ (r.add -ℤ r.bias *ℤ pos (2 ^ r.shift))
    added =
        let steps = are_steps in
        let b = r.bias *ℤ pos (2 ^ r.shift) in
        let small = steps.1.0 in
        ap (λ u. u +ℤ to_z w32 (of_z w32 (to_z w32 (of_z w32 x) -ℤ to_z w32 (of_z w32 y * 2 ^ r.shift % 4294967296))))
        (to_z-of_z w32 z (fits_of z (omega (arith, ints, within.low)) (omega (arith, ints, within.high))))
        ∙ ap (λ u. z +ℤ to_z w32 (of_z w32 (u -ℤ to_z w32 (of_z w32 y * 2 ^ r.shift % 4294967296)))) ex
        ∙ ap (λ u. z +ℤ to_z w32 (of_z w32 (r.add -ℤ to_z w32 (of_z w32 u * 2 ^ r.shift % 4294967296)))) ey
        ∙ ap (λ u. z +ℤ to_z w32 (of_z w32 (r.add -ℤ u))) steps.0
        ∙ ap (λ u. z +ℤ u) (to_z-of_z w32 (r.add -ℤ b) (fits_of _ (omega (arith, ints, small.high, h.add.low)) (omega (arith, ints, small.low, h.add.high))))

    total_fits : FitsSigned w32 (z +ℤ (r.add -ℤ r.bias *ℤ pos (2 ^ r.shift)))
    total_fits =
        let small = are_steps.1.0 in
        fits_of _ (omega (arith, ints, small.high, h.add.low, within.low)) (omega (arith, ints, small.low, h.add.high, within.high))

    pub wide_fits : FitsSigned w32 (to_z w32 (of_z w32 z) +ℤ to_z w32 (of_z w32 (to_z w32 (of_z w32 x) -ℤ to_z w32 (of_z w32 y * 2 ^ r.shift % 4294967296))))
    wide_fits = let P : ℤ → Type 0 = λ u. FitsSigned w32 u in subst P (sym added) total_fits

    pub wide_is : to_z w32
        (of_z w32
        (shr_z (to_z w32
        (of_z w32 (to_z w32 (of_z w32 z) +ℤ to_z w32 (of_z w32 (to_z w32 (of_z w32 x) -ℤ to_z w32 (of_z w32 y * 2 ^ r.shift % 4294967296))))))
        (2 ^ r.shift))) ≡ int_shr (z +ℤ r.add) r.shift -ℤ r.bias
    wide_is =
        let steps = are_steps in
        let last = steps.1.1.1 in
        ap (λ u. to_z w32 (of_z w32 (shr_z u (2 ^ r.shift)))) (to_z-of_z w32 _ wide_fits ∙ added)
        ∙ ap (λ u. to_z w32 (of_z w32 u)) steps.1.1.0
        ∙ to_z-of_z w32 _ (fits_of _ (omega (arith, ints, last.low, h.bias.high)) (omega (arith, ints, last.high, h.bias.low)))
