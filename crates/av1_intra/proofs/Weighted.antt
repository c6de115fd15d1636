-- Luma's part of a sample of chroma.
use Rattle.std.proofs.Common.{ℕ, zero, suc, ◌+◌, ◌-◌, ◌*◌, ◌/◌, ◌≤◌, ◌≡◌, arith, ap, ◌∙◌, sym, cond, refl, true, false, ℤ, pos, negsuc, neg_ℤ, ◌+ℤ◌, ◌*ℤ◌}
use Rattle.std.proofs.Common.{unsigned_abs, to_z, of_z, w16, w32, FitsSigned, inl, inr}
use Rattle.std.proofs.lemmas.Int.{ints, unsigned_abs-mul, to_z-of_z, fits_signed_from_abs}
use Rattle.std.proofs.lemmas.Bool.Decides.{nat_tests}
use Rattle.std.proofs.lemmas.Bool.{cases_lt}
use Rattle.std.specs.Int.Signed.{shr_z}
use Rattle.std.proofs.Math.Nat.{mul-le-mul}
use Rattle.std.specs.Prelude.{int_lt}
use Rattle.std.specs.Ordering.{int_eq}
use Rattle.av1_frame.specs.Arithmetic.{clip}
use Rattle.av1_intra.specs.ChromaFromLuma.{from_luma, scaled_luma}

-- a product of two numbers of 16 bits
pub product_small : (a b : ℤ) → FitsSigned w16 a → FitsSigned w16 b → unsigned_abs (a *ℤ b) ≤ 1073741824
product_small a b f g =
    let x : unsigned_abs a ≤ 32768 = omega (arith, ints) in
    let y : unsigned_abs b ≤ 32768 = omega (arith, ints) in
    let m : unsigned_abs a * unsigned_abs b ≤ 32768 * 32768 = mul-le-mul x y in
    let e = unsigned_abs-mul a b in
    omega (arith, m, e)

-- the same through words
pub product_word : (a b : ℤ) → FitsSigned w16 a → FitsSigned w16 b →
    unsigned_abs (to_z w32 (of_z w32 (to_z w32 (of_z w32 a) *ℤ to_z w32 (of_z w32 b)))) ≤ 1073741824
product_word a b f g =
    let x : to_z w32 (of_z w32 a) ≡ a = omega (arith, ints) in
    let y : to_z w32 (of_z w32 b) ≡ b = omega (arith, ints) in
    let p = product_small a b f g in
    let m : to_z w32 (of_z w32 (a *ℤ b)) ≡ a *ℤ b = to_z-of_z w32 (a *ℤ b) (fits_signed_from_abs w32 (a *ℤ b) (omega (arith, p))) in
    rw (x, y, m) p

false-true : false ≡ true → ⊥
false-true h = cc

-- a number of 64ths, rounded
abbrev pub scaled : ℤ → ℤ
scaled q = let n = pos ((unsigned_abs q + 32) / 64) in cond (int_lt q (pos 0)) (neg_ℤ n) n

not_below : (k : ℕ) → int_lt (pos k) (pos 0) ≡ false
not_below k = grind (arith, nat_tests)

-- the machine's rounded shift of a product below 0, and of another
pub scaled_below : (q p x : ℤ) → p ≡ q → int_lt p (pos 0) ≡ true → unsigned_abs q ≤ 1073741824 → x ≡ q +ℤ pos 31 →
    to_z w32 (of_z w32 (shr_z x 64)) ≡ scaled q
scaled_below (pos k) p x w h s e = absurd (false-true (sym (not_below k) ∙ ap (λ z. int_lt z (pos 0)) (sym w) ∙ h))
scaled_below (negsuc k) p x w h s e =
    elim (cases_lt k 31) [
      | inl b ↦ (let y : x ≡ pos (30 - k) = e ∙ omega (arith, ints) in
          let r : to_z w32 (of_z w32 (pos ((30 - k) / 64))) ≡ pos 0 = omega (arith, ints) in
          let n : (suc k + 32) / 64 ≡ 0 = omega arith in
          ap (λ z. to_z w32 (of_z w32 (shr_z z 64))) y ∙ r ∙ sym (ap (λ m. neg_ℤ (pos m)) n))
      | inr b ↦ (let y : x ≡ negsuc (k - 31) = e ∙ omega (arith, ints) in
          let r : to_z w32 (of_z w32 (negsuc ((k - 31) / 64))) ≡ negsuc ((k - 31) / 64) = omega (arith, ints) in
          let n : (suc k + 32) / 64 ≡ suc ((k - 31) / 64) = omega arith in
          ap (λ z. to_z w32 (of_z w32 (shr_z z 64))) y ∙ r ∙ sym (ap (λ m. neg_ℤ (pos m)) n))
    ]

pub scaled_above : (q p x : ℤ) → p ≡ q → int_lt p (pos 0) ≡ false → unsigned_abs q ≤ 1073741824 → x ≡ q +ℤ pos 32 →
    to_z w32 (of_z w32 (shr_z x 64)) ≡ scaled q
scaled_above (negsuc k) p x w h s e = absurd (false-true (sym (ap (λ z. int_lt z (pos 0)) (sym w) ∙ h)))
scaled_above (pos k) p x w h s e =
    let y : x ≡ pos (k + 32) = e ∙ omega (arith, ints) in
    let r : to_z w32 (of_z w32 (pos ((k + 32) / 64))) ≡ pos ((k + 32) / 64) = omega (arith, ints) in
    ap (λ z. to_z w32 (of_z w32 (shr_z z 64))) y ∙ r ∙ rw (not_below k) refl

neg_small : (n : ℕ) → n ≤ 16777216 → unsigned_abs (neg_ℤ (pos n)) ≤ 16777216
neg_small zero h = h
neg_small (suc n) h = h

-- and what is added to the DC prediction fits
pub scaled_small : (q : ℤ) → unsigned_abs q ≤ 1073741824 → unsigned_abs (scaled q) ≤ 16777216
scaled_small (pos k) s = rw (not_below k) (omega arith)
scaled_small (negsuc k) s = neg_small _ (omega arith)

-- whether there is a weight
pub no_weight : (z : ℤ) → FitsSigned w16 z → of_z w16 z ≡ 0 → int_eq z (pos 0) ≡ true
no_weight (pos k) f h = grind (arith, nat_tests)
no_weight (negsuc k) f h = absurd (omega (arith, ints))

pub some_weight : (z : ℤ) → (of_z w16 z ≡ 0 → ⊥) → int_eq z (pos 0) ≡ false
some_weight (pos k) h = grind (arith, nat_tests)
some_weight (negsuc k) h = refl

-- a sample without a weight, and one with a weight
pub unweighted : (depth : ℕ) (alpha : ℤ) (dc : ℕ) (d : ℤ) → int_eq alpha (pos 0) ≡ true → from_luma depth alpha dc d ≡ dc
unfolding from_luma
unweighted depth alpha dc d t = rw t refl

pub weighed : (depth : ℕ) (alpha p : ℤ) (dc : ℕ) (d : ℤ) → p ≡ alpha → int_eq alpha (pos 0) ≡ false →
    clip depth (pos dc +ℤ scaled_luma p d) ≡ from_luma depth alpha dc d
unfolding from_luma
weighed depth alpha p dc d e t = ap (λ z. clip depth (pos dc +ℤ scaled_luma z d)) e ∙ rw t refl

-- the choice between the two
pub unweighed_choice : (alpha : ℤ) (x y : ℕ) → int_eq alpha (pos 0) ≡ true → cond (int_eq alpha (pos 0)) x y ≡ x
unweighed_choice alpha x y t = rw t refl

pub weighed_choice : (alpha : ℤ) (x y : ℕ) → int_eq alpha (pos 0) ≡ false → cond (int_eq alpha (pos 0)) x y ≡ y
weighed_choice alpha x y t = rw t refl
