-- Sums and differences in one lane of a vector of n words.
use Rattle.std.proofs.Common.{ℕ, ◌≡◌, ◌+◌, ◌-◌, ◌%◌, ◌^◌, ◌<◌, pos, ◌+ℤ◌, ◌-ℤ◌, List, map, length, get_or, arith, ◌∙◌, ap, sym, w32, to_z, of_z, Fits}
use Rattle.std.proofs.Common.{FitsSigned}
use Rattle.std.specs.Simd.Lanes.{Each1, zip2}
use Rattle.std.proofs.lemmas.List.{get_or-map, length-map}
use Rattle.std.proofs.lemmas.Simd.{get_or-zip2, length-zip2, Each1-get_or}
use Rattle.std.proofs.lemmas.Int.{of_z-to_z, int_wrap_fits, wrapping_add-bits, wrapping_sub-bits}
use Rattle.av1_dct.specs.Word.{lane_of_vector}

-- the bits of n lanes
pub record Bits (n : ℕ) (bs : List ℕ) : Type 0 where
  pub count : length bs ≡ n
  pub fit : Each1 (Fits w32) bs

pub bits_at : (n : ℕ) (bs : List ℕ) (i : ℕ) → i < n → Bits n bs → get_or bs i 0 < 2 ^ 32
bits_at n bs i h b = (Each1-get_or (Fits w32) bs i 0 (omega (arith, b.count)) b.fit).fits

-- lane i of a vector that was computed as bits
pub lane_made : (bs : List ℕ) (i : ℕ) → i < length bs → get_or bs i 0 < 2 ^ 32 → lane_of_vector (map (to_z w32) bs) i ≡ to_z w32 (get_or bs i 0)
unfolding lane_of_vector
lane_made bs i h f =
    ap (to_z w32)
    (get_or-map (of_z w32) (map (to_z w32) bs) i (pos 0) 0 (omega (arith, length-map bs (to_z w32)))
    ∙ ap (of_z w32) (get_or-map (to_z w32) bs i 0 (pos 0) h)
    ∙ of_z-to_z w32 _ f)

pub lane_plus : (n : ℕ) (xs ys : List ℕ) (i : ℕ) → i < n → Bits n xs → Bits n ys → FitsSigned w32 (to_z w32 (get_or xs i 0) +ℤ to_z w32 (get_or ys i 0)) →
    lane_of_vector (map (to_z w32) (zip2 (λ x y. (x + y) % 4294967296) xs ys)) i ≡ to_z w32 (get_or xs i 0) +ℤ to_z w32 (get_or ys i 0)
lane_plus n xs ys i h bx by f =
    let z : get_or (zip2 (λ x y. (x + y) % 4294967296) xs ys) i 0 ≡ (get_or xs i 0 + get_or ys i 0) % 4294967296 =
    get_or-zip2 (λ (x y : ℕ). (x + y) % 4294967296) xs ys i 0 0 0 (omega (arith, bx.count)) (omega (arith, by.count)) in
    lane_made _ i (omega (arith, length-zip2 (λ (x y : ℕ). (x + y) % 4294967296) xs ys (bx.count ∙ sym by.count), bx.count)) (omega (arith, z))
    ∙ ap (to_z w32) z
    ∙ wrapping_add-bits w32 _ _ (bits_at n xs i h bx) (bits_at n ys i h by)
    ∙ int_wrap_fits w32 _ f

pub lane_minus : (n : ℕ) (xs ys : List ℕ) (i : ℕ) → i < n → Bits n xs → Bits n ys
    → FitsSigned w32 (to_z w32 (get_or xs i 0) -ℤ to_z w32 (get_or ys i 0))
    → lane_of_vector (map (to_z w32) (zip2 (λ x y. (x + (4294967296 - y)) % 4294967296) xs ys)) i ≡ to_z w32 (get_or xs i 0) -ℤ to_z w32 (get_or ys i 0)
lane_minus n xs ys i h bx by f =
    let z : get_or (zip2 (λ x y. (x + (4294967296 - y)) % 4294967296) xs ys) i 0 ≡ (get_or xs i 0 + (4294967296 - get_or ys i 0)) % 4294967296 =
    get_or-zip2 (λ (x y : ℕ). (x + (4294967296 - y)) % 4294967296) xs ys i 0 0 0 (omega (arith, bx.count)) (omega (arith, by.count)) in
    lane_made _ i (omega (arith, length-zip2 (λ (x y : ℕ). (x + (4294967296 - y)) % 4294967296) xs ys (bx.count ∙ sym by.count), bx.count)) (omega (arith, z))
    ∙ ap (to_z w32) z
    ∙ wrapping_sub-bits w32 _ _ (bits_at n xs i h bx) (bits_at n ys i h by)
    ∙ int_wrap_fits w32 _ f
