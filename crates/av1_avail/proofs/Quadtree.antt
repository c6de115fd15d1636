-- One node further up the quadtree.
use Rattle.std.proofs.Common.{◌≡◌, ℕ, zero, suc, ◌+◌, ◌-◌, ◌/◌, ◌%◌, ◌^◌, ◌<◌, true, false, ◌&&◌, ◌||◌, refl, ◌∙◌, arith}
use Rattle.std.proofs.lemmas.Bool.{eq-eqb, ne_eqb}
use Rattle.std.proofs.lemmas.Nat.Bits.{shr_and_one}
use Rattle.std.specs.Prelude.{bit_and}
use Rattle.av1_avail.specs.Bits.{bit, reaches_lower_right}

reaches_next : (k x y : ℕ) → k < 4 → reaches_lower_right (4 - k) x y ≡ (bit x k && (bit y k || reaches_lower_right (4 - (k + 1)) x y))
reaches_next zero x y h = refl
reaches_next (suc zero) x y h = refl
reaches_next (suc (suc zero)) x y h = refl
reaches_next (suc (suc (suc zero))) x y h = refl
reaches_next (suc (suc (suc (suc k)))) x y h = absurd (omega arith)

bit_set : (n k : ℕ) → (bit_and (n / 2 ^ k) 1 ≡ 0 → ⊥) → bit n k ≡ true
bit_set n k ne = let e = shr_and_one n k in eq-eqb (n / 2 ^ k % 2) 1 (omega arith)

bit_clear : (n k : ℕ) → (bit_and (n / 2 ^ k) 1 ≡ 1 → ⊥) → bit n k ≡ false
bit_clear n k ne = let e = shr_and_one n k in ne_eqb (n / 2 ^ k % 2) 1 (λ f. ne (e ∙ f))

pub reaches_found : (k x y : ℕ) → k < 4 → (bit_and (x / 2 ^ k) 1 ≡ 0 → ⊥) → bit_and (y / 2 ^ k) 1 ≡ 1 → reaches_lower_right (4 - k) x y ≡ true
reaches_found k x y h ne e = rw (bit_set x k ne, bit_set y k (λ z. omega arith)) at (reaches_next k x y h)

pub reaches_more : (k x y : ℕ) → k < 4 → (bit_and (x / 2 ^ k) 1 ≡ 0 → ⊥) → (bit_and (y / 2 ^ k) 1 ≡ 1 → ⊥)
    → reaches_lower_right (4 - k) x y ≡ reaches_lower_right (4 - (k + 1)) x y
reaches_more k x y h ne ne' = rw (bit_set x k ne, bit_clear y k ne') at (reaches_next k x y h)
