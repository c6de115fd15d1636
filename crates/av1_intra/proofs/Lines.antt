-- Where lines meet a side, sample by sample of a row.
use Rattle.std.proofs.Common.{ℕ, ◌+◌, ◌-◌, ◌*◌, ◌/◌, ◌%◌, ◌^◌, ◌<◌, ◌≤◌, ◌≡◌, ap, arith, ◌∙◌, sym, inl, inr, subst, mul_assoc, refl, true, false}
use Rattle.std.proofs.Common.{cond, leb}
use Rattle.std.proofs.lemmas.Bool.Decides.{nat_tests}
use Rattle.std.proofs.lemmas.Bool.{cases_eq, cases_lt}
use Rattle.std.proofs.Math.Nat.{mul-lt-mul_of_pos_right, mul-le-mul_left}
use Rattle.av1_intra.specs.Sides.{Side}
use Rattle.av1_intra.specs.Angles.{ArePair}
use Rattle.av1_intra.specs.Directional.{blend, at, between}

-- what holds of 0 and 1 holds of a side's upsampling
pub one_of_two : (P : ℕ → Type 0) (u : ℕ) → u ≤ 1 → P 0 → P 1 → P u
one_of_two P u h a b =
    elim (cases_eq u 0) [
      | inl e ↦ subst P (sym e) a
      | inr e ↦ subst P (let f : 1 ≡ u = omega arith in f) b
    ]

-- a shift by a upsampling loses nothing
pub shifted : (u k : ℕ) → u ≤ 1 → k < 2 ^ 20 → k * 2 ^ u % 18446744073709551616 ≡ k * 2 ^ u
shifted u k h l =
    one_of_two (λ u. k * 2 ^ u % 18446744073709551616 ≡ k * 2 ^ u) u h (omega arith) (omega arith)

-- whole places further along a side is so many entries further
pub at_further : (depth : ℕ) (E : Side) (u n k : ℕ) → u ≤ 1 → at depth E u n k ≡ at depth E u (n + 64 * k) 0
unfolding at
at_further depth E u n k h =
    let e : n / 2 ^ (6 - u) + k * 2 ^ u ≡ (n + 64 * k) / 2 ^ (6 - u) + 0 * 2 ^ u =
    one_of_two (λ u. n / 2 ^ (6 - u) + k * 2 ^ u ≡ (n + 64 * k) / 2 ^ (6 - u) + 0 * 2 ^ u) u h (omega arith) (omega arith) in
    let z : n * 2 ^ u / 2 % 32 ≡ (n + 64 * k) * 2 ^ u / 2 % 32 =
    one_of_two (λ u. n * 2 ^ u / 2 % 32 ≡ (n + 64 * k) * 2 ^ u / 2 % 32) u h (omega arith) (omega arith) in
    ap (λ e. blend depth E e (n * 2 ^ u / 2 % 32)) e ∙ ap (blend depth E ((n + 64 * k) / 2 ^ (6 - u) + 0 * 2 ^ u)) z

pub at_moved : (depth : ℕ) (E : Side) (u n m k : ℕ) → u ≤ 1 → at depth E u (n + 64 * m) k ≡ at depth E u n (m + k)
at_moved depth E u n m k h =
    let e : n + 64 * m + 64 * k ≡ n + 64 * (m + k) = omega arith in
    at_further depth E u (n + 64 * m) k h ∙ ap (λ v. at depth E u v 0) e ∙ sym (at_further depth E u n (m + k) h)

-- between 90 and 180: the columns that the left side gives
pub left_columns : (i m dx dy : ℕ) → ArePair dx dy → 64 * m < (i + 1) * dx → m * dy < 64 * (i + 1)
left_columns i m dx dy h l =
    let a = mul-lt-mul_of_pos_right l h.left in
    let b = mul-le-mul_left (i + 1) h.product in
    let c = mul_assoc (i + 1) dx dy in
    omega arith

-- a choice by an order
pub kept_first : {X : Type 0} (l m : ℕ) (v w : X) → l ≤ m → cond (leb l m) v w ≡ v
kept_first l m v w h = let t : leb l m ≡ true = grind (arith, nat_tests) in rw t refl

pub kept_second : {X : Type 0} (l m : ℕ) (v w : X) → m < l → cond (leb l m) w v ≡ v
kept_second l m v w h = let t : leb l m ≡ false = grind (arith, nat_tests) in rw t refl

-- a sample of the side above, or else a number that the left side gives
pub between_of : (depth : ℕ) (A : Side) (u : ℕ) (L : Side) (v dx dy i j n : ℕ) →
    (64 * (j + 1) < (i + 1) * dx → n ≡ at depth L v (64 * (i + 1) - (j + 1) * dy) 0) →
    cond (leb ((i + 1) * dx) (64 * (j + 1))) (at depth A u (64 * (j + 1) - (i + 1) * dx) 0) n ≡ between depth A u L v dx dy i j
unfolding between
between_of depth A u L v dx dy i j n h =
    elim (cases_lt (64 * (j + 1)) ((i + 1) * dx)) [
      | inl b ↦ ap (cond (leb ((i + 1) * dx) (64 * (j + 1))) (at depth A u (64 * (j + 1) - (i + 1) * dx) 0)) (h b)
      | inr b ↦ kept_first ((i + 1) * dx) (64 * (j + 1)) _ n b
          ∙ sym (kept_first ((i + 1) * dx) (64 * (j + 1)) _ (at depth L v (64 * (i + 1) - (j + 1) * dy) 0) b)
    ]
