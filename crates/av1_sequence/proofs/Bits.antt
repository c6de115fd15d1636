-- Numbers that are sets of slots.
use Rattle.std.proofs.Common.{◌⊎◌, inl, inr, subst, ℕ, zero, suc, ◌+◌, ◌*◌, ◌/◌, ◌<◌, ◌≤◌, ◌≡◌, ◌≢◌, ◌^◌, Bool, true, false, refl, ap, ◌∙◌, arith}
use Rattle.std.proofs.Common.{if◌then◌else◌}
use Rattle.std.specs.Prelude.{◌==◌, ◌%◌}
use Rattle.std.proofs.Math.Nat.{two-pow-succ}
use Rattle.av1_sequence.specs.Slots.{bits_of, count_of, has_bit}

-- a test as a digit
digit : Bool → ℕ
digit b = if b then 1 else 0

digit_small : (b : Bool) → digit b ≤ 1
unfolding digit
digit_small true = omega arith
digit_small false = omega arith

weighed : (b : Bool) (w : ℕ) → (if b then w else 0) ≡ digit b * w
unfolding digit
weighed true w = omega arith
weighed false w = omega arith

digit_is : (b : Bool) (n : ℕ) → n ≡ digit b → (n == 1) ≡ b
unfolding digit
digit_is true n e = rw e refl
digit_is false n e = rw e refl

abbrev eight : (a b c d e f g h : ℕ) → ℕ
eight a b c d e f g h = a * 1 + b * 2 + c * 4 + d * 8 + e * 16 + f * 32 + g * 64 + h * 128

module _ (test : ℕ → Bool) where
  bits_eight : bits_of test 8 ≡ eight (digit (test 0)) (digit (test 1)) (digit (test 2)) (digit (test 3)) (digit (test 4)) (digit (test 5)) (digit (test 6))
      (digit (test 7))
  bits_eight =
      omega (
        arith,
        weighed (test 0) 1,
        weighed (test 1) 2,
        weighed (test 2) 4,
        weighed (test 3) 8,
        weighed (test 4) 16,
        weighed (test 5) 32,
        weighed (test 6) 64,
        weighed (test 7) 128,
      )

  pub bits_small : bits_of test 8 < 256
  bits_small =
      omega (
        arith,
        bits_eight,
        digit_small (test 0),
        digit_small (test 1),
        digit_small (test 2),
        digit_small (test 3),
        digit_small (test 4),
        digit_small (test 5),
        digit_small (test 6),
        digit_small (test 7),
      )

  -- each bit is its test
  pub bit_is : (s : ℕ) → s < 8 → (bits_of test 8 / 2 ^ s % 2 == 1) ≡ test s
  bit_is zero lt =
      digit_is (test 0) _ (omega (
        arith,
        bits_eight,
        digit_small (test 0),
        digit_small (test 1),
        digit_small (test 2),
        digit_small (test 3),
        digit_small (test 4),
        digit_small (test 5),
        digit_small (test 6),
        digit_small (test 7),
      ))
  bit_is (suc zero) lt =
      digit_is (test 1) _ (omega (
        arith,
        bits_eight,
        digit_small (test 0),
        digit_small (test 1),
        digit_small (test 2),
        digit_small (test 3),
        digit_small (test 4),
        digit_small (test 5),
        digit_small (test 6),
        digit_small (test 7),
      ))
  bit_is (suc (suc zero)) lt =
      digit_is (test 2) _ (omega (
        arith,
        bits_eight,
        digit_small (test 0),
        digit_small (test 1),
        digit_small (test 2),
        digit_small (test 3),
        digit_small (test 4),
        digit_small (test 5),
        digit_small (test 6),
        digit_small (test 7),
      ))
  bit_is (suc (suc (suc zero))) lt =
      digit_is (test 3) _ (omega (
        arith,
        bits_eight,
        digit_small (test 0),
        digit_small (test 1),
        digit_small (test 2),
        digit_small (test 3),
        digit_small (test 4),
        digit_small (test 5),
        digit_small (test 6),
        digit_small (test 7),
      ))
  bit_is (suc (suc (suc (suc zero)))) lt =
      digit_is (test 4) _ (omega (
        arith,
        bits_eight,
        digit_small (test 0),
        digit_small (test 1),
        digit_small (test 2),
        digit_small (test 3),
        digit_small (test 4),
        digit_small (test 5),
        digit_small (test 6),
        digit_small (test 7),
      ))
  bit_is (suc (suc (suc (suc (suc zero))))) lt =
      digit_is (test 5) _ (omega (
        arith,
        bits_eight,
        digit_small (test 0),
        digit_small (test 1),
        digit_small (test 2),
        digit_small (test 3),
        digit_small (test 4),
        digit_small (test 5),
        digit_small (test 6),
        digit_small (test 7),
      ))
  bit_is (suc (suc (suc (suc (suc (suc zero)))))) lt =
      digit_is (test 6) _ (omega (
        arith,
        bits_eight,
        digit_small (test 0),
        digit_small (test 1),
        digit_small (test 2),
        digit_small (test 3),
        digit_small (test 4),
        digit_small (test 5),
        digit_small (test 6),
        digit_small (test 7),
      ))
  bit_is (suc (suc (suc (suc (suc (suc (suc zero))))))) lt =
      digit_is (test 7) _ (omega (
        arith,
        bits_eight,
        digit_small (test 0),
        digit_small (test 1),
        digit_small (test 2),
        digit_small (test 3),
        digit_small (test 4),
        digit_small (test 5),
        digit_small (test 6),
        digit_small (test 7),
      ))
  bit_is (suc (suc (suc (suc (suc (suc (suc (suc s)))))))) lt = absurd (omega (arith, lt))

  -- what one more adds
  pub bits_set : (n : ℕ) {bits next : ℕ} → bits ≡ bits_of test n → true ≡ test n → next ≡ bits + 2 ^ n → next ≡ bits_of test (n + 1)
  bits_set n before is next_is =
      let next_place : suc n ≡ n + 1 = omega arith in
      next_is ∙ ap (λ (k : ℕ). k + 2 ^ n) before ∙ ap (λ (b : Bool). bits_of test n + (if b then 2 ^ n else 0)) is ∙ ap (bits_of test) next_place

  pub bits_same : (n : ℕ) {bits next : ℕ} → bits ≡ bits_of test n → false ≡ test n → next ≡ bits → next ≡ bits_of test (n + 1)
  bits_same n before is next_is =
      let next_place : suc n ≡ n + 1 = omega arith in
      omega (arith, next_is, before) ∙ ap (λ (b : Bool). bits_of test n + (if b then 2 ^ n else 0)) is ∙ ap (bits_of test) next_place

  pub count_one : (n : ℕ) {count next : ℕ} → count ≡ count_of test n → true ≡ test n → next ≡ count + 1 → next ≡ count_of test (n + 1)
  count_one n before is next_is =
      let next_place : suc n ≡ n + 1 = omega arith in
      next_is ∙ ap (λ (k : ℕ). k + 1) before ∙ ap (λ (b : Bool). count_of test n + (if b then 1 else 0)) is ∙ ap (count_of test) next_place

  pub count_same : (n : ℕ) {count next : ℕ} → count ≡ count_of test n → false ≡ test n → next ≡ count → next ≡ count_of test (n + 1)
  count_same n before is next_is =
      let next_place : suc n ≡ n + 1 = omega arith in
      omega (arith, next_is, before) ∙ ap (λ (b : Bool). count_of test n + (if b then 1 else 0)) is ∙ ap (count_of test) next_place

  -- bits of the first n lie below 2 ^ n, so that one more fits a byte
  pub bits_below : (n : ℕ) → bits_of test n < 2 ^ n
  bits_below zero = omega arith
  bits_below (suc n) = go (test n) (bits_below n)
    where
      go : (b : Bool) → bits_of test n < 2 ^ n → bits_of test n + (if b then 2 ^ n else 0) < 2 ^ suc n
      go true lt = omega (arith, lt, two-pow-succ n)
      go false lt = omega (arith, lt, two-pow-succ n)

  pub count_below : (n : ℕ) → count_of test n ≤ n
  count_below zero = omega arith
  count_below (suc n) = go (test n) (count_below n)
    where
      go : (b : Bool) → count_of test n ≤ n → count_of test n + (if b then 1 else 0) ≤ suc n
      go true le = omega (arith, le)
      go false le = omega (arith, le)

-- the bits of the first slots are at most those of a byte
pub power_small : (n : ℕ) → n < 8 → 2 ^ n ≤ 128
power_small zero lt = omega arith
power_small (suc zero) lt = omega arith
power_small (suc (suc zero)) lt = omega arith
power_small (suc (suc (suc zero))) lt = omega arith
power_small (suc (suc (suc (suc zero)))) lt = omega arith
power_small (suc (suc (suc (suc (suc zero))))) lt = omega arith
power_small (suc (suc (suc (suc (suc (suc zero)))))) lt = omega arith
power_small (suc (suc (suc (suc (suc (suc (suc zero))))))) lt = omega arith
power_small (suc (suc (suc (suc (suc (suc (suc (suc n)))))))) lt = absurd (omega (arith, lt))

no_digit : (n : ℕ) → (n % 2 == 1) ≡ false → n % 2 ≡ 0
no_digit n e = go (n % 2) (omega arith) e
  where
    go : (m : ℕ) → m < 2 → (m == 1) ≡ false → m ≡ 0
    go zero lt e = refl
    go (suc zero) lt e = absurd cc
    go (suc (suc m)) lt e = absurd (omega (arith, lt))

-- a byte without bits is 0
no_bits : (x : ℕ) → x < 256 → x % 2 ≡ 0 → x / 2 % 2 ≡ 0 → x / 4 % 2 ≡ 0 → x / 8 % 2 ≡ 0 → x / 16 % 2 ≡ 0 → x / 32 % 2 ≡ 0 → x / 64 % 2 ≡ 0 → x / 128 % 2 ≡ 0 →
    x ≡ 0
no_bits x lt a b c d e f g h = omega (arith, lt, a, b, c, d, e, f, g, h)

no_low : (x : ℕ) → has_bit x 0 ≡ false → x % 2 ≡ 0
unfolding has_bit
no_low x e = (let n = no_digit (x / 2 ^ 0) e in omega (arith, n))

no_at : (x r w : ℕ) → 2 ^ r ≡ w → has_bit x r ≡ false → x / w % 2 ≡ 0
unfolding has_bit
no_at x r w is e = subst (λ (v : ℕ). x / v % 2 ≡ 0) is (no_digit (x / 2 ^ r) e)

has : (x r : ℕ) → r < 8 → (b : Bool) → has_bit x r ≡ b → ((r : ℕ) × ((r < 8) × (has_bit x r ≡ true))) ⊎ (has_bit x r ≡ false)
has x r lt true e = inl (r, (lt, e))
has x r lt false e = inr e

-- a byte that isn't 0 has a bit
pub some_bit : (x : ℕ) → x < 256 → x ≢ 0 → (r : ℕ) × ((r < 8) × (has_bit x r ≡ true))
some_bit x lt some = elim (has x 0 (omega arith) _ refl) [
  | inl y ↦ y
  | inr n0 ↦ elim (has x 1 (omega arith) _ refl) [
    | inl y ↦ y
    | inr n1 ↦ elim (has x 2 (omega arith) _ refl) [
      | inl y ↦ y
      | inr n2 ↦ elim (has x 3 (omega arith) _ refl) [
        | inl y ↦ y
        | inr n3 ↦ elim (has x 4 (omega arith) _ refl) [
          | inl y ↦ y
          | inr n4 ↦ elim (has x 5 (omega arith) _ refl) [
            | inl y ↦ y
            | inr n5 ↦ elim (has x 6 (omega arith) _ refl) [
              | inl y ↦ y
              | inr n6 ↦ elim (has x 7 (omega arith) _ refl) [
                | inl y ↦ y
                | inr n7 ↦ absurd (some (none x lt n0 n1 n2 n3 n4 n5 n6 n7))
              ]
            ]
          ]
        ]
      ]
    ]
  ]
]
  where
    none : (x : ℕ) → x < 256 → has_bit x 0 ≡ false → has_bit x 1 ≡ false → has_bit x 2 ≡ false → has_bit x 3 ≡ false → has_bit x 4 ≡ false →
        has_bit x 5 ≡ false → has_bit x 6 ≡ false → has_bit x 7 ≡ false → x ≡ 0
    none x lt a b c d e f g h =
        no_bits x lt (no_low x a) (no_at x 1 2 refl b) (no_at x 2 4 refl c) (no_at x 3 8 refl d) (no_at x 4 16 refl e) (no_at x 5 32 refl f)
        (no_at x 6 64 refl g) (no_at x 7 128 refl h)
