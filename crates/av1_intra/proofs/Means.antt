-- Sums of samples, and means of them.
use Rattle.std.proofs.Common.{ℕ, ◌+◌, ◌*◌, ◌/◌, ◌^◌, ◌<◌, ◌≤◌, ◌≡◌, List, ◌++◌, length, get_or, take, map, sum, ap, arith, ◌∙◌, sym}
use Rattle.std.proofs.lemmas.List.Sums.{sum_by_more, sum_by-append, sum-map}
use Rattle.std.proofs.lemmas.List.{length-append}
use Rattle.std.proofs.Math.Nat.{pow-le-pow_right}
use Rattle.av1_intra.specs.Dc.{mean}

-- the sum with one more sample
pub sum_more : {T : Type 0} (num : T → ℕ) (xs : List T) (i : ℕ) (d : T) → i < length xs →
    sum (map num (take (i + 1) xs)) ≡ sum (map num (take i xs)) + num (get_or xs i d)
sum_more num xs i d h =
    sum-map num (take (i + 1) xs) ∙ sum_by_more num xs i d h ∙ ap (λ n. n + num (get_or xs i d)) (sym (sum-map num (take i xs)))

sum-append : (xs ys : List ℕ) → sum (xs ++ ys) ≡ sum xs + sum ys
sum-append xs ys = sum_by-append (λ x. x) xs ys

-- the mean of two sides, by their sums
pub mean_is : (xs ys : List ℕ) (n s : ℕ) → n ≡ length xs + length ys → s ≡ sum xs + sum ys → (s + n / 2) / n ≡ mean (xs ++ ys)
mean_is xs ys n s e h =
    ap (λ m. (m + n / 2) / n) (h ∙ sym (sum-append xs ys)) ∙ ap (λ m. (sum (xs ++ ys) + m / 2) / m) (e ∙ sym (length-append xs ys))

-- and of one
pub mean_of_one : (xs : List ℕ) (n s : ℕ) → n ≡ length xs → s ≡ sum xs → (s + n / 2) / n ≡ mean xs
mean_of_one xs n s e h = ap (λ m. (m + n / 2) / n) h ∙ ap (λ m. (sum xs + m / 2) / m) e

-- a mean fits where the samples do
pub mean_fits : (s n b : ℕ) → 0 < n → s + n ≤ n * b → (s + n / 2) / n < b
mean_fits s n b h e = grind arith

-- one more sample within the range b
pub sum_bound : (s k x b : ℕ) → s + k ≤ k * b → x < b → s + x + (k + 1) ≤ (k + 1) * b
sum_bound s k x b h e = grind arith

pub sample_small : (x b : ℕ) → x < 2 ^ b → b ≤ 16 → x ≤ 65535
sample_small x b h e = let m : 2 ^ b ≤ 2 ^ 16 = pow-le-pow_right (omega arith) e in omega (arith, m, h)
