-- How long a number is in decimal.
use Rattle.std.proofs.Common.{◌≡◌, ℕ, ◌≤◌, ◌<◌, ◌^◌, ◌+◌, ◌/◌, ◌%◌, [], ◌∷◌, length, decimal, arith, ap, ◌∙◌, length-append}
use Rattle.std.proofs.lemmas.Fmt.{length-decimal-le, decimal_step, decimal_digit}

-- a `u64` has at most 20 digits
pub length-decimal_short : (number : ℕ) → number < 2 ^ 64 → length (decimal number) ≤ 20
length-decimal_short number fits = length-decimal-le 20 number (omega arith) (omega arith) fits

-- one digit more than without the last
pub length-decimal_more : (number : ℕ) → 10 ≤ number → number < 2 ^ 64 → length (decimal number) ≡ length (decimal (number / 10)) + 1
length-decimal_more number more fits = ap length (decimal_step number more fits) ∙ length-append (decimal (number / 10)) ((48 + number % 10) ∷ [])

-- a digit
pub length-decimal_one : (number : ℕ) → number < 10 → length (decimal number) ≡ 1
length-decimal_one number small = ap length (decimal_digit number small)

-- what is known of the length of a number in decimal
pub ruleset lengths = (length-decimal_short, length-decimal_more, length-decimal_one)
