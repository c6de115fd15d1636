-- The number that a word is, by its length, its first byte and what parsing it gives.
use Rattle.std.proofs.Common.{◌≡◌, ◌≢◌, ℕ, ◌<◌, ◌≤◌, ◌^◌, true, false, ◌&&◌, List, length, Option, None, Result, Ok, Err, refl, ◌∙◌, arith}
use Rattle.std.specs.Prelude.{nat_lt, nat_le, get_or}
use Rattle.std.specs.Result.{result_ok}
use Rattle.std.specs.Str.{all_ascii_digits}
use Rattle.std.specs.Str.Parse.{digits_value, ParsesUnsigned}
use Rattle.std.proofs.lemmas.Bool.{and_parts, false_from_ne_true, lt-ltb, le-leb, ltb-true, leb-true}
use Rattle.std.proofs.lemmas.Str.Parse.{IsNumeralModel, numerals_by_value, tells_all_ascii_digits, not_in_digits, parse_plain}
use Rattle.av1_recon.specs.Numbers.{is_number, number_of}

digits : IsNumeralModel (λ ds. all_ascii_digits ds ≡ true) (digits_value 10)
digits = numerals_by_value (λ ds. all_ascii_digits ds ≡ true) tells_all_ascii_digits

-- the word is a number
pub record IsNumber (word : List ℕ) : Type 0 where
  pub some : 0 < length word
  pub few : length word ≤ 10
  pub digits : all_ascii_digits word ≡ true
  pub fits : digits_value 10 word < 2 ^ 32

-- what the test says
is_number-true : (word : List ℕ) → is_number word ≡ true → IsNumber word
is_number-true word e =
    let (abc, fits) = and_parts (nat_lt 0 (length word) && nat_le (length word) 10 && all_ascii_digits word) (nat_lt (digits_value 10 word) (2 ^ 32)) e in
    let (ab, all) = and_parts (nat_lt 0 (length word) && nat_le (length word) 10) (all_ascii_digits word) abc in
    let (some, few) = and_parts (nat_lt 0 (length word)) (nat_le (length word) 10) ab in
    record { some = ltb-true 0 (length word) some; few = leb-true (length word) 10 few; digits = all; fits = ltb-true (digits_value 10 word) (2 ^ 32) fits }

true-is_number : (word : List ℕ) → IsNumber word → is_number word ≡ true
true-is_number word n = rw (lt-ltb 0 (length word) n.some, le-leb (length word) 10 n.few, n.digits, lt-ltb (digits_value 10 word) (2 ^ 32) n.fits) refl

-- no number
pub no_number : (word : List ℕ) → (IsNumber word → ⊥) → None ≡ number_of word
unfolding number_of
no_number word none =
    let e : is_number word ≡ false = false_from_ne_true (is_number word) (λ t. none (is_number-true word t)) in
    rw e refl

pub empty_is_none : (word : List ℕ) → length word ≡ 0 → None ≡ number_of word
empty_is_none word e = no_number word (λ n. absurd (omega (arith, e, n.some)))

pub long_is_none : (word : List ℕ) → 10 < length word → None ≡ number_of word
long_is_none word e = no_number word (λ n. absurd (omega (arith, e, n.few)))

pub plus_is_none : (word : List ℕ) → get_or word 0 0 ≡ 43 → None ≡ number_of word
plus_is_none word e = no_number word (λ n. not_in_digits digits word 43 n.digits (λ k. absurd (omega (arith, k.0))) 0 n.some e)

-- what parsing gives
pub parsed : {E : Type 0} (word : List ℕ) (r : Result ℕ E) (o : Option ℕ) → ParsesUnsigned 32 10 word r → o ≡ result_ok r → get_or word 0 0 ≢ 43 →
    length word ≤ 10 → o ≡ number_of word
unfolding number_of
parsed {E} word (Ok n) o h e plain few =
    let (is, value) = parse_plain digits {E = E} 32 word (Ok n) h plain in
    let t : is_number word ≡ true = true-is_number word (record { some = is.1; few = few; digits = is.0; fits = is.2 }) in
    e ∙ rw (t, value) refl
parsed {E} word (Err x) o h e plain few =
    let none = parse_plain digits {E = E} 32 word (Err x) h plain in
    e ∙ no_number word (λ n. none (n.digits, n.some, n.fits))
