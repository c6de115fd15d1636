-- Numbers of so many bits each, joined to one number and cut again.
use Rattle.std.proofs.Common.{◌≡◌, ℕ, zero, suc, ◌+◌, ◌-◌, ◌*◌, ◌/◌, ◌%◌, ◌^◌, ◌<◌, ◌≤◌, All, List, [], ◌∷◌, ◌++◌, length, get_or, take, drop, refl, sym}
use Rattle.std.proofs.Common.{ap, subst}
use Rattle.std.proofs.Common.{◌∙◌, inl, inr, arith, w64, mod-eq_of_lt, pow_pos, pow-add, pow-suc, suc-mul, length-take, length-drop}
use Rattle.std.specs.Int.{byte_at, bytes_low_first, to_le_bytes}
use Rattle.std.proofs.lemmas.Bool.{cases_lt}
use Rattle.std.proofs.lemmas.List.{drop_all, drop_more, get_or-drop, get_or-take, get_or_past}
use Rattle.std.proofs.lemmas.Nat.{mod_low, mul-add-lt, mul-le, shr_below, shr_high, shr_split}
use Rattle.std.proofs.Math.Nat.{div-div-eq-div-mul, pow-le-pow_right}
use Rattle.av1_view.specs.Packed.{cut, joined}

-- ---- numbers below a bound

-- each item is below a bound, and so is the 0 past the end
abbrev pub Below : ℕ → List ℕ → Type 0
Below bound ns = (i : ℕ) → get_or ns i 0 < bound

pub below_all : (bound : ℕ) (ns : List ℕ) → 0 < bound → All (λ n. n < bound) ns → Below bound ns
below_all bound ns some all i = elim (cases_lt i (length ns)) [
  | inl within ↦ all i 0 within
  | inr past ↦ subst (λ n. n < bound) (sym (get_or_past ns i 0 past)) some
]

pub below_take : (bound k : ℕ) (ns : List ℕ) → Below bound ns → Below bound (take k ns)
below_take bound k ns below i = elim (cases_lt i k) [
  | inl within ↦ subst (λ n. n < bound) (sym (get_or-take k ns i 0 within)) (below i)
  | inr past ↦
      let some : 0 < bound = omega (arith, below 0) in
      subst (λ n. n < bound) (sym (get_or_past (take k ns) i 0 (omega (arith, past, length-take k ns)))) some
]

pub below_drop : (bound k : ℕ) (ns : List ℕ) → Below bound ns → Below bound (drop k ns)
below_drop bound k ns below i = subst (λ n. n < bound) (sym (get_or-drop k ns i 0)) (below (k + i))

-- ---- joined

-- the number has as many bits as all of them together
pub joined_below : (bits : ℕ) (ns : List ℕ) → Below (2 ^ bits) ns → joined bits ns < 2 ^ (length ns * bits)
unfolding joined
joined_below bits [] below = pow_pos (0 * bits)
joined_below bits (n ∷ ns) below =
    let rest = joined_below bits ns (λ i. below (suc i)) in
    let sum : bits + length ns * bits ≡ suc (length ns) * bits = omega (arith, suc-mul (length ns) bits) in
    let one_more : 2 ^ bits * 2 ^ (length ns * bits) ≡ 2 ^ (suc (length ns) * bits) =
    sym (pow-add 2 bits (length ns * bits)) ∙ ap (λ (k : ℕ). 2 ^ k) sum in
    subst (λ k. joined bits ns * 2 ^ bits + n < k) one_more (mul-add-lt (joined bits ns) (2 ^ bits) n (2 ^ (length ns * bits)) rest (below 0))

-- so 8 numbers of 8 bits have 64
pub joined_few : (bits : ℕ) (ns : List ℕ) → bits ≤ 8 → length ns ≤ 8 → Below (2 ^ bits) ns → joined bits ns < 2 ^ 64
joined_few bits ns few short below =
    let least : 0 < 2 = omega arith in
    let most : length ns * bits ≤ 64 = omega (arith, mul-le (length ns) bits 8 8 short few) in
    let power : 2 ^ (length ns * bits) ≤ 2 ^ 64 = pow-le-pow_right {n = 2} least most in
    omega (arith, joined_below bits ns below, power)

-- one more in front
joined_front : (bits word n k : ℕ) (ns : List ℕ) → k < length ns → word ≡ joined bits (drop (k + 1) ns) → n ≡ get_or ns k 0 →
    word * 2 ^ bits + n ≡ joined bits (drop k ns)
unfolding joined
joined_front bits word n k ns within so_far here =
    ap (λ w. w * 2 ^ bits + n) so_far ∙ ap (λ m. joined bits (drop (k + 1) ns) * 2 ^ bits + m) here ∙ sym (ap (joined bits) (drop_more ns k 0 within))

-- nothing is joined at first
pub joined_none : (bits : ℕ) (ns : List ℕ) → 0 ≡ joined bits (drop (length ns - 0) ns)
unfolding joined
joined_none bits ns = sym (ap (joined bits) (drop_all (length ns - 0) ns (omega arith)))

module _ (bits word n i : ℕ) (ns : List ℕ) (few : bits ≤ 8) (short : length ns ≤ 8) (each : All (λ m. m < 2 ^ bits) ns) (within : i < length ns)
    (so_far : word ≡ joined bits (drop (length ns - i) ns)) (here : n ≡ get_or ns (length ns - 1 - i) 0) where
  next_place : length ns - i ≡ length ns - 1 - i + 1
  next_place = omega (arith, within)

  in_full : word * 2 ^ bits + n ≡ joined bits (drop (length ns - 1 - i) ns)
  in_full =
      joined_front bits word n (length ns - 1 - i) ns (omega (arith, within)) (so_far ∙ ap (λ k. joined bits (drop k ns)) next_place) here

  is_few : word * 2 ^ bits + n < 2 ^ 64
  is_few =
      subst (λ k. k < 2 ^ 64) (sym in_full)
      (joined_few bits (drop (length ns - 1 - i) ns) few (omega (arith, short, length-drop (length ns - 1 - i) ns))
      (below_drop (2 ^ bits) (length ns - 1 - i) ns (below_all (2 ^ bits) ns (pow_pos bits) each)))

  uncut : (word * 2 ^ bits) % 2 ^ 64 ≡ word * 2 ^ bits
  uncut =
      let inside : word * 2 ^ bits < 2 ^ 64 = omega (arith, is_few) in
      mod-eq_of_lt inside

  -- a word of 64 bits has room for it
  pub joined_fits : (word * 2 ^ bits) % 2 ^ 64 + n < 2 ^ 64
  joined_fits = omega (arith, is_few, uncut)

  pub joined_more : (word * 2 ^ bits) % 2 ^ 64 + n ≡ joined bits (drop (length ns - (i + 1)) ns)
  joined_more =
      let same : length ns - 1 - i ≡ length ns - (i + 1) = omega arith in
      ap (λ k. k + n) uncut ∙ in_full ∙ ap (λ k. joined bits (drop k ns)) same

-- ---- cut

pub length-cut : (bits count n : ℕ) → length (cut bits count n) ≡ count
unfolding cut
length-cut bits zero n = refl
length-cut bits (suc count) n = ap suc (length-cut bits count (n / 2 ^ bits))

-- what was cut can be joined
pub joined_cut : (bits count n : ℕ) → n < 2 ^ (count * bits) → joined bits (cut bits count n) ≡ n
unfolding joined cut
joined_cut bits zero n few =
    let none : 0 * bits ≡ 0 = omega arith in
    let one : n < 2 ^ 0 = subst (λ k. n < 2 ^ k) none few in
    omega (arith, one)
joined_cut bits (suc count) n few =
    let split : suc count * bits ≡ count * bits + bits = omega (arith, suc-mul count bits) in
    ap (λ k. k * 2 ^ bits + n % 2 ^ bits)
    (joined_cut bits count (n / 2 ^ bits) (shr_below n (count * bits) bits (subst (λ k. n < 2 ^ k) split few))) ∙ shr_split n bits

-- what was joined can be cut, and zeros follow
pub cut_joined : (bits more : ℕ) (ns : List ℕ) → Below (2 ^ bits) ns → cut bits (length ns + more) (joined bits ns) ≡ ns ++ cut bits more 0
unfolding joined cut
cut_joined bits more [] below = let none : 0 + more ≡ more = omega arith in ap (λ k. cut bits k 0) none
cut_joined bits more (n ∷ ns) below =
    let front : suc (length ns) + more ≡ suc (length ns + more) = omega arith in
    let low = mod_low (joined bits ns) bits n (below 0) in
    let high = shr_high (joined bits ns) bits n (below 0) in
    ap (λ k. cut bits k (joined bits ns * 2 ^ bits + n)) front ∙ ap (λ k. k ∷ cut bits (length ns + more) ((joined bits ns * 2 ^ bits + n) / 2 ^ bits)) low
    ∙ ap (λ k. n ∷ cut bits (length ns + more) k) high ∙ ap (λ l. n ∷ l) (cut_joined bits more ns (λ i. below (suc i)))

take_cut : (bits k more n : ℕ) → take k (cut bits (k + more) n) ≡ cut bits k n
unfolding cut
take_cut bits zero more n = refl
take_cut bits (suc k) more n =
    let front : suc k + more ≡ suc (k + more) = omega arith in
    ap (λ m. take (suc k) (cut bits m n)) front ∙ ap (λ l. n % 2 ^ bits ∷ l) (take_cut bits k more (n / 2 ^ bits))

-- ---- the bytes of a word

byte_is : (i n : ℕ) → byte_at i n ≡ n / 256 ^ i % 2 ^ 8
byte_is zero n = omega arith
byte_is (suc i) n = refl

bytes_are : (i k n : ℕ) → bytes_low_first i k n ≡ cut 8 k (n / 256 ^ i)
unfolding cut
bytes_are i zero n = refl
bytes_are i (suc k) n =
    let next : n / 256 ^ suc i ≡ n / 256 ^ i / 2 ^ 8 = ap (λ d. n / d) (pow-suc 256 i) ∙ sym (div-div-eq-div-mul n (256 ^ i) 256) in
    ap (λ b. b ∷ bytes_low_first (suc i) k n) (byte_is i n)
    ∙ ap (λ l. n / 256 ^ i % 2 ^ 8 ∷ l) (bytes_are (suc i) k n ∙ ap (cut 8 k) next)

-- its lowest bytes
pub word_bytes : (k n : ℕ) → k ≤ 8 → take k (to_le_bytes w64 n) ≡ cut 8 k n
word_bytes k n few =
    let first : n / 256 ^ 0 ≡ n = omega arith in
    let all : 8 ≡ k + (8 - k) = omega (arith, few) in
    ap (take k) (bytes_are 0 8 n ∙ ap (cut 8 8) first ∙ ap (λ m. cut 8 m n) all) ∙ take_cut 8 k (8 - k) n
