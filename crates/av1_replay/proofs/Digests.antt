-- Steps of the digest: four bits by a table, and one more byte.
use Rattle.std.proofs.Common.{◌≡◌, true, ℕ, ◌+◌, ◌*◌, ◌/◌, ◌%◌, ◌^◌, ◌<◌, List, [], ◌∷◌, ◌++◌, arith, sym, ap, refl, ◌∙◌}
use Rattle.std.proofs.Common.{eqb-true}
use Rattle.std.proofs.lemmas.List.{length-append}
use Rattle.std.specs.Prelude.{bit_xor, length, min, nat_eq, slice_index_or, suc, zero}
use Rattle.std.specs.Int.Bits.{xor_assoc, xor_self, xor_zero_l, xor_zero_r}
use Rattle.std.proofs.lemmas.Nat.{xor_block, xor_comm, xor_shr, xor_mod, mod_below}
use Rattle.av1_lists.proofs.Below.{all_below, below}
use Rattle.av1_replay.specs.Digest.{after_bit, after_four_bits, after_byte, after_bytes, Holds}

-- what four bits make of each remainder below 16
abbrev table : List ℕ
table = 0 ∷ 498536548 ∷ 997073096 ∷ 651767980 ∷ 1994146192 ∷ 1802195444 ∷ 1303535960 ∷ 1342533948 ∷ 3988292384 ∷ 4027552580 ∷ 3604390888 ∷ 3412177804 ∷
    2607071920 ∷ 2262029012 ∷ 2685067896 ∷ 3183342108 ∷ []

tabled : all_below 16 (λ r. nat_eq (slice_index_or table r 0) (after_four_bits r)) ≡ true
tabled = refl

-- the middle two of four change places
swapped : (p q r s : ℕ) → bit_xor (bit_xor p q) (bit_xor r s) ≡ bit_xor (bit_xor p r) (bit_xor q s)
swapped p q r s =
    xor_assoc p q (bit_xor r s)
    ∙ ap (λ n. bit_xor p n) (sym (xor_assoc q r s) ∙ ap (λ n. bit_xor n s) (xor_comm q r) ∙ xor_assoc r q s)
    ∙ sym (xor_assoc p r (bit_xor q s))

-- the polynomial is taken twice, which is never
taken : (r s m : ℕ) → r < 2 → s < 2 → bit_xor r s * m ≡ bit_xor (r * m) (s * m)
taken zero s m lr ls =
    let none : 0 ≡ 0 * m = omega arith in
    ap (λ n. n * m) (xor_zero_l s) ∙ sym (xor_zero_l (s * m)) ∙ ap (λ n. bit_xor n (s * m)) none
taken (suc zero) zero m lr ls =
    let none : 0 ≡ 0 * m = omega arith in
    ap (λ n. n * m) (xor_zero_r 1) ∙ sym (xor_zero_r (1 * m)) ∙ ap (λ n. bit_xor (1 * m) n) none
taken (suc zero) (suc zero) m lr ls =
    let none : 0 * m ≡ 0 = omega arith in
    none ∙ sym (xor_self (1 * m))
taken (suc (suc r)) s m lr ls = absurd (omega (arith, lr))
taken (suc zero) (suc (suc s)) m lr ls = absurd (omega (arith, ls))

one_linear : (a b : ℕ) → after_bit (bit_xor a b) ≡ bit_xor (after_bit a) (after_bit b)
one_linear a b =
    ap (λ n. bit_xor n (bit_xor a b % 2 * 0xedb88320)) (xor_shr a b 1)
    ∙ ap (λ n. bit_xor (bit_xor (a / 2) (b / 2)) (n * 0xedb88320)) (xor_mod a b 1)
    ∙ ap (λ n. bit_xor (bit_xor (a / 2) (b / 2)) n) (taken (a % 2) (b % 2) 0xedb88320 (mod_below a 2 (omega arith)) (mod_below b 2 (omega arith)))
    ∙ swapped (a / 2) (b / 2) (a % 2 * 0xedb88320) (b % 2 * 0xedb88320)

four_linear : (a b : ℕ) → after_four_bits (bit_xor a b) ≡ bit_xor (after_four_bits a) (after_four_bits b)
four_linear a b =
    ap (λ n. after_bit (after_bit (after_bit n))) (one_linear a b)
    ∙ ap (λ n. after_bit (after_bit n)) (one_linear (after_bit a) (after_bit b))
    ∙ ap after_bit (one_linear (after_bit (after_bit a)) (after_bit (after_bit b)))
    ∙ one_linear (after_bit (after_bit (after_bit a))) (after_bit (after_bit (after_bit b)))

-- a bit of 0 is moved out
moved : (n : ℕ) → after_bit (n * 2) ≡ n
moved n =
    let half : n * 2 / 2 ≡ n = omega arith in
    let none : n * 2 % 2 ≡ 0 = omega arith in
    ap (λ k. bit_xor k (n * 2 % 2 * 0xedb88320)) half ∙ ap (λ k. bit_xor n (k * 0xedb88320)) none ∙ xor_zero_r n

four_moved : (n : ℕ) → after_four_bits (n * 16) ≡ n
four_moved n =
    let e : n * 16 ≡ n * 2 * 2 * 2 * 2 = omega arith in
    ap after_four_bits e
    ∙ ap (λ k. after_bit (after_bit (after_bit k))) (moved (n * 2 * 2 * 2))
    ∙ ap (λ k. after_bit (after_bit k)) (moved (n * 2 * 2))
    ∙ ap after_bit (moved (n * 2))
    ∙ moved n

-- four bits by the table: the low ones by what stands there, the others are moved
pub by_table : (sum : ℕ) → bit_xor (slice_index_or table (sum % 16) 0) (sum / 16) ≡ after_four_bits sum
by_table sum =
    let low : sum % 16 < 16 = mod_below sum 16 (omega arith) in
    let parts : sum ≡ bit_xor (sum / 16) 0 * 2 ^ 4 + bit_xor 0 (sum % 16) = omega (arith, xor_zero_r (sum / 16), xor_zero_l (sum % 16)) in
    let none : sum / 16 * 2 ^ 4 + 0 ≡ sum / 16 * 16 = omega arith in
    let low_alone : 0 * 2 ^ 4 + sum % 16 ≡ sum % 16 = omega arith in
    let apart : sum ≡ bit_xor (sum / 16 * 16) (sum % 16)
    = parts ∙ sym (xor_block 4 (sum / 16) 0 0 (sum % 16) (omega arith) low) ∙ ap (λ n. bit_xor n (0 * 2 ^ 4 + sum % 16)) none
    ∙ ap (λ n. bit_xor (sum / 16 * 16) n) low_alone in
    let there : slice_index_or table (sum % 16) 0 ≡ after_four_bits (sum % 16)
    = eqb-true _ _ (below 16 (λ r. nat_eq (slice_index_or table r 0) (after_four_bits r)) tabled (sum % 16) low) in
    ap (λ n. bit_xor n (sum / 16)) there
    ∙ xor_comm (after_four_bits (sum % 16)) (sum / 16)
    ∙ ap (λ n. bit_xor n (after_four_bits (sum % 16))) (sym (four_moved (sum / 16)))
    ∙ sym (four_linear (sum / 16 * 16) (sum % 16))
    ∙ ap after_four_bits (sym apart)

-- the remainder after these bytes and one more
after_more : (sum : ℕ) (bytes : List ℕ) (byte : ℕ) → after_bytes sum (bytes ++ byte ∷ []) ≡ after_byte (after_bytes sum bytes) byte
unfolding after_bytes
after_more sum [] byte = refl
after_more sum (b ∷ bytes) byte = after_more (after_byte sum b) bytes byte

kept : (n : ℕ) → min (min n 4294967295 + 1) 4294967295 ≡ min (n + 1) 4294967295
kept n = omega arith

-- one more byte is held
pub pushed :
    (sum count middle after counted byte : ℕ) (bytes : List ℕ) → Holds (record { sum = sum; count = count }) bytes →
    middle ≡ after_four_bits (bit_xor sum byte) → after ≡ after_four_bits middle → counted ≡ min (count + 1) 4294967295 →
    Holds (record { sum = after; count = counted }) (bytes ++ byte ∷ [])
unfolding after_byte
pushed sum count middle after counted byte bytes held d e f =
    let one : length (bytes ++ byte ∷ []) ≡ length bytes + 1 = length-append bytes (byte ∷ []) in
    let was : count ≡ min (length bytes) 4294967295 = held.number in
    record {
      remainder = e ∙ ap after_four_bits d ∙ ap (λ n. after_byte n byte) held.remainder ∙ sym (after_more 0xffffffff bytes byte);
      number = f ∙ ap (λ n. min (n + 1) 4294967295) was ∙ kept (length bytes) ∙ ap (λ n. min n 4294967295) (sym one);
    }

pub none_held : Holds (record { sum = 4294967295; count = 0 }) []
unfolding after_bytes
none_held = record { remainder = refl; number = refl }
