-- The order of the inputs and of the outputs of the sine transforms.
use Rattle.std.proofs.Common.{ℕ, suc, ◌≡◌, ◌+◌, ◌-◌, ◌*◌, ◌/◌, ◌%◌, ◌^◌, ◌<◌, ℤ, pos, ◌-ℤ◌, List, map, get_or, arith, sym, subst, refl, ◌∙◌}
use Rattle.std.specs.List.{range_with_len}
use Rattle.std.proofs.lemmas.Bool.Decides.{nat_tests}
use Rattle.std.specs.Int.Bits.{bit_xor}
use Rattle.std.proofs.lemmas.Nat.{xor_lt}
use Rattle.std.proofs.Math.Nat.{mul_comm}
use Rattle.std.proofs.Math.Nat.{pow-suc}
use Rattle.av1_dct.proofs.Tables.{brev-lt}
use Rattle.av1_dct.specs.Arithmetic.{at}
use Rattle.av1_dct.specs.Cosine.{brev}
use Rattle.av1_itx.specs.declared.adst.TheConstants.{PLACES_8, PLACES_16}
use Rattle.av1_itx.proofs.Fills.{listed}
use Rattle.av1_itx.specs.Adst.{adst_in, out_place, adst_out, adst_out_with}

pub in-even : (n : ℕ) (x : List ℤ) (i q : ℕ) → i % 2 ≡ 0 → q ≡ n - 1 - i → at x q ≡ adst_in n x i
unfolding adst_in
in-even n x i q h e = grind (arith, nat_tests)

pub in-odd : (n : ℕ) (x : List ℤ) (i q : ℕ) → i ≡ q + 1 → q % 2 ≡ 0 → at x q ≡ adst_in n x i
unfolding adst_in
in-odd n x i q e h = grind (arith, nat_tests)

pub out-even : (k : ℕ) (v : List ℤ) (i : ℕ) → i % 2 ≡ 0 → at v (out_place k i) ≡ adst_out k v i
unfolding adst_out_with
out-even k v i h = grind (arith, nat_tests)

pub out-odd : (k : ℕ) (v : List ℤ) (i : ℕ) → (i % 2 ≡ 0 → ⊥) → pos 0 -ℤ at v (out_place k i) ≡ adst_out k v i
unfolding adst_out_with
out-odd k v i h = grind (arith, nat_tests)

-- an output's place is one of the values
out_place-lt : (k i : ℕ) → i < 2 * 2 ^ k → out_place k i < 2 * 2 ^ k
unfolding out_place
out_place-lt k i h =
    let n : 2 ^ (suc k) ≡ 2 * 2 ^ k = pow-suc 2 k ∙ mul_comm (2 ^ k) 2 in
    let P : ℕ → Type 0 = λ m. brev (suc k) (bit_xor i (i / 2)) < m in
    subst P n (brev-lt (suc k) _ (xor_lt (suc k) i (i / 2) (omega arith) (omega arith)))

places : (k n : ℕ) (ps : List ℕ) → n ≡ 2 * 2 ^ k → ps ≡ map (out_place k) (range_with_len 0 n) → (i : ℕ) → i < 2 * 2 ^ k →
    (get_or ps i 0 ≡ out_place k i) × (get_or ps i 0 < 2 * 2 ^ k)
places k n ps len e i h =
    let P : ℕ → Type 0 = λ m. m < 2 * 2 ^ k in
    let is : get_or ps i 0 ≡ out_place k i = listed (out_place k) ps n 0 e i (omega arith) in
    (is, subst P (sym is) (out_place-lt k i h))

pub places_8 : (i : ℕ) → i < 8 → (get_or PLACES_8 i 0 ≡ out_place 2 i) × (get_or PLACES_8 i 0 < 8)
unfolding out_place brev
places_8 = places 2 8 PLACES_8 refl refl

pub places_16 : (i : ℕ) → i < 16 → (get_or PLACES_16 i 0 ≡ out_place 3 i) × (get_or PLACES_16 i 0 < 16)
unfolding out_place brev
places_16 = places 3 16 PLACES_16 refl refl
