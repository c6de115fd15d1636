-- Where the turns of the fused steps lie: all of it is computed, for each length.
use Rattle.std.proofs.Common.{arith, zero, suc, ℕ, ◌<◌, ◌≤◌, ◌+◌, ◌-◌, ◌*◌, ◌/◌, ◌%◌, ◌^◌}

pub group_in : (k j n : ℕ) → j + 3 ≤ k → k ≤ 5 → n < 2 ^ k / 8 → 2 * (n / 2 ^ j * (4 * 2 ^ j)) + 8 * 2 ^ j ≤ 2 ^ k
group_in (suc (suc (suc zero))) zero zero low high few = omega arith
group_in (suc (suc (suc zero))) zero (suc n) low high few = absurd (omega arith)
group_in (suc (suc (suc zero))) (suc j) n low high few = absurd (omega arith)
group_in (suc (suc (suc (suc zero)))) zero zero low high few = omega arith
group_in (suc (suc (suc (suc zero)))) zero (suc zero) low high few = omega arith
group_in (suc (suc (suc (suc zero)))) zero (suc (suc n)) low high few = absurd (omega arith)
group_in (suc (suc (suc (suc zero)))) (suc zero) zero low high few = omega arith
group_in (suc (suc (suc (suc zero)))) (suc zero) (suc zero) low high few = omega arith
group_in (suc (suc (suc (suc zero)))) (suc zero) (suc (suc n)) low high few = absurd (omega arith)
group_in (suc (suc (suc (suc zero)))) (suc (suc j)) n low high few = absurd (omega arith)
group_in (suc (suc (suc (suc (suc zero))))) zero zero low high few = omega arith
group_in (suc (suc (suc (suc (suc zero))))) zero (suc zero) low high few = omega arith
group_in (suc (suc (suc (suc (suc zero))))) zero (suc (suc zero)) low high few = omega arith
group_in (suc (suc (suc (suc (suc zero))))) zero (suc (suc (suc zero))) low high few = omega arith
group_in (suc (suc (suc (suc (suc zero))))) zero (suc (suc (suc (suc n)))) low high few = absurd (omega arith)
group_in (suc (suc (suc (suc (suc zero))))) (suc zero) zero low high few = omega arith
group_in (suc (suc (suc (suc (suc zero))))) (suc zero) (suc zero) low high few = omega arith
group_in (suc (suc (suc (suc (suc zero))))) (suc zero) (suc (suc zero)) low high few = omega arith
group_in (suc (suc (suc (suc (suc zero))))) (suc zero) (suc (suc (suc zero))) low high few = omega arith
group_in (suc (suc (suc (suc (suc zero))))) (suc zero) (suc (suc (suc (suc n)))) low high few = absurd (omega arith)
group_in (suc (suc (suc (suc (suc zero))))) (suc (suc zero)) zero low high few = omega arith
group_in (suc (suc (suc (suc (suc zero))))) (suc (suc zero)) (suc zero) low high few = omega arith
group_in (suc (suc (suc (suc (suc zero))))) (suc (suc zero)) (suc (suc zero)) low high few = omega arith
group_in (suc (suc (suc (suc (suc zero))))) (suc (suc zero)) (suc (suc (suc zero))) low high few = omega arith
group_in (suc (suc (suc (suc (suc zero))))) (suc (suc zero)) (suc (suc (suc (suc n)))) low high few = absurd (omega arith)
group_in (suc (suc (suc (suc (suc zero))))) (suc (suc (suc j))) n low high few = absurd (omega arith)
group_in zero j n low high few = absurd (omega arith)
group_in (suc zero) j n low high few = absurd (omega arith)
group_in (suc (suc zero)) j n low high few = absurd (omega arith)
group_in (suc (suc (suc (suc (suc (suc k)))))) j n low high few = absurd (omega arith)

pub group_angle : (k j n : ℕ) → j + 3 ≤ k → k ≤ 5 → n < 2 ^ k / 8 → n / 2 ^ j < 2 ^ (k - j - 3)
group_angle (suc (suc (suc zero))) zero zero low high few = omega arith
group_angle (suc (suc (suc zero))) zero (suc n) low high few = absurd (omega arith)
group_angle (suc (suc (suc zero))) (suc j) n low high few = absurd (omega arith)
group_angle (suc (suc (suc (suc zero)))) zero zero low high few = omega arith
group_angle (suc (suc (suc (suc zero)))) zero (suc zero) low high few = omega arith
group_angle (suc (suc (suc (suc zero)))) zero (suc (suc n)) low high few = absurd (omega arith)
group_angle (suc (suc (suc (suc zero)))) (suc zero) zero low high few = omega arith
group_angle (suc (suc (suc (suc zero)))) (suc zero) (suc zero) low high few = omega arith
group_angle (suc (suc (suc (suc zero)))) (suc zero) (suc (suc n)) low high few = absurd (omega arith)
group_angle (suc (suc (suc (suc zero)))) (suc (suc j)) n low high few = absurd (omega arith)
group_angle (suc (suc (suc (suc (suc zero))))) zero zero low high few = omega arith
group_angle (suc (suc (suc (suc (suc zero))))) zero (suc zero) low high few = omega arith
group_angle (suc (suc (suc (suc (suc zero))))) zero (suc (suc zero)) low high few = omega arith
group_angle (suc (suc (suc (suc (suc zero))))) zero (suc (suc (suc zero))) low high few = omega arith
group_angle (suc (suc (suc (suc (suc zero))))) zero (suc (suc (suc (suc n)))) low high few = absurd (omega arith)
group_angle (suc (suc (suc (suc (suc zero))))) (suc zero) zero low high few = omega arith
group_angle (suc (suc (suc (suc (suc zero))))) (suc zero) (suc zero) low high few = omega arith
group_angle (suc (suc (suc (suc (suc zero))))) (suc zero) (suc (suc zero)) low high few = omega arith
group_angle (suc (suc (suc (suc (suc zero))))) (suc zero) (suc (suc (suc zero))) low high few = omega arith
group_angle (suc (suc (suc (suc (suc zero))))) (suc zero) (suc (suc (suc (suc n)))) low high few = absurd (omega arith)
group_angle (suc (suc (suc (suc (suc zero))))) (suc (suc zero)) zero low high few = omega arith
group_angle (suc (suc (suc (suc (suc zero))))) (suc (suc zero)) (suc zero) low high few = omega arith
group_angle (suc (suc (suc (suc (suc zero))))) (suc (suc zero)) (suc (suc zero)) low high few = omega arith
group_angle (suc (suc (suc (suc (suc zero))))) (suc (suc zero)) (suc (suc (suc zero))) low high few = omega arith
group_angle (suc (suc (suc (suc (suc zero))))) (suc (suc zero)) (suc (suc (suc (suc n)))) low high few = absurd (omega arith)
group_angle (suc (suc (suc (suc (suc zero))))) (suc (suc (suc j))) n low high few = absurd (omega arith)
group_angle zero j n low high few = absurd (omega arith)
group_angle (suc zero) j n low high few = absurd (omega arith)
group_angle (suc (suc zero)) j n low high few = absurd (omega arith)
group_angle (suc (suc (suc (suc (suc (suc k)))))) j n low high few = absurd (omega arith)

pub rest_in : (j n : ℕ) → j ≤ 2 → n % 2 ^ j < 2 ^ j
rest_in zero n low = omega arith
rest_in (suc zero) n low = omega arith
rest_in (suc (suc zero)) n low = omega arith
rest_in (suc (suc (suc j))) n low = absurd (omega arith)

pub quarter_few : (k : ℕ) → 2 ≤ k → k ≤ 5 → 2 ^ k / 4 ≤ 8
quarter_few zero low high = absurd (omega arith)
quarter_few (suc zero) low high = absurd (omega arith)
quarter_few (suc (suc zero)) low high = omega arith
quarter_few (suc (suc (suc zero))) low high = omega arith
quarter_few (suc (suc (suc (suc zero)))) low high = omega arith
quarter_few (suc (suc (suc (suc (suc zero))))) low high = omega arith
quarter_few (suc (suc (suc (suc (suc (suc k)))))) low high = absurd (omega arith)

pub eighth_few : (k : ℕ) → k ≤ 5 → 2 ^ k / 8 ≤ 4
eighth_few zero high = omega arith
eighth_few (suc zero) high = omega arith
eighth_few (suc (suc zero)) high = omega arith
eighth_few (suc (suc (suc zero))) high = omega arith
eighth_few (suc (suc (suc (suc zero)))) high = omega arith
eighth_few (suc (suc (suc (suc (suc zero))))) high = omega arith
eighth_few (suc (suc (suc (suc (suc (suc k)))))) high = absurd (omega arith)
