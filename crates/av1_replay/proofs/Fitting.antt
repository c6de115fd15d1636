-- Numbers of few bits are numbers of more, and so are those at the front of a list.
use Rattle.std.proofs.Common.{◌≡◌, ℕ, ◌-◌, ◌^◌, ◌<◌, ◌≤◌, ℤ, pos, neg_ℤ, ◌≤ℤ◌, ◌<ℤ◌, List, take, All, length, map, arith, subst, sym}
use Rattle.std.proofs.lemmas.Int.{ints}
use Rattle.std.proofs.Math.Pow.{pow_mono}
use Rattle.std.proofs.lemmas.List.Elements.{All-map, All-take, All-weaker}
use Rattle.std.proofs.lemmas.List.{length-map}
use Rattle.av1_blocks.specs.Depths.{IsDepth}
use Rattle.av1_dct.specs.Arithmetic.{at, FitsBits}
use Rattle.av1_inter.proofs.Halves.{depth_numbers}

pub wider_low : (k n : ℕ) (z : ℤ) → k ≤ n → FitsBits k z → neg_ℤ (pos (2 ^ (n - 1))) ≤ℤ z
wider_low k n z few fits =
    let below : 2 ^ (k - 1) ≤ 2 ^ (n - 1) = pow_mono (omega (arith, few)) in
    omega (arith, ints, below, fits.low)

pub wider_high : (k n : ℕ) (z : ℤ) → k ≤ n → FitsBits k z → z <ℤ pos (2 ^ (n - 1))
wider_high k n z few fits =
    let below : 2 ^ (k - 1) ≤ 2 ^ (n - 1) = pow_mono (omega (arith, few)) in
    omega (arith, ints, below, fits.high)

pub wider : (k n : ℕ) (z : ℤ) → k ≤ n → FitsBits k z → FitsBits n z
wider k n z few fits = record { low = wider_low k n z few fits; high = wider_high k n z few fits }

-- those at the front of a list
pub front_fits : (k n count : ℕ) (numbers : List ℤ) → k ≤ n → All (FitsBits k) numbers → All (FitsBits n) (take count numbers)
front_fits k n count numbers few fit =
    All-take (FitsBits n) count numbers (All-weaker (FitsBits k) (FitsBits n) (λ z. wider k n z few) numbers fit)

pub all_wider : (k n : ℕ) (numbers : List ℤ) → k ≤ n → All (FitsBits k) numbers → All (FitsBits n) numbers
all_wider k n numbers few fit = All-weaker (FitsBits k) (FitsBits n) (λ z. wider k n z few) numbers fit

-- one of a list of coefficients
pub fits_at :
    {C : Type 0} (val : C → ℤ) (k n i : ℕ) (coefficients : List C) → k ≤ n → i < length coefficients →
    All (λ c. FitsBits k (val c)) coefficients → FitsBits n (at (map val coefficients) i)
fits_at val k n i coefficients few lt fit =
    let within : i < length (map val coefficients) = subst (λ m. i < m) (sym (length-map coefficients val)) lt in
    wider k n (at (map val coefficients) i) few (All-map (FitsBits k) val coefficients fit i (pos 0) within)

-- samples of a depth have at most 12 bits
pub low_samples : {T : Type 0} (num : T → ℕ) (depth : ℕ) (samples given : List T) → IsDepth depth → All (λ sample. num sample < 2 ^ depth) samples →
    given ≡ samples → All (λ sample. num sample < 2 ^ 12) given
low_samples {T} num depth samples given known within same =
    let few = depth_numbers depth known in
    subst (λ (xs : List T). All (λ sample. num sample < 2 ^ 12) xs) (sym same)
    (All-weaker (λ sample. num sample < 2 ^ depth) (λ sample. num sample < 2 ^ 12) (λ sample h. omega (arith, few, h)) samples within)
