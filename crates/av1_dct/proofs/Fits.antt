-- What fits in some bits: sums, clamped values and each list of the transform.
use Rattle.std.proofs.Common.{length, ℕ, Bool, true, false, ◌≡◌, ◌+◌, ◌-◌, ◌*◌, ◌/◌, ◌^◌, ◌<◌, ◌≤◌, ◌%◌, ◌||◌, min, nat_lt}
use Rattle.std.proofs.Common.{nat_le, ℤ, pos, negsuc, ◌+ℤ◌, ◌*ℤ◌, List, arith, ap, sym, subst, ◌∙◌, inl, inr, cond, w32, FitsSigned, add-one}
use Rattle.std.specs.List.{All}
use Rattle.std.specs.Int.Signed.{shr_z}
use Rattle.std.proofs.lemmas.Bool.{cases_lt}
use Rattle.std.proofs.lemmas.Int.{ints, clamps, SFits-int_wrap}
use Rattle.std.proofs.lemmas.Nat.{pow_pos}
use Rattle.std.proofs.Math.Pow.{pow_mono}
use Rattle.std.proofs.lemmas.List.{get_or_past}
use Rattle.std.proofs.lemmas.List.FromFn.{get_or-map-range_with_len, length-map-range_with_len}
use Rattle.av1_dct.specs.Arithmetic.{AllFit, FitsBits, clamp_value}
use Rattle.av1_dct.specs.Operations.{half_btf, half_btf_with}
use Rattle.av1_dct.specs.Cosine.{outer_turn, mirror_sum, group_sum, inner_turn, rounds, group_sum_with, inner_turn_with, mirror_sum_with, outer_turn_with}
use Rattle.av1_dct.specs.Cosine.{rounds_with}
use Rattle.av1_lists.specs.Lists.{by_index}

pub zero_fits : (b : ℕ) → FitsBits b (pos 0)
zero_fits b = let some = pow_pos (b - 1) in record { low = omega (arith, ints); high = omega (arith, ints) }

shr_fits : (z : ℤ) → FitsSigned w32 z → FitsBits 20 (shr_z z 4096)
shr_fits (pos a) h = record { low = grind (arith, ints, h.sfits); high = grind (arith, ints, h.sfits) }
shr_fits (negsuc a) h = record { low = grind (arith, ints, h.sfits); high = grind (arith, ints, h.sfits) }

pub half_btf-fits : (w0 a w1 b : ℤ) → FitsBits 20 (half_btf w0 a w1 b)
unfolding half_btf_with
half_btf-fits w0 a w1 b = shr_fits _ (SFits-int_wrap w32 (w0 *ℤ a +ℤ w1 *ℤ b +ℤ pos 2048))

-- the same of what was found to be such in each lane
pub turns-fit : {n : ℕ} {f : ℕ → ℤ} (w0 w1 : ℤ) (a b : ℕ → ℤ) → ((i : ℕ) → i < n → f i ≡ half_btf w0 (a i) w1 (b i)) → (i : ℕ) → i < n → FitsBits 20 (f i)
turns-fit w0 w1 a b is i h = subst (FitsBits 20) (sym (is i h)) (half_btf-fits w0 (a i) w1 (b i))

pub clamp_value-fits : {w : ℕ} (z : ℤ) (b : ℕ) → b ≤ w → FitsBits w (clamp_value z b)
unfolding clamp_value
clamp_value-fits {w} z b h =
    let some = pow_pos (b - 1) in
    let small : 2 ^ (b - 1) ≤ 2 ^ (w - 1) = pow_mono {i = b - 1} {j = w - 1} (omega arith) in
    record { low = omega (arith, ints, clamps); high = omega (arith, ints, clamps) }

-- what fits is clamped to itself
pub clamped_same : (b : ℕ) (z : ℤ) → FitsBits b z → clamp_value z b ≡ z
unfolding clamp_value
clamped_same b z f = let some = pow_pos (b - 1) in omega (arith, ints, clamps, f.low, f.high)

-- a zero that stands for a number which is 0
pub zero_clamped : (x z : ℤ) → x ≡ pos 0 → z ≡ pos 0 → x ≡ clamp_value z 16
zero_clamped x z e f = e ∙ sym (ap (λ v. clamp_value v 16) f ∙ clamped_same 16 (pos 0) (zero_fits 16))

pub whole_same : (z : ℤ) → FitsSigned w32 z → clamp_value z 32 ≡ z
whole_same z f = clamped_same 32 z (record { low = omega (arith, ints, f.sfits); high = omega (arith, ints, f.sfits) })

pub cond-fits : {w : ℕ} (b : Bool) (x y : ℤ) → FitsBits w x → FitsBits w y → FitsBits w (cond b x y)
cond-fits {w} b x y hx hy = elim b as (λ v. FitsBits w (cond v x y)) [ true ↦ hx | false ↦ hy ]

pub by_index-fits : {w : ℕ} (n : ℕ) (f : ℕ → ℤ) → ((i : ℕ) → FitsBits w (f i)) → AllFit w (by_index n f)
by_index-fits {w} n f h = λ i.
    let P : ℤ → Type 0 = λ z. FitsBits w z in
    elim (cases_lt i n) [
      | inl g ↦ subst P (sym (get_or-map-range_with_len f 0 n i i (pos 0) g (omega arith))) (h i)
      | inr g ↦ subst P (sym (get_or_past (by_index n f) i (pos 0) (omega (arith, length-map-range_with_len f 0 n)))) (zero_fits w)
    ]

-- more bits
pub fits_wider : (b w : ℕ) (z : ℤ) → b ≤ w → FitsBits b z → FitsBits w z
fits_wider b w z h f =
    let small : 2 ^ (b - 1) ≤ 2 ^ (w - 1) = pow_mono {i = b - 1} {j = w - 1} (omega arith) in
    record { low = omega (arith, ints, f.low); high = omega (arith, ints, f.high) }

pub all-fit : (b w : ℕ) (xs : List ℤ) → b ≤ w → All (FitsBits b) xs → AllFit w xs
all-fit b w xs h all = λ i.
    let P : ℤ → Type 0 = λ z. FitsBits w z in
    elim (cases_lt i (length xs)) [
      | inl g ↦ fits_wider b w _ h (all i (pos 0) g)
      | inr g ↦ subst P (sym (get_or_past xs i (pos 0) g)) (zero_fits w)
    ]

pub outer_turn-fits : (k : ℕ) (v : List ℤ) (i : ℕ) → FitsBits 20 (outer_turn k v i)
unfolding outer_turn_with
outer_turn-fits k v i = cond-fits _ _ _ (half_btf-fits _ _ _ _) (half_btf-fits _ _ _ _)

pub mirror_sum-fits : (range : ℕ) (odd : Bool) (m : ℕ) (v : List ℤ) (i : ℕ) → range ≤ 20 → FitsBits 20 (mirror_sum range odd m v i)
unfolding mirror_sum_with
mirror_sum-fits range odd m v i h = cond-fits _ _ _ (clamp_value-fits _ range h) (clamp_value-fits _ range h)

pub group_sum-fits : (range m : ℕ) (v : List ℤ) (i : ℕ) → range ≤ 20 → FitsBits 20 (group_sum range m v i)
unfolding group_sum_with
group_sum-fits range m v i h = mirror_sum-fits range _ m _ _ h

pub inner_turn-fits : (k j : ℕ) (v : List ℤ) (i : ℕ) → AllFit 20 v → FitsBits 20 (inner_turn k j v i)
unfolding inner_turn_with
inner_turn-fits k j v i h =
    let m = 2 ^ k in
    let r = min i (m - 1 - i) % (4 * 2 ^ j) in
    let first = nat_lt r (2 * 2 ^ j) in
    cond-fits (nat_lt r (2 ^ j) || nat_le (3 * 2 ^ j) r) _ _ (h i)
    (cond-fits (nat_lt i (m / 2)) _ _
    (cond-fits first _ _ (half_btf-fits _ _ _ _) (half_btf-fits _ _ _ _))
    (cond-fits first _ _ (half_btf-fits _ _ _ _) (half_btf-fits _ _ _ _)))

-- one more round
pub rounds_more : (range k j : ℕ) (v u s w : List ℤ) → v ≡ rounds range k j u → s ≡ by_index (2 ^ k) (group_sum range (2 ^ j) v) →
    w ≡ by_index (2 ^ k) (inner_turn k j s) → w ≡ rounds range k (j + 1) u
unfolding rounds_with
rounds_more range k j v u s w hv hs hw =
    hw ∙ ap (λ z. by_index (2 ^ k) (inner_turn k j z)) (hs ∙ ap (λ z. by_index (2 ^ k) (group_sum range (2 ^ j) z)) hv)
    ∙ ap (λ n. rounds range k n u) (sym (add-one j))
