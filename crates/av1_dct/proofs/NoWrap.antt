-- Inputs of 18 bits and a range up to 18: none of a network's sums and products leaves 32 bits.
use Rattle.std.proofs.Common.{unsigned_abs, ℕ, zero, suc, Bool, true, false, ◌≡◌, ◌+◌, ◌-◌, ◌*◌, ◌/◌, ◌^◌, ◌≤◌, ◌%◌, ◌==◌, ◌||◌, min, nat_lt, nat_le, ℤ, pos}
use Rattle.std.proofs.Common.{neg_ℤ, ◌+ℤ◌, ◌-ℤ◌, ◌*ℤ◌, List, [], ◌∷◌, ◌++◌, arith, ap, refl, sym, ◌∙◌, inl, inr, cond, w32, FitsSigned}
use Rattle.std.specs.Int.{int_shr}
use Rattle.std.specs.List.{All}
use Rattle.std.proofs.lemmas.Bool.{cases_lt}
use Rattle.std.proofs.lemmas.Int.{ints, int_wrap_fits, unsigned_abs-mul}
use Rattle.std.proofs.Math.Nat.{mul-le-mul}
use Rattle.std.proofs.lemmas.List.{get_or_past}
use Rattle.av1_dct.specs.Arithmetic.{AllFit, FitsBits, at, clamp_value}
use Rattle.av1_dct.specs.Operations.{Operations, AreRight32, wrapping, half_btf, half_btf_with}
use Rattle.av1_dct.specs.Cosine.{evens, odds, cos128_lookup, cos128, brev, outer_turn_with, mirror_sum_with, group_sum_with, inner_turn_with, rounds_with}
use Rattle.av1_dct.specs.Cosine.{odd_half_with, cosine_with, rounds, odd_half, cosine}
use Rattle.av1_lists.specs.Lists.{by_index}
use Rattle.av1_lists.proofs.Lists.{by_index-same}
use Rattle.av1_dct.proofs.Tables.{weight_bounds}
use Rattle.av1_dct.proofs.Fits.{all-fit, clamp_value-fits, cond-fits, by_index-fits, outer_turn-fits, inner_turn-fits, group_sum-fits}
use Rattle.av1_dct.proofs.Halves.{append-fits, cosine-fits}
use Rattle.av1_dct.proofs.Groups.{part_fits}

-- the bound of a weight
pub record Weight (z : ℤ) : Type 0 where
  pub size : unsigned_abs z ≤ 4096

pub cos128-small : (a : ℕ) → Weight (cos128 a)
unfolding cos128
cos128-small a =
    elim (cases_lt a 64) [
      | inl h ↦ let b = weight_bounds a h in record { size = omega (arith, ints) }
      | inr h ↦ record { size = omega (arith, ap unsigned_abs (get_or_past cos128_lookup a (pos 0) h)) }
    ]

pub neg-small : (z : ℤ) → Weight z → Weight (neg_ℤ z)
neg-small z h = record { size = omega (arith, ints, h.size) }

product : (w a : ℤ) → Weight w → FitsBits 18 a → unsigned_abs (w *ℤ a) ≤ 536870912
product w a h f =
    let n : unsigned_abs a ≤ 131072 = omega (arith, ints, f.low, f.high) in
    let m = mul-le-mul h.size n in
    omega (arith, unsigned_abs-mul w a, m)

pub turn-same : (ops : Operations) → AreRight32 ops → (w0 x w1 y : ℤ) → Weight w0 → Weight w1 → FitsBits 18 x → FitsBits 18 y →
    half_btf_with ops w0 x w1 y ≡ half_btf w0 x w1 y
unfolding half_btf_with
turn-same ops r w0 x w1 y h0 h1 fx fy =
    let p = product w0 x h0 fx in
    let q = product w1 y h1 fy in
    let both : FitsSigned w32 (w0 *ℤ x +ℤ w1 *ℤ y) = omega (arith, ints) in
    let all : FitsSigned w32 (w0 *ℤ x +ℤ w1 *ℤ y +ℤ pos 2048) = omega (arith, ints) in
    ap (λ z. ops.round (ops.plus z (ops.times w1 y))) (r.times w0 x (omega (arith, ints)))
    ∙ ap (λ z. ops.round (ops.plus (w0 *ℤ x) z)) (r.times w1 y (omega (arith, ints)))
    ∙ ap ops.round (r.plus (w0 *ℤ x) (w1 *ℤ y) both)
    ∙ r.round (w0 *ℤ x +ℤ w1 *ℤ y) all
    ∙ ap (λ z. int_shr z 12) (sym (int_wrap_fits w32 _ all))

pub plus-same : (a : Operations) → AreRight32 a → (x y : ℤ) → FitsBits 20 x → FitsBits 20 y → a.plus x y ≡ x +ℤ y
plus-same a r x y fx fy = r.plus x y (omega (arith, ints, fx.low, fx.high, fy.low, fy.high))

pub minus-same : (a : Operations) → AreRight32 a → (x y : ℤ) → FitsBits 20 x → FitsBits 20 y → a.minus x y ≡ x -ℤ y
minus-same a r x y fx fy = r.minus x y (omega (arith, ints, fx.low, fx.high, fy.low, fy.high))

pub cond-same : (b : Bool) (x x' y y' : ℤ) → x ≡ x' → y ≡ y' → cond b x y ≡ cond b x' y'
cond-same b x x' y y' hx hy = elim b as (λ v. cond v x y ≡ cond v x' y') [ true ↦ hx | false ↦ hy ]

mirror-same : (a : Operations) → AreRight32 a → (range : ℕ) (odd : Bool) (m : ℕ) (v : List ℤ) (i : ℕ) → AllFit 20 v →
    mirror_sum_with a range odd m v i ≡ mirror_sum_with wrapping range odd m v i
unfolding mirror_sum_with
mirror-same a r range odd m v i h =
    let e = 2 * m - 1 - i in
    cond-same (cond odd (nat_le m i) (nat_lt i m)) _ _ _ _ (ap (λ z. clamp_value z range) (plus-same a r _ _ (h i) (h e)))
    (ap (λ z. clamp_value z range) (minus-same a r _ _ (h e) (h i)))

group-same : (a : Operations) → AreRight32 a → (range h : ℕ) (v : List ℤ) (i : ℕ) → AllFit 20 v →
    group_sum_with a range h v i ≡ group_sum_with wrapping range h v i
unfolding group_sum_with
group-same a r range h v i all =
    let g = i / (2 * h) in
    mirror-same a r range (g % 2 == 1) h _ _ (part_fits (g * (2 * h)) (2 * h) v v all (λ j lt. refl))

sums : (range h : ℕ) (v : List ℤ) (i : ℕ) → range ≤ 18 → FitsBits 18 (group_sum_with wrapping range h v i)
unfolding group_sum_with mirror_sum_with
sums range h v i r = cond-fits _ _ _ (clamp_value-fits _ range r) (clamp_value-fits _ range r)

outer-same : (a : Operations) → AreRight32 a → (k : ℕ) (v : List ℤ) (i : ℕ) → AllFit 18 v → outer_turn_with a k v i ≡ outer_turn_with wrapping k v i
unfolding outer_turn_with
outer-same t right k v i h =
    let m = 2 ^ k in
    let p = min i (m - 1 - i) in
    let q = m - 1 - p in
    let a = 32 / m * (2 * brev k p + 1) in
    let c = cos128-small (64 - a) in
    let s = cos128-small a in
    cond-same _ _ _ _ _ (turn-same t right _ _ _ _ c (neg-small _ s) (h p) (h q)) (turn-same t right _ _ _ _ s c (h p) (h q))

inner-same : (a : Operations) → AreRight32 a → (k j : ℕ) (v : List ℤ) (i : ℕ) → AllFit 18 v → inner_turn_with a k j v i ≡ inner_turn_with wrapping k j v i
unfolding inner_turn_with
inner-same t right k j v i all =
    let m = 2 ^ k in
    let h = 2 ^ j in
    let p = min i (m - 1 - i) in
    let q = m - 1 - p in
    let r = p % (4 * h) in
    let b = 128 * h / m * (4 * brev (k - j - 3) (p / (4 * h)) + 1) in
    let c = cos128-small (64 - b) in
    let s = cos128-small b in
    let first = nat_lt r (2 * h) in
    cond-same (nat_lt r h || nat_le (3 * h) r) _ _ _ _ refl
    (cond-same (nat_lt i (m / 2)) _ _ _ _
    (cond-same first _ _ _ _ (turn-same t right _ _ _ _ (neg-small _ s) c (all p) (all q))
    (turn-same t right _ _ _ _ (neg-small _ c) (neg-small _ s) (all p) (all q)))
    (cond-same first _ _ _ _ (turn-same t right _ _ _ _ c s (all p) (all q)) (turn-same t right _ _ _ _ (neg-small _ s) c (all p) (all q))))

rounds-fit : (range k j : ℕ) (v : List ℤ) → range ≤ 20 → AllFit 20 v → AllFit 20 (rounds range k j v)
unfolding rounds_with
rounds-fit range k zero v r h = h
rounds-fit range k (suc j) v r h = by_index-fits (2 ^ k) _ (λ i. inner_turn-fits k j _ i (by_index-fits (2 ^ k) _ (λ e. group_sum-fits range (2 ^ j) _ e r)))

rounds-same : (a : Operations) → AreRight32 a → (range k j : ℕ) (v : List ℤ) → range ≤ 18 → AllFit 20 v →
    rounds_with a range k j v ≡ rounds_with wrapping range k j v
unfolding rounds_with
rounds-same a t range k zero v r h = refl
rounds-same a t range k (suc j) v r h =
    let w = rounds range k j v in
    let s = by_index (2 ^ k) (group_sum_with wrapping range (2 ^ j) w) in
    ap (λ w. by_index (2 ^ k) (inner_turn_with a k j (by_index (2 ^ k) (group_sum_with a range (2 ^ j) w)))) (rounds-same a t range k j v r h)
    ∙ ap (λ s. by_index (2 ^ k) (inner_turn_with a k j s))
    (by_index-same (2 ^ k) _ _ (λ i _. group-same a t range (2 ^ j) w i (rounds-fit range k j v (omega arith) h)))
    ∙ by_index-same (2 ^ k) _ _ (λ i _. inner-same a t k j s i (by_index-fits (2 ^ k) _ (λ e. sums range (2 ^ j) _ e r)))

odd_half-fits : (range k : ℕ) (y : List ℤ) → range ≤ 20 → AllFit 20 (odd_half range k y)
unfolding odd_half_with
odd_half-fits range k y h = rounds-fit range (suc k) k _ h (by_index-fits (2 ^ suc k) _ (λ i. outer_turn-fits (suc k) _ i))

odd_half-same : (a : Operations) → AreRight32 a → (range k : ℕ) (y : List ℤ) → range ≤ 18 → AllFit 18 y → odd_half_with a range k y ≡ odd_half range k y
unfolding odd_half_with
odd_half-same a t range k y r h =
    let m = 2 ^ suc k in
    let v = by_index m (λ p. at y (brev (suc k) p)) in
    let u = by_index m (outer_turn_with wrapping (suc k) v) in
    ap (rounds_with a range (suc k) k)
    (by_index-same m (outer_turn_with a (suc k) v) (outer_turn_with wrapping (suc k) v)
    (λ i _. outer-same a t (suc k) v i (by_index-fits m _ (λ p. h (brev (suc k) p)))))
    ∙ rounds-same a t range (suc k) k u r (by_index-fits m _ (λ i. outer_turn-fits (suc k) v i))

pub no_wrap : (a : Operations) → AreRight32 a → (range k : ℕ) (x : List ℤ) → range ≤ 18 → AllFit 18 x → cosine_with a range k x ≡ cosine range k x
unfolding cosine_with
no_wrap a t range zero x r h =
    let c = cos128-small 32 in
    ap (λ z. z ∷ half_btf_with a (cos128 32) (at x 0) (neg_ℤ (cos128 32)) (at x 1) ∷ []) (turn-same a t _ _ _ _ c c (h 0) (h 1))
    ∙ ap (λ z. half_btf (cos128 32) (at x 0) (cos128 32) (at x 1) ∷ z ∷ []) (turn-same a t _ _ _ _ c (neg-small _ c) (h 0) (h 1))
no_wrap a t range (suc k) x r h =
    let m = 2 ^ suc k in
    let small : range ≤ 20 = omega arith in
    ap (λ even. by_index (2 * m) (mirror_sum_with a range false m (even ++ odd_half_with a range k (odds m x))))
    (no_wrap a t range k (evens m x) r (by_index-fits m _ (λ i. h (2 * i))))
    ∙ ap (λ odd. by_index (2 * m) (mirror_sum_with a range false m (cosine range k (evens m x) ++ odd)))
    (odd_half-same a t range k (odds m x) r (by_index-fits m _ (λ i. h (2 * i + 1))))
    ∙ by_index-same (2 * m) _ _
    (λ i _. mirror-same a t range false m _ i (append-fits _ _ (cosine-fits range k (evens m x) small) (odd_half-fits range k (odds m x) small)))

pub never_wraps : (ops : Operations) → AreRight32 ops → (range k : ℕ) (x : List ℤ) → range ≤ 18 → All (FitsBits 18) x →
    cosine_with ops range k x ≡ cosine range k x
never_wraps ops right range k x r fit = no_wrap ops right range k x r (all-fit 18 18 x (omega arith) fit)
