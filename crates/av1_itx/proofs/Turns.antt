-- Turns of pairs of neighbours.
use Rattle.std.proofs.Common.{ℕ, ◌≡◌, ◌+◌, ◌-◌, ◌*◌, ◌/◌, ◌%◌, ℤ, pos, neg_ℤ, List, get_or, arith, ap, sym, subst, ◌∙◌, inl, inr, ◌≤ℤ◌, nat_lt, max, cond, true}
use Rattle.std.proofs.Common.{false}
use Rattle.std.proofs.lemmas.Bool.{cases_eq, cases_lt}
use Rattle.std.proofs.lemmas.Int.{ints}
use Rattle.std.proofs.lemmas.List.{get_or_past}
use Rattle.std.proofs.lemmas.Bool.Decides.{nat_tests}
use Rattle.av1_dct.specs.Arithmetic.{at, FitsBits}
use Rattle.av1_dct.specs.Cosine.{cos128, cos128_lookup}
use Rattle.av1_dct.proofs.Fits.{zero_fits}
use Rattle.av1_dct.proofs.Tables.{weight_bounds}
use Rattle.av1_dct.specs.Operations.{half_btf}
use Rattle.av1_itx.specs.Adst.{turned, turned_with, turn_weights, back_weights, round_weights}

-- the weights of pair p of a table
abbrev pub weights_at : List (ℤ × ℤ) → ℕ → ℤ × ℤ
weights_at ws p = get_or ws p (pos 0, pos 0)

-- each pair of v turned by the weights of the table
abbrev pub turned_by : List (ℤ × ℤ) → List ℤ → ℕ → ℤ
turned_by ws v i = let w = weights_at ws (i / 2) in turned w.0 w.1 v i

pub turned-even : (w0 w1 : ℤ) (v : List ℤ) (i : ℕ) → i % 2 ≡ 0 → half_btf w0 (at v i) w1 (at v (i + 1)) ≡ turned w0 w1 v i
unfolding turned_with
turned-even w0 w1 v i e = grind (arith, nat_tests)

pub turned-odd : (w0 w1 : ℤ) (v : List ℤ) (i : ℕ) → (i % 2 ≡ 0 → ⊥) → half_btf w1 (at v (i - 1)) (neg_ℤ w0) (at v i) ≡ turned w0 w1 v i
unfolding turned_with
turned-odd w0 w1 v i e = grind (arith, nat_tests)

-- a pair that reads the same elsewhere
pub turned-same : (w0 w1 : ℤ) (u v : List ℤ) (t i : ℕ) → t % 2 ≡ i % 2 → at u t ≡ at v i → (t % 2 ≡ 0 → at u (t + 1) ≡ at v (i + 1)) →
    ((t % 2 ≡ 0 → ⊥) → at u (t - 1) ≡ at v (i - 1)) → turned w0 w1 u t ≡ turned w0 w1 v i
turned-same w0 w1 u v t i e here next last =
    elim (cases_eq (t % 2) 0) [
      | inl h ↦ sym (turned-even w0 w1 u t h)
          ∙ ap (λ z. half_btf w0 z w1 (at u (t + 1))) here ∙ ap (λ z. half_btf w0 (at v i) w1 z) (next h)
          ∙ turned-even w0 w1 v i (sym e ∙ h)
      | inr h ↦ sym (turned-odd w0 w1 u t h)
          ∙ ap (λ z. half_btf w1 z (neg_ℤ w0) (at u t)) (last h) ∙ ap (λ z. half_btf w1 (at v (i - 1)) (neg_ℤ w0) z) here
          ∙ turned-odd w0 w1 v i (λ g. h (e ∙ g))
    ]

-- the two places of pair p
pub pair_first : (ws : List (ℤ × ℤ)) (v : List ℤ) (p : ℕ) (w0 w1 x y z : ℤ) → w0 ≡ (weights_at ws p).0 → w1 ≡ (weights_at ws p).1 → x ≡ at v (2 * p) →
    y ≡ at v (2 * p + 1) → z ≡ half_btf w0 x w1 y → z ≡ turned_by ws v (2 * p)
pair_first ws v p w0 w1 x y z e0 e1 ex ey is =
    let half : 2 * p / 2 ≡ p = omega arith in
    let even : 2 * p % 2 ≡ 0 = omega arith in
    is
    ∙ ap (λ w. half_btf w x w1 y) e0 ∙ ap (λ w. half_btf (weights_at ws p).0 x w y) e1
    ∙ ap (λ w. half_btf (weights_at ws p).0 w (weights_at ws p).1 y) ex ∙ ap (λ w. half_btf (weights_at ws p).0 (at v (2 * p)) (weights_at ws p).1 w) ey
    ∙ turned-even (weights_at ws p).0 (weights_at ws p).1 v (2 * p) even
    ∙ ap (λ n. turned (weights_at ws n).0 (weights_at ws n).1 v (2 * p)) (sym half)

pub pair_second : (ws : List (ℤ × ℤ)) (v : List ℤ) (p : ℕ) (w0 w1 m x y z : ℤ) → w0 ≡ (weights_at ws p).0 → w1 ≡ (weights_at ws p).1 → m ≡ neg_ℤ w0 →
    x ≡ at v (2 * p) → y ≡ at v (2 * p + 1) → z ≡ half_btf w1 x m y → z ≡ turned_by ws v (2 * p + 1)
pair_second ws v p w0 w1 m x y z e0 e1 em ex ey is =
    let half : (2 * p + 1) / 2 ≡ p = omega arith in
    let before : 2 * p + 1 - 1 ≡ 2 * p = omega arith in
    is
    ∙ ap (λ w. half_btf w x m y) e1 ∙ ap (λ w. half_btf (weights_at ws p).1 x w y) (em ∙ ap neg_ℤ e0)
    ∙ ap (λ w. half_btf (weights_at ws p).1 w (neg_ℤ (weights_at ws p).0) y) (ex ∙ ap (at v) (sym before))
    ∙ ap (λ w. half_btf (weights_at ws p).1 (at v (2 * p + 1 - 1)) (neg_ℤ (weights_at ws p).0) w) ey
    ∙ turned-odd (weights_at ws p).0 (weights_at ws p).1 v (2 * p + 1) (λ h. omega arith)
    ∙ ap (λ n. turned (weights_at ws n).0 (weights_at ws n).1 v (2 * p + 1)) (sym half)

-- each weight is a small number
pub cos-fits : (a : ℕ) → FitsBits 20 (cos128 a)
unfolding cos128
cos-fits a =
    elim (cases_lt a 64) [
      | inl h ↦ (let b = weight_bounds a h in record { low = omega (arith, ints, b.0); high = omega (arith, ints, b.1) })
      | inr h ↦ (let P : ℤ → Type 0 = λ z. FitsBits 20 z in subst P (sym (get_or_past cos128_lookup a (pos 0) h)) (zero_fits 20))
    ]

negated-fits : (z : ℤ) → pos 0 ≤ℤ z → FitsBits 20 z → FitsBits 20 (neg_ℤ z)
negated-fits z h f = record { low = omega (arith, ints, f.low, f.high); high = omega (arith, ints, f.low, f.high) }

cos-positive : (a : ℕ) → pos 0 ≤ℤ cos128 a
unfolding cos128
cos-positive a =
    elim (cases_lt a 64) [
      | inl h ↦ (weight_bounds a h).0
      | inr h ↦ (let P : ℤ → Type 0 = λ z. pos 0 ≤ℤ z in subst P (sym (get_or_past cos128_lookup a (pos 0) h)) (omega (arith, ints)))
    ]

pub round_weights-fit : (s p : ℕ) → FitsBits 20 (round_weights s p).0
round_weights-fit s p =
    let a = turn_weights (64 / s * (4 * p + 1)) in
    let b = back_weights (64 / s * (4 * (p - s / 4) + 1)) in
    elim (nat_lt p (max 1 (s / 4))) as (λ t. FitsBits 20 (cond t a b).0) [ true ↦ cos-fits _ | false ↦ negated-fits _ (cos-positive _) (cos-fits _) ]
