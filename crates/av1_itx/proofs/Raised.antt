-- Residues that are added to samples.
use Rattle.std.proofs.Common.{ℕ, ◌≡◌, ◌⊎◌, ◌+◌, ◌-◌, ◌*◌, ◌/◌, ◌^◌, ◌<◌, ◌<ℤ◌, ◌∙◌, subst, ℤ, pos, negsuc, ◌+ℤ◌, List, length, get_or, set, arith, ap, sym}
use Rattle.std.proofs.Common.{inl, inr}
use Rattle.std.proofs.lemmas.Bool.{cases_lt}
use Rattle.std.proofs.lemmas.Int.{ints}
use Rattle.std.specs.Int.{int_shr}
use Rattle.av1_dct.specs.Arithmetic.{at, FitsBits}
use Rattle.av1_frame.specs.Arithmetic.{round_shift}
use Rattle.av1_frame.specs.Samples.{paint_row}
use Rattle.av1_frame.proofs.Paint.{paint_row_step}
use Rattle.av1_itx.proofs.Eights.{group_in}

-- four halves
pub halved : (y : ℤ) → int_shr (int_shr (int_shr (int_shr y 1) 1) 1) 1 ≡ int_shr y 4
halved (pos a) = ap pos (let e : a / 2 / 2 / 2 / 2 ≡ a / 16 = omega arith in e)
halved (negsuc a) = ap negsuc (let e : a / 2 / 2 / 2 / 2 ≡ a / 16 = omega arith in e)

-- what is rounded by no bits stays
pub rounded_none : (z : ℤ) → round_shift z 0 ≡ z
rounded_none (pos a) = ap pos (omega arith)
rounded_none (negsuc a) =
    ap (λ y. int_shr y 0) (let e : negsuc a +ℤ pos 0 ≡ negsuc a = omega (arith, ints) in e) ∙ ap negsuc (let e : a / 1 ≡ a = omega arith in e)

four_fit : (z : ℤ) → FitsBits 24 z → FitsBits 24 (round_shift z 4)
four_fit (pos a) f = record { low = omega (arith, ints, f.low, f.high); high = omega (arith, ints, f.low, f.high) }
four_fit (negsuc a) f =
    let P : ℤ → Type 0 = λ y. FitsBits 24 (int_shr y 4) in
    elim (cases_lt a 8) [
      | inl lt ↦ (
          let e : pos (7 - a) ≡ negsuc a +ℤ pos 8 = omega (arith, ints, lt) in
          subst P e (record { low = omega (arith, ints, lt); high = omega (arith, ints, lt) })
          )
      | inr ge ↦ (
          let e : negsuc (a - 8) ≡ negsuc a +ℤ pos 8 = omega (arith, ints, ge) in
          subst P e (record { low = omega (arith, ints, f.low, f.high); high = omega (arith, ints, f.low, f.high) })
          )
    ]

-- the sum that is rounded
pub sum_small : (z : ℤ) (n : ℕ) → (n ≡ 0) ⊎ (n ≡ 4) → FitsBits 24 z → (z +ℤ pos (2 ^ n / 2)) <ℤ pos (2 ^ 31)
sum_small z n (inl e) f = subst (λ k. (z +ℤ pos (2 ^ k / 2)) <ℤ pos (2 ^ 31)) (sym e) (omega (arith, ints, f.low, f.high))
sum_small z n (inr e) f = subst (λ k. (z +ℤ pos (2 ^ k / 2)) <ℤ pos (2 ^ 31)) (sym e) (omega (arith, ints, f.low, f.high))

-- rounded values fit as they did
pub rounded_fits : (z : ℤ) (n : ℕ) → (n ≡ 0) ⊎ (n ≡ 4) → FitsBits 24 z → FitsBits 24 (round_shift z n)
rounded_fits z n (inl e) f = subst (λ k. FitsBits 24 (round_shift z k)) (sym e) (subst (λ y. FitsBits 24 y) (sym (rounded_none z)) f)
rounded_fits z n (inr e) f = subst (λ k. FitsBits 24 (round_shift z k)) (sym e) (four_fit z f)

-- one more of the samples from a place on is painted
pub next_painted : {X : Type 0} (start k : ℕ) (f : ℕ → X → X) (s t : List X) (x v : X) → t ≡ paint_row (start + k) f s → start + k < length s →
    x ≡ get_or t (start + k) x → v ≡ f (start + k) x → set t (start + k) v ≡ paint_row (start + (k + 1)) f s
next_painted start k f s t x v is lt read e =
    paint_row_step (start + k) f s t x v is lt read e ∙ ap (λ n. paint_row n f s) (let a : start + k + 1 ≡ start + (k + 1) = omega arith in a)

-- all words of a row
pub all_done : {l m g w : ℕ} → m ≡ l → l * (w / l) ≡ w → g ≡ w / m → m * g ≡ w
all_done {l} {m} {g} {w} is whole end = ap (λ n. m * n) end ∙ subst (λ (n : ℕ). n * (w / n) ≡ w) (sym is) whole

-- a value of a word, of those that a row takes
pub value_fits : {l m g w i : ℕ} (start : ℕ) (buf : List ℤ) → m ≡ l → l * (w / l) ≡ w → g < w / m → i < l
    → ((c : ℕ) → c < w → FitsBits 24 (at buf (start + c))) → FitsBits 24 (at buf (start + m * g + i))
value_fits {l} {m} {g} {w} {i} start buf is whole lt h fit =
    let room = group_in is whole lt in
    let e : start + (m * g + i) ≡ start + m * g + i = omega arith in
    subst (λ (n : ℕ). FitsBits 24 (at buf n)) e (fit (m * g + i) (omega (arith, room, h)))
