-- The sine transform of 4 values.
use Rattle.std.proofs.Common.{◌≡◌, ℤ, pos, negsuc, ◌+ℤ◌, ◌-ℤ◌, ◌*ℤ◌, List, [], ◌∷◌, arith, ap, sym, ◌∙◌, w32}
use Rattle.std.specs.Int.{int_shr}
use Rattle.std.proofs.lemmas.Int.{ints, int_wrap-add_left, int_wrap-add_right, int_wrap-mul_right}
use Rattle.av1_dct.specs.Arithmetic.{at, round12, wrap32}
use Rattle.av1_itx.proofs.Fills.{four_same}
use Rattle.av1_itx.specs.Adst.{adst4, adst4_with, weighted_with}

-- a product of what was read
pub product_at : (s w x t y r : ℤ) → r ≡ wrap32 (s +ℤ w *ℤ x) → s ≡ t → x ≡ y → r ≡ wrap32 (t +ℤ w *ℤ y)
product_at s w x t y r is es ex = is ∙ ap (λ n. wrap32 (n +ℤ w *ℤ x)) es ∙ ap (λ n. wrap32 (t +ℤ w *ℤ n)) ex

-- a further product
pub one_more : (s t z w x : ℤ) → s ≡ wrap32 t → z ≡ wrap32 (s +ℤ w *ℤ x) → z ≡ wrap32 (t +ℤ w *ℤ x)
one_more s t z w x hs hz = hz ∙ ap (λ n. wrap32 (n +ℤ w *ℤ x)) hs ∙ int_wrap-add_left w32 t (w *ℤ x)

-- a further multiple of a number that was wrapped
pub one_wrapped : (s t z w x y : ℤ) → s ≡ wrap32 t → x ≡ wrap32 y → z ≡ wrap32 (s +ℤ w *ℤ x) → z ≡ wrap32 (t +ℤ w *ℤ y)
one_wrapped s t z w x y hs hx hz =
    one_more s t z w x hs hz ∙ ap (λ n. wrap32 (t +ℤ w *ℤ n)) hx
    ∙ sym (int_wrap-add_right w32 t (w *ℤ wrap32 y)) ∙ ap (λ n. wrap32 (t +ℤ n)) (int_wrap-mul_right w32 w y) ∙ int_wrap-add_right w32 t (w *ℤ y)

pub rounded_is : (z s t y : ℤ) → s ≡ wrap32 t → t ≡ y → z ≡ round12 s → z ≡ round12 y
rounded_is z s t y hs ht hz =
    hz ∙ ap round12 hs ∙ ap (λ n. int_shr n 12) (int_wrap-add_left w32 t (pos 2048)) ∙ ap round12 ht

-- three products
pub three : (w0 x0 w1 x1 w2 x2 p q r : ℤ) → p ≡ wrap32 (pos 0 +ℤ w0 *ℤ x0) → q ≡ wrap32 (p +ℤ w1 *ℤ x1) → r ≡ wrap32 (q +ℤ w2 *ℤ x2) →
    r ≡ wrap32 (pos 0 +ℤ w0 *ℤ x0 +ℤ w1 *ℤ x1 +ℤ w2 *ℤ x2)
three w0 x0 w1 x1 w2 x2 p q r hp hq hr = one_more q _ r w2 x2 (one_more p _ q w1 x1 hp hq) hr

-- what the outputs are made of: the sums of the outer values for the first two, and the product of the second value
abbrev pub First : (x : List ℤ) → ℤ → Type 0
First x s = s ≡ wrap32 (pos 0 +ℤ pos 1321 *ℤ at x 0 +ℤ pos 3803 *ℤ at x 2 +ℤ pos 2482 *ℤ at x 3)

abbrev pub Second : (x : List ℤ) → ℤ → Type 0
Second x s = s ≡ wrap32 (pos 0 +ℤ pos 2482 *ℤ at x 0 +ℤ negsuc 1320 *ℤ at x 2 +ℤ negsuc 3802 *ℤ at x 3)

abbrev pub Third : (x : List ℤ) → ℤ → Type 0
Third x s = s ≡ wrap32 (pos 0 +ℤ pos 3344 *ℤ at x 1)

first_sum : (x0 x1 x2 x3 : ℤ) →
    pos 0 +ℤ pos 1321 *ℤ x0 +ℤ pos 3803 *ℤ x2 +ℤ pos 2482 *ℤ x3 +ℤ pos 1 *ℤ (pos 0 +ℤ pos 3344 *ℤ x1) ≡
    pos 1321 *ℤ x0 +ℤ pos 3344 *ℤ x1 +ℤ pos 3803 *ℤ x2 +ℤ pos 2482 *ℤ x3
first_sum x0 x1 x2 x3 = omega (arith, ints)

second_sum : (x0 x1 x2 x3 : ℤ) →
    pos 0 +ℤ pos 2482 *ℤ x0 +ℤ negsuc 1320 *ℤ x2 +ℤ negsuc 3802 *ℤ x3 +ℤ pos 1 *ℤ (pos 0 +ℤ pos 3344 *ℤ x1) ≡
    pos 2482 *ℤ x0 +ℤ pos 3344 *ℤ x1 +ℤ negsuc 1320 *ℤ x2 +ℤ negsuc 3802 *ℤ x3
second_sum x0 x1 x2 x3 = omega (arith, ints)

fourth_sum : (x0 x1 x2 x3 : ℤ) →
    pos 0 +ℤ pos 1321 *ℤ x0 +ℤ pos 3803 *ℤ x2 +ℤ pos 2482 *ℤ x3 +ℤ pos 1 *ℤ (pos 0 +ℤ pos 2482 *ℤ x0 +ℤ negsuc 1320 *ℤ x2 +ℤ negsuc 3802 *ℤ x3) +ℤ negsuc 0 *ℤ
    (pos 0 +ℤ pos 3344 *ℤ x1) ≡ pos 3803 *ℤ x0 +ℤ negsuc 3343 *ℤ x1 +ℤ pos 2482 *ℤ x2 +ℤ negsuc 1320 *ℤ x3
fourth_sum x0 x1 x2 x3 = omega (arith, ints)

no_more : (z : ℤ) → pos 0 +ℤ z ≡ z
no_more z = omega (arith, ints)

-- the four outputs
pub adst4_is : (x : List ℤ) (s0 s1 s2 pa pb pc pd pe a b c d : ℤ) → First x s0 → Second x s1 → Third x s2
    → pa ≡ wrap32 (s0 +ℤ pos 1 *ℤ s2) → a ≡ round12 pa
    → pb ≡ wrap32 (s1 +ℤ pos 1 *ℤ s2) → b ≡ round12 pb
    → pc ≡ wrap32 (pos 0 +ℤ pos 3344 *ℤ (at x 0 -ℤ at x 2 +ℤ at x 3)) → c ≡ round12 pc
    → pd ≡ wrap32 (s0 +ℤ pos 1 *ℤ s1) → pe ≡ wrap32 (pd +ℤ negsuc 0 *ℤ s2) → d ≡ round12 pe
    → a ∷ b ∷ c ∷ d ∷ [] ≡ adst4 x
unfolding adst4_with weighted_with
adst4_is x s0 s1 s2 pa pb pc pd pe a b c d h0 h1 h2 ea ha eb hb ec hc ed ee hd =
    let x0 = at x 0 in
    let x1 = at x 1 in
    let x2 = at x 2 in
    let x3 = at x 3 in
    let t0 = pos 0 +ℤ pos 1321 *ℤ x0 +ℤ pos 3803 *ℤ x2 +ℤ pos 2482 *ℤ x3 in
    let t1 = pos 0 +ℤ pos 2482 *ℤ x0 +ℤ negsuc 1320 *ℤ x2 +ℤ negsuc 3802 *ℤ x3 in
    let t2 = pos 0 +ℤ pos 3344 *ℤ x1 in
    four_same a b c d _ _ _ _
    (rounded_is a pa (t0 +ℤ pos 1 *ℤ t2) (pos 1321 *ℤ x0 +ℤ pos 3344 *ℤ x1 +ℤ pos 3803 *ℤ x2 +ℤ pos 2482 *ℤ x3) (one_wrapped s0 t0 pa (pos 1) s2 t2 h0 h2 ea)
    (first_sum x0 x1 x2 x3) ha)
    (rounded_is b pb (t1 +ℤ pos 1 *ℤ t2) (pos 2482 *ℤ x0 +ℤ pos 3344 *ℤ x1 +ℤ negsuc 1320 *ℤ x2 +ℤ negsuc 3802 *ℤ x3)
    (one_wrapped s1 t1 pb (pos 1) s2 t2 h1 h2 eb) (second_sum x0 x1 x2 x3) hb)
    (rounded_is c pc (pos 0 +ℤ pos 3344 *ℤ (x0 -ℤ x2 +ℤ x3)) (pos 3344 *ℤ (x0 -ℤ x2 +ℤ x3)) ec (no_more _) hc)
    (rounded_is d pe (t0 +ℤ pos 1 *ℤ t1 +ℤ negsuc 0 *ℤ t2) (pos 3803 *ℤ x0 +ℤ negsuc 3343 *ℤ x1 +ℤ pos 2482 *ℤ x2 +ℤ negsuc 1320 *ℤ x3)
    (one_wrapped pd (t0 +ℤ pos 1 *ℤ t1) pe (negsuc 0) s2 t2 (one_wrapped s0 t0 pd (pos 1) s1 t1 h0 h1 ed) h2 ee) (fourth_sum x0 x1 x2 x3) hd)
