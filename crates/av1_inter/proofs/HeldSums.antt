-- Averages whose sums are held in 16 bits.
use Rattle.std.proofs.Common.{ℕ, ◌+◌, ◌-◌, ◌^◌, ◌≤◌, ◌≡◌, ◌∙◌, ap, refl, arith, sym, min, ℤ, pos, negsuc, ◌+ℤ◌, ◌*ℤ◌, ◌≤ℤ◌, ◌⊎◌, subst, List, length}
use Rattle.std.proofs.Common.{get_or, inl, inr, w16, w32, to_z, of_z, FitsSigned}
use Rattle.std.specs.Int.{int_max, int_min, int_shr, saturate_signed}
use Rattle.std.specs.Int.Signed.{shr_z}
use Rattle.std.proofs.lemmas.Bool.{cases_lt}
use Rattle.std.proofs.lemmas.Int.{int_max_is, int_min_is, ints, to_z-of_z}
use Rattle.av1_frame.specs.Arithmetic.{clip}
use Rattle.av1_frame.specs.Samples.{paint_row}
use Rattle.av1_blocks.specs.Depths.{IsDepth}
use Rattle.av1_inter.specs.Motion.{averaged, bias, intermediate_bits}
use Rattle.av1_inter.proofs.Rows.{painted_sample}
use Rattle.av1_frame.proofs.Paint.{paint_row_same}

-- what holding a number in 16 bits does to it
abbrev IsHeld : (z s : ℤ) → Type 0
IsHeld z s = (s ≡ z) ⊎ (((s ≡ pos 32767) × (pos 32767 ≤ℤ z)) ⊎ ((s ≡ negsuc 32767) × (z ≤ℤ negsuc 32767)))

held : (z : ℤ) → IsHeld z (saturate_signed w16 z)
held (pos n) = elim (cases_lt n 32768) [
  | inl b ↦ inl (ap pos (omega arith))
  | inr b ↦ inr (inl (ap pos (omega arith), omega (arith, ints, b)))
]
held (negsuc n) = elim (cases_lt n 32768) [
  | inl b ↦ inl (ap negsuc (omega arith))
  | inr b ↦ inr (inr (ap negsuc (omega arith), omega (arith, ints, b)))
]

-- two numbers of which the clip makes the same
abbrev IsAlike : (v w : ℤ) → Type 0
IsAlike v w = (v ≡ w) ⊎ (((pos 32767 ≤ℤ v) × (pos 32767 ≤ℤ w)) ⊎ ((v ≤ℤ negsuc 0) × (w ≤ℤ negsuc 0)))

alike : (k : ℕ) (z s v : ℤ) → k ≤ 16400 → IsHeld z s → IsHeld (s +ℤ pos k) v → IsAlike v (z +ℤ pos k)
alike k z s v h (inl e) (inl f) = inl (f ∙ ap (λ u. u +ℤ pos k) e)
alike k z s v h (inl e) (inr (inl f)) = inr (inl (omega (arith, ints, e, f.0, f.1), omega (arith, ints, e, f.0, f.1)))
alike k z s v h (inl e) (inr (inr f)) = inr (inr (omega (arith, ints, e, f.0, f.1), omega (arith, ints, e, f.0, f.1)))
alike k z s v h (inr (inl e)) (inl f) = inr (inl (omega (arith, ints, e.0, e.1, f), omega (arith, ints, e.0, e.1, f)))
alike k z s v h (inr (inl e)) (inr (inl f)) = inr (inl (omega (arith, ints, e.0, e.1, f.0, f.1), omega (arith, ints, e.0, e.1, f.0, f.1)))
alike k z s v h (inr (inl e)) (inr (inr f)) = absurd (omega (arith, ints, e.0, e.1, f.0, f.1))
alike k z s v h (inr (inr e)) (inl f) = inr (inr (omega (arith, ints, e.0, e.1, f, h), omega (arith, ints, e.0, e.1, f, h)))
alike k z s v h (inr (inr e)) (inr (inl f)) = absurd (omega (arith, ints, e.0, e.1, f.0, f.1, h))
alike k z s v h (inr (inr e)) (inr (inr f)) = inr (inr (omega (arith, ints, e.0, e.1, f.0, f.1, h), omega (arith, ints, e.0, e.1, f.0, f.1, h)))

-- they are cut to the same number
low : (depth m : ℕ) (v : ℤ) → v ≤ℤ negsuc 0 → clip depth (shr_z v m) ≡ 0
low depth m (pos n) h = absurd (omega (arith, ints, h))
low depth m (negsuc n) h = refl

high_8 : (v : ℤ) → pos 32767 ≤ℤ v → clip 8 (shr_z v 32) ≡ 255
high_8 (pos n) h = omega (arith, ints, h)
high_8 (negsuc n) h = absurd (omega (arith, ints, h))

high_10 : (v : ℤ) → pos 32767 ≤ℤ v → clip 10 (shr_z v 32) ≡ 1023
high_10 (pos n) h = omega (arith, ints, h)
high_10 (negsuc n) h = absurd (omega (arith, ints, h))

high_12 : (v : ℤ) → pos 32767 ≤ℤ v → clip 12 (shr_z v 8) ≡ 4095
high_12 (pos n) h = omega (arith, ints, h)
high_12 (negsuc n) h = absurd (omega (arith, ints, h))

same_cut : (depth m top : ℕ) (v w : ℤ) → ((u : ℤ) → pos 32767 ≤ℤ u → clip depth (shr_z u m) ≡ top) → IsAlike v w →
    clip depth (shr_z v m) ≡ clip depth (shr_z w m)
same_cut depth m top v w high (inl e) = ap (λ z. clip depth (shr_z z m)) e
same_cut depth m top v w high (inr (inl h)) = high v h.0 ∙ sym (high w h.1)
same_cut depth m top v w high (inr (inr h)) = low depth m v h.0 ∙ sym (low depth m w h.1)

-- the clip as the machine forms it
cut : (depth : ℕ) (z m r : ℤ) → m ≡ int_max z (pos 0) → r ≡ int_min m (pos (2 ^ depth - 1)) → r ≡ pos (clip depth z)
cut depth (pos n) m r e f =
    let a = int_max_is (pos n) (pos 0) in
    let b = int_min_is m (pos (2 ^ depth - 1)) in
    omega (arith, ints, a, b, e, f)
cut depth (negsuc n) m r e f =
    let a = int_max_is (negsuc n) (pos 0) in
    let b = int_min_is m (pos (2 ^ depth - 1)) in
    omega (arith, ints, a, b, e, f)

-- all of it at one depth
at_depth : (depth k m top : ℕ) (z s v x r : ℤ) → k ≤ 16400 → ((u : ℤ) → pos 32767 ≤ℤ u → clip depth (shr_z u m) ≡ top) → s ≡ saturate_signed w16 z →
    v ≡ saturate_signed w16 (s +ℤ pos k)
    → x ≡ int_max (shr_z v m) (pos 0) → r ≡ int_min x (pos (2 ^ depth - 1)) → r ≡ pos (clip depth (shr_z (z +ℤ pos k) m))
at_depth depth k m top z s v x r small high es ev ex er =
    let hs = subst (λ (u : ℤ). IsHeld z u) (sym es) (held z) in
    let hv = subst (λ (u : ℤ). IsHeld (s +ℤ pos k) u) (sym ev) (held (s +ℤ pos k)) in
    cut depth (shr_z v m) x r ex er ∙ ap pos (same_cut depth m top v (z +ℤ pos k) high (alike k z s v small hs hv))

plain_average_is : (depth shift : ℕ) (a b rise greatest s v x r : ℤ) → IsDepth depth → shift ≡ intermediate_bits depth →
    rise ≡ pos (2 ^ intermediate_bits depth) +ℤ pos 2 *ℤ bias depth → greatest ≡ pos (2 ^ depth - 1)
    → s ≡ saturate_signed w16 (a +ℤ b) → v ≡ saturate_signed w16 (s +ℤ rise) → x ≡ int_max (int_shr v (shift + 1)) (pos 0) → r ≡ int_min x greatest →
    r ≡ pos (averaged depth a b)
plain_average_is depth shift a b rise greatest s v x r (inl d) eshift erise egreatest es ev ex er =
    let sum : a +ℤ b +ℤ pos 16 ≡ a +ℤ b +ℤ pos 0 +ℤ pos 16 = omega (arith, ints) in
    let n : shift ≡ 4 = eshift ∙ ap intermediate_bits d in
    let k : rise ≡ pos 16 = erise ∙ ap (λ (e : ℕ). pos (2 ^ intermediate_bits e) +ℤ pos 2 *ℤ bias e) d in
    let g : greatest ≡ pos 255 = egreatest ∙ ap (λ (e : ℕ). pos (2 ^ e - 1)) d in
    at_depth 8 16 32 255 (a +ℤ b) s v x r (omega arith) high_8 es (ev ∙ ap (λ u. saturate_signed w16 (s +ℤ u)) k)
    (ex ∙ ap (λ (e : ℕ). int_max (int_shr v (e + 1)) (pos 0)) n) (er ∙ ap (int_min x) g)
    ∙ ap (λ u. pos (clip 8 (shr_z u 32))) sum ∙ ap (λ (e : ℕ). pos (averaged e a b)) (sym d)
plain_average_is depth shift a b rise greatest s v x r (inr (inl d)) eshift erise egreatest es ev ex er =
    let sum : a +ℤ b +ℤ pos 16400 ≡ a +ℤ b +ℤ pos 16384 +ℤ pos 16 = omega (arith, ints) in
    let n : shift ≡ 4 = eshift ∙ ap intermediate_bits d in
    let k : rise ≡ pos 16400 = erise ∙ ap (λ (e : ℕ). pos (2 ^ intermediate_bits e) +ℤ pos 2 *ℤ bias e) d in
    let g : greatest ≡ pos 1023 = egreatest ∙ ap (λ (e : ℕ). pos (2 ^ e - 1)) d in
    at_depth 10 16400 32 1023 (a +ℤ b) s v x r (omega arith) high_10 es (ev ∙ ap (λ u. saturate_signed w16 (s +ℤ u)) k)
    (ex ∙ ap (λ (e : ℕ). int_max (int_shr v (e + 1)) (pos 0)) n) (er ∙ ap (int_min x) g)
    ∙ ap (λ u. pos (clip 10 (shr_z u 32))) sum ∙ ap (λ (e : ℕ). pos (averaged e a b)) (sym d)
plain_average_is depth shift a b rise greatest s v x r (inr (inr d)) eshift erise egreatest es ev ex er =
    let sum : a +ℤ b +ℤ pos 16388 ≡ a +ℤ b +ℤ pos 16384 +ℤ pos 4 = omega (arith, ints) in
    let n : shift ≡ 2 = eshift ∙ ap intermediate_bits d in
    let k : rise ≡ pos 16388 = erise ∙ ap (λ (e : ℕ). pos (2 ^ intermediate_bits e) +ℤ pos 2 *ℤ bias e) d in
    let g : greatest ≡ pos 4095 = egreatest ∙ ap (λ (e : ℕ). pos (2 ^ e - 1)) d in
    at_depth 12 16388 8 4095 (a +ℤ b) s v x r (omega arith) high_12 es (ev ∙ ap (λ u. saturate_signed w16 (s +ℤ u)) k)
    (ex ∙ ap (λ (e : ℕ). int_max (int_shr v (e + 1)) (pos 0)) n) (er ∙ ap (int_min x) g)
    ∙ ap (λ u. pos (clip 12 (shr_z u 8))) sum ∙ ap (λ (e : ℕ). pos (averaged e a b)) (sym d)

-- a row that was painted by way of another
pub painted_twice : {X : Type 0} (n : ℕ) (f : ℕ → X) (row blank line new : List X) → length blank ≡ n → line ≡ paint_row n (λ c _. f c) blank →
    new ≡ paint_row n (λ c v. get_or line c v) row → new ≡ paint_row n (λ c _. f c) row
painted_twice n f row blank line new b e g =
    g ∙ paint_row_same n _ _ row (λ q v l. ap (λ s. get_or s q v) e ∙ painted_sample n q (λ c _. f c) blank v l (omega arith) (λ u. refl))

-- a number that is cut to 16 bits
pub cut_is : (z x m r : ℤ) → m ≡ int_max x (negsuc 32767) → r ≡ int_min m (pos 32767) → x ≡ z → r ≡ saturate_signed w16 z
cut_is (pos n) x m r e f k =
    let a = int_max_is x (negsuc 32767) in
    let b = int_min_is m (pos 32767) in
    let c : r ≡ pos (min n 32767) = omega (arith, ints, a, b, e, f, k) in
    c ∙ omega (arith, ints)
cut_is (negsuc n) x m r e f k =
    let a = int_max_is x (negsuc 32767) in
    let b = int_min_is m (pos 32767) in
    let c : r ≡ negsuc (min n 32767) = omega (arith, ints, a, b, e, f, k) in
    c ∙ omega (arith, ints)

pub cut_fits : (z : ℤ) → FitsSigned w16 (saturate_signed w16 z)
cut_fits (pos n) = record { sfits = omega arith }
cut_fits (negsuc n) = record { sfits = omega arith }

-- a sum as the machine holds it
nearest_held : (z m r : ℤ) → m ≡ int_max z (negsuc 32767) → r ≡ int_min m (pos 32767) → to_z w16 (of_z w16 (to_z w32 (of_z w32 r))) ≡ saturate_signed w16 z
nearest_held (pos n) m r e f =
    let a = int_max_is (pos n) (negsuc 32767) in
    let b = int_min_is m (pos 32767) in
    let k : r ≡ pos (min n 32767) = omega (arith, ints, a, b, e, f) in
    ap (λ u. to_z w16 (of_z w16 (to_z w32 (of_z w32 u)))) k ∙ omega (arith, ints)
nearest_held (negsuc n) m r e f =
    let a = int_max_is (negsuc n) (negsuc 32767) in
    let b = int_min_is m (pos 32767) in
    let k : r ≡ negsuc (min n 32767) = omega (arith, ints, a, b, e, f) in
    ap (λ u. to_z w16 (of_z w16 (to_z w32 (of_z w32 u)))) k ∙ omega (arith, ints)

pub held_is : (z x m r : ℤ) → m ≡ int_max x (negsuc 32767) → r ≡ int_min m (pos 32767) → x ≡ z →
    to_z w16 (of_z w16 (to_z w32 (of_z w32 r))) ≡ saturate_signed w16 z
held_is z x m r e f k = nearest_held z m r (e ∙ ap (λ u. int_max u (negsuc 32767)) k) f

-- a held sum that is shifted
fits_32 : (v : ℤ) → FitsSigned w16 v → FitsSigned w16 (shr_z v 32)
fits_32 (pos n) f = record { sfits = omega (arith, f.sfits) }
fits_32 (negsuc n) f = record { sfits = omega (arith, f.sfits) }

fits_8 : (v : ℤ) → FitsSigned w16 v → FitsSigned w16 (shr_z v 8)
fits_8 (pos n) f = record { sfits = omega (arith, f.sfits) }
fits_8 (negsuc n) f = record { sfits = omega (arith, f.sfits) }

shift_fits : (depth shift : ℕ) (v : ℤ) → IsDepth depth → shift ≡ intermediate_bits depth → FitsSigned w16 v → FitsSigned w16 (int_shr v (shift + 1))
shift_fits depth shift v (inl d) e f = let n : shift ≡ 4 = e ∙ ap intermediate_bits d
    in subst (λ (k : ℕ). FitsSigned w16 (int_shr v (k + 1))) (sym n) (fits_32 v f)
shift_fits depth shift v (inr (inl d)) e f = let n : shift ≡ 4 = e ∙ ap intermediate_bits d
    in subst (λ (k : ℕ). FitsSigned w16 (int_shr v (k + 1))) (sym n) (fits_32 v f)
shift_fits depth shift v (inr (inr d)) e f = let n : shift ≡ 2 = e ∙ ap intermediate_bits d
    in subst (λ (k : ℕ). FitsSigned w16 (int_shr v (k + 1))) (sym n) (fits_8 v f)

-- the average as the machine forms it
pub average_is : (depth shift : ℕ) (a b rise greatest s v x r a2 b2 s2 rise2 x2 greatest2 : ℤ) → IsDepth depth → shift ≡ intermediate_bits depth →
    rise ≡ pos (2 ^ intermediate_bits depth) +ℤ pos 2 *ℤ bias depth → greatest ≡ pos (2 ^ depth - 1)
    → s ≡ saturate_signed w16 (a2 +ℤ b2) → v ≡ saturate_signed w16 (s2 +ℤ rise2) →
    x ≡ int_max (to_z w16 (of_z w16 (int_shr (to_z w16 (of_z w16 v)) (shift + 1)))) (pos 0) → r ≡ int_min x2 greatest2
    → a2 ≡ a → b2 ≡ b → s2 ≡ s → rise2 ≡ rise → x2 ≡ x → greatest2 ≡ greatest → FitsSigned w16 v → r ≡ pos (averaged depth a b)
average_is depth shift a b rise greatest s v x r a2 b2 s2 rise2 x2 greatest2 d n k g es ev ex er ea eb es2 ek ex2 eg f =
    plain_average_is depth shift a b rise greatest s v x r d n k g (es ∙ ap (λ u. saturate_signed w16 (u +ℤ b2)) ea ∙ ap (λ u. saturate_signed w16 (a +ℤ u)) eb)
    (ev ∙ ap (λ u. saturate_signed w16 (u +ℤ rise2)) es2 ∙ ap (λ u. saturate_signed w16 (s +ℤ u)) ek)
    (ex ∙ ap (λ u. int_max (to_z w16 (of_z w16 (int_shr u (shift + 1)))) (pos 0)) (to_z-of_z w16 v f)
    ∙ ap (λ u. int_max u (pos 0)) (to_z-of_z w16 _ (shift_fits depth shift v d n f)))
    (er ∙ ap (λ u. int_min u greatest2) ex2 ∙ ap (λ u. int_min x u) eg)

-- the sum of two numbers of 16 bits
pub sum_of_two : (a b x y : ℤ) → x ≡ to_z w16 (of_z w16 a) → y ≡ to_z w16 (of_z w16 b) → FitsSigned w16 a → FitsSigned w16 b →
    to_z w32 (of_z w32 (to_z w32 (of_z w32 x) +ℤ to_z w32 (of_z w32 y))) ≡ a +ℤ b
sum_of_two a b x y ea eb fa fb = omega (arith, ints, ea, eb, fa, fb)
