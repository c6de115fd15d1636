-- Lanes of 16 bits, and the vectors of 32 bits that they are computed in.
use Rattle.std.proofs.Common.{inl, inr, refl, ℕ, zero, suc, ◌≡◌, ◌+◌, ◌-◌, ◌*◌, ◌%◌, ◌^◌, ◌<◌, ◌≤◌, ◌++◌, ltb, Bool, true, false, cond, ℤ, pos}
use Rattle.std.proofs.Common.{neg_ℤ, ◌+ℤ◌, ◌-ℤ◌, List, [], ◌∷◌, map, replicate, length, get_or, arith, ap, sym, subst, ◌∙◌, w16, w32, to_z, of_z, Fits}
use Rattle.std.proofs.Common.{FitsSigned}
use Rattle.std.proofs.lemmas.Bool.{cases_lt}
use Rattle.std.proofs.lemmas.Int.{ints, to_z-of_z, of_z-to_z, int_wrap_fits, wrapping_add-bits, wrapping_sub-bits}
use Rattle.std.proofs.lemmas.Nat.{pow_pos}
use Rattle.std.proofs.lemmas.Simd.{Each1-get_or}
use Rattle.std.specs.Int.{Width, int_min, int_max}
use Rattle.std.specs.Int.Signed.{lt_z, shr_z}
use Rattle.std.specs.Simd.Lanes.{Each1, pick_l, sel_l, top, zip2}
use Rattle.av1_lists.specs.Lists.{by_index}
use Rattle.av1_lists.proofs.Lists.{by_index_is}
use Rattle.av1_dct.specs.Arithmetic.{FitsBits, clamp_value}
use Rattle.av1_dct.specs.Operations.{half_btf}
use Rattle.av1_dct.specs.Word.{lane_of_pair, lane_of_short, lane_of_vector}
use Rattle.av1_dct.proofs.Fits.{clamp_value-fits, fits_wider, half_btf-fits}
use Rattle.av1_dct.proofs.Sums.{sum_fits, difference_fits}
use Rattle.av1_dct.proofs.Turns.{btf_is, shifted}

-- ---- lists of known length, place by place

-- a fact of each number below n
abbrev pub Below : ℕ → (ℕ → Type 0) → Type 0
Below zero P = Unit
Below (suc n) P = P 0 × Below n (λ i. P (suc i))

pub each_below : (n : ℕ) (P : ℕ → Type 0) → Below n P → (i : ℕ) → i < n → P i
each_below zero P all i h = absurd (omega arith)
each_below (suc n) P all zero h = all.0
each_below (suc n) P all (suc i) h = each_below n (λ k. P (suc k)) all.1 i (omega arith)

below : (n : ℕ) (P : ℕ → Type 0) → ((i : ℕ) → i < n → P i) → Below n P
below zero P f = tt
below (suc n) P f = (f 0 (omega arith), below n (λ i. P (suc i)) (λ i h. f (suc i) (omega arith)))

-- a fact of each number below 8, from two times four
halves : (P : ℕ → Type 0) → Below 4 P → Below 4 (λ i. P (4 + i)) → (i : ℕ) → i < 8 → P i
halves P low high i h =
    elim (cases_lt i 4) [
      | inl l ↦ each_below 4 P low i l
      | inr g ↦ (let e : 4 + (i - 4) ≡ i = omega arith in subst P e (each_below 4 (λ k. P (4 + k)) high (i - 4) (omega arith)))
    ]

-- the words of n lanes of a width
pub record Words (w : Width) (n : ℕ) (xs : List ℕ) : Type 0 where
  pub count : length xs ≡ n
  pub fit : Each1 (Fits w) xs

word_at : {w : Width} {n : ℕ} {xs : List ℕ} → Words w n xs → (i : ℕ) → i < n → Fits w (get_or xs i 0)
word_at {w} {n} {xs} b i h = Each1-get_or (Fits w) xs i 0 (omega (arith, b.count)) b.fit

-- a fact of a list that was written out
written_out : (n : ℕ) (P : List ℕ → Type 0) (xs : List ℕ) → length xs ≡ n → P (by_index n (λ i. get_or xs i 0)) → P xs
written_out n P xs count = subst P (sym (by_index_is n (λ i. get_or xs i 0) xs 0 count (λ i h. refl)))

-- ---- one lane

pub short_zeros : (i : ℕ) → i < 8 → lane_of_short (map (to_z w16) (replicate 8 0)) i ≡ pos 0
unfolding lane_of_short
short_zeros =
    each_below 8 (λ i. lane_of_short (map (to_z w16) (replicate 8 0)) i ≡ pos 0) (refl, (refl, (refl, (refl, (refl, (refl, (refl, (refl, tt))))))))

short_fits32 : (n : ℕ) → n < 2 ^ 16 → FitsSigned w32 (to_z w16 n)
short_fits32 n h = let f : FitsSigned w16 (to_z w16 n) = omega (arith, ints) in record { sfits = omega (arith, f.sfits) }

fits_signed16 : (z : ℤ) → FitsBits 16 z → FitsSigned w16 z
fits_signed16 z f = omega (arith, ints, f.low, f.high)

pub fits_signed32 : (z : ℤ) → FitsBits 20 z → FitsSigned w32 z
fits_signed32 z f = omega (arith, ints, f.low, f.high)

any_short : (n : ℕ) → FitsBits 16 (to_z w16 n)
any_short n = record { low = omega (arith, ints); high = omega (arith, ints) }

again : (w : Width) (xs : List ℕ) (i : ℕ) → get_or (map (of_z w) (map (to_z w) xs)) i 0 ≡ of_z w (to_z w (get_or xs i 0))
again w [] i = sym (of_z-to_z w 0 (pow_pos _))
again w (x ∷ xs) zero = refl
again w (x ∷ xs) (suc i) = again w xs i

-- a vector that was handed on, in a lane that is known
kept : (w : Width) (v : List ℤ) (i : ℕ) (z : ℤ) → FitsSigned w z → to_z w (get_or (map (of_z w) v) i 0) ≡ z →
    to_z w (get_or (map (of_z w) (map (to_z w) (map (of_z w) v))) i 0) ≡ z
kept w v i z f e = ap (to_z w) (again w (map (of_z w) v) i) ∙ ap (λ (u : ℤ). to_z w (of_z w u)) e ∙ to_z-of_z w z f

-- ---- rotations

short_turn : (w0 w1 : ℤ) (x y : ℕ) → FitsSigned w32 w0 → FitsSigned w32 w1 → Fits w16 x → Fits w16 y
    → let t =
    to_z w32 (((of_z w32 w0 * of_z w32 (to_z w16 x) % 4294967296 + of_z w32 w1 * of_z w32 (to_z w16 y) % 4294967296) % 4294967296 + 2048) % 4294967296) in
    to_z w32 (of_z w32 (to_z w32 (of_z w32 (shr_z t 4096)))) ≡ half_btf w0 (to_z w16 x) w1 (to_z w16 y)
short_turn w0 w1 x y f0 f1 fx fy =
    let n = ((of_z w32 w0 * of_z w32 (to_z w16 x) % 4294967296 + of_z w32 w1 * of_z w32 (to_z w16 y) % 4294967296) % 4294967296 + 2048) % 4294967296 in
    let small : n < 2 ^ 32 = omega arith in
    let fits : FitsSigned w32 (to_z w32 n) = omega (arith, ints) in
    ap (λ (z : ℤ). to_z w32 (of_z w32 z)) (to_z-of_z w32 (shr_z (to_z w32 n) 4096) (shifted _ fits))
    ∙ btf_is w0 (to_z w16 x) w1 (to_z w16 y) f0 (short_fits32 x fx.fits) f1 (short_fits32 y fy.fits)

-- eight words of 16 bits in 32
abbrev pub widened : List ℕ → List ℕ
widened xs = map (λ n. of_z w32 (to_z w16 n)) xs

-- the words that four rotations give
abbrev pub turned_words : (w0 w1 : ℤ) → List ℕ → List ℕ
turned_words w0 w1 zs =
    let ws = of_z w32 w0 ∷ of_z w32 w1 ∷ of_z w32 w0 ∷ of_z w32 w1 ∷ of_z w32 w0 ∷ of_z w32 w1 ∷ of_z w32 w0 ∷ of_z w32 w1 ∷ [] in
    let ps = zip2 (λ x y. (x * y) % 4294967296) ws (widened zs) in
    zip2 (λ a b. of_z w32 (shr_z (to_z w32 a) (2 ^ b)))
    (zip2 (λ x y. (x + y) % 4294967296)
    (zip2 (λ x y. (x + y) % 4294967296) (pick_l 0 (ps ++ ps) (0 ∷ 2 ∷ 4 ∷ 6 ∷ [])) (pick_l 0 (ps ++ ps) (1 ∷ 3 ∷ 5 ∷ 7 ∷ [])))
    (replicate 4 2048))
    (replicate 4 12)

-- lane i of four rotations of pairs of lanes
pub lane_weighed : (w0 w1 : ℤ) (zs : List ℕ) → FitsSigned w32 w0 → FitsSigned w32 w1 → Words w16 8 zs → (i : ℕ) → i < 4
    → lane_of_vector (map (to_z w32) (turned_words w0 w1 zs)) i ≡ half_btf w0 (to_z w16 (get_or zs (2 * i) 0)) w1 (to_z w16 (get_or zs (2 * i + 1) 0))
unfolding lane_of_vector
lane_weighed w0 w1 zs f0 f1 b =
    let z : ℕ → ℕ = λ i. get_or zs i 0 in
    let turned =
    below 4 (λ i.
    let t = to_z w32
    (((of_z w32 w0 * of_z w32 (to_z w16 (z (2 * i))) % 4294967296 + of_z w32 w1 * of_z w32 (to_z w16 (z (2 * i + 1))) % 4294967296) % 4294967296 + 2048) %
    4294967296) in
    to_z w32 (of_z w32 (to_z w32 (of_z w32 (shr_z t 4096)))) ≡ half_btf w0 (to_z w16 (z (2 * i))) w1 (to_z w16 (z (2 * i + 1))))
    (λ i h. short_turn w0 w1 (z (2 * i)) (z (2 * i + 1)) f0 f1 (word_at b (2 * i) (omega arith)) (word_at b (2 * i + 1) (omega arith))) in
    let S : List ℕ → ℕ → Type 0 =
    λ xs i. lane_of_vector (map (to_z w32) (turned_words w0 w1 xs)) i ≡ half_btf w0 (to_z w16 (z (2 * i))) w1 (to_z w16 (z (2 * i + 1))) in
    written_out 8 (λ xs. (i : ℕ) → i < 4 → S xs i) zs b.count (each_below 4 (S (by_index 8 z)) turned)

-- the words of two vectors side by side
abbrev pub low_words : List ℕ → List ℕ → List ℕ
low_words xs ys = pick_l 0 (xs ++ ys) (0 ∷ 8 ∷ 1 ∷ 9 ∷ 2 ∷ 10 ∷ 3 ∷ 11 ∷ [])

abbrev pub high_words : List ℕ → List ℕ → List ℕ
high_words xs ys = pick_l 0 (xs ++ ys) (4 ∷ 12 ∷ 5 ∷ 13 ∷ 6 ∷ 14 ∷ 7 ∷ 15 ∷ [])

-- what is said of four rotations that a call gives
abbrev WeighedAt : (w0 w1 : ℤ) → List ℤ → List ℕ → ℕ → Type 0
WeighedAt w0 w1 r zs i =
    let v = map (to_z w16) (map (of_z w16) (map (to_z w16) zs)) in
    lane_of_vector r i ≡ half_btf (to_z w32 (of_z w32 w0)) (lane_of_short v (2 * i)) (to_z w32 (of_z w32 w1)) (lane_of_short v (2 * i + 1))

abbrev pub Weighed : (w0 w1 : ℤ) → List ℤ → List ℕ → Type 0
Weighed w0 w1 r zs = (i : ℕ) → i < 4 → WeighedAt w0 w1 r zs i

-- the same, of the words x and y
abbrev Told : (w0 w1 : ℤ) → List ℤ → ℕ → (x y : ℕ) → Type 0
Told w0 w1 r i x y =
    lane_of_vector r i ≡ half_btf (to_z w32 (of_z w32 w0)) (to_z w16 (of_z w16 (to_z w16 (of_z w16 (to_z w16 x))))) (to_z w32 (of_z w32 w1))
    (to_z w16 (of_z w16 (to_z w16 (of_z w16 (to_z w16 y)))))

passed_twice : (x : ℕ) → Fits w16 x → to_z w16 (of_z w16 (to_z w16 (of_z w16 (to_z w16 x)))) ≡ to_z w16 x
passed_twice x f = let e = of_z-to_z w16 x f.fits in ap (λ (n : ℕ). to_z w16 (of_z w16 (to_z w16 n))) e ∙ ap (to_z w16) e

lane_told : (w0 w1 : ℤ) (r : List ℤ) (i : ℕ) (x y : ℕ) → FitsSigned w32 w0 → FitsSigned w32 w1 → Fits w16 x → Fits w16 y
    → Told w0 w1 r i x y
    → lane_of_vector (map (to_z w32) (map (of_z w32) r)) i ≡ half_btf w0 (to_z w16 x) w1 (to_z w16 y)
unfolding lane_of_vector
lane_told w0 w1 r i x y f0 f1 fx fy e =
    let a = to_z w16 (of_z w16 (to_z w16 (of_z w16 (to_z w16 x)))) in
    let b = to_z w16 (of_z w16 (to_z w16 (of_z w16 (to_z w16 y)))) in
    kept w32 r i (half_btf w0 (to_z w16 x) w1 (to_z w16 y)) (fits_signed32 _ (half_btf-fits w0 (to_z w16 x) w1 (to_z w16 y)))
    (e
    ∙ ap (λ (w : ℤ). half_btf w a (to_z w32 (of_z w32 w1)) b) (to_z-of_z w32 w0 f0)
    ∙ ap (λ (w : ℤ). half_btf w0 a w b) (to_z-of_z w32 w1 f1)
    ∙ ap (λ (z : ℤ). half_btf w0 z w1 b) (passed_twice x fx)
    ∙ ap (λ (z : ℤ). half_btf w0 (to_z w16 x) w1 z) (passed_twice y fy))

-- eight rotations in two times four
pub lane_turned : (w0 w1 : ℤ) (xs ys : List ℕ) (r q : List ℤ) → FitsSigned w32 w0 → FitsSigned w32 w1 → Words w16 8 xs → Words w16 8 ys →
    Weighed w0 w1 r (low_words xs ys) → Weighed w0 w1 q (high_words xs ys)
    → (i : ℕ) → i < 8 →
    lane_of_pair (map (to_z w32) (map (of_z w32) r)) (map (to_z w32) (map (of_z w32) q)) i ≡
    half_btf w0 (to_z w16 (get_or xs i 0)) w1 (to_z w16 (get_or ys i 0))
unfolding lane_of_pair lane_of_short
lane_turned w0 w1 xs ys r q f0 f1 bx by =
    let x : ℕ → ℕ = λ i. get_or xs i 0 in
    let y : ℕ → ℕ = λ i. get_or ys i 0 in
    let X : List ℕ = by_index 8 x in
    let Y : List ℕ = by_index 8 y in
    let S : ℕ → Type 0 =
    λ i. lane_of_pair (map (to_z w32) (map (of_z w32) r)) (map (to_z w32) (map (of_z w32) q)) i ≡ half_btf w0 (to_z w16 (x i)) w1 (to_z w16 (y i)) in
    let P : List ℕ → List ℕ → Type 0 = λ us vs. Weighed w0 w1 r (low_words us vs) → Weighed w0 w1 q (high_words us vs) → (i : ℕ) → i < 8 → S i in
    written_out 8 (λ us. P us ys) xs bx.count
    (written_out 8 (P X) ys by.count (λ low high.
    let l = each_below 4 (λ i. Told w0 w1 r i (x i) (y i)) (below 4 (WeighedAt w0 w1 r (low_words X Y)) low) in
    let u = each_below 4 (λ i. Told w0 w1 q i (x (4 + i)) (y (4 + i))) (below 4 (WeighedAt w0 w1 q (high_words X Y)) high) in
    halves S
    (below 4 (λ i. lane_of_vector (map (to_z w32) (map (of_z w32) r)) i ≡ half_btf w0 (to_z w16 (x i)) w1 (to_z w16 (y i)))
    (λ i h. lane_told w0 w1 r i (x i) (y i) f0 f1 (word_at bx i (omega arith)) (word_at by i (omega arith)) (l i h)))
    (below 4 (λ i. lane_of_vector (map (to_z w32) (map (of_z w32) q)) i ≡ half_btf w0 (to_z w16 (x (4 + i))) w1 (to_z w16 (y (4 + i))))
    (λ i h. lane_told w0 w1 q i (x (4 + i)) (y (4 + i)) f0 f1 (word_at bx (4 + i) (omega arith)) (word_at by (4 + i) (omega arith)) (u i h)))))

-- ---- in 32 bits

word_widened : (x : ℕ) → Fits w16 x → to_z w32 (of_z w32 (to_z w32 (of_z w32 (to_z w16 x)))) ≡ to_z w16 x
word_widened x h = let f = short_fits32 x h.fits in ap (λ (z : ℤ). to_z w32 (of_z w32 z)) (to_z-of_z w32 _ f) ∙ to_z-of_z w32 _ f

-- eight lanes in two times four
pub lane_widened : (xs : List ℕ) → Words w16 8 xs → (i : ℕ) → i < 8
    → lane_of_pair (map (to_z w32) (pick_l 0 (widened xs ++ widened xs) (0 ∷ 1 ∷ 2 ∷ 3 ∷ [])))
    (map (to_z w32) (pick_l 0 (widened xs ++ widened xs) (4 ∷ 5 ∷ 6 ∷ 7 ∷ []))) i ≡ to_z w16 (get_or xs i 0)
unfolding lane_of_pair lane_of_vector
lane_widened xs b =
    let x : ℕ → ℕ = λ i. get_or xs i 0 in
    let S : List ℕ → ℕ → Type 0 =
    λ us i. lane_of_pair (map (to_z w32) (pick_l 0 (widened us ++ widened us) (0 ∷ 1 ∷ 2 ∷ 3 ∷ [])))
    (map (to_z w32) (pick_l 0 (widened us ++ widened us) (4 ∷ 5 ∷ 6 ∷ 7 ∷ []))) i ≡ to_z w16 (x i) in
    let wide = below 8 (λ i. to_z w32 (of_z w32 (to_z w32 (of_z w32 (to_z w16 (x i))))) ≡ to_z w16 (x i)) (λ i h. word_widened (x i) (word_at b i h)) in
    written_out 8 (λ us. (i : ℕ) → i < 8 → S us i) xs b.count (each_below 8 (S (by_index 8 x)) wide)

-- eight lanes in eight
pub lane_spread : (xs : List ℕ) → Words w16 8 xs → (i : ℕ) → i < 8 → lane_of_vector (map (to_z w32) (widened xs)) i ≡ to_z w16 (get_or xs i 0)
unfolding lane_of_vector
lane_spread xs b =
    let x : ℕ → ℕ = λ i. get_or xs i 0 in
    let S : List ℕ → ℕ → Type 0 = λ us i. lane_of_vector (map (to_z w32) (widened us)) i ≡ to_z w16 (x i) in
    let wide = below 8 (λ i. to_z w32 (of_z w32 (to_z w32 (of_z w32 (to_z w16 (x i))))) ≡ to_z w16 (x i)) (λ i h. word_widened (x i) (word_at b i h)) in
    written_out 8 (λ us. (i : ℕ) → i < 8 → S us i) xs b.count (each_below 8 (S (by_index 8 x)) wide)

-- ---- clamped values

picked32 : (t : Bool) (x y : ℕ) → to_z w32 (cond (top 31 (cond t 4294967295 0)) x y) ≡ cond t (to_z w32 x) (to_z w32 y)
picked32 t x y = elim t as (λ v. to_z w32 (cond (top 31 (cond v 4294967295 0)) x y) ≡ cond v (to_z w32 x) (to_z w32 y)) [ true ↦ refl | false ↦ refl ]

picked16 : (t : Bool) (x y : ℕ) → to_z w16 (cond (top 15 (cond t 65535 0)) x y) ≡ cond t (to_z w16 x) (to_z w16 y)
picked16 t x y = elim t as (λ v. to_z w16 (cond (top 15 (cond v 65535 0)) x y) ≡ cond v (to_z w16 x) (to_z w16 y)) [ true ↦ refl | false ↦ refl ]

-- eight words of 32 bits that are cut to 16
abbrev pub cut_words : List ℕ → List ℕ
cut_words vs =
    let less = λ (a b : ℕ). cond {A = ℕ} (lt_z (to_z w32 a) (to_z w32 b)) 4294967295 0 in
    let ls = replicate 8 4294934528 in
    let hs = replicate 8 32767 in
    let m = sel_l (map (top 31) (zip2 less vs ls)) ls vs in
    sel_l (map (top 31) (zip2 less m hs)) m hs

-- one of them
abbrev cut : ℕ → ℕ
cut n =
    let m = cond (top 31 (cond {A = ℕ} (lt_z (to_z w32 n) (to_z w32 4294934528)) 4294967295 0)) 4294934528 n in
    cond (top 31 (cond {A = ℕ} (lt_z (to_z w32 m) (to_z w32 32767)) 4294967295 0)) m 32767

-- the number of 16 bits that is nearest to z
abbrev cut_z : ℤ → ℤ
cut_z z =
    let a = cond (lt_z z (neg_ℤ (pos 32768))) (neg_ℤ (pos 32768)) z in
    cond (lt_z a (pos 32767)) a (pos 32767)

cut_is : (n : ℕ) → to_z w32 (cut n) ≡ cut_z (to_z w32 n)
cut_is n =
    let m = cond (top 31 (cond {A = ℕ} (lt_z (to_z w32 n) (to_z w32 4294934528)) 4294967295 0)) 4294934528 n in
    picked32 (lt_z (to_z w32 m) (pos 32767)) m 32767
    ∙ ap (λ (a : ℤ). cond (lt_z a (pos 32767)) a (pos 32767)) (picked32 (lt_z (to_z w32 n) (to_z w32 4294934528)) 4294934528 n)

cut_z-fits : (z : ℤ) → FitsSigned w16 (cut_z z)
cut_z-fits z = grind (arith, ints)

pub cut_fits : (vs : List ℕ) → Words w32 8 vs → Each1 (λ n. FitsSigned w16 (to_z w32 n)) (cut_words vs)
cut_fits vs b =
    let v : ℕ → ℕ = λ i. get_or vs i 0 in
    let P : ℤ → Type 0 = λ z. FitsSigned w16 z in
    written_out 8 (λ us. Each1 (λ n. FitsSigned w16 (to_z w32 n)) (cut_words us)) vs b.count
    (below 8 (λ i. FitsSigned w16 (to_z w32 (cut (v i)))) (λ i h. subst P (sym (cut_is (v i))) (cut_z-fits (to_z w32 (v i)))))

-- eight words of 16 bits that are clamped
abbrev pub clamped_words : (high low : ℤ) → List ℕ → List ℕ
clamped_words high low cs =
    let less = λ (a b : ℕ). cond {A = ℕ} (lt_z (to_z w16 a) (to_z w16 b)) 65535 0 in
    let hs = replicate 8 (of_z w16 high) in
    let ls = replicate 8 (of_z w16 low) in
    let m = sel_l (map (top 15) (zip2 less cs hs)) cs hs in
    sel_l (map (top 15) (zip2 less m ls)) ls m

-- one of them
abbrev clamped : (high low : ℤ) → ℕ → ℕ
clamped high low c =
    let h = of_z w16 high in
    let l = of_z w16 low in
    let m = cond (top 15 (cond {A = ℕ} (lt_z (to_z w16 c) (to_z w16 h)) 65535 0)) c h in
    cond (top 15 (cond {A = ℕ} (lt_z (to_z w16 m) (to_z w16 l)) 65535 0)) l m

abbrev clamped_z : (high low : ℤ) → ℤ → ℤ
clamped_z high low z = let m = cond (lt_z z high) z high in cond (lt_z m low) low m

clamped_is : (high low : ℤ) (c : ℕ) → FitsSigned w16 high → FitsSigned w16 low → to_z w16 (clamped high low c) ≡ clamped_z high low (to_z w16 c)
clamped_is high low c fh fl =
    let h = of_z w16 high in
    let l = of_z w16 low in
    let m = cond (top 15 (cond {A = ℕ} (lt_z (to_z w16 c) (to_z w16 h)) 65535 0)) c h in
    picked16 (lt_z (to_z w16 m) (to_z w16 l)) l m
    ∙ ap (λ (z : ℤ). cond (lt_z z (to_z w16 l)) (to_z w16 l) z) (picked16 (lt_z (to_z w16 c) (to_z w16 h)) c h)
    ∙ ap (λ (z : ℤ). clamped_z z (to_z w16 l) (to_z w16 c)) (to_z-of_z w16 high fh)
    ∙ ap (λ (z : ℤ). clamped_z high z (to_z w16 c)) (to_z-of_z w16 low fl)

-- what is cut to 16 bits is clamped to fewer as it was
twice_clamped : (k : ℕ) (z high low : ℤ) → high ≡ pos (k - 1) → low ≡ neg_ℤ (pos k) → FitsSigned w16 high → FitsSigned w16 low →
    clamped_z high low (cut_z z) ≡ int_max low (int_min z high)
twice_clamped k z high low eh el fh fl = grind (arith, ints, fh.sfits, fl.sfits)

word_clamped : (range : ℕ) (high low : ℤ) (n : ℕ) → high ≡ pos (2 ^ (range - 1) - 1) → low ≡ neg_ℤ (pos (2 ^ (range - 1))) → FitsSigned w16 high →
    FitsSigned w16 low
    → to_z w16 (of_z w16 (to_z w16 (clamped high low (of_z w16 (to_z w32 (cut n)))))) ≡ clamp_value (to_z w32 n) range
unfolding clamp_value
word_clamped range high low n eh el fh fl =
    let z = to_z w32 n in
    let c = of_z w16 (to_z w32 (cut n)) in
    let ec : to_z w16 c ≡ cut_z z = ap (λ (u : ℤ). to_z w16 (of_z w16 u)) (cut_is n) ∙ to_z-of_z w16 (cut_z z) (cut_z-fits z) in
    let e : to_z w16 (clamped high low c) ≡ int_max low (int_min z high) = clamped_is high low c fh fl ∙ ap (clamped_z high low) ec
    ∙ twice_clamped (2 ^ (range - 1)) z high low eh el fh fl in
    let f : FitsSigned w16 (int_max low (int_min z high)) = grind (arith, ints, fh.sfits, fl.sfits) in
    ap (λ (u : ℤ). to_z w16 (of_z w16 u)) e ∙ to_z-of_z w16 _ f
    ∙ ap (λ (u : ℤ). int_max u (int_min z high)) el
    ∙ ap (λ (u : ℤ). int_max (neg_ℤ (pos (2 ^ (range - 1)))) (int_min z u)) eh

-- eight words of 32 bits, clamped
pub lane_clamped : (range : ℕ) (high low : ℤ) (vs : List ℕ) → high ≡ pos (2 ^ (range - 1) - 1) → low ≡ neg_ℤ (pos (2 ^ (range - 1))) → FitsSigned w16 high →
    FitsSigned w16 low → Words w32 8 vs
    → (i : ℕ) → i < 8 → lane_of_short (map (to_z w16) (clamped_words high low (map (λ n. of_z w16 (to_z w32 n)) (cut_words vs)))) i ≡
    clamp_value (to_z w32 (get_or vs i 0)) range
unfolding lane_of_short
lane_clamped range high low vs eh el fh fl b =
    let v : ℕ → ℕ = λ i. get_or vs i 0 in
    let S : List ℕ → ℕ → Type 0 = λ us i. lane_of_short (map (to_z w16) (clamped_words high low (map (λ n. of_z w16 (to_z w32 n)) (cut_words us)))) i ≡
    clamp_value (to_z w32 (v i)) range in
    let told = below 8 (λ i. to_z w16 (of_z w16 (to_z w16 (clamped high low (of_z w16 (to_z w32 (cut (v i))))))) ≡ clamp_value (to_z w32 (v i)) range)
    (λ i h. word_clamped range high low (v i) eh el fh fl) in
    written_out 8 (λ us. (i : ℕ) → i < 8 → S us i) vs b.count (each_below 8 (S (by_index 8 v)) told)

-- ---- sums and differences

-- what a call that clamps gives
pub clamped_told : (r : List ℤ) (range i : ℕ) (u z : ℤ) → range ≤ 16 → lane_of_short r i ≡ clamp_value u range → u ≡ z →
    lane_of_short (map (to_z w16) (map (of_z w16) r)) i ≡ clamp_value z range
unfolding lane_of_short
clamped_told r range i u z small e is =
    kept w16 r i (clamp_value z range) (fits_signed16 _ (clamp_value-fits z range small)) (e ∙ ap (λ (v : ℤ). clamp_value v range) is)

passed_word : (n : ℕ) (z : ℤ) → FitsSigned w32 z → to_z w32 n ≡ z → to_z w32 (of_z w32 (to_z w32 n)) ≡ z
passed_word n z f e = ap (λ (u : ℤ). to_z w32 (of_z w32 u)) e ∙ to_z-of_z w32 z f

abbrev pub plus32 : ℕ → ℕ → ℕ
plus32 x y = (x + y) % 4294967296

abbrev pub minus32 : ℕ → ℕ → ℕ
minus32 x y = (x + (4294967296 - y)) % 4294967296

-- what an operation on words gives
abbrev Gives : (ℕ → ℕ → ℕ) → (ℤ → ℤ → ℤ) → (a b : ℕ) → Type 0
Gives op o a b = to_z w32 (of_z w32 (to_z w32 (op a b))) ≡ o (to_z w32 a) (to_z w32 b)

-- it does so where both numbers fit 20 bits
abbrev pub Does : (ℕ → ℕ → ℕ) → (ℤ → ℤ → ℤ) → Type 0
Does op o = (a b : ℕ) → Fits w32 a → Fits w32 b → FitsBits 20 (to_z w32 a) → FitsBits 20 (to_z w32 b) → Gives op o a b

pub word_sum : Does plus32 (λ x y. x +ℤ y)
word_sum a b ha hb fa fb =
    let f = sum_fits _ _ fa fb in
    passed_word _ _ f (wrapping_add-bits w32 a b ha.fits hb.fits ∙ int_wrap_fits w32 _ f)

pub word_difference : Does minus32 (λ x y. x -ℤ y)
word_difference a b ha hb fa fb =
    let f = difference_fits _ _ fa fb in
    passed_word _ _ f (wrapping_sub-bits w32 a b ha.fits hb.fits ∙ int_wrap_fits w32 _ f)

-- lane i of two times four words
abbrev pub pair_at : List ℕ → List ℕ → ℕ → ℤ
pair_at low high i = cond (ltb i 4) (to_z w32 (get_or low i 0)) (to_z w32 (get_or high (i - 4) 0))

fits_apart : (low high : List ℕ) → ((i : ℕ) → i < 8 → FitsBits 20 (pair_at low high i)) → (i : ℕ) → i < 4 →
    FitsBits 20 (to_z w32 (get_or low i 0)) × FitsBits 20 (to_z w32 (get_or high i 0))
fits_apart low high f i h = (
  each_below 4 (λ k. FitsBits 20 (to_z w32 (get_or low k 0))) (below 4 (λ k. FitsBits 20 (pair_at low high k)) (λ k l. f k (omega arith))) i h,
  each_below 4 (λ k. FitsBits 20 (to_z w32 (get_or high k 0))) (below 4 (λ k. FitsBits 20 (pair_at low high (4 + k))) (λ k l. f (4 + k) (omega arith))) i h,
)

-- an operation on two times four lanes, joined to eight
pub lane_joined : (op : ℕ → ℕ → ℕ) (o : ℤ → ℤ → ℤ) → Does op o → (xl xh yl yh : List ℕ) → Words w32 4 xl → Words w32 4 xh → Words w32 4 yl → Words w32 4 yh
    → ((i : ℕ) → i < 8 → FitsBits 20 (pair_at xl xh i)) → ((i : ℕ) → i < 8 → FitsBits 20 (pair_at yl yh i))
    → (i : ℕ) → i < 8 → lane_of_vector (map (to_z w32) (pick_l 0 (zip2 op xl yl ++ zip2 op xh yh) (0 ∷ 1 ∷ 2 ∷ 3 ∷ 4 ∷ 5 ∷ 6 ∷ 7 ∷ []))) i ≡ o (pair_at xl xh i)
    (pair_at yl yh i)
unfolding lane_of_vector
lane_joined op o does xl xh yl yh bxl bxh byl byh fx fy =
    let S : List ℕ → List ℕ → List ℕ → List ℕ → ℕ → Type 0 = λ us us' vs vs' i.
    lane_of_vector (map (to_z w32) (pick_l 0 (zip2 op us vs ++ zip2 op us' vs') (0 ∷ 1 ∷ 2 ∷ 3 ∷ 4 ∷ 5 ∷ 6 ∷ 7 ∷ []))) i ≡ o (pair_at xl xh i) (pair_at yl yh i)
    in
    let a : ℕ → ℕ = λ i. get_or xl i 0 in
    let a' : ℕ → ℕ = λ i. get_or xh i 0 in
    let b : ℕ → ℕ = λ i. get_or yl i 0 in
    let b' : ℕ → ℕ = λ i. get_or yh i 0 in
    let gx = fits_apart xl xh fx in
    let gy = fits_apart yl yh fy in
    written_out 4 (λ us. (i : ℕ) → i < 8 → S us xh yl yh i) xl bxl.count
    (written_out 4 (λ us. (i : ℕ) → i < 8 → S (by_index 4 a) us yl yh i) xh bxh.count
    (written_out 4 (λ us. (i : ℕ) → i < 8 → S (by_index 4 a) (by_index 4 a') us yh i) yl byl.count
    (written_out 4 (λ us. (i : ℕ) → i < 8 → S (by_index 4 a) (by_index 4 a') (by_index 4 b) us i) yh byh.count
    (halves (S (by_index 4 a) (by_index 4 a') (by_index 4 b) (by_index 4 b'))
    (below 4 (λ i. Gives op o (a i) (b i)) (λ i h. does (a i) (b i) (word_at bxl i h) (word_at byl i h) (gx i h).0 (gy i h).0))
    (below 4 (λ i. Gives op o (a' i) (b' i)) (λ i h. does (a' i) (b' i) (word_at bxh i h) (word_at byh i h) (gx i h).1 (gy i h).1))))))

short_word : (x : ℕ) → Fits w16 x → Fits w32 (of_z w32 (to_z w16 x))
short_word x f = let g = short_fits32 x f.fits in record { fits = omega (arith, ints) }

-- an operation on eight lanes of 16 bits in 32
pub lane_wide : (op : ℕ → ℕ → ℕ) (o : ℤ → ℤ → ℤ) → Does op o → (xs ys : List ℕ) → Words w16 8 xs → Words w16 8 ys
    → (i : ℕ) → i < 8 → lane_of_vector (map (to_z w32) (zip2 op (widened xs) (widened ys))) i ≡ o (to_z w16 (get_or xs i 0)) (to_z w16 (get_or ys i 0))
unfolding lane_of_vector
lane_wide op o does xs ys bx by =
    let x : ℕ → ℕ = λ i. get_or xs i 0 in
    let y : ℕ → ℕ = λ i. get_or ys i 0 in
    let S : List ℕ → List ℕ → ℕ → Type 0 =
    λ us vs i. lane_of_vector (map (to_z w32) (zip2 op (widened us) (widened vs))) i ≡ o (to_z w16 (x i)) (to_z w16 (y i)) in
    let P : ℤ → Type 0 = λ z. FitsBits 20 z in
    let same = λ (n : ℕ) (f : Fits w16 n). to_z-of_z w32 (to_z w16 n) (short_fits32 n f.fits) in
    let fits = λ (n : ℕ) (f : Fits w16 n). subst P (sym (same n f)) (fits_wider 16 20 (to_z w16 n) (omega arith) (any_short n)) in
    let told = below 8 (λ i. to_z w32 (of_z w32 (to_z w32 (op (of_z w32 (to_z w16 (x i))) (of_z w32 (to_z w16 (y i)))))) ≡ o (to_z w16 (x i)) (to_z w16 (y i)))
    (λ i h.
    let fx = word_at bx i h in
    let fy = word_at by i h in
    does (of_z w32 (to_z w16 (x i))) (of_z w32 (to_z w16 (y i))) (short_word (x i) fx) (short_word (y i) fy) (fits (x i) fx) (fits (y i) fy)
    ∙ ap (λ (z : ℤ). o z (to_z w32 (of_z w32 (to_z w16 (y i))))) (same (x i) fx) ∙ ap (λ (z : ℤ). o (to_z w16 (x i)) z) (same (y i) fy)) in
    written_out 8 (λ us. (i : ℕ) → i < 8 → S us ys i) xs bx.count
    (written_out 8 (λ us. (i : ℕ) → i < 8 → S (by_index 8 x) us i) ys by.count (each_below 8 (S (by_index 8 x) (by_index 8 y)) told))
