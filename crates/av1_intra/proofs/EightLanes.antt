-- Eight numbers between two runs of a side, as the machine computes them in lanes of 32 bits.
use Rattle.std.proofs.Common.{ℕ, zero, suc, ◌+◌, ◌-◌, ◌*◌, ◌/◌, ◌%◌, ◌^◌, ◌<◌, ◌≤◌, ◌≡◌, ◌∙◌, Bool, true, false, cond, ltb, List, [], ◌∷◌, length, map}
use Rattle.std.proofs.Common.{get_or, min, ap, arith, refl, subst, sym, w16}
use Rattle.std.proofs.Common.{Fits}
use Rattle.std.proofs.lemmas.Bool.{ltb-true, ltb-false}
use Rattle.std.proofs.Math.Nat.{mul-le-mul_right}
use Rattle.std.specs.Simd.Lanes.{Each1}
use lib.Lanes.{zip2, sel_l, top}
use Rattle.av1_lists.specs.Lists.{by_index}
use Rattle.av1_lists.proofs.Lists.{by_index_is}

-- what holds of 0 to 7 holds of each place of eight lanes
pub each_of_eight : (P : ℕ → Type 0) → P 0 → P 1 → P 2 → P 3 → P 4 → P 5 → P 6 → P 7 → (t : ℕ) → t < 8 → P t
each_of_eight P a b c d e f g h zero l = a
each_of_eight P a b c d e f g h (suc zero) l = b
each_of_eight P a b c d e f g h (suc (suc zero)) l = c
each_of_eight P a b c d e f g h (suc (suc (suc zero))) l = d
each_of_eight P a b c d e f g h (suc (suc (suc (suc zero)))) l = e
each_of_eight P a b c d e f g h (suc (suc (suc (suc (suc zero))))) l = f
each_of_eight P a b c d e f g h (suc (suc (suc (suc (suc (suc zero)))))) l = g
each_of_eight P a b c d e f g h (suc (suc (suc (suc (suc (suc (suc zero))))))) l = h
each_of_eight P a b c d e f g h (suc (suc (suc (suc (suc (suc (suc (suc t)))))))) l = absurd (omega arith)

abbrev eight : ℕ → List ℕ
eight x = x ∷ x ∷ x ∷ x ∷ x ∷ x ∷ x ∷ x ∷ []

abbrev product : ℕ → ℕ → ℕ
product a b = a * b % 4294967296

abbrev total : ℕ → ℕ → ℕ
total a b = (a + b) % 4294967296

abbrev shifted : ℕ → ℕ → ℕ
shifted a b = a / 2 ^ b

abbrev less : ℕ → ℕ → ℕ
less a b = cond (ltb a b) 4294967295 0

-- the means at the weights m and z, and the lesser of each and t
abbrev means : (z m : ℕ) → List ℕ → List ℕ → List ℕ
means z m xs ys =
    zip2 shifted (zip2 total (zip2 total (zip2 product (map (λ x. x) xs) (eight m)) (zip2 product (map (λ x. x) ys) (eight z))) (eight 16)) (eight 5)

abbrev pub least : (z m t : ℕ) → List ℕ → List ℕ → List ℕ
least z m t xs ys = sel_l (map (top 31) (zip2 less (means z m xs ys) (eight t))) (means z m xs ys) (eight t)

-- one lane of them
abbrev mean : (z m a b : ℕ) → ℕ
mean z m a b = shifted (total (total (product a m) (product b z)) 16) 5

abbrev lane : (z m t a b : ℕ) → ℕ
lane z m t a b = cond (top 31 (less (mean z m a b) t)) (mean z m a b) t

lesser : (v t : ℕ) → cond (top 31 (less v t)) v t ≡ min v t
lesser v t = go (ltb v t) refl
  where
    go : (b : Bool) → ltb v t ≡ b → cond (top 31 (cond b 4294967295 0)) v t ≡ min v t
    go true e = let l = ltb-true v t e in omega (arith, l)
    go false e = let l = ltb-false v t e in omega (arith, l)

mean_is : (z m a b : ℕ) → m ≤ 32 → z ≤ 32 → a < 65536 → b < 65536 → mean z m a b ≡ (a * m + b * z + 16) / 32
mean_is z m a b p q h l =
    let x : a * m ≤ 65536 * m = mul-le-mul_right m (omega (arith, h)) in
    let y : b * z ≤ 65536 * z = mul-le-mul_right z (omega (arith, l)) in
    omega (arith, x, y, p, q)

lane_is : (z m t a b : ℕ) → m ≤ 32 → z ≤ 32 → a < 65536 → b < 65536 → lane z m t a b ≡ min ((a * m + b * z + 16) / 32) t
lane_is z m t a b p q h l = lesser (mean z m a b) t ∙ ap (λ v. min v t) (mean_is z m a b p q h l)

-- the numbers halfway between those of bs and cs, and the lesser of each and t
abbrev lessened : ℕ → ℕ → ℕ
lessened a b = (a + (4294967296 - b)) % 4294967296

abbrev inner_sums : List ℕ → List ℕ → List ℕ
inner_sums bs cs = zip2 total (zip2 product (zip2 total (map (λ x. x) bs) (map (λ x. x) cs)) (eight 9)) (eight 8)

abbrev outer_sums : List ℕ → List ℕ → List ℕ
outer_sums ws ds = zip2 total (map (λ x. x) ws) (map (λ x. x) ds)

abbrev halves : List ℕ → List ℕ → List ℕ → List ℕ → List ℕ
halves ws bs cs ds =
    zip2 shifted
    (zip2 lessened (sel_l (map (top 31) (zip2 less (inner_sums bs cs) (outer_sums ws ds))) (outer_sums ws ds) (inner_sums bs cs)) (outer_sums ws ds)) (eight 4)

abbrev pub lesser_halves : ℕ → List ℕ → List ℕ → List ℕ → List ℕ → List ℕ
lesser_halves t ws bs cs ds = sel_l (map (top 31) (zip2 less (halves ws bs cs ds) (eight t))) (halves ws bs cs ds) (eight t)

abbrev differ : ℕ → ℕ → ℕ
differ w o = lessened (cond (top 31 (less w o)) o w) o

differ_is : (w o : ℕ) → w < 4294967296 → o < 4294967296 → differ w o ≡ w - o
differ_is w o h l = go (ltb w o) refl
  where
    go : (b : Bool) → ltb w o ≡ b → lessened (cond (top 31 (cond b 4294967295 0)) o w) o ≡ w - o
    go true e = let q = ltb-true w o e in omega (arith, q, h, l)
    go false e = let q = ltb-false w o e in omega (arith, q, h, l)

abbrev half : (a b c d : ℕ) → ℕ
half a b c d = shifted (differ (total (product (total b c) 9) 8) (total a d)) 4

half_is : (t a b c d : ℕ) → a < 65536 → b < 65536 → c < 65536 → d < 65536 →
    cond (top 31 (less (half a b c d) t)) (half a b c d) t ≡ min ((9 * b + 9 * c + 8 - (a + d)) / 16) t
half_is t a b c d p q r s =
    let e = differ_is (total (product (total b c) 9) 8) (total a d) (omega arith) (omega arith) in
    let is : half a b c d ≡ (9 * b + 9 * c + 8 - (a + d)) / 16 = ap (λ v. shifted v 4) e ∙ omega (arith, p, q, r, s) in
    lesser (half a b c d) t ∙ ap (λ v. min v t) is

abbrev by_place : List ℕ → List ℕ
by_place xs = by_index 8 (λ i. get_or xs i 0)

module _ (t : ℕ) (ws bs cs ds : List ℕ) (pa : (k : ℕ) → get_or ws k 0 < 65536) (pb : (k : ℕ) → get_or bs k 0 < 65536)
    (pc : (k : ℕ) → get_or cs k 0 < 65536) (pd : (k : ℕ) → get_or ds k 0 < 65536) (la : length ws ≡ 8) (lb : length bs ≡ 8) (lc : length cs ≡ 8)
    (ld : length ds ≡ 8) where
  abbrev halves_written : List ℕ
  halves_written = lesser_halves t (by_place ws) (by_place bs) (by_place cs) (by_place ds)

  placed : (xs : List ℕ) → length xs ≡ 8 → xs ≡ by_place xs
  placed xs l = by_index_is 8 (λ i. get_or xs i 0) xs 0 l (λ k h. refl)

  halves_same : lesser_halves t ws bs cs ds ≡ halves_written
  halves_same = ap (λ u. lesser_halves t u bs cs ds) (placed ws la) ∙ ap (λ u. lesser_halves t (by_place ws) u cs ds) (placed bs lb)
      ∙ ap (λ u. lesser_halves t (by_place ws) (by_place bs) u ds) (placed cs lc)
      ∙ ap (lesser_halves t (by_place ws) (by_place bs) (by_place cs)) (placed ds ld)

  half_one : (k : ℕ) → cond (top 31 (less (half (get_or ws k 0) (get_or bs k 0) (get_or cs k 0) (get_or ds k 0)) t))
      (half (get_or ws k 0) (get_or bs k 0) (get_or cs k 0) (get_or ds k 0)) t ≡
      min ((9 * get_or bs k 0 + 9 * get_or cs k 0 + 8 - (get_or ws k 0 + get_or ds k 0)) / 16) t
  half_one k = half_is t (get_or ws k 0) (get_or bs k 0) (get_or cs k 0) (get_or ds k 0) (pa k) (pb k) (pc k) (pd k)

  pub halves_are : (k : ℕ) → k < 8 → get_or (map (λ x. x) (lesser_halves t ws bs cs ds)) k 0 ≡
      min ((9 * get_or bs k 0 + 9 * get_or cs k 0 + 8 - (get_or ws k 0 + get_or ds k 0)) / 16) t
  halves_are k l = ap (λ u. get_or (map (λ x. x) u) k 0) halves_same ∙
      each_of_eight (λ k. get_or (map (λ x. x) halves_written) k 0 ≡ min ((9 * get_or bs k 0 + 9 * get_or cs k 0 + 8 - (get_or ws k 0 + get_or ds k 0)) / 16) t)
      (half_one 0) (half_one 1) (half_one 2) (half_one 3) (half_one 4) (half_one 5) (half_one 6) (half_one 7) k l

  half_fits : t < 65536 → (k : ℕ) → Fits w16 (cond (top 31 (less (half (get_or ws k 0) (get_or bs k 0) (get_or cs k 0) (get_or ds k 0)) t))
      (half (get_or ws k 0) (get_or bs k 0) (get_or cs k 0) (get_or ds k 0)) t)
  half_fits few k = record { fits = omega (arith, half_one k) }

  pub halves_fit : t < 65536 → Each1 (Fits w16) (lesser_halves t ws bs cs ds)
  halves_fit few = subst (Each1 (Fits w16)) (sym halves_same) (
    half_fits few 0,
    (
      half_fits few 1,
      (
        half_fits few 2,
        (
          half_fits few 3,
          (half_fits few 4, (half_fits few 5, (half_fits few 6, (half_fits few 7, tt)))),
        ),
      ),
    ),
  )

module _ (z m t : ℕ) (xs ys : List ℕ) (p : m ≤ 32) (q : z ≤ 32) (small : (k : ℕ) → get_or xs k 0 < 65536) (few : (k : ℕ) → get_or ys k 0 < 65536)
    (lx : length xs ≡ 8) (ly : length ys ≡ 8) where
  first : xs ≡ by_index 8 (λ i. get_or xs i 0)
  first = by_index_is 8 (λ i. get_or xs i 0) xs 0 lx (λ k h. refl)

  second : ys ≡ by_index 8 (λ i. get_or ys i 0)
  second = by_index_is 8 (λ i. get_or ys i 0) ys 0 ly (λ k h. refl)

  abbrev written : List ℕ
  written = least z m t (by_index 8 (λ i. get_or xs i 0)) (by_index 8 (λ i. get_or ys i 0))

  same : least z m t xs ys ≡ written
  same = ap (λ u. least z m t u ys) first ∙ ap (least z m t (by_index 8 (λ i. get_or xs i 0))) second

  one : (k : ℕ) → lane z m t (get_or xs k 0) (get_or ys k 0) ≡ min ((get_or xs k 0 * m + get_or ys k 0 * z + 16) / 32) t
  one k = lane_is z m t (get_or xs k 0) (get_or ys k 0) p q (small k) (few k)

  pub lanes_are : (k : ℕ) → k < 8 → get_or (map (λ x. x) (least z m t xs ys)) k 0 ≡ min ((get_or xs k 0 * m + get_or ys k 0 * z + 16) / 32) t
  lanes_are k l = ap (λ u. get_or (map (λ x. x) u) k 0) same ∙
      each_of_eight (λ k. get_or (map (λ x. x) written) k 0 ≡ min ((get_or xs k 0 * m + get_or ys k 0 * z + 16) / 32) t)
      (one 0) (one 1) (one 2) (one 3) (one 4) (one 5) (one 6) (one 7) k l

  fit : t < 65536 → (k : ℕ) → Fits w16 (lane z m t (get_or xs k 0) (get_or ys k 0))
  fit top k = record { fits = omega (arith, one k) }

  pub lanes_fit : t < 65536 → Each1 (Fits w16) (least z m t xs ys)
  lanes_fit top = subst (Each1 (Fits w16)) (sym same) (fit top 0, (fit top 1, (fit top 2, (fit top 3, (fit top 4, (fit top 5, (fit top 6, (fit top 7, tt))))))))
