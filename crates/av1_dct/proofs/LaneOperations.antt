-- Operations on vectors of n words, lane by lane.
use Rattle.std.proofs.Common.{ℕ, Bool, true, false, cond, leb, ltb, ◌&&◌, inl, inr, subst, neg_ℤ, ◌≡◌, ◌+◌, ◌-◌, ◌*◌, ◌%◌, ◌^◌, ◌<◌, ℤ, pos, ◌+ℤ◌, ◌*ℤ◌}
use Rattle.std.proofs.Common.{List, map, replicate, length, get_or, arith, ◌∙◌, ap, refl, set, sym, w32, to_z, of_z, FitsSigned}
use Rattle.std.specs.Int.{int_shr, int_min, int_max}
use Rattle.std.proofs.lemmas.Bool.{cases_lt}
use Rattle.std.proofs.lemmas.Bool.Decides.{nat_tests}
use Rattle.std.specs.Simd.Lanes.{zip2, sel_l, top}
use Rattle.std.specs.Int.Signed.{shr_z, lt_z, mag_shr}
use Rattle.std.proofs.lemmas.List.{get_or-map, get_or_default, length-map, length-replicate, length-set, same_lists}
use Rattle.std.proofs.lemmas.List.Edits.{fill_by_more}
use Rattle.std.proofs.lemmas.Simd.{get_or-zip2, length-zip2, get_or-replicate, get_or-sel_l, length-sel_l, tops_compared}
use Rattle.std.proofs.lemmas.Int.{ints, to_z-of_z, of_z-to_z}
use Rattle.av1_dct.specs.Arithmetic.{at, clamp_value, round12, wrap32}
use Rattle.av1_dct.specs.Operations.{half_btf}
use Rattle.av1_dct.specs.Word.{lane_of_vector}
use Rattle.av1_dct.proofs.Lanes.{Bits, bits_at, lane_made}
use Rattle.av1_dct.proofs.Turns.{btf_is, product_is, rounding_is, shifted}

zip_at : {C : Type 0} (n : ℕ) (f : ℕ → ℕ → C) (d : C) (xs ys : List ℕ) (i : ℕ) → i < n → length xs ≡ n → length ys ≡ n →
    get_or (zip2 f xs ys) i d ≡ f (get_or xs i 0) (get_or ys i 0)
zip_at n f d xs ys i h lx ly = get_or-zip2 f xs ys i 0 0 d (omega (arith, lx)) (omega (arith, ly))

zip_len : {C : Type 0} (n : ℕ) (f : ℕ → ℕ → C) (xs ys : List ℕ) → length xs ≡ n → length ys ≡ n → length (zip2 f xs ys) ≡ n
zip_len n f xs ys lx ly = length-zip2 f xs ys (lx ∙ sym ly) ∙ lx

of_z-lt : (z : ℤ) → FitsSigned w32 z → of_z w32 z < 2 ^ 32
of_z-lt z f = omega (arith, ints)

pub lane_splat : (n : ℕ) (v : ℤ) (i : ℕ) → i < n → FitsSigned w32 v → lane_of_vector (map (to_z w32) (replicate n (of_z w32 v))) i ≡ v
lane_splat n v i h f =
    let at = get_or-replicate n i (of_z w32 v) 0 h in
    lane_made (replicate n (of_z w32 v)) i (omega (arith, length-replicate n (of_z w32 v))) (omega (arith, at, of_z-lt v f)) ∙ ap (to_z w32) at
    ∙ to_z-of_z w32 v f

pub lane_get : (n : ℕ) (v : List ℤ) (i : ℕ) → i < n → Bits n (map (of_z w32) v) →
    to_z w32 (of_z w32 (get_or (map (to_z w32) (map (of_z w32) v)) i (pos 0))) ≡ lane_of_vector v i
unfolding lane_of_vector
lane_get n v i h b =
    let bs = map (of_z w32) v in
    ap (λ z. to_z w32 (of_z w32 z)) (get_or-map (to_z w32) bs i 0 (pos 0) (omega (arith, b.count)))
    ∙ ap (to_z w32) (of_z-to_z w32 (get_or bs i 0) (bits_at n bs i h b))

to_z-fits : (n : ℕ) → n < 2 ^ 32 → FitsSigned w32 (to_z w32 n)
to_z-fits n h = omega (arith, ints)

-- the bits that a turn gives, from those of two vectors
pub lane_turn : (n : ℕ) (w0 w1 : ℤ) (xs ys : List ℕ) (i : ℕ) → i < n → FitsSigned w32 w0 → FitsSigned w32 w1 → Bits n xs → Bits n ys
    → lane_of_vector (map (to_z w32) (zip2 (λ a b. of_z w32 (shr_z (to_z w32 a) (2 ^ b))) (zip2 (λ x y. (x + y) % 4294967296)
    (zip2 (λ x y. (x + y) % 4294967296) (zip2 (λ x y. (x * y) % 4294967296) (replicate n (of_z w32 w0)) xs)
    (zip2 (λ x y. (x * y) % 4294967296) (replicate n (of_z w32 w1)) ys)) (replicate n 2048)) (replicate n 12))) i
    ≡ half_btf w0 (to_z w32 (get_or xs i 0)) w1 (to_z w32 (get_or ys i 0))
lane_turn n w0 w1 xs ys i h f0 f1 bx by =
    let add = λ (x y : ℕ). (x + y) % 4294967296 in
    let mul = λ (x y : ℕ). (x * y) % 4294967296 in
    let shr = λ (a b : ℕ). of_z w32 (shr_z (to_z w32 a) (2 ^ b)) in
    let p = zip2 mul (replicate n (of_z w32 w0)) xs in
    let q = zip2 mul (replicate n (of_z w32 w1)) ys in
    let s = zip2 add p q in
    let t = zip2 add s (replicate n 2048) in
    let x = get_or xs i 0 in
    let y = get_or ys i 0 in
    let lp : length p ≡ n = zip_len n mul (replicate n (of_z w32 w0)) xs (length-replicate n _) bx.count in
    let lq : length q ≡ n = zip_len n mul (replicate n (of_z w32 w1)) ys (length-replicate n _) by.count in
    let ls : length s ≡ n = zip_len n add p q lp lq in
    let lt : length t ≡ n = zip_len n add s (replicate n 2048) ls (length-replicate n _) in
    let lr : length (zip2 shr t (replicate n 12)) ≡ n = zip_len n shr t (replicate n 12) lt (length-replicate n _) in
    let ap_ : get_or p i 0 ≡ of_z w32 w0 * x % 4294967296 = zip_at n mul 0 (replicate n (of_z w32 w0)) xs i h (length-replicate n _) bx.count
    ∙ ap (λ n. n * x % 4294967296) (get_or-replicate n i (of_z w32 w0) 0 h) in
    let aq : get_or q i 0 ≡ of_z w32 w1 * y % 4294967296 = zip_at n mul 0 (replicate n (of_z w32 w1)) ys i h (length-replicate n _) by.count
    ∙ ap (λ n. n * y % 4294967296) (get_or-replicate n i (of_z w32 w1) 0 h) in
    let as_ : get_or s i 0 ≡ (of_z w32 w0 * x % 4294967296 + of_z w32 w1 * y % 4294967296) % 4294967296 = zip_at n add 0 p q i h lp lq
    ∙ ap (λ n. (n + get_or q i 0) % 4294967296) ap_ ∙ ap (λ n. (of_z w32 w0 * x % 4294967296 + n) % 4294967296) aq in
    let at : get_or t i 0 ≡ ((of_z w32 w0 * x % 4294967296 + of_z w32 w1 * y % 4294967296) % 4294967296 + 2048) % 4294967296
    = zip_at n add 0 s (replicate n 2048) i h ls (length-replicate n _)
    ∙ ap (λ n. (get_or s i 0 + n) % 4294967296) (get_or-replicate n i 2048 0 h)
    ∙ ap (λ n. (n + 2048) % 4294967296) as_ in
    let ar : get_or (zip2 shr t (replicate n 12)) i 0 ≡ of_z w32 (shr_z (to_z w32 (get_or t i 0)) 4096) =
    zip_at n shr 0 t (replicate n 12) i h lt (length-replicate n _)
    ∙ ap (λ n. of_z w32 (shr_z (to_z w32 (get_or t i 0)) (2 ^ n))) (get_or-replicate n i 12 0 h) in
    let small : get_or t i 0 < 2 ^ 32 = omega (arith, at) in
    let ex : of_z w32 (to_z w32 x) ≡ x = of_z-to_z w32 x (bits_at n xs i h bx) in
    let ey : of_z w32 (to_z w32 y) ≡ y = of_z-to_z w32 y (bits_at n ys i h by) in
    lane_made _ i (omega (arith, lr)) (omega (arith, ar, of_z-lt _ (shifted _ (to_z-fits _ small))))
    ∙ ap (to_z w32) ar
    ∙ ap (λ n. to_z w32 (of_z w32 (shr_z (to_z w32 n) 4096))) at
    ∙ ap (λ n. to_z w32 (of_z w32 (shr_z (to_z w32 (((of_z w32 w0 * n % 4294967296 + of_z w32 w1 * y % 4294967296) % 4294967296 + 2048) % 4294967296)) 4096)))
    (sym ex)
    ∙ ap (λ n.
    to_z w32
    (of_z w32
    (shr_z (to_z w32 (((of_z w32 w0 * of_z w32 (to_z w32 x) % 4294967296 + of_z w32 w1 * n % 4294967296) % 4294967296 + 2048) % 4294967296)) 4096)))
    (sym ey)
    ∙ btf_is w0 (to_z w32 x) w1 (to_z w32 y) f0 (to_z-fits x (bits_at n xs i h bx)) f1 (to_z-fits y (bits_at n ys i h by))

sel_at : (n : ℕ) (t : ℕ → ℕ → Bool) (xs ys us vs : List ℕ) (i : ℕ) → i < n → length xs ≡ n → length ys ≡ n → length us ≡ n → length vs ≡ n
    → let r = sel_l (map (top 31) (zip2 (λ a b. cond (t a b) 4294967295 0) xs ys)) us vs
    in (get_or r i 0 ≡ cond (t (get_or xs i 0) (get_or ys i 0)) (get_or us i 0) (get_or vs i 0)) × (length r ≡ n)
sel_at n t xs ys us vs i h lx ly lu lv =
    let ms = zip2 t xs ys in
    let lm : length ms ≡ n = zip_len n t xs ys lx ly in
    let e = tops_compared w32 t xs ys in (
      ap (λ m. get_or (sel_l m us vs) i 0) e ∙ get_or-sel_l ms us vs i 0 (omega (arith, lm)) (omega (arith, lu)) (omega (arith, lv))
          ∙ ap (λ b. cond b (get_or us i 0) (get_or vs i 0)) (zip_at n t false xs ys i h lx ly),
      ap (λ m. length (sel_l m us vs)) e ∙ length-sel_l ms us vs (lm ∙ sym lu) (lm ∙ sym lv) ∙ lm,
    )

cond-to_z : (b : Bool) (x y : ℕ) → to_z w32 (cond b x y) ≡ cond b (to_z w32 x) (to_z w32 y)
cond-to_z b x y = elim b as (λ v. to_z w32 (cond v x y) ≡ cond v (to_z w32 x) (to_z w32 y)) [ true ↦ refl | false ↦ refl ]

cond-lt : (b : Bool) (x y m : ℕ) → x < m → y < m → cond b x y < m
cond-lt b x y m hx hy = elim b as (λ v. cond v x y < m) [ true ↦ hx | false ↦ hy ]

least : (x y : ℤ) → cond (lt_z x y) x y ≡ int_min x y
least x y = grind (arith, ints)

pub lane_clamp : (n range : ℕ) (high low : ℤ) (xs : List ℕ) (i : ℕ) → i < n → high ≡ pos (2 ^ (range - 1) - 1) → low ≡ neg_ℤ (pos (2 ^ (range - 1))) →
    FitsSigned w32 high → FitsSigned w32 low → Bits n xs
    → let less = λ (a b : ℕ). cond {A = ℕ} (lt_z (to_z w32 a) (to_z w32 b)) 4294967295 0 in
    let hs = replicate n (of_z w32 high) in let ls = replicate n (of_z w32 low) in
    let m = sel_l (map (top 31) (zip2 less xs hs)) xs hs in
    lane_of_vector (map (to_z w32) (sel_l (map (top 31) (zip2 less m ls)) ls m)) i ≡ clamp_value (to_z w32 (get_or xs i 0)) range
unfolding clamp_value
lane_clamp n range high low xs i h eh el fh fl bx =
    let t = λ (a b : ℕ). lt_z (to_z w32 a) (to_z w32 b) in
    let hs = replicate n (of_z w32 high) in
    let ls = replicate n (of_z w32 low) in
    let x = get_or xs i 0 in
    let a = sel_at n t xs hs xs hs i h bx.count (length-replicate n _) bx.count (length-replicate n _) in
    let m = sel_l (map (top 31) (zip2 (λ a b. cond (t a b) 4294967295 0) xs hs)) xs hs in
    let b = sel_at n t m ls ls m i h a.1 (length-replicate n _) (length-replicate n _) a.1 in
    let r = sel_l (map (top 31) (zip2 (λ a b. cond (t a b) 4294967295 0) m ls)) ls m in
    let hi : get_or hs i 0 ≡ of_z w32 high = get_or-replicate n i (of_z w32 high) 0 h in
    let lo : get_or ls i 0 ≡ of_z w32 low = get_or-replicate n i (of_z w32 low) 0 h in
    let z_hi : to_z w32 (get_or hs i 0) ≡ high = ap (to_z w32) hi ∙ to_z-of_z w32 high fh in
    let z_lo : to_z w32 (get_or ls i 0) ≡ low = ap (to_z w32) lo ∙ to_z-of_z w32 low fl in
    let z_m : to_z w32 (get_or m i 0) ≡ int_min (to_z w32 x) high =
    ap (to_z w32) a.0 ∙ cond-to_z (t x (get_or hs i 0)) x (get_or hs i 0) ∙ ap (λ v. cond (lt_z (to_z w32 x) v) (to_z w32 x) v) z_hi ∙ least (to_z w32 x) high
    in
    let z_r : to_z w32 (get_or r i 0) ≡ int_max low (int_min (to_z w32 x) high) =
    ap (to_z w32) b.0 ∙ cond-to_z (t (get_or m i 0) (get_or ls i 0)) (get_or ls i 0) (get_or m i 0)
    ∙ ap (λ v. cond (lt_z (to_z w32 (get_or m i 0)) v) v (to_z w32 (get_or m i 0))) z_lo
    ∙ ap (λ v. cond (lt_z v low) low v) z_m in
    let m_small : get_or m i 0 < 2 ^ 32 =
    subst (λ (n : ℕ). n < 2 ^ 32) (sym a.0) (cond-lt _ x (get_or hs i 0) (2 ^ 32) (bits_at n xs i h bx) (omega (arith, hi, of_z-lt high fh))) in
    let r_small : get_or r i 0 < 2 ^ 32 =
    subst (λ (n : ℕ). n < 2 ^ 32) (sym b.0) (cond-lt _ (get_or ls i 0) (get_or m i 0) (2 ^ 32) (omega (arith, lo, of_z-lt low fl)) m_small) in
    lane_made r i (omega (arith, b.1)) r_small ∙ z_r ∙ ap (λ v. int_max v (int_min (to_z w32 x) high)) el
    ∙ ap (λ v. int_max (neg_ℤ (pos (2 ^ (range - 1)))) (int_min (to_z w32 x) v)) eh

-- a vector whose lanes were read stays as it is
pub stored : (n : ℕ) (v : List ℤ) (i : ℕ) → i < n → Bits n (map (of_z w32) v) → lane_of_vector (map (to_z w32) (map (of_z w32) v)) i ≡ lane_of_vector v i
unfolding lane_of_vector
stored n v i h b = let bs = map (of_z w32) v in lane_made bs i (omega (arith, b.count)) (bits_at n bs i h b)

-- a lane of eight numbers
pub lane_from : (n : ℕ) (v : List ℤ) (i : ℕ) (z : ℤ) → i < n → length v ≡ n → get_or v i (pos 0) ≡ z → FitsSigned w32 z →
    lane_of_vector (map (to_z w32) (map (of_z w32) v)) i ≡ z
lane_from n v i z h len is f =
    let e : get_or (map (of_z w32) v) i 0 ≡ of_z w32 z = get_or-map (of_z w32) v i (pos 0) 0 (omega arith) ∙ ap (of_z w32) is in
    lane_made (map (of_z w32) v) i (omega (arith, length-map v (of_z w32))) (omega (arith, e, of_z-lt z f)) ∙ ap (to_z w32) e ∙ to_z-of_z w32 z f

-- the bits that a sum with a product gives
pub lane_product : (n : ℕ) (w : ℤ) (ss xs : List ℕ) (i : ℕ) → i < n → FitsSigned w32 w → Bits n ss → Bits n xs
    → lane_of_vector (map (to_z w32) (zip2 (λ x y. (x + y) % 4294967296) ss (zip2 (λ x y. (x * y) % 4294967296) (replicate n (of_z w32 w)) xs))) i
    ≡ wrap32 (to_z w32 (get_or ss i 0) +ℤ w *ℤ to_z w32 (get_or xs i 0))
lane_product n w ss xs i h fw bs bx =
    let add = λ (x y : ℕ). (x + y) % 4294967296 in
    let mul = λ (x y : ℕ). (x * y) % 4294967296 in
    let ws = replicate n (of_z w32 w) in
    let p = zip2 mul ws xs in
    let s = get_or ss i 0 in
    let x = get_or xs i 0 in
    let lp : length p ≡ n = zip_len n mul ws xs (length-replicate n _) bx.count in
    let lt : length (zip2 add ss p) ≡ n = zip_len n add ss p bs.count lp in
    let ap_ : get_or p i 0 ≡ of_z w32 w * x % 4294967296 = zip_at n mul 0 ws xs i h (length-replicate n _) bx.count
    ∙ ap (λ k. k * x % 4294967296) (get_or-replicate n i (of_z w32 w) 0 h) in
    let at : get_or (zip2 add ss p) i 0 ≡ (s + of_z w32 w * x % 4294967296) % 4294967296 = zip_at n add 0 ss p i h bs.count lp
    ∙ ap (λ k. (s + k) % 4294967296) ap_ in
    let es : of_z w32 (to_z w32 s) ≡ s = of_z-to_z w32 s (bits_at n ss i h bs) in
    let ex : of_z w32 (to_z w32 x) ≡ x = of_z-to_z w32 x (bits_at n xs i h bx) in
    lane_made _ i (omega (arith, lt)) (omega (arith, at))
    ∙ ap (to_z w32) at
    ∙ ap (λ k. to_z w32 ((k + of_z w32 w * x % 4294967296) % 4294967296)) (sym es)
    ∙ ap (λ k. to_z w32 ((of_z w32 (to_z w32 s) + of_z w32 w * k % 4294967296) % 4294967296)) (sym ex)
    ∙ product_is (to_z w32 s) w (to_z w32 x) (to_z-fits s (bits_at n ss i h bs)) fw (to_z-fits x (bits_at n xs i h bx))

-- the bits that rounding gives
pub lane_round : (n : ℕ) (xs : List ℕ) (i : ℕ) → i < n → Bits n xs
    → lane_of_vector
    (map (to_z w32) (zip2 (λ a b. of_z w32 (shr_z (to_z w32 a) (2 ^ b))) (zip2 (λ x y. (x + y) % 4294967296) xs (replicate n 2048)) (replicate n 12))) i
    ≡ round12 (to_z w32 (get_or xs i 0))
lane_round n xs i h bx =
    let add = λ (x y : ℕ). (x + y) % 4294967296 in
    let shr = λ (a b : ℕ). of_z w32 (shr_z (to_z w32 a) (2 ^ b)) in
    let x = get_or xs i 0 in
    let t = zip2 add xs (replicate n 2048) in
    let lt : length t ≡ n = zip_len n add xs (replicate n 2048) bx.count (length-replicate n _) in
    let lr : length (zip2 shr t (replicate n 12)) ≡ n = zip_len n shr t (replicate n 12) lt (length-replicate n _) in
    let at : get_or t i 0 ≡ (x + 2048) % 4294967296 = zip_at n add 0 xs (replicate n 2048) i h bx.count (length-replicate n _)
    ∙ ap (λ k. (x + k) % 4294967296) (get_or-replicate n i 2048 0 h) in
    let ar : get_or (zip2 shr t (replicate n 12)) i 0 ≡ of_z w32 (shr_z (to_z w32 (get_or t i 0)) 4096) =
    zip_at n shr 0 t (replicate n 12) i h lt (length-replicate n _)
    ∙ ap (λ k. of_z w32 (shr_z (to_z w32 (get_or t i 0)) (2 ^ k))) (get_or-replicate n i 12 0 h) in
    let small : get_or t i 0 < 2 ^ 32 = omega (arith, at) in
    let ex : of_z w32 (to_z w32 x) ≡ x = of_z-to_z w32 x (bits_at n xs i h bx) in
    lane_made _ i (omega (arith, lr)) (omega (arith, ar, of_z-lt _ (shifted _ (to_z-fits _ small))))
    ∙ ap (to_z w32) ar
    ∙ ap (λ k. to_z w32 (of_z w32 (shr_z (to_z w32 k) 4096))) at
    ∙ ap (λ k. to_z w32 (of_z w32 (shr_z (to_z w32 ((k + 2048) % 4294967296)) 4096))) (sym ex)
    ∙ rounding_is (to_z w32 x) (to_z-fits x (bits_at n xs i h bx))

-- the bits that halving gives
pub lane_half : (n : ℕ) (xs : List ℕ) (i : ℕ) → i < n → Bits n xs
    → lane_of_vector (map (to_z w32) (zip2 (λ a b. of_z w32 (shr_z (to_z w32 a) (2 ^ b))) xs (replicate n 1))) i ≡ int_shr (to_z w32 (get_or xs i 0)) 1
lane_half n xs i h bx =
    let shr = λ (a b : ℕ). of_z w32 (shr_z (to_z w32 a) (2 ^ b)) in
    let x = get_or xs i 0 in
    let z = to_z w32 x in
    let lr : length (zip2 shr xs (replicate n 1)) ≡ n = zip_len n shr xs (replicate n 1) bx.count (length-replicate n _) in
    let ar : get_or (zip2 shr xs (replicate n 1)) i 0 ≡ of_z w32 (shr_z z 2) = zip_at n shr 0 xs (replicate n 1) i h bx.count (length-replicate n _)
    ∙ ap (λ k. of_z w32 (shr_z z (2 ^ k))) (get_or-replicate n i 1 0 h) in
    let f : FitsSigned w32 (shr_z z 2) = record { sfits = (let g = to_z-fits x (bits_at n xs i h bx) in omega (arith, mag_shr z 2, g.sfits)) } in
    lane_made _ i (omega (arith, lr)) (omega (arith, ar, of_z-lt _ f)) ∙ ap (to_z w32) ar ∙ to_z-of_z w32 _ f

-- what a vector's array has
pub lane_read : (n : ℕ) (v : List ℤ) (i : ℕ) → i < n → length (map (of_z w32) v) ≡ n → get_or (map (to_z w32) (map (of_z w32) v)) i (pos 0) ≡ lane_of_vector v i
unfolding lane_of_vector
lane_read n v i h len = get_or-map (to_z w32) (map (of_z w32) v) i 0 (pos 0) (omega arith)

-- a vector with one number in all lanes
pub lanes_alike : (n : ℕ) (v : List ℤ) (z : ℤ) → length (map (of_z w32) v) ≡ n → ((i : ℕ) → i < n → lane_of_vector v i ≡ z) →
    map (to_z w32) (map (of_z w32) v) ≡ replicate n z
lanes_alike n v z len alike =
    let long : length (map (to_z w32) (map (of_z w32) v)) ≡ n = length-map (map (of_z w32) v) (to_z w32) ∙ len in
    same_lists (map (to_z w32) (map (of_z w32) v)) (replicate n z) (long ∙ sym (length-replicate n z)) (λ k d l.
    let h : k < n = omega (arith, long) in
    get_or_default _ k d (pos 0) l ∙ lane_read n v k h len ∙ alike k h ∙ sym (get_or-replicate n k z d h))

-- n neighbours written
pub neighbours_written : (s n m : ℕ) (old buf values : List ℤ) (f : ℕ → ℤ) → m ≡ n
    → ((p : ℕ) → get_or buf p (pos 0) ≡ cond (leb s p && ltb p (s + m)) (get_or values (p - s) (pos 0)) (get_or old p (pos 0)))
    → ((i : ℕ) → i < n → get_or values i (pos 0) ≡ f i)
    → (p : ℕ) → get_or buf p (pos 0) ≡ cond (leb s p && ltb p (s + n)) (f (p - s)) (get_or old p (pos 0))
neighbours_written s n m old buf values f en inv is = λ p.
    let i = inv p in
    elim (cases_lt p s) [
      | inl b ↦ grind (arith, nat_tests)
      | inr b ↦ elim (cases_lt p (s + n)) [ inl d ↦ (let u = is (p - s) (omega arith) in grind (arith, nat_tests)) | inr d ↦ grind (arith, nat_tests) ]
    ]

-- one more lane of n is read
pub read_on : (n start k : ℕ) (lanes values : List ℤ) → k < n → FitsSigned w32 (at values (start + k)) → length lanes ≡ n
    → ((q : ℕ) → q < k → at lanes q ≡ at values (start + q)) → ((q : ℕ) → q < k → FitsSigned w32 (at values (start + q)))
    → (length (set lanes k (to_z w32 (of_z w32 (at values (start + k))))) ≡ n) ×
    (((q : ℕ) → q < k + 1 → at (set lanes k (to_z w32 (of_z w32 (at values (start + k))))) q ≡ at values (start + q)) ×
    ((q : ℕ) → q < k + 1 → FitsSigned w32 (at values (start + q))))
read_on n start k lanes values room f len same fit = (
  length-set lanes k _ ∙ len,
  (
    λ q lt. ap (λ z. at (set lanes k z) q) (to_z-of_z w32 _ f) ∙ fill_by_more (λ p. at values (start + p)) lanes k (pos 0) (omega (arith, len)) same q lt,
    λ q lt. elim (cases_lt q k) [ inl b ↦ fit q b | inr b ↦ (let P : ℕ → Type 0 = λ p. FitsSigned w32 (at values (start + p)) in subst P (omega arith) f) ],
  ),
)
