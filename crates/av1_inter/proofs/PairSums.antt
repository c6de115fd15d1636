-- Sums of two products, as the machine forms them: numbers of 16 bits in lanes of 32.
use Rattle.std.proofs.Common.{ℕ, ◌+◌, ◌*◌, ◌%◌, ◌<◌, ◌≡◌, ◌∙◌, ap, arith, subst, sym, ℤ, pos, negsuc, ◌+ℤ◌, ◌*ℤ◌, List, ◌++◌, length, map, get_or, w16, w32}
use Rattle.std.proofs.Common.{to_z, of_z, FitsSigned}
use Rattle.std.proofs.Math.IntN.{*ℤ_comm}
use Rattle.std.proofs.Math.ListN.{get_or-map}
use Rattle.std.proofs.lemmas.Int.{int_wrap_fits, ints, to_z-of_z, wrapping_add-bits, wrapping_mul_is}
use Rattle.std.proofs.lemmas.List.{get_or_append_left, get_or-append-add, length-map}
use Rattle.std.proofs.lemmas.Simd.{Each1-from_get_or}
use Rattle.std.specs.Int.{int_wrap}
use Rattle.std.specs.Simd.Lanes.{Each1}
use Rattle.av1_lists.specs.Lists.{by_index}
use Rattle.av1_lists.proofs.Lists.{get_or-by_index}
use Rattle.av1_inter.specs.Motion.{entry}
use Rattle.av1_inter.specs.Scaffolding.{Between}
use Rattle.av1_inter.proofs.Halves.{short_read, short_sum_fits}
use Rattle.av1_inter.proofs.Sums.{fits_of, product_between}

pub weight_fits : (z : ℤ) → Between 28 92 z → FitsSigned w16 z
weight_fits z b = short_sum_fits z (record { low = omega (arith, ints, b.low); high = omega (arith, ints, b.high) })

wide_weight : (z : ℤ) → Between 28 92 z → FitsSigned w32 z
wide_weight z b = fits_of z (omega (arith, ints, b.low)) (omega (arith, ints, b.high))

-- a weight that is read as a word fits 32 bits
pub weight_word_fits : (z : ℤ) → Between 28 92 z → FitsSigned w32 (to_z w16 (of_z w16 z))
weight_word_fits z b = subst (λ (y : ℤ). FitsSigned w32 y) (sym (to_z-of_z w16 z (weight_fits z b))) (wide_weight z b)

-- a product of a weight and a sample
pub small_product : (w x : ℤ) → Between 28 92 w → Between 0 32767 x → Between 917476 3014564 (w *ℤ x)
small_product (pos n) x bw bx = let p = product_between (pos n) x 0 32767 bx
    in record { low = omega (arith, ints, p.low, bw.high); high = omega (arith, ints, p.high, bw.high) }
small_product (negsuc n) x bw bx = let p = product_between (negsuc n) x 0 32767 bx
    in record { low = omega (arith, ints, p.low, bw.low); high = omega (arith, ints, p.high, bw.low) }

product_word : (w x : ℤ) → Between 28 92 w → Between 0 32767 x → to_z w32 (of_z w32 x * of_z w32 w % 4294967296) ≡ w *ℤ x
product_word w x bw bx =
    let p = small_product w x bw bx in
    wrapping_mul_is w32 x w (fits_of x (omega (arith, ints, bx.low)) (omega (arith, ints, bx.high))) (wide_weight w bw)
    ∙ ap (int_wrap w32) (*ℤ_comm x w)
    ∙ int_wrap_fits w32 (w *ℤ x) (fits_of _ (omega (arith, ints, p.low)) (omega (arith, ints, p.high)))

-- a sum of two products in 32 bits
abbrev sum_word : (x w y v : ℤ) → ℤ
sum_word x w y v = to_z w32 ((of_z w32 x * of_z w32 w % 4294967296 + of_z w32 y * of_z w32 v % 4294967296) % 4294967296)

sum_word_is : (w v x y : ℤ) → Between 28 92 w → Between 28 92 v → Between 0 32767 x → Between 0 32767 y → sum_word x w y v ≡ w *ℤ x +ℤ v *ℤ y
sum_word_is w v x y bw bv bx by =
    let a = of_z w32 x * of_z w32 w % 4294967296 in
    let b = of_z w32 y * of_z w32 v % 4294967296 in
    let p = small_product w x bw bx in
    let q = small_product v y bv by in
    wrapping_add-bits w32 a b (omega arith) (omega arith)
    ∙ ap (λ z. int_wrap w32 (z +ℤ to_z w32 b)) (product_word w x bw bx)
    ∙ ap (λ z. int_wrap w32 (w *ℤ x +ℤ z)) (product_word v y bv by)
    ∙ int_wrap_fits w32 _ (fits_of _ (omega (arith, ints, p.low, q.low)) (omega (arith, ints, p.high, q.high)))

-- a word that holds a number
read_is : (n : ℕ) (x : ℤ) → n ≡ of_z w16 x → Between 0 32767 x → to_z w16 n ≡ x
read_is n x e b = ap (to_z w16) e ∙ short_read 32767 x (omega arith) b

-- word i of two lists of numbers side by side
abbrev word_of : List ℤ → List ℤ → ℕ → ℕ
word_of xs ys i = get_or (map (of_z w16) xs ++ map (of_z w16) ys) i 0

-- what is read of it fits 32 bits
pub word_fits : (xs ys : List ℤ) (i : ℕ) → FitsSigned w32 (to_z w16 (word_of xs ys i))
word_fits xs ys i = fits_of (to_z w16 (word_of xs ys i)) (omega (arith, ints)) (omega (arith, ints))

first_word : (lanes : ℕ) (xs ys : List ℤ) (i : ℕ) → length xs ≡ lanes → i < lanes → word_of xs ys i ≡ of_z w16 (entry xs i)
first_word lanes xs ys i n h =
    get_or_append_left (map (of_z w16) xs) (map (of_z w16) ys) 0 i (omega (arith, n, length-map xs (of_z w16))) ∙ get_or-map (of_z w16) xs i (pos 0)

second_word : (lanes : ℕ) (xs ys : List ℤ) (i : ℕ) → length xs ≡ lanes → word_of xs ys (lanes + i) ≡ of_z w16 (entry ys i)
second_word lanes xs ys i n =
    let m : length (map (of_z w16) xs) ≡ lanes = omega (arith, n, length-map xs (of_z w16)) in
    ap (λ k. word_of xs ys (k + i)) (sym m) ∙ get_or-append-add (map (of_z w16) xs) (map (of_z w16) ys) i 0 ∙ get_or-map (of_z w16) ys i (pos 0)

-- lane i of the sums of two lists of so many lanes
abbrev pair_lane : (lanes : ℕ) (w v : ℤ) → List ℤ → List ℤ → ℕ → ℤ
pair_lane lanes w v xs ys i =
    sum_word (to_z w16 (word_of xs ys i)) (to_z w16 (of_z w16 w)) (to_z w16 (word_of xs ys (lanes + i))) (to_z w16 (of_z w16 v))

pair_lane_is : (lanes : ℕ) (w v : ℤ) (xs ys : List ℤ) (i : ℕ) → length xs ≡ lanes → i < lanes → Between 28 92 w → Between 28 92 v →
    Between 0 32767 (entry xs i) → Between 0 32767 (entry ys i)
    → pair_lane lanes w v xs ys i ≡ w *ℤ entry xs i +ℤ v *ℤ entry ys i
pair_lane_is lanes w v xs ys i n h bw bv bx by =
    let x = entry xs i in
    let y = entry ys i in
    let q = to_z w16 (word_of xs ys (lanes + i)) in
    let t = to_z w16 (of_z w16 v) in
    ap (λ z. sum_word z (to_z w16 (of_z w16 w)) q t) (read_is _ x (first_word lanes xs ys i n h) bx)
    ∙ ap (λ z. sum_word x z q t) (to_z-of_z w16 w (weight_fits w bw))
    ∙ ap (λ z. sum_word x w z t) (read_is _ y (second_word lanes xs ys i n) by)
    ∙ ap (λ z. sum_word x w y z) (to_z-of_z w16 v (weight_fits v bv))
    ∙ sum_word_is w v x y bw bv bx by

-- as many sums, each from a place of its own
pub pairs_are : (lanes : ℕ) (at : ℕ → ℕ) (w v : ℤ) (xs ys : List ℤ) → length xs ≡ lanes → ((i : ℕ) → i < lanes → at i < lanes) → Between 28 92 w →
    Between 28 92 v → ((i : ℕ) → i < lanes → Between 0 32767 (entry xs i)) → ((i : ℕ) → i < lanes → Between 0 32767 (entry ys i))
    → (i : ℕ) → i < lanes → entry (by_index lanes (λ i. pair_lane lanes w v xs ys (at i))) i ≡ w *ℤ entry xs (at i) +ℤ v *ℤ entry ys (at i)
pairs_are lanes at w v xs ys n inside bw bv bx by i h =
    let k = inside i h in
    get_or-by_index lanes (λ i. pair_lane lanes w v xs ys (at i)) i (pos 0) h ∙ pair_lane_is lanes w v xs ys (at i) n k bw bv (bx (at i) k) (by (at i) k)

-- a sample as a number
pub sample_fits : (n : ℕ) → n < 32768 → FitsSigned w16 (pos n)
sample_fits n h = record { sfits = omega (arith, ints, h) }

-- a number of 16 bits fits 32
wider_fits : (z : ℤ) → FitsSigned w16 z → FitsSigned w32 z
wider_fits (pos n) f = record { sfits = omega (arith, f.sfits) }
wider_fits (negsuc n) f = record { sfits = omega (arith, f.sfits) }

-- numbers of 16 bits in lanes of 32
module _ (lanes : ℕ) (xs : List ℤ) (value : ℕ → ℤ) (are : (i : ℕ) → i < lanes → entry xs i ≡ value i)
    (small : (i : ℕ) → i < lanes → FitsSigned w16 (value i)) where
  pub wide_lane : (i : ℕ) → i < lanes → to_z w32 (get_or (map (of_z w32) xs) i 0) ≡ value i
  wide_lane i h =
      ap (to_z w32) (get_or-map (of_z w32) xs i (pos 0)) ∙ ap (λ z. to_z w32 (of_z w32 z)) (are i h)
      ∙ to_z-of_z w32 (value i) (wider_fits (value i) (small i h))

  -- each fits 16 bits
  pub lanes_fit : length xs ≡ lanes → Each1 (λ n. FitsSigned w16 (to_z w32 n)) (map (of_z w32) xs)
  lanes_fit count =
      let P : ℕ → Type 0 = λ n. FitsSigned w16 (to_z w32 n) in
      let Q : ℤ → Type 0 = λ z. FitsSigned w16 z in
      Each1-from_get_or P (map (of_z w32) xs) 0 (λ i l. let h : i < lanes = omega (arith, count, length-map xs (of_z w32))
      in subst Q (sym (wide_lane i h)) (small i h))

  -- and is the same number there
  pub lanes_are : (i : ℕ) → i < lanes → entry (map (to_z w16) (map (λ n. of_z w16 (to_z w32 n)) (map (of_z w32) xs))) i ≡ value i
  lanes_are i h =
      get_or-map (to_z w16) (map (λ n. of_z w16 (to_z w32 n)) (map (of_z w32) xs)) i 0
      ∙ ap (to_z w16) (get_or-map (λ n. of_z w16 (to_z w32 n)) (map (of_z w32) xs) i 0)
      ∙ ap (λ z. to_z w16 (of_z w16 z)) (wide_lane i h) ∙ to_z-of_z w16 (value i) (small i h)

-- eight words, from word k on, and the first k behind them
abbrev pub turned : ℕ → List ℤ → List ℤ
turned k xs = by_index 8 (λ i. to_z w16 (word_of xs xs ((i + k) % 8)))

pub turned_is : (k : ℕ) (xs : List ℤ) (i : ℕ) → length xs ≡ 8 → i < 8 → ((j : ℕ) → j < 8 → Between 0 32767 (entry xs j)) →
    entry (turned k xs) i ≡ entry xs ((i + k) % 8)
turned_is k xs i n h b =
    let m : (i + k) % 8 < 8 = omega arith in
    get_or-by_index 8 (λ j. to_z w16 (word_of xs xs ((j + k) % 8))) i (pos 0) h ∙ ap (to_z w16) (first_word 8 xs xs ((i + k) % 8) n m)
    ∙ short_read 32767 (entry xs ((i + k) % 8)) (omega arith) (b ((i + k) % 8) m)

pub turned_between : (k : ℕ) (xs : List ℤ) → length xs ≡ 8 → ((j : ℕ) → j < 8 → Between 0 32767 (entry xs j)) →
    (i : ℕ) → i < 8 → Between 0 32767 (entry (turned k xs) i)
turned_between k xs n b i h =
    let m : (i + k) % 8 < 8 = omega arith in
    subst (λ (z : ℤ). Between 0 32767 z) (sym (turned_is k xs i n h b)) (b ((i + k) % 8) m)
