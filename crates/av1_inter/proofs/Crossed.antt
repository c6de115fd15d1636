-- Numbers of 16 columns of which the middle eight have changed places by fours.
use Rattle.std.proofs.Common.{ℕ, zero, suc, ◌<◌, ◌≡◌, ◌∙◌, ap, refl, arith, subst, sym, ℤ, pos, List, ◌++◌, length, map, get_or, w16, w32, to_z, of_z}
use Rattle.std.proofs.Common.{FitsSigned}
use Rattle.std.proofs.lemmas.Int.{to_z-of_z}
use Rattle.std.proofs.lemmas.List.{get_or_append_left, length-map}
use Rattle.av1_lists.specs.Lists.{by_index}
use Rattle.av1_lists.proofs.Lists.{get_or-by_index}
use Rattle.av1_inter.specs.Motion.{entry}
use Rattle.av1_inter.specs.Scaffolding.{crossed}
use Rattle.av1_inter.proofs.PairSums.{wide_lane}

each_of_sixteen : (P : ℕ → Type 0) → P 0 → P 1 → P 2 → P 3 → P 4 → P 5 → P 6 → P 7 → P 8 → P 9 → P 10 → P 11 → P 12 → P 13 → P 14 → P 15 → (t : ℕ) →
    t < 16 → P t
each_of_sixteen P p0 p1 p2 p3 p4 p5 p6 p7 p8 p9 p10 p11 p12 p13 p14 p15 zero l = p0
each_of_sixteen P p0 p1 p2 p3 p4 p5 p6 p7 p8 p9 p10 p11 p12 p13 p14 p15 (suc zero) l = p1
each_of_sixteen P p0 p1 p2 p3 p4 p5 p6 p7 p8 p9 p10 p11 p12 p13 p14 p15 (suc (suc zero)) l = p2
each_of_sixteen P p0 p1 p2 p3 p4 p5 p6 p7 p8 p9 p10 p11 p12 p13 p14 p15 (suc (suc (suc zero))) l = p3
each_of_sixteen P p0 p1 p2 p3 p4 p5 p6 p7 p8 p9 p10 p11 p12 p13 p14 p15 (suc (suc (suc (suc zero)))) l = p4
each_of_sixteen P p0 p1 p2 p3 p4 p5 p6 p7 p8 p9 p10 p11 p12 p13 p14 p15 (suc (suc (suc (suc (suc zero))))) l = p5
each_of_sixteen P p0 p1 p2 p3 p4 p5 p6 p7 p8 p9 p10 p11 p12 p13 p14 p15 (suc (suc (suc (suc (suc (suc zero)))))) l = p6
each_of_sixteen P p0 p1 p2 p3 p4 p5 p6 p7 p8 p9 p10 p11 p12 p13 p14 p15 (suc (suc (suc (suc (suc (suc (suc zero))))))) l = p7
each_of_sixteen P p0 p1 p2 p3 p4 p5 p6 p7 p8 p9 p10 p11 p12 p13 p14 p15 (suc (suc (suc (suc (suc (suc (suc (suc zero)))))))) l = p8
each_of_sixteen P p0 p1 p2 p3 p4 p5 p6 p7 p8 p9 p10 p11 p12 p13 p14 p15 (suc (suc (suc (suc (suc (suc (suc (suc (suc zero))))))))) l = p9
each_of_sixteen P p0 p1 p2 p3 p4 p5 p6 p7 p8 p9 p10 p11 p12 p13 p14 p15 (suc (suc (suc (suc (suc (suc (suc (suc (suc (suc zero)))))))))) l = p10
each_of_sixteen P p0 p1 p2 p3 p4 p5 p6 p7 p8 p9 p10 p11 p12 p13 p14 p15 (suc (suc (suc (suc (suc (suc (suc (suc (suc (suc (suc zero))))))))))) l = p11
each_of_sixteen P p0 p1 p2 p3 p4 p5 p6 p7 p8 p9 p10 p11 p12 p13 p14 p15 (suc (suc (suc (suc (suc (suc (suc (suc (suc (suc (suc (suc zero)))))))))))) l = p12
each_of_sixteen P p0 p1 p2 p3 p4 p5 p6 p7 p8 p9 p10 p11 p12 p13 p14 p15 (suc (suc (suc (suc (suc (suc (suc (suc (suc (suc (suc (suc (suc zero)))))))))))))
    l = p13
each_of_sixteen P p0 p1 p2 p3 p4 p5 p6 p7 p8 p9 p10 p11 p12 p13 p14 p15
    (suc (suc (suc (suc (suc (suc (suc (suc (suc (suc (suc (suc (suc (suc zero)))))))))))))) l = p14
each_of_sixteen P p0 p1 p2 p3 p4 p5 p6 p7 p8 p9 p10 p11 p12 p13 p14 p15
    (suc (suc (suc (suc (suc (suc (suc (suc (suc (suc (suc (suc (suc (suc (suc zero))))))))))))))) l = p15
each_of_sixteen P p0 p1 p2 p3 p4 p5 p6 p7 p8 p9 p10 p11 p12 p13 p14 p15
    (suc (suc (suc (suc (suc (suc (suc (suc (suc (suc (suc (suc (suc (suc (suc (suc t)))))))))))))))) l = absurd (omega arith)

pub crossed_below : (c : ℕ) → c < 16 → crossed c < 16
crossed_below = each_of_sixteen (λ c. crossed c < 16) (omega arith) (omega arith) (omega arith) (omega arith) (omega arith) (omega arith) (omega arith)
    (omega arith) (omega arith) (omega arith) (omega arith) (omega arith) (omega arith) (omega arith) (omega arith) (omega arith)

pub crossed_twice : (c : ℕ) → c < 16 → crossed (crossed c) ≡ c
crossed_twice = each_of_sixteen (λ c. crossed (crossed c) ≡ c) refl refl refl refl refl refl refl refl refl refl refl refl refl refl refl refl

-- word i of 16 numbers in lanes of 32, twice
abbrev word_of : List ℤ → ℕ → ℕ
word_of xs i = get_or (map (of_z w32) xs ++ map (of_z w32) xs) i 0

-- these numbers in this order, cut to 16 bits
abbrev pub crossing : List ℤ → List ℤ
crossing xs = by_index 16 (λ i. to_z w16 (of_z w16 (to_z w32 (word_of xs (crossed i)))))

module _ (xs : List ℤ) (value : ℕ → ℤ) (count : length xs ≡ 16) (are : (i : ℕ) → i < 16 → entry xs i ≡ value i)
    (small : (i : ℕ) → i < 16 → FitsSigned w16 (value i)) where
  lane_is : (i : ℕ) → i < 16 → to_z w32 (word_of xs i) ≡ value i
  lane_is i h =
      ap (to_z w32) (get_or_append_left (map (of_z w32) xs) (map (of_z w32) xs) 0 i (omega (arith, count, h, length-map xs (of_z w32))))
      ∙ wide_lane 16 xs value are small i h

  -- each fits 16 bits
  pub lane_fits : (i : ℕ) → i < 16 → FitsSigned w16 (to_z w32 (word_of xs i))
  lane_fits i h = subst (λ (z : ℤ). FitsSigned w16 z) (sym (lane_is i h)) (small i h)

  -- and is the same number there
  pub crossing_is : (i : ℕ) → i < 16 → entry (crossing xs) i ≡ value (crossed i)
  crossing_is i h =
      let o = crossed_below i h in
      get_or-by_index 16 (λ j. to_z w16 (of_z w16 (to_z w32 (word_of xs (crossed j))))) i (pos 0) h
      ∙ ap (λ z. to_z w16 (of_z w16 z)) (lane_is (crossed i) o) ∙ to_z-of_z w16 _ (small (crossed i) o)
