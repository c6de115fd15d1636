-- How great the values between the filters are, and that what is prepared fits 16 bits.
use Rattle.std.proofs.Common.{ℕ, zero, suc, ◌+◌, ◌*◌, ◌^◌, ◌<◌, ◌≤◌, sym, subst, arith, ℤ, pos, negsuc, ◌+ℤ◌, ◌-ℤ◌, ◌≤ℤ◌, neg_ℤ, List, inl}
use Rattle.std.proofs.Common.{inr, w16, FitsSigned}
use Rattle.std.specs.Int.Signed.{shr_z}
use Rattle.std.proofs.lemmas.Int.{ints}
use Rattle.av1_frame.specs.Arithmetic.{round_shift}
use Rattle.av1_inter.specs.Motion.{bias, down_intermediate, intermediate_at, weighted}
use Rattle.av1_blocks.specs.Depths.{IsDepth}
use Rattle.av1_inter.specs.Scaffolding.{Between, IsFilter}
use Rattle.av1_inter.proofs.Sums.{filter_between}

wider : (a b c d : ℕ) (z : ℤ) → a ≤ c → b ≤ d → Between a b z → Between c d z
wider a b c d z l h s = record { low = omega (arith, ints, s.low); high = omega (arith, ints, s.high) }

shr8 : (z : ℤ) (a b : ℕ) → Between (a * 8) (b * 8 + 7) z → Between a b (shr_z z 8)
shr8 (pos n) a b h = record { low = omega (arith, ints); high = omega (arith, ints, h.high) }
shr8 (negsuc n) a b h = record { low = omega (arith, ints, h.low); high = omega (arith, ints) }

shr32 : (z : ℤ) (a b : ℕ) → Between (a * 32) (b * 32 + 31) z → Between a b (shr_z z 32)
shr32 (pos n) a b h = record { low = omega (arith, ints); high = omega (arith, ints, h.high) }
shr32 (negsuc n) a b h = record { low = omega (arith, ints, h.low); high = omega (arith, ints) }

shr128 : (z : ℤ) (a b : ℕ) → Between (a * 128) (b * 128 + 127) z → Between a b (shr_z z 128)
shr128 (pos n) a b h = record { low = omega (arith, ints); high = omega (arith, ints, h.high) }
shr128 (negsuc n) a b h = record { low = omega (arith, ints, h.low); high = omega (arith, ints) }

round3 : (z : ℤ) (a b : ℕ) → Between (a * 8) (b * 8) z → Between a b (round_shift z 3)
round3 z a b h = shr8 (z +ℤ pos 4) a b (record { low = omega (arith, ints, h.low); high = omega (arith, ints, h.high) })

round5 : (z : ℤ) (a b : ℕ) → Between (a * 32) (b * 32) z → Between a b (round_shift z 5)
round5 z a b h = shr32 (z +ℤ pos 16) a b (record { low = omega (arith, ints, h.low); high = omega (arith, ints, h.high) })

round7 : (z : ℤ) (a b : ℕ) → Between (a * 128) (b * 128) z → Between a b (round_shift z 7)
round7 z a b h = shr128 (z +ℤ pos 64) a b (record { low = omega (arith, ints, h.low); high = omega (arith, ints, h.high) })

-- samples of a row below a bound
samples_between : (row : ℕ → ℕ) (c n : ℕ) → ((t : ℕ) → t < 8 → row (c + t) < suc n) → (t : ℕ) → t < 8 → Between 0 n (pos (row (c + t)))
samples_between row c n h t l = let s = h t l in record { low = omega (arith, ints); high = omega (arith, ints, s) }

intermediate_8 : (fraction : ℕ) (taps : List ℤ) (row : ℕ → ℕ) (c : ℕ) → IsFilter taps → ((t : ℕ) → t < 8 → row (c + t) < 256) →
    Between 1785 5865 (intermediate_at 8 fraction taps row c)
intermediate_8 zero taps row c f h = let s = h 3 (omega arith) in record { low = omega (arith, ints); high = omega (arith, ints, s) }
intermediate_8 (suc k) taps row c f h = round3 _ 1785 5865 (filter_between taps (λ t. pos (row (c + t))) 0 255 8 f (omega arith) (samples_between row c 255 h))

intermediate_10 : (fraction : ℕ) (taps : List ℤ) (row : ℕ → ℕ) (c : ℕ) → IsFilter taps → ((t : ℕ) → t < 8 → row (c + t) < 1024) →
    Between 7161 23529 (intermediate_at 10 fraction taps row c)
intermediate_10 zero taps row c f h = let s = h 3 (omega arith) in record { low = omega (arith, ints); high = omega (arith, ints, s) }
intermediate_10 (suc k) taps row c f h =
    round3 _ 7161 23529 (filter_between taps (λ t. pos (row (c + t))) 0 1023 8 f (omega arith) (samples_between row c 1023 h))

intermediate_12 : (fraction : ℕ) (taps : List ℤ) (row : ℕ → ℕ) (c : ℕ) → IsFilter taps → ((t : ℕ) → t < 8 → row (c + t) < 4096) →
    Between 7167 23547 (intermediate_at 12 fraction taps row c)
intermediate_12 zero taps row c f h = let s = h 3 (omega arith) in record { low = omega (arith, ints); high = omega (arith, ints, s) }
intermediate_12 (suc k) taps row c f h =
    round5 _ 7167 23547
    (wider _ _ _ _ _ (omega arith) (omega arith) (filter_between taps (λ t. pos (row (c + t))) 0 4095 8 f (omega arith) (samples_between row c 4095 h)))

-- the values of a row in the intermediate bits, at each depth
pub intermediate_between : (depth : ℕ) → IsDepth depth → (fraction : ℕ) (taps : List ℤ) (row : ℕ → ℕ) (c : ℕ) → IsFilter taps →
    ((t : ℕ) → t < 8 → row (c + t) < 2 ^ depth) → Between 7167 23547 (intermediate_at depth fraction taps row c)
intermediate_between depth (inl e) fraction taps row c f h =
    subst (λ (d : ℕ). Between 7167 23547 (intermediate_at d fraction taps row c)) (sym e)
    (wider _ _ _ _ _ (omega arith) (omega arith) (intermediate_8 fraction taps row c f (λ t l. subst (λ (d : ℕ). row (c + t) < 2 ^ d) e (h t l))))
intermediate_between depth (inr (inl e)) fraction taps row c f h =
    subst (λ (d : ℕ). Between 7167 23547 (intermediate_at d fraction taps row c)) (sym e)
    (wider _ _ _ _ _ (omega arith) (omega arith) (intermediate_10 fraction taps row c f (λ t l. subst (λ (d : ℕ). row (c + t) < 2 ^ d) e (h t l))))
intermediate_between depth (inr (inr e)) fraction taps row c f h =
    subst (λ (d : ℕ). Between 7167 23547 (intermediate_at d fraction taps row c)) (sym e)
    (intermediate_12 fraction taps row c f (λ t l. subst (λ (d : ℕ). row (c + t) < 2 ^ d) e (h t l)))

fits_16 : (z : ℤ) → neg_ℤ (pos 32768) ≤ℤ z → z ≤ℤ pos 32767 → FitsSigned w16 z
fits_16 (pos n) l h = record { sfits = omega (arith, ints, h) }
fits_16 (negsuc n) l h = record { sfits = omega (arith, ints, l) }

-- a value less no bias, and less that of the greater depths
unbiased_fits : (z : ℤ) → Between 32768 32767 z → FitsSigned w16 (z -ℤ pos 0)
unbiased_fits z s = fits_16 _ (omega (arith, ints, s.low)) (omega (arith, ints, s.high))

biased_fits : (z : ℤ) → Between 24576 40959 z → FitsSigned w16 (z -ℤ pos 8192)
biased_fits z s = fits_16 _ (omega (arith, ints, s.low)) (omega (arith, ints, s.high))

-- what is prepared of a row that is filtered along itself alone
pub intermediate_fits : (depth : ℕ) → IsDepth depth → (fraction : ℕ) (taps : List ℤ) (row : ℕ → ℕ) (c : ℕ) → IsFilter taps →
    ((t : ℕ) → t < 8 → row (c + t) < 2 ^ depth) → FitsSigned w16 (intermediate_at depth fraction taps row c -ℤ bias depth)
intermediate_fits depth (inl e) fraction taps row c f h =
    subst (λ (d : ℕ). FitsSigned w16 (intermediate_at d fraction taps row c -ℤ bias d)) (sym e)
    (unbiased_fits _
    (wider _ _ _ _ _ (omega arith) (omega arith) (intermediate_8 fraction taps row c f (λ t l. subst (λ (d : ℕ). row (c + t) < 2 ^ d) e (h t l)))))
intermediate_fits depth (inr (inl e)) fraction taps row c f h =
    subst (λ (d : ℕ). FitsSigned w16 (intermediate_at d fraction taps row c -ℤ bias d)) (sym e)
    (biased_fits _
    (wider _ _ _ _ _ (omega arith) (omega arith) (intermediate_10 fraction taps row c f (λ t l. subst (λ (d : ℕ). row (c + t) < 2 ^ d) e (h t l)))))
intermediate_fits depth (inr (inr e)) fraction taps row c f h =
    subst (λ (d : ℕ). FitsSigned w16 (intermediate_at d fraction taps row c -ℤ bias d)) (sym e)
    (biased_fits _
    (wider _ _ _ _ _ (omega arith) (omega arith) (intermediate_12 fraction taps row c f (λ t l. subst (λ (d : ℕ). row (c + t) < 2 ^ d) e (h t l)))))

down_8 : (taps : List ℤ) (value : ℕ → ℤ) → IsFilter taps → ((t : ℕ) → t < 8 → Between 1785 5865 (value t)) →
    FitsSigned w16 (round_shift (weighted taps value) 7 -ℤ pos 0)
down_8 taps value f h =
    unbiased_fits _
    (wider _ _ _ _ _ (omega arith) (omega arith)
    (round7 _ 5132 9212 (wider _ _ _ _ _ (omega arith) (omega arith) (filter_between taps value 1785 5865 8 f (omega arith) h))))

down_more : (taps : List ℤ) (value : ℕ → ℤ) → IsFilter taps → ((t : ℕ) → t < 8 → Between 7167 23547 (value t)) →
    FitsSigned w16 (round_shift (weighted taps value) 7 -ℤ pos 8192)
down_more taps value f h =
    biased_fits _
    (wider _ _ _ _ _ (omega arith) (omega arith)
    (round7 _ 20605 36985 (wider _ _ _ _ _ (omega arith) (omega arith) (filter_between taps value 7167 23547 8 f (omega arith) h))))

-- what is prepared of rows that are filtered down a column too
pub down_fits : (depth : ℕ) → IsDepth depth → (fx : ℕ) (across down : List ℤ) (samples : ℕ → ℕ → ℕ) (r c : ℕ) → IsFilter across → IsFilter down
    → ((x y : ℕ) → x < c + 8 → y < r + 8 → samples x y < 2 ^ depth)
    → FitsSigned w16 (round_shift (down_intermediate depth fx across down samples r c) 7 -ℤ bias depth)
down_fits depth (inl e) fx across down samples r c f g h =
    subst (λ (d : ℕ). FitsSigned w16 (round_shift (down_intermediate d fx across down samples r c) 7 -ℤ bias d)) (sym e)
    (down_8 down _ g
    (λ t l. intermediate_8 fx across (λ x. samples x (r + t)) c f
    (λ i m. subst (λ (d : ℕ). samples (c + i) (r + t) < 2 ^ d) e (h (c + i) (r + t) (omega arith) (omega arith)))))
down_fits depth (inr (inl e)) fx across down samples r c f g h =
    subst (λ (d : ℕ). FitsSigned w16 (round_shift (down_intermediate d fx across down samples r c) 7 -ℤ bias d)) (sym e)
    (down_more down _ g (λ t l. wider _ _ _ _ _ (omega arith) (omega arith) (intermediate_10 fx across (λ x. samples x (r + t)) c f
    (λ i m. subst (λ (d : ℕ). samples (c + i) (r + t) < 2 ^ d) e (h (c + i) (r + t) (omega arith) (omega arith))))))
down_fits depth (inr (inr e)) fx across down samples r c f g h =
    subst (λ (d : ℕ). FitsSigned w16 (round_shift (down_intermediate d fx across down samples r c) 7 -ℤ bias d)) (sym e)
    (down_more down _ g
    (λ t l. intermediate_12 fx across (λ x. samples x (r + t)) c f
    (λ i m. subst (λ (d : ℕ). samples (c + i) (r + t) < 2 ^ d) e (h (c + i) (r + t) (omega arith) (omega arith)))))
