-- What the transforms give: numbers of 24 bits, where their inputs have 20.
use Rattle.std.proofs.Common.{ℕ, zero, suc, ◌≤◌, ◌-◌, ◌*◌, ◌%◌, ◌^◌, ◌==◌, ℤ, pos, negsuc, ◌+ℤ◌, ◌-ℤ◌, ◌*ℤ◌, neg_ℤ, ◌≤ℤ◌, ◌<ℤ◌, List, arith, w32, FitsSigned}
use Rattle.std.specs.Int.{int_shr}
use Rattle.std.proofs.lemmas.Int.{ints, SFits-int_wrap}
use Rattle.av1_dct.specs.Arithmetic.{at, FitsBits, AllFit, round12}
use Rattle.av1_lists.specs.Lists.{by_index}
use Rattle.av1_dct.proofs.Fits.{by_index-fits, cond-fits, fits_wider}
use Rattle.av1_dct.proofs.Halves.{cosine-fits}
use Rattle.av1_itx.specs.declared.kinds.TxType1D.{TxType1D}
use Rattle.av1_itx.specs.declared.kinds.TxType1D.TheVariants.{DCT, ADST, FLIPADST, IDENTITY, EXACT_IDENTITY, WHT}
use Rattle.av1_itx.specs.Adst.{adst, adst_with, adst4, adst4_with, weighted, weighted_with, adst_start, adst_in, adst_out, adst_out_with, adst_rounds}
use Rattle.av1_itx.specs.Adst.{adst_rounds_with, adst_more, adst_more_with}
use Rattle.av1_itx.specs.Identity.{exact, scaled, scaled_with, identity_with}
use Rattle.av1_itx.specs.Walsh.{walsh, walsh_with}
use Rattle.av1_itx.specs.Networks.{network, network_with}
use Rattle.av1_itx.proofs.Widths.{each_of_four, four_fit, reverse-fits}
use Rattle.av1_itx.proofs.Steps.{start-fits, round-fits}

shr12-fits : (z : ℤ) → FitsSigned w32 z → FitsBits 24 (int_shr z 12)
shr12-fits (pos a) h = record { low = grind (arith, ints, h.sfits); high = grind (arith, ints, h.sfits) }
shr12-fits (negsuc a) h = record { low = grind (arith, ints, h.sfits); high = grind (arith, ints, h.sfits) }

pub round12-fits : (s : ℤ) → FitsBits 24 (round12 s)
round12-fits s = shr12-fits _ (SFits-int_wrap w32 (s +ℤ pos 2048))

scaled-fits : (k : ℕ) (z : ℤ) → FitsBits 20 z → FitsBits 24 (scaled k z)
unfolding scaled_with
scaled-fits zero z f = record { low = omega (arith, ints, f.low, f.high); high = omega (arith, ints, f.low, f.high) }
scaled-fits (suc zero) z f = round12-fits (pos 5793 *ℤ z)
scaled-fits (suc (suc zero)) z f = record { low = omega (arith, ints, f.low, f.high); high = omega (arith, ints, f.low, f.high) }
scaled-fits (suc (suc (suc zero))) z f = round12-fits (pos 11586 *ℤ z)
scaled-fits (suc (suc (suc (suc k)))) z f = record { low = omega (arith, ints, f.low, f.high); high = omega (arith, ints, f.low, f.high) }

shifted-fits : (z : ℤ) → FitsBits 36 z → FitsBits 24 (int_shr z 12)
shifted-fits (pos a) h = record { low = omega (arith, ints); high = omega (arith, ints, h.high) }
shifted-fits (negsuc a) h = record { low = omega (arith, ints, h.low); high = omega (arith, ints) }

-- and of a scale that never wraps
exactly-fits : (k : ℕ) (z : ℤ) → FitsBits 20 z → FitsBits 24 (scaled_with exact k z)
unfolding scaled_with
exactly-fits zero z f = record { low = omega (arith, ints, f.low, f.high); high = omega (arith, ints, f.low, f.high) }
exactly-fits (suc zero) z f =
    shifted-fits (pos 5793 *ℤ z +ℤ pos 2048) (record { low = omega (arith, ints, f.low, f.high); high = omega (arith, ints, f.low, f.high) })
exactly-fits (suc (suc zero)) z f = record { low = omega (arith, ints, f.low, f.high); high = omega (arith, ints, f.low, f.high) }
exactly-fits (suc (suc (suc zero))) z f =
    shifted-fits (pos 11586 *ℤ z +ℤ pos 2048) (record { low = omega (arith, ints, f.low, f.high); high = omega (arith, ints, f.low, f.high) })
exactly-fits (suc (suc (suc (suc k)))) z f = record { low = omega (arith, ints, f.low, f.high); high = omega (arith, ints, f.low, f.high) }

weighted-fits : (a b c d : ℤ) (x : List ℤ) → FitsBits 24 (weighted a b c d x)
unfolding weighted_with
weighted-fits a b c d x = round12-fits (a *ℤ at x 0 +ℤ b *ℤ at x 1 +ℤ c *ℤ at x 2 +ℤ d *ℤ at x 3)

adst4-fits : (x : List ℤ) → AllFit 24 (adst4 x)
unfolding adst4_with
adst4-fits x = four_fit 24 _ _ _ _ (weighted-fits _ _ _ _ x) (weighted-fits _ _ _ _ x) (round12-fits (pos 3344 *ℤ (at x 0 -ℤ at x 2 +ℤ at x 3)))
    (weighted-fits _ _ _ _ x)

pub half-fits : (z : ℤ) → FitsBits 22 z → FitsBits 22 (int_shr z 1)
half-fits (pos a) f = record { low = omega (arith, ints); high = omega (arith, ints, f.high) }
half-fits (negsuc a) f = record { low = omega (arith, ints, f.low); high = omega (arith, ints) }

-- a number from -p to p - 1
pub record Within (p : ℕ) (z : ℤ) : Type 0 where
  pub low : neg_ℤ (pos p) ≤ℤ z
  pub high : z <ℤ pos p

halved : (z : ℤ) → ((pos 2 *ℤ int_shr z 1) ≤ℤ z) × (z ≤ℤ (pos 2 *ℤ int_shr z 1 +ℤ pos 1))
halved (pos a) = (omega (arith, ints), omega (arith, ints))
halved (negsuc a) = (omega (arith, ints), omega (arith, ints))

-- the Walsh-Hadamard transform gives twice as much at most
pub walsh_within : (p : ℕ) (x : List ℤ) → 1 ≤ p → ((i : ℕ) → Within p (at x i)) → (i : ℕ) → Within (2 * p) (at (walsh x) i)
unfolding walsh_with
walsh_within p x some f =
    let a0 = f 0 in
    let a1 = f 1 in
    let a2 = f 2 in
    let a3 = f 3 in
    let h = halved (at x 0 +ℤ at x 1 -ℤ (at x 2 -ℤ at x 3)) in
    each_of_four (Within (2 * p)) _ _ _ _ (record { low = omega (arith, ints); high = omega (arith, ints) })
    (record {
      low = omega (arith, ints, h.0, h.1, a0.low, a0.high, a1.low, a1.high, a2.low, a2.high, a3.low, a3.high);
      high = omega (arith, ints, h.0, h.1, a0.low, a0.high, a1.low, a1.high, a2.low, a2.high, a3.low, a3.high);
    })
    (record {
      low = omega (arith, ints, h.0, h.1, a0.low, a0.high, a1.low, a1.high, a2.low, a2.high, a3.low, a3.high);
      high = omega (arith, ints, h.0, h.1, a0.low, a0.high, a1.low, a1.high, a2.low, a2.high, a3.low, a3.high);
    })
    (record {
      low = omega (arith, ints, h.0, h.1, a0.low, a0.high, a1.low, a1.high, a2.low, a2.high, a3.low, a3.high);
      high = omega (arith, ints, h.0, h.1, a0.low, a0.high, a1.low, a1.high, a2.low, a2.high, a3.low, a3.high);
    })
    (record {
      low = omega (arith, ints, h.0, h.1, a0.low, a0.high, a1.low, a1.high, a2.low, a2.high, a3.low, a3.high);
      high = omega (arith, ints, h.0, h.1, a0.low, a0.high, a1.low, a1.high, a2.low, a2.high, a3.low, a3.high);
    })

walsh-fits : (x : List ℤ) → AllFit 20 x → AllFit 24 (walsh x)
walsh-fits x f = λ i.
    let w = walsh_within 524288 x (omega arith) (λ k. record { low = (f k).low; high = (f k).high }) i in
    record { low = omega (arith, ints, w.low); high = omega (arith, ints, w.high) }

pub rounds-fit : (range k c : ℕ) (v : List ℤ) → range ≤ 20 → AllFit 20 v → AllFit 20 (adst_rounds range k c v)
unfolding adst_rounds_with
rounds-fit range k zero v h f = f
rounds-fit range k (suc c) v h f = round-fits range (2 ^ (k - c)) (2 * 2 ^ k) (2 * 2 ^ k) _ h

negated-fits : (z : ℤ) → FitsBits 20 z → FitsBits 24 (pos 0 -ℤ z)
negated-fits z f = record { low = omega (arith, ints, f.low, f.high); high = omega (arith, ints, f.low, f.high) }

out-fits : (k : ℕ) (v : List ℤ) (i : ℕ) → AllFit 20 v → FitsBits 24 (adst_out k v i)
unfolding adst_out_with
out-fits k v i f = cond-fits {w = 24} (i % 2 == 0) _ _ (fits_wider 20 24 _ (omega arith) (f _)) (negated-fits _ (f _))

more-fits : (range k : ℕ) (x : List ℤ) → range ≤ 20 → AllFit 24 (adst_more range k x)
unfolding adst_more_with
more-fits range k x h =
    let n = 2 * 2 ^ k in
    let v = by_index n (adst_start n (by_index n (adst_in n x))) in
    by_index-fits {w = 24} n (adst_out k (adst_rounds range k k v)) (λ i. out-fits k _ i (rounds-fit range k k v h (start-fits n n _)))

adst-fits : (range k : ℕ) (x : List ℤ) → range ≤ 20 → AllFit 24 (adst range k x)
unfolding adst_with
adst-fits range zero x h = more-fits range zero x h
adst-fits range (suc zero) x h = adst4-fits x
adst-fits range (suc (suc k)) x h = more-fits range (suc (suc k)) x h

pub network-fits : (kind : TxType1D) (range k : ℕ) (x : List ℤ) → range ≤ 20 → AllFit 20 x → AllFit 24 (network kind range k x)
unfolding network_with identity_with
network-fits DCT range k x h f = λ i. fits_wider 20 24 _ (omega arith) (cosine-fits range k x h i)
network-fits ADST range k x h f = adst-fits range k x h
network-fits FLIPADST range k x h f = reverse-fits 24 _ (adst-fits range k x h)
network-fits IDENTITY range k x h f = by_index-fits {w = 24} _ _ (λ i. scaled-fits k _ (f i))
network-fits EXACT_IDENTITY range k x h f = by_index-fits {w = 24} _ _ (λ i. exactly-fits k _ (f i))
network-fits WHT range k x h f = walsh-fits x f
