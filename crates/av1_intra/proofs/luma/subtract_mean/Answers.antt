use Rattle.std.proofs.Common.{ℕ, ◌≡◌, ◌+◌, ◌/◌, ◌<◌, arith, ap, ◌∙◌, sym, length, get_or, map, sum, List, ℤ, pos, ◌-ℤ◌, ◌≤ℤ◌, unsigned_abs, to_z, of_z, w16}
use Rattle.std.proofs.lemmas.Int.{ints}
use Rattle.std.proofs.lemmas.List.{length-map, get_or_default}
use Rattle.av1_frame.proofs.Paint.{paint_row_step}
use Rattle.av1_intra.specs.Dc.{mean}
use Rattle.av1_intra.proofs.Means.{mean_of_one, mean_fits}
use Rattle.av1_intra.proofs.LumaBlocks.{sum_within, entry_ahead}
use Rattle.av1_intra.proofs.luma.subtract_mean.Goals as goal

-- the mean of entries from 0 to 32760
mean_small : (xs : List ℤ) (t : ℕ) → 0 < length xs → t ≡ sum (map unsigned_abs xs) →
    ((k : ℕ) → k < length xs → (pos 0 ≤ℤ get_or xs k (pos 0)) × (get_or xs k (pos 0) ≤ℤ pos 32760)) → (t + length xs / 2) / length xs < 32761
mean_small xs t h e w =
    let s = sum_within xs (λ k l. let r = w k l in omega (arith, ints, r.0, r.1)) in
    mean_fits t (length xs) 32761 h (omega (arith, e, s))

pub overflow_cast-mean : goal.overflow_cast-mean
overflow_cast-mean c =
    let m = mean_small c.args.ac.now c.total.result c.requires.some c.total.ensures.value c.requires.within in omega (arith, ints, m)

pub overflow_sub-ac : goal.overflow_sub-ac
overflow_sub-ac c =
    let m = mean_small c.args.ac.now c.total.result c.requires.some c.total.ensures.value c.requires.within in
    let k = c.loop-k.k in
    let e = entry_ahead k k _ c.args.ac.now c.loop-k.ac (pos 0) c.loop-k.invariant (omega arith) (omega arith) in
    let r = c.requires.within k (omega arith) in
    omega (arith, ints, m, e, r.0, r.1)

-- a word holds the difference
taken : (x : ℤ) (m : ℕ) → pos 0 ≤ℤ x → x ≤ℤ pos 32760 → m < 32761 → to_z w16 (of_z w16 (to_z w16 (of_z w16 x) -ℤ to_z w16 m)) ≡ x -ℤ pos m
taken x m a b h = omega (arith, ints)

pub loop-k-preserved : goal.loop-k-preserved
loop-k-preserved c =
    let xs = c.args.ac.now in
    let m = mean_small xs c.total.result c.requires.some c.total.ensures.value c.requires.within in
    let k = c.loop-k.k in
    let x = get_or c.loop-k.ac k (pos 0) in
    let e : x ≡ get_or xs k (pos 0) = entry_ahead k k _ xs c.loop-k.ac (pos 0) c.loop-k.invariant (omega arith) (omega arith) in
    let r = c.requires.within k (omega arith) in
    let low : pos 0 ≤ℤ x = omega (arith, ints, e, r.0) in
    let high : x ≤ℤ pos 32760 = omega (arith, ints, e, r.1) in
    let n : (c.total.result + length xs / 2) / length xs ≡ mean (map unsigned_abs xs) =
    mean_of_one (map unsigned_abs xs) (length xs) c.total.result (sym (length-map xs unsigned_abs)) c.total.ensures.value in
    paint_row_step k _ xs c.loop-k.ac x _ c.loop-k.invariant (omega arith) (get_or_default c.loop-k.ac k (pos 0) x (omega arith))
    (taken x _ low high m ∙ ap (λ n. x -ℤ pos n) n)
