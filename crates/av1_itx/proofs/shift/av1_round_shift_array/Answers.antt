use Rattle.std.proofs.Common.{arith, ◌≡◌, ◌<ℤ◌, ◌∙◌, ap, sym, subst, pos, take, List, ℤ, All, unsigned_abs, w8}
use Rattle.std.proofs.lemmas.Int.{ints, to_z-of_z}
use Rattle.std.proofs.lemmas.List.{take_min}
use Rattle.av1_itx.specs.Shift.{SumFits}
use Rattle.av1_itx.proofs.Shifts.{not_shifted, sum_fits}
use Rattle.av1_itx.proofs.shift.av1_round_shift_array.Goals as goal

pub returns-then-bit-eq0 : goal.returns-then-bit-eq0
returns-then-bit-eq0 c = not_shifted c.args.bit c.args.size c.args.arr.now (omega (arith, ints))

pub round_each-requires-clause-fits : goal.round_each-requires-clause-fits
round_each-requires-clause-fits c =
    let P : List ℤ → Type 0 = λ xs. All (SumFits c.args.bit) xs in
    let same : take c.min-size.result c.args.arr.now ≡ take c.args.size c.args.arr.now = ap (λ n. take n c.args.arr.now) c.min-size.ensures
    ∙ take_min c.args.size c.args.arr.now in
    let fits = subst P (sym same) c.requires.fits in
    let f = c.ranges.bit in
    let amount : c.unsigned_abs-amount.result ≡ unsigned_abs c.args.bit = c.unsigned_abs-amount.ensures.value ∙ ap unsigned_abs (to_z-of_z w8 _ f) in
    let positive : pos 0 <ℤ c.args.bit = omega (arith, ints) in
    λ k d h. sum_fits c.args.bit _ _ amount positive (fits k d h)
