use Rattle.std.proofs.Common.{arith, ◌≡◌, ◌∙◌, ap, pos, ◌-ℤ◌, neg_ℤ, to_z, of_z, w64}
use Rattle.std.specs.Int.{int_min}
use Rattle.std.proofs.lemmas.Int.{ints}
use Rattle.av1_frame.proofs.math.within_pads.Goals as goal

pub returns : goal.returns
returns c =
    let low : to_z w64 (of_z w64 (pos 0 -ℤ to_z w64 c.args.pad)) ≡ neg_ℤ (pos c.args.pad) = omega (arith, ints) in
    let side : to_z w64 c.args.side ≡ pos c.args.side = omega (arith, ints) in
    let at : to_z w64 (of_z w64 c.args.at) ≡ c.args.at = omega (arith, ints) in
    let m : to_z w64 (of_z w64 c.max.result) ≡ c.max.result = omega (arith, ints) in
    let n : to_z w64 (of_z w64 c.min.result) ≡ c.min.result = omega (arith, ints) in
    let h = rw (at, low) at c.max.ensures.value in
    n ∙ (rw (m, side) at c.min.ensures.value) ∙ ap (λ z. int_min z (pos c.args.side)) h
