use Rattle.std.proofs.Common.{ℕ, rules, ap, pos, ◌-◌, ◌*ℤ◌, ◌+ℤ◌, ◌∙◌, ◌^◌, w16, FitsSigned}
use Rattle.std.proofs.lemmas.Int.{to_z-of_z}
use Rattle.av1_inter.specs.Motion.{bias, intermediate_bits}
use Rattle.av1_inter.proofs.HeldSums.{average_is}
use Rattle.av1_inter.proofs.average.average_number.Goals as goal

pub returns : goal.returns
returns g c =
    let s : FitsSigned w16 c.held_sum.result = search rules in
    let k : FitsSigned w16 c.rise.result = search rules in
    let v : FitsSigned w16 c.raised-sum.result = search rules in
    let x : FitsSigned w16 c.max.result = search rules in
    let t : FitsSigned w16 c.greatest.result = search rules in
    let r : FitsSigned w16 c.min.result = search rules in
    let same = c.depth_of-known.ensures.value in
    to_z-of_z w16 _ r
    ∙ average_is c.args.bit_depth c.intermediate_bits.result c.args.first c.args.second c.rise.result c.greatest.result c.held_sum.result
    c.raised-sum.result c.max.result c.min.result _ _ _ _ _ _ c.requires.depths c.intermediate_bits.ensures.value
    (c.rise.ensures.value ∙ ap (λ (d : ℕ). pos (2 ^ intermediate_bits d) +ℤ pos 2 *ℤ bias d) same)
    (c.greatest.ensures ∙ ap (λ (d : ℕ). pos (2 ^ d - 1)) same) c.held_sum.ensures c.raised-sum.ensures c.max.ensures.value c.min.ensures.value
    (to_z-of_z w16 _ c.ranges.first) (to_z-of_z w16 _ c.ranges.second) (to_z-of_z w16 _ s) (to_z-of_z w16 _ k) (to_z-of_z w16 _ x) (to_z-of_z w16 _ t) v
