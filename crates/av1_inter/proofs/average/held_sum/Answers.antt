use Rattle.std.proofs.Common.{rules, ap, ◌∙◌, pos, ◌+ℤ◌, w32, FitsSigned}
use Rattle.std.specs.Int.{int_min}
use Rattle.std.proofs.lemmas.Int.{to_z-of_z}
use Rattle.av1_inter.proofs.HeldSums.{held_is, sum_of_two}
use Rattle.av1_inter.proofs.average.held_sum.Goals as goal

pub returns : goal.returns
returns c =
    let m : FitsSigned w32 c.max.result = search rules in
    held_is (c.args.first +ℤ c.args.second) _ _ _ c.max.ensures.value (c.min.ensures.value ∙ ap (λ u. int_min u (pos 32767)) (to_z-of_z w32 _ m))
    (sum_of_two c.args.first c.args.second _ _ c.from.ensures c.from-2.ensures c.ranges.first c.ranges.second)
