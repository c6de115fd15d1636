use Rattle.std.proofs.Common.{rules, arith, map, of_z, w32, ◌-ℤ◌}
use Rattle.std.proofs.lemmas.List.{length-map}
use Rattle.av1_dct.specs.Word.{lane_of_pair, lane_of_vector}
use Rattle.av1_dct.proofs.Shorts.{Words, clamped_told, lane_joined, minus32, word_difference}
use Rattle.av1_dct.proofs.narrow.ShortLanesButterfly.difference.Goals as goal

pub returns : goal.returns
unfolding lane_of_pair lane_of_vector
returns c =
    let bxl : Words w32 4 (map (of_z w32) c.args.x.low) = record { count = omega (arith, length-map c.args.x.low (of_z w32)); fit = search rules } in
    let bxh : Words w32 4 (map (of_z w32) c.args.x.high) = record { count = omega (arith, length-map c.args.x.high (of_z w32)); fit = search rules } in
    let byl : Words w32 4 (map (of_z w32) c.args.y.low) = record { count = omega (arith, length-map c.args.y.low (of_z w32)); fit = search rules } in
    let byh : Words w32 4 (map (of_z w32) c.args.y.high) = record { count = omega (arith, length-map c.args.y.high (of_z w32)); fit = search rules } in
    λ i h. clamped_told c.clamp_wide.result c.args.range i _ _ c.requires.within (c.clamp_wide.ensures i h)
    (lane_joined minus32 (λ x y. x -ℤ y) word_difference _ _ _ _ bxl bxh byl byh c.requires.first c.requires.second i h)
