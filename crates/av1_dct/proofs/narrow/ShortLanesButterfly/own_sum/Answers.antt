use Rattle.std.proofs.Common.{rules, arith, map, of_z, w16, ◌+ℤ◌}
use Rattle.std.proofs.lemmas.List.{length-map}
use Rattle.av1_dct.specs.Word.{lane_of_short}
use Rattle.av1_dct.proofs.Shorts.{Words, clamped_told, lane_wide, plus32, word_sum}
use Rattle.av1_dct.proofs.narrow.ShortLanesButterfly.own_sum.Goals as goal

pub returns : goal.returns
unfolding lane_of_short
returns c =
    let bx : Words w16 8 (map (of_z w16) c.args.self.lanes) = record { count = omega (arith, length-map c.args.self.lanes (of_z w16)); fit = search rules } in
    let by : Words w16 8 (map (of_z w16) c.args.o.lanes) = record { count = omega (arith, length-map c.args.o.lanes (of_z w16)); fit = search rules } in
    λ i h. clamped_told c.clamp_wide.result c.args.range i _ _ c.requires.within (c.clamp_wide.ensures i h)
    (lane_wide plus32 (λ x y. x +ℤ y) word_sum _ _ bx by i h)
