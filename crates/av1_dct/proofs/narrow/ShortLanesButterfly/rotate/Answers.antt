use Rattle.std.proofs.Common.{rules, arith, map, of_z, w16}
use Rattle.std.proofs.lemmas.List.{length-map}
use Rattle.av1_dct.specs.Word.{lane_of_short}
use Rattle.av1_dct.proofs.Shorts.{Words, lane_turned}
use Rattle.av1_dct.proofs.narrow.ShortLanesButterfly.rotate.Goals as goal

pub returns : goal.returns
unfolding lane_of_short
returns c =
    let bx : Words w16 8 (map (of_z w16) c.args.a.lanes) = record { count = omega (arith, length-map c.args.a.lanes (of_z w16)); fit = search rules } in
    let by : Words w16 8 (map (of_z w16) c.args.b.lanes) = record { count = omega (arith, length-map c.args.b.lanes (of_z w16)); fit = search rules } in
    lane_turned c.args.w0 c.args.w1 _ _ c.weigh.result c.weigh-2.result c.ranges.w0 c.ranges.w1 bx by c.weigh.ensures c.weigh-2.ensures
