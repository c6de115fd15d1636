use Rattle.std.proofs.Common.{rules, arith, map, of_z, w16}
use Rattle.std.proofs.lemmas.List.{length-map}
use Rattle.av1_dct.specs.Word.{lane_of_short}
use Rattle.av1_dct.proofs.Shorts.{Words, lane_widened}
use Rattle.av1_dct.proofs.narrow.ShortLanesButterfly.widen.Goals as goal

pub returns : goal.returns
unfolding lane_of_short
returns c =
    let b : Words w16 8 (map (of_z w16) c.args.self.lanes) = record { count = omega (arith, length-map c.args.self.lanes (of_z w16)); fit = search rules } in
    lane_widened _ b
