use Rattle.std.proofs.Common.{map, reverse, arith}
use Rattle.std.proofs.lemmas.Bool.Decides.{nat_tests}
use Rattle.av1_intra.proofs.Derivatives.{past_90, past_180}
use Rattle.av1_intra.proofs.directional.pred_directional_to.Goals as goal

pub directional_between-requires-clause-low : goal.directional_between-requires-clause-low
directional_between-requires-clause-low g c = past_90 _ c.requires.angle (omega arith)

pub directional_between-requires-clause-left_long :
    goal.directional_between-requires-clause-left_long
directional_between-requires-clause-left_long g c =
    let l = c.requires.left_long (past_90 _ c.requires.angle (omega arith)) in grind (arith, nat_tests)

pub directional_past_180-requires-clause-range : goal.directional_past_180-requires-clause-range
directional_past_180-requires-clause-range g c = past_180 _ c.requires.angle (omega arith)

pub directional_past_180-requires-clause-long : goal.directional_past_180-requires-clause-long
directional_past_180-requires-clause-long g c =
    let h = past_180 _ c.requires.angle (omega arith) in
    let l = c.requires.left_long (omega arith) in grind (arith, nat_tests)

pub returns-then-block-lt90 : goal.returns-then-block-lt90
returns-then-block-lt90 g c =
    c.directional_below_90.ensures (reverse (map g.T.Pixel.num c.args.left.now))

pub returns-else-block-lt180 : goal.returns-else-block-lt180
returns-else-block-lt180 g c =
    c.directional_past_180.ensures (map g.T.Pixel.num c.args.above.now)
