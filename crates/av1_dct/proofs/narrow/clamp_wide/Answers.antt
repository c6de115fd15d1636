use Rattle.std.proofs.Common.{rules, arith, map, of_z, w16, w32, FitsSigned}
use Rattle.std.proofs.lemmas.List.{length-map}
use Rattle.av1_dct.specs.Word.{lane_of_vector}
use Rattle.av1_dct.proofs.Shorts.{Words, cut_fits, lane_clamped}
use Rattle.av1_dct.proofs.narrow.clamp_wide.Goals as goal

pub overflow_cast-cut : goal.overflow_cast-cut
overflow_cast-cut c =
    let b : Words w32 8 (map (of_z w32) c.args.v) = record { count = omega (arith, length-map c.args.v (of_z w32)); fit = search rules } in
    cut_fits _ b

pub returns : goal.returns
unfolding lane_of_vector
returns c =
    let b : Words w32 8 (map (of_z w32) c.args.v) = record { count = omega (arith, length-map c.args.v (of_z w32)); fit = search rules } in
    let f0 : FitsSigned w16 c.short_limits-top.result.0 = search rules in
    let f1 : FitsSigned w16 c.short_limits-top.result.1 = search rules in
    lane_clamped c.args.range c.short_limits-top.result.0 c.short_limits-top.result.1 _ c.short_limits-top.ensures.top c.short_limits-top.ensures.low f0 f1 b
