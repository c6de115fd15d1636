use Rattle.std.proofs.Common.{rules, arith, of_z, w32, map, FitsSigned}
use Rattle.std.proofs.lemmas.List.{length-map}
use Rattle.av1_dct.specs.Word.{lane_of_vector}
use Rattle.av1_dct.proofs.Lanes.{Bits}
use Rattle.av1_dct.proofs.LaneOperations.{lane_clamp}
use Rattle.av1_dct.proofs.word.I32x8Word.clamp_to.Goals as goal

pub returns : goal.returns
unfolding lane_of_vector
returns c = λ i h.
    let bx : Bits 8 (map (of_z w32) c.args.self) = record { count = omega (arith, length-map c.args.self (of_z w32)); fit = search rules } in
    let f0 : FitsSigned w32 c.limits-top.result.0 = search rules in
    let f1 : FitsSigned w32 c.limits-top.result.1 = search rules in
    lane_clamp 8 c.args.range c.limits-top.result.0 c.limits-top.result.1 _ i h c.limits-top.ensures.top c.limits-top.ensures.low f0 f1 bx
