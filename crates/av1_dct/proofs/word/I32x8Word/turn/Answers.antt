use Rattle.std.proofs.Common.{rules, arith, of_z, w32, map}
use Rattle.std.proofs.lemmas.List.{length-map}
use Rattle.av1_dct.specs.Word.{lane_of_vector}
use Rattle.av1_dct.proofs.Lanes.{Bits}
use Rattle.av1_dct.proofs.LaneOperations.{lane_turn}
use Rattle.av1_dct.proofs.word.I32x8Word.turn.Goals as goal

pub returns : goal.returns
unfolding lane_of_vector
returns c = λ i h.
    let bx : Bits 8 (map (of_z w32) c.args.a) = record { count = omega (arith, length-map c.args.a (of_z w32)); fit = search rules } in
    let by : Bits 8 (map (of_z w32) c.args.b) = record { count = omega (arith, length-map c.args.b (of_z w32)); fit = search rules } in
    lane_turn 8 c.args.w0 c.args.w1 _ _ i h c.ranges.w0 c.ranges.w1 bx by
