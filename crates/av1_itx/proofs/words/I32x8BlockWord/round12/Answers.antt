use Rattle.std.proofs.Common.{rules, arith, of_z, w32, map}
use Rattle.std.proofs.lemmas.List.{length-map}
use Rattle.av1_dct.specs.Word.{lane_of_vector}
use Rattle.av1_dct.proofs.Lanes.{Bits}
use Rattle.av1_dct.proofs.LaneOperations.{lane_round}
use Rattle.av1_itx.proofs.words.I32x8BlockWord.round12.Goals as goal

pub returns : goal.returns
unfolding lane_of_vector
returns c = λ i h.
    let bx : Bits 8 (map (of_z w32) c.args.self) = record { count = omega (arith, length-map c.args.self (of_z w32)); fit = search rules } in
    lane_round 8 _ i h bx
