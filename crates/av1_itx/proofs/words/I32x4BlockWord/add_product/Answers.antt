use Rattle.std.proofs.Common.{rules, arith, of_z, w32, map}
use Rattle.std.proofs.lemmas.List.{length-map}
use Rattle.av1_dct.specs.Word.{lane_of_vector}
use Rattle.av1_dct.proofs.Lanes.{Bits}
use Rattle.av1_dct.proofs.LaneOperations.{lane_product}
use Rattle.av1_itx.proofs.words.I32x4BlockWord.add_product.Goals as goal

pub returns : goal.returns
unfolding lane_of_vector
returns c = λ i h.
    let bx : Bits 4 (map (of_z w32) c.args.self) = record { count = omega (arith, length-map c.args.self (of_z w32)); fit = search rules } in
    let by : Bits 4 (map (of_z w32) c.args.o) = record { count = omega (arith, length-map c.args.o (of_z w32)); fit = search rules } in
    lane_product 4 c.args.weight _ _ i h c.ranges.weight bx by
