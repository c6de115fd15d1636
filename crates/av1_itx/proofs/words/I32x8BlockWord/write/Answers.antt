use Rattle.std.proofs.Common.{arith, of_z, w32}
use Rattle.std.proofs.lemmas.List.{length-map}
use Rattle.av1_dct.specs.Word.{lane_of_vector}
use Rattle.av1_dct.proofs.LaneOperations.{lane_read, neighbours_written}
use Rattle.av1_itx.proofs.words.I32x8BlockWord.write.Goals as goal

pub returns : goal.returns
returns c = neighbours_written c.args.start 8 c.loop-k.k c.args.values.now c.loop-k.values _ (lane_of_vector c.args.self)
    (omega arith) c.loop-k.invariant (λ i h. lane_read 8 c.args.self i h (omega (arith, length-map c.args.self (of_z w32))))
