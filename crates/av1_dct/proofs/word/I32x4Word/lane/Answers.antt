use Rattle.std.proofs.Common.{rules, arith, of_z, w32}
use Rattle.std.proofs.lemmas.List.{length-map}
use Rattle.av1_dct.proofs.LaneOperations.{lane_get}
use Rattle.av1_dct.proofs.word.I32x4Word.lane.Goals as goal

pub returns : goal.returns
returns c = lane_get 4 c.args.self c.args.i c.requires (record { count = omega (arith, length-map c.args.self (of_z w32)); fit = search rules })
