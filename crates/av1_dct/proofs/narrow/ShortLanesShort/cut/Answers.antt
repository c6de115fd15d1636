use Rattle.std.proofs.Common.{arith, rules, of_z, w32, map}
use Rattle.std.proofs.lemmas.List.{length-map}
use Rattle.av1_dct.proofs.Lanes.{Bits}
use Rattle.av1_dct.proofs.LaneOperations.{stored}
use Rattle.av1_dct.proofs.Shorts.{clamped_told}
use Rattle.av1_dct.proofs.narrow.ShortLanesShort.cut.Goals as goal

pub returns : goal.returns
returns c = λ i h.
    let b : Bits 8 (map (of_z w32) c.args.word) = record { count = omega (arith, length-map c.args.word (of_z w32)); fit = search rules } in
    clamped_told c.clamp_wide.result 16 i _ _ (omega arith) (c.clamp_wide.ensures i h) (stored 8 c.args.word i h b)
