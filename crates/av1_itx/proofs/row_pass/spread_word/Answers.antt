use Rattle.std.proofs.Common.{arith, rules, ◌∙◌, w32, FitsSigned}
use Rattle.std.proofs.lemmas.Int.{to_z-of_z}
use Rattle.av1_itx.proofs.Lines.{column_step}
use Rattle.av1_itx.proofs.row_pass.spread_word.Goals as goal

pub loop-i-preserved : goal.loop-i-preserved
loop-i-preserved g c =
    let f : FitsSigned w32 c.lane.result = search rules in
    column_step c.args.w c.args.c g.W.Word.LANES c.loop-i.i c.args.part.now c.loop-i.part (g.W.Word.lane_of c.args.word) _ c.requires.column_in
    (omega arith) (omega arith) (to_z-of_z w32 _ f ∙ c.lane.ensures) c.loop-i.invariant
