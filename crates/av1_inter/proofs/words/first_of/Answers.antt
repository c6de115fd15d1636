use Rattle.std.proofs.Common.{arith, rules, w16, FitsSigned}
use Rattle.std.proofs.lemmas.Int.{to_z-of_z}
use Rattle.av1_inter.specs.Motion.{entry}
use Rattle.av1_inter.proofs.Fill.{line_more, line_none}
use Rattle.av1_inter.proofs.words.first_of.Goals as goal

pub loop-c-init : goal.loop-c-init
loop-c-init g c = line_none _ _

pub loop-c-preserved : goal.loop-c-preserved
loop-c-preserved g c =
    let s : FitsSigned w16 (entry c.args.numbers.now c.loop-c.c) = search rules in
    line_more g.row.N c.loop-c.c (entry c.args.numbers.now) _ _ c.loop-c.invariant (omega arith) (to_z-of_z w16 _ s)

pub returns : goal.returns
returns g c = λ k h. c.loop-c.invariant.value k (omega arith)
