use Rattle.std.proofs.Common.{arith, rules, ◌∙◌, w16, FitsSigned}
use Rattle.std.specs.Int.{int_shr}
use Rattle.std.proofs.lemmas.Int.{to_z-of_z}
use Rattle.av1_inter.specs.Motion.{entry}
use Rattle.av1_inter.proofs.Fill.{line_more, line_none}
use Rattle.av1_inter.proofs.Halves.{halved_are, halves_are}
use Rattle.av1_inter.proofs.filter.halves_of.Goals as goal

pub loop-t-init : goal.loop-t-init
loop-t-init c = line_none _ _

pub loop-t-preserved : goal.loop-t-preserved
loop-t-preserved c =
    let t = c.loop-t.t in
    let f : FitsSigned w16 c.half_of.result = search rules in
    line_more 8 t (λ k. int_shr (entry c.args.taps.now k) 1) _ _ c.loop-t.invariant c.loop-t-test.true (to_z-of_z w16 _ f ∙ c.half_of.ensures)

pub returns-clause-value : goal.returns-clause-value
returns-clause-value c = halved_are c.loop-t.halves c.args.taps.now c.loop-t.invariant.long c.requires (λ t l. c.loop-t.invariant.value t (omega arith))

pub returns-clause-twice : goal.returns-clause-twice
returns-clause-twice c = halves_are c.loop-t.halves c.args.taps.now c.loop-t.invariant.long c.requires (λ t l. c.loop-t.invariant.value t (omega arith))
