use Rattle.std.proofs.Common.{sym, ◌∙◌, arith}
use Rattle.av1_plan.proofs.Faults.{go_on_all, next_block, triple_fits, triple_unfit}
use Rattle.av1_plan.proofs.check.are_coefficients.Goals as goal

pub loop-triple-init : goal.loop-triple-init
loop-triple-init c = record { left = go_on_all c.args.header.now c.args.p c.args.area.now c.args.triples.now; block = tt }

pub loop-triple-preserved : goal.loop-triple-preserved
loop-triple-preserved c =
    let l = c.loop-triple in
    let is = sym c.is_next.ensures ∙ c.if-not-is_next.false in
    record {
      left = sym (triple_fits c.args.header.now c.args.p c.args.area.now l.last c.args.triples.now l.triple-index _ (omega arith) is) ∙ l.invariant.left;
      block = next_block c.args.header.now c.args.p c.args.area.now l.last _ is;
    }

pub returns-then-not-is_next : goal.returns-then-not-is_next
returns-then-not-is_next c =
    let l = c.loop-triple in
    sym (triple_unfit c.args.header.now c.args.p c.args.area.now l.last c.args.triples.now l.triple-index _ (omega arith)
    (sym c.is_next.ensures ∙ c.if-not-is_next.true)) ∙ l.invariant.left
