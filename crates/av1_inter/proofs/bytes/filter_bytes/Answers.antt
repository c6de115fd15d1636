use Rattle.std.proofs.Common.{arith, rules, ◌∙◌, ◌+◌, ap, pos, map, slice_index, w16, FitsSigned}
use Rattle.std.proofs.lemmas.Int.{to_z-of_z}
use Rattle.av1_inter.specs.Scaffolding.{settled, sum_from}
use Rattle.av1_inter.proofs.Fill.{line_more, line_none}
use Rattle.av1_inter.proofs.bytes.filter_bytes.Goals as goal

pub loop-c-init : goal.loop-c-init
loop-c-init g c = line_none _ _

pub loop-c-preserved : goal.loop-c-preserved
loop-c-preserved g c =
    let s : FitsSigned w16 c.settle_short.result = search rules in
    let t : FitsSigned w16 c.sum_bytes-sum.result = search rules in
    line_more g.row.N c.loop-c.c
    (λ k. settled c.args.rounding (sum_from c.args.halves.now (λ i. pos (slice_index (map g.T.Pixel.num c.args.source.now) i))
    (c.args.start + k) c.args.step)) _ _ c.loop-c.invariant (omega arith)
    (to_z-of_z w16 _ s ∙ c.settle_short.ensures ∙ ap (settled c.args.rounding) (to_z-of_z w16 _ t ∙ c.sum_bytes-sum.ensures.value))
