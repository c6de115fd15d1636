use Rattle.std.proofs.Common.{ℕ, arith, ap, pos, subst, sym, ◌<◌, ◌*◌, ◌^◌, ◌∙◌, ◌-ℤ◌}
use Rattle.av1_frame.proofs.Paint.{row_painted_rest, paint_row_same}
use Rattle.av1_inter.specs.Motion.{bias, intermediate_bits}
use Rattle.av1_inter.specs.Scaffolding.{sample_of}
use Rattle.av1_inter.proofs.Strips.{part_sample}
use Rattle.av1_inter.proofs.copies.widen_rows.Goals as goal

pub widen_row_of-requires-clause-source_long : goal.widen_row_of-requires-clause-source_long
widen_row_of-requires-clause-source_long g c =
    let reach = c.requires.block.reach c.loop-r.r (omega (arith, c.loop-r-test.true)) in omega (arith, c.split_at.ensures.back_len, reach)

pub widen_row_of-requires-clause-within : goal.widen_row_of-requires-clause-within
widen_row_of-requires-clause-within g c = λ q l.
    let block = c.args.block.now in
    let r = c.loop-r.r in
    subst (λ (n : ℕ). n < 2 ^ block.bit_depth)
    (sym (part_sample g.T.Pixel.num block.source.now c.split_at.result.1.now (r * block.source_stride) q _ c.split_at.ensures.back (omega arith)))
    (c.requires.block.within q r (omega (arith, l)) (omega (arith, c.loop-r-test.true)))

pub loop-r-preserved : goal.loop-r-preserved
loop-r-preserved g c =
    let block = c.args.block.now in
    let rows = c.split_at_mut-row.ensures in
    let r = c.loop-r.r in
    let num = g.T.Pixel.num in
    let d = block.bit_depth in
    row_painted_rest c.args.stride block.area r _ _ c.loop-r.tmp _ _ _ c.requires.rows c.loop-r-test.true c.loop-r.invariant rows.front rows.back
    (c.widen_row_of.ensures
    ∙ paint_row_same block.area.width _ (λ q _. pos (sample_of num block q r * 2 ^ intermediate_bits d) -ℤ bias d) _
    (λ q v l. ap (λ (n : ℕ). pos (n * 2 ^ intermediate_bits d) -ℤ bias d)
    (part_sample num block.source.now c.split_at.result.1.now (r * block.source_stride) q _ c.split_at.ensures.back (omega arith))))
