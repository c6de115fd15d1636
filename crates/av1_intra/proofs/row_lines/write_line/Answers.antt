use Rattle.std.proofs.Common.{◌≡◌, ◌∙◌, ◌+◌, ◌<◌, arith, ap, length}
use Rattle.av1_frame.specs.Samples.{paint_row}
use Rattle.av1_frame.proofs.Paint.{length-paint_row}
use Rattle.av1_intra.proofs.Groups.{next_in_line}
use Rattle.av1_intra.proofs.row_lines.write_line.Goals as goal

pub loop-c-init : goal.loop-c-init
loop-c-init g c = λ f s is _.
    is ∙ ap (λ n. paint_row n f s) (let e : c.args.start ≡ c.args.start + 0 = omega arith in e)

pub loop-c-preserved : goal.loop-c-preserved
loop-c-preserved g c = λ f s is told.
    let start = c.args.start in
    let k = c.loop-c.c in
    let lt : start + k < length s = omega (arith, ap length is, length-paint_row start f s, c.requires.room) in
    next_in_line start k g.row.N f s c.loop-c.row c.args.line.now c.index-line-c.result (c.loop-c.invariant f s is told) lt c.loop-c-test.true
    c.requires.long c.index-line-c.is told

pub returns : goal.returns
returns g c = λ f s is told.
    let all : c.loop-c.c ≡ g.row.N = omega arith in
    c.loop-c.invariant f s is told ∙ ap (λ n. paint_row (c.args.start + n) f s) all
