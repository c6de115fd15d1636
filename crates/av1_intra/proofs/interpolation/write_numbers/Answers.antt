use Rattle.std.proofs.Common.{◌≡◌, ◌∙◌, ◌+◌, ◌<◌, arith, ap, get_or, length, set}
use Rattle.av1_frame.specs.Samples.{paint_row}
use Rattle.av1_frame.proofs.Paint.{length-paint_row, paint_row_more}
use Rattle.av1_intra.proofs.interpolation.write_numbers.Goals as goal

pub loop-c-init : goal.loop-c-init
loop-c-init g c = λ f s is _.
    is ∙ ap (λ n. paint_row n f s) (let e : c.args.start ≡ c.args.start + 0 = omega arith in e)

pub loop-c-preserved : goal.loop-c-preserved
loop-c-preserved g c = λ f s is told.
    let start = c.args.start in
    let k = c.loop-c.c in
    let lt : start + k < length s = omega (arith, ap length is, length-paint_row start f s, c.requires.room) in
    let value : c.from_u32.result ≡ f (start + k) (get_or s (start + k) c.from_u32.result) = c.from_u32.ensures ∙ ap g.T.Pixel.pixel c.from.ensures
    ∙ told k (get_or s (start + k) c.from_u32.result) c.loop-c-test.true in
    ap (λ u. set u (start + k) c.from_u32.result) (c.loop-c.invariant f s is told) ∙ paint_row_more (start + k) f s c.from_u32.result lt value
    ∙ ap (λ n. paint_row n f s) (let a : start + k + 1 ≡ start + (k + 1) = omega arith in a)

pub returns : goal.returns
returns g c = λ f s is told.
    let all : c.loop-c.c ≡ g.row.N = omega arith in
    c.loop-c.invariant f s is told ∙ ap (λ n. paint_row (c.args.start + n) f s) all
