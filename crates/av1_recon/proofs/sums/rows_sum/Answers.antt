use Rattle.std.proofs.Common.{arith, rules, sum, ◌<◌, ◌∙◌, ◌≡◌, ap}
use Rattle.av1_recon.proofs.Rows.{height_is}
use Rattle.av1_recon.proofs.RowSums.{row_within, rows_total-more, rows_total-all}
use Rattle.av1_recon.proofs.sums.rows_sum.Goals as goal

pub loop-y-preserved : goal.loop-y-preserved
loop-y-preserved g c =
    let more = rows_total-more g.T.Pixel.num c.args.state.now c.args.p c.loop-y.y in
    let row = ap sum c.row.ensures in
    record {
      value = cc (more, row, c.loop-y.invariant.value, c.sum_of.ensures.value, c.from-total.ensures);
      small = omega (arith, c.loop-y.invariant.small);
    }

pub returns : goal.returns
returns g c =
    let end : c.loop-y.y ≡ c.shown_rows-y-end.result = omega (arith, c.loop-y.auto.y-end, c.loop-y-test.false) in
    let height = height_is c.args.state.now c.args.p c.shown_rows-y-end.result c.args.header c.shown_rows-y-end.ensures.value c.requires.made in
    c.loop-y.invariant.value ∙ rows_total-all g.T.Pixel.num c.args.state.now c.args.p c.loop-y.y (end ∙ height)

pub sum_of-requires : goal.sum_of-requires
sum_of-requires g c =
    let within = row_within g.T.Pixel.num c.args.state.now c.args.p c.loop-y.y c.args.header c.row.result.now c.requires.made c.row.ensures in
    let wide : c.args.header.width < 65536 = search rules in
    omega (arith, within, wide)
