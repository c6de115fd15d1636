use Rattle.std.proofs.Common.{◌≡◌, length, arith, ap, ◌∙◌, set}
use Rattle.av1_frame.proofs.Paint.{paint_row_more, length-paint_row}
use Rattle.av1_intra.specs.Sides.{numbers}
use Rattle.av1_intra.proofs.Filter.{filtered_at}
use Rattle.av1_intra.proofs.RowReads.{read_ahead}
use Rattle.av1_intra.proofs.edge_filter.smooth_entry.Goals as goal

pub returns-clause-step : goal.returns-clause-step
returns-clause-step g c = λ old n some inside next second window.
    let num = g.T.Pixel.num in
    let i = c.args.i in
    let A = numbers num old in
    let same : length c.args.edge.now ≡ length old = ap length window.painted ∙ length-paint_row _ _ _ in
    let x = read_ahead num i i _ _ _ _ _ window.painted (omega arith) (omega arith) c.index-edge-i.is c.to_u32-c.ensures.value in
    let y = read_ahead num i c.args.next _ _ _ _ _ window.painted (omega arith) (omega arith) c.index-edge-next.is c.to_u32-d.ensures.value in
    let z = read_ahead num i c.args.second _ _ _ _ _ window.painted (omega arith) (omega arith) c.index-edge-second.is c.to_u32-e.ensures.value in
    let r =
    filtered_at n g.row.STRENGTH i A _ _ _ _ _ _ (omega arith) some inside window.second_before window.before x (y ∙ ap A next) (z ∙ ap A second)
    c.smoothed.ensures.value in
    record {
      painted = ap (λ u. set u i c.from_u32.result) window.painted
          ∙ paint_row_more i _ old c.from_u32.result (omega arith) (c.from_u32.ensures ∙ ap g.T.Pixel.pixel r);
      second_before = window.before ∙ ap A (omega arith);
      before = x ∙ ap A (omega arith);
    }
