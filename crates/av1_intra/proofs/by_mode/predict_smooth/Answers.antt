use Rattle.std.proofs.Common.{◌-◌, arith, ap, ◌∙◌, sym, map, reverse}
use Rattle.av1_frame.proofs.Paint.{paint_same}
use Rattle.av1_intra.specs.Sides.{entries, numbers, from_top}
use Rattle.av1_intra.specs.Paeth.{paeth}
use Rattle.av1_intra.specs.Predicted.{smoothly, edge_round}
use Rattle.av1_intra.proofs.BesideBlock.{from_top_beside, smooth_same, smooth_v_same, smooth_h_same, smoothly_nearest}
use Rattle.av1_intra.proofs.by_mode.predict_smooth.Goals as goal

pub returns-in-SMOOTH_PRED : goal.returns-in-SMOOTH_PRED
returns-in-SMOOTH_PRED g c =
    let num = g.T.Pixel.num in
    let h = c.args.area.height in
    let A = numbers num c.args.above.now in
    let L = from_top num h c.beside-left.result.now in
    let M = entries (reverse (map num c.args.left.now)) in
    let same = from_top_beside num c.args.left.now c.beside-left.result.now h c.beside-left.ensures.last c.requires.left_long in
    c.pred_smooth_to.ensures ∙ paint_same c.args.stride c.args.area _ _ c.args.samples.now (λ q p _ k _.
    ap g.T.Pixel.pixel (smooth_same c.args.area.width h A L M q p (same q k) (same (h - 1) (omega arith))
    ∙ sym (ap (λ m. smoothly m c.args.area.width h (edge_round num c.args.left.now (num c.args.corner) c.args.above.now) q p) c.in-SMOOTH_PRED.is)))

pub returns-in-SMOOTH_V_PRED : goal.returns-in-SMOOTH_V_PRED
returns-in-SMOOTH_V_PRED g c =
    let num = g.T.Pixel.num in
    let h = c.args.area.height in
    let A = numbers num c.args.above.now in
    let L = from_top num h c.beside-left.result.now in
    let M = entries (reverse (map num c.args.left.now)) in
    let same = from_top_beside num c.args.left.now c.beside-left.result.now h c.beside-left.ensures.last c.requires.left_long in
    c.pred_smooth_v_to.ensures ∙ paint_same c.args.stride c.args.area _ _ c.args.samples.now (λ q p _ k _.
    ap g.T.Pixel.pixel (smooth_v_same c.args.area.width h A L M q p (same q k) (same (h - 1) (omega arith))
    ∙ sym (ap (λ m. smoothly m c.args.area.width h (edge_round num c.args.left.now (num c.args.corner) c.args.above.now) q p) c.in-SMOOTH_V_PRED.is)))

pub returns-in-SMOOTH_H_PRED : goal.returns-in-SMOOTH_H_PRED
returns-in-SMOOTH_H_PRED g c =
    let num = g.T.Pixel.num in
    let h = c.args.area.height in
    let A = numbers num c.args.above.now in
    let L = from_top num h c.beside-left.result.now in
    let M = entries (reverse (map num c.args.left.now)) in
    let same = from_top_beside num c.args.left.now c.beside-left.result.now h c.beside-left.ensures.last c.requires.left_long in
    c.pred_smooth_h_to.ensures ∙ paint_same c.args.stride c.args.area _ _ c.args.samples.now (λ q p _ k _.
    ap g.T.Pixel.pixel (smooth_h_same c.args.area.width h A L M q p (same q k) (same (h - 1) (omega arith))
    ∙ sym (ap (λ m. smoothly m c.args.area.width h (edge_round num c.args.left.now (num c.args.corner) c.args.above.now) q p) c.in-SMOOTH_H_PRED.is)))

pub returns-in_default : goal.returns-in_default
returns-in_default g c =
    let num = g.T.Pixel.num in
    let h = c.args.area.height in
    let same = from_top_beside num c.args.left.now c.beside-left.result.now h c.beside-left.ensures.last c.requires.left_long in
    c.pred_paeth_to.ensures ∙ paint_same c.args.stride c.args.area _ _ c.args.samples.now (λ q p _ k _.
    ap g.T.Pixel.pixel (ap (λ n. paeth (numbers num c.args.above.now p) n (num c.args.corner)) (same q k) ∙ smoothly_nearest c.args.mode c.args.area.width h
    (edge_round num c.args.left.now (num c.args.corner) c.args.above.now) q p c.in_default.not-SMOOTH_PRED c.in_default.not-SMOOTH_V_PRED
    c.in_default.not-SMOOTH_H_PRED))
