use Rattle.std.proofs.Common.{◌≤◌, arith, ap, ◌∙◌, sym, length}
use Rattle.av1_frame.proofs.Paint.{paint_same}
use Rattle.av1_intra.specs.Sides.{from_top}
use Rattle.av1_intra.specs.Predicted.{edge_round}
use Rattle.av1_intra.proofs.BesideBlock.{from_top_beside, along_180}
use Rattle.av1_intra.proofs.by_mode.predict_along.Goals as goal

pub returns-then-block-eq180 : goal.returns-then-block-eq180
returns-then-block-eq180 g c =
    let a = c.args in
    let num = g.T.Pixel.num in
    let l : a.block.height ≤ length a.left.now = rw c.if-block-eq180.true at c.requires.left_long in
    c.pred_h_to.ensures ∙ paint_same a.stride a.area _ _ a.samples.now (λ q p _ k _.
    ap g.T.Pixel.pixel (ap (λ n. from_top num n c.beside.result.now q) c.requires.block.height
    ∙ from_top_beside num a.left.now c.beside.result.now a.block.height c.beside.ensures.last l q (omega (arith, k, c.requires.block.height)) ∙ sym
    (along_180 a.block (edge_round num a.left.now (num a.corner) a.above.now) q p c.if-block-eq180.true)))
