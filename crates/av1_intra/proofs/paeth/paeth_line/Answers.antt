use Rattle.std.proofs.Common.{◌≡◌, ◌∙◌, ◌+◌, ap, arith, set, sym}
use Rattle.std.proofs.lemmas.List.{get_or-map}
use Rattle.av1_frame.proofs.Paint.{paint_row_more}
use Rattle.av1_intra.specs.Sides.{numbers}
use Rattle.av1_intra.specs.Paeth.{paeth}
use Rattle.av1_intra.proofs.paeth.paeth_line.Goals as goal

pub loop-c-preserved : goal.loop-c-preserved
loop-c-preserved g c =
    let a = c.args in
    let num = g.T.Pixel.num in
    let k = c.loop-c.c in
    let x = c.index-above-start.result in
    let f = λ (q : _) (_v : g.row.T.Denot). g.T.Pixel.pixel (paeth (numbers num a.above.now (a.start + q)) (num a.left) (num a.corner)) in
    let there : num x ≡ numbers num a.above.now (a.start + k) =
    ap num c.index-above-start.is ∙ sym (get_or-map num a.above.now (a.start + k) x 0 (omega (arith, c.requires.above_long, c.loop-c-test.true))) in
    ap (λ row. set row k c.nearest.result) c.loop-c.invariant
    ∙ paint_row_more k f a.line.now c.nearest.result (omega (arith, c.requires.long, c.loop-c-test.true))
    (c.nearest.ensures ∙ ap (λ n. g.T.Pixel.pixel (paeth n (num a.left) (num a.corner))) there)
