use Rattle.std.proofs.Common.{◌≤◌, ap, ◌∙◌, sym, length}
use Rattle.std.proofs.lemmas.List.{take-map}
use Rattle.av1_intra.specs.Dc.{mean}
use Rattle.av1_intra.specs.Predicted.{dc, edge_round}
use Rattle.av1_intra.proofs.BesideBlock.{mean_beside, mean_both}
use Rattle.av1_intra.proofs.by_mode.dc_sample.Goals as goal

pub returns-in-NONE : goal.returns-in-NONE
returns-in-NONE g c =
    let a = c.args in
    let num = g.T.Pixel.num in
    let e = ap (λ v. dc v a.block.bit_depth a.block.width a.block.height (edge_round num a.left.now 0 a.above.now)) c.in-NONE.is in
    c.half_sample.ensures ∙ ap g.T.Pixel.pixel (sym e)

pub returns-in-LEFT : goal.returns-in-LEFT
returns-in-LEFT g c =
    let a = c.args in
    let num = g.T.Pixel.num in
    let e = ap (λ v. dc v a.block.bit_depth a.block.width a.block.height (edge_round num a.left.now 0 a.above.now)) c.in-LEFT.is in
    let l : a.block.height ≤ length a.left.now = rw c.in-LEFT.is at c.requires.left_long in
    c.side_mean.ensures ∙ ap g.T.Pixel.pixel (mean_beside num a.left.now c.beside.result.now a.block.height c.beside.ensures.last l ∙ sym e)

pub returns-in-TOP : goal.returns-in-TOP
returns-in-TOP g c =
    let a = c.args in
    let num = g.T.Pixel.num in
    let e = ap (λ v. dc v a.block.bit_depth a.block.width a.block.height (edge_round num a.left.now 0 a.above.now)) c.in-TOP.is in
    c.side_mean-in-TOP.ensures ∙ ap g.T.Pixel.pixel (ap mean (sym (take-map num a.block.width a.above.now)) ∙ sym e)

pub returns-in-BOTH : goal.returns-in-BOTH
returns-in-BOTH g c =
    let a = c.args in
    let num = g.T.Pixel.num in
    let e = ap (λ v. dc v a.block.bit_depth a.block.width a.block.height (edge_round num a.left.now 0 a.above.now)) c.in-BOTH.is in
    let l : a.block.height ≤ length a.left.now = rw c.in-BOTH.is at c.requires.left_long in
    c.mean_of.ensures
    ∙ ap g.T.Pixel.pixel (mean_both num a.left.now c.beside-in-BOTH.result.now a.block.height c.beside-in-BOTH.ensures.last l a.block.width a.above.now
    ∙ sym e)
