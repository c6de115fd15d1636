use Rattle.std.proofs.Common.{ℕ, ℤ, ap, ◌∙◌, sym, subst, ◌≡◌, ◌≤◌, length, w16}
use Rattle.std.proofs.lemmas.Int.{to_z-of_z}
use Rattle.av1_frame.proofs.Paint.{paint_same}
use Rattle.av1_intra.specs.ChromaFromLuma.{from_luma, ac_at}
use Rattle.av1_intra.specs.Predicted.{edge_round, dc, smoothly, predicted}
use Rattle.av1_intra.proofs.ByMode.{dc_corner, side_small, rest_directional, predicted_along, above_along, left_along, smoothly_predicted}
use Rattle.av1_intra.proofs.by_mode.dispatch_predict_intra_to.Goals as goal

pub returns-in-DC_PRED : goal.returns-in-DC_PRED
unfolding predicted
returns-in-DC_PRED g c =
    let a = c.args in
    let b = a.block in
    let num = g.T.Pixel.num in
    let k = num a.corner in
    c.fill_block.ensures ∙ paint_same a.stride a.area _ _ a.samples.now (λ q p _ _ _.
    c.dc_sample-dc.ensures ∙ ap g.T.Pixel.pixel (dc_corner num a.variant b.bit_depth b.width b.height k a.left.now a.above.now
    ∙ sym (ap (λ m. predicted b a.variant m a.alpha (ac_at b.width a.ac.now) (edge_round num a.left.now k a.above.now) q p) c.in-DC_PRED.is)))

pub returns-in-UV_CFL_PRED : goal.returns-in-UV_CFL_PRED
unfolding predicted
returns-in-UV_CFL_PRED g c =
    let a = c.args in
    let b = a.block in
    let num = g.T.Pixel.num in
    let k = num a.corner in
    let x = c.dc_sample-dc-in-UV_CFL_PRED.result in
    let E = λ (k : ℕ). edge_round num a.left.now k a.above.now in
    let D = dc a.variant b.bit_depth b.width b.height (E 0) in
    let n : num x ≡ D = ap num c.dc_sample-dc-in-UV_CFL_PRED.ensures ∙ g.met.T.Pixel.num_of_pixel D in
    c.pred_cfl_to.ensures ∙ paint_same a.stride a.area _ _ a.samples.now (λ q p _ _ _.
    let d = ac_at b.width a.ac.now q p in
    ap g.T.Pixel.pixel (ap (λ (z : ℤ). from_luma b.bit_depth z (num x) (ac_at a.area.width a.ac.now q p)) (to_z-of_z w16 a.alpha c.ranges.alpha)
    ∙ ap (λ (w : ℕ). from_luma b.bit_depth a.alpha (num x) (ac_at w a.ac.now q p)) c.requires.columns
    ∙ ap (λ (n : ℕ). from_luma b.bit_depth a.alpha n d) (n ∙ dc_corner num a.variant b.bit_depth b.width b.height k a.left.now a.above.now)
    ∙ sym (ap (λ m. predicted b a.variant m a.alpha (ac_at b.width a.ac.now) (E k) q p) c.in-UV_CFL_PRED.is)))

pub returns-in-SMOOTH_PRED : goal.returns-in-SMOOTH_PRED
returns-in-SMOOTH_PRED g c =
    let a = c.args in
    let b = a.block in
    let num = g.T.Pixel.num in
    let E = edge_round num a.left.now (num a.corner) a.above.now in
    c.predict_smooth.ensures ∙ paint_same a.stride a.area _ _ a.samples.now (λ q p _ _ _.
    ap g.T.Pixel.pixel (ap (λ n. smoothly a.mode n a.area.height E q p) c.requires.columns ∙ ap (λ n. smoothly a.mode b.width n E q p) c.requires.lines
    ∙ smoothly_predicted b a.variant a.mode a.alpha (ac_at b.width a.ac.now) E q p c.in-SMOOTH_PRED.is))

pub predict_along-requires : goal.predict_along-requires
predict_along-requires g c =
    let a = c.args in
    let b = a.block in
    let n = c.in_default in
    let m = rest_directional a.mode c.requires.intra n.not-DC_PRED n.not-UV_CFL_PRED n.not-SMOOTH_PRED n.not-SMOOTH_V_PRED n.not-SMOOTH_H_PRED n.not-PAETH_PRED
    in
    record {
      block = record {
        rows = c.requires.rows;
        width = c.requires.columns;
        height = c.requires.lines;
        few_columns = side_small b.width c.requires.width;
        few_rows = side_small b.height c.requires.height;
      };
      angle = c.requires.angle m;
      above_long = subst (λ n. n ≤ length a.above.now) (sym (above_along a.mode m a.variant b.p_angle b.width b.height)) c.requires.above_long;
      left_long = subst (λ n. n ≤ length a.left.now) (sym (left_along a.mode m a.variant b.p_angle b.width b.height)) c.requires.left_long;
      depth = c.requires.high;
    }

pub returns-in_default : goal.returns-in_default
returns-in_default g c =
    let a = c.args in
    let b = a.block in
    let n = c.in_default in
    let num = g.T.Pixel.num in
    let m = rest_directional a.mode c.requires.intra n.not-DC_PRED n.not-UV_CFL_PRED n.not-SMOOTH_PRED n.not-SMOOTH_V_PRED n.not-SMOOTH_H_PRED n.not-PAETH_PRED
    in
    c.predict_along.ensures ∙ paint_same a.stride a.area _ _ a.samples.now (λ q p _ _ _.
    ap g.T.Pixel.pixel (predicted_along a.mode m b a.variant a.alpha (ac_at b.width a.ac.now) (edge_round num a.left.now (num a.corner) a.above.now) q p))
