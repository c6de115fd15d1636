use mir.Val.{SFits}
use Rattle.std.proofs.Common.{rules, ◌≡◌, ◌≤◌, ◌*◌, [], ◌∷◌, true, length, map, slice_index, ap, arith, ◌∙◌, sym, subst, to_z, of_z, w16}
use Rattle.std.proofs.lemmas.Int.{to_z-of_z}
use Rattle.std.proofs.lemmas.List.{get_or-map}
use Rattle.av1_blocks.specs.Modes.{is_cfl, is_intra}
use Rattle.av1_blocks.specs.Transforms.{tx_height, tx_width}
use Rattle.av1_lists.specs.Sides.{IsTransformSide}
use Rattle.av1_lists.proofs.Lists.{length_shown}
use Rattle.av1_frame.specs.Samples.{in_rows}
use Rattle.av1_frame.specs.declared.plane_region.StoredArea.{StoredArea}
use Rattle.av1_frame.proofs.Regions.{lent_painted, lent_rows}
use Rattle.av1_intra.specs.Predicted.{edge_round}
use Rattle.av1_intra.specs.declared.directional.DirectionalBlock.{DirectionalBlock}
use Rattle.av1_intra.proofs.ByMode.{effective_cfl, effective_intra, tx_height_side, tx_width_side}
use Rattle.av1_tile.specs.Walk.{edge_for}
use Rattle.av1_tile.proofs.EdgeBlocks.{above_enough, angle_taken, edge_held, left_enough, rectangle_by, rectangle_predicted}
use Rattle.av1_tile.proofs.block.predict_region.Goals as goal

pub dispatch_predict_intra_to-requires : goal.dispatch_predict_intra_to-requires
dispatch_predict_intra_to-requires g c =
    let a = c.args in
    let r = c.requires in
    let num = g.T.Pixel.num in
    let t = a.block.now.area.tx_size in
    let region = a.region.now in
    let plane = region.plane.now in
    let mode = c.effective-mode in
    let m = mode.result in
    let s = c.as_slices in
    let rectangle = c.rectangle_of-rectangle in
    let b_is = rectangle.ensures in
    let P = λ (Q : DirectionalBlock → Type 0) (q : Q (rectangle_by a.header.now a.block.now a.at a.how.filter m a.how.param)). subst Q (sym b_is) q in
    let wide : region.area.width ≡ tx_width t = ap (λ (k : StoredArea). k.width) r.area in
    let high : region.area.height ≡ tx_height t = ap (λ (k : StoredArea). k.height) r.area in
    let corner = c.corner-area.ensures in
    let place = corner ∙ ap (λ (k : DirectionalBlock). in_rows region.area k.width k.height) b_is in
    record {
      intra = subst (λ k. is_intra k ≡ true) (sym mode.ensures) (effective_intra a.how.mode a.at.x a.at.y r.how.intra);
      rows = lent_rows region (tx_width t) (tx_height t) _ _ r.fits (omega (arith, wide)) (omega (arith, high)) place c.rows_mut.ensures.value;
      columns = ap (λ (k : StoredArea). k.width) corner;
      lines = ap (λ (k : StoredArea). k.height) corner;
      width = P (λ k. IsTransformSide k.width) (tx_width_side t);
      height = P (λ k. IsTransformSide k.height) (tx_height_side t);
      angle = angle_taken num a.header.now a.block.now a.at plane a.how.filter a.how.mode a.how.param m c.new.result rectangle.result mode.ensures
          c.new.ensures b_is
          r.how.few_steps
          r.how.small_weight;
      above_long = above_enough num a.header.now a.block.now a.at plane a.how.filter a.how.mode a.how.param m c.new.result rectangle.result mode.ensures
          c.new.ensures
          b_is s.result.2.now
          (ap (map num) s.ensures.above ∙ r.above);
      left_long = left_enough num a.header.now a.block.now a.at plane a.how.filter a.how.mode a.how.param m c.new.result rectangle.result mode.ensures
          c.new.ensures
          b_is s.result.0.now
          r.how.few_steps
          (ap (map num) s.ensures.left ∙ r.left);
      ac_long = λ h.
          P (λ k. k.width * k.height ≤ length a.luma.now)
          (r.how.luma_long (effective_cfl a.how.mode a.at.x a.at.y (subst (λ k. is_cfl k ≡ true) mode.ensures h)));
      low = P (λ k. 8 ≤ k.bit_depth) r.low;
      high = P (λ k. k.bit_depth ≤ g.T.Pixel.BITS) r.depth;
    }

pub returns-clause-painted : goal.returns-clause-painted
returns-clause-painted g c =
    let a = c.args in
    let r = c.requires in
    let num = g.T.Pixel.num in
    let t = a.block.now.area.tx_size in
    let region = a.region.now in
    let plane = region.plane.now in
    let mode = c.effective-mode in
    let s = c.as_slices in
    let rectangle = c.rectangle_of-rectangle in
    let E = edge_for a.header.now a.block.now a.at a.how.mode a.how.param num plane in
    let high : region.area.height ≡ tx_height t = ap (λ (k : StoredArea). k.height) r.area in
    let place = c.corner-area.ensures ∙ ap (λ (k : DirectionalBlock). in_rows region.area k.width k.height) rectangle.ensures in
    let x = c.index-top_left-0.result in
    let shown : map num s.result.1.now ≡ E.corner ∷ [] = ap (map num) s.ensures.top_left ∙ r.corner in
    let one : length s.result.1.now ≡ 1 = length_shown num s.result.1.now (E.corner ∷ []) shown in
    let k : num x ≡ E.corner = ap num c.index-top_left-0.is ∙ sym (get_or-map num s.result.1.now 0 x 0 (omega (arith, one)))
    ∙ ap (λ us. slice_index us 0) shown in
    let held : edge_round num s.result.0.now (num x) s.result.2.now ≡ E =
    edge_held num s.result.0.now x s.result.2.now E (ap (map num) s.ensures.left ∙ r.left) k (ap (map num) s.ensures.above ∙ r.above) in
    let weight : SFits w16 c.alpha_of-alpha.result = search rules in
    let z = to_z-of_z w16 c.alpha_of-alpha.result weight in
    lent_painted region (tx_width t) (tx_height t) c.corner-area.result _ _ c.rows_mut.result.now c.dispatch_predict_intra_to.new.samples r.fits
    (omega (arith, high)) place c.rows_mut.ensures.value c.dispatch_predict_intra_to.ensures
    (λ q p _ _ _. ap g.T.Pixel.pixel
    (rectangle_predicted num a.header.now a.block.now a.at plane a.how.filter a.how.mode a.how.param mode.result c.new.result rectangle.result mode.ensures
    c.new.ensures rectangle.ensures a.luma.now
    (to_z w16 (of_z w16 c.alpha_of-alpha.result)) _ q p (z ∙ c.alpha_of-alpha.ensures) held))
