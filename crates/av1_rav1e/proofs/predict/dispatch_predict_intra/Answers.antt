use mir.Val.{SFits}
use Rattle.std.proofs.Common.{rules, ℕ, ◌<◌, ◌≡◌, ◌≢◌, true, ap, ◌∙◌, sym, subst, length, unsigned_abs, to_z, of_z, w16, w64}
use Rattle.std.proofs.lemmas.Int.{to_z-of_z}
use Rattle.std.proofs.lemmas.List.{get_or-map}
use Rattle.av1_lists.specs.Sides.{IsTransformSide}
use Rattle.av1_blocks.specs.Transforms.{tx_width, tx_height}
use Rattle.av1_frame.specs.Samples.{in_rows}
use Rattle.av1_frame.proofs.Regions.{lent_painted}
use Rattle.av1_intra.specs.Sides.{numbers}
use Rattle.av1_intra.specs.Angles.{is_interpolated}
use Rattle.av1_rav1e.specs.Blocks.{block_at, edge_of}
use Rattle.av1_intra.specs.ChromaFromLuma.{ac_at}
use Rattle.av1_intra.specs.Predicted.{edge_round, predicted}
use Rattle.av1_intra.specs.declared.directional.DirectionalBlock.{DirectionalBlock}
use Rattle.av1_rav1e.proofs.Lending.{block_rows}
use Rattle.av1_intra.proofs.ByMode.{angle_fine, tx_height_side, tx_width_side, weighed_alike}
use Rattle.av1_rav1e.proofs.predict.dispatch_predict_intra.Goals as goal

pub dispatch_predict_intra_to-requires-clause-rows : goal.dispatch_predict_intra_to-requires-clause-rows
dispatch_predict_intra_to-requires-clause-rows g c =
    block_rows c.requires.block
    (c.corner-area.ensures ∙ ap (λ (b : DirectionalBlock). in_rows c.args.dst.now.area b.width b.height) c.transform_in-block.ensures) c.rows_mut.ensures.value

pub dispatch_predict_intra_to-requires-clause-width : goal.dispatch_predict_intra_to-requires-clause-width
dispatch_predict_intra_to-requires-clause-width g c =
    subst (λ (b : DirectionalBlock). IsTransformSide b.width) (sym c.transform_in-block.ensures) (tx_width_side c.args.tx_size)

pub dispatch_predict_intra_to-requires-clause-height : goal.dispatch_predict_intra_to-requires-clause-height
dispatch_predict_intra_to-requires-clause-height g c =
    subst (λ (b : DirectionalBlock). IsTransformSide b.height) (sym c.transform_in-block.ensures) (tx_height_side c.args.tx_size)

pub dispatch_predict_intra_to-requires-clause-angle : goal.dispatch_predict_intra_to-requires-clause-angle
dispatch_predict_intra_to-requires-clause-angle g c = λ m.
    let a = c.args in
    let P : ℕ → Type 0 = λ n. n ≢ 90 → n ≢ 180 → is_interpolated n ≡ true in
    subst (λ (b : DirectionalBlock). P b.p_angle) (sym c.transform_in-block.ensures)
    (subst (λ z. P (unsigned_abs z)) (sym (to_z-of_z w64 a.angle c.ranges.angle)) (angle_fine a.mode m a.angle c.requires.angle))

pub returns-clause-painted : goal.returns-clause-painted
returns-clause-painted g c =
    let a = c.args in
    let num = g.T.Pixel.num in
    let s = c.as_slices in
    let w = tx_width a.tx_size in
    let e = a.edge_buf.now in
    let x = c.index-top_left-0.result in
    let some : 0 < length s.result.1.now = subst (λ t. 0 < length t) (sym s.ensures.top_left) c.requires.corner in
    let k : num x ≡ numbers num e.top_left.now 0 = ap num c.index-top_left-0.is ∙ sym (get_or-map num s.result.1.now 0 x 0 some)
    ∙ ap (λ t. numbers num t 0) s.ensures.top_left in
    let round : edge_round num s.result.0.now (num x) s.result.2.now ≡ edge_of num e = ap (λ l. edge_round num l (num x) s.result.2.now) s.ensures.left
    ∙ ap (λ n. edge_round num e.left.now n s.result.2.now) k ∙ ap (λ u. edge_round num e.left.now (numbers num e.top_left.now 0) u) s.ensures.above in
    let h = tx_height a.tx_size in
    let B = block_at a.dst.now (unsigned_abs a.angle) w h a.bit_depth a.ief_params in
    let b : c.transform_in-block.result ≡ B = c.transform_in-block.ensures
    ∙ ap (λ z. block_at a.dst.now (unsigned_abs z) w h a.bit_depth a.ief_params) (to_z-of_z w64 a.angle c.ranges.angle) in
    let z = to_z w16 (of_z w16 c.weight_of-alpha.result) in
    let weight : SFits w16 c.weight_of-alpha.result = search rules in
    let i = to_z-of_z w16 c.weight_of-alpha.result weight in
    lent_painted a.dst.now w h c.corner-area.result _ _ c.rows_mut.result.now c.dispatch_predict_intra_to.new.samples c.requires.block.fits
    c.requires.block.rows (c.corner-area.ensures ∙ ap (λ (b : DirectionalBlock). in_rows a.dst.now.area b.width b.height) b) c.rows_mut.ensures.value
    c.dispatch_predict_intra_to.ensures
    (λ q r _ _ _. ap g.T.Pixel.pixel
    (ap (λ (b : DirectionalBlock). predicted b a.variant a.mode z (ac_at b.width a.ac.now) (edge_round num s.result.0.now (num x) s.result.2.now) q r) b
    ∙ ap (λ E. predicted B a.variant a.mode z (ac_at w a.ac.now) E q r) round
    ∙ weighed_alike B a.variant a.mode z a.angle (ac_at w a.ac.now) (edge_of num e) q r
    (λ h. i ∙ c.weight_of-alpha.ensures h ∙ to_z-of_z w64 a.angle c.ranges.angle)))
