use Rattle.std.proofs.Common.{◌≡◌, ℕ, length, map, reverse, ap, ◌∙◌, subst, sym}
use Rattle.std.proofs.lemmas.List.{get_or-map}
use Rattle.av1_frame.specs.declared.plane_region.StoredArea.{StoredArea}
use Rattle.av1_frame.proofs.Regions.{lent_painted}
use Rattle.av1_intra.specs.Blocks.{IsRectangle}
use Rattle.av1_intra.specs.Sides.{numbers}
use Rattle.av1_intra.specs.Directional.{directional}
use Rattle.av1_rav1e.specs.Blocks.{block_at}
use Rattle.av1_intra.specs.declared.directional.DirectionalBlock.{DirectionalBlock}
use Rattle.av1_rav1e.proofs.Lending.{block_rows}
use Rattle.av1_rav1e.proofs.rust.pred_directional.Goals as goal

pub pred_directional_to-requires-clause-block : goal.pred_directional_to-requires-clause-block
pred_directional_to-requires-clause-block g c =
    let a = c.args in
    subst (λ (b : DirectionalBlock). IsRectangle b a.output.now.plane_cfg.stride c.corner-area.result (length c.rows_mut.result.now))
    (sym c.block_in-block.ensures)
    (record {
      rows = block_rows c.requires.block c.corner-area.ensures c.rows_mut.ensures.value;
      width = ap (λ (b : StoredArea). b.width) c.corner-area.ensures;
      height = ap (λ (b : StoredArea). b.height) c.corner-area.ensures;
      few_columns = c.requires.width;
      few_rows = c.requires.height;
    })

pub returns-clause-painted : goal.returns-clause-painted
returns-clause-painted g c =
    let a = c.args in
    let num = g.T.Pixel.num in
    let x = c.index-top_left-0.result in
    let K : num x ≡ numbers num a.top_left.now 0 = ap num c.index-top_left-0.is ∙ sym (get_or-map num a.top_left.now 0 x 0 c.requires.corner) in
    let G = λ (b : DirectionalBlock) (k i j : ℕ). directional b k (map num a.above.now) (reverse (map num a.left.now)) i j in
    lent_painted a.output.now a.width a.height c.corner-area.result _ _ c.rows_mut.result.now c.pred_directional_to.new.samples
    c.requires.block.fits c.requires.block.rows c.corner-area.ensures c.rows_mut.ensures.value c.pred_directional_to.ensures
    (λ i j _ _ _. ap g.T.Pixel.pixel (ap (λ b. G b (num x) i j) c.block_in-block.ensures
    ∙ ap (λ k. G (block_at a.output.now a.p_angle a.width a.height a.bit_depth a.ief_params) k i j) K))
