use Rattle.std.proofs.Common.{ap, ◌∙◌, ◌≡◌, reverse, [], ◌∷◌, sym, subst}
use Rattle.av1_blocks.specs.Transforms.{tx_width, tx_height}
use Rattle.av1_edges.specs.declared.parts.Parts.{Parts}
use Rattle.av1_edges.specs.declared.position.TransformPosition.{TransformPosition}
use Rattle.av1_edges.specs.Edges.{Edge, edge_of_parts, prepared_edge, position_of, PositionFits}
use Rattle.av1_edges.specs.Parts.{prepared_parts, step_of}
use Rattle.av1_edges.proofs.intra_edges.get_intra_edges_to.Goals as goal

pub fill_edge-requires-clause-fits : goal.fill_edge-requires-clause-fits
fill_edge-requires-clause-fits g c = subst (λ (p : TransformPosition). PositionFits c.args.dst.now p) (sym c.position_of-at.ensures) c.requires.fits

pub returns : goal.returns
returns g c =
    let a = c.args in
    let num = g.T.Pixel.num in
    let here = c.position_of-at.result in
    let f = c.fill_edge.ensures in
    let w = tx_width a.tx_size in
    let h = tx_height a.tx_size in
    let step = step_of a.intra_param in
    let same : edge_of_parts num a.dst.now here a.bit_depth c.prepared-parts.result ≡
    prepared_edge num a.dst.now (position_of a.partition_bo a.bx a.by a.partition_size a.po a.tx_size) a.bit_depth a.opt_mode a.enable_intra_edge_filter
    a.intra_param =
    ap (λ (q : Parts). edge_of_parts num a.dst.now here a.bit_depth q) c.prepared-parts.ensures.value
    ∙ ap (λ (p : TransformPosition). edge_of_parts num a.dst.now p a.bit_depth (prepared_parts a.enable_intra_edge_filter a.opt_mode step p.x p.y w h))
    c.position_of-at.ensures in
    record {
      few_left = f.few_left;
      few_above = f.few_above;
      left = f.left ∙ ap (λ (t : Edge). reverse t.left) same;
      corner = f.corner ∙ ap (λ (t : Edge). t.corner ∷ []) same;
      above = f.above ∙ ap (λ (t : Edge). t.above) same;
    }
