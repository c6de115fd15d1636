use Rattle.std.proofs.Common.{rules, ◌≡◌, ◌∙◌, List, ℤ, ap, refl, subst, sym, to_z, of_z, w8, w16}
use Rattle.std.specs.List.{fold}
use Rattle.av1_blocks.specs.Transforms.{tx_width}
use Rattle.av1_frame.specs.Planes.{InPlane}
use Rattle.av1_frame.proofs.Planes.{painted_plane_fits}
use Rattle.av1_intra.specs.ChromaFromLuma.{ac_at}
use Rattle.av1_tile.specs.Steps.{own_prediction}
use Rattle.av1_tile.specs.Walk.{area_at, fast_in, with_header}
use Rattle.av1_tile.proofs.Predictions.{walked_intra, walked_from_luma}
use Rattle.av1_tile.proofs.walk.predict_block.Goals as goal

pub returns-in-Intra-clause-walked : goal.returns-in-Intra-clause-walked
returns-in-Intra-clause-walked g c = λ value.
    let a = c.args in
    let b = a.block.now in
    let turn : to_z w8 (of_z w8 c.in-Intra.step) ≡ c.in-Intra.step = search rules in
    walked_intra g.T.Pixel.num g.T.Pixel.pixel (with_header a.header.now value) a.header.now refl
    (λ _. ac_at (tx_width b.area.tx_size) a.buffers.now.luma.items) b a.at.number (area_at b a.at) a.plane.now c.predict_from_edge.new.plane
    c.in-Intra.mode c.in-Intra.step (to_z w8 (of_z w8 c.in-Intra.step)) c.in-Intra.filter (tx_width b.area.tx_size) c.in-Intra.is turn
    c.predict_from_edge.ensures.painted

pub returns-in-FromLuma-clause-walked : goal.returns-in-FromLuma-clause-walked
returns-in-FromLuma-clause-walked g c = λ value.
    let a = c.args in
    let b = a.block.now in
    let same : c.as_slice-luma.result.now ≡ a.buffers.now.luma.items = search rules in
    let weight : to_z w16 (of_z w16 c.from.result) ≡ c.in-FromLuma.alpha = (let own : to_z w16 (of_z w16 c.from.result) ≡ c.from.result = search rules in own)
    ∙ c.from.ensures ∙ (let byte : to_z w8 (of_z w8 c.in-FromLuma.alpha) ≡ c.in-FromLuma.alpha = search rules in byte) in
    walked_from_luma g.T.Pixel.num g.T.Pixel.pixel (with_header a.header.now value) a.header.now refl
    (λ _. ac_at (tx_width b.area.tx_size) c.as_slice-luma.result.now) b a.at.number (area_at b a.at) a.plane.now c.predict_from_edge-in-FromLuma.new.plane
    c.in-FromLuma.alpha (to_z w16 (of_z w16 c.from.result)) c.in-FromLuma.is weight c.predict_from_edge-in-FromLuma.ensures.painted
    ∙ ap (λ (ac : List ℤ). fold (fast_in g.T.Pixel.num g.T.Pixel.pixel (with_header a.header.now value) b.plane (λ _. ac_at (tx_width b.area.tx_size) ac))
    a.plane.now (own_prediction b a.at.number (area_at b a.at))) same

pub returns-in-Intra-clause-fits : goal.returns-in-Intra-clause-fits
returns-in-Intra-clause-fits g c =
    let area = area_at c.args.block.now c.args.at in
    subst (InPlane area) (sym c.predict_from_edge.ensures.painted) (painted_plane_fits c.args.plane.now area _ area c.requires.fits)

pub returns-in-FromLuma-clause-fits : goal.returns-in-FromLuma-clause-fits
returns-in-FromLuma-clause-fits g c =
    let area = area_at c.args.block.now c.args.at in
    subst (InPlane area) (sym c.predict_from_edge-in-FromLuma.ensures.painted) (painted_plane_fits c.args.plane.now area _ area c.requires.fits)
