use Rattle.std.proofs.Common.{rules, ◌≡◌, ◌∙◌, ◌/◌, ℕ, ap, reverse, ◌∷◌, [], Some}
use Rattle.av1_blocks.specs.Transforms.{tx_width}
use Rattle.av1_edges.specs.Edges.{Edge, prepared_edge}
use Rattle.av1_edges.specs.Edges.{position_of}
use Rattle.av1_frame.specs.declared.plane.Plane.{Plane}
use Rattle.av1_frame.specs.Areas.{stored_area}
use Rattle.av1_frame.specs.Regions.{painted}
use Rattle.av1_frame.proofs.Planes.{region_painted}
use Rattle.av1_intra.specs.ChromaFromLuma.{ac_at}
use Rattle.av1_tile.specs.PlaneBlocks.{extent_of}
use Rattle.av1_tile.specs.Reference.{by_mode}
use Rattle.av1_tile.specs.Walk.{area_at, edge_for, placed_edge}
use Rattle.av1_tile.proofs.EdgeBlocks.{edge_placed}
use Rattle.av1_tile.proofs.block.predict_from_edge.Given as given
use Rattle.av1_tile.proofs.block.predict_from_edge.Goals as goal

-- the edge that is prepared is the one of the region
edge_is : (g : given.Over) (c : goal.After-edge-1 g)
    → prepared_edge g.T.Pixel.num c.as_region.result
    (position_of (record { 0 = record { x = c.args.block.now.leaf.x / 4; y = c.args.block.now.leaf.y / 4 } }) c.args.at.column c.args.at.row
    c.args.block.now.leaf.size c.offset_at.result c.args.block.now.area.tx_size) c.from.result (Some c.args.how.mode) c.args.header.now.edge_filter
    c.args.how.param
    ≡ edge_for c.args.header.now c.args.block.now c.args.at c.args.how.mode c.args.how.param g.T.Pixel.num c.region_mut-region.result.plane.now
edge_is g c =
    let a = c.args in
    let r = c.as_region in
    edge_placed g.T.Pixel.num a.header.now a.block.now a.at c.requires.place a.plane.now c.requires.stores.place r.result r.ensures.samples r.ensures.cfg
    r.ensures.area a.how.mode a.how.param
    c.offset_at.result c.from.result c.region_mut-region.result.plane.now c.offset_at.ensures c.from.ensures c.region_mut-region.ensures.plane

pub predict_region-requires-clause-left : goal.predict_region-requires-clause-left
predict_region-requires-clause-left g c = c.get_intra_edges.ensures.left ∙ ap (λ (k : Edge). reverse k.left) (edge_is g c)

pub predict_region-requires-clause-corner : goal.predict_region-requires-clause-corner
predict_region-requires-clause-corner g c = c.get_intra_edges.ensures.corner ∙ ap (λ (k : Edge). k.corner ∷ []) (edge_is g c)

pub predict_region-requires-clause-above : goal.predict_region-requires-clause-above
predict_region-requires-clause-above g c = c.get_intra_edges.ensures.above ∙ ap (λ (k : Edge). k.above) (edge_is g c)

pub returns-clause-painted : goal.returns-clause-painted
returns-clause-painted g c =
    let a = c.args in
    let region = c.region_mut-region in
    let block = a.block.now in
    let area = area_at block a.at in
    let edge = placed_edge a.header.now block.plane block a.at.number area g.T.Pixel.num in
    let luma = ac_at (tx_width block.area.tx_size) a.luma.now in
    let f = λ (q : Plane g.row.T.Denot) (r k : ℕ)
    (v : g.row.T.Denot). g.T.Pixel.pixel (by_mode (extent_of a.header.now block.plane) a.how.filter a.how.mode a.how.param area (edge q) luma r k) in
    let place : region.result.area ≡ stored_area a.plane.now.plane_cfg area = search rules in
    let done = region_painted a.plane.now area (f a.plane.now) region.result c.predict_region.new.region region.ensures.plane region.ensures.cfg place
    (c.predict_region.ensures.painted ∙ ap (λ (q : Plane g.row.T.Denot). painted region.result area.width area.height (f q)) region.ensures.plane) in
    ◌∙◌ {b = c.predict_region.new.region.plane.now} (search rules) done
