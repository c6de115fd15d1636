use Rattle.std.proofs.Common.{ap, ◌∙◌}
use Rattle.std.specs.List.{fold}
use Rattle.av1_blocks.proofs.Depths.{least_depth}
use Rattle.av1_blocks.specs.Transforms.{tx_width}
use Rattle.av1_intra.specs.ChromaFromLuma.{ac_at}
use Rattle.av1_tile.specs.declared.predicted.PredictedPlanes.{PredictedPlanes}
use Rattle.av1_tile.specs.Predicted.{gathered, kept_in}
use Rattle.av1_tile.specs.Steps.{own_prediction}
use Rattle.av1_tile.specs.Walk.{area_at, with_header}
use Rattle.av1_tile.proofs.BlockSteps.{after_layout, after_stores, between_stores, block_inside}
use Rattle.av1_tile.proofs.Keeping.{gathered_taken, block_kept}
use Rattle.av1_tile.proofs.walk.reconstruct_block.Goals as goal

pub predict_block-requires-clause-fits : goal.predict_block-requires-clause-fits
predict_block-requires-clause-fits g c =
    let a = c.args in
    block_inside a.header.now a.block.now a.at a.triples.now a.plane.now c.requires.held.stores.place c.requires.fits c.requires.found

pub add_block-requires-clause-stores : goal.add_block-requires-clause-stores
add_block-requires-clause-stores g c =
    let a = c.args in
    between_stores g.T.Pixel.num g.T.Pixel.pixel g.met.T.Pixel.num_of_pixel g.met.T.Pixel.pixel_of_num a.header.now a.block.now a.at c.requires.place
    a.buffers.now.luma.items a.plane.now c.predict_block.new.plane c.predict_block.ensures.walked
    c.requires.held.stores (least_depth _ c.requires.held.frame.depth)

pub returns-clause-kept : goal.returns-clause-kept
returns-clause-kept g c =
    let a = c.args in
    record {
      stores = after_stores g.T.Pixel.num g.T.Pixel.pixel g.met.T.Pixel.num_of_pixel g.met.T.Pixel.pixel_of_num a.header.now a.block.now a.at c.requires.place
          a.buffers.now.luma.items a.plane.now c.predict_block.new.plane c.predict_block.ensures.walked
          a.triples.now c.add_block.new.plane c.add_block.ensures.painted c.requires.held.stores (least_depth _ c.requires.held.frame.depth);
      config = after_layout g.T.Pixel.num g.T.Pixel.pixel g.met.T.Pixel.num_of_pixel g.met.T.Pixel.pixel_of_num a.header.now a.block.now a.at c.requires.place
          a.buffers.now.luma.items a.plane.now c.predict_block.new.plane c.predict_block.ensures.walked
          a.triples.now c.add_block.new.plane c.add_block.ensures.painted;
    }

pub returns-clause-walked : goal.returns-clause-walked
returns-clause-walked g c = λ value.
    let a = c.args in
    let block = a.block.now in
    let own = own_prediction block a.at.number (area_at block a.at) in
    let between = c.predict_block.new.plane in
    let now = gathered a.buffers.now.kept a.buffers.now.edges.prepared in
    let next = gathered c.keep_block.new.kept c.predict_block.new.buffers.edges.prepared in
    let keep : PredictedPlanes _ → PredictedPlanes _ = λ k. fold (kept_in g.T.Pixel.num g.T.Pixel.pixel block.plane between) k own in
    let taken = gathered_taken g.T.Pixel.num g.T.Pixel.pixel block.plane between now own c.keep_block.new.kept c.predict_block.new.buffers.edges.prepared
    (c.keep_block.ensures ∙ ap keep c.predict_block.ensures.predictions) c.predict_block.ensures.counted in
    block_kept g.T.Pixel.num g.T.Pixel.pixel (with_header a.header.now value) (λ _. ac_at (tx_width block.area.tx_size) a.buffers.now.luma.items)
    a.header.now block a.at a.triples.now a.plane.now between c.add_block.new.plane now next c.requires.found (c.predict_block.ensures.walked value) taken
    c.add_block.ensures.painted
