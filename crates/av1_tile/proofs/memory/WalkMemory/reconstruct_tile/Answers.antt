use Rattle.std.proofs.Common.{ap, ◌∙◌}
use Rattle.av1_plan.specs.Values.{leaves_value}
use Rattle.av1_tile.specs.Memory.{WalkRoom}
use Rattle.av1_tile.specs.Predicted.{gathered}
use Rattle.av1_tile.specs.State.{edges_of}
use Rattle.av1_tile.specs.Walk.{cell_at}
use Rattle.av1_tile.proofs.PlansOver.{over_counts, over_fits, over_frame, over_serves, over_shows}
use Rattle.av1_tile.proofs.memory.WalkMemory.reconstruct_tile.Goals as goal

pub reconstruct_leaves-requires-clause-held : goal.reconstruct_leaves-requires-clause-held
reconstruct_leaves-requires-clause-held g c =
    let a = c.args in
    let tile = c.requires.tile in
    record {
      frame = over_frame g.T.Pixel.num a.header.now (leaves_value a.leaves.now) a.from.now tile.0 tile.1.0 tile.1.1;
      depth = c.requires.depth;
      stores = c.requires.stores;
    }

pub reconstruct_leaves-requires-clause-fits : goal.reconstruct_leaves-requires-clause-fits
reconstruct_leaves-requires-clause-fits g c =
    let a = c.args in
    let tile = c.requires.tile in
    over_fits g.T.Pixel.num a.header.now (leaves_value a.leaves.now) a.from.now tile.0 tile.1.0 tile.1.1 a.planes.now c.requires.superblocks

pub reconstruct_leaves-requires-clause-references : goal.reconstruct_leaves-requires-clause-references
reconstruct_leaves-requires-clause-references g c =
    let a = c.args in
    let tile = c.requires.tile in
    (tile.0, over_serves g.T.Pixel.num a.header.now (leaves_value a.leaves.now) a.from.now tile.0 tile.1.0 tile.1.1)

pub returns-clause-shown : goal.returns-clause-shown
returns-clause-shown g c = λ scene plan is.
    let a = c.args in
    let h = a.header.now in
    let leaves = leaves_value a.leaves.now in
    let walk = c.reconstruct_leaves in
    let now = c.self.inside.buffers in
    over_shows g.T.Pixel.num h leaves a.from.now scene plan is g.T.Pixel.pixel g.met.T.Pixel.num_of_pixel g.met.T.Pixel.pixel_of_num a.planes.now
    walk.new.planes (gathered now.kept now.edges.prepared) (gathered walk.new.buffers.kept walk.new.buffers.edges.prepared) (cell_at c.lay_out.new.self)
    c.requires.stores c.requires.superblocks walk.ensures.kept.stores
    (walk.ensures.walked scene (over_serves g.T.Pixel.num h leaves a.from.now scene plan is))

pub returns-clause-edges : goal.returns-clause-edges
returns-clause-edges g c = λ scene plan is.
    let a = c.args in
    let walk = c.reconstruct_leaves in
    let h = a.header.now in
    let leaves = leaves_value a.leaves.now in
    let now = c.self.inside.buffers in
    over_counts g.T.Pixel.num h leaves a.from.now scene plan is g.T.Pixel.pixel a.planes.now walk.new.planes (gathered now.kept now.edges.prepared)
    (gathered walk.new.buffers.kept walk.new.buffers.edges.prepared) (cell_at c.lay_out.new.self)
    (walk.ensures.walked scene (over_serves g.T.Pixel.num h leaves a.from.now scene plan is))
    ∙ ap (λ (r : WalkRoom). edges_of r.edges plan) c.self.view_is
