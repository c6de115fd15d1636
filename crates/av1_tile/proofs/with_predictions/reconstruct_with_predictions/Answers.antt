use Rattle.std.proofs.Common.{◌≤◌, subst, sym}
use Rattle.av1_plan.specs.Values.{leaves_value, plan_value}
use Rattle.av1_plan.specs.declared.header.Header.{Header}
use Rattle.av1_tile.specs.Predicted.{AreBlank, gathered}
use Rattle.av1_tile.specs.Reference.{scene}
use Rattle.av1_tile.specs.Walk.{StoresAll, cell_at}
use Rattle.av1_tile.proofs.PlansOver.{over_fits, over_frame, over_plan, over_predicts, over_serves, over_shows, read_over, whole_over}
use Rattle.av1_tile.proofs.with_predictions.reconstruct_with_predictions.Goals as goal

pub reconstruct_leaves-requires-clause-held : goal.reconstruct_leaves-requires-clause-held
reconstruct_leaves-requires-clause-held g c =
    let h = c.header-header.result.now in
    let plan = plan_value c.args.plan.now in
    let leaves = leaves_value c.leaves_with_triples-leaves.result.now in
    let fi = c.in_ok-fi.fi in
    let same = c.header-header.ensures.value in
    let is = read_over g.T.Pixel.num c.args.plan.now leaves h fi c.leaves_with_triples-leaves.ensures same c.requires.valid c.in_ok-fi.ensures in
    let tile = whole_over c.whole-from.result c.whole-from.ensures.whole g.T.Pixel.num h leaves fi plan c.whole-from.ensures.frame is in
    record {
      frame = over_frame g.T.Pixel.num h leaves c.whole-from.result (scene plan) plan tile;
      depth = subst (λ (k : Header). k.depth ≤ g.T.Pixel.BITS) (sym c.header-header.ensures.value) c.requires.depth;
      stores = c.in_ok-planes.ensures.stores;
    }

pub reconstruct_leaves-requires-clause-fits : goal.reconstruct_leaves-requires-clause-fits
reconstruct_leaves-requires-clause-fits g c =
    let h = c.header-header.result.now in
    let leaves = leaves_value c.leaves_with_triples-leaves.result.now in
    let fi = c.in_ok-fi.fi in
    let same = c.header-header.ensures.value in
    let is = read_over g.T.Pixel.num c.args.plan.now leaves h fi c.leaves_with_triples-leaves.ensures same c.requires.valid c.in_ok-fi.ensures in
    let plan = plan_value c.args.plan.now in
    let tile = whole_over c.whole-from.result c.whole-from.ensures.whole g.T.Pixel.num h leaves fi plan c.whole-from.ensures.frame is in
    over_fits g.T.Pixel.num h leaves c.whole-from.result (scene plan) plan tile c.in_ok-planes.planes c.in_ok-planes.ensures.room

pub reconstruct_leaves-requires-clause-references : goal.reconstruct_leaves-requires-clause-references
reconstruct_leaves-requires-clause-references g c =
    let h = c.header-header.result.now in
    let leaves = leaves_value c.leaves_with_triples-leaves.result.now in
    let fi = c.in_ok-fi.fi in
    let same = c.header-header.ensures.value in
    let is = read_over g.T.Pixel.num c.args.plan.now leaves h fi c.leaves_with_triples-leaves.ensures same c.requires.valid c.in_ok-fi.ensures in
    let plan = plan_value c.args.plan.now in
    let tile = whole_over c.whole-from.result c.whole-from.ensures.whole g.T.Pixel.num h leaves fi plan c.whole-from.ensures.frame is in
    (scene plan, over_serves g.T.Pixel.num h leaves c.whole-from.result (scene plan) plan tile)

pub returns-clause-planes : goal.returns-clause-planes
returns-clause-planes g c =
    let h = c.header-header.result.now in
    let plan = plan_value c.args.plan.now in
    let leaves = leaves_value c.leaves_with_triples-leaves.result.now in
    let fi = c.in_ok-fi.fi in
    let same = c.header-header.ensures.value in
    let is = read_over g.T.Pixel.num c.args.plan.now leaves h fi c.leaves_with_triples-leaves.ensures same c.requires.valid c.in_ok-fi.ensures in
    let made = c.in_ok-planes.ensures in
    let walk = c.reconstruct_leaves in
    let now = c.in_ok-buffers.buffers in
    let from = c.whole-from.result in
    let tile = whole_over from c.whole-from.ensures.whole g.T.Pixel.num h leaves fi plan c.whole-from.ensures.frame is in
    over_plan g.T.Pixel.num h leaves fi plan is walk.new.planes
    (over_shows g.T.Pixel.num h leaves from (scene plan) plan tile g.T.Pixel.pixel g.met.T.Pixel.num_of_pixel g.met.T.Pixel.pixel_of_num
    c.in_ok-planes.planes walk.new.planes (gathered now.kept now.edges.prepared) (gathered walk.new.buffers.kept walk.new.buffers.edges.prepared)
    (cell_at c.in_ok-cells.cells) made.stores made.room walk.ensures.kept.stores
    (walk.ensures.walked (scene plan) (over_serves g.T.Pixel.num h leaves from (scene plan) plan tile)))

pub returns-clause-stores : goal.returns-clause-stores
returns-clause-stores g c =
    subst (λ (h : Header). StoresAll g.T.Pixel.num h c.reconstruct_leaves.new.planes) c.header-header.ensures.value c.reconstruct_leaves.ensures.kept.stores

pub returns-clause-predictions : goal.returns-clause-predictions
returns-clause-predictions g c =
    let h = c.header-header.result.now in
    let plan = plan_value c.args.plan.now in
    let leaves = leaves_value c.leaves_with_triples-leaves.result.now in
    let fi = c.in_ok-fi.fi in
    let same = c.header-header.ensures.value in
    let is = read_over g.T.Pixel.num c.args.plan.now leaves h fi c.leaves_with_triples-leaves.ensures same c.requires.valid c.in_ok-fi.ensures in
    let made = c.in_ok-planes.ensures in
    let walk = c.reconstruct_leaves in
    let now = c.in_ok-buffers.buffers in
    let from = c.whole-from.result in
    let tile = whole_over from c.whole-from.ensures.whole g.T.Pixel.num h leaves fi plan c.whole-from.ensures.frame is in
    let empty = subst (λ (k : Header). AreBlank g.T.Pixel.pixel k c.in_ok-buffers.buffers.kept) (sym c.header-header.ensures.value) c.in_ok-buffers.ensures in
    over_predicts g.T.Pixel.num h leaves fi plan is g.T.Pixel.pixel g.met.T.Pixel.num_of_pixel g.met.T.Pixel.pixel_of_num c.in_ok-planes.planes
    walk.new.planes (gathered now.kept now.edges.prepared) (gathered walk.new.buffers.kept walk.new.buffers.edges.prepared) (cell_at c.in_ok-cells.cells)
    made.stores made.room empty
    (walk.ensures.walked (scene plan) (over_serves g.T.Pixel.num h leaves from (scene plan) plan tile))
