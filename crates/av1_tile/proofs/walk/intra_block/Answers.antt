use Rattle.std.proofs.Common.{[]}
use Rattle.av1_tile.specs.Walk.{known_in, leaf_with}
use Rattle.av1_tile.proofs.LeafBlocks.{by_filter}
use Rattle.av1_tile.proofs.walk.intra_block.Goals as goal

pub returns : goal.returns
returns g c =
    by_filter c.args.frame.now.header.now (known_in c.args.frame.now) c.args.p (leaf_with c.args.leaf.now [] [] []) c.requires.plane c.of_leaf.result
    c.plane_area-area.result c.filter_parameters.result c.requires.kind c.plane_area-area.ensures c.filter_parameters.ensures
    (c.of_leaf.ensures c.args.frame.now.header.now c.plane_area-area.ensures)
