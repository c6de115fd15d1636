use Rattle.std.proofs.Common.{[]}
use Rattle.av1_tile.specs.Walk.{known_in, leaf_with}
use Rattle.av1_tile.proofs.LeafBlocks.{by_parts}
use Rattle.av1_tile.proofs.walk.shared_block.Goals as goal

pub returns : goal.returns
returns g c =
    by_parts c.args.frame.now.header.now (known_in c.args.frame.now) c.args.p (leaf_with c.args.leaf.now [] [] []) c.requires.plane c.of_leaf.result
    c.parts_in.result c.requires.kind c.parts_in.ensures (c.of_leaf.ensures c.args.frame.now.header.now c.plane_area.ensures)
