use Rattle.std.proofs.Common.{[], None}
use Rattle.av1_tile.specs.Walk.{known_in, leaf_with}
use Rattle.av1_tile.proofs.LeafBlocks.{by_parts, no_parts}
use Rattle.av1_tile.proofs.walk.inter_block.Goals as goal

pub returns : goal.returns
returns g c =
    let h = c.args.frame.now.header.now in
    let known = known_in c.args.frame.now in
    let l = leaf_with c.args.leaf.now [] [] [] in
    by_parts h known c.args.p l c.requires.plane c.of_leaf.result None c.requires.kind (no_parts h known.motions c.args.p l c.requires.alone)
    (c.of_leaf.ensures c.args.frame.now.header.now c.plane_area.ensures)
