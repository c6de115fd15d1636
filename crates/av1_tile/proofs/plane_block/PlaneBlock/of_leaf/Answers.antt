use Rattle.std.proofs.Common.{[]}
use Rattle.av1_tile.specs.Walk.{leaf_with}
use Rattle.av1_tile.proofs.LeafBlocks.{told}
use Rattle.av1_tile.proofs.plane_block.PlaneBlock.of_leaf.Goals as goal

pub returns : goal.returns
returns c = λ h at.
    told h c.args.near c.args.p (leaf_with c.args.leaf.now [] [] []) c.from.result c.from-2.result c.args.area c.prediction_of.result c.type_of.result
    c.requires c.from.ensures c.from-2.ensures at c.prediction_of.ensures c.type_of.ensures
