use Rattle.av1_edges.proofs.Parted.{corner_plain, corner_smooth}
use Rattle.av1_edges.proofs.intra_edges.edge_corner.Goals as goal

pub returns-then-parts : goal.returns-then-parts
returns-then-parts g c =
    let a = c.args in
    let q = c.requires in
    corner_smooth g.T.Pixel.num a.dst.now a.at a.bit_depth a.parts a.left.now a.above.now _ _ _ _ q.left q.above c.corner_of-corner.ensures
    c.smooth_corner.ensures c.index-left-left.is c.index-above-0.is (q.left_some c.if-parts.true) q.above_some c.if-parts.true

pub returns-else-parts : goal.returns-else-parts
returns-else-parts g c =
    let a = c.args in
    corner_plain g.T.Pixel.num a.dst.now a.at a.bit_depth a.parts _ c.corner_of-corner.ensures c.if-parts.false
