use Rattle.std.proofs.Common.{ap, arith, ◌∙◌, map, set, length}
use Rattle.std.proofs.lemmas.List.{length-set}
use Rattle.av1_edges.proofs.Lists.{part_between, one_set}
use Rattle.av1_edges.proofs.Parted.{left_is, above_is, second_part, third_part}
use Rattle.av1_edges.proofs.intra_edges.fill_edge.Goals as goal

pub edge_corner-requires-clause-left : goal.edge_corner-requires-clause-left
edge_corner-requires-clause-left g c =
    let a = c.args in
    left_is g.T.Pixel.num a.dst.now a.at a.bit_depth a.parts c.fill_left.new.left (length c.split_at_mut-left.result.0.now)
    c.num_avail_left-num_avail_left.result c.fill_left.ensures (omega arith) c.num_avail_left-num_avail_left.ensures.value

pub edge_corner-requires-clause-above : goal.edge_corner-requires-clause-above
edge_corner-requires-clause-above g c =
    let a = c.args in
    above_is g.T.Pixel.num a.dst.now a.at a.bit_depth a.parts c.fill_above.new.above (length c.split_at_mut-above.result.0.now)
    c.num_avail_above-num_avail_above.result c.fill_above.ensures (omega arith) c.num_avail_above-num_avail_above.ensures.value

pub returns-clause-left : goal.returns-clause-left
returns-clause-left g c =
    let a = c.args in
    let num = g.T.Pixel.num in
    ap (map num) (part_between c.split_at_mut-samples.result.0.now c.fill_left.new.left _ _ _ (omega arith) (omega arith))
    ∙ left_is num a.dst.now a.at a.bit_depth a.parts c.fill_left.new.left (length c.split_at_mut-left.result.0.now) c.num_avail_left-num_avail_left.result
    c.fill_left.ensures (omega arith) c.num_avail_left-num_avail_left.ensures.value

pub returns-clause-corner : goal.returns-clause-corner
returns-clause-corner g c =
    let a = c.args in
    let num = g.T.Pixel.num in
    let corner = c.split_at_mut-corner.result.0.now in
    let v = c.edge_corner.result in
    ap (map num)
    (second_part c.split_at_mut-samples.result.0.now c.fill_left.new.left (set corner 0 v) _ 128 1 (omega arith) (omega (arith, length-set corner 0 v)))
    ∙ one_set num corner v _ (omega arith) c.edge_corner.ensures

pub returns-clause-above : goal.returns-clause-above
returns-clause-above g c =
    let a = c.args in
    let num = g.T.Pixel.num in
    let corner = c.split_at_mut-corner.result.0.now in
    let v = c.edge_corner.result in
    ap (map num)
    (third_part c.split_at_mut-samples.result.0.now c.fill_left.new.left (set corner 0 v) c.fill_above.new.above _ 129 _
    (omega (arith, length-set corner 0 v)) (omega arith))
    ∙ above_is num a.dst.now a.at a.bit_depth a.parts c.fill_above.new.above (length c.split_at_mut-above.result.0.now) c.num_avail_above-num_avail_above.result
    c.fill_above.ensures (omega arith) c.num_avail_above-num_avail_above.ensures.value
