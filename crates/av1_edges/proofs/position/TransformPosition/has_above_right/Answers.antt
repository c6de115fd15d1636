use Rattle.std.proofs.Common.{refl, rules, ◌∙◌}
use Rattle.av1_edges.specs.Edges.{visible_columns}
use Rattle.av1_edges.proofs.ByBits.{above_by_bits}
use Rattle.av1_edges.proofs.position.TransformPosition.has_above_right.Goals as goal

pub returns-then-is_told_by_bits : goal.returns-then-is_told_by_bits
returns-then-is_told_by_bits g c =
    let a = c.args.self in
    let dst = c.args.dst.now in
    c.has_tr.ensures.by_bits
    ∙ above_by_bits a.partition_size a.partition_bo.0.x a.partition_bo.0.y a.tx_size a.bx a.by dst.plane_cfg.xdec dst.plane_cfg.ydec
    (c.if-is_told_by_bits.ensures.near refl) (c.if-is_told_by_bits.ensures.whole refl) a.x (visible_columns dst) (search rules) (search rules)
