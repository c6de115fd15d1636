use Rattle.std.proofs.Common.{◌≡◌, ◌∙◌, ap, length, rules}
use Rattle.std.proofs.lemmas.List.{map-id}
use Rattle.av1_calls.specs.Motions.{AreOfDepth, place, source_at, with_block}
use Rattle.av1_calls.proofs.Motions.{source_around, tested_deep}
use Rattle.av1_calls.proofs.put_8tap.tilg_put_tested_16.Goals as goal

pub put-requires-clause-deep : goal.put-requires-clause-deep
put-requires-clause-deep c =
    let a = c.args in
    tested_deep a.bit_depth (place a.src_stride a.src_x a.src_y) a.src.now a.block.now c.in-Ok.ensures.depth c.requires

pub returns-in-Ok : goal.returns-in-Ok
returns-in-Ok c =
    let a = c.args in
    let to = place a.dst_stride a.dst_x a.dst_y in
    let from = place a.src_stride a.src_x a.src_y in
    let deep : AreOfDepth a.bit_depth from a.src.now a.block.now = record { is_depth = c.in-Ok.ensures.depth; within = c.requires } in
    let same : c.put.new.dst ≡ with_block a.bit_depth to a.block.now (source_at from a.src.now) a.dst.now =
    c.put.ensures _ (source_around from a.block.now _ (length a.src.now) c.in-Ok.ensures.good.motion.source)
    ∙ ap (λ xs. with_block a.bit_depth to a.block.now (source_at from xs) a.dst.now) (map-id a.src.now) in
    search rules
