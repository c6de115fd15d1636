use Rattle.std.proofs.Common.{length, rules, subst}
use Rattle.std.proofs.lemmas.List.{map-id}
use Rattle.av1_calls.specs.Motions.{AreOfDepth, HoldBlock, place, source_at}
use Rattle.av1_calls.proofs.Motions.{source_around, tested_deep}
use Rattle.av1_calls.proofs.prep_8tap.tilg_prep_tested_16.Goals as goal

pub prep-requires-clause-deep : goal.prep-requires-clause-deep
prep-requires-clause-deep c =
    let a = c.args in
    tested_deep a.bit_depth (place a.src_stride a.src_x a.src_y) a.src.now a.block.now c.in-Ok.ensures.depth c.requires

pub returns-in-Ok : goal.returns-in-Ok
returns-in-Ok c =
    let a = c.args in
    let from = place a.src_stride a.src_x a.src_y in
    let deep : AreOfDepth a.bit_depth from a.src.now a.block.now = record { is_depth = c.in-Ok.ensures.depth; within = c.requires } in
    let held : HoldBlock a.bit_depth a.block.now (source_at from a.src.now) a.values.now c.prep.new.values =
    subst (λ xs. HoldBlock a.bit_depth a.block.now (source_at from xs) a.values.now c.prep.new.values) (map-id a.src.now)
    (c.prep.ensures _ (source_around from a.block.now _ (length a.src.now) c.in-Ok.ensures.good.motion.source)) in
    search rules
