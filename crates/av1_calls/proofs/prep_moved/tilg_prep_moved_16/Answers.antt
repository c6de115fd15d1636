use Rattle.std.proofs.Common.{rules, subst}
use Rattle.std.proofs.lemmas.List.{map-id}
use Rattle.av1_calls.specs.Motions.{HoldBlock}
use Rattle.av1_calls.specs.MovedBlocks.{motion_of, moved_source}
use Rattle.av1_calls.proofs.MovedBlocks.{moved_numbers}
use Rattle.av1_calls.proofs.prep_moved.tilg_prep_moved_16.Goals as goal

pub prep_moved-requires-clause-deep : goal.prep_moved-requires-clause-deep
prep_moved-requires-clause-deep c = moved_numbers c.args.bit_depth c.args.plane.now c.args.block.now c.args.src.now c.requires

pub returns-in-Ok : goal.returns-in-Ok
returns-in-Ok c =
    let a = c.args in
    let p = a.plane.now in
    let b = a.block.now in
    let held : HoldBlock a.bit_depth (motion_of p b) (moved_source p b a.src.now) a.values.now c.prep_moved.new.values =
    subst (λ xs. HoldBlock a.bit_depth (motion_of p b) (moved_source p b xs) a.values.now c.prep_moved.new.values) (map-id a.src.now) c.prep_moved.ensures in
    search rules
