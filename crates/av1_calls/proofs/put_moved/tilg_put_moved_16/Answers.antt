use Rattle.std.proofs.Common.{◌≡◌, ◌∙◌, ap, rules}
use Rattle.std.proofs.lemmas.List.{map-id}
use Rattle.av1_calls.specs.Motions.{place, with_block}
use Rattle.av1_calls.specs.MovedBlocks.{motion_of, moved_source}
use Rattle.av1_calls.proofs.MovedBlocks.{moved_numbers}
use Rattle.av1_calls.proofs.put_moved.tilg_put_moved_16.Goals as goal

pub put_moved-requires-clause-deep : goal.put_moved-requires-clause-deep
put_moved-requires-clause-deep c = moved_numbers c.args.bit_depth c.args.plane.now c.args.block.now c.args.src.now c.requires

pub returns-in-Ok : goal.returns-in-Ok
returns-in-Ok c =
    let a = c.args in
    let to = place a.dst_stride a.dst_x a.dst_y in
    let p = a.plane.now in
    let b = a.block.now in
    let same : c.put_moved.new.dst ≡ with_block a.bit_depth to (motion_of p b) (moved_source p b a.src.now) a.dst.now =
    c.put_moved.ensures ∙ ap (λ xs. with_block a.bit_depth to (motion_of p b) (moved_source p b xs) a.dst.now) (map-id a.src.now) in
    search rules
