use Rattle.std.proofs.Common.{ap, ◌∙◌}
use Rattle.av1_tiles.specs.Tiles.{tile_plane}
use Rattle.av1_tiles.proofs.Slots.{none_stored, some_stored}
use Rattle.av1_tiles.proofs.tile.tile_slot.Goals as goal

pub returns-in_default-clause-slot : goal.returns-in_default-clause-slot
returns-in_default-clause-slot c = none_stored c.args.header.now c.args.area c.args.slot c.args.planes.now c.in_default.is c.requires.slot

pub returns-clause-slot : goal.returns-clause-slot
returns-clause-slot c =
    some_stored c.args.header.now c.args.area c.args.slot c.args.planes.now c.in-Some.planes (record { y = c.in_ok-y.y; u = c.in_ok-u.u; v = c.in_ok-v.v })
    c.requires.area c.in-Some.is c.requires.slot
    (c.in_ok-y.ensures ∙ ap (tile_plane c.args.header.now c.args.area 0) c.deref.ensures.value)
    (c.in_ok-u.ensures ∙ ap (tile_plane c.args.header.now c.args.area 1) c.deref-2.ensures.value)
    (c.in_ok-v.ensures ∙ ap (tile_plane c.args.header.now c.args.area 2) c.deref-3.ensures.value)
