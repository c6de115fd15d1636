use Rattle.av1_sequence.proofs.KeptRows.{shown_row, writable_below, writable_place}
use Rattle.av1_sequence.proofs.sequence.SequenceOf.last_row.Goals as goal

pub visible_row-requires-clause-place : goal.visible_row-requires-clause-place
visible_row-requires-clause-place g c =
    writable_place c.args.self.now.frames c.header.result.now c.args.p c.in-Some.plane.now c.header.ensures c.in-Some.ensures.writable

pub visible_row-requires-clause-in_plane : goal.visible_row-requires-clause-in_plane
visible_row-requires-clause-in_plane g c = writable_below c.args.self.now.frames c.header.result.now c.args.p c.args.y c.header.ensures c.requires.in_plane

pub returns-in-Some : goal.returns-in-Some
returns-in-Some g c =
    shown_row g.T.Pixel.num c.args.self.now.frames c.header.result.now c.header.ensures c.args.p c.args.y c.in-Some.plane.now c.visible_row.result.now
    c.args.self.now.last
    c.requires.in_plane c.visible_row.ensures c.in-Some.ensures.shown
