use Rattle.std.proofs.Common.{map}
use Rattle.av1_sequence.proofs.Framed.{slot_seen}
use Rattle.av1_sequence.proofs.sequence.SequenceOf.slot_row.Goals as goal

pub row_at-requires-clause-kept : goal.row_at-requires-clause-kept
row_at-requires-clause-kept g c = c.self.inside.pictures.keeps.kept c.args.slot c.in-Some.place c.requires.slot c.in-Some.is

pub returns-in-Some : goal.returns-in-Some
returns-in-Some g c =
    slot_seen c.args.self.now c.self.inside c.self.view_is c.args.slot c.in-Some.place c.args.p c.args.y (map g.T.Pixel.num c.row_at.result.now)
    c.requires.slot c.in-Some.is
    c.row_at.ensures
