use Rattle.av1_sequence.proofs.KeptRows.{kept_plane, kept_writable, lent_plane}
use Rattle.av1_sequence.proofs.pictures.Pictures.plane_at.Goals as goal

pub returns-clause-shown : goal.returns-clause-shown
returns-clause-shown g c =
    let at = lent_plane c.args.self.now.fi c.args.p c.from.ensures c.slot.ensures c.unwrap.ensures in
    kept_plane g.T.Pixel.num c.args.self.now.header c.args.self.now.fi c.args.place c.args.p c.unwrap.result.now c.requires.kept c.requires.plane at

pub returns-clause-writable : goal.returns-clause-writable
returns-clause-writable g c =
    let at = lent_plane c.args.self.now.fi c.args.p c.from.ensures c.slot.ensures c.unwrap.ensures in
    kept_writable g.T.Pixel.num c.args.self.now.header c.args.self.now.fi c.args.place c.args.p c.unwrap.result.now c.args.self.now.keeps.frame c.requires.kept
    c.requires.plane at
