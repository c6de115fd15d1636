use Rattle.std.proofs.Common.{sym, ◌∙◌}
use Rattle.av1_sequence.proofs.Serving.{read_there}
use Rattle.av1_sequence.proofs.pictures.Pictures.is_read.Goals as goal

pub returns-then-is_named : goal.returns-then-is_named
returns-then-is_named g c =
    let s = c.args.self.now in
    read_there g.T.Pixel.num s.header s.fi s.places s.keeps c.args.head.now.slots c.args.slot c.is_some.result c.requires (sym c.is_named.ensures
    ∙ c.if-is_named.true) c.is_some.ensures
