use Rattle.av1_sequence.proofs.Framed.{also_kept, also_shown}
use Rattle.av1_sequence.proofs.pictures.Pictures.also_in.Goals as goal

pub invariant_of-self : goal.invariant_of-self
invariant_of-self g c =
    let next = c.replaced-self in
    let pictures = c.args.self.now in
    record {
      keeps = also_kept g.T.Pixel.num pictures.header pictures.fi pictures.places next.result c.args.refresh c.args.place pictures.keeps c.requires.kept
          next.ensures.count next.ensures.new next.ensures.old;
    }

pub returns-clause-slots : goal.returns-clause-slots
returns-clause-slots g c =
    let next = c.replaced-self in
    let pictures = c.args.self.now in
    also_shown g.T.Pixel.num pictures.header pictures.fi pictures.places next.result c.args.refresh c.args.place next.ensures.new next.ensures.old
