use Rattle.av1_tiles.proofs.Seen.{at_tile}
use Rattle.av1_tiles.proofs.frame.references_of.Goals as goal

pub returns-clause-place : goal.returns-clause-place
returns-clause-place g c =
    at_tile c.args.header.now c.args.area (record { fi = c.args.fi; luma = c.rect_in.result; chroma = c.rect_in-2.result }) c.rect_in.ensures.column
    c.rect_in.ensures.row c.rect_in-2.ensures.column c.rect_in-2.ensures.row
