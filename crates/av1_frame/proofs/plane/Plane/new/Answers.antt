use Rattle.av1_frame.proofs.Fits.{block_side}
use Rattle.av1_frame.proofs.plane.Plane.new.Goals as goal

pub next_multiple_of-requires-clause-nonzero : goal.next_multiple_of-requires-clause-nonzero
next_multiple_of-requires-clause-nonzero g c = (block_side c.args.xdec c.requires.xdec).0

pub next_multiple_of-requires-2-clause-nonzero : goal.next_multiple_of-requires-2-clause-nonzero
next_multiple_of-requires-2-clause-nonzero g c = (block_side c.args.ydec c.requires.ydec).0
