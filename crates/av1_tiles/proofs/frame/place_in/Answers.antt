use Rattle.av1_tiles.proofs.Placing.{placed_fits, painted_plane_of}
use Rattle.av1_tiles.proofs.frame.place_in.Goals as goal

pub place_plane-requires-clause-fits : goal.place_plane-requires-clause-fits
place_plane-requires-clause-fits g c =
    placed_fits c.args.header.now _ c.args.area c.args.p _ _ c.args.plane.now c.requires.plane c.requires.area c.requires.made c.corner-x.ensures.column
    c.corner-x.ensures.row

pub returns-clause-plane : goal.returns-clause-plane
returns-clause-plane g c = painted_plane_of c.args.header.now c.args.p c.args.plane.now _ _ _ c.requires.plane c.place_plane.ensures
