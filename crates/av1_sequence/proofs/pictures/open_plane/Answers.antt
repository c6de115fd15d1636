use Rattle.av1_sequence.proofs.Shown.{sides_as}
use Rattle.av1_sequence.proofs.pictures.open_plane.Goals as goal

pub set_sides-requires : goal.set_sides-requires
set_sides-requires g c = sides_as c.args.plane.now _ _ _ _ c.plane_width.ensures.value c.plane_height.ensures.value c.requires
