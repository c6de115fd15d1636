use Rattle.std.proofs.Common.{ℕ, List, ap, ◌∙◌}
use Rattle.av1_plan.specs.Geometry.{shown_columns}
use Rattle.av1_sequence.specs.Slots.{row_in}
use Rattle.av1_sequence.proofs.KeptRows.{plane_row}
use Rattle.av1_sequence.proofs.pictures.Pictures.row_at.Goals as goal

pub visible_row-requires-clause-place : goal.visible_row-requires-clause-place
visible_row-requires-clause-place g c = c.plane_at.ensures.writable.place

pub returns : goal.returns
returns g c = λ frame shows.
    plane_row g.T.Pixel.num c.args.self.now.header c.args.p c.plane_at.result.now c.args.y c.visible_row.result.now c.requires.in_plane c.visible_row.ensures
    ∙ ap (λ (xs : List ℕ). row_in (shown_columns c.args.self.now.header c.args.p) xs c.args.y) (c.plane_at.ensures.shown frame shows)
