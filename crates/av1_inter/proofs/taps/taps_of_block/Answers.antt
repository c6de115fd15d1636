use Rattle.std.proofs.Common.{◌+◌, subst, sym}
use Rattle.av1_frame.specs.declared.plane_slice.PlaneSlice.{PlaneSlice}
use Rattle.av1_inter.specs.Places.{IsStoredFrom}
use Rattle.av1_inter.proofs.Corners.{corner_column_fits, corner_fits, corner_is}
use Rattle.av1_inter.proofs.taps.taps_of_block.Goals as goal

pub go_left-requires : goal.go_left-requires
go_left-requires g c = corner_column_fits c.args.src _ _ c.requires.2

pub go_up-requires : goal.go_up-requires
go_up-requires g c = corner_fits c.args.src c.go_left.result _ _ c.go_left.ensures c.requires.2

pub returns-clause-place : goal.returns-clause-place
returns-clause-place g c = corner_is c.args.src c.go_left.result _ c.go_left.ensures c.go_up.ensures

pub returns-clause-stored : goal.returns-clause-stored
returns-clause-stored g c =
    let (columns, rows, stored) = c.requires in
    let same = sym (corner_is c.args.src c.go_left.result _ c.go_left.ensures c.go_up.ensures) in
    (columns, rows, subst (λ (p : PlaneSlice g.row.T.Denot). IsStoredFrom p (columns + 7) (rows + 7)) same stored)
