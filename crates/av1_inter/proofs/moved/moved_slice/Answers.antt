use Rattle.std.proofs.Common.{arith, rules, ap, ◌≡◌, ◌∙◌, w16, w64, FitsSigned, pos, ◌+ℤ◌, ◌-ℤ◌}
use Rattle.av1_frame.specs.declared.plane.PlaneConfig.{PlaneConfig}
use Rattle.av1_frame.specs.declared.plane_slice.PlaneSlice.{PlaneSlice}
use Rattle.av1_frame.proofs.Slices.{slice_plane_is}
use Rattle.av1_inter.specs.Reference.{whole_part}
use Rattle.av1_inter.proofs.Vectors.{clamped_room, moved_is, placed_is}
use Rattle.av1_inter.proofs.moved.moved_slice.Goals as goal

pub subslice-requires-clause-column : goal.subslice-requires-clause-column
subslice-requires-clause-column g c =
    clamped_room _ _ _ _ _ _ (ap (λ (s : PlaneSlice g.row.T.Denot). s.x) c.clamp.ensures) (ap (λ (d : PlaneConfig). d.xpad) c.slice.ensures.cfg)
    (ap (λ (d : PlaneConfig). d.width) c.slice.ensures.cfg) (
      omega (arith, c.requires.padded.whole.visible_columns, c.requires.padded.whole.few_columns, c.requires.xpad),
      omega
          (arith, c.requires.padded.whole.visible_columns, c.requires.padded.whole.few_columns, c.requires.xpad),
    )

pub subslice-requires-clause-row : goal.subslice-requires-clause-row
subslice-requires-clause-row g c =
    clamped_room _ _ _ _ _ _ (ap (λ (s : PlaneSlice g.row.T.Denot). s.y) c.clamp.ensures) (ap (λ (d : PlaneConfig). d.ypad) c.slice.ensures.cfg)
    (ap (λ (d : PlaneConfig). d.height) c.slice.ensures.cfg) (
      omega (arith, c.requires.padded.whole.visible_rows, c.requires.padded.whole.few_rows, c.requires.ypad),
      omega
          (arith, c.requires.padded.whole.visible_rows, c.requires.padded.whole.few_rows, c.requires.ypad),
    )

pub returns-clause-stored : goal.returns-clause-stored
returns-clause-stored g c =
    let cfg = c.args.plane.now.plane_cfg in
    let ex : c.config-cfg.result.xdec ≡ cfg.xdec = ap (λ (d : PlaneConfig). d.xdec) c.config-cfg.ensures in
    let ey : c.config-cfg.result.ydec ≡ cfg.ydec = ap (λ (d : PlaneConfig). d.ydec) c.config-cfg.ensures in
    let fx : FitsSigned w64 c.args.at.x = search rules in
    let fy : FitsSigned w64 c.args.at.y = search rules in
    let fc : FitsSigned w16 c.args.mv.col = search rules in
    let fr : FitsSigned w16 c.args.mv.row = search rules in
    let rx : FitsSigned w64 c.moved_place.result = search rules in
    let ry : FitsSigned w64 c.moved_place-2.result = search rules in
    (moved_is g.T.Pixel.num c.args.plane.now c.slice.result c.clamp.result c.subslice.result (c.args.at.x +ℤ (whole_part c.args.mv.col cfg.xdec -ℤ pos 3))
    (c.args.at.y +ℤ (whole_part c.args.mv.row cfg.ydec -ℤ pos 3))
    (slice_plane_is c.slice.result c.args.plane.now c.slice.ensures.samples c.slice.ensures.cfg)
    (c.slice.ensures.x ∙ placed_is _ c.args.at.x c.args.mv.col _ cfg.xdec rx fx fc ex c.moved_place.ensures)
    (c.slice.ensures.y ∙ placed_is _ c.args.at.y c.args.mv.row _ cfg.ydec ry fy fr ey c.moved_place-2.ensures) c.clamp.ensures c.subslice.ensures
    c.requires.padded).stored

pub returns-clause-samples : goal.returns-clause-samples
returns-clause-samples g c =
    let cfg = c.args.plane.now.plane_cfg in
    let ex : c.config-cfg.result.xdec ≡ cfg.xdec = ap (λ (d : PlaneConfig). d.xdec) c.config-cfg.ensures in
    let ey : c.config-cfg.result.ydec ≡ cfg.ydec = ap (λ (d : PlaneConfig). d.ydec) c.config-cfg.ensures in
    let fx : FitsSigned w64 c.args.at.x = search rules in
    let fy : FitsSigned w64 c.args.at.y = search rules in
    let fc : FitsSigned w16 c.args.mv.col = search rules in
    let fr : FitsSigned w16 c.args.mv.row = search rules in
    let rx : FitsSigned w64 c.moved_place.result = search rules in
    let ry : FitsSigned w64 c.moved_place-2.result = search rules in
    (moved_is g.T.Pixel.num c.args.plane.now c.slice.result c.clamp.result c.subslice.result (c.args.at.x +ℤ (whole_part c.args.mv.col cfg.xdec -ℤ pos 3))
    (c.args.at.y +ℤ (whole_part c.args.mv.row cfg.ydec -ℤ pos 3))
    (slice_plane_is c.slice.result c.args.plane.now c.slice.ensures.samples c.slice.ensures.cfg)
    (c.slice.ensures.x ∙ placed_is _ c.args.at.x c.args.mv.col _ cfg.xdec rx fx fc ex c.moved_place.ensures)
    (c.slice.ensures.y ∙ placed_is _ c.args.at.y c.args.mv.row _ cfg.ydec ry fy fr ey c.moved_place-2.ensures) c.clamp.ensures c.subslice.ensures
    c.requires.padded).samples
