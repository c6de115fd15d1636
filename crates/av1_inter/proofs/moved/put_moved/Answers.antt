use Rattle.std.proofs.Common.{arith, rules, ap, ◌≡◌, w16, w32, FitsSigned}
use Rattle.av1_frame.specs.declared.plane.PlaneConfig.{PlaneConfig}
use Rattle.av1_frame.proofs.Regions.{painted_same}
use Rattle.av1_inter.specs.Places.{corner_of, samples_from}
use Rattle.av1_inter.specs.Reference.{frame_filter, moved, moved_single}
use Rattle.av1_inter.proofs.Vectors.{fraction_is, single_is}
use Rattle.av1_inter.proofs.moved.put_moved.Goals as goal

pub returns-clause-painted : goal.returns-clause-painted
returns-clause-painted g c =
    let num = g.T.Pixel.num in
    let cfg = c.args.plane.now.plane_cfg in
    let ex : c.config-cfg.result.xdec ≡ cfg.xdec = ap (λ (d : PlaneConfig). d.xdec) c.config-cfg.ensures in
    let ey : c.config-cfg.result.ydec ≡ cfg.ydec = ap (λ (d : PlaneConfig). d.ydec) c.config-cfg.ensures in
    let fc : FitsSigned w16 c.args.mv.col = search rules in
    let fr : FitsSigned w16 c.args.mv.row = search rules in
    let rx : FitsSigned w32 c.sixteenths-col_frac.result = search rules in
    let ry : FitsSigned w32 c.sixteenths-row_frac.result = search rules in
    painted_same c.args.dst.now _ c.args.block.width c.args.block.height _
    (λ r q _.
    g.T.Pixel.pixel
    (moved_single num c.args.fi.now.bit_depth (frame_filter c.args.fi.now) c.args.plane.now c.args.block.at.x c.args.block.at.y c.args.mv c.args.block.width
    c.args.block.height
    r q))
    c.put_8tap.ensures.painted
    (λ r q v l h.
    ap g.T.Pixel.pixel
    (single_is c.args.fi.now.bit_depth _ _ _ _ c.args.block.width c.args.block.height _ _ _ _ (samples_from num (corner_of c.moved_slice-src.result))
    (moved num c.args.plane.now c.args.block.at.x c.args.block.at.y c.args.mv) c.frame_filter.ensures c.frame_filter-2.ensures
    (fraction_is _ c.args.mv.col _ cfg.xdec rx fc ex c.sixteenths-col_frac.ensures.value)
    (fraction_is _ c.args.mv.row _ cfg.ydec ry fr ey c.sixteenths-row_frac.ensures.value)
    (λ x y a b. c.moved_slice-src.ensures.samples x y (omega (arith, c.requires.reference.xpad)) (omega (arith, c.requires.reference.ypad))) r q l h))
