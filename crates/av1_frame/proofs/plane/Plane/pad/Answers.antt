use Rattle.std.proofs.Common.{ap, subst}
use Rattle.av1_frame.specs.Planes.{IsWhole}
use Rattle.av1_frame.proofs.Padding.{padded_is}
use Rattle.av1_frame.proofs.Slices.{padded_has, padded_is_whole}
use Rattle.av1_frame.proofs.plane.Plane.pad.Goals as goal

pub returns : goal.returns
returns g c =
    let whole = subst IsWhole c.self.view_is c.self.invariant in
    let same = ap (λ p. p.plane_cfg) c.self.view_is in
    let e = padded_is c.self.inside.plane_cfg c.args.self.now _ _ _ same whole c.pad_rows.ensures c.copy_row.ensures c.copy_row-2.ensures in
    record {
      all = e;
      samples = padded_has g.T.Pixel.num c.args.self.now _ e whole;
      whole = padded_is_whole _ _ e whole;
    }
