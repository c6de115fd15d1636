use Rattle.std.proofs.Common.{◌≡◌}
use Rattle.av1_frame.proofs.Gather.{side_place}
use Rattle.av1_frame.proofs.Padding.{gathered_plane}
use Rattle.av1_frame.proofs.plane.Plane.pad_rows.Given as goal

abbrev pub invariant-loop-y : goal.invariant-loop-y
invariant-loop-y g l =
    let p = l.initial.self in
    l.self ≡ gathered_plane p (side_place p.plane_cfg.stride p.plane_cfg.xorigin p.plane_cfg.width l.cfg.yorigin l.y)
