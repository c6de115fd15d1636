use Rattle.std.proofs.Common.{ap, sym, subst, arith}
use Rattle.av1_frame.specs.Planes.{IsWhole}
use Rattle.av1_frame.proofs.Gather.{rows_none}
use Rattle.av1_frame.proofs.Padding.{row_in, rows_apart, copied_more, rows_copied}
use Rattle.av1_frame.proofs.plane.Plane.copy_row.Goals as goal

pub loop-y-init : goal.loop-y-init
loop-y-init g c =
    let p = c.args.self.now in
    sym (ap (λ s. record p { samples = s }) (rows_none p.plane_cfg.stride c.args.from c.args.first p.samples))

pub copy_apart-requires-clause-from : goal.copy_apart-requires-clause-from
copy_apart-requires-clause-from g c =
    row_in c.args.self.now c.loop-y.self _ c.args.from c.self.inside.plane_cfg.stride (subst IsWhole c.self.view_is c.self.invariant) c.loop-y.invariant
    (ap (λ p. p.plane_cfg.stride) c.self.view_is) c.requires.from

pub copy_apart-requires-clause-to : goal.copy_apart-requires-clause-to
copy_apart-requires-clause-to g c =
    row_in c.args.self.now c.loop-y.self _ c.loop-y.y c.self.inside.plane_cfg.stride (subst IsWhole c.self.view_is c.self.invariant) c.loop-y.invariant
    (ap (λ p. p.plane_cfg.stride) c.self.view_is) (omega arith)

pub copy_apart-requires-clause-apart : goal.copy_apart-requires-clause-apart
copy_apart-requires-clause-apart g c =
    rows_apart c.self.inside.plane_cfg.stride c.args.from c.args.first c.args.end c.loop-y.y (omega arith) c.loop-y-test.true c.requires.apart

pub loop-y-preserved : goal.loop-y-preserved
loop-y-preserved g c =
    copied_more c.args.self.now c.loop-y.self _ c.self.inside.plane_cfg.stride c.loop-y.y (subst IsWhole c.self.view_is c.self.invariant)
    (ap (λ p. p.plane_cfg.stride) c.self.view_is)
    (omega arith) c.args.from c.args.first c.args.end c.requires.from (omega arith) c.loop-y-test.true c.requires.apart c.loop-y.invariant c.copy_apart.ensures

pub returns : goal.returns
returns g c =
    rows_copied c.args.self.now c.loop-y.self c.args.from c.args.first c.loop-y.y c.args.end (omega arith) c.loop-y.invariant
