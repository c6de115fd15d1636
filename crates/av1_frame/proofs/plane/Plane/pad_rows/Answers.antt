use Rattle.std.proofs.Common.{ap, sym, subst, refl, arith}
use Rattle.av1_frame.specs.Planes.{IsWhole}
use Rattle.av1_frame.proofs.Gather.{side_place, sides_none}
use Rattle.av1_frame.proofs.Padding.{row_in, sides_filled_more, sides_filled}
use Rattle.av1_frame.proofs.plane.Plane.pad_rows.Goals as goal

pub loop-y-init : goal.loop-y-init
loop-y-init g c =
    let p = c.args.self.now in
    sym (ap (λ s. record p { samples = s }) (sides_none p.plane_cfg.stride p.plane_cfg.xorigin p.plane_cfg.width c.self.inside.plane_cfg.yorigin p.samples))

pub part_mut-requires : goal.part_mut-requires
part_mut-requires g c =
    let whole = subst IsWhole c.self.view_is c.self.invariant in
    let e = ap (λ p. p.plane_cfg) c.self.view_is in
    let first = ap (λ i. i.yorigin) e in
    let rows = ap (λ i. i.height) e in
    let p = c.args.self.now in
    row_in p c.loop-y.self (side_place p.plane_cfg.stride p.plane_cfg.xorigin p.plane_cfg.width c.self.inside.plane_cfg.yorigin c.loop-y.y) c.loop-y.y
    c.self.inside.plane_cfg.stride whole
    c.loop-y.invariant (ap (λ i. i.stride) e) (omega (arith, first, rows, whole.visible_rows))

pub loop-y-preserved : goal.loop-y-preserved
loop-y-preserved g c =
    let whole = subst IsWhole c.self.view_is c.self.invariant in
    let e = ap (λ p. p.plane_cfg) c.self.view_is in
    let first = ap (λ i. i.yorigin) e in
    let rows = ap (λ i. i.height) e in
    sides_filled_more c.args.self.now c.loop-y.self _ c.self.inside.plane_cfg.stride c.loop-y.y whole (ap (λ i. i.stride) e)
    (omega (arith, first, rows, whole.visible_rows)) c.self.inside.plane_cfg.xorigin c.self.inside.plane_cfg.width c.self.inside.plane_cfg.yorigin
    c.part_mut.result.now c.pad_row.new.row (ap (λ i. i.xorigin) e)
    (ap (λ i. i.width) e) (omega arith) c.loop-y.invariant c.part_mut.ensures.value c.pad_row.ensures refl

pub returns : goal.returns
returns g c =
    let e = ap (λ p. p.plane_cfg) c.self.view_is in
    let first = ap (λ i. i.yorigin) e in
    let rows = ap (λ i. i.height) e in
    sides_filled c.args.self.now c.loop-y.self _ c.loop-y.y _ _ first (omega (arith, first, rows)) c.loop-y.invariant
