use Rattle.std.proofs.Common.{◌≡◌, arith, refl}
use Rattle.av1_plan.proofs.ReadPlans.{stored_planes, read_samples}
use Rattle.av1_plan.proofs.plan.Plan.reference.Goals as goal

pub returns-in-0-clause-read : goal.returns-in-0-clause-read
returns-in-0-clause-read c =
    let e = stored_planes c.args.self.now.references.items c.args.slot c.index.result.now c.in_ok-planes.planes.now (omega (arith, c.args.self.now.slots))
    (grind arith) (grind arith) in
    read_samples c.args.self.now c.args.slot c.args.p _ c.requires.slot c.requires.plane (rw (c.in-0.is, c.deref.ensures.value, e) refl)

pub returns-in-1-clause-read : goal.returns-in-1-clause-read
returns-in-1-clause-read c =
    let e = stored_planes c.args.self.now.references.items c.args.slot c.index.result.now c.in_ok-planes.planes.now (omega (arith, c.args.self.now.slots))
    (grind arith) (grind arith) in
    read_samples c.args.self.now c.args.slot c.args.p _ c.requires.slot c.requires.plane (rw (c.in-1.is, c.deref-in-1.ensures.value, e) refl)

pub returns-in_default-clause-read : goal.returns-in_default-clause-read
returns-in_default-clause-read c =
    let e = stored_planes c.args.self.now.references.items c.args.slot c.index.result.now c.in_ok-planes.planes.now (omega (arith, c.args.self.now.slots))
    (grind arith) (grind arith) in
    let last : c.args.p ≡ 2 = grind arith in
    read_samples c.args.self.now c.args.slot c.args.p _ c.requires.slot c.requires.plane (rw (last, c.deref-in_default.ensures.value, e) refl)
