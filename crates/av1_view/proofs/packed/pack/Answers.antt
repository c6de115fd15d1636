use Rattle.std.proofs.Common.{ℕ, ◌<◌, ◌≤◌, arith, length, min}
use Rattle.av1_view.specs.Packed.{group_count, numbers}
use Rattle.av1_view.proofs.Packing.{last_group, next_group, packed_are}
use Rattle.av1_view.proofs.packed.pack.Goals as goal

pub groups-preserved : goal.groups-preserved
groups-preserved c =
    let groups : ℕ = group_count (min (length c.args.planes.now) (length c.args.predictions.now)) in
    let within : c.groups.k < groups = omega (arith, c.groups-test.true, c.min-count.ensures) in
    next_group groups c.groups.k (numbers c.args.row c.args.planes.now c.args.predictions.now) c.groups.bytes.items _ within c.in_ok-push_part.ensures
    c.groups.invariant

pub returns : goal.returns
returns c =
    let groups : ℕ = group_count (min (length c.args.planes.now) (length c.args.predictions.now)) in
    let past : groups ≤ c.groups.k = omega (arith, c.groups-test.false, c.min-count.ensures) in
    packed_are c.args.row c.args.planes.now c.args.predictions.now c.groups.bytes.items
    (last_group groups c.groups.k (numbers c.args.row c.args.planes.now c.args.predictions.now) c.groups.bytes.items past c.groups.invariant)
