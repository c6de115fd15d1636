use Rattle.std.proofs.Common.{◌≡◌, ◌-◌, ◌*◌, ◌++◌, drop, length, min}
use Rattle.av1_view.specs.Packed.{group_count, grouped, numbers}
use Rattle.av1_view.proofs.packed.pack.Given as goal

abbrev pub invariant-groups : goal.invariant-groups
invariant-groups l =
    let groups = group_count (min (length l.planes) (length l.predictions)) in
    let ns = numbers l.row l.planes l.predictions in
    l.bytes.items ++ grouped (groups - l.k) (drop (8 * l.k) ns) ≡ grouped groups ns
