use Rattle.std.proofs.Common.{arith, ℕ, ◌-◌, ap, fold, max, take_all, ◌∙◌}
use Rattle.std.specs.Int.{leading_zeros, w8}
use Rattle.av1_view.proofs.Packing.{bits_each}
use Rattle.av1_view.proofs.packed.bits_of.Goals as goal

pub returns-clause-each : goal.returns-clause-each
returns-clause-each c =
    let group = c.args.group.now in
    let greatest = c.loop-n.invariant ∙ ap (fold max 0) (take_all c.loop-n.n-index group (omega (arith, c.loop-n-test.false))) in
    bits_each group (8 - leading_zeros w8 c.loop-n.greatest) (λ i. omega (arith, c.type_inv.group i)) (ap (λ (n : ℕ). 8 - leading_zeros w8 n) greatest)
