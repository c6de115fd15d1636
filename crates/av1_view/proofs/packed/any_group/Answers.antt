use Rattle.std.proofs.Common.{arith, ℕ, ◌+◌, ap, length-set, ◌∙◌}
use Rattle.av1_view.specs.Packed.{change, sign_last}
use Rattle.av1_view.proofs.Packing.{number_more, numbers_all}
use Rattle.av1_view.proofs.packed.any_group.Goals as goal

pub loop-i-preserved : goal.loop-i-preserved
loop-i-preserved c =
    let number : ℕ → ℕ = λ k. sign_last (change c.args.row c.args.planes.now c.args.predictions.now (c.args.at + k)) in
    record {
      long = length-set c.loop-i.group c.loop-i.i c.sign_last.result ∙ c.loop-i.invariant.long;
      so_far =
          number_more number c.loop-i.group c.loop-i.i c.sign_last.result c.loop-i.invariant.long (omega (arith, c.loop-i-test.true, c.requires.short))
          (c.sign_last.ensures ∙ ap sign_last c.change.ensures) c.loop-i.invariant.so_far;
    }

pub returns : goal.returns
returns c =
    let number : ℕ → ℕ = λ k. sign_last (change c.args.row c.args.planes.now c.args.predictions.now (c.args.at + k)) in
    numbers_all number c.loop-i.group c.loop-i.i c.args.len c.loop-i.invariant.long c.requires.short (omega (arith, c.loop-i-test.false))
    c.loop-i.invariant.so_far
