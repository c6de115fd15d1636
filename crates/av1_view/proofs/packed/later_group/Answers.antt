use Rattle.std.proofs.Common.{arith, ℕ, ap, length-set, ◌∙◌}
use Rattle.av1_lists.proofs.Lists.{by_index_is}
use Rattle.av1_view.specs.Packed.{less, residue, sign_last}
use Rattle.av1_view.proofs.Packing.{number_more}
use Rattle.av1_view.proofs.packed.later_group.Goals as goal

pub loop-i-preserved : goal.loop-i-preserved
loop-i-preserved c =
    let now : ℕ → ℕ = residue c.args.planes.now c.args.predictions.now in
    let earlier : ℕ → ℕ = residue c.args.planes_before.now c.args.predictions_before.now in
    let change = ap (less c.residue.result) c.residue-before.ensures ∙ ap (λ (n : ℕ). less n (earlier c.loop-i.i)) c.residue.ensures in
    record {
      long = length-set c.loop-i.group c.loop-i.i c.sign_last.result ∙ c.loop-i.invariant.long;
      so_far =
          number_more (λ k. sign_last (less (now k) (earlier k))) c.loop-i.group c.loop-i.i c.sign_last.result c.loop-i.invariant.long
          (omega (arith, c.loop-i-test.true)) (c.sign_last.ensures ∙ ap sign_last change) c.loop-i.invariant.so_far;
    }

pub returns : goal.returns
returns c =
    let now : ℕ → ℕ = residue c.args.planes.now c.args.predictions.now in
    let earlier : ℕ → ℕ = residue c.args.planes_before.now c.args.predictions_before.now in
    by_index_is 8 (λ k. sign_last (less (now k) (earlier k))) c.loop-i.group 0 c.loop-i.invariant.long
    (λ k inside. c.loop-i.invariant.so_far k (omega (arith, inside, c.loop-i-test.false)))
