use Rattle.std.proofs.Common.{ℕ, ◌≡◌, ◌+◌, ◌≤◌, slice_index, arith, inl, inr, subst, sym}
use Rattle.std.proofs.lemmas.Bool.{cases_lt}
use Rattle.av1_calls.proofs.samples.greatest_from.Goals as goal

pub loop-i-preserved : goal.loop-i-preserved
loop-i-preserved c =
    let i = c.loop-i.i in
    let old = c.loop-i.invariant in
    let next = c.greater-greatest.ensures in
    let is = c.sample_at.ensures in
    let first = next.above_first in
    let second = next.above_second in
    record {
      above = omega (arith, old.above, first);
      each = λ k h. elim (cases_lt k i) [
        | inl lt ↦ (let o = old.each k lt in omega (arith, o, first))
        | inr from ↦ (let e : k ≡ i = omega arith in subst (λ (m : ℕ). slice_index c.args.samples.now (c.args.start + m) ≤ c.greater-greatest.result) (sym e)
            (omega (arith, is, second)))
      ];
      reached = λ bound low all. next.reached bound (old.reached bound low (λ k h. all k (omega arith))) (let a = all i (omega arith) in omega (arith, a, is));
    }
