use Rattle.std.proofs.Common.{ℕ, ◌≡◌, ◌≤◌, arith, inl, inr, length, subst, sym}
use Rattle.std.proofs.lemmas.Bool.{cases_lt}
use Rattle.av1_calls.specs.Samples.{area_sample}
use Rattle.av1_calls.proofs.Lanes.{row_small}
use Rattle.av1_calls.proofs.samples.greatest_of.Goals as goal

pub overflow_add-start : goal.overflow_add-start
overflow_add-start c =
    let small = row_small c.args.stride (length c.args.samples.now) c.loop-r.r c.args.area c.requires c.loop-r-test.true in omega (arith, small)

pub loop-r-preserved : goal.loop-r-preserved
loop-r-preserved c =
    let row = c.loop-r.r in
    let old = c.loop-r.invariant in
    let next = c.greatest_from-greatest.ensures in
    let more = next.above in
    record {
      each = λ r q h k. elim (cases_lt r row) [
        | inl lt ↦ (let o = old.each r q lt k in omega (arith, o, more))
        | inr from ↦ (let e : r ≡ row = omega arith
            in subst (λ (m : ℕ). area_sample c.args.stride c.args.area c.args.samples.now m q ≤ c.greatest_from-greatest.result) (sym e) (next.each q k))
      ];
      reached = λ bound all. next.reached bound (old.reached bound (λ r q h k. all r q (omega arith) k)) (λ q k. all row q (omega arith) k);
    }
