use Rattle.std.proofs.Common.{arith, ◌∙◌, ◌+ℤ◌, refl, ap}
use Rattle.std.proofs.lemmas.List.{length-set}
use Rattle.av1_inter.specs.Motion.{entry}
use Rattle.av1_inter.proofs.Fill.{done_more}
use Rattle.av1_inter.proofs.EightSums.{kept_within, two_added, two_fit}
use Rattle.av1_inter.proofs.words.add_products.Goals as goal

pub loop-c-init : goal.loop-c-init
loop-c-init g c = (record { done = λ k h. absurd (omega (arith, h)); rest = λ k b. refl }, c.told-sums)

pub overflow_add-sums : goal.overflow_add-sums
overflow_add-sums g c =
    let l = c.loop-c-test.true in
    two_fit _ _ (kept_within _ _ (c.loop-c.invariant.0.rest c.loop-c.c (omega arith)) (c.requires.sums _ l)) (c.requires.products _ l)

pub loop-c-preserved : goal.loop-c-preserved
loop-c-preserved g c =
    let l = c.loop-c-test.true in
    let same = c.loop-c.invariant.0.rest c.loop-c.c (omega arith) in
    let old = c.args.sums.now in
    let more = c.args.products.now in (
      done_more c.loop-c.c (λ k. entry old k +ℤ entry more k) old c.loop-c.sums _ c.loop-c.invariant.0 (omega (arith, c.loop-c.invariant.1, l))
          (two_added _ _ (kept_within _ _ same (c.requires.sums _ l)) (c.requires.products _ l) ∙ ap (λ z. z +ℤ entry more c.loop-c.c) same),
      length-set _ _ _ ∙ c.loop-c.invariant.1,
    )

pub returns : goal.returns
returns g c = λ k h. c.loop-c.invariant.0.done k (omega (arith, c.loop-c-test.false, h))
