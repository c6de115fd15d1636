use Rattle.std.proofs.Common.{arith, rules, ◌∙◌, ap, w32, FitsSigned}
use Rattle.std.proofs.lemmas.Int.{to_z-of_z}
use Rattle.av1_inter.specs.Motion.{entry}
use Rattle.av1_inter.specs.Scaffolding.{settled}
use Rattle.av1_inter.proofs.Fill.{line_more, line_none}
use Rattle.av1_inter.proofs.HeldSums.{cut_fits}
use Rattle.av1_inter.proofs.Crossed.{crossing_is, lane_fits}
use Rattle.av1_inter.proofs.words.settle_sixteen.Goals as goal

pub loop-c-init : goal.loop-c-init
loop-c-init c = line_none _ _

pub loop-c-preserved : goal.loop-c-preserved
loop-c-preserved c =
    let s : FitsSigned w32 c.settle.result = search rules in
    let t : FitsSigned w32 (entry c.args.sums.now c.loop-c.c) = search rules in
    line_more 16 c.loop-c.c (λ k. settled c.args.rounding (entry c.args.sums.now k)) _ _ c.loop-c.invariant (omega arith)
    (to_z-of_z w32 _ s ∙ c.settle.ensures ∙ ap (settled c.args.rounding) (to_z-of_z w32 _ t))

pub overflow_cast-result : goal.overflow_cast-result
overflow_cast-result c =
    let f = lane_fits c.loop-c.values (λ k. settled c.args.rounding (entry c.args.sums.now k)) c.loop-c.invariant.long
    (λ k h. c.loop-c.invariant.value k (omega arith)) (λ k h. cut_fits _) in (
      f 0 (omega arith),
      (
        f 1 (omega arith),
        (
          f 2 (omega arith),
          (
            f 3 (omega arith),
            (
              f 8 (omega arith),
              (
                f 9 (omega arith),
                (
                  f 10 (omega arith),
                  (
                    f 11
                        (omega arith),
                    (
                      f 4 (omega arith),
                      (
                        f 5 (omega arith),
                        (
                          f 6 (omega arith),
                          (
                            f 7 (omega arith),
                            (
                              f 12 (omega arith),
                              (
                                f 13 (omega arith),
                                (
                                  f 14
                                      (omega arith),
                                  (f 15 (omega arith), tt),
                                ),
                              ),
                            ),
                          ),
                        ),
                      ),
                    ),
                  ),
                ),
              ),
            ),
          ),
        ),
      ),
    )

pub returns : goal.returns
returns c =
    crossing_is c.loop-c.values (λ k. settled c.args.rounding (entry c.args.sums.now k)) c.loop-c.invariant.long
    (λ k h. c.loop-c.invariant.value k (omega arith)) (λ k h. cut_fits _)
