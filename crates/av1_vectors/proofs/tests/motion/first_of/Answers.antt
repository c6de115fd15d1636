use Rattle.std.proofs.Common.{◌∙◌, ◌<◌, arith, subst, sym, replicate}
use Rattle.std.specs.List.{All}
use Rattle.std.proofs.lemmas.List.Elements.{All-set, All-replicate}
use Rattle.av1_frame.proofs.Within.{number_below}
use Rattle.av1_vectors.proofs.tests.motion.first_of.Goals as goal

pub put_8tap-requires-clause-within : goal.put_8tap-requires-clause-within
put_8tap-requires-clause-within c =
    let few : All (λ v. v < 256) c.slice-first.result.samples.now =
    subst (All (λ v. v < 256)) (sym (c.slice-first.ensures.samples ∙ c.in_ok-reference.ensures.samples))
    (All-set (λ v. v < 256) (replicate 121 0) 38 c.args.value (omega (arith, c.ranges.value.fits))
    (All-replicate (λ v. v < 256) 121 0 (omega arith))) in
    λ x y a b. number_below (λ v. v) 256 c.slice-first.result.samples.now _ (omega arith) few
