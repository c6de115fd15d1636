use Rattle.std.proofs.Common.{rules, ◌≡◌, ◌+◌, ℤ, to_z, of_z, w32, sym, subst, ◌∙◌}
use Rattle.std.proofs.lemmas.Int.{to_z-of_z}
use Rattle.av1_calls.proofs.Limits.{AreLimits, limits_on}
use Rattle.av1_calls.proofs.transform_add.all_fit.Goals as goal

pub loop-i-preserved : goal.loop-i-preserved
loop-i-preserved c =
    let bits = c.args.bits in
    let n = c.loop-i.i + 1 in
    let numbers = c.args.numbers.now in
    let number = c.number_at-number.result in
    let least = c.lesser-least.result in
    let greatest = c.greater-greatest.result in
    let is : to_z w32 (of_z w32 number) ≡ number = to_z-of_z w32 number (search rules) in
    let limits = limits_on bits c.loop-i.i numbers _ _ (to_z w32 (of_z w32 number)) least greatest (is ∙ c.number_at-number.ensures) c.loop-i.invariant
    c.lesser-least.ensures.below_first c.lesser-least.ensures.below_second c.lesser-least.ensures.either
    c.greater-greatest.ensures.above_first c.greater-greatest.ensures.above_second c.greater-greatest.ensures.either in
    let least_is : to_z w32 (of_z w32 least) ≡ least = to_z-of_z w32 least (search rules) in
    let greatest_is : to_z w32 (of_z w32 greatest) ≡ greatest = to_z-of_z w32 greatest (search rules) in
    subst (λ (z : ℤ). AreLimits bits n numbers z (to_z w32 (of_z w32 greatest))) (sym least_is)
    (subst (λ (z : ℤ). AreLimits bits n numbers least z) (sym greatest_is) limits)
