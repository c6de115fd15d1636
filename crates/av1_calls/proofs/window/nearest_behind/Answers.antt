use Rattle.std.proofs.Common.{◌≡◌, ◌∙◌, ◌+ℤ◌, ap, arith, pos, to_z, of_z, w64}
use Rattle.std.proofs.lemmas.Int.{ints}
use Rattle.av1_frame.specs.Slices.{nearest_visible}
use Rattle.av1_calls.proofs.window.nearest_behind.Goals as goal

pub returns-clause-value : goal.returns-clause-value
returns-clause-value c =
    let a = c.args in
    let first_is : to_z w64 (of_z w64 a.first) ≡ a.first = omega (arith, ints, c.requires.least, c.requires.greatest) in
    let steps_is : to_z w64 (of_z w64 c.signed.result) ≡ pos a.steps = omega (arith, ints, c.signed.ensures, c.requires.few) in
    let sum_is : to_z w64 (of_z w64 (a.first +ℤ pos a.steps)) ≡ a.first +ℤ pos a.steps =
    omega (arith, ints, c.requires.least, c.requires.greatest, c.requires.few) in
    c.nearest.ensures.value ∙ ap (λ z. nearest_visible a.visible (to_z w64 (of_z w64 (z +ℤ to_z w64 (of_z w64 c.signed.result))))) first_is
    ∙ ap (λ z. nearest_visible a.visible (to_z w64 (of_z w64 (a.first +ℤ z)))) steps_is ∙ ap (nearest_visible a.visible) sum_is
