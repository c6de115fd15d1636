use Rattle.std.proofs.Common.{arith, ◌≡◌, ◌∙◌, ap, to_z, of_z, w64}
use Rattle.std.specs.Int.{int_min}
use Rattle.std.proofs.lemmas.Int.{ints}
use Rattle.av1_calls.proofs.motion_place.kept_between.Goals as goal

pub returns : goal.returns
returns c =
    let a = c.args in
    let number : to_z w64 (of_z w64 a.number) ≡ a.number = omega (arith, ints) in
    let least : to_z w64 (of_z w64 a.least) ≡ a.least = omega (arith, ints) in
    let greatest : to_z w64 (of_z w64 a.greatest) ≡ a.greatest = omega (arith, ints) in
    let m : to_z w64 (of_z w64 c.max.result) ≡ c.max.result = omega (arith, ints) in
    let n : to_z w64 (of_z w64 c.min.result) ≡ c.min.result = omega (arith, ints) in
    let h = rw (number, least) at c.max.ensures.value in
    n ∙ (rw (m, greatest) at c.min.ensures.value) ∙ ap (λ z. int_min z a.greatest) h
