use Rattle.std.proofs.Common.{ap, ◌∙◌, ℤ, map, w32}
use Rattle.std.proofs.lemmas.Int.{to_z-of_z}
use Rattle.std.proofs.lemmas.List.{map-set}
use Rattle.std.proofs.Math.ListN.{set}
use Rattle.av1_tile.proofs.coefficients.put_value.Goals as goal

pub returns-then-is_here : goal.returns-then-is_here
returns-then-is_here g c =
    let a = c.args in
    let val = g.C.Coefficient.val in
    rw c.if-is_here.true (map-set val a.coefficients.now a.place _
    ∙ ap (λ (z : ℤ). set (map val a.coefficients.now) a.place z) (ap val c.from_i32.ensures ∙ g.met.C.Coefficient.val_of_coefficient _
    ∙ to_z-of_z w32 a.value c.ranges.value))
