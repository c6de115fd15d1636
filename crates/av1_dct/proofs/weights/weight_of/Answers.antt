use Rattle.std.proofs.Common.{arith, w32, to_z, of_z, ap, ◌∙◌}
use Rattle.std.proofs.lemmas.Int.{ints, to_z-of_z}
use Rattle.av1_dct.specs.Cosine.{cos128}
use Rattle.av1_dct.proofs.Tables.{weight_bounds, weight_is}
use Rattle.av1_dct.proofs.weights.weight_of.Goals as goal

pub returns-clause-value : goal.returns-clause-value
returns-clause-value c =
    let b = weight_bounds c.args.a c.requires in
    ap (λ z. to_z w32 (of_z w32 z)) (weight_is c.args.a) ∙ to_z-of_z w32 (cos128 c.args.a) (omega (arith, ints))

pub returns-clause-bounds : goal.returns-clause-bounds
returns-clause-bounds c =
    let b = weight_bounds c.args.a c.requires in
    let e = weight_is c.args.a in
    (omega (arith, ints), omega (arith, ints))
