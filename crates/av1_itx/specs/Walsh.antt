-- The inverse Walsh-Hadamard transform process of the AV1 specification, for 4 values.
use Rattle.std.specs.Prelude.{ℤ, List, [], ◌∷◌}
use Rattle.std.specs.Int.{int_shr}
use Rattle.av1_dct.specs.Arithmetic.{at}
use Rattle.av1_dct.specs.Operations.{Operations, wrapping}

-- The inverse Walsh-Hadamard transform, which is lossless.
unfoldable pub walsh_with : Operations → List ℤ → List ℤ
walsh_with ops x =
    let s0 = ops.plus (at x 0) (at x 1) in
    let s2 = ops.minus (at x 2) (at x 3) in
    let s4 = int_shr (ops.minus s0 s2) 1 in
    let s3 = ops.minus s4 (at x 3) in
    let s1 = ops.minus s4 (at x 1) in
    ops.minus s0 s3 ∷ s3 ∷ s1 ∷ ops.plus s2 s1 ∷ []

abbrev pub walsh : List ℤ → List ℤ
walsh = walsh_with wrapping
