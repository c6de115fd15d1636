use Rattle.std.proofs.Common.{◌≡◌, take, map, pos, length, replicate}
use Rattle.std.specs.List.{fold}
use Rattle.av1_tile.specs.Reference.{with_triple}
use Rattle.av1_tile.proofs.coefficients.load_coefficients.Given as goal

abbrev pub invariant-loop-triple : goal.invariant-loop-triple
invariant-loop-triple g l =
    map g.C.Coefficient.val l.coefficients ≡ fold (with_triple l.block) (replicate (length l.coefficients) (pos 0)) (take l.triple-index l.triples)
