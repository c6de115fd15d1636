use Rattle.std.proofs.Common.{List, ℕ, ◌++◌, ap, ◌∙◌, arith}
use Rattle.av1_planwrite.proofs.Rests.{rest_behind}
use Rattle.av1_planwrite.proofs.pieces.put.Goals as goal

pub returns-clause-rest : goal.returns-clause-rest
returns-clause-rest c =
    let first = c.split_at_mut-free in
    let second = c.split_at_mut-next in
    rest_behind _ first.result.0.now second.result.0.now c.copy_from_slice.new.self second.result.1.now c.args.slice.now
    (first.ensures.value ∙ ap (λ (l : List ℕ). first.result.0.now ++ l) second.ensures.value)
    (omega (arith, first.ensures.front_len, second.ensures.front_len)) (omega (arith, c.copy_from_slice.ensures.len, second.ensures.front_len))
