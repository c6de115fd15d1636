use Rattle.std.proofs.Common.{◌∷◌, [], arith}
use Rattle.av1_plan.proofs.Formats.{read_bind}
use Rattle.av1_plan.specs.Grammar.{leaf}
use Rattle.av1_plan.proofs.Triples.{more_cut, Extends-then}
use Rattle.av1_plan.proofs.reader.Reader.leaf.Goals as goal

pub returns-clause-read : goal.returns-clause-read
unfolding leaf
returns-clause-read c =
    let e = more_cut _ _ _ _ _ c.len-first.result (c.in_ok-u.u ∷ c.in_ok-u.v ∷ []) c.in_ok-luma.ensures.extends c.in_ok-u.ensures.extends (omega arith) in
    rw (← e) (grind (arith, read_bind))

pub returns-clause-extends : goal.returns-clause-extends
returns-clause-extends c = Extends-then _ _ _ _ _ _ c.in_ok-luma.ensures.extends c.in_ok-u.ensures.extends (omega arith)
