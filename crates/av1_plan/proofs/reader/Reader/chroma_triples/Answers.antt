use Rattle.std.proofs.Common.{arith}
use Rattle.av1_plan.proofs.Formats.{read_bind}
use Rattle.av1_plan.specs.Grammar.{chroma_triples}
use Rattle.av1_plan.proofs.Triples.{two_cut}
use Rattle.av1_plan.proofs.reader.Reader.chroma_triples.Goals as goal

pub returns-clause-read : goal.returns-clause-read
unfolding chroma_triples
returns-clause-read c =
    let e = two_cut _ _ _ _ _ c.in_ok-u.ensures.extends c.in_ok-v.ensures.extends in
    rw (← e) (grind (arith, read_bind))
