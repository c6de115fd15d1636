use Rattle.std.proofs.Common.{arith}
use Rattle.av1_sequence.proofs.container.read_sequence.Goals as goal

pub returns-clause-file : goal.returns-clause-file
returns-clause-file c = record {
  frames = c.in_ok-front.ensures.frames;
  texts = c.in_ok-entries.ensures.texts;
  few = omega (arith, c.in_ok-entries.ensures.count);
}
