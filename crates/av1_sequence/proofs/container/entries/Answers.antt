use Rattle.std.proofs.Common.{arith}
use Rattle.av1_plan.specs.Reading.{input}
use Rattle.av1_sequence.proofs.ReadEntries.{one_more, texts_more}
use Rattle.av1_sequence.proofs.container.entries.Goals as goal

pub loop-preserved : goal.loop-preserved
loop-preserved c = record {
  read = one_more c.args.version c.args.count c.loop.counter c.loop.entries.items c.push.new.self.items c.in_ok-entry.entry (input c.loop.reader)
      (input c.entry.new.reader) _ c.loop-test.true c.in_ok-push.ensures.items c.in_ok-entry.ensures.read
      c.loop.invariant.read;
  moves = (omega (arith, c.loop.invariant.moves.0, c.entry.ensures.moves.0), omega (arith, c.loop.invariant.moves.1, c.entry.ensures.moves.1));
  count = omega (arith, c.loop.invariant.count, c.in_ok-push.ensures.len);
  texts = texts_more c.loop.entries.items c.push.new.self.items c.in_ok-entry.entry c.in_ok-push.ensures.items c.loop.invariant.texts
      c.in_ok-entry.ensures.text;
}
