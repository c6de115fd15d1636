use Rattle.av1_sequence.proofs.ReadEntries.{few_filters}
use Rattle.av1_sequence.proofs.container.head.Goals as goal

pub returns-clause-head : goal.returns-clause-head
returns-clause-head c = record {
  filter = few_filters c.filter_mode-filter.result c.in_ok-number.number c.filter_mode-filter.ensures c.in_ok-number.ensures.range.1;
  slots = c.in_ok-slots.ensures.range;
}
