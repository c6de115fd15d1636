use Rattle.av1_plan.proofs.Lengths.{headers_are_twenty, references_are_slots}
use Rattle.av1_plan.proofs.laws.fronts_have_these_lengths.Goals as goal

pub returns-clause-header : goal.returns-clause-header
returns-clause-header c = headers_are_twenty

pub returns-clause-references : goal.returns-clause-references
returns-clause-references c = references_are_slots
