use Rattle.av1_sequence.proofs.Texts.{found_at_text, refused_at_longest}
use Rattle.av1_sequence.proofs.laws.sequences_are_texts.Goals as goal

pub returns-clause-found : goal.returns-clause-found
returns-clause-found c = found_at_text

pub returns-clause-refused : goal.returns-clause-refused
returns-clause-refused c = refused_at_longest
