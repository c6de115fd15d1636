use Rattle.av1_sequence.proofs.sequence.planes_for.Goals as goal

pub returns-in-Some-clause-ready : goal.returns-in-Some-clause-ready
returns-in-Some-clause-ready g c = c.requires.ready _ c.in-Some.is
