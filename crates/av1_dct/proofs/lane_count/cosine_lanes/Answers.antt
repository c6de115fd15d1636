use Rattle.av1_dct.proofs.lane_count.cosine_lanes.Goals as goal

pub returns-clause-counts : goal.returns-clause-counts
returns-clause-counts c = c.saturating_add-count.ensures

pub returns-clause-rest : goal.returns-clause-rest
returns-clause-rest c = c.cosine_eight.ensures.rest
