use Rattle.av1_tile.proofs.MotionWithin.{compound_motion_within, single_motion_within}
use Rattle.av1_tile.proofs.laws.motion_lies_within_depth.Goals as goal

pub returns-clause-single : goal.returns-clause-single
returns-clause-single c = single_motion_within

pub returns-clause-compound : goal.returns-clause-compound
returns-clause-compound c = compound_motion_within
