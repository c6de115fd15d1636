use Rattle.av1_inter.proofs.Within.{single_prediction_within, compound_prediction_within}
use Rattle.av1_inter.proofs.laws.motion_lies_within.Goals as goal

pub returns-clause-single : goal.returns-clause-single
returns-clause-single c = λ depth mode reference mv a r q. single_prediction_within depth mode reference mv a r q

pub returns-clause-compound : goal.returns-clause-compound
returns-clause-compound c = λ depth mode first second first_mv second_mv a r q.
    compound_prediction_within depth mode first second first_mv second_mv a r q
