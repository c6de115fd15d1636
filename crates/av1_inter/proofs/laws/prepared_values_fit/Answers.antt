use Rattle.av1_inter.proofs.Fitting.{prepared_fits}
use Rattle.av1_inter.proofs.Table.{filter_of_is_filter}
use Rattle.av1_inter.proofs.laws.prepared_values_fit.Goals as goal

pub returns : goal.returns
returns c = λ depth fx fy mode_x mode_y width height samples r q d h k within.
    prepared_fits depth d fx fy _ _ samples r q (filter_of_is_filter mode_x fx width h) (filter_of_is_filter mode_y fy height k) within
