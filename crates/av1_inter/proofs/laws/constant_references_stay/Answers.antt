use Rattle.av1_inter.proofs.Constants.{single_constant}
use Rattle.av1_inter.proofs.Table.{filter_of_is_filter}
use Rattle.av1_inter.proofs.laws.constant_references_stay.Goals as goal

pub returns : goal.returns
returns c = λ depth fx fy mode_x mode_y width height samples r q value d h k l same.
    single_constant depth d fx fy _ _ samples r q value (filter_of_is_filter mode_x fx width h) (filter_of_is_filter mode_y fy height k) l same
