use Rattle.av1_avail.proofs.StripeTables.{upright_top_right_holds, flat_top_right_holds, upright_bottom_left_holds, flat_bottom_left_holds}
use Rattle.av1_avail.proofs.laws.stripes_follow_squares.Goals as goal

pub returns-clause-upright_top_right : goal.returns-clause-upright_top_right
returns-clause-upright_top_right c = upright_top_right_holds

pub returns-clause-flat_top_right : goal.returns-clause-flat_top_right
returns-clause-flat_top_right c = flat_top_right_holds

pub returns-clause-upright_bottom_left : goal.returns-clause-upright_bottom_left
returns-clause-upright_bottom_left c = upright_bottom_left_holds

pub returns-clause-flat_bottom_left : goal.returns-clause-flat_bottom_left
returns-clause-flat_bottom_left c = flat_bottom_left_holds
