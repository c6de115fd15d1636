use Rattle.av1_order.proofs.Tabled.{cuts_are_told}
use Rattle.av1_order.proofs.laws.cuts_are_told.Goals as goal

pub returns : goal.returns
returns c = cuts_are_told
