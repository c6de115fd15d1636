use Rattle.av1_avail.proofs.TableOrder.{tables_follow}
use Rattle.av1_avail.proofs.laws.tables_follow_order.Goals as goal

pub returns : goal.returns
returns c = tables_follow
