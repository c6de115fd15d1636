use Rattle.std.proofs.Common.{◌∙◌}
use Rattle.av1_avail.proofs.BitOrder.{bits_top_right_by_order}
use Rattle.av1_avail.proofs.bits.has_tr.Goals as goal

pub returns-clause-by_order : goal.returns-clause-by_order
returns-clause-by_order c = λ near. c.top_right_by_bits.ensures ∙ bits_top_right_by_order c.args.bsize c.args.bo.0.x c.args.bo.0.y near
