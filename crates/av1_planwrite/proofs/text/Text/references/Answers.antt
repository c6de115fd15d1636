use Rattle.std.proofs.Common.{arith}
use Rattle.av1_planwrite.proofs.References.{slots_end}
use Rattle.av1_planwrite.proofs.text.Text.references.Goals as goal

pub returns : goal.returns
returns c = let l = c.loop-slot in slots_end c.args.plan.now l.slot c.args.self.now.bytes.items l.self.bytes.items (omega arith) l.invariant
