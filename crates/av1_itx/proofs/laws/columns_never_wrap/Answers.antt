use Rattle.std.proofs.Common.{arith}
use Rattle.av1_itx.proofs.NoWrap.{column_inputs, lossless_inputs}
use Rattle.av1_itx.proofs.laws.columns_never_wrap.Goals as goal

pub returns-clause-range : goal.returns-clause-range
returns-clause-range c = λ depth h. omega arith

pub returns-clause-inputs : goal.returns-clause-inputs
returns-clause-inputs c = column_inputs

pub returns-clause-lossless : goal.returns-clause-lossless
returns-clause-lossless c = lossless_inputs
