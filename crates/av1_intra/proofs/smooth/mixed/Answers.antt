use Rattle.std.proofs.Common.{arith}
use Rattle.av1_intra.proofs.Mixes.{mix_within}
use Rattle.av1_intra.proofs.smooth.mixed.Goals as goal

pub returns-clause-few : goal.returns-clause-few
returns-clause-few c =
    let m = mix_within c.from-weight.result c.args.a c.args.b 65536 (omega arith) (omega arith) (omega arith) in omega arith

pub returns-clause-within : goal.returns-clause-within
returns-clause-within c = λ top p q. mix_within c.from-weight.result c.args.a c.args.b top (omega arith) p q
