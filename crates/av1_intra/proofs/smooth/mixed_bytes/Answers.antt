use Rattle.std.proofs.Common.{arith}
use Rattle.av1_intra.proofs.Mixes.{mix_within}
use Rattle.av1_intra.proofs.smooth.mixed_bytes.Goals as goal

pub returns-clause-few : goal.returns-clause-few
returns-clause-few c =
    let m = mix_within c.from-weight.result c.args.a c.args.b 256 (omega arith) c.requires.a c.requires.b in omega arith
