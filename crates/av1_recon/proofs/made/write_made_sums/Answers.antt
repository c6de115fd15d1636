use Rattle.std.proofs.Common.{rules}
use Rattle.av1_recon.proofs.MadePlans.{some_sums}
use Rattle.av1_recon.proofs.made.write_made_sums.Goals as goal

pub returns-in_err-plan : goal.returns-in_err-plan
returns-in_err-plan g c =
    let (lines, are) = some_sums c.args.number in
    (lines, are, search rules)
