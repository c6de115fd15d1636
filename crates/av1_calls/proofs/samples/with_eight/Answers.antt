use Rattle.av1_calls.proofs.Lanes.{takes_in}
use Rattle.av1_calls.proofs.samples.with_eight.Goals as goal

pub returns : goal.returns
returns c = takes_in c.args.samples.now c.args.start c.args.greatest c.fits-greatest.0 c.requires
