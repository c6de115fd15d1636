use Rattle.av1_plan.proofs.ReadPlans.{depth_holds}
use Rattle.av1_sequence.proofs.ReadEntries.{are_frames}
use Rattle.av1_sequence.proofs.sequence.SequenceOf.with_version.Goals as goal

pub new-requires : goal.new-requires
new-requires g c =
    are_frames c.args.version c.args.width c.args.height c.args.depth c.args.sampling c.requires.version.0 c.requires.version.1 c.requires.width
    c.requires.height (depth_holds c.args.depth c.requires.depth) c.requires.sampling
