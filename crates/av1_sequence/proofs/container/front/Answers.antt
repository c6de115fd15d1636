use Rattle.std.proofs.Common.{arith}
use Rattle.av1_sequence.proofs.ReadEntries.{are_frames, side_read}
use Rattle.av1_sequence.proofs.container.front.Goals as goal

pub returns-clause-frames : goal.returns-clause-frames
returns-clause-frames c =
    are_frames c.in_ok-version.version c.in_ok-width.width c.in_ok-height.height c.in_ok-depth.depth c.in_ok-sampling.sampling
    (omega (arith, c.in_ok-version.ensures.range.0)) c.in_ok-version.ensures.range.1 (side_read _ _ _ _ c.in_ok-width.ensures.read)
    (side_read _ _ _ _ c.in_ok-height.ensures.read) c.in_ok-depth.ensures.depth c.in_ok-sampling.ensures.range.1
