use Rattle.std.proofs.Common.{sym, subst}
use Rattle.av1_tiles.specs.declared.joined.FrameSamples.{FrameSamples}
use Rattle.av1_tiles.specs.File.{file_value}
use Rattle.av1_tiles.specs.Frames.{samples_in}
use Rattle.av1_tiles.specs.Joined.{ComesTo}
use Rattle.av1_tiles.proofs.joined.join_frame.Goals.{in-8+in_ok-join_tiles-in-8, in_default+in_ok-join_tiles-in_default}
use Rattle.av1_tiles.proofs.joined.join_frame.Goals as goal

pub returns-clause-joined : goal.returns-clause-joined
returns-clause-joined c = elim c.match-header.branch [
  | in-8+in_ok-join_tiles-in-8 w ↦ subst (λ (s : FrameSamples). ComesTo (file_value c.args.file.now) (samples_in s))
      (sym w.samples-is) w.in_ok-join_tiles-in-8.ensures.joined
  | in_default+in_ok-join_tiles-in_default w ↦ subst (λ (s : FrameSamples). ComesTo (file_value c.args.file.now) (samples_in s))
      (sym w.samples-is) w.in_ok-join_tiles-in_default.ensures.joined
]
