use Rattle.std.specs.Prelude.{take}
use Rattle.std.specs.List.{flat_map}
use Rattle.std.specs.Int.{to_le_bytes, w16}
use Rattle.av1_replay.specs.Digest.{Holds}
use Rattle.av1_replay.proofs.answer.digest_of.Given as goal

abbrev pub invariant-loop-sample : goal.invariant-loop-sample
invariant-loop-sample g l = Holds l.digest (flat_map (λ sample. to_le_bytes w16 (g.T.Pixel.num sample)) (take l.sample-index l.samples))
