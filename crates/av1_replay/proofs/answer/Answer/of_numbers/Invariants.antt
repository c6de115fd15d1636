use Rattle.std.specs.Prelude.{take}
use Rattle.std.specs.List.{flat_map}
use Rattle.std.specs.Int.{cast_unsigned, to_le_bytes, w32}
use Rattle.av1_replay.specs.Digest.{Holds}
use Rattle.av1_replay.proofs.answer.Answer.of_numbers.Given as goal

abbrev pub invariant-loop-number : goal.invariant-loop-number
invariant-loop-number l = Holds l.digest (flat_map (λ number. to_le_bytes w32 (cast_unsigned w32 number)) (take l.number-index l.numbers))
