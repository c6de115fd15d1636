use Rattle.std.proofs.Common.{◌≡◌, length, take, map}
use Rattle.av1_c.specs.Builders.{part_of}
use Rattle.av1_c.proofs.builder.parts_of.Given as goal

abbrev pub invariant-loop-i : goal.invariant-loop-i
invariant-loop-i l = record { len : length l.parts ≡ 13; so_far : take l.i l.parts ≡ map part_of (take l.i l.numbers) }
