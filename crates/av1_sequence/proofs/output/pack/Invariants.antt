use Rattle.std.proofs.Common.{◌≡◌, ◌*◌, take}
use Rattle.std.specs.List.{flat_map}
use Rattle.av1_tile.specs.Output.{sample_bytes}
use Rattle.av1_sequence.proofs.output.pack.Given as goal

abbrev pub invariant-loop-i : goal.invariant-loop-i
invariant-loop-i l = take (2 * l.i) l.bytes ≡ flat_map (sample_bytes 16) (take l.i l.samples)
