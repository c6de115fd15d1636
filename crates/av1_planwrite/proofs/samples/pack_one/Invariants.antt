use Rattle.std.proofs.Common.{◌≡◌, take, drop, length}
use Rattle.std.specs.List.{flat_map}
use Rattle.av1_planwrite.specs.Text.{sample_text}
use Rattle.av1_planwrite.proofs.samples.pack_one.Given as goal

abbrev pub invariant-loop-i : goal.invariant-loop-i
invariant-loop-i l = record {
  text : take l.i l.bytes ≡ flat_map (sample_text 8) (take l.i l.samples);
  rest : drop (length l.samples) l.bytes ≡ drop (length l.samples) l.initial.bytes;
}
