use Rattle.std.proofs.Common.{◌≡◌, ◌*◌, take, drop, length}
use Rattle.std.specs.List.{flat_map}
use Rattle.av1_planwrite.specs.Text.{sample_text}
use Rattle.av1_planwrite.proofs.samples.pack_two.Given as goal

abbrev pub invariant-loop-i : goal.invariant-loop-i
invariant-loop-i l = record {
  text : take (2 * l.i) l.bytes ≡ flat_map (sample_text 16) (take l.i l.samples);
  rest : drop (2 * length l.samples) l.bytes ≡ drop (2 * length l.samples) l.initial.bytes;
}
