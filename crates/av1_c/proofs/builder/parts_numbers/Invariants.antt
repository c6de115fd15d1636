use Rattle.std.proofs.Common.{◌≡◌, true, length, take, map}
use Rattle.std.specs.List.{list_all}
use Rattle.av1_c.specs.Builders.{is_part, part_of}
use Rattle.av1_c.proofs.builder.parts_numbers.Given as goal

abbrev pub invariant-loop-i : goal.invariant-loop-i
invariant-loop-i l = record {
  len : length l.numbers ≡ 13;
  so_far : take l.i l.parts ≡ map part_of (take l.i l.numbers);
  valid : list_all is_part (take l.i l.numbers) ≡ true;
}
