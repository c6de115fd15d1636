use Rattle.std.proofs.Common.{◌≡◌, take}
use Rattle.std.specs.List.{list_all}
use Rattle.av1_c.specs.Builders.{is_part}
use Rattle.av1_c.proofs.builder.are_parts.Given as goal

abbrev pub invariant-loop-part : goal.invariant-loop-part
invariant-loop-part l = l.are ≡ list_all is_part (take l.part-index l.numbers)
