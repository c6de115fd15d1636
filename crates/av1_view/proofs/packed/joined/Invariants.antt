use Rattle.std.proofs.Common.{◌≡◌, ◌-◌, drop, length}
use Rattle.av1_view.specs.Packed.{joined}
use Rattle.av1_view.proofs.packed.joined.Given as goal

abbrev pub invariant-loop-i : goal.invariant-loop-i
invariant-loop-i l = l.word ≡ joined l.bits (drop (length l.group - l.i) l.group)
