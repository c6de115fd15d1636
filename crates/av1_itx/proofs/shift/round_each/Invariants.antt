use Rattle.std.proofs.Common.{◌≡◌, ◌++◌, map, take, drop}
use Rattle.av1_frame.specs.Arithmetic.{round_shift}
use Rattle.av1_itx.proofs.shift.round_each.Given as goal

abbrev pub invariant-loop-i : goal.invariant-loop-i
invariant-loop-i l = l.values ≡ map (λ v. round_shift v l.bit) (take l.i l.initial.values) ++ drop l.i l.initial.values
