use Rattle.std.proofs.Common.{◌≡◌, ◌++◌, ◌^◌, ◌*ℤ◌, pos, map, take, drop}
use Rattle.av1_dct.specs.Arithmetic.{wrap32}
use Rattle.av1_itx.proofs.shift.shift_each_left.Given as goal

abbrev pub invariant-loop-i : goal.invariant-loop-i
invariant-loop-i l = l.values ≡ map (λ v. wrap32 (v *ℤ pos (2 ^ l.bit))) (take l.i l.initial.values) ++ drop l.i l.initial.values
