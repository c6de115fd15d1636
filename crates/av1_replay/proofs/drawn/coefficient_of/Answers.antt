use Rattle.std.proofs.Common.{◌≡◌, ◌-◌, ◌^◌, pos, ◌≤ℤ◌, ◌<ℤ◌, sym, subst, w32, to_z, of_z, rules}
use Rattle.std.specs.Prelude.{neg_ℤ}
use Rattle.av1_replay.proofs.Fitting.{wider_high, wider_low}
use Rattle.av1_replay.proofs.drawn.coefficient_of.Goals as goal

pub from_i32-requires-clause-low : goal.from_i32-requires-clause-low
from_i32-requires-clause-low g c =
    let same : to_z w32 (of_z w32 c.args.number) ≡ c.args.number = search rules in
    subst (λ z. neg_ℤ (pos (2 ^ (g.C.Coefficient.BITS - 1))) ≤ℤ z) (sym same)
    (wider_low c.args.bits g.C.Coefficient.BITS c.args.number c.requires.fit c.requires.within)

pub from_i32-requires-clause-high : goal.from_i32-requires-clause-high
from_i32-requires-clause-high g c =
    let same : to_z w32 (of_z w32 c.args.number) ≡ c.args.number = search rules in
    subst (λ z. z <ℤ pos (2 ^ (g.C.Coefficient.BITS - 1))) (sym same)
    (wider_high c.args.bits g.C.Coefficient.BITS c.args.number c.requires.fit c.requires.within)
