use Rattle.std.proofs.Common.{◌^◌, ◌<◌}
use Rattle.av1_dct.specs.Arithmetic.{FitsBits}
use Rattle.av1_replay.specs.Drawn.{signed_in_way}
use Rattle.av1_replay.proofs.Drawing.{AreDrawn}
use Rattle.av1_replay.proofs.drawn.Numbers.signed.Given as goal

abbrev pub invariant-loop : goal.invariant-loop
invariant-loop g l = record {
  drawn :
      AreDrawn g.C.Coefficient.val (λ number. FitsBits l.drawn.bits (g.C.Coefficient.val number))
      (signed_in_way l.drawn l.same) l.counter l.initial.self.state l.numbers.items l.self.state;
  same : l.same < 2 ^ l.drawn.bits;
}
