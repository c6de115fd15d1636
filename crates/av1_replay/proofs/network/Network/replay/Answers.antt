use Rattle.std.proofs.Common.{All, arith, sym, subst}
use Rattle.av1_dct.specs.Arithmetic.{FitsBits}
use Rattle.av1_replay.proofs.Fitting.{all_wider}
use Rattle.av1_replay.proofs.network.Network.replay.Goals as goal

pub cosine-requires-clause-fit : goal.cosine-requires-clause-fit
cosine-requires-clause-fit c =
    subst (All (FitsBits c.from-range.result)) (sym c.deref.ensures.value)
    (all_wider c.args.self.now.drawn.bits c.from-range.result c.in_ok-input.input.items
    (omega (arith, c.args.self.now.fits, c.from-range.ensures)) c.in_ok-input.ensures.fit)

pub sine-requires-clause-fit : goal.sine-requires-clause-fit
sine-requires-clause-fit c =
    subst (All (FitsBits c.from-range.result)) (sym c.deref-in-5-to-10.ensures.value)
    (all_wider c.args.self.now.drawn.bits c.from-range.result c.in_ok-input.input.items
    (omega (arith, c.args.self.now.fits, c.from-range.ensures)) c.in_ok-input.ensures.fit)

pub rest-requires-clause-fit : goal.rest-requires-clause-fit
rest-requires-clause-fit c =
    subst (All (FitsBits c.from-range.result)) (sym c.deref-in_default.ensures.value)
    (all_wider c.args.self.now.drawn.bits c.from-range.result c.in_ok-input.input.items
    (omega (arith, c.args.self.now.fits, c.from-range.ensures)) c.in_ok-input.ensures.fit)
