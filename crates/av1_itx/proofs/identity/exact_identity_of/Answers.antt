use Rattle.std.proofs.Common.{arith, ◌∙◌, ap, sym, subst, ℤ}
use Rattle.std.proofs.lemmas.List.{length-map}
use Rattle.av1_dct.specs.Arithmetic.{at, FitsBits}
use Rattle.av1_dct.specs.Word.{column}
use Rattle.av1_dct.proofs.Places.{column_fill, column_get}
use Rattle.av1_itx.specs.Identity.{exact, scaled_with, identity_with}
use Rattle.av1_itx.proofs.Fills.{filled}
use Rattle.av1_itx.proofs.identity.exact_identity_of.Goals as goal

pub exactly_scaled-requires-clause-fits : goal.exactly_scaled-requires-clause-fits
exactly_scaled-requires-clause-fits g c = λ i h.
    let P : ℤ → Type 0 = λ z. FitsBits 20 z in
    subst P (sym (column_get g.W.Word.lane_of i c.args.input.now c.loop-p.p c.index-input-p.result (omega arith) c.index-input-p.is))
    (c.requires.fit i h c.loop-p.p)

pub loop-p-preserved : goal.loop-p-preserved
loop-p-preserved g c = λ i h.
    let lane = g.W.Word.lane_of in
    let x = column lane i c.args.input.now in
    column_fill lane i (λ q. scaled_with exact c.args.k (at x q)) c.loop-p.output c.loop-p.p _ (omega arith) (c.loop-p.invariant i h)
    (c.exactly_scaled.ensures i h
    ∙ ap (scaled_with exact c.args.k) (column_get lane i c.args.input.now c.loop-p.p c.index-input-p.result (omega arith) c.index-input-p.is))

pub returns : goal.returns
unfolding identity_with
returns g c = λ i h. filled _ _ _ c.loop-p.p (length-map c.loop-p.output _ ∙ c.loop-p.auto.output ∙ c.requires.output_len) (omega arith)
    (c.loop-p.invariant i h)
