use Rattle.std.proofs.Common.{arith, sym, subst, List, ℤ}
use Rattle.std.proofs.lemmas.List.{length-take-le}
use Rattle.av1_dct.specs.Arithmetic.{AllFit}
use Rattle.av1_dct.proofs.Places.{places-fit, cosine_words}
use Rattle.av1_dct.proofs.Fits.{all-fit}
use Rattle.av1_dct.proofs.cosine.cosine_of.Goals as goal

pub run_network-requires-clause-fit : goal.run_network-requires-clause-fit
run_network-requires-clause-fit g c = λ i h. let P : List ℤ → Type 0 = λ zs. AllFit 20 zs
    in subst P (sym (c.reorder.ensures i h)) (places-fit g.row.K _ (all-fit c.args.range 20 _ c.requires.range_in.1 (c.requires.fit i h)))

pub returns-clause-value : goal.returns-clause-value
returns-clause-value g c = λ i h.
    cosine_words g.W.Butterfly.lane_of i c.args.range g.row.K g.row.N c.args.input.now c.args.output.now c.reorder.new.output c.run_network.new.w
    c.requires.n_in
    (omega (arith, c.run_network.auto.w, c.reorder.auto.output, length-take-le g.row.N c.args.output.now (omega arith))) (c.reorder.ensures i h)
    (c.run_network.ensures i h)
