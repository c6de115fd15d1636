use Rattle.std.proofs.Common.{arith, sym, subst, List, ℤ, ◌∙◌}
use Rattle.av1_dct.specs.Word.{column, lane_of_vector}
use Rattle.av1_dct.specs.Arithmetic.{AllFit}
use Rattle.av1_dct.proofs.Fits.{by_index-fits, clamp_value-fits}
use Rattle.av1_dct.proofs.CutWords.{narrow_words}
use Rattle.av1_dct.proofs.narrow_lanes.cosine_within.Goals as goal

pub run_network-requires-clause-within : goal.run_network-requires-clause-within
run_network-requires-clause-within g c = omega (arith, g.met.S.Short.sixteen)

pub run_network-requires-clause-fit : goal.run_network-requires-clause-fit
run_network-requires-clause-fit g c = λ i h.
    let P : List ℤ → Type 0 = λ zs. AllFit 20 zs in
    subst P (sym (c.cut_words.ensures i (omega (arith, g.met.S.Short.eight)))) (by_index-fits _ _ (λ p. clamp_value-fits _ 16 (omega arith)))

pub returns : goal.returns
returns g c = λ i h.
    c.spread_words.ensures i h
    ∙ narrow_words g.S.Butterfly.lane_of i g.row.K (column lane_of_vector i c.args.input.now) c.cut_words.new.words c.run_network.new.w (c.requires.fit i h)
    (c.cut_words.ensures i h)
    (c.run_network.ensures i (omega (arith, g.met.S.Short.eight)))
