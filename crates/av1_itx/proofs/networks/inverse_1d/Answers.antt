use Rattle.std.proofs.Common.{arith, ◌∙◌, ap, sym, reverse}
use Rattle.av1_dct.specs.Word.{column}
use Rattle.av1_lists.specs.Counts.{raised}
use Rattle.av1_itx.specs.LaneGroups.{is_cosine}
use Rattle.av1_itx.specs.Networks.{network, network_with}
use Rattle.av1_itx.specs.Scaffolding.{cosine_groups}
use Rattle.av1_itx.proofs.Counted.{not_counted}
use Rattle.av1_dct.proofs.Fits.{all-fit}
use Rattle.av1_itx.proofs.Widths.{fits}
use Rattle.av1_itx.proofs.WrittenWords.{column-reverse}
use Rattle.av1_itx.proofs.networks.inverse_1d.Goals as goal

pub adst_of-requires-clause-fit : goal.adst_of-requires-clause-fit
adst_of-requires-clause-fit g c = fits _ c.requires.range_in c.requires.fit

pub adst_of-requires-in-FLIPADST-clause-fit : goal.adst_of-requires-in-FLIPADST-clause-fit
adst_of-requires-in-FLIPADST-clause-fit g c = fits _ c.requires.range_in c.requires.fit

pub identity_of-requires-clause-fit : goal.identity_of-requires-clause-fit
identity_of-requires-clause-fit g c = fits _ c.requires.range_in c.requires.fit

pub exact_identity_of-requires-clause-fit : goal.exact_identity_of-requires-clause-fit
exact_identity_of-requires-clause-fit g c = fits _ c.requires.range_in c.requires.fit

pub walsh_of-requires-clause-fit : goal.walsh_of-requires-clause-fit
walsh_of-requires-clause-fit g c = λ i h. all-fit c.args.range 29 (column g.W.Word.lane_of i c.args.input.now) (omega arith) (c.requires.fit i h)

pub returns-in-DCT-clause-value : goal.returns-in-DCT-clause-value
unfolding network_with
returns-in-DCT-clause-value g c = λ i h. c.cosine_of.ensures.value i h
    ∙ ap (λ k. network k c.args.range c.args.k (column g.W.Word.lane_of i c.args.input.now)) (sym c.in-DCT.is)

pub returns-in-ADST-clause-value : goal.returns-in-ADST-clause-value
unfolding network_with
returns-in-ADST-clause-value g c = λ i h. c.adst_of.ensures i h
    ∙ ap (λ k. network k c.args.range c.args.k (column g.W.Word.lane_of i c.args.input.now)) (sym c.in-ADST.is)

pub returns-in-FLIPADST-clause-value : goal.returns-in-FLIPADST-clause-value
unfolding network_with
returns-in-FLIPADST-clause-value g c = λ i h.
    ap (column g.W.Word.lane_of i) c.reverse.ensures.after ∙ column-reverse g.W.Word.lane_of i c.adst_of-in-FLIPADST.new.output
    ∙ ap reverse (c.adst_of-in-FLIPADST.ensures i h)
    ∙ ap (λ k. network k c.args.range c.args.k (column g.W.Word.lane_of i c.args.input.now)) (sym c.in-FLIPADST.is)

pub returns-in-IDENTITY-clause-value : goal.returns-in-IDENTITY-clause-value
unfolding network_with
returns-in-IDENTITY-clause-value g c = λ i h. c.identity_of.ensures i h
    ∙ ap (λ k. network k c.args.range c.args.k (column g.W.Word.lane_of i c.args.input.now)) (sym c.in-IDENTITY.is)

pub returns-in-EXACT_IDENTITY-clause-value : goal.returns-in-EXACT_IDENTITY-clause-value
unfolding network_with
returns-in-EXACT_IDENTITY-clause-value g c = λ i h. c.exact_identity_of.ensures i h
    ∙ ap (λ k. network k c.args.range c.args.k (column g.W.Word.lane_of i c.args.input.now)) (sym c.in-EXACT_IDENTITY.is)

pub returns-in-WHT-clause-value : goal.returns-in-WHT-clause-value
unfolding network_with
returns-in-WHT-clause-value g c = λ i h. c.walsh_of.ensures i h
    ∙ ap (λ k. network k c.args.range c.args.k (column g.W.Word.lane_of i c.args.input.now)) (sym c.in-WHT.is)

pub returns-in-DCT-clause-counts : goal.returns-in-DCT-clause-counts
returns-in-DCT-clause-counts g c =
    c.cosine_of.ensures.counts ∙ ap (λ kind. raised c.args.count.now.groups (cosine_groups kind g.W.BlockWord.COUNTED)) (sym c.in-DCT.is)

pub returns-in-ADST-clause-counts : goal.returns-in-ADST-clause-counts
returns-in-ADST-clause-counts g c = not_counted c.args.kind c.args.count.now.groups g.W.BlockWord.COUNTED (omega arith) (ap is_cosine c.in-ADST.is)

pub returns-in-FLIPADST-clause-counts : goal.returns-in-FLIPADST-clause-counts
returns-in-FLIPADST-clause-counts g c = not_counted c.args.kind c.args.count.now.groups g.W.BlockWord.COUNTED (omega arith) (ap is_cosine c.in-FLIPADST.is)

pub returns-in-IDENTITY-clause-counts : goal.returns-in-IDENTITY-clause-counts
returns-in-IDENTITY-clause-counts g c = not_counted c.args.kind c.args.count.now.groups g.W.BlockWord.COUNTED (omega arith) (ap is_cosine c.in-IDENTITY.is)

pub returns-in-EXACT_IDENTITY-clause-counts : goal.returns-in-EXACT_IDENTITY-clause-counts
returns-in-EXACT_IDENTITY-clause-counts g c =
    not_counted c.args.kind c.args.count.now.groups g.W.BlockWord.COUNTED (omega arith) (ap is_cosine c.in-EXACT_IDENTITY.is)

pub returns-in-WHT-clause-counts : goal.returns-in-WHT-clause-counts
returns-in-WHT-clause-counts g c = not_counted c.args.kind c.args.count.now.groups g.W.BlockWord.COUNTED (omega arith) (ap is_cosine c.in-WHT.is)
