use Rattle.std.proofs.Common.{arith, ◌∙◌, ap, sym, subst, List, ℤ, length}
use Rattle.std.specs.List.{All}
use Rattle.std.proofs.lemmas.List.{length-map, take_all}
use Rattle.av1_dct.specs.Arithmetic.{FitsBits}
use Rattle.av1_dct.specs.Word.{column}
use Rattle.av1_dct.specs.Cosine.{cosine}
use Rattle.av1_itx.proofs.Widths.{is_length}
use Rattle.av1_itx.proofs.networks.cosine_of.Goals as goal

pub cosine-requires-clause-n_in : goal.cosine-requires-clause-n_in
cosine-requires-clause-n_in g c = is_length c.args.k (length c.args.output.now) c.requires.k_in.0 c.requires.k_in.1 c.requires.output_len

pub cosine-requires-clause-fit : goal.cosine-requires-clause-fit
cosine-requires-clause-fit g c = λ i h.
    let x = column g.W.Word.lane_of i c.args.input.now in
    let P : List ℤ → Type 0 = λ zs. All (FitsBits c.args.range) zs in
    subst P (sym
    (take_all (length c.args.output.now) x
    (omega (arith, length-map c.args.input.now (λ w. g.W.Word.lane_of w i), c.requires.input_len, c.requires.output_len)))) (c.requires.fit i h)

pub returns-clause-value : goal.returns-clause-value
returns-clause-value g c = λ i h.
    let n = length c.args.output.now in
    let x = column g.W.Word.lane_of i c.args.input.now in
    let y = column g.W.Word.lane_of i c.cosine.new.output in
    sym (take_all n y (omega (arith, length-map c.cosine.new.output (λ w. g.W.Word.lane_of w i), c.cosine.auto.output)))
    ∙ c.cosine.ensures.value c.args.k i h c.requires.output_len
    ∙ ap (cosine c.args.range c.args.k)
    (take_all n x (omega (arith, length-map c.args.input.now (λ w. g.W.Word.lane_of w i), c.requires.input_len, c.requires.output_len)))
