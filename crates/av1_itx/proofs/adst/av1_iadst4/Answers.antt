use Rattle.std.proofs.Common.{arith, ◌∙◌, ap, sym, take}
use Rattle.std.proofs.lemmas.List.{length-take-le, map-id, take_at, drop_at}
use Rattle.av1_itx.specs.Adst.{adst4}
use Rattle.av1_itx.proofs.Widths.{numbers-fit}
use Rattle.av1_itx.proofs.adst.av1_iadst4.Goals as goal

pub adst4_of-requires-clause-fit : goal.adst4_of-requires-clause-fit
adst4_of-requires-clause-fit c = λ i h. numbers-fit _ c.requires.fit

pub returns-clause-value : goal.returns-clause-value
returns-clause-value c = take_at _ _ 4 (c.adst4_of.auto.output ∙ length-take-le 4 c.args.output.now c.requires.output_len) ∙ sym (map-id c.adst4_of.new.output)
    ∙ c.adst4_of.ensures 0 (omega arith) ∙ ap adst4 (map-id (take 4 c.args.input.now))

pub returns-clause-rest : goal.returns-clause-rest
returns-clause-rest c = drop_at _ _ 4 (c.adst4_of.auto.output ∙ length-take-le 4 c.args.output.now c.requires.output_len)
