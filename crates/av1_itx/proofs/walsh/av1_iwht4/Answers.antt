use Rattle.std.proofs.Common.{arith, ◌∙◌, ap, sym, take}
use Rattle.std.proofs.lemmas.List.{length-take-le, map-id, take_at, drop_at}
use Rattle.av1_itx.specs.Walsh.{walsh}
use Rattle.av1_itx.proofs.Widths.{numbers-fit}
use Rattle.av1_itx.proofs.walsh.av1_iwht4.Goals as goal

pub walsh_of-requires-clause-fit : goal.walsh_of-requires-clause-fit
walsh_of-requires-clause-fit c = λ i h. numbers-fit _ c.requires.fit

pub returns-clause-value : goal.returns-clause-value
returns-clause-value c = take_at _ _ 4 (c.walsh_of.auto.output ∙ length-take-le 4 c.args.output.now c.requires.output_len) ∙ sym (map-id c.walsh_of.new.output)
    ∙ c.walsh_of.ensures 0 (omega arith) ∙ ap walsh (map-id (take 4 c.args.input.now))

pub returns-clause-rest : goal.returns-clause-rest
returns-clause-rest c = drop_at _ _ 4 (c.walsh_of.auto.output ∙ length-take-le 4 c.args.output.now c.requires.output_len)
