use Rattle.std.proofs.Common.{arith, ◌∙◌, ap, sym, take}
use Rattle.std.proofs.lemmas.List.{length-take-le, map-id, take_at, drop_at}
use Rattle.av1_itx.specs.Adst.{adst_more}
use Rattle.av1_itx.proofs.adst.av1_iadst16.Goals as goal

pub returns-clause-value : goal.returns-clause-value
returns-clause-value c = take_at _ _ 16 (c.adst16_of.auto.output ∙ length-take-le 16 c.args.output.now c.requires.output_len)
    ∙ sym (map-id c.adst16_of.new.output) ∙ c.adst16_of.ensures 0 (omega arith) ∙ ap (adst_more c.args.range 3) (map-id (take 16 c.args.input.now))

pub returns-clause-rest : goal.returns-clause-rest
returns-clause-rest c = drop_at _ _ 16 (c.adst16_of.auto.output ∙ length-take-le 16 c.args.output.now c.requires.output_len)
