use Rattle.std.proofs.Common.{arith, ◌∙◌, ap, sym, take}
use Rattle.std.proofs.lemmas.List.{length-take-le, map-id, take_at, drop_at}
use Rattle.av1_itx.specs.Adst.{adst_more}
use Rattle.av1_itx.proofs.adst.av1_iadst8.Goals as goal

pub returns-clause-value : goal.returns-clause-value
returns-clause-value c = take_at _ _ 8 (c.adst8_of.auto.output ∙ length-take-le 8 c.args.output.now c.requires.output_len) ∙ sym (map-id c.adst8_of.new.output)
    ∙ c.adst8_of.ensures 0 (omega arith) ∙ ap (adst_more c.args.range 2) (map-id (take 8 c.args.input.now))

pub returns-clause-rest : goal.returns-clause-rest
returns-clause-rest c = drop_at _ _ 8 (c.adst8_of.auto.output ∙ length-take-le 8 c.args.output.now c.requires.output_len)
