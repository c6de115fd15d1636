use Rattle.std.proofs.Common.{arith, ◌∙◌, ap, sym, take}
use Rattle.std.proofs.lemmas.List.{length-take-le, map-id, take_at, drop_at}
use Rattle.av1_itx.specs.Identity.{identity}
use Rattle.av1_itx.proofs.Widths.{numbers-fit}
use Rattle.av1_itx.proofs.identity.av1_iidentity4.Goals as goal

pub identity_of-requires-clause-fit : goal.identity_of-requires-clause-fit
identity_of-requires-clause-fit c = λ i h. numbers-fit _ c.requires.fit

pub returns-clause-value : goal.returns-clause-value
returns-clause-value c = take_at _ _ 4 (c.identity_of.auto.output ∙ length-take-le 4 c.args.output.now c.requires.output_len)
    ∙ sym (map-id c.identity_of.new.output) ∙ c.identity_of.ensures 0 (omega arith) ∙ ap (identity 1) (map-id (take 4 c.args.input.now))

pub returns-clause-rest : goal.returns-clause-rest
returns-clause-rest c = drop_at _ _ 4 (c.identity_of.auto.output ∙ length-take-le 4 c.args.output.now c.requires.output_len)
