use Rattle.std.proofs.Common.{◌*◌, ◌^◌, arith, ◌∙◌}
use Rattle.std.proofs.lemmas.List.{length-take-le}
use Rattle.av1_dct.specs.Word.{lane_of_vector}
use Rattle.av1_dct.proofs.CutWords.{front_column}
use Rattle.av1_dct.proofs.narrow_lanes.cosine_short_of.Goals as goal

pub returns-clause-value : goal.returns-clause-value
returns-clause-value g c = λ i h.
    front_column lane_of_vector i (2 * 2 ^ g.row.K) g.row.N c.cosine_within.new.output c.args.output.now
    (omega (arith, c.requires.n_in, c.cosine_within.auto.output, length-take-le g.row.N c.args.output.now (omega arith)))
    ∙ c.cosine_within.ensures i h
