use Rattle.std.proofs.Common.{arith}
use Rattle.av1_dct.specs.Word.{column, lane_of_vector}
use Rattle.av1_dct.proofs.Lengths.{fits_at, value_at}
use Rattle.av1_dct.proofs.narrow_lanes.cosine_short.Goals as goal

pub cosine_short_of-requires-clause-fit : goal.cosine_short_of-requires-clause-fit
cosine_short_of-requires-clause-fit c = λ i h. fits_at 16 c.args.n 8 _ (omega arith) (c.requires.fit i h)

pub returns-in-8-clause-value : goal.returns-in-8-clause-value
returns-in-8-clause-value c = λ k i h e.
    value_at 16 c.args.n 2 k (column lane_of_vector i c.args.input.now) (column lane_of_vector i c.cosine_short_of.new.output)
    (omega arith) e (c.cosine_short_of.ensures.value i h)

pub cosine_of_few-requires-clause-fit : goal.cosine_of_few-requires-clause-fit
cosine_of_few-requires-clause-fit c = λ i h. fits_at 16 c.args.n 16 _ (omega arith) (c.requires.fit i h)

pub returns-in-16-clause-value : goal.returns-in-16-clause-value
returns-in-16-clause-value c = λ k i h e.
    value_at 16 c.args.n 3 k (column lane_of_vector i c.args.input.now) (column lane_of_vector i c.cosine_of_few.new.output)
    (omega arith) e (c.cosine_of_few.ensures.value i h)

pub cosine_of_few-requires-in-32-clause-fit : goal.cosine_of_few-requires-in-32-clause-fit
cosine_of_few-requires-in-32-clause-fit c = λ i h. fits_at 16 c.args.n 32 _ (omega arith) (c.requires.fit i h)

pub returns-in-32-clause-value : goal.returns-in-32-clause-value
returns-in-32-clause-value c = λ k i h e.
    value_at 16 c.args.n 4 k (column lane_of_vector i c.args.input.now) (column lane_of_vector i c.cosine_of_few-in-32.new.output)
    (omega arith) e (c.cosine_of_few-in-32.ensures.value i h)

pub cosine_of_few-requires-in_default-clause-fit : goal.cosine_of_few-requires-in_default-clause-fit
cosine_of_few-requires-in_default-clause-fit c = λ i h. fits_at 16 c.args.n 64 _ (omega arith) (c.requires.fit i h)

pub returns-in_default-clause-value : goal.returns-in_default-clause-value
returns-in_default-clause-value c = λ k i h e.
    value_at 16 c.args.n 5 k (column lane_of_vector i c.args.input.now) (column lane_of_vector i c.cosine_of_few-in_default.new.output)
    (omega arith) e (c.cosine_of_few-in_default.ensures.value i h)
