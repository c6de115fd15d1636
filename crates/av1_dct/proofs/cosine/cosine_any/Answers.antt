use Rattle.std.proofs.Common.{arith}
use Rattle.av1_dct.specs.Word.{column}
use Rattle.av1_dct.proofs.Lengths.{fits_at, value_at}
use Rattle.av1_dct.proofs.cosine.cosine_any.Goals as goal

pub cosine_of-requires-clause-fit : goal.cosine_of-requires-clause-fit
cosine_of-requires-clause-fit g c = λ i h. fits_at c.args.range c.args.n 4 _ (omega arith) (c.requires.fit i h)

pub returns-in-4-clause-value : goal.returns-in-4-clause-value
returns-in-4-clause-value g c = λ k i h e.
    value_at c.args.range c.args.n 1 k (column g.W.Butterfly.lane_of i c.args.input.now) (column g.W.Butterfly.lane_of i c.cosine_of.new.output)
    (omega arith) e (c.cosine_of.ensures.value i h)

pub cosine_of-requires-in-8-clause-fit : goal.cosine_of-requires-in-8-clause-fit
cosine_of-requires-in-8-clause-fit g c = λ i h. fits_at c.args.range c.args.n 8 _ (omega arith) (c.requires.fit i h)

pub returns-in-8-clause-value : goal.returns-in-8-clause-value
returns-in-8-clause-value g c = λ k i h e.
    value_at c.args.range c.args.n 2 k (column g.W.Butterfly.lane_of i c.args.input.now) (column g.W.Butterfly.lane_of i c.cosine_of-in-8.new.output)
    (omega arith) e (c.cosine_of-in-8.ensures.value i h)

pub cosine_of-requires-in-16-clause-fit : goal.cosine_of-requires-in-16-clause-fit
cosine_of-requires-in-16-clause-fit g c = λ i h. fits_at c.args.range c.args.n 16 _ (omega arith) (c.requires.fit i h)

pub returns-in-16-clause-value : goal.returns-in-16-clause-value
returns-in-16-clause-value g c = λ k i h e.
    value_at c.args.range c.args.n 3 k (column g.W.Butterfly.lane_of i c.args.input.now) (column g.W.Butterfly.lane_of i c.cosine_of-in-16.new.output)
    (omega arith) e (c.cosine_of-in-16.ensures.value i h)

pub cosine_of-requires-in-32-clause-fit : goal.cosine_of-requires-in-32-clause-fit
cosine_of-requires-in-32-clause-fit g c = λ i h. fits_at c.args.range c.args.n 32 _ (omega arith) (c.requires.fit i h)

pub returns-in-32-clause-value : goal.returns-in-32-clause-value
returns-in-32-clause-value g c = λ k i h e.
    value_at c.args.range c.args.n 4 k (column g.W.Butterfly.lane_of i c.args.input.now) (column g.W.Butterfly.lane_of i c.cosine_of-in-32.new.output)
    (omega arith) e (c.cosine_of-in-32.ensures.value i h)

pub cosine_of-requires-in_default-clause-fit : goal.cosine_of-requires-in_default-clause-fit
cosine_of-requires-in_default-clause-fit g c = λ i h. fits_at c.args.range c.args.n 64 _ (omega arith) (c.requires.fit i h)

pub returns-in_default-clause-value : goal.returns-in_default-clause-value
returns-in_default-clause-value g c = λ k i h e.
    value_at c.args.range c.args.n 5 k (column g.W.Butterfly.lane_of i c.args.input.now) (column g.W.Butterfly.lane_of i c.cosine_of-in_default.new.output)
    (omega arith) e (c.cosine_of-in_default.ensures.value i h)
