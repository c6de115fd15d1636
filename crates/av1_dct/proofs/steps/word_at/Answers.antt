use Rattle.std.proofs.Common.{sym, subst}
use Rattle.av1_dct.specs.Arithmetic.{FitsBits}
use Rattle.av1_dct.proofs.Places.{column_get}
use Rattle.av1_dct.proofs.steps.word_at.Goals as goal

pub returns-clause-value : goal.returns-clause-value
returns-clause-value g c = λ i h. column_get g.W.Butterfly.lane_of i c.args.v.now c.args.p c.index-v-p.result c.requires.p_in c.index-v-p.is

pub returns-clause-fits : goal.returns-clause-fits
returns-clause-fits g c = λ i h. subst (FitsBits 20) (sym (returns-clause-value g c i h)) (c.requires.fit i h c.args.p)
