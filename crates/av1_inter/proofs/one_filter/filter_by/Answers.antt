use Rattle.av1_inter.proofs.one_filter.filter_by.Goals as goal

pub loop-r-preserved : goal.loop-r-preserved
loop-r-preserved g c = c.filter_row.ensures _ c.requires.rows c.loop-r.invariant
