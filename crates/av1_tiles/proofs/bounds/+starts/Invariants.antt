use Rattle.av1_tiles.proofs.bounds.+starts.Given as goal

abbrev pub decreases-starts : goal.decreases-starts
decreases-starts l = l.count
