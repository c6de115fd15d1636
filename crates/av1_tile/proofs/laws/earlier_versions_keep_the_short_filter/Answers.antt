use Rattle.av1_tile.proofs.Versions.{earlier_versions_keep_the_short_filter}
use Rattle.av1_tile.proofs.laws.earlier_versions_keep_the_short_filter.Goals as goal

pub returns : goal.returns
returns c = earlier_versions_keep_the_short_filter
