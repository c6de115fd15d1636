use Rattle.av1_tile.proofs.Versions.{versions_show_the_same}
use Rattle.av1_tile.proofs.laws.versions_show_the_same.Goals as goal

pub returns : goal.returns
returns c = versions_show_the_same
