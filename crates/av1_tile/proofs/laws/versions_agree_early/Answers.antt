use Rattle.av1_tile.proofs.Versions.{versions_agree_early}
use Rattle.av1_tile.proofs.laws.versions_agree_early.Goals as goal

pub returns : goal.returns
returns c = versions_agree_early
