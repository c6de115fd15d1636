use Rattle.av1_tile.proofs.Versions.{versions_agree_elsewhere}
use Rattle.av1_tile.proofs.laws.versions_agree_elsewhere.Goals as goal

pub returns : goal.returns
returns c = versions_agree_elsewhere
