use Rattle.av1_tile.proofs.Sharing.{earlier_share_none}
use Rattle.av1_tile.proofs.laws.earlier_versions_share_no_chroma.Goals as goal

pub returns : goal.returns
returns c = earlier_share_none
