use Rattle.av1_tiles.proofs.Isolation.{isolated}
use Rattle.av1_tiles.proofs.Seen.{plans_are_all}
use Rattle.av1_tiles.proofs.laws.tiles_are_isolated.Goals as goal

pub returns-clause-isolated : goal.returns-clause-isolated
returns-clause-isolated c = isolated

pub returns-clause-early : goal.returns-clause-early
returns-clause-early c = plans_are_all
