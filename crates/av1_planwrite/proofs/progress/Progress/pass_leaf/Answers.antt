use Rattle.std.proofs.Common.{[], refl}
use Rattle.av1_planwrite.specs.Builder.{built}
use Rattle.av1_planwrite.proofs.BuilderParts.{leaf_first, building_is}
use Rattle.av1_planwrite.proofs.progress.Progress.pass_leaf.Goals as goal

pub pass-requires : goal.pass-requires
pass-requires c = leaf_first (built c.args.self.now []) c.requires

pub returns : goal.returns
returns c = λ bytes l. building_is _ c.args.self.now.walk.header _ _ _ _ _ _ c.pass.ensures.header refl c.pass.ensures.parts refl
