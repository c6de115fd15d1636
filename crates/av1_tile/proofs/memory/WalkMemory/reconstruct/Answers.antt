use Rattle.av1_plan.specs.Values.{leaves_value}
use Rattle.av1_tile.specs.Reference.{scene}
use Rattle.av1_tile.proofs.PlansOver.{over_plan, whole_over}
use Rattle.av1_tile.proofs.memory.WalkMemory.reconstruct.Goals as goal

pub reconstruct_tile-requires-clause-tile : goal.reconstruct_tile-requires-clause-tile
reconstruct_tile-requires-clause-tile g c =
    let a = c.args in
    let plan = c.requires.plan in (
      scene plan.0,
      (
        plan.0,
        whole_over c.whole.result c.whole.ensures.whole g.T.Pixel.num a.header.now (leaves_value a.leaves.now) a.fi.now plan.0 c.whole.ensures.frame plan.1,
      ),
    )

pub returns-clause-shown : goal.returns-clause-shown
returns-clause-shown g c = λ plan is.
    let a = c.args in
    let h = a.header.now in
    let leaves = leaves_value a.leaves.now in
    let walk = c.reconstruct_tile in
    over_plan g.T.Pixel.num h leaves a.fi.now plan is walk.new.planes (walk.ensures.shown (scene plan) plan
    (whole_over c.whole.result c.whole.ensures.whole g.T.Pixel.num h leaves a.fi.now plan c.whole.ensures.frame is))

pub returns-clause-edges : goal.returns-clause-edges
returns-clause-edges g c = λ plan is.
    let a = c.args in
    c.reconstruct_tile.ensures.edges (scene plan) plan
    (whole_over c.whole.result c.whole.ensures.whole g.T.Pixel.num a.header.now (leaves_value a.leaves.now) a.fi.now plan c.whole.ensures.frame is)
