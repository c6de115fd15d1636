use Rattle.av1_plan.specs.Values.{plan_value}
use Rattle.av1_tile.specs.State.{Picture}
use Rattle.av1_tile.proofs.PlansOver.{made_with}
use Rattle.av1_tile.proofs.state.TileState.new.Goals as goal

pub returns-clause-made : goal.returns-clause-made
returns-clause-made g c =
    let s : Picture _ =
    record { header = c.header.result.now; references = c.in_ok-fi.fi; planes = c.in_ok-planes.planes; edges = c.in_ok-memory.memory.edges } in
    made_with g.T.Pixel.num (plan_value c.args.plan.now) s c.header.ensures.value c.in_ok-fi.ensures
