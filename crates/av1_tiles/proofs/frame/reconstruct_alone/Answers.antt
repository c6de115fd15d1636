use Rattle.av1_plan.specs.Values.{leaves_value, plan_value}
use Rattle.av1_tile.proofs.PlansOver.{read_over}
use Rattle.av1_tiles.proofs.frame.reconstruct_alone.Goals as goal

pub reconstruct-requires-clause-plan : goal.reconstruct-requires-clause-plan
reconstruct-requires-clause-plan g c = (
  plan_value c.args.plan.now,
  read_over g.T.Pixel.num c.args.plan.now (leaves_value c.leaves_with_triples.result.now) c.header.result.now c.in_ok-fi.fi c.leaves_with_triples.ensures
      c.header.ensures.value c.requires.valid c.in_ok-fi.ensures,
)

pub returns-clause-frame : goal.returns-clause-frame
returns-clause-frame g c = let s = c.reconstruct.ensures.stores in record { y = s.y.place; u = s.u.place; v = s.v.place }

pub returns-clause-shown : goal.returns-clause-shown
returns-clause-shown g c =
    c.reconstruct.ensures.shown (plan_value c.args.plan.now)
    (read_over g.T.Pixel.num c.args.plan.now (leaves_value c.leaves_with_triples.result.now) c.header.result.now c.in_ok-fi.fi c.leaves_with_triples.ensures
    c.header.ensures.value c.requires.valid c.in_ok-fi.ensures)
