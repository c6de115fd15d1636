use Rattle.std.proofs.Common.{◌≡◌, ◌<◌}
use Rattle.av1_plan.specs.Values.{plan_value}
use Rattle.av1_tile.specs.State.{IsSound, MadeFor, shown, state_header}
use Rattle.av1_tile.specs.Output.{planes_of, visible}
use Rattle.av1_recon.proofs.lines.reconstruct_often.Given as goal

abbrev pub invariant-loop : goal.invariant-loop
invariant-loop g l = record {
  sound : IsSound g.T.Pixel.num l.state;
  made : MadeFor g.T.Pixel.num (plan_value l.plan) l.state;
  headed : 0 < l.counter → state_header l.state ≡ (plan_value l.plan).header;
  reconstructed : 0 < l.counter → visible (state_header l.state) (shown g.T.Pixel.num l.state) ≡ planes_of (plan_value l.plan);
}
