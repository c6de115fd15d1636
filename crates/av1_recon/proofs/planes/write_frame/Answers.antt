use Rattle.std.proofs.lemmas.Result.{on_ok_weaker}
use Rattle.av1_tile.specs.Output.{visible}
use Rattle.av1_recon.proofs.Rows.{AppendsPrefix-one, AppendsPrefix-two, AppendsPrefix-three, Appends-three}
use Rattle.av1_recon.proofs.planes.write_frame.Goals as goal

pub returns-in_err-write_plane-clause-prefix : goal.returns-in_err-write_plane-clause-prefix
unfolding visible
returns-in_err-write_plane-clause-prefix g c = AppendsPrefix-one _ _ _ _ _ c.write_plane.ensures.prefix

pub returns-in_err-write_plane-2-clause-prefix : goal.returns-in_err-write_plane-2-clause-prefix
unfolding visible
returns-in_err-write_plane-2-clause-prefix g c = AppendsPrefix-two _ _ _ _ _ _ c.in_ok-write_plane.ensures.whole c.write_plane-2.ensures.prefix

pub returns-clause-whole : goal.returns-clause-whole
unfolding visible
returns-clause-whole g c =
    on_ok_weaker c.write_plane-3.result (λ third. Appends-three _ _ _ _ _ _ _ c.in_ok-write_plane.ensures.whole c.in_ok-write_plane-2.ensures.whole third)
    c.write_plane-3.ensures.whole

pub returns-clause-prefix : goal.returns-clause-prefix
unfolding visible
returns-clause-prefix g c =
    AppendsPrefix-three _ _ _ _ _ _ _ c.in_ok-write_plane.ensures.whole c.in_ok-write_plane-2.ensures.whole c.write_plane-3.ensures.prefix
