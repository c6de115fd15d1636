use Rattle.av1_c.proofs.TraceCalls.{joined}
use Rattle.av1_c.proofs.differences.gathered.Goals as goal

pub returns : goal.returns
returns c =
    joined c.in_ok-rows.rows.items c.push_plane.new.rows.items c.push_plane-2.new.rows.items c.push_plane-3.new.rows.items _ _ _ c.in_ok-rows.ensures.items
    c.in_ok-push_plane.ensures c.in_ok-push_plane-2.ensures c.in_ok-push_plane-3.ensures
