use Rattle.std.proofs.lemmas.Result.{on_ok_weaker}
use Rattle.av1_recon.proofs.Rows.{AppendsPrefix-one, AppendsPrefix-two, AppendsPrefix-three, Appends-three}
use Rattle.av1_sequence.proofs.output.write_last.Goals as goal

pub returns-in_err-write_plane-clause-prefix : goal.returns-in_err-write_plane-clause-prefix
returns-in_err-write_plane-clause-prefix g c = λ frame is. AppendsPrefix-one _ _ _ _ _ (c.write_plane.ensures.prefix frame is)

pub returns-in_err-write_plane-2-clause-prefix : goal.returns-in_err-write_plane-2-clause-prefix
returns-in_err-write_plane-2-clause-prefix g c =
    λ frame is. AppendsPrefix-two _ _ _ _ _ _ (c.in_ok-write_plane.ensures.whole frame is) (c.write_plane-2.ensures.prefix frame is)

pub returns-clause-whole : goal.returns-clause-whole
returns-clause-whole g c =
    on_ok_weaker c.write_plane-3.result
    (λ third frame is. Appends-three _ _ _ _ _ _ _ (c.in_ok-write_plane.ensures.whole frame is) (c.in_ok-write_plane-2.ensures.whole frame is) (third frame is))
    c.write_plane-3.ensures.whole

pub returns-clause-prefix : goal.returns-clause-prefix
returns-clause-prefix g c = λ frame is.
    AppendsPrefix-three _ _ _ _ _ _ _ (c.in_ok-write_plane.ensures.whole frame is) (c.in_ok-write_plane-2.ensures.whole frame is)
    (c.write_plane-3.ensures.prefix frame is)
