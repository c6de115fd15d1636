use Rattle.av1_tiles.proofs.Answering.{is_frame, goes_on, ends}
use Rattle.av1_tiles.proofs.reconstruct.reconstruct_tiles.Goals as goal

pub write_joined-requires : goal.write_joined-requires
write_joined-requires g c =
    record { frame = is_frame g.R.Source.left g.R.Source.faults g.W.Sink.taken g.W.Sink.faults _ _ c.in_ok-frame.frame c.in_ok-frame.ensures }

pub returns : goal.returns
returns g c =
    goes_on g.R.Source.left g.R.Source.faults g.W.Sink.taken g.W.Sink.faults _ _ _ _ c.in_ok-frame.frame c.write_joined.result c.in_ok-frame.ensures
    c.write_joined.ensures

pub returns-in_err-frame : goal.returns-in_err-frame
returns-in_err-frame g c =
    ends g.R.Source.left g.R.Source.faults g.W.Sink.taken g.W.Sink.faults _ _ _ c.from_residual.result c.in_err-frame.field-0.0 c.from_residual.ensures.1
    c.in_err-frame.ensures
