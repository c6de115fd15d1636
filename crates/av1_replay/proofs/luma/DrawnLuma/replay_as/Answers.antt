use Rattle.av1_replay.proofs.Fitting.{low_samples}
use Rattle.av1_replay.proofs.luma.DrawnLuma.replay_as.Goals as goal

pub put_differences-status-requires : goal.put_differences-status-requires
put_differences-status-requires g c =
    let depth = c.depth-depth in
    record {
      low = low_samples g.T.Pixel.num depth.result c.in_ok-samples.samples.items _ depth.ensures.depths c.in_ok-samples.ensures.within c.deref.ensures.value;
    }
