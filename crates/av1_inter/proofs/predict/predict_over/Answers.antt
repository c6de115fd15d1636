use Rattle.std.proofs.Common.{ap, ◌∙◌, ◌+◌, ◌*◌}
use Rattle.av1_frame.proofs.Regions.{painted_same}
use Rattle.av1_inter.specs.Motion.{averaged, entry}
use Rattle.av1_inter.specs.Reference.{frame_filter, moved_prepared, vector_of}
use Rattle.av1_inter.proofs.predict.predict_over.Goals as goal

pub returns-clause-painted : goal.returns-clause-painted
returns-clause-painted g c = λ first second hf hs.
    let d = c.args.fi.now.bit_depth in
    let w = c.args.block.width in
    let one =
    moved_prepared g.T.Pixel.num d (frame_filter c.args.fi.now) first c.args.block.at.x c.args.block.at.y (vector_of c.args.references.mvs 0) w
    c.args.block.height in
    let two =
    moved_prepared g.T.Pixel.num d (frame_filter c.args.fi.now) second c.args.block.at.x c.args.block.at.y (vector_of c.args.references.mvs 1) w
    c.args.block.height in
    painted_same c.args.dst.now _ w c.args.block.height _ (λ r q _. g.T.Pixel.pixel (averaged d (one r q) (two r q))) c.mc_avg.ensures.painted
    (λ r q v l h. ap (λ z. g.T.Pixel.pixel (averaged d z (entry c.prepare_from-2.new.tmp (r * w + q)))) (c.prepare_from.ensures first hf r q l h)
    ∙ ap (λ z. g.T.Pixel.pixel (averaged d (one r q) z)) (c.prepare_from-2.ensures second hs r q l h))
