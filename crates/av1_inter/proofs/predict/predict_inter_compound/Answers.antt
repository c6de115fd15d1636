use Rattle.std.proofs.Common.{ap, ◌∙◌, ℤ, pos, ◌+ℤ◌}
use Rattle.av1_frame.specs.Regions.{painted}
use Rattle.av1_inter.specs.Motion.{averaged}
use Rattle.av1_inter.specs.Reference.{frame_filter, moved_prepared, vector_of}
use Rattle.av1_inter.proofs.predict.predict_inter_compound.Goals as goal

pub returns-clause-painted : goal.returns-clause-painted
returns-clause-painted g c = λ first second hf hs.
    let d = c.args.fi.now.bit_depth in
    let w = c.args.width in
    let h = c.args.height in
    let one = λ (x y : ℤ). moved_prepared g.T.Pixel.num d (frame_filter c.args.fi.now) first x y (vector_of c.args.mvs 0) w h in
    let two = λ (x y : ℤ). moved_prepared g.T.Pixel.num d (frame_filter c.args.fi.now) second x y (vector_of c.args.mvs 1) w h in
    c.predict_over.ensures.painted first second hf hs
    ∙ ap (λ x.
    painted c.args.dst.now w h
    (λ r q _. g.T.Pixel.pixel (averaged d (one x c.to_frame_plane_offset-at.result.y r q) (two x c.to_frame_plane_offset-at.result.y r q))))
    c.to_frame_plane_offset-at.ensures.x
    ∙ ap (λ y.
    painted c.args.dst.now w h
    (λ r q _. g.T.Pixel.pixel (averaged d (one (pos c.args.tile_rect.x +ℤ c.args.po.x) y r q) (two (pos c.args.tile_rect.x +ℤ c.args.po.x) y r q))))
    c.to_frame_plane_offset-at.ensures.y
