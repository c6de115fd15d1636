use Rattle.av1_calls.proofs.LumaCalls.{region_same}
use Rattle.av1_calls.proofs.luma.region_of.Goals as goal

pub returns-clause-same : goal.returns-clause-same
returns-clause-same g c =
    let a = c.args in
    let e = c.from_slice.ensures in
    region_same g.T.Pixel.num a.stride a.area a.samples.now c.split_at.result.0.now c.bare-plane_cfg.result c.visible_area.result c.from_slice.result
    c.requires.rows
    c.split_at.ensures.front c.bare-plane_cfg.ensures c.visible_area.ensures e.samples e.cfg e.area
