use Rattle.std.proofs.Common.{rules, ◌≡◌, length}
use Rattle.av1_plan.specs.Geometry.{follows_av1}
use Rattle.av1_tile.specs.Walk.{area_at}
use Rattle.av1_tile.proofs.BlockTriples.{none_painted}
use Rattle.av1_tile.proofs.block.add_block.Goals as goal

pub returns-then-is_empty-clause-painted : goal.returns-then-is_empty-clause-painted
returns-then-is_empty-clause-painted g c =
    let a = c.args in
    let none : length a.triples.now ≡ 0 = search rules in
    none_painted g.T.Pixel.num g.T.Pixel.pixel g.met.T.Pixel.pixel_of_num (follows_av1 a.header.now) a.header.now.depth a.block.now a.triples.now a.at.number
    a.plane.now (area_at a.block.now a.at) none c.requires.stores.within
