use Rattle.std.proofs.Common.{subst, refl}
use Rattle.av1_plan.specs.Values.{plan_value}
use Rattle.av1_tiles.specs.File.{front_value}
use Rattle.av1_tiles.specs.Seen.{SeesFront}
use Rattle.av1_tiles.specs.Tiles.{tile_scene}
use Rattle.av1_tiles.proofs.Seen.{own_shown, seen_shown, tile_serves}
use Rattle.av1_tiles.proofs.frame.reconstruct_picture.Goals as goal

pub reconstruct_in_frame-requires-clause-serves : goal.reconstruct_in_frame-requires-clause-serves
reconstruct_in_frame-requires-clause-serves g c = (
  tile_scene (front_value c.args.file.now.front) c.args.index (plan_value c.args.plan.now),
  (
    tile_serves g.T.Pixel.num c.args.file.now c.args.index (plan_value c.args.plan.now) c.references_of-from.result c.in-Some.fi c.tile_area.result
        c.args.seen.now
        c.requires.read c.requires.tile c.requires.plan c.in-Some.is c.requires.seen c.references_of-from.ensures.frame c.tile_area.ensures.value
        c.references_of-from.ensures.place,
    refl,
  ),
)

pub returns-in-Some-clause-shown : goal.returns-in-Some-clause-shown
returns-in-Some-clause-shown g c =
    seen_shown g.T.Pixel.num (tile_scene (front_value c.args.file.now.front) c.args.index (plan_value c.args.plan.now)) (plan_value c.args.plan.now)
    c.references_of-from.result c.reconstruct_in_frame.result
    (tile_serves g.T.Pixel.num c.args.file.now c.args.index (plan_value c.args.plan.now) c.references_of-from.result c.in-Some.fi c.tile_area.result
    c.args.seen.now
    c.requires.read c.requires.tile c.requires.plan c.in-Some.is c.requires.seen c.references_of-from.ensures.frame c.tile_area.ensures.value
    c.references_of-from.ensures.place) refl
    c.reconstruct_in_frame.ensures.shown

pub returns-in-None-clause-shown : goal.returns-in-None-clause-shown
returns-in-None-clause-shown g c =
    own_shown g.T.Pixel.num (front_value c.args.file.now.front) c.args.index (plan_value c.args.plan.now) c.reconstruct_alone.result
    (subst (SeesFront g.T.Pixel.num c.args.file.now.front) c.in-None.is c.requires.seen) c.reconstruct_alone.ensures.shown
