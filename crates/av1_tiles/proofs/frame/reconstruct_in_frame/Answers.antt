use Rattle.std.proofs.Common.{List, subst}
use Rattle.av1_plan.specs.Plan.{LeafValue}
use Rattle.av1_plan.specs.Values.{leaves_value, plan_value}
use Rattle.av1_tile.specs.Memory.{ShowsScene}
use Rattle.av1_tiles.proofs.Seen.{tile_over}
use Rattle.av1_tiles.proofs.frame.reconstruct_in_frame.Goals as goal

pub reconstruct_tile-requires-clause-tile : goal.reconstruct_tile-requires-clause-tile
reconstruct_tile-requires-clause-tile g c =
    let scene = c.requires.serves in (
      scene.0,
      (
        plan_value c.args.plan.now,
        tile_over g.T.Pixel.num c.args.plan.now (leaves_value c.leaves_with_triples.result.now) c.header.result.now c.args.from.now scene.0
            c.leaves_with_triples.ensures c.header.ensures.value c.requires.valid scene.1.1 scene.1.0,
      ),
    )

pub returns-clause-frame : goal.returns-clause-frame
returns-clause-frame g c = let s = c.reconstruct_tile.ensures.stores in record { y = s.y.place; u = s.u.place; v = s.v.place }

pub returns-clause-shown : goal.returns-clause-shown
returns-clause-shown g c = λ scene serves same.
    subst (λ (ls : List LeafValue). ShowsScene g.T.Pixel.num scene ls c.reconstruct_tile.new.planes) c.leaves_with_triples.ensures
    (c.reconstruct_tile.ensures.shown scene (plan_value c.args.plan.now)
    (tile_over g.T.Pixel.num c.args.plan.now (leaves_value c.leaves_with_triples.result.now) c.header.result.now c.args.from.now scene
    c.leaves_with_triples.ensures c.header.ensures.value c.requires.valid same serves))
