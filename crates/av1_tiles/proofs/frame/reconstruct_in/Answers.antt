use Rattle.std.proofs.Common.{◌≤◌, ap, subst, sym, ◌∙◌, arith}
use Rattle.av1_plan.specs.declared.header.Header.{Header}
use Rattle.av1_plan.specs.Values.{plan_value}
use Rattle.av1_tile.specs.Memory.{HasRoomFor}
use Rattle.av1_tile.proofs.PlansOver.{room_within}
use Rattle.av1_tiles.specs.File.{front_value, file_value}
use Rattle.av1_tiles.specs.Tiles.{tile_area, tile_header}
use Rattle.av1_tiles.proofs.Apart.{area_is}
use Rattle.av1_tiles.proofs.Isolation.{tile_header_is}
use Rattle.av1_tiles.proofs.Shown.{tile_put}
use Rattle.av1_tiles.proofs.frame.reconstruct_in.Goals as goal

pub reconstruct_picture-requires-clause-room : goal.reconstruct_picture-requires-clause-room
reconstruct_picture-requires-clause-room g c =
    let front = c.args.file.now.front in
    let area = tile_area (front_value front) c.args.index in
    let is = area_is front c.requires.read.front c.args.index c.requires.tile in
    subst (λ (h : Header). HasRoomFor h c.args.memory.now)
    (tile_header_is (file_value c.args.file.now) c.args.index (plan_value c.in_ok-plan.plan) c.in_ok-plan.ensures.found)
    (room_within front.header (tile_header front.header area) c.args.memory.now
    (omega (arith, is.columns)) (omega (arith, is.rows)) c.requires.room)

pub reconstruct_picture-requires-clause-depth : goal.reconstruct_picture-requires-clause-depth
reconstruct_picture-requires-clause-depth g c =
    subst (λ (h : Header). h.depth ≤ g.T.Pixel.BITS)
    (tile_header_is (file_value c.args.file.now) c.args.index (plan_value c.in_ok-plan.plan) c.in_ok-plan.ensures.found) c.requires.depth

pub place_tile-requires-clause-made : goal.place_tile-requires-clause-made
place_tile-requires-clause-made g c =
    c.in_ok-tile.ensures.header
    ∙ sym (tile_header_is (file_value c.args.file.now) c.args.index (plan_value c.in_ok-plan.plan) c.in_ok-plan.ensures.found)
    ∙ ap (tile_header c.args.file.now.front.header) (sym c.tile_area.ensures.value)

pub returns-clause-done : goal.returns-clause-done
returns-clause-done g c =
    tile_put g.T.Pixel.num g.T.Pixel.pixel g.met.T.Pixel.pixel_of_num g.met.T.Pixel.num_of_pixel c.args.file.now c.requires.read c.args.index c.requires.tile
    (plan_value c.in_ok-plan.plan) c.in_ok-plan.ensures.found
    c.in_ok-tile.tile.header c.in_ok-tile.tile.planes c.tile_area.result c.args.planes.now c.place_tile.new.planes c.tile_area.ensures.value c.requires.planes
    c.in_ok-tile.ensures.shown c.in_ok-tile.ensures.header c.place_tile.ensures.placed
