-- What a tile is predicted from: its own plan, or the whole of each reference.
use Rattle.std.proofs.Common.{◌≡◌, ℕ, zero, suc, ◌+◌, ◌/◌, ◌^◌, ◌<◌, ◌≤◌, List, Option, Some, None, Result, Ok, Err, IfOk, Bool, true, false, if◌then◌else◌}
use Rattle.std.proofs.Common.{refl}
use Rattle.std.proofs.Common.{sym, ap, subst, ◌∙◌, arith}
use Rattle.std.proofs.Math.Nat.{div-le_self}
use mathlib.Core.Path.{fun_ext}
use Rattle.av1_blocks.specs.declared.partition.RefType.{RefType}
use Rattle.av1_frame.specs.Areas.{VisibleArea}
use Rattle.av1_frame.specs.declared.frame_invariants.FrameInvariants.{FrameInvariants}
use Rattle.av1_plan.specs.declared.header.Header.{Header}
use Rattle.av1_tile.specs.declared.motion.Motion.{Motion}
use Rattle.av1_plan.specs.Geometry.{follows_av1, has_slot, xdec, ydec}
use Rattle.av1_plan.specs.declared.plan.Plan.{Plan}
use Rattle.av1_plan.specs.Plan.{LeafValue, PlanValue}
use Rattle.av1_plan.specs.Values.{plan_value}
use Rattle.av1_plan.specs.ReadPlans.{IsReadFrame}
use Rattle.av1_plan.specs.Validity.{first_fault, has_reference}
use Rattle.av1_tile.specs.declared.references.TileReferences.{TileReferences}
use Rattle.av1_tile.specs.Motion.{HoldsReferences, ServesPlan, frame_with, in_frame, rect_of, shifted, plan_motion}
use Rattle.av1_tile.proofs.Served.{holds_serves}
use Rattle.av1_tile.specs.declared.planes.Planes.{Planes}
use Rattle.av1_tile.specs.Canvas.{Canvas}
use Rattle.av1_tile.specs.Edge.{sample_of}
use Rattle.av1_tile.specs.Memory.{IsTileOver, ShowsPlan, ShowsScene}
use Rattle.av1_tile.specs.Reference.{Scene, slow_walk, walk_of}
use Rattle.av1_tile.specs.Walk.{ServesScene}
use Rattle.av1_tile.proofs.Versions.{not_third}
use Rattle.av1_tiles.specs.declared.area.TileArea.{TileArea}
use Rattle.av1_tiles.specs.declared.frame.TilePicture.{TilePicture}
use Rattle.av1_tiles.specs.declared.file.TileFile.{TileFile}
use Rattle.av1_tiles.specs.Bounds.{IsReadFile}
use Rattle.av1_tiles.specs.File.{file_value, front_value}
use Rattle.av1_tiles.specs.Grammar.{FrontValue, count_tiles}
use Rattle.av1_tiles.specs.Joined.{PlansAreAll}
use Rattle.av1_tiles.specs.Seen.{IsAtTile, SeesFront}
use Rattle.av1_tiles.specs.Tiles.{IsTileArea, corner_column, corner_row, tile_area, tile_header, tile_motion, tile_scene, tile_walk}
use Rattle.av1_tiles.specs.Validity.{IsTile}
use Rattle.av1_tiles.proofs.Apart.{area_is}
use Rattle.av1_tiles.proofs.Isolation.{tile_header_is}
use Rattle.av1_tiles.proofs.Rectangles.{same_xdec, same_ydec}

-- what leaves predict of tile i, where motion reads the frame's references and where it doesn't
abbrev by_choice : FrontValue → ℕ → PlanValue → ℕ → Motion → VisibleArea → Bool → ℕ → ℕ → ℕ
by_choice f i plan p m a b =
    let h = f.header in
    let t = tile_area f i in
    if b then plan_motion (frame_with h f.references) p m (shifted (corner_column h t p) (corner_row h t p) a) else plan_motion plan p m a

-- ---- a tile's own plan

module _ (f : FrontValue) (i : ℕ) (plan : PlanValue) (early : follows_av1 f.header ≡ false) where
  own_motion : tile_motion f i plan ≡ plan_motion plan
  own_motion = fun_ext (λ p. fun_ext (λ m. fun_ext (λ a.
      ap (by_choice f i plan p m a) early)))

  own_walk : tile_walk f i plan ≡ slow_walk plan
  unfolding slow_walk tile_walk walk_of
  own_walk = ap (λ (m : ℕ → Motion → VisibleArea → ℕ → ℕ → ℕ). walk_of (record { header = plan.header; motion = m }) plan.leaves) own_motion

  -- what shows the plan shows the tile
  pub own_shows : {T : Type 0} (num : T → ℕ) (q : Planes T) → ShowsPlan num plan q → ShowsScene num (tile_scene f i plan) plan.leaves q
  unfolding walk_of tile_walk
  own_shows num q shows k x y hx hy = shows k x y hx hy ∙ sym (ap (λ (w : Canvas). sample_of (w k x y)) own_walk)

pub plans_are_all : PlansAreAll
plans_are_all f i plan few =
    let early : follows_av1 f.header ≡ false = not_third f.header.version few in
    (own_motion f i plan early, own_walk f i plan early)

pub own_shown : {T C E : Type 0} (num : T → ℕ) (f : FrontValue) (i : ℕ) (plan : PlanValue) (r : Result (TilePicture T C) E) → follows_av1 f.header ≡ false →
    IfOk r (λ tile. ShowsPlan num plan tile.planes) → IfOk r (λ tile. ShowsScene num (tile_scene f i plan) plan.leaves tile.planes)
own_shown num f i plan (Ok tile) early shows = own_shows f i plan early num tile.planes shows
own_shown num f i plan (Err e) early shows = tt

-- ---- the references of the frame

-- they begin at the tile's corner
pub at_tile : {T : Type 0} (h : Header) (a : TileArea) (from : TileReferences T) → from.luma.x ≡ corner_column h a 0 → from.luma.y ≡ corner_row h a 0 →
    from.chroma.x ≡ corner_column h a 1 → from.chroma.y ≡ corner_row h a 1 → IsAtTile h a from
unfolding xdec ydec
at_tile {T} h a from x y chroma_x chroma_y = record { column = column; row = row }
  where
    column : (p : ℕ) → (rect_of from p).x ≡ corner_column h a p
    column zero = x
    column (suc p) = chroma_x

    row : (p : ℕ) → (rect_of from p).y ≡ corner_row h a p
    row zero = y
    row (suc p) = chroma_y

-- a valid plan in memory with these leaves, walked as a scene with its header
pub tile_over : {T : Type 0} (num : T → ℕ) (plan : Plan) (own : List LeafValue) (h : Header) (from : TileReferences T) (scene : Scene) →
    own ≡ (plan_value plan).leaves → h ≡ (plan_value plan).header → first_fault (plan_value plan) ≡ None → scene.header ≡ (plan_value plan).header →
    ServesScene num scene from → IsTileOver num h own from scene (plan_value plan)
tile_over num plan own h from scene are same valid header serves = record {
  spelled = plan.spelled;
  valid = valid;
  header = sym same;
  leaves = sym are;
  same = header ∙ sym same;
  references = serves;
}

-- what shows each scene that is served shows the tile's
pub seen_shown : {T C E : Type 0} (num : T → ℕ) (scene : Scene) (plan : PlanValue) (from : TileReferences T) (r : Result (TilePicture T C) E)
    → ServesScene num scene from → scene.header ≡ plan.header
    → IfOk r (λ tile. (scene : Scene) → ServesScene num scene from → scene.header ≡ plan.header → ShowsScene num scene plan.leaves tile.planes)
    → IfOk r (λ tile. ShowsScene num scene plan.leaves tile.planes)
seen_shown num scene plan from (Ok tile) serves same shows = shows scene serves same
seen_shown num scene plan from (Err e) serves same shows = tt

same_reference : (h : Header) (a : TileArea) (reference : RefType) → has_reference (tile_header h a) reference ≡ has_reference h reference
unfolding has_reference has_slot
same_reference h a reference = refl

-- a place of a tile is near
near : (a d most : ℕ) → a ≤ most → most ≤ 2048 → a / 2 ^ d < 2 ^ 16
near a d most le few = omega (arith, div-le_self a (2 ^ d), le, few)

module _ {T : Type 0} (num : T → ℕ) (f : FrontValue) (i : ℕ) (plan : PlanValue) (from : TileReferences T) (fi : FrameInvariants T)
    (third : follows_av1 f.header ≡ true) (read : IsReadFrame f.header) (area : IsTileArea f.header (tile_area f i))
    (header : tile_header f.header (tile_area f i) ≡ plan.header) (own : from.fi.now ≡ fi) (place : IsAtTile f.header (tile_area f i) from)
    (holds : HoldsReferences num (frame_with f.header f.references) fi) where
  -- a rectangle of the tile lies there in the frame
  same_rectangle : (p : ℕ) (a : VisibleArea) →
      shifted (corner_column f.header (tile_area f i) p) (corner_row f.header (tile_area f i) p) a ≡ in_frame (rect_of from p) a
  same_rectangle p a =
      ap (λ (n : ℕ). record a { x = n + a.x; y = corner_row f.header (tile_area f i) p + a.y }) (sym (place.column p))
      ∙ ap (λ (n : ℕ). record a { x = (rect_of from p).x + a.x; y = n + a.y }) (sym (place.row p))

  -- they serve the tile
  frame_serves : ServesScene num (tile_scene f i plan) from
  frame_serves = record {
    plan = frame_with f.header f.references;
    serves =
        subst (λ (g : FrameInvariants T). ServesPlan num (frame_with f.header f.references) g) (sym own)
        (holds_serves num (frame_with f.header f.references) fi holds);
    depth = ap (λ (h : Header). h.depth) header;
    xdec = λ p. sym (same_xdec f.header (tile_area f i) p) ∙ ap (λ (h : Header). xdec h p) header;
    ydec = λ p. sym (same_ydec f.header (tile_area f i) p) ∙ ap (λ (h : Header). ydec h p) header;
    has = λ reference. sym (same_reference f.header (tile_area f i) reference) ∙ ap (λ (h : Header). has_reference h reference) header;
    near_x = λ p. subst (λ (n : ℕ). n < 2 ^ 16) (sym (place.column p))
        (near (tile_area f i).x (xdec f.header p) f.header.width (omega (arith, area.columns)) (omega (arith, read.shown_width.within, read.width.most)));
    near_y = λ p. subst (λ (n : ℕ). n < 2 ^ 16) (sym (place.row p))
        (near (tile_area f i).y (ydec f.header p) f.header.height (omega (arith, area.rows)) (omega (arith, read.shown_height.within, read.height.most)));
    motion = λ p m a r c.
        ap (λ (b : Bool). by_choice f i plan p m a b r c) third
        ∙ ap (λ (b : VisibleArea). plan_motion (frame_with f.header f.references) p m b r c) (same_rectangle p a);
  }

-- the frame's references serve a tile of a grid that was read
pub tile_serves : {T : Type 0} (num : T → ℕ) (file : TileFile) (i : ℕ) (plan : PlanValue) (from : TileReferences T) (fi : FrameInvariants T) (a : TileArea)
    (seen : Option (FrameInvariants T))
    → IsReadFile file → i < count_tiles (front_value file.front) → IsTile (file_value file) i plan → seen ≡ Some fi → SeesFront num file.front seen
    → from.fi.now ≡ fi → a ≡ tile_area (front_value file.front) i → IsAtTile file.front.header a from →
    ServesScene num (tile_scene (front_value file.front) i plan) from
tile_serves num file i plan from fi a seen read lt tile is sees own at place =
    let front = file.front in
    let (third, holds) = subst (SeesFront num front) is sees in
    frame_serves num (front_value front) i plan from fi third read.front.frame (area_is front read.front i lt)
    (tile_header_is (file_value file) i plan tile) own
    (subst (λ (b : TileArea). IsAtTile front.header b from) at place) holds
