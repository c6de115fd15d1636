-- The samples of a tile are those of its plan alone.
use Rattle.std.proofs.Common.{◌≡◌, ℕ, ◌+◌, ◌<◌, sym, ap, subst, ◌∙◌}
use Rattle.av1_frame.specs.Areas.{VisibleArea}
use Rattle.av1_plan.specs.declared.header.Header.{Header}
use Rattle.av1_tile.specs.declared.motion.Motion.{Motion}
use Rattle.av1_plan.specs.Geometry.{shown_columns, shown_rows}
use Rattle.av1_plan.specs.Grammar.{superblocks, plan_behind}
use Rattle.av1_plan.specs.Plan.{PlanValue}
use Rattle.av1_plan.specs.Spelling.{IsSpelled}
use Rattle.av1_plan.proofs.Pieces.{spelled_done, spelled_bind}
use Rattle.av1_tile.specs.Edge.{sample_of}
use Rattle.av1_tile.specs.PlaneBlocks.{number}
use Rattle.av1_tile.specs.Reference.{walk_of}
use Rattle.av1_tiles.specs.Grammar.{FrontValue, FileValue}
use Rattle.av1_tiles.specs.Joined.{TilesAreIsolated}
use Rattle.av1_tiles.specs.Tiles.{tile_area, tile_header, tile_motion, tile_plan, tile_walk, corner_column, corner_row}
use Rattle.av1_tiles.specs.Validity.{IsTile}

-- the header of a tile's plan is the tile's
plan_header : (f : FrontValue) (i : ℕ) (plan : PlanValue) → IsSpelled (tile_plan f i) plan → tile_header f.header (tile_area f i) ≡ plan.header
unfolding tile_plan plan_behind
plan_header f i plan s =
    let (leaves, _, s1) = spelled_bind (superblocks (tile_header f.header (tile_area f i))) _ plan s in
    ap (λ (p : PlanValue). p.header) (spelled_done _ plan s1)

pub tile_header_is : (f : FileValue) (i : ℕ) (plan : PlanValue) → IsTile f i plan → tile_header f.front.header (tile_area f.front i) ≡ plan.header
tile_header_is f i plan is = plan_header f.front i plan (record { values = is.text.0; spells = is.text.1 })

pub isolated : TilesAreIsolated
unfolding walk_of tile_walk
isolated f g plans_f plans_g frame_f frame_g i tiles_f tiles_g joined_f joined_g lt_f lt_g same motion columns rows component x y lx ly =
    let p = number component in
    let header : tile_header f.front.header (tile_area f.front i) ≡ tile_header g.front.header (tile_area g.front i) =
    tile_header_is f i (plans_f i) (tiles_f i lt_f) ∙ ap (λ (plan : PlanValue). plan.header) same ∙ sym (tile_header_is g i (plans_g i) (tiles_g i lt_g)) in
    let lx_g = subst (λ (h : Header). x < shown_columns h p) header lx in
    let ly_g = subst (λ (h : Header). y < shown_rows h p) header ly in
    joined_f i lt_f component x y lx ly
    ∙ ap (λ (m : ℕ → Motion → VisibleArea → ℕ → ℕ → ℕ).
    sample_of (walk_of (record { header = (plans_f i).header; motion = m }) (plans_f i).leaves component x y)) motion
    ∙ ap (λ (plan : PlanValue). sample_of (walk_of (record { header = plan.header; motion = tile_motion g.front i (plans_g i) }) plan.leaves component x y))
    same
    ∙ sym (joined_g i lt_g component x y lx_g ly_g)
    ∙ ap (λ (column : ℕ). frame_g component (column + x) (corner_row g.front.header (tile_area g.front i) p + y)) (sym (columns component))
    ∙ ap (λ (row : ℕ). frame_g component (corner_column f.front.header (tile_area f.front i) p + x) (row + y)) (sym (rows component))
