-- Bytes have one outcome.
use Rattle.std.proofs.Common.{◌≡◌, ℕ, ◌+◌, ◌-◌, ◌*◌, ◌/◌, ◌^◌, ◌<◌, ◌≤◌, List, Result, Ok, Err, sym, ap, subst, ◌∙◌, arith}
use Rattle.av1_plan.specs.Geometry.{xdec, ydec, shown_columns, shown_rows}
use Rattle.av1_plan.specs.Plan.{PlanValue}
use Rattle.av1_plan.proofs.Spelled.{one_text}
use Rattle.av1_tile.specs.Canvas.{Component}
use Rattle.av1_tile.specs.Edge.{sample_of}
use Rattle.av1_tile.specs.Output.{visible}
use Rattle.av1_tile.specs.PlaneBlocks.{number}
use Rattle.av1_tile.proofs.Simulation.{visible_same}
use Rattle.av1_tiles.specs.declared.area.TileArea.{TileArea}
use Rattle.av1_tiles.specs.declared.error.TilesError.{TilesError}
use Rattle.av1_tiles.specs.declared.error.TilesError.TheVariants.{ReadFault, TooLong, Malformed, Tile, WriteFault, Memory}
use Rattle.av1_tiles.specs.Grammar.{FileValue}
use Rattle.av1_tiles.specs.Joined.{ComesTo, IsJoined, tile_columns, tile_rows}
use Rattle.av1_tiles.specs.Outcomes.{AreJoined, HasOutcome}
use Rattle.av1_tiles.specs.Refusals.{AreRefusedFor, IsFirstRefused}
use Rattle.av1_tiles.specs.Tiles.{across, tile_area, tile_plan, tile_walk, part_of, corner_column, corner_row}
use Rattle.av1_tiles.specs.Validity.{AreTiles}
use Rattle.av1_tiles.proofs.Covering.{lies, tile_at}
use Rattle.av1_tiles.proofs.ReadFronts.{HasBounds, front_bounds}
use Rattle.av1_tiles.proofs.Rectangles.{tile_width, tile_height, xdec_small, ydec_small}
use Rattle.av1_plan.proofs.Parts.{clash}
use Rattle.av1_tiles.proofs.Refusals.{front_spelled, not_both, one_grid, one_reason}

-- ---- joined planes

-- two frames that tiles come to agree at each sample
agree : (f : FileValue) → HasBounds f.front → (plans others : ℕ → PlanValue) → AreTiles f plans → AreTiles f others →
    (a b : Component → ℕ → ℕ → ℕ) →
    IsJoined f plans a → IsJoined f others b
    → (c : Component) (x y : ℕ) → x < shown_columns f.front.header (number c) → y < shown_rows f.front.header (number c) → a c x y ≡ b c x y
unfolding shown_columns shown_rows
agree f bounds plans others tiles_a tiles_b a b joined_a joined_b c x y lx ly =
    let h = f.front.header in
    let p = number c in
    let column = lies h.width f.front.columns bounds.columns (xdec h p) x (xdec_small h p) lx in
    let row = lies h.height f.front.rows bounds.rows (ydec h p) y (ydec_small h p) ly in
    let i = row.k * across f.front + column.k in
    let at = tile_at f.front column.k row.k column.within row.within in
    let t = tile_area f.front i in
    let dx = x - corner_column h t p in
    let dy = y - corner_row h t p in
    let from_x : corner_column h t p ≤ x = subst (λ (q : TileArea). q.x / 2 ^ xdec h p ≤ x) (sym at.area) column.from in
    let from_y : corner_row h t p ≤ y = subst (λ (q : TileArea). q.y / 2 ^ ydec h p ≤ y) (sym at.area) row.from in
    let wide : dx < (t.width + xdec h p) / 2 ^ xdec h p =
    subst (λ (q : TileArea). x - q.x / 2 ^ xdec h p < (q.width + xdec h p) / 2 ^ xdec h p) (sym at.area) column.below in
    let high : dy < (t.height + ydec h p) / 2 ^ ydec h p =
    subst (λ (q : TileArea). y - q.y / 2 ^ ydec h p < (q.height + ydec h p) / 2 ^ ydec h p) (sym at.area) row.below in
    let in_x : dx < tile_columns f.front i p = subst (λ (n : ℕ). dx < n) (sym (tile_width h t p)) wide in
    let in_y : dy < tile_rows f.front i p = subst (λ (n : ℕ). dy < n) (sym (tile_height h t p)) high in
    let place_x : corner_column h t p + dx ≡ x = omega (arith, from_x) in
    let place_y : corner_row h t p + dy ≡ y = omega (arith, from_y) in
    let moved : (g : Component → ℕ → ℕ → ℕ) → g c (corner_column h t p + dx) (corner_row h t p + dy) ≡ g c x y =
    λ g. ap (λ (n : ℕ). g c n (corner_row h t p + dy)) place_x ∙ ap (λ (n : ℕ). g c x n) place_y in
    let plan : plans i ≡ others i = one_text (tile_plan f.front i) (part_of f i) (plans i) (others i) (tiles_a i at.within).text (tiles_b i at.within).text in
    sym (moved a) ∙ joined_a i at.within c dx dy in_x in_y ∙ ap (λ (q : PlanValue). sample_of (tile_walk f.front i q c dx dy)) plan
    ∙ sym (joined_b i at.within c dx dy in_x in_y) ∙ moved b

-- bytes come to one list of bytes
one_joined : (bytes v w : List ℕ) → AreJoined bytes v → AreJoined bytes w → v ≡ w
one_joined bytes v w (f, grid, (frame, comes, is)) (g, other, (frame_g, comes_g, is_g)) =
    let same : g ≡ f = one_grid bytes g f other grid in
    let comes_f : ComesTo f frame_g = subst (λ (e : FileValue). ComesTo e frame_g) same comes_g in
    let is_f : w ≡ visible f.front.header frame_g = is_g ∙ ap (λ (e : FileValue). visible e.front.header frame_g) same in
    let (plans, tiles, joined) = comes in
    let (others, tiles_g, joined_g) = comes_f in
    let spelled = front_spelled bytes f grid in
    let bounds = front_bounds f.front spelled in
    is ∙ visible_same f.front.header frame frame_g (λ c x y lx ly. agree f bounds plans others tiles tiles_g frame frame_g joined joined_g c x y lx ly)
    ∙ sym is_f

-- ---- outcomes

-- a grid of valid tiles isn't refused
not_refused : (bytes written : List ℕ) (e : TilesError) → AreJoined bytes written → AreRefusedFor bytes e → ⊥
not_refused bytes written TooLong (f, grid, joined) long = absurd (omega (arith, grid.short, long))
not_refused bytes written (Malformed at) (f, grid, joined) (short, refused) = clash f at (sym grid.read ∙ refused)
not_refused bytes written (Tile i fault) (f, grid, (frame, (plans, tiles, joined), is)) (g, other, first) =
    let same : g ≡ f = one_grid bytes g f other grid in
    let here = subst (λ (e : FileValue). IsFirstRefused e i fault) same first in
    not_both f i (plans i) fault (tiles i here.within) here.refused
not_refused bytes written ReadFault joined refused = absurd refused
not_refused bytes written WriteFault joined refused = absurd refused
not_refused bytes written Memory joined refused = absurd refused

abbrev written_of : List ℕ → Result (List ℕ) TilesError
written_of bytes = Ok bytes

abbrev refused_for : TilesError → Result (List ℕ) TilesError
refused_for e = Err e

-- bytes have one outcome
pub one_outcome : (bytes : List ℕ) (a b : Result (List ℕ) TilesError) → HasOutcome bytes a → HasOutcome bytes b → a ≡ b
one_outcome bytes (Ok v) (Ok w) p q = ap written_of (one_joined bytes v w p q)
one_outcome bytes (Ok v) (Err e) p q = absurd (not_refused bytes v e p q)
one_outcome bytes (Err d) (Ok w) p q = absurd (not_refused bytes w d q p)
one_outcome bytes (Err d) (Err e) p q = ap refused_for (one_reason bytes d e p q)
