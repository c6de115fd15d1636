-- What a frame shows once a tile was placed in it.
use Rattle.std.proofs.Common.{◌≡◌, ◌≢◌, ℕ, ◌+◌, ◌/◌, ◌^◌, ◌<◌, inl, inr, false, refl, sym, ap, subst, ◌∙◌, arith, slice_index}
use Rattle.av1_lists.specs.Lists.{by_index}
use Rattle.av1_frame.specs.declared.plane.Plane.{Plane}
use Rattle.av1_frame.specs.Areas.{in_visible}
use Rattle.av1_frame.specs.Planes.{sample_at, painted_plane}
use Rattle.av1_frame.proofs.Planes.{sample_at_outside}
use Rattle.av1_plan.specs.declared.header.Header.{Header}
use Rattle.av1_plan.specs.Geometry.{xdec, ydec, shown_columns, shown_rows}
use Rattle.av1_plan.specs.Plan.{PlanValue}
use Rattle.av1_tile.specs.declared.planes.Planes.{Planes}
use Rattle.av1_tile.specs.Canvas.{Component, Y, U, V}
use Rattle.av1_tile.specs.Edge.{sample_of}
use Rattle.av1_tile.specs.PlaneBlocks.{number, component}
use Rattle.av1_tile.specs.Memory.{ShowsScene}
use Rattle.av1_tile.specs.Walk.{AreFrame, IsPlaneOf, plane_of, samples_of}
use Rattle.av1_tile.proofs.Agreement.{listed_same}
use Rattle.av1_tiles.specs.declared.area.TileArea.{TileArea}
use Rattle.av1_tiles.specs.declared.file.Front.{Front}
use Rattle.av1_tiles.specs.declared.file.TileFile.{TileFile}
use Rattle.av1_tiles.specs.Bounds.{IsReadFront, IsReadFile}
use Rattle.av1_tiles.specs.File.{front_value, file_value}
use Rattle.av1_tiles.specs.Grammar.{FrontValue, FileValue, count_tiles}
use Rattle.av1_tiles.specs.Joined.{row_in, tile_rectangle, ShowsTile}
use Rattle.av1_tiles.specs.Tiles.{IsTileArea, tile_area, tile_header, tile_scene, tile_walk, corner_column, corner_row}
use Rattle.av1_tiles.specs.Validity.{IsTile}
use Rattle.av1_tiles.proofs.Isolation.{tile_header_is}
use Rattle.av1_tiles.proofs.Placing.{outside, placed_fits, placed_sample}
use Rattle.av1_tiles.proofs.Apart.{IsApart, area_is, tiles_apart}
use Rattle.av1_tiles.proofs.Rectangles.{columns_within, rows_within, tile_width, tile_height, xdec_small, ydec_small}

same_component : (c : Component) → component (number c) ≡ c
same_component Y = refl
same_component U = refl
same_component V = refl

pub frame_plane : {T : Type 0} (h : Header) (planes : Planes T) → AreFrame h planes → (c : Component) → IsPlaneOf h (number c) (plane_of c planes)
frame_plane h planes are Y = are.y
frame_plane h planes are U = are.u
frame_plane h planes are V = are.v

-- the samples of the tile that was placed are those that it comes to
pub shows_own : {T : Type 0} (num : T → ℕ) (pixel : ℕ → T) → ((v : T) → pixel (num v) ≡ v) → ((v : ℕ) → num (pixel v) ≡ v) →
    (f : FrontValue) (i : ℕ) (plan : PlanValue) (own : Header) (q old new : Planes T)
    → AreFrame f.header old → IsTileArea f.header (tile_area f i) → ShowsScene num (tile_scene f i plan) plan.leaves q → own ≡ plan.header →
    tile_header f.header (tile_area f i) ≡ plan.header
    → ((c : Component) →
    plane_of c new ≡ painted_plane (plane_of c old) (tile_rectangle f.header (tile_area f i) (number c))
    (λ r k _. pixel (slice_index (row_in num own q (number c) r) k)))
    → ShowsTile f i plan (samples_of num new)
unfolding tile_walk
shows_own num pixel back there f i plan own q old new are area shows same header placed c x y lx ly =
    let p = number c in
    let a = tile_rectangle f.header (tile_area f i) p in
    let fits =
    placed_fits f.header (tile_header f.header (tile_area f i)) (tile_area f i) p _ _ (plane_of c old) (frame_plane f.header old are c) area refl refl refl
    in
    let inside : y < shown_rows plan.header p = subst (λ (h : Header). y < shown_rows h p) header ly in
    let row : row_in num own q p y ≡ by_index a.width (λ x. sample_of (tile_walk f i plan c x y)) =
    ap (λ (h : Header). by_index (shown_columns h p) (λ x. samples_of num q (component p) x y)) same
    ∙ ap (λ (k : Component). by_index (shown_columns plan.header p) (λ x. samples_of num q k x y)) (same_component c)
    ∙ listed_same (shown_columns plan.header p) (λ x. samples_of num q c x y) (λ x. sample_of (tile_walk f i plan c x y)) (λ x hx. shows c x y hx inside)
    ∙ ap (λ (h : Header). by_index (shown_columns h p) (λ x. sample_of (tile_walk f i plan c x y))) (sym header) in
    ap (λ (q : Plane _). sample_at num q (a.x + x) (a.y + y)) (placed c)
    ∙ placed_sample num pixel back there (plane_of c old) a (λ r. row_in num own q p r) (λ x y. sample_of (tile_walk f i plan c x y)) fits x y lx ly row

apart_by : (start count place width : ℕ) → width ≡ count → IsApart start count place → IsApart start width place
apart_by start count place width same apart = subst (λ (n : ℕ). IsApart start n place) (sym same) apart

-- the samples of every other tile stay
pub shows_other : {T : Type 0} (num : T → ℕ) (pixel : ℕ → T) → ((v : T) → pixel (num v) ≡ v) → (f : Front) → IsReadFront f → (i j : ℕ) →
    i < count_tiles (front_value f) → j < count_tiles (front_value f) → i ≢ j → (plan : PlanValue) (old new : Planes T)
    → (g : Component → ℕ → ℕ → T → T) → AreFrame f.header old →
    ((c : Component) → plane_of c new ≡ painted_plane (plane_of c old) (tile_rectangle f.header (tile_area (front_value f) i) (number c)) (g c))
    → ShowsTile (front_value f) j plan (samples_of num old) → ShowsTile (front_value f) j plan (samples_of num new)
shows_other num pixel back f read i j lt_i lt_j differ plan old new g are placed before c x y lx ly =
    let h = f.header in
    let p = number c in
    let one = tile_area (front_value f) i in
    let other = tile_area (front_value f) j in
    let a = tile_rectangle h one p in
    let column = corner_column h other p + x in
    let row = corner_row h other p + y in
    let plane = plane_of c old in
    let is = frame_plane h old are c in
    let area = area_is f read j lt_j in
    let in_x : x < (other.width + xdec h p) / 2 ^ xdec h p = subst (λ (n : ℕ). x < n) (tile_width h other p) lx in
    let in_y : y < (other.height + ydec h p) / 2 ^ ydec h p = subst (λ (n : ℕ). y < n) (tile_height h other p) ly in
    let out : in_visible a column row ≡ false =
    outside a column row (elim (tiles_apart f read i j lt_i lt_j differ (xdec h p) (ydec h p) x y (xdec_small h p) (ydec_small h p) in_x in_y) [
      | inl columns ↦ inl (apart_by (corner_column h one p) ((one.width + xdec h p) / 2 ^ xdec h p) column a.width (tile_width h one p) columns)
      | inr rows ↦ inr (apart_by (corner_row h one p) ((one.height + ydec h p) / 2 ^ ydec h p) row a.height (tile_height h one p) rows)
    ]) in
    ap (λ (q : Plane _). sample_at num q column row) (placed c)
    ∙ sample_at_outside num pixel back plane a (g c) column row is.whole
    (omega (arith, columns_within h other p area, lx, is.shown_columns, is.whole.visible_columns))
    (omega (arith, rows_within h other p area, ly, is.shown_rows, is.whole.visible_rows)) out
    ∙ before c x y lx ly

-- what a frame shows once tile i was reconstructed into it: the tile's own plan, and what it showed of all others
abbrev pub IsPut : FileValue → (i : ℕ) → (old new : Component → ℕ → ℕ → ℕ) → Type 0
IsPut f i old new =
    (plan : PlanValue) × IsTile f i plan × ShowsTile f.front i plan new
    × ((other : ℕ) (plan : PlanValue) → other < count_tiles f.front → other ≢ i → ShowsTile f.front other plan old → ShowsTile f.front other plan new)

pub tile_put : {T : Type 0} (num : T → ℕ) (pixel : ℕ → T) → ((v : T) → pixel (num v) ≡ v) → ((v : ℕ) → num (pixel v) ≡ v) → (file : TileFile) →
    IsReadFile file → (i : ℕ) → i < count_tiles (front_value file.front) → (plan : PlanValue) → IsTile (file_value file) i plan
    → (own : Header) (q : Planes T) (area : TileArea) (old new : Planes T) → area ≡ tile_area (front_value file.front) i → AreFrame file.front.header old →
    ShowsScene num (tile_scene (front_value file.front) i plan) plan.leaves q → own ≡ plan.header
    → ((c : Component) →
    plane_of c new ≡ painted_plane (plane_of c old) (tile_rectangle file.front.header area (number c))
    (λ r k _. pixel (slice_index (row_in num own q (number c) r) k)))
    → IsPut (file_value file) i (samples_of num old) (samples_of num new)
tile_put num pixel back there file read i lt plan is own q area old new area_is_it are shows same placed =
    let f = front_value file.front in
    let put : (c : Component) → plane_of c new ≡ painted_plane (plane_of c old) (tile_rectangle file.front.header (tile_area f i) (number c))
    (λ r k _. pixel (slice_index (row_in num own q (number c) r) k)) =
    λ c. placed c
    ∙ ap (λ (a : TileArea). painted_plane (plane_of c old) (tile_rectangle file.front.header a (number c))
    (λ r k _. pixel (slice_index (row_in num own q (number c) r) k))) area_is_it in (
      plan,
      is,
      shows_own num pixel back there f i plan own q old new are (area_is file.front read.front i lt) shows same (tile_header_is (file_value file) i plan is)
          put,
      λ other its below differ.
          shows_other num pixel back file.front read.front i other lt below (λ e. differ (sym e)) its old new
          (λ c r k _. pixel (slice_index (row_in num own q (number c) r) k)) are put,
    )
