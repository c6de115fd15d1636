-- A loop that paints a region row by row, and one that paints its samples while they are lent.
use Rattle.std.proofs.Common.{ℕ, ◌+◌, ◌*◌, ◌<◌, ◌≤◌, ◌≡◌, List, length, ap, arith, ◌∙◌, subst, sym}
use Rattle.std.proofs.lemmas.List.{places}
use Rattle.av1_frame.specs.declared.plane_region.PlaneRegionMut.{PlaneRegionMut}
use Rattle.av1_frame.specs.declared.plane_region.StoredArea.{StoredArea}
use Rattle.av1_frame.specs.Samples.{in_rows, with_part, row_start, row_of, paint, paint_row}
use Rattle.av1_frame.specs.Areas.{IsStorage, AreaFits, AreRows}
use Rattle.av1_frame.specs.declared.plane.PlaneConfig.{PlaneConfig}
use Rattle.av1_frame.specs.Regions.{own_rows, painted, with_samples, stored, InStorage}
use Rattle.av1_frame.proofs.Fits.{row_end_le, rows_le}
use Rattle.av1_frame.proofs.Paint.{paint_none, paint_more, paint_rows, paint_same, length_paint, length_with_part}

-- storage of as many samples
pub same_storage : (cfg : PlaneConfig) (m n : ℕ) → m ≡ n → IsStorage cfg n → IsStorage cfg m
same_storage cfg m n e h = subst (IsStorage cfg) (sym e) h

pub same_fits : (a : StoredArea) (cfg : PlaneConfig) (m n : ℕ) → m ≡ n → AreaFits a cfg n → AreaFits a cfg m
same_fits a cfg m n e h = subst (AreaFits a cfg) (sym e) h

-- no row is painted yet
pub painted_none : {T : Type 0} (r : PlaneRegionMut T) (w : ℕ) (f : ℕ → ℕ → T → T) → painted r w 0 f ≡ r
painted_none r w f = ap (with_samples r) (sym (paint_none r.plane_cfg.stride r.area w f (stored r)))

module _ {T : Type 0} (r o : PlaneRegionMut T) (w y : ℕ) (f : ℕ → ℕ → T → T) where
  -- a region that was painted still lies in storage
  pub painted_in_storage : o ≡ painted r w y f → InStorage r → InStorage o
  painted_in_storage e h =
      subst InStorage (sym e) (record { fits = same_fits r.area r.plane_cfg _ _ (length_paint _ _ f (stored r)) h.fits; cfg = h.cfg; rect = h.rect })

  -- one more row is painted and written back
  pub painted_more : (row new : List T) → o ≡ painted r w y f → InStorage r → w ≤ r.area.width → y < r.area.height
      → row ≡ row_of o.plane_cfg.stride o.area y (stored o) → new ≡ paint_row w (f y) row
      → with_samples o (with_part (row_start o.plane_cfg.stride o.area y) (stored o) new) ≡ painted r w (y + 1) f
  painted_more row new e h p q a b =
      let g = h.fits in
      let c : new ≡ paint_row w (f y) (row_of o.plane_cfg.stride o.area y (stored o)) = b ∙ ap (paint_row w (f y)) a in
      let l : (r.area.y + y) * r.plane_cfg.stride + (r.area.x + r.area.width) ≤ length (stored r) =
      row_end_le _ r.plane_cfg.alloc_height _ _ _ g.storage.fills (omega (arith, g.rows)) g.columns in
      let some : 0 < r.plane_cfg.stride = omega (arith, g.storage.some_columns, g.storage.visible_columns) in
      ap (λ n. with_samples o (with_part (row_start o.plane_cfg.stride o.area y) (stored o) n)) c
      ∙ ap (λ u.
      with_samples u (with_part (row_start u.plane_cfg.stride u.area y) (stored u) (paint_row w (f y) (row_of u.plane_cfg.stride u.area y (stored u))))) e
      ∙ ap (with_samples r) (paint_more r.plane_cfg.stride r.area w y r.area.width f (stored r) some g.columns p (omega arith))

  -- the same by another change that agrees on those rows and columns
  pub painted_same : (g : ℕ → ℕ → T → T) → o ≡ painted r w y f → ((q p : ℕ) (v : T) → q < y → p < w → f q p v ≡ g q p v) → o ≡ painted r w y g
  painted_same g e h = e ∙ ap (with_samples r) (paint_same r.plane_cfg.stride _ f g (stored r) h)

-- a loop that writes a region row by row
pub ruleset region_painting = (painted_none, painted_in_storage, painted_more)

-- a region of which a part of its samples was written still lies in storage
pub written_in_storage : {T : Type 0} (r : PlaneRegionMut T) (i : ℕ) (ws : List T) → InStorage r → InStorage (with_samples r (with_part i (stored r) ws))
written_in_storage r i ws h =
    record { fits = same_fits r.area r.plane_cfg _ _ (length_with_part i (stored r) ws) h.fits; cfg = h.cfg; rect = h.rect }

-- a region's rows stand in its plane
pub rows_stand : {T : Type 0} (r : PlaneRegionMut T) → InStorage r → (r.area.y + r.area.height) * r.plane_cfg.stride ≤ length (stored r)
rows_stand r s = rows_le (r.area.y + r.area.height) r.plane_cfg.alloc_height r.plane_cfg.stride _ s.fits.storage.fills s.fits.rows

stride_some : {T : Type 0} (r : PlaneRegionMut T) → InStorage r → 0 < r.plane_cfg.stride
stride_some r s = omega (arith, s.fits.storage.some_columns, s.fits.storage.visible_columns)

-- the first rows and columns of a region are rows of its own
pub corner_rows : {T : Type 0} (r : PlaneRegionMut T) (w h : ℕ) → InStorage r → w ≤ r.area.width → h ≤ r.area.height →
    AreRows r.plane_cfg.stride (in_rows r.area w h) (length (own_rows r))
corner_rows r w h s p q =
    let f = s.fits in
    let long : length (own_rows r) ≡ r.area.height * r.plane_cfg.stride = (let m = rows_stand r s in grind (arith, places)) in
    record {
      some = stride_some r s;
      columns = omega (arith, f.columns);
      rows = rows_le (0 + h) r.area.height r.plane_cfg.stride _ long (omega (arith, q));
      few = (let short : length (own_rows r) ≤ length (stored r) = grind (arith, places) in omega (arith, short, f.storage.few));
    }

-- so a block at the corner of a region is rows of what it lends
pub lent_rows : {T : Type 0} (r : PlaneRegionMut T) (w h : ℕ) (a : StoredArea) (rows : List T) → InStorage r → w ≤ r.area.width → h ≤ r.area.height →
    a ≡ in_rows r.area w h → rows ≡ own_rows r
    → AreRows r.plane_cfg.stride a (length rows)
lent_rows {T} r w h a rows s p q b l =
    subst (λ (c : StoredArea). AreRows r.plane_cfg.stride c (length rows)) (sym b)
    (subst (λ (xs : List T). AreRows r.plane_cfg.stride (in_rows r.area w h) (length xs)) (sym l) (corner_rows r w h s p q))

-- a region whose rows were lent and painted
pub rows_painted : {T : Type 0} (r : PlaneRegionMut T) (w h : ℕ) (f : ℕ → ℕ → T → T) → InStorage r → h ≤ r.area.height
    → with_samples r (with_part (r.area.y * r.plane_cfg.stride) (stored r) (paint r.plane_cfg.stride (in_rows r.area w h) f (own_rows r))) ≡ painted r w h f
rows_painted r w h f s le = ap (with_samples r) (paint_rows r.plane_cfg.stride r.area w h f (stored r) (stride_some r s) le (rows_stand r s))

pub lent_painted : {T : Type 0} (r : PlaneRegionMut T) (w h : ℕ) (a : StoredArea) (f g : ℕ → ℕ → T → T) (rows ws : List T) → InStorage r → h ≤ r.area.height →
    a ≡ in_rows r.area w h → rows ≡ own_rows r → ws ≡ paint r.plane_cfg.stride a f rows
    → ((q p : ℕ) (v : T) → q < h → p < w → f q p v ≡ g q p v)
    → with_samples r (with_part (r.area.y * r.plane_cfg.stride) (stored r) ws) ≡ painted r w h g
lent_painted r w h a f g rows ws s le b l e same =
    let m : ws ≡ paint r.plane_cfg.stride (in_rows r.area w h) f (own_rows r) = e ∙ ap (λ b. paint r.plane_cfg.stride b f rows) b
    ∙ ap (paint r.plane_cfg.stride (in_rows r.area w h) f) l in
    ap (λ us. with_samples r (with_part (r.area.y * r.plane_cfg.stride) (stored r) us)) m ∙ rows_painted r w h f s le
    ∙ ap (with_samples r) (paint_same r.plane_cfg.stride _ f g (stored r) same)

-- a region that lends its rows to a loop over a slice
pub ruleset region_lending = (corner_rows, painted_in_storage, rows_painted, length_paint)
