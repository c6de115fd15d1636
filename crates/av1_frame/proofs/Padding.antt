-- Padding, row by row, of a whole plane.
use Rattle.std.proofs.Common.{ℕ, ◌+◌, ◌-◌, ◌*◌, ◌/◌, ◌%◌, ◌<◌, ◌≤◌, ◌≡◌, ◌⊎◌, List, length, ap, arith, ◌∙◌, cond, leb, ltb, ◌&&◌, inl, inr, refl}
use Rattle.std.proofs.lemmas.Bool.Decides.{nat_tests}
use Rattle.std.proofs.lemmas.Bool.{cases_lt}
use Rattle.av1_frame.specs.declared.plane.PlaneConfig.{PlaneConfig}
use Rattle.av1_frame.specs.declared.plane.Plane.{Plane}
use Rattle.av1_frame.specs.Samples.{gathered, with_part, part}
use Rattle.av1_frame.specs.Areas.{IsStorage}
use Rattle.av1_frame.specs.Planes.{IsWhole, nearest, padded}
use Rattle.av1_frame.proofs.Fits.{row_end_le}
use Rattle.av1_frame.proofs.Gather.{gathered_twice, gathered_same, length-gathered, row_place, row_place_at, row_bound, row_stored, rows_more, side_place}
use Rattle.av1_frame.proofs.Gather.{side_bound, side_place_at, sides_more}

-- p with what stands at the place g k at each place k of storage
abbrev pub gathered_plane : {T : Type 0} → Plane T → (ℕ → ℕ) → Plane T
gathered_plane p g = record p { samples = gathered g p.samples }

module _ {T : Type 0} (p q : Plane T) (g : ℕ → ℕ) where
  -- row r of storage
  pub row_in : (r stride : ℕ) → IsWhole p → q ≡ gathered_plane p g → stride ≡ p.plane_cfg.stride → r < p.plane_cfg.alloc_height →
      r * stride + stride ≤ length q.samples
  row_in r stride h e s l =
      let n : length q.samples ≡ length p.samples = ap (λ (u : Plane T). length u.samples) e ∙ length-gathered g p.samples in
      let m = row_end_le r p.plane_cfg.alloc_height p.plane_cfg.stride p.plane_cfg.stride (length p.samples) h.fills l (omega arith) in
      rw s (omega (arith, m, n))

before_end : (from first end y : ℕ) → (from < first) ⊎ (end ≤ from) → y < end → (from < first) ⊎ (y < from)
before_end from first end y (inl h) l = inl h
before_end from first end y (inr h) l = inr (omega arith)

module _ {T : Type 0} (p q t : Plane T) (stride y : ℕ) (whole : IsWhole p) (same : stride ≡ p.plane_cfg.stride) (row : y < p.plane_cfg.alloc_height) where
  -- one more row is a copy of row `from`
  pub copied_more : (from first end : ℕ) → from < p.plane_cfg.alloc_height → first ≤ y → y < end → (from < first) ⊎ (end ≤ from)
      → q ≡ gathered_plane p (row_place p.plane_cfg.stride from first y)
      → t ≡ record q { samples = with_part (y * stride) q.samples (part (from * stride) stride q.samples) }
      → t ≡ gathered_plane p (row_place p.plane_cfg.stride from first (y + 1))
  copied_more from first end f l m apart e h =
      let n = p.plane_cfg.stride in
      let some : 0 < n = omega (arith, whole.some_columns, whole.visible_columns) in
      h ∙ ap (λ (u : ℕ). record q { samples = with_part (y * u) q.samples (part (from * u) u q.samples) }) same
      ∙ ap (λ (u : Plane T). record u { samples = with_part (y * n) u.samples (part (from * n) n u.samples) }) e
      ∙ ap (λ (s : List T). record p { samples = s })
      (rows_more n from first y p.plane_cfg.alloc_height p.samples some whole.fills f row l (before_end from first end y apart m))

  -- one more row has its sides filled
  pub sides_filled_more : (x w first : ℕ) (old new : List T) → x ≡ p.plane_cfg.xorigin → w ≡ p.plane_cfg.width → first ≤ y
      → q ≡ gathered_plane p (side_place p.plane_cfg.stride p.plane_cfg.xorigin p.plane_cfg.width first y) → old ≡ part (y * stride) stride q.samples
      → new ≡ gathered (nearest x w) old → t ≡ record q { samples = with_part (y * stride) q.samples new }
      → t ≡ gathered_plane p (side_place p.plane_cfg.stride p.plane_cfg.xorigin p.plane_cfg.width first (y + 1))
  sides_filled_more x w first old new ex ew behind e o f h =
      let n = p.plane_cfg.stride in
      let cfg = p.plane_cfg in
      let s = gathered (side_place n cfg.xorigin cfg.width first y) p.samples in
      let a : new ≡ gathered (nearest cfg.xorigin cfg.width) (part (y * n) n s) =
      f ∙ ap (λ i. gathered (nearest i w) old) ex ∙ ap (λ i. gathered (nearest cfg.xorigin i) old) ew
      ∙ ap (gathered (nearest cfg.xorigin cfg.width)) (o ∙ ap (λ i. part (y * i) i q.samples) same ∙ ap (λ (u : Plane T). part (y * n) n u.samples) e) in
      h ∙ ap (λ (u : ℕ). record q { samples = with_part (y * u) q.samples new }) same
      ∙ ap (λ (u : Plane T). record u { samples = with_part (y * n) u.samples new }) e
      ∙ ap (λ (v : List T). record p { samples = v })
      (sides_more n cfg.xorigin cfg.width first y cfg.alloc_height p.samples new whole.some_columns (omega (arith, whole.visible_columns)) whole.fills
      behind row a)

-- all those rows are copies
pub rows_copied : {T : Type 0} (p t : Plane T) (from first y end : ℕ) → y ≡ end → t ≡ gathered_plane p (row_place p.plane_cfg.stride from first y) →
    t ≡ gathered_plane p (row_place p.plane_cfg.stride from first end)
rows_copied p t from first y end e a =
    a ∙ ap (λ i. gathered_plane p (row_place p.plane_cfg.stride from first i)) e

-- the rows of that plane stand apart
pub rows_apart : (stride from first end y : ℕ) → first ≤ y → y < end → (from < first) ⊎ (end ≤ from) →
    (from * stride + stride ≤ y * stride) ⊎ (y * stride + stride ≤ from * stride)
rows_apart stride from first end y l m (inl h) = inl (row_end_le from y stride stride (y * stride) refl (omega arith) (omega arith))
rows_apart stride from first end y l m (inr h) = inr (row_end_le y from stride stride (from * stride) refl (omega arith) (omega arith))

-- all those rows have their sides filled
pub sides_filled : {T : Type 0} (p t : Plane T) (first y last end : ℕ) → first ≡ last → y ≡ end →
    t ≡ gathered_plane p (side_place p.plane_cfg.stride p.plane_cfg.xorigin p.plane_cfg.width first y) →
    t ≡ gathered_plane p (side_place p.plane_cfg.stride p.plane_cfg.xorigin p.plane_cfg.width last end)
sides_filled p t first y last end f e a =
    a ∙ ap (λ i. gathered_plane p (side_place p.plane_cfg.stride p.plane_cfg.xorigin p.plane_cfg.width i y)) f
    ∙ ap (λ i. gathered_plane p (side_place p.plane_cfg.stride p.plane_cfg.xorigin p.plane_cfg.width last i)) e

abbrev pub visible_sides : PlaneConfig → ℕ → ℕ
visible_sides cfg = side_place cfg.stride cfg.xorigin cfg.width cfg.yorigin (cfg.yorigin + cfg.height)

abbrev pub above_rows : PlaneConfig → ℕ → ℕ → ℕ
above_rows cfg stride = row_place stride cfg.yorigin 0 cfg.yorigin

abbrev pub below_rows : PlaneConfig → ℕ → ℕ → ℕ
below_rows cfg stride = row_place stride (cfg.yorigin + cfg.height - 1) (cfg.yorigin + cfg.height - 1 + 1) cfg.alloc_height

row_taken : (first end r stride a b : ℕ) → first ≤ r → r < end → r * stride + cond (leb first r && ltb r end) a b ≡ r * stride + a
row_taken first end r stride a b l m = ap (λ i. r * stride + i) (grind (arith, nat_tests))

nearest_row : (yorigin height alloc_height r : ℕ) → 0 < height → yorigin + height ≤ alloc_height → r < alloc_height
    → cond (leb 0 (cond (leb (yorigin + height - 1 + 1) r && ltb r alloc_height) (yorigin + height - 1) r) && ltb
    (cond (leb (yorigin + height - 1 + 1) r && ltb r alloc_height) (yorigin + height - 1) r) yorigin) yorigin
    (cond (leb (yorigin + height - 1 + 1) r && ltb r alloc_height) (yorigin + height - 1) r) ≡ nearest yorigin height r
nearest_row yorigin height alloc_height r h l m =
    elim (cases_lt r yorigin) [
      | inl b ↦ grind (arith, nat_tests)
      | inr b ↦ elim (cases_lt r (yorigin + height)) [
        | inl c ↦ grind (arith, nat_tests)
        | inr c ↦ grind (arith, nat_tests)
      ]
    ]

padded_samples : {T : Type 0} (cfg : PlaneConfig) (s : List T) → IsStorage cfg (length s)
    → gathered (below_rows cfg cfg.stride) (gathered (above_rows cfg cfg.stride) (gathered (visible_sides cfg) s)) ≡
    gathered (λ k. nearest cfg.yorigin cfg.height (k / cfg.stride) * cfg.stride + nearest cfg.xorigin cfg.width (k % cfg.stride)) s
padded_samples cfg s h =
    let n = cfg.stride in
    let ab = above_rows cfg n in
    let be = below_rows cfg n in
    let si = visible_sides cfg in
    let some : 0 < n = omega (arith, h.some_columns, h.visible_columns) in
    let bab : (k : ℕ) → k < length s → ab k < length s =
    λ k l. row_bound n cfg.yorigin 0 cfg.yorigin cfg.alloc_height (length s) k some h.fills (omega (arith, h.visible_rows, h.some_rows)) l in
    let bbe : (k : ℕ) → k < length s → be k < length s =
    λ k l. row_bound n (cfg.yorigin + cfg.height - 1)
    (cfg.yorigin + cfg.height - 1 + 1) cfg.alloc_height cfg.alloc_height (length s) k some h.fills (omega (arith, h.visible_rows, h.some_rows)) l in
    let bsi : (k : ℕ) → k < length s → si k < length s =
    λ k l. side_bound n cfg.xorigin cfg.width cfg.yorigin (cfg.yorigin + cfg.height) cfg.alloc_height (length s) k h.some_columns
    (omega (arith, h.visible_columns)) h.fills l in
    let e : (k : ℕ) → k < length s → si (ab (be k)) ≡ nearest cfg.yorigin cfg.height (k / n) * n + nearest cfg.xorigin cfg.width (k % n) = λ k l. (
    let r = k / n in
    let c = k % n in
    let row = nearest cfg.yorigin cfg.height r in
    let m : c < n = omega arith in
    let a : ab (be k) ≡ row * n + c = row_place_at n cfg.yorigin 0 cfg.yorigin _ c m
    ∙ ap (λ i. i * n + c)
    (nearest_row cfg.yorigin cfg.height cfg.alloc_height r h.some_rows (omega (arith, h.visible_rows))
    (row_stored n cfg.alloc_height (length s) k h.fills l)) in
    ap si a ∙ side_place_at n cfg.xorigin cfg.width cfg.yorigin (cfg.yorigin + cfg.height) row c m
    ∙ row_taken cfg.yorigin (cfg.yorigin + cfg.height) row n (nearest cfg.xorigin cfg.width c) c (omega arith) (omega (arith, h.some_rows))
    ) in
    ap (gathered be) (gathered_twice si ab s bsi bab) ∙ gathered_twice (λ k. si (ab k)) be s (λ k l. bsi (ab k) (bab k l)) bbe
    ∙ gathered_same _ _ s (λ k l. let b = bsi (ab (be k)) (bab (be k) (bbe k l)) in omega (arith, b, e k l)) e

-- the sides of the visible rows filled, and then the rows above and below copied
pub padded_is : {T : Type 0} (cfg : PlaneConfig) (p q r t : Plane T) → cfg ≡ p.plane_cfg → IsWhole p →
    q ≡ gathered_plane p (visible_sides p.plane_cfg) → r ≡ gathered_plane q (above_rows cfg q.plane_cfg.stride) →
    t ≡ gathered_plane r (below_rows cfg r.plane_cfg.stride) → t ≡ padded p
padded_is cfg p q r t c h a b d =
    d
    ∙ ap (λ u. gathered_plane u (below_rows cfg u.plane_cfg.stride)) (b ∙ ap (λ u. gathered_plane u (above_rows cfg u.plane_cfg.stride)) a)
    ∙ ap (λ i. gathered_plane (gathered_plane (gathered_plane p (visible_sides p.plane_cfg)) (above_rows i p.plane_cfg.stride))
    (below_rows i p.plane_cfg.stride)) c
    ∙ ap (λ s. record p { samples = s }) (padded_samples p.plane_cfg p.samples h)
