-- The differences of the luma of a rectangle of samples.
use Rattle.std.proofs.Common.{refl, ℕ, zero, suc, ℤ, min, max, ◌≡◌, ◌∙◌, ◌+◌, ◌-◌, ◌*◌, ◌/◌, ◌%◌, ◌^◌, ◌<◌, ◌≤◌, inl, inr, List, length, take, map, get_or}
use Rattle.std.proofs.Common.{slice_index, pos, ◌+ℤ◌, unsigned_abs, arith, ap, sym, subst}
use Rattle.std.proofs.lemmas.Bool.{cases_lt}
use Rattle.std.proofs.lemmas.Bool.Decides.{nat_tests}
use Rattle.std.proofs.lemmas.Int.{ints}
use Rattle.std.proofs.lemmas.List.{get_or-take, map-id, take-map}
use Rattle.std.proofs.Math.Nat.{div-lt_iff_lt-mul, mod-lt, mul_comm}
use Rattle.av1_blocks.specs.Blocks.{block_height, block_width}
use Rattle.av1_blocks.specs.declared.partition.BlockSize.{BlockSize}
use Rattle.av1_edges.specs.Edges.{region_sample}
use Rattle.av1_frame.specs.Areas.{AreRows, area_from, from_origin}
use Rattle.av1_frame.specs.Planes.{bare_config}
use Rattle.av1_frame.specs.Samples.{paint_row, row_start}
use Rattle.av1_frame.specs.declared.plane.PlaneConfig.{PlaneConfig}
use Rattle.av1_frame.specs.declared.plane_region.Area.{Area}
use Rattle.av1_frame.specs.declared.plane_region.Area.TheVariants.{Rect as Rectangle}
use Rattle.av1_frame.specs.declared.plane_region.PlaneRegion.{PlaneRegion}
use Rattle.av1_frame.specs.declared.plane_region.StoredArea.{StoredArea}
use Rattle.av1_frame.proofs.Fits.{row_end_le}
use Rattle.av1_frame.proofs.Update.{get_or-update, length-update, update_is}
use Rattle.av1_intra.specs.ChromaFromLuma.{columns_read, last_begun, luma_difference, padded_block, rows_read, with_rows}
use Rattle.av1_intra.proofs.SameLuma.{luma_difference_same}
use Rattle.av1_calls.specs.LumaBlocks.{IsCflBlock, IsLumaTested, luma_area, luma_in}
use Rattle.av1_calls.specs.Samples.{AreBelow}
use Rattle.av1_calls.specs.declared.luma.CflBlock.{CflBlock}

-- ---- the rectangle as a region

-- the first samples of a slice are its own
front_sample : {T : Type 0} (num : T → ℕ) (samples : List T) (n k : ℕ) → k < n → slice_index (map num (take n samples)) k ≡ slice_index (map num samples) k
front_sample num samples n k h = ap (λ xs. get_or xs k 0) (sym (take-map num n samples)) ∙ get_or-take n (map num samples) k 0 h

-- its samples are those of the rectangle
pub region_same : {T : Type 0} (num : T → ℕ) (stride : ℕ) (area : StoredArea) (samples front : List T) (cfg : PlaneConfig) (visible : Area)
    (r : PlaneRegion T) → AreRows stride area (length samples)
    → front ≡ take ((area.y + area.height) * stride) samples → cfg ≡ bare_config stride (area.y + area.height) area →
    visible ≡ Rectangle (pos 0) (pos 0) area.width area.height
    → r.samples.now ≡ front → r.plane_cfg ≡ cfg → r.area ≡ area_from cfg (from_origin cfg) visible
    → (p q : ℕ) → p < area.width → q < area.height → region_sample num r p q ≡ luma_in stride area (map num samples) p q
region_same num stride area samples front cfg visible r lies front_is cfg_is visible_is samples_are kept placed p q h k =
    let n : ℕ = (area.y + area.height) * stride in
    let bare : PlaneConfig = bare_config stride (area.y + area.height) area in
    let numbers : List ℕ = map num (take n samples) in
    let i : unsigned_abs (pos area.x +ℤ pos 0) ≡ area.x = omega (arith, ints) in
    let j : unsigned_abs (pos area.y +ℤ pos 0) ≡ area.y = omega (arith, ints) in
    let line : (unsigned_abs (pos area.y +ℤ pos 0) + q) * stride ≡ (area.y + q) * stride = ap (λ v. (v + q) * stride) j in
    let ends : (area.y + q) * stride + (area.x + p + 1) ≤ n =
    row_end_le (area.y + q) (area.y + area.height) stride (area.x + p + 1) n refl (omega arith) (omega (arith, lies.columns)) in
    ap (λ v. get_or (map num v) (row_start r.plane_cfg.stride r.area q + p) 0) (samples_are ∙ front_is)
    ∙ ap (λ (v : PlaneConfig). get_or numbers (row_start v.stride r.area q + p) 0) (kept ∙ cfg_is)
    ∙ ap (λ (v : StoredArea). get_or numbers (row_start stride v q + p) 0) (placed ∙ ap (λ (c : PlaneConfig). area_from c (from_origin c) visible) cfg_is
    ∙ ap (area_from bare (from_origin bare)) visible_is)
    ∙ ap (λ v. get_or numbers v 0) (omega (arith, i, line))
    ∙ front_sample num samples n (row_start stride area q + p) (omega (arith, ends))

-- ---- what is read

-- how much of a side is read: the side, or all up to the last sample that chroma begins at and what it covers
pub read_side : (side pad decimation longest read : ℕ) → decimation ≤ 1 → 4 * pad < side → side ≤ 32 →
    longest ≡ max ((side - 4 * pad) * 2 ^ decimation % 2 ^ 64) 8 → read ≡ min (side * 2 ^ decimation % 2 ^ 64) longest
    → read ≡ min (side * 2 ^ decimation) (last_begun ((side - 4 * pad) * 2 ^ decimation) decimation + 2 ^ decimation)
read_side side pad zero longest read few some short e f = omega (arith, e, f)
read_side side pad (suc zero) longest read few some short e f = omega (arith, e, f)
read_side side pad (suc (suc d)) longest read few some short e f = absurd (omega arith)

-- ---- differences of the same luma

-- a row that is painted with the same
row_same : {X : Type 0} (w : ℕ) (f g : ℕ → X → X) (s : List X) → ((k : ℕ) (v : X) → k < w → f k v ≡ g k v) → paint_row w f s ≡ paint_row w g s
unfolding paint_row
row_same w f g s same =
    update_is _ s _ (length-update _ s) (λ k d l. get_or-update _ s k d l ∙ elim (cases_lt k w) [
      | inl h ↦ (let e = same k (get_or s k d) h in grind (arith, nat_tests))
      | inr h ↦ grind (arith, nat_tests)
    ])

-- lumas that agree where they are read give the same differences
pub differences_same : (f g : ℕ → ℕ → ℕ) (size : BlockSize) (w_pad h_pad xdec ydec : ℕ) (before after : List ℤ) → xdec ≤ 1 → ydec ≤ xdec → 0 < block_width size
    → ((p q : ℕ) → p < columns_read (padded_block size w_pad h_pad xdec ydec) → q < rows_read (padded_block size w_pad h_pad xdec ydec) → f p q ≡ g p q)
    → after ≡ with_rows (block_width size) (block_height size) (luma_difference f (padded_block size w_pad h_pad xdec ydec)) before
    → after ≡ with_rows (block_width size) (block_height size) (luma_difference g (padded_block size w_pad h_pad xdec ydec)) before
differences_same f g size w_pad h_pad xdec ydec before after x y some agree put =
    let w : ℕ = block_width size in
    let h : ℕ = block_height size in
    put ∙ row_same (w * h) _ _ before (λ k v l.
    luma_difference_same f g (padded_block size w_pad h_pad xdec ydec) x y agree (k / w) (k % w)
    ((div-lt_iff_lt-mul some).1 (subst (λ n. k < n) (mul_comm w h) l)) (mod-lt k some))

-- ---- samples that were tested before

-- what is read for a block is below the bound
pub luma_tested : (b : CflBlock) (stride x y ac : ℕ) (samples : List ℕ) (size : BlockSize) (area : StoredArea) → IsLumaTested b stride x y samples →
    IsCflBlock b stride x y ac (length samples) size → area ≡ luma_area b size x y → AreBelow 4096 stride area (map (λ n. n) samples)
luma_tested b stride x y ac samples size area tested is placed =
    subst (λ (xs : List ℕ). AreBelow 4096 stride area xs) (sym (map-id samples))
    (subst (λ (a : StoredArea). AreBelow 4096 stride a samples) (sym placed)
    (tested size (record { sized = is.sized; sampled = is.sampled; padded = is.padded })))
