-- Samples that are read by signed places.
use Rattle.std.proofs.Common.{ℕ, List, refl, subst, ◌≤ℤ◌, ◌<ℤ◌, ◌+◌, ◌*◌, ◌/◌, ◌%◌, ◌<◌, ◌≡◌, length, get_or, drop, map, slice_index, ap, arith, ◌∙◌, sym}
use Rattle.std.proofs.Common.{ℤ, pos, negsuc, ◌+ℤ◌, ◌-ℤ◌, unsigned_abs}
use Rattle.std.proofs.Math.Bridge.{le_prop}
use Rattle.std.proofs.Math.Nat.{ℕ_set}
use Rattle.std.specs.Borrow.{Bor}
use Rattle.std.specs.Int.{int_min, int_max}
use Rattle.std.proofs.lemmas.List.{get_or-map, get_or-drop, places}
use Rattle.std.proofs.lemmas.Int.{ints, clamps}
use Rattle.std.proofs.lemmas.Nat.{div-mul-add, mod-mul-add}
use Rattle.av1_frame.specs.declared.plane.PlaneConfig.{PlaneConfig}
use Rattle.av1_frame.specs.declared.plane.Plane.{Plane}
use Rattle.av1_frame.specs.declared.plane_slice.PlaneSlice.{PlaneSlice}
use Rattle.av1_frame.specs.Samples.{gathered}
use Rattle.av1_frame.specs.Areas.{IsStorage}
use Rattle.av1_frame.specs.Planes.{IsWhole, place_at, sample_at, nearest, padded}
use Rattle.av1_frame.specs.Slices.{IsStoredPlace, stored_column, stored_row, stored_sample, all_from, nearest_visible, slice_plane}
use Rattle.av1_frame.proofs.Fits.{row_end_le}
use Rattle.av1_frame.proofs.Gather.{get_or-gathered, length-gathered}
use Rattle.av1_frame.proofs.Planes.{some_item, place_in_storage}
use Rattle.av1_frame.proofs.Regions.{same_storage}

pos_abs : (z : ℤ) → pos 0 ≤ℤ z → pos (unsigned_abs z) ≡ z
pos_abs (pos a) h = refl
pos_abs (negsuc a) h = absurd (omega (arith, ints))

abs_below : (z : ℤ) (n : ℕ) → pos 0 ≤ℤ z → z <ℤ pos n → unsigned_abs z < n
abs_below z n h l = let e = pos_abs z h in omega (arith, ints, e)

-- the visible column or row that is nearest to a stored one
nearest_is : (origin n : ℕ) (z : ℤ) → 0 < n → pos 0 ≤ℤ (pos origin +ℤ z) → nearest origin n (unsigned_abs (pos origin +ℤ z)) ≡ origin + nearest_visible n z
nearest_is origin n (pos i) h l = omega arith
nearest_is origin n (negsuc i) h l =
    let e = pos_abs (pos origin +ℤ negsuc i) l in
    let b : unsigned_abs (pos origin +ℤ negsuc i) < origin = omega (arith, ints, e) in
    omega (arith, b)

pub visible_below : (n : ℕ) (z : ℤ) → 0 < n → nearest_visible n z < n
visible_below n (pos i) h = omega arith
visible_below n (negsuc i) h = h

-- the nearest visible place, as the machine clamps it
pub nearest_clamps : (n : ℕ) (z : ℤ) → 0 < n → pos (nearest_visible n z) ≡ int_min (int_max z (pos 0)) (pos n -ℤ pos 1)
nearest_clamps n (pos i) h = omega (arith, ints, clamps)
nearest_clamps n (negsuc i) h = omega (arith, ints, clamps)

-- two places that are clamped alike are next to one visible place
pub nearest_same : (n : ℕ) (y z : ℤ) → 0 < n
    → int_min (int_max y (pos 0)) (pos n -ℤ pos 1) ≡ int_min (int_max z (pos 0)) (pos n -ℤ pos 1) → nearest_visible n y ≡ nearest_visible n z
nearest_same n y z h e = let a = nearest_clamps n y h ∙ e ∙ sym (nearest_clamps n z h) in omega (arith, ints, a)

-- column x moved right by c
moved_right : (origin : ℕ) (x : ℤ) (c : ℕ) → pos 0 ≤ℤ (pos origin +ℤ x) → unsigned_abs (pos origin +ℤ (x +ℤ pos c)) ≡ unsigned_abs (pos origin +ℤ x) + c
moved_right origin x c h =
    let e = pos_abs (pos origin +ℤ x) h in
    let f : pos origin +ℤ (x +ℤ pos c) ≡ pos (unsigned_abs (pos origin +ℤ x) + c) = omega (arith, ints, e) in
    ap unsigned_abs f

-- a stored column and row are a place of storage
stored_place : (cfg : PlaneConfig) (n : ℕ) (x y : ℤ) (c : ℕ) → IsStorage cfg n → IsStoredPlace cfg x y → stored_column cfg x + c < cfg.stride →
    stored_row cfg y * cfg.stride + stored_column cfg x + c < n
stored_place cfg n x y c h s l =
    let r = abs_below (pos cfg.yorigin +ℤ y) cfg.alloc_height s.top s.bottom in
    let e = row_end_le (stored_row cfg y) cfg.alloc_height cfg.stride (stored_column cfg x + c + 1) n h.fills r (omega arith) in
    omega (arith, e)

-- what stands at a place after padding
pub padded_sample : {T : Type 0} (num : T → ℕ) (p : Plane T) (x y : ℤ) → IsWhole p → IsStoredPlace p.plane_cfg x y →
    stored_sample num (padded p) x y ≡ sample_at num p (nearest_visible p.plane_cfg.width x) (nearest_visible p.plane_cfg.height y)
padded_sample num p x y h s =
    let cfg = p.plane_cfg in
    let row = stored_row cfg y in
    let column = stored_column cfg x in
    let k = row * cfg.stride + column in
    let g : ℕ → ℕ = λ i. nearest cfg.yorigin cfg.height (i / cfg.stride) * cfg.stride + nearest cfg.xorigin cfg.width (i % cfg.stride) in
    let c : column < cfg.stride = abs_below (pos cfg.xorigin +ℤ x) cfg.stride s.left s.right in
    let b = stored_place cfg (length p.samples) x y 0 h s (omega (arith, c)) in
    let l : k < length p.samples = omega (arith, b) in
    let nx = nearest_visible cfg.width x in
    let ny = nearest_visible cfg.height y in
    let vx = visible_below cfg.width x h.some_columns in
    let vy = visible_below cfg.height y h.some_rows in
    let to = place_at cfg nx ny in
    let m : to < length p.samples = place_in_storage cfg (length p.samples) nx ny h (omega (arith, vx, h.visible_columns)) (omega (arith, vy, h.visible_rows))
    in
    let e : g k ≡ to =
    rw (div-mul-add row cfg.stride column c, mod-mul-add row cfg.stride column c) (ap (λ i. i * cfg.stride + nearest cfg.xorigin cfg.width column)
    (nearest_is cfg.yorigin cfg.height y h.some_rows s.top)
    ∙ ap (λ i. (cfg.yorigin + ny) * cfg.stride + i) (nearest_is cfg.xorigin cfg.width x h.some_columns s.left)) in
    let d = some_item p.samples k l in
    get_or-map num (gathered g p.samples) k d 0 (omega (arith, l, length-gathered g p.samples))
    ∙ ap num (get_or-gathered g p.samples k d l (omega (arith, e, m)) ∙ ap (λ i. get_or p.samples i d) e) ∙ sym (get_or-map num p.samples to d 0 m)

pub padded_whole : {T : Type 0} (p : Plane T) → IsWhole p → IsWhole (padded p)
padded_whole p = same_storage p.plane_cfg _ _ (length-gathered _ p.samples)

-- a plane that was padded
pub padded_has : {T : Type 0} (num : T → ℕ) (p q : Plane T) → q ≡ padded p → IsWhole p → (x y : ℤ) → IsStoredPlace p.plane_cfg x y →
    stored_sample num q x y ≡ sample_at num p (nearest_visible p.plane_cfg.width x) (nearest_visible p.plane_cfg.height y)
padded_has num p q e h x y s = ap (λ u. stored_sample num u x y) e ∙ padded_sample num p x y h s

pub padded_is_whole : {T : Type 0} (p q : Plane T) → q ≡ padded p → IsWhole p → IsWhole q
padded_is_whole {T} p q e h = subst (λ (u : Plane T). IsStorage u.plane_cfg (length u.samples)) (sym e) (padded_whole p h)

rows_and_columns : (a r stride b c : ℕ) → a * stride + b + (r * stride + c) ≡ (a + r) * stride + (b + c)
rows_and_columns a r stride b c = grind arith

-- column c of row r of all that is stored from a place on lies in storage
pub all_from_fits : {T : Type 0} (p : Plane T) (x y : ℤ) (r c : ℕ) → IsWhole p → IsStoredPlace p.plane_cfg x y → IsStoredPlace p.plane_cfg x (y +ℤ pos r) →
    stored_column p.plane_cfg x + c < p.plane_cfg.stride
    → r * p.plane_cfg.stride + c < length (all_from p x y)
all_from_fits p x y r c h s t l =
    let cfg = p.plane_cfg in
    let b = stored_place cfg (length p.samples) x (y +ℤ pos r) c h t l in
    let m : stored_row cfg (y +ℤ pos r) ≡ stored_row cfg y + r = moved_right cfg.yorigin y r s.top in
    let e : stored_row cfg y * cfg.stride + stored_column cfg x + (r * cfg.stride + c) ≡ stored_row cfg (y +ℤ pos r) * cfg.stride + stored_column cfg x + c =
    rows_and_columns (stored_row cfg y) r cfg.stride (stored_column cfg x) c ∙ ap (λ q. q * cfg.stride + (stored_column cfg x + c)) (sym m) ∙ omega arith in
    grind (arith, places, e, b)

-- that sample
pub all_from_sample : {T : Type 0} (num : T → ℕ) (p : Plane T) (x y : ℤ) (r c : ℕ) → IsWhole p → IsStoredPlace p.plane_cfg x y →
    IsStoredPlace p.plane_cfg x (y +ℤ pos r) → stored_column p.plane_cfg x + c < p.plane_cfg.stride
    → slice_index (map num (all_from p x y)) (r * p.plane_cfg.stride + c) ≡ stored_sample num p (x +ℤ pos c) (y +ℤ pos r)
all_from_sample num p x y r c h s t l =
    let cfg = p.plane_cfg in
    let i = stored_row cfg y * cfg.stride + stored_column cfg x in
    let k = r * cfg.stride + c in
    let b = stored_place cfg (length p.samples) x (y +ℤ pos r) c h t l in
    let m : stored_row cfg (y +ℤ pos r) ≡ stored_row cfg y + r = moved_right cfg.yorigin y r s.top in
    let n : stored_column cfg (x +ℤ pos c) ≡ stored_column cfg x + c = moved_right cfg.xorigin x c s.left in
    let f : i + k ≡ stored_row cfg (y +ℤ pos r) * cfg.stride + stored_column cfg (x +ℤ pos c) =
    rows_and_columns (stored_row cfg y) r cfg.stride (stored_column cfg x) c ∙ ap (λ q. q * cfg.stride + (stored_column cfg x + c)) (sym m)
    ∙ ap (λ q. stored_row cfg (y +ℤ pos r) * cfg.stride + q) (sym n) in
    let within : i + k < length p.samples = omega (arith, f, n, b) in
    let d = some_item p.samples (i + k) within in
    get_or-map num (drop i p.samples) k d 0 (all_from_fits p x y r c h s t l) ∙ ap num (get_or-drop i p.samples k d)
    ∙ sym (get_or-map num p.samples (i + k) d 0 within) ∙ ap (λ j. slice_index (map num p.samples) j) f

-- a slice of a plane's samples, with its settings
pub slice_plane_is : {T : Type 0} (s : PlaneSlice T) (p : Plane T) → s.samples.now ≡ p.samples → s.plane_cfg.now ≡ p.plane_cfg → slice_plane s ≡ p
slice_plane_is s p e f =
    ap (λ (ws : List _). record p { samples = ws; plane_cfg = s.plane_cfg.now }) e ∙ ap (λ (cfg : PlaneConfig). record p { plane_cfg = cfg }) f

-- that samples fill the rows of their settings has one proof
storage_once : (cfg : PlaneConfig) (n : ℕ) → IsProp (IsStorage cfg n)
storage_once cfg n = hlevel (ℕ_set, le_prop)

-- one place of the same samples
pub same_place : {T : Type 0} (samples : Bor (List T)) (cfg : Bor PlaneConfig) (x y v w : ℤ) (h k : IsStorage cfg.now (length samples.now)) → x ≡ v → y ≡ w →
    ◌≡◌ {A = PlaneSlice T} (record { samples = samples; plane_cfg = cfg; x = x; y = y; whole = h })
    (record { samples = samples; plane_cfg = cfg; x = v; y = w; whole = k })
same_place {T} samples cfg x y v w h k e f =
    let at : (x y : ℤ) → IsStorage cfg.now (length samples.now) → PlaneSlice T =
    λ x y h. record { samples = samples; plane_cfg = cfg; x = x; y = y; whole = h } in
    ap (at x y) (storage_once _ _ h k) ∙ ap (λ z. at z y k) e ∙ ap (λ z. at v z k) f
