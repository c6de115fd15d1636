-- Where a vector leads, and what stands there.
use Rattle.std.proofs.Common.{ℕ, ◌+◌, ◌^◌, ◌<◌, ◌≡◌, ◌∙◌, ap, sym, subst, arith, ℤ, pos, negsuc, ◌+ℤ◌, ◌-ℤ◌, ◌≤ℤ◌, ◌<ℤ◌, neg_ℤ, FitsSigned, w16, w32}
use Rattle.std.proofs.Common.{w64, to_z, of_z, unsigned_abs}
use Rattle.std.specs.Int.{saturate_signed}
use Rattle.std.proofs.lemmas.Int.{ints, clamps, to_z-of_z}
use Rattle.av1_frame.specs.declared.plane.Plane.{Plane}
use Rattle.av1_frame.specs.Planes.{IsWhole, padded, sample_at}
use Rattle.av1_frame.proofs.Slices.{nearest_same, padded_sample, padded_whole, visible_below}
use Rattle.av1_frame.specs.declared.plane_slice.PlaneSlice.{PlaneSlice}
use Rattle.av1_frame.specs.Slices.{IsStoredPlace, nearest_visible, within_pads, slice_plane}
use Rattle.av1_inter.specs.Motion.{prepared, single}
use Rattle.av1_inter.specs.Places.{corner_of, IsStoredFrom, samples_from}
use Rattle.av1_blocks.specs.declared.mc.FilterMode.{FilterMode}
use Rattle.av1_inter.specs.Filters.{filter_of}
use Rattle.av1_inter.specs.Reference.{IsPadded, nearest_sample, sixteenths, whole_part}
use Rattle.av1_inter.proofs.Strips.{prepared_moved, single_moved}

-- a place that is no number of the machine lies past the pads, as the nearest such number does
saturated_pads : (z : ℤ) (pad side : ℕ) → pad < 2 ^ 63 → side < 2 ^ 63 → within_pads (saturate_signed w64 z) pad side ≡ within_pads z pad side
saturated_pads (pos n) pad side h k = omega (arith, ints, clamps)
saturated_pads (negsuc n) pad side h k = omega (arith, ints, clamps)

-- within the pads of a place that stays within them, all is as round the place itself
clamped_nearest : (z : ℤ) (pad side c : ℕ) → c < pad → 0 < side → nearest_visible side (within_pads z pad side +ℤ pos c) ≡ nearest_visible side (z +ℤ pos c)
clamped_nearest z pad side c h k =
    nearest_same side (within_pads z pad side +ℤ pos c) (z +ℤ pos c) k (omega (arith, ints, clamps))

pads_low : (z : ℤ) (pad side : ℕ) → neg_ℤ (pos pad) ≤ℤ within_pads z pad side
pads_low z pad side = omega (arith, ints, clamps)

pads_high : (z : ℤ) (pad side : ℕ) → within_pads z pad side ≤ℤ pos side
pads_high z pad side = omega (arith, ints, clamps)

-- a place that was clamped to the pads
abbrev pub clamped_of : {T : Type 0} → PlaneSlice T → PlaneSlice T
clamped_of place =
    let cfg = place.plane_cfg.now in
    record place { x = within_pads place.x cfg.xpad cfg.width; y = within_pads place.y cfg.ypad cfg.height }

module _ {T : Type 0} (num : T → ℕ) (place : PlaneSlice T) (zx zy : ℤ) (at_x : place.x ≡ saturate_signed w64 zx) (at_y : place.y ≡ saturate_signed w64 zy)
    (is_padded : IsPadded num (slice_plane place)) where
  clamped_stored : IsStoredFrom (clamped_of place) place.plane_cfg.now.xpad place.plane_cfg.now.ypad
  clamped_stored =
      let w = is_padded.whole in
      let cfg = place.plane_cfg.now in
      let a = pads_low place.x cfg.xpad cfg.width in
      let b = pads_high place.x cfg.xpad cfg.width in
      let d = pads_low place.y cfg.ypad cfg.height in
      let e = pads_high place.y cfg.ypad cfg.height in
      record {
        left = omega (arith, ints, a, w.left_pad);
        right = omega (arith, ints, b, w.visible_columns);
        top = omega (arith, ints, d, w.top_pad);
        bottom = omega (arith, ints, e, w.visible_rows);
      }

  clamped_samples : (c r : ℕ) → c < place.plane_cfg.now.xpad → r < place.plane_cfg.now.ypad →
      samples_from num (clamped_of place) c r ≡ nearest_sample num (slice_plane place) (zx +ℤ pos c) (zy +ℤ pos r)
  clamped_samples c r h k =
      let w = is_padded.whole in
      let p = slice_plane place in
      let cfg = p.plane_cfg in
      let s = clamped_stored in
      let stored : IsStoredPlace cfg (within_pads place.x cfg.xpad cfg.width +ℤ pos c) (within_pads place.y cfg.ypad cfg.height +ℤ pos r) =
      record {
        left = omega (arith, ints, s.left);
        right = omega (arith, ints, s.right, h);
        top = omega (arith, ints, s.top);
        bottom = omega (arith, ints, s.bottom, k);
      } in
      let x = ap (λ z. nearest_visible cfg.width (within_pads z cfg.xpad cfg.width +ℤ pos c)) at_x
      ∙ ap (λ z. nearest_visible cfg.width (z +ℤ pos c))
      (saturated_pads zx cfg.xpad cfg.width (omega (arith, w.visible_columns, w.few_columns)) (omega (arith, w.visible_columns, w.few_columns)))
      ∙ clamped_nearest zx cfg.xpad cfg.width c h w.some_columns in
      let y = ap (λ z. nearest_visible cfg.height (within_pads z cfg.ypad cfg.height +ℤ pos r)) at_y
      ∙ ap (λ z. nearest_visible cfg.height (z +ℤ pos r))
      (saturated_pads zy cfg.ypad cfg.height (omega (arith, w.visible_rows, w.few_rows)) (omega (arith, w.visible_rows, w.few_rows)))
      ∙ clamped_nearest zy cfg.ypad cfg.height r k w.some_rows in
      is_padded.samples _ _ stored ∙ ap (λ m. sample_at num p m (nearest_visible cfg.height (within_pads place.y cfg.ypad cfg.height +ℤ pos r))) x
      ∙ ap (λ n. sample_at num p (nearest_visible cfg.width (zx +ℤ pos c)) n) y

-- what the steps to a moved block give
pub record IsMoved {T : Type 0} (num : T → ℕ) (plane : Plane T) (corner : PlaneSlice T) (zx zy : ℤ) : Type 0 where
  pub stored : IsStoredFrom corner plane.plane_cfg.xpad plane.plane_cfg.ypad
  pub samples : (c r : ℕ) → c < plane.plane_cfg.xpad → r < plane.plane_cfg.ypad →
      samples_from num corner c r ≡ nearest_sample num plane (zx +ℤ pos c) (zy +ℤ pos r)

back_again : (z : ℤ) → z +ℤ pos 3 -ℤ pos 3 ≡ z
back_again z = omega (arith, ints)

corner_again : {T : Type 0} (clamped result : PlaneSlice T) → result ≡ record clamped { x = clamped.x +ℤ pos 3; y = clamped.y +ℤ pos 3 } →
    corner_of result ≡ clamped
corner_again {T} clamped result e =
    ap corner_of e ∙ ap (λ z. record clamped { x = z; y = clamped.y +ℤ pos 3 -ℤ pos 3 }) (back_again clamped.x)
    ∙ ap (λ z. record clamped { y = z }) (back_again clamped.y)

pub moved_is : {T : Type 0} (num : T → ℕ) (plane : Plane T) (place clamped result : PlaneSlice T) (zx zy : ℤ) → slice_plane place ≡ plane
    → place.x ≡ saturate_signed w64 zx → place.y ≡ saturate_signed w64 zy → clamped ≡ clamped_of place
    → result ≡ record clamped { x = clamped.x +ℤ pos 3; y = clamped.y +ℤ pos 3 } → IsPadded num plane → IsMoved num plane (corner_of result) zx zy
moved_is {T} num plane place clamped result zx zy of x y c r =
    subst (λ (p : Plane T). IsPadded num p → IsMoved num p (corner_of result) zx zy) of (λ is_padded.
    subst (λ (s : PlaneSlice T). IsMoved num (slice_plane place) s zx zy) (sym (corner_again clamped result r ∙ c))
    (record { stored = clamped_stored num place zx zy x y is_padded; samples = clamped_samples num place zx zy x y is_padded }))

fits_64 : (z : ℤ) → neg_ℤ (pos (2 ^ 63)) ≤ℤ z → z <ℤ pos (2 ^ 63) → FitsSigned w64 z
fits_64 (pos n) l h = record { sfits = omega (arith, ints, h) }
fits_64 (negsuc n) l h = record { sfits = omega (arith, ints, l) }

-- a clamped place can be moved by 3
pub clamped_room : (z z' : ℤ) (pad pad' side side' : ℕ) → z' ≡ within_pads z pad side → pad ≡ pad' → side ≡ side' → (pad' < 2 ^ 63) × (side' + 3 < 2 ^ 63) →
    FitsSigned w64 (z' +ℤ pos 3)
clamped_room z z' pad pad' side side' e p s h =
    let l = pads_low z pad side in
    let k = pads_high z pad side in
    fits_64 (z' +ℤ pos 3) (omega (arith, ints, e, l, p, h.0)) (omega (arith, ints, e, k, s, h.1))

-- the places and fractions of a component, as they are passed
pub placed_is : (r x m : ℤ) (d e : ℕ) → FitsSigned w64 r → FitsSigned w64 x → FitsSigned w16 m → d ≡ e →
    r ≡ saturate_signed w64 (to_z w64 (of_z w64 x) +ℤ (whole_part (to_z w16 (of_z w16 m)) d -ℤ pos 3)) →
    to_z w64 (of_z w64 r) ≡ saturate_signed w64 (x +ℤ (whole_part m e -ℤ pos 3))
placed_is r x m d e fr fx fm s h =
    to_z-of_z w64 r fr ∙ h ∙ ap (λ z. saturate_signed w64 (z +ℤ (whole_part (to_z w16 (of_z w16 m)) d -ℤ pos 3))) (to_z-of_z w64 x fx)
    ∙ ap (λ z. saturate_signed w64 (x +ℤ (whole_part z d -ℤ pos 3))) (to_z-of_z w16 m fm) ∙ ap (λ n. saturate_signed w64 (x +ℤ (whole_part m n -ℤ pos 3))) s

pub fraction_is : (r m : ℤ) (d e : ℕ) → FitsSigned w32 r → FitsSigned w16 m → d ≡ e → r ≡ pos (sixteenths (to_z w16 (of_z w16 m)) d) →
    unsigned_abs (to_z w32 (of_z w32 r)) ≡ sixteenths m e
fraction_is r m d e fr fm s h =
    ap unsigned_abs (to_z-of_z w32 r fr ∙ h) ∙ ap (λ z. sixteenths z d) (to_z-of_z w16 m fm) ∙ ap (λ n. sixteenths m n) s

pub single_is : (depth : ℕ) (mx my nx ny : FilterMode) (w h fx gx fy gy : ℕ) (s t : ℕ → ℕ → ℕ) → mx ≡ nx → my ≡ ny → fx ≡ gx → fy ≡ gy
    → ((x y : ℕ) → x < w + 7 → y < h + 7 → s x y ≡ t x y) → (r c : ℕ) → r < h → c < w
    → single depth fx fy (filter_of mx fx w) (filter_of my fy h) s r c ≡ single depth gx gy (filter_of nx gx w) (filter_of ny gy h) t r c
single_is depth mx my nx ny w h fx gx fy gy s t mx_is my_is ex ey same r c in_rows in_columns =
    ap (λ m. single depth fx fy (filter_of m fx w) (filter_of my fy h) s r c) mx_is
    ∙ ap (λ m. single depth fx fy (filter_of nx fx w) (filter_of m fy h) s r c) my_is
    ∙ ap (λ n. single depth n fy (filter_of nx n w) (filter_of ny fy h) s r c) ex
    ∙ ap (λ n. single depth gx n (filter_of nx gx w) (filter_of ny n h) s r c) ey
    ∙ single_moved depth (filter_of nx gx w) (filter_of ny gy h) s t r c c (λ x y a b. same (c + x) (r + y) (omega arith) (omega arith)) gx gy

pub prepared_is : (depth : ℕ) (mx my nx ny : FilterMode) (w h fx gx fy gy : ℕ) (s t : ℕ → ℕ → ℕ) → mx ≡ nx → my ≡ ny → fx ≡ gx → fy ≡ gy
    → ((x y : ℕ) → x < w + 7 → y < h + 7 → s x y ≡ t x y) → (r c : ℕ) → r < h → c < w
    → prepared depth fx fy (filter_of mx fx w) (filter_of my fy h) s r c ≡ prepared depth gx gy (filter_of nx gx w) (filter_of ny gy h) t r c
prepared_is depth mx my nx ny w h fx gx fy gy s t mx_is my_is ex ey same r c in_rows in_columns =
    ap (λ m. prepared depth fx fy (filter_of m fx w) (filter_of my fy h) s r c) mx_is
    ∙ ap (λ m. prepared depth fx fy (filter_of nx fx w) (filter_of m fy h) s r c) my_is
    ∙ ap (λ n. prepared depth n fy (filter_of nx n w) (filter_of ny fy h) s r c) ex
    ∙ ap (λ n. prepared depth gx n (filter_of nx gx w) (filter_of ny n h) s r c) ey
    ∙ prepared_moved depth (filter_of nx gx w) (filter_of ny gy h) s t r c c (λ x y a b. same (c + x) (r + y) (omega arith) (omega arith)) gx gy

-- the visible samples of a padded plane are those that it had
pub visible_stays : {T : Type 0} (num : T → ℕ) (p : Plane T) (x y : ℕ) → IsWhole p → x < p.plane_cfg.width → y < p.plane_cfg.height →
    sample_at num (padded p) x y ≡ sample_at num p x y
visible_stays num p x y h a b =
    let stored : IsStoredPlace p.plane_cfg (pos x) (pos y) =
    record {
      left = omega (arith, ints);
      right = omega (arith, ints, a, h.visible_columns);
      top = omega (arith, ints);
      bottom = omega (arith, ints, b, h.visible_rows);
    } in
    padded_sample num p (pos x) (pos y) h stored
    ∙ ap (λ m. sample_at num p m (nearest_visible p.plane_cfg.height (pos y))) (let e : nearest_visible p.plane_cfg.width (pos x) ≡ x = omega arith in e)
    ∙ ap (λ n. sample_at num p x n) (let e : nearest_visible p.plane_cfg.height (pos y) ≡ y = omega arith in e)

-- what `pad` leaves is padded
pub padded_is_padded : {T : Type 0} (num : T → ℕ) (p q : Plane T) → q ≡ padded p → IsWhole p → IsPadded num q
padded_is_padded {T} num p q e h =
    subst (λ (u : Plane T). IsPadded num u) (sym e) (record {
      whole = padded_whole p h;
      samples = λ x y s. padded_sample num p x y h s
          ∙ sym (visible_stays num p _ _ h (visible_below p.plane_cfg.width x h.some_columns) (visible_below p.plane_cfg.height y h.some_rows));
    })
