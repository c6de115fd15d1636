-- All that is stored of a reference from a place on, read by rows, and what is read of it for a block.
use Rattle.std.proofs.Common.{ℕ, zero, suc, ◌+◌, ◌-◌, ◌*◌, ◌^◌, ◌<◌, ◌≤◌, ◌≡◌, ◌∙◌, ap, arith, drop, refl, subst, sym, List, length, map, slice_index}
use Rattle.std.proofs.lemmas.Int.{ints}
use Rattle.std.proofs.lemmas.List.{places}
use Rattle.av1_frame.specs.declared.plane_slice.PlaneSlice.{PlaneSlice}
use Rattle.av1_frame.specs.Slices.{all_from, IsStoredPlace, slice_plane}
use Rattle.av1_frame.proofs.Slices.{all_from_fits, all_from_sample}
use Rattle.av1_inter.specs.Places.{AreWithinDepth, corner_of, HoldRows, IsReadFrom, IsStoredFrom, read_before, read_beside, read_place, sample_in, samples_from}
use Rattle.av1_inter.proofs.Rows.{place_is_stored, row_long}
use Rattle.av1_inter.proofs.Strips.{part_sample}

module _ {T : Type 0} (num : T → ℕ) (place : PlaneSlice T) (columns rows : ℕ) (is_stored : IsStoredFrom place columns rows) where
  first_is_stored : 0 < columns → 0 < rows → IsStoredPlace place.plane_cfg.now place.x place.y
  first_is_stored h k =
      record { left = is_stored.left; right = omega (arith, ints, is_stored.right); top = is_stored.top; bottom = omega (arith, ints, is_stored.bottom) }

  -- column x of row y stands in it
  pub source_long : (source : List T) (x y : ℕ) → source ≡ all_from (slice_plane place) place.x place.y → y < rows → x < columns →
      y * place.plane_cfg.now.stride + x < length source
  source_long source x y e h k =
      let r = row_long num place columns rows is_stored in
      let fits = all_from_fits (slice_plane place) place.x place.y y x place.whole (first_is_stored (omega arith) (omega arith))
      (place_is_stored num place columns rows is_stored y h (omega arith)) (omega (arith, r)) in
      omega (arith, ap length e, fits)

  -- as the sample there
  pub source_sample : (source : List T) (x y : ℕ) → source ≡ all_from (slice_plane place) place.x place.y → y < rows → x < columns →
      slice_index (map num source) (y * place.plane_cfg.now.stride + x) ≡ samples_from num place x y
  source_sample source x y e h k =
      let r = row_long num place columns rows is_stored in
      ap (λ u. slice_index (map num u) (y * place.plane_cfg.now.stride + x)) e
      ∙ all_from_sample num (slice_plane place) place.x place.y y x place.whole (first_is_stored (omega arith) (omega arith))
      (place_is_stored num place columns rows is_stored y h (omega arith)) (omega (arith, r))

-- The samples that are read for a block, from the first one on, in what is stored from the corner of its taps on.
module _ {T : Type 0} (num : T → ℕ) (place : PlaneSlice T) (w h : ℕ) (is_stored : IsStoredFrom place (w + 7) (h + 7)) (fx fy : ℕ) where
  unread_fits : (fraction side x : ℕ) → x < side + read_beside fraction → 3 - read_before fraction + x < side + 7
  unread_fits zero side x l = omega (arith, l)
  unread_fits (suc f) side x l = omega (arith, l)

  last_fits : (fraction side : ℕ) → 3 - read_before fraction + (side + read_beside fraction - 1) < side + 7
  last_fits zero side = omega arith
  last_fits (suc f) side = omega arith

  unread_place : (fraction x : ℕ) → 3 - read_before fraction + x ≡ read_place fraction x
  unread_place zero x = omega arith
  unread_place (suc f) x = omega arith

  module _ (stored read : List T) (stored_is : stored ≡ all_from (slice_plane place) place.x place.y) (stride : ℕ) (e : stride ≡ place.plane_cfg.now.stride)
      (read_is : read ≡ drop ((3 - read_before fy) * place.plane_cfg.now.stride + (3 - read_before fx)) stored) where
    there : (x y : ℕ) → (3 - read_before fy) * place.plane_cfg.now.stride + (3 - read_before fx) + (y * stride + x) ≡
        (3 - read_before fy + y) * place.plane_cfg.now.stride + (3 - read_before fx + x)
    there x y =
        let same : y * stride ≡ y * place.plane_cfg.now.stride = ap (λ n. y * n) e in
        let a : ℕ = 3 - read_before fy in
        let m : (a + y) * place.plane_cfg.now.stride ≡ a * place.plane_cfg.now.stride + y * place.plane_cfg.now.stride = grind arith in
        omega (arith, same, m)

    pub read_long : HoldRows (length read) stride (w + read_beside fx) (h + read_beside fy)
    read_long y l =
        let x : ℕ = w + read_beside fx - 1 in
        let long = source_long num place (w + 7) (h + 7) is_stored stored (3 - read_before fx + x) (3 - read_before fy + y) stored_is (unread_fits fy h y l)
        (last_fits fx w) in
        let n : ℕ = (3 - read_before fy) * place.plane_cfg.now.stride + (3 - read_before fx) in
        let rest : length (drop n stored) ≡ length stored - n = grind (arith, places) in
        omega (arith, ap length read_is, rest, there x y, long)

    pub read_sample : (x y : ℕ) → x < w + read_beside fx → y < h + read_beside fy →
        sample_in num read stride x y ≡ samples_from num place (read_place fx x) (read_place fy y)
    read_sample x y k l =
        part_sample num stored read _ (y * stride + x) _ read_is (there x y)
        ∙ source_sample num place (w + 7) (h + 7) is_stored stored (3 - read_before fx + x) (3 - read_before fy + y) stored_is (unread_fits fy h y l)
        (unread_fits fx w x k)
        ∙ ap (λ n. samples_from num place n (3 - read_before fy + y)) (unread_place fx x) ∙ ap (samples_from num place (read_place fx x)) (unread_place fy y)

    read_placed : (fraction side x : ℕ) → x < side + read_beside fraction → read_place fraction x < side + 7
    read_placed zero side x l = omega (arith, l)
    read_placed (suc f) side x l = omega (arith, l)

    pub read_within : (depth : ℕ) → AreWithinDepth depth (samples_from num place) (w + 7) (h + 7) →
        AreWithinDepth depth (sample_in num read stride) (w + read_beside fx) (h + read_beside fy)
    read_within depth within x y k l =
        subst (λ (n : ℕ). n < 2 ^ depth) (sym (read_sample x y k l)) (within _ _ (read_placed fx w x k) (read_placed fy h y l))

-- it begins there
pub read_starts : {T : Type 0} (num : T → ℕ) (place : PlaneSlice T) (w h : ℕ) → IsStoredFrom place (w + 7) (h + 7) → (fx fy a b stride : ℕ) (stored : List T)
    → stored ≡ all_from (slice_plane place) place.x place.y → stride ≡ place.plane_cfg.now.stride → a ≡ 3 - read_before fy → b ≡ 3 - read_before fx →
    a * stride + b ≤ length stored
read_starts num place w h is_stored fx fy a b stride stored e f ea eb =
    let long = source_long num place (w + 7) (h + 7) is_stored stored b a e (omega (arith, ea)) (omega (arith, eb)) in
    let same : a * stride ≡ a * place.plane_cfg.now.stride = ap (λ n. a * n) f in
    omega (arith, same, long)

-- what is read of a slice at the block's own place
module _ {T : Type 0} (num : T → ℕ) (src place : PlaneSlice T) (at : place ≡ corner_of src) (w h : ℕ) (is_stored : IsStoredFrom (corner_of src) (w + 7) (h + 7))
    (fx fy stride : ℕ) (read : List T) (e : stride ≡ place.plane_cfg.now.stride)
    (read_is : read ≡ drop ((3 - read_before fy) * place.plane_cfg.now.stride + (3 - read_before fx)) (all_from (slice_plane place) place.x place.y)) where
  stored_here : IsStoredFrom place (w + 7) (h + 7)
  stored_here = subst (λ (p : PlaneSlice T). IsStoredFrom p (w + 7) (h + 7)) (sym at) is_stored

  pub slice_long : HoldRows (length read) stride (w + read_beside fx) (h + read_beside fy)
  slice_long = read_long num place w h stored_here fx fy _ read refl stride e read_is

  pub slice_within : (depth : ℕ) → AreWithinDepth depth (samples_from num (corner_of src)) (w + 7) (h + 7) →
      AreWithinDepth depth (sample_in num read stride) (w + read_beside fx) (h + read_beside fy)
  slice_within depth within =
      read_within num place w h stored_here fx fy _ read refl stride e read_is depth
      (subst (λ (p : PlaneSlice T). AreWithinDepth depth (samples_from num p) (w + 7) (h + 7)) (sym at) within)

  pub slice_same : IsReadFrom fx fy w h (sample_in num read stride) (samples_from num (corner_of src))
  slice_same x y k l =
      read_sample num place w h stored_here fx fy _ read refl stride e read_is x y k l
      ∙ ap (λ (p : PlaneSlice T). samples_from num p (read_place fx x) (read_place fy y)) at
