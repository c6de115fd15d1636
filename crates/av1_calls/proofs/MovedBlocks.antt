-- What is read for a block that a vector moves: where all of it is visible, and in a window to which it was gathered.
use Rattle.std.proofs.Common.{refl, true, false, ℕ, zero, suc, ◌+◌, ◌-◌, ◌*◌, ◌^◌, ◌<◌, ◌≤◌, ◌≡◌, ◌∙◌, min, List, length, map, get_or, slice_index, ap, sym}
use Rattle.std.proofs.Common.{subst}
use Rattle.std.proofs.Common.{arith, to_z, of_z, w64, ℤ, pos, negsuc, ◌+ℤ◌, ◌-ℤ◌, ◌≤ℤ◌, ◌<ℤ◌, unsigned_abs}
use Rattle.std.specs.Int.Signed.{lt_z}
use Rattle.std.proofs.lemmas.Int.{ints}
use Rattle.std.proofs.lemmas.List.{get_or-map, get_or_default, map-id}
use Rattle.av1_blocks.specs.Depths.{IsDepth}
use Rattle.av1_frame.specs.Areas.{AreRows}
use Rattle.av1_frame.specs.Samples.{paint}
use Rattle.av1_frame.specs.Slices.{nearest_visible}
use Rattle.av1_frame.proofs.Fits.{row_end_le, rows_le}
use Rattle.av1_frame.proofs.Paint.{length_paint, paint_inside}
use Rattle.av1_frame.proofs.Planes.{some_item}
use Rattle.av1_frame.proofs.Slices.{visible_below}
use Rattle.av1_inter.specs.Places.{IsReadFrom, read_before, read_beside, read_place}
use Rattle.av1_calls.specs.IntraEdges.{halvings}
use Rattle.av1_calls.specs.MotionPlaces.{IsPlaceFor, IsPlaceOf, first_read}
use Rattle.av1_calls.specs.Motions.{AreOfDepth, AreSides, HoldBlock, IsPrep, IsPut, IsSource, moved_sample, place, read_at, rectangle_at}
use Rattle.av1_calls.specs.MovedBlocks.{AreMovedFilters, AreMovedWithin, gathered_area, IsVisible, LiesWithin, motion_at, moved_source, nearest_place}
use Rattle.av1_calls.specs.MovedBlocks.{stored_at}
use Rattle.av1_calls.specs.MovedBlocks.{visible_of}
use Rattle.av1_calls.specs.declared.motion.MotionBlock.{MotionBlock}
use Rattle.av1_calls.specs.declared.motion.Place.{Place}
use Rattle.av1_calls.specs.declared.motion_place.MotionPlane.{MotionPlane}
use Rattle.av1_calls.specs.declared.motion_place.MovedBlock.{MovedBlock}
use Rattle.av1_calls.specs.declared.motion_place.MovedPlace.{MovedPlace}
use Rattle.av1_calls.proofs.Motions.{below_each}

-- ---- where all is visible

not_below : (z : ℤ) → pos 0 ≤ℤ z → pos (unsigned_abs z) ≡ z
not_below (pos n) h = refl
not_below (negsuc n) h = absurd (omega (arith, ints))

nearest_inside : (n k : ℕ) → k < n → nearest_visible n (pos k) ≡ k
nearest_inside n k h = omega arith

is_below : (z : ℤ) → lt_z z (pos 0) ≡ true → z <ℤ pos 0
is_below z h = grind (arith, ints)

is_from : (z : ℤ) → lt_z z (pos 0) ≡ false → pos 0 ≤ℤ z
is_from z h = grind (arith, ints)

before_first : (n : ℕ) (z : ℤ) → z <ℤ pos 0 → nearest_visible n z ≡ 0
before_first n (pos i) h = absurd (omega (arith, ints))
before_first n (negsuc i) h = refl

from_first : (n : ℕ) (z : ℤ) → pos 0 ≤ℤ z → nearest_visible n z ≡ min (unsigned_abs z) (n - 1)
from_first n (pos i) h = refl
from_first n (negsuc i) h = absurd (omega (arith, ints))

pub nearest_before : (n : ℕ) (z : ℤ) → lt_z z (pos 0) ≡ true → nearest_visible n z ≡ 0
nearest_before n z h = before_first n z (is_below z h)

pub nearest_from : (n : ℕ) (z : ℤ) → lt_z z (pos 0) ≡ false → nearest_visible n z ≡ min (unsigned_abs z) (n - 1)
nearest_from n z h = from_first n z (is_from z h)

-- along columns or rows
from_none : (z : ℤ) (n : ℕ) → pos n ≤ℤ z → pos 0 ≤ℤ z
from_none z n h = omega (arith, ints, h)

-- the place of a column that is read, from the first one on and from 3 before the block on
read_there : (at : ℤ) (fraction x : ℕ) → at -ℤ pos (read_before fraction) +ℤ pos x ≡ at -ℤ pos 3 +ℤ pos (read_place fraction x)
read_there at zero x = omega (arith, ints)
read_there at (suc f) x = refl

pub before_few : (fraction : ℕ) → read_before fraction ≤ 3
before_few zero = omega arith
before_few (suc f) = omega arith

beside_few : (fraction : ℕ) → read_beside fraction ≤ 7
beside_few zero = omega arith
beside_few (suc f) = omega arith

read_placed : (fraction side x : ℕ) → x < side + read_beside fraction → read_place fraction x < side + 7
read_placed zero side x h = omega (arith, h)
read_placed (suc f) side x h = h

inside_at : (first : ℤ) (side visible : ℕ) (at : ℤ) (fraction : ℕ) → IsPlaceFor first side visible at → IsVisible at fraction side visible → (x : ℕ)
    → x < side + read_beside fraction → nearest_visible visible (first +ℤ pos (read_place fraction x)) ≡ unsigned_abs at - read_before fraction + x
inside_at first side visible at fraction found seen x h =
    let e = not_below at (from_none at (read_before fraction) seen.first) in
    let k : ℕ = unsigned_abs at - read_before fraction + x in
    let there : at -ℤ pos (read_before fraction) +ℤ pos x ≡ pos k = omega (arith, ints, e, seen.first) in
    let below : k < visible = omega (arith, ints, e, h, seen.first, seen.last) in
    sym (found.same (read_place fraction x) (read_placed fraction side x h)) ∙ ap (nearest_visible visible) (sym (read_there at fraction x) ∙ there)
    ∙ nearest_inside visible k below

module _ (p : MotionPlane) (b : MovedBlock) (at : MovedPlace) (found : IsPlaceOf p b at) (within : LiesWithin p b at) where
  -- each sample is that of the source
  within_source : (src : List ℕ) → IsReadFrom at.col_frac at.row_frac b.width b.height
      (read_at (stored_at p at) (motion_at b at.col_frac at.row_frac) src) (moved_source p b src)
  within_source src x y h k =
      let ex = inside_at _ b.width p.width at.x at.col_frac found.column within.columns x h in
      let ey = inside_at _ b.height p.height at.y at.row_frac found.row within.rows y k in
      let u = not_below at.x (from_none at.x (read_before at.col_frac) within.columns.first) in
      let v = not_below at.y (from_none at.y (read_before at.row_frac) within.rows.first) in
      let row : p.y + unsigned_abs at.y - read_before at.row_frac + y ≡ p.y + (unsigned_abs at.y - read_before at.row_frac + y) =
      omega (arith, ints, v, within.rows.first) in
      let column : (n : ℕ) → n + (p.x + unsigned_abs at.x - read_before at.col_frac) + x ≡ n + p.x + (unsigned_abs at.x - read_before at.col_frac + x) =
      λ n. omega (arith, ints, u, within.columns.first) in
      ap (λ n. slice_index src (n * p.stride + (p.x + unsigned_abs at.x - read_before at.col_frac) + x)) row
      ∙ ap (slice_index src) (column ((p.y + (unsigned_abs at.y - read_before at.row_frac + y)) * p.stride))
      ∙ ap (λ n. slice_index src ((p.y + (unsigned_abs at.y - read_before at.row_frac + y)) * p.stride + p.x + n)) (sym ex)
      ∙ ap (λ n. slice_index src ((p.y + n) * p.stride + p.x + nearest_visible p.width (first_read b.x b.col (halvings p.halved_columns) +ℤ
      pos (read_place at.col_frac x)))) (sym ey)

  pub stored_source : (from : Place) → from ≡ stored_at p at → (src : List ℕ) → IsReadFrom at.col_frac at.row_frac b.width b.height
      (read_at from (motion_at b at.col_frac at.row_frac) src) (moved_source p b src)
  stored_source from is src =
      subst (λ (k : Place). IsReadFrom at.col_frac at.row_frac b.width b.height (read_at k (motion_at b at.col_frac at.row_frac) src) (moved_source p b src))
      (sym is) (within_source src)

  -- and all lies in the samples
  pub within_rows : (n : ℕ) → AreRows p.stride (visible_of p) n → IsSource (stored_at p at) (motion_at b at.col_frac at.row_frac) n
  within_rows n rows =
      let u = not_below at.x (from_none at.x (read_before at.col_frac) within.columns.first) in
      let v = not_below at.y (from_none at.y (read_before at.row_frac) within.rows.first) in
      let right : p.x + unsigned_abs at.x - read_before at.col_frac + (b.width + read_beside at.col_frac) ≤ p.stride =
      omega (arith, ints, u, within.columns.first, within.columns.last, rows.columns) in
      record {
        left = omega (arith, ints, u, within.columns.first);
        top = omega (arith, ints, v, within.rows.first);
        rows = record {
          some = rows.some;
          columns = right;
          rows = λ r h.
              let ends = row_end_le (p.y + unsigned_abs at.y - read_before at.row_frac + r) (p.y + p.height) p.stride
              (p.x + unsigned_abs at.x - read_before at.col_frac + (b.width + read_beside at.col_frac)) _ refl
              (omega (arith, ints, v, within.rows.first, within.rows.last, h)) right in
              omega (arith, ends, rows.rows);
          few = rows.few;
        };
      }

-- ---- a block that is read from somewhere

-- it can be put
pub put_asked : (to : Place) (room : ℕ) (from : Place) (n : ℕ) (b : MovedBlock) (i j : ℕ) (m : MotionBlock) → m ≡ motion_at b i j → AreSides b.width b.height
    → AreMovedFilters b → i < 16 → j < 16 → IsSource from (motion_at b i j) n → AreRows to.stride (rectangle_at to b.width b.height) room →
    IsPut to room from n m
put_asked to room from n b i j m is sides filters few_columns few_rows source rows =
    subst (λ (k : MotionBlock). IsPut to room from n k) (sym is) (record {
      motion = record {
        sides = sides;
        filters = record { across = filters.across; down = filters.down };
        fractions = record { columns = few_columns; rows = few_rows };
        source = source;
      };
      rows = rows;
    })

-- it can be prepared
pub prep_asked : (room : ℕ) (from : Place) (n : ℕ) (b : MovedBlock) (i j : ℕ) (m : MotionBlock) → m ≡ motion_at b i j → AreSides b.width b.height
    → AreMovedFilters b → i < 16 → j < 16 → IsSource from (motion_at b i j) n → b.height * b.width ≤ room → IsPrep room from n m
prep_asked room from n b i j m is sides filters few_columns few_rows source long =
    subst (λ (k : MotionBlock). IsPrep room from n k) (sym is) (record {
      motion = record {
        sides = sides;
        filters = record { across = filters.across; down = filters.down };
        fractions = record { columns = few_columns; rows = few_rows };
        source = source;
      };
      long = long;
    })

-- its samples are of the depth
pub put_deep : (depth : ℕ) (from : Place) (xs : List ℕ) (b : MovedBlock) (i j : ℕ) (m : MotionBlock) (source : ℕ → ℕ → ℕ) → m ≡ motion_at b i j → IsDepth depth
    → IsReadFrom i j b.width b.height (read_at from (motion_at b i j) xs) source
    → ((c r : ℕ) → c < b.width + 7 → r < b.height + 7 → source c r < 2 ^ depth) → AreOfDepth depth from xs m
put_deep depth from xs b i j m source is is_depth same deep =
    subst (λ (k : MotionBlock). AreOfDepth depth from xs k) (sym is) (record {
      is_depth = is_depth;
      within = λ x y h k. subst (λ (n : ℕ). n < 2 ^ depth) (sym (same x y h k))
          (deep (read_place i x) (read_place j y) (read_placed i b.width x h) (read_placed j b.height y k));
    })

-- what is read for it, by the block's own numbers
pub read_same : (from : Place) (xs : List ℕ) (b : MovedBlock) (i j : ℕ) (m : MotionBlock) (source : ℕ → ℕ → ℕ) → m ≡ motion_at b i j
    → IsReadFrom i j b.width b.height (read_at from (motion_at b i j) xs) source
    → IsReadFrom m.col_frac m.row_frac m.width m.height (read_at from m xs) source
read_same from xs b i j m source is same =
    subst (λ (k : MotionBlock). IsReadFrom k.col_frac k.row_frac k.width k.height (read_at from k xs) source) (sym is) same

-- and what it becomes is what its source gives
pub moved_put : {T : Type 0} (pixel : ℕ → T) (depth : ℕ) (to : Place) (b : MovedBlock) (i j u v : ℕ) (m : MotionBlock) (old new : List T) (source : ℕ → ℕ → ℕ)
    → m ≡ motion_at b i j → i ≡ u → j ≡ v
    → new ≡ paint to.stride (rectangle_at to m.width m.height) (λ r c _. pixel (moved_sample depth m source r c)) old
    → new ≡ paint to.stride (rectangle_at to b.width b.height) (λ r c _. pixel (moved_sample depth (motion_at b u v) source r c)) old
moved_put {T} pixel depth to b i j u v m old new source is columns rows e =
    let P = λ (k : MotionBlock). new ≡ paint to.stride (rectangle_at to k.width k.height) (λ r c (_ : T). pixel (moved_sample depth k source r c)) old in
    subst P (is ∙ ap (λ n. motion_at b n j) columns ∙ ap (motion_at b u) rows) e

-- and what is prepared of it
pub moved_prep : (depth : ℕ) (b : MovedBlock) (i j u v : ℕ) (m : MotionBlock) (old new : List ℤ) (source : ℕ → ℕ → ℕ) → m ≡ motion_at b i j → i ≡ u → j ≡ v
    → HoldBlock depth m source old new → HoldBlock depth (motion_at b u v) source old new
moved_prep depth b i j u v m old new source is columns rows held =
    subst (λ (k : MotionBlock). HoldBlock depth k source old new) (is ∙ ap (λ n. motion_at b n j) columns ∙ ap (motion_at b u) rows) held

-- ---- in a window

-- where what is read along columns or rows begins, as it is handed on
pub first_passed : (z y : ℤ) (fraction side visible : ℕ) → y ≡ to_z w64 (of_z w64 z) -ℤ pos (read_before fraction)
    → (pos 0 -ℤ pos (side + 4)) ≤ℤ z → z ≤ℤ pos (visible + 3) → side ≤ 128 → visible ≤ 65536 →
    to_z w64 (of_z w64 y) ≡ z -ℤ pos (read_before fraction)
first_passed z y fraction side visible e least greatest short few =
    let is : to_z w64 (of_z w64 z) ≡ z = omega (arith, ints) in
    let begins : y ≡ z -ℤ pos (read_before fraction) = e ∙ ap (λ x. x -ℤ pos (read_before fraction)) is in
    let low : read_before fraction ≤ 3 = before_few fraction in
    let same : to_z w64 (of_z w64 (z -ℤ pos (read_before fraction))) ≡ z -ℤ pos (read_before fraction) = omega (arith, ints, low) in
    ap (λ x. to_z w64 (of_z w64 x)) begins ∙ same

-- the place of a visible sample lies in the samples
nearest_stored : (p : MotionPlane) (n : ℕ) (x y : ℤ) → AreRows p.stride (visible_of p) n → 0 < p.width → 0 < p.height → nearest_place p x y < n
nearest_stored p n x y rows some_columns some_rows =
    let column = visible_below p.width x some_columns in
    let row = visible_below p.height y some_rows in
    let ends = row_end_le (p.y + nearest_visible p.height y) (p.y + p.height) p.stride (p.x + nearest_visible p.width x + 1) _ refl (omega (arith, row))
    (omega (arith, column, rows.columns)) in
    omega (arith, ends, rows.rows)

-- a sample of a list that was painted
painted_item : {T : Type 0} (num : T → ℕ) (src window : List T) (index k : ℕ) (d : T) → get_or window index d ≡ get_or src k d → index < length window
    → k < length src → slice_index (map num window) index ≡ slice_index (map num src) k
painted_item num src window index k d e inside stored = get_or-map num window index d 0 inside ∙ ap num e ∙ sym (get_or-map num src k d 0 stored)

-- the part of a window that is filled
pub part_rows : (b : MovedBlock) (fx fy n : ℕ) → AreSides b.width b.height → n ≡ 18225 → AreRows (b.width + 7) (gathered_area b fx fy) n
part_rows b fx fy n sides whole =
    let high = rows_le (0 + (b.height + read_beside fy)) 135 (b.width + 7) _ refl (omega (arith, sides.high, beside_few fy)) in
    record {
      some = omega arith;
      columns = omega (arith, beside_few fx);
      rows = omega (arith, high, sides.wide, whole);
      few = omega (arith, whole);
    }

module _ {T : Type 0} (num : T → ℕ) (src old window : List T) (p : MotionPlane) (b : MovedBlock) (at : MovedPlace) (zx zy : ℤ) (found : IsPlaceOf p b at)
    (x_is : zx ≡ at.x -ℤ pos (read_before at.col_frac)) (y_is : zy ≡ at.y -ℤ pos (read_before at.row_frac))
    (rows : AreRows (b.width + 7) (gathered_area b at.col_frac at.row_frac) (length old))
    (visible : AreRows p.stride (visible_of p) (length src)) (some_columns : 0 < p.width) (some_rows : 0 < p.height)
    (is : window ≡ paint (b.width + 7) (gathered_area b at.col_frac at.row_frac)
    (λ r c v. get_or src (nearest_place p (zx +ℤ pos c) (zy +ℤ pos r)) v) old) where
  painted_long : length window ≡ length old
  painted_long = ap length is ∙ length_paint (b.width + 7) (gathered_area b at.col_frac at.row_frac) _ old

  -- each sample of the window is that of the source
  pub gathered_source : IsReadFrom at.col_frac at.row_frac b.width b.height
      (read_at (place (b.width + 7) (read_before at.col_frac) (read_before at.row_frac)) (motion_at b at.col_frac at.row_frac) (map num window))
      (moved_source p b (map num src))
  gathered_source x y h k =
      let area = gathered_area b at.col_frac at.row_frac in
      let index : ℕ = (0 + y) * (b.width + 7) + (0 + x) in
      let ends = row_end_le (0 + y) (0 + (b.height + read_beside at.row_frac)) (b.width + 7) (x + 1) _ refl (omega (arith, k))
      (omega (arith, h, beside_few at.col_frac)) in
      let inside : index < length old = omega (arith, ends, rows.rows) in
      let d = some_item old index inside in
      let there : ℕ = nearest_place p (zx +ℤ pos x) (zy +ℤ pos y) in
      let stored = nearest_stored p (length src) (zx +ℤ pos x) (zy +ℤ pos y) visible some_columns some_rows in
      let read : get_or window index d ≡ get_or src there d =
      ap (λ (xs : List T). get_or xs index d) is ∙ paint_inside (b.width + 7) area _ old y x d k h rows.columns inside
      ∙ get_or_default src there _ d stored in
      let column = ap (λ z. nearest_visible p.width (z +ℤ pos x)) x_is ∙ ap (nearest_visible p.width) (read_there at.x at.col_frac x)
      ∙ found.column.same (read_place at.col_frac x) (read_placed at.col_frac b.width x h) in
      let row = ap (λ z. nearest_visible p.height (z +ℤ pos y)) y_is ∙ ap (nearest_visible p.height) (read_there at.y at.row_frac y)
      ∙ found.row.same (read_place at.row_frac y) (read_placed at.row_frac b.height y k) in
      let none : (n : ℕ) → n - n ≡ 0 = λ n. omega arith in
      ap (λ n. slice_index (map num window) ((n + y) * (b.width + 7) + (read_before at.col_frac - read_before at.col_frac) + x))
      (none (read_before at.row_frac))
      ∙ ap (λ n. slice_index (map num window) ((0 + y) * (b.width + 7) + n + x)) (none (read_before at.col_frac))
      ∙ ap (slice_index (map num window)) (let e : (0 + y) * (b.width + 7) + 0 + x ≡ index = omega arith in e)
      ∙ painted_item num src window index there d read (omega (arith, inside, painted_long)) stored
      ∙ ap (λ n. slice_index (map num src) ((p.y + nearest_visible p.height (zy +ℤ pos y)) * p.stride + p.x + n)) column
      ∙ ap (λ n. slice_index (map num src) ((p.y + n) * p.stride + p.x +
      nearest_visible p.width (first_read b.x b.col (halvings p.halved_columns) +ℤ pos (read_place at.col_frac x)))) row

  -- and all that is read is there
  pub gathered_rows :
      IsSource (place (b.width + 7) (read_before at.col_frac) (read_before at.row_frac)) (motion_at b at.col_frac at.row_frac) (length window)
  gathered_rows = record {
    left = omega arith;
    top = omega arith;
    rows = record {
      some = rows.some;
      columns = omega (arith, beside_few at.col_frac);
      rows = λ r h.
          let ends = row_end_le r (0 + (b.height + read_beside at.row_frac)) (b.width + 7) (b.width + read_beside at.col_frac) _ refl (omega (arith, h))
          (omega (arith, beside_few at.col_frac)) in
          let none : (read_before at.row_frac - read_before at.row_frac + r) * (b.width + 7) ≡ r * (b.width + 7) =
          ap (λ n. n * (b.width + 7)) (let e : read_before at.row_frac - read_before at.row_frac + r ≡ r = omega arith in e) in
          omega (arith, ends, none, rows.rows, painted_long);
      few = omega (arith, rows.few, painted_long);
    };
  }

-- ---- samples of 8 bits

-- samples that are numbers already
pub moved_numbers : (depth : ℕ) (p : MotionPlane) (b : MovedBlock) (src : List ℕ) → AreMovedWithin depth p b src →
    AreMovedWithin depth p b (map (λ n. n) src)
moved_numbers depth p b src deep = subst (λ xs. AreMovedWithin depth p b xs) (sym (map-id src)) deep

pub moved_low : (p : MotionPlane) (b : MovedBlock) (src : List ℕ) → ((i : ℕ) → i < length src → slice_index src i < 256) → AreMovedWithin 8 p b src
moved_low p b src all = λ c r h k. below_each src 256 _ (omega arith) all
