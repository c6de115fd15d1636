-- Rows of a reference, and rows and rectangles that are painted.
use Rattle.std.proofs.Common.{ℕ, ◌+◌, ◌-◌, ◌*◌, ◌/◌, ◌%◌, ◌<◌, ◌≤◌, ◌≡◌, ◌∙◌, ap, sym, arith, List, length, get_or, ℤ, pos, negsuc, ◌+ℤ◌, take, drop, ◌++◌}
use Rattle.std.proofs.Common.{◌≤ℤ◌, unsigned_abs, inl, inr, refl}
use Rattle.std.proofs.lemmas.Int.{ints}
use Rattle.std.proofs.lemmas.List.{get_or_default, get_or_past, places}
use Rattle.std.proofs.lemmas.Nat.{le-div}
use Rattle.std.proofs.lemmas.Bool.{cases_lt}
use Rattle.std.proofs.lemmas.Bool.Decides.{nat_tests}
use Rattle.av1_frame.specs.declared.plane_slice.PlaneSlice.{PlaneSlice}
use Rattle.av1_frame.specs.declared.plane_region.StoredArea.{StoredArea}
use Rattle.av1_frame.specs.Samples.{paint, paint_row, painted_at}
use Rattle.av1_frame.specs.Slices.{stored_column, IsStoredPlace}
use Rattle.av1_frame.proofs.Fits.{row_end_le}
use Rattle.av1_frame.proofs.Paint.{paint_at, paint_row_same}
use Rattle.av1_frame.proofs.Update.{update_is, length-update, get_or-update}
use Rattle.av1_inter.specs.Places.{IsStoredFrom}

-- a sample that was painted, where what it becomes hangs on no other
pub painted_sample : {X : Type 0} (w k : ℕ) (f : ℕ → X → X) (s : List X) (d : X) → k < w → w ≤ length s → ((v : X) → f k v ≡ f k d) →
    get_or (paint_row w f s) k d ≡ f k d
unfolding paint_row
painted_sample w k f s d h l e =
    get_or-update _ s k d (omega arith) ∙ (let t = e (get_or s k d) in grind (arith, nat_tests))

module _ {T : Type 0} (num : T → ℕ) (place : PlaneSlice T) (columns rows : ℕ) (stored : IsStoredFrom place columns rows) where
  abs_pos : (z : ℤ) (n m : ℕ) → pos 0 ≤ℤ z → (z +ℤ pos n) ≤ℤ pos m → unsigned_abs z + n ≤ m
  abs_pos (pos a) n m h l = omega (arith, ints)
  abs_pos (negsuc a) n m h l = absurd (omega (arith, ints))

  -- a place among those rows and columns
  pub place_is_stored : (y : ℕ) → y < rows → 0 < columns → IsStoredPlace place.plane_cfg.now place.x (place.y +ℤ pos y)
  place_is_stored y h k = record {
    left = stored.left;
    right = omega (arith, ints, stored.right);
    top = omega (arith, ints, stored.top);
    bottom = omega (arith, ints, stored.bottom);
  }

  -- such a row is long enough
  pub row_long : columns ≤ place.plane_cfg.now.stride - stored_column place.plane_cfg.now place.x
  row_long = let r =
      abs_pos (pos place.plane_cfg.now.xorigin +ℤ place.x) columns place.plane_cfg.now.stride stored.left stored.right
      in omega (arith, r)

-- a row that is copied by way of another
pub copied_twice : {X : Type 0} (n : ℕ) (row source blank line new : List X) → n ≤ length source → length blank ≡ n →
    line ≡ paint_row n (λ c v. get_or source c v) blank → new ≡ paint_row n (λ c v. get_or line c v) row
    → new ≡ paint_row n (λ c v. get_or source c v) row
copied_twice n row source blank line new h b e f =
    f ∙ paint_row_same n _ _ row (λ q v l. let inside : q < length source = omega (arith, h, l) in
    ap (λ s. get_or s q v) e ∙ painted_sample n q (λ k u. get_or source k u) blank v l (omega (arith, b)) (λ u. get_or_default source q u v inside))

-- a row that is copied by halves
pub copied_halves : {X : Type 0} (n : ℕ) (row source front back first second a b : List X) → n + n ≤ length row → n + n ≤ length source →
    front ≡ take n row → back ≡ drop n row → first ≡ take n source → second ≡ drop n source → a ≡ paint_row n (λ c v. get_or first c v) front →
    b ≡ paint_row n (λ c v. get_or second c v) back
    → a ++ b ≡ paint_row (n + n) (λ c v. get_or source c v) row
unfolding paint_row
copied_halves n row source front back first second a b h l front_is back_is first_is second_is a_is b_is =
    rw (a_is, b_is, front_is, back_is, first_is, second_is) (update_is _ row _ (grind (arith, places, length-update)) (λ k d q. elim (cases_lt k n) [
      | inl x ↦ grind (arith, nat_tests, places, get_or-update, length-update)
      | inr x ↦ elim (cases_lt k (n + n)) [
        | inl y ↦ grind (arith, nat_tests, places, get_or-update, length-update)
        | inr y ↦ grind (arith, nat_tests, places, get_or-update, length-update)
      ]
    ]))

-- a rectangle that is painted from a list's first entry on, in rows of its own width: its entries, and those behind it
module _ {X : Type 0} (a : StoredArea) (w h : ℕ) (f : ℕ → ℕ → X → X) (s new : List X) (ea : a ≡ record { x = 0; y = 0; width = w; height = h })
    (e : new ≡ paint w a f s) (some : 0 < w) where
  packed_is : new ≡ paint w (record { x = 0; y = 0; width = w; height = h }) f s
  packed_is = e ∙ ap (λ (b : StoredArea). paint w b f s) ea

  pub packed_at : h * w ≤ length s → (r c : ℕ) (d : X) → r < h → c < w → get_or new (r * w + c) d ≡ f r c (get_or s (r * w + c) d)
  packed_at long r c d k l =
      let end = row_end_le r h w (c + 1) (h * w) refl k (omega arith) in
      let t = paint_at w (record { x = 0; y = 0; width = w; height = h }) f s c r d l (omega (arith, end, long)) in
      ap (λ u. get_or u (r * w + c) d) packed_is ∙ grind (arith, nat_tests)

  pub packed_rest : (i : ℕ) (d : X) → h * w ≤ i → get_or new i d ≡ get_or s i d
  unfolding paint
  packed_rest i d l =
      let below = le-div h i w some l in
      ap (λ u. get_or u i d) packed_is ∙ elim (cases_lt i (length s)) [
        | inl inside ↦ get_or-update _ s i d inside ∙ grind (arith, nat_tests)
        | inr past ↦ get_or_past _ i d
            (omega (arith, length-update (λ k v. painted_at (record { x = 0; y = 0; width = w; height = h }) f (k % w) (k / w) v) s, past))
            ∙ sym (get_or_past s i d past)
      ]
