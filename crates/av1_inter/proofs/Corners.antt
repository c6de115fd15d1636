-- Where the taps for a block begin: the place 3 columns to the left of it and 3 rows above.
use Rattle.std.proofs.Common.{ℕ, ◌^◌, ◌<◌, ◌≡◌, ◌∙◌, ap, arith, ℤ, pos, negsuc, ◌+ℤ◌, ◌-ℤ◌, ◌≤ℤ◌, w64, FitsSigned}
use Rattle.std.proofs.lemmas.Int.{ints}
use Rattle.av1_inter.specs.Places.{corner_of, IsStoredFrom}
use Rattle.av1_frame.specs.declared.plane_slice.PlaneSlice.{PlaneSlice}

-- a stored place's number
pub place_fits : (z : ℤ) (o n : ℕ) → pos 0 ≤ℤ (pos o +ℤ z) → (pos o +ℤ z) ≤ℤ pos n → o < 2 ^ 63 → n < 2 ^ 63 → FitsSigned w64 z
place_fits (pos k) o n l h a b = record { sfits = omega (arith, ints, l, h) }
place_fits (negsuc k) o n l h a b = record { sfits = omega (arith, ints, l, h) }

-- the place that the two steps to the corner lead to
pub corner_is : {T : Type 0} (src left corner : PlaneSlice T) → left ≡ record src { x = src.x -ℤ pos 3 } → corner ≡ record left { y = left.y -ℤ pos 3 } →
    corner ≡ corner_of src
corner_is {T} src left corner e f = f ∙ ap (λ (s : PlaneSlice T). record s { y = s.y -ℤ pos 3 }) e

-- and its row
pub corner_fits : {T : Type 0} (src left : PlaneSlice T) (columns rows : ℕ) → left ≡ record src { x = src.x -ℤ pos 3 } →
    IsStoredFrom (corner_of src) columns rows → FitsSigned w64 (left.y -ℤ pos 3)
corner_fits {T} src left columns rows e s =
    let y = ap (λ (p : PlaneSlice T). p.y) e in
    place_fits _ src.plane_cfg.now.yorigin src.plane_cfg.now.alloc_height (omega (arith, ints, y, s.top)) (omega (arith, ints, y, s.bottom))
    (omega (arith, src.whole.few_rows, src.whole.visible_rows)) src.whole.few_rows

-- and its column
pub corner_column_fits : {T : Type 0} (src : PlaneSlice T) (columns rows : ℕ) → IsStoredFrom (corner_of src) columns rows → FitsSigned w64 (src.x -ℤ pos 3)
corner_column_fits {T} src columns rows s =
    place_fits _ src.plane_cfg.now.xorigin src.plane_cfg.now.stride s.left (omega (arith, ints, s.right))
    (omega (arith, src.whole.few_columns, src.whole.visible_columns)) (omega (arith, src.whole.few_columns, src.whole.visible_columns))
