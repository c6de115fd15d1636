-- Two tiles of a grid have no sample in common.
use Rattle.std.proofs.Common.{◌≡◌, ◌≢◌, ℕ, ◌+◌, ◌-◌, ◌/◌, ◌%◌, ◌^◌, ◌<◌, ◌≤◌, ◌⊎◌, inl, inr, List, length, arith, slice_index}
use Rattle.std.proofs.lemmas.Bool.{cases_eq, cases_lt}
use Rattle.std.proofs.lemmas.Nat.{div_below, mod_below}
use Rattle.av1_tiles.specs.declared.file.Front.{Front}
use Rattle.av1_tiles.specs.Bounds.{AreBounds, IsReadFront}
use Rattle.av1_tiles.specs.File.{front_value}
use Rattle.av1_tiles.specs.Grammar.{count_tiles}
use Rattle.av1_tiles.specs.Tiles.{IsTileArea, tile_area}
use Rattle.av1_tiles.proofs.Starts.{area_of}
use Rattle.av1_tiles.proofs.Placing.{ends_before, halved_before}

-- before a run of samples or behind it
abbrev pub IsApart : (start count place : ℕ) → Type 0
IsApart start count place = (place < start) ⊎ (start + count ≤ place)

-- in a plane, a place of the run between two bounds is apart from the run between two others
pub run_apart : (side : ℕ) (xs : List ℕ) → AreBounds side xs → (k m d at : ℕ) → d ≤ 1 → k ≢ m → k + 1 < length xs → m + 1 < length xs
    → at < (slice_index xs (m + 1) - slice_index xs m + d) / 2 ^ d
    → IsApart (slice_index xs k / 2 ^ d) ((slice_index xs (k + 1) - slice_index xs k + d) / 2 ^ d) (slice_index xs m / 2 ^ d + at)
run_apart side xs are k m d at small differ lt_k lt_m inside = elim (cases_lt k m) [
  | inl before ↦
      let ends =
      halved_before (slice_index xs k) (slice_index xs (k + 1) - slice_index xs k)
      (slice_index xs m) d small (are.whole k lt_k) (are.whole m lt_m) (ends_before side xs are k m before (omega (arith, lt_m))) in
      inr (omega (arith, ends))
  | inr le ↦
      let later : m < k = omega (arith, le, differ) in
      let ends =
      halved_before (slice_index xs m) (slice_index xs (m + 1) - slice_index xs m)
      (slice_index xs k) d small (are.whole m lt_m) (are.whole k lt_k) (ends_before side xs are m k later (omega (arith, lt_k))) in
      inl (omega (arith, ends, inside))
]

-- tiles in one column and one row are one tile
pub same_place : (i j n : ℕ) → i % n ≡ j % n → i / n ≡ j / n → i ≡ j
same_place i j n column row = grind arith

-- the column and the row of a tile
column_in : (f : Front) → IsReadFront f → (i : ℕ) → i < count_tiles (front_value f) → i % (length f.columns.items - 1) + 1 < length f.columns.items
column_in f read i lt =
    let some : 0 < length f.columns.items - 1 = omega (arith, read.columns.some) in
    omega (arith, mod_below i (length f.columns.items - 1) some, some)

row_in : (f : Front) → IsReadFront f → (i : ℕ) → i < count_tiles (front_value f) → i / (length f.columns.items - 1) + 1 < length f.rows.items
row_in f read i lt =
    let some : 0 < length f.columns.items - 1 = omega (arith, read.columns.some) in
    omega (arith, div_below i (length f.columns.items - 1) (length f.rows.items - 1) some (omega (arith, lt)))

-- a tile's rectangle of the frame
pub area_is : (f : Front) → IsReadFront f → (i : ℕ) → i < count_tiles (front_value f) → IsTileArea f.header (tile_area (front_value f) i)
unfolding tile_area
area_is f read i lt =
    area_of f.header f.columns.items f.rows.items (i % (length f.columns.items - 1)) (i / (length f.columns.items - 1)) read.frame read.columns read.rows
    (column_in f read i lt) (row_in f read i lt)

-- a sample of one tile isn't in another
pub tiles_apart : (f : Front) → IsReadFront f → (i j : ℕ) → i < count_tiles (front_value f) → j < count_tiles (front_value f) → i ≢ j → (dx dy x y : ℕ) →
    dx ≤ 1 → dy ≤ 1
    → x < ((tile_area (front_value f) j).width + dx) / 2 ^ dx → y < ((tile_area (front_value f) j).height + dy) / 2 ^ dy
    → IsApart ((tile_area (front_value f) i).x / 2 ^ dx) (((tile_area (front_value f) i).width + dx) / 2 ^ dx) ((tile_area (front_value f) j).x / 2 ^ dx + x)
    ⊎ IsApart ((tile_area (front_value f) i).y / 2 ^ dy) (((tile_area (front_value f) i).height + dy) / 2 ^ dy) ((tile_area (front_value f) j).y / 2 ^ dy + y)
unfolding tile_area
tiles_apart f read i j lt_i lt_j differ dx dy x y small_x small_y in_x in_y =
    let n = length f.columns.items - 1 in
    elim (cases_eq (i % n) (j % n)) [
      | inr columns ↦ inl (run_apart f.header.width f.columns.items read.columns (i % n) (j % n) dx x small_x columns (column_in f read i lt_i)
          (column_in f read j lt_j) in_x)
      | inl column ↦ (elim (cases_eq (i / n) (j / n)) [
        | inr rows ↦ inr (run_apart f.header.height f.rows.items read.rows (i / n) (j / n) dy y small_y rows (row_in f read i lt_i)
            (row_in f read j lt_j) in_y)
        | inl row ↦ absurd (differ (same_place i j n column row))
      ])
    ]
