-- What a block is read from is what the motion of `av1_inter` reads.
use Rattle.std.proofs.Common.{refl, ℕ, zero, suc, ℤ, ◌≡◌, ◌∙◌, ◌+◌, ◌-◌, ◌*◌, ◌^◌, ◌<◌, ◌≤◌, List, length, drop, map, slice_index, arith, ap, sym, subst}
use Rattle.std.proofs.Common.{inl, inr}
use Rattle.std.proofs.lemmas.Bool.{cases_lt}
use Rattle.std.proofs.lemmas.List.{get_or_past, map-id, places}
use Rattle.av1_blocks.specs.Depths.{IsDepth}
use Rattle.av1_blocks.specs.declared.mc.FilterMode.{FilterMode}
use Rattle.av1_frame.specs.Samples.{paint, row_start}
use Rattle.av1_frame.specs.declared.plane_region.StoredArea.{StoredArea}
use Rattle.av1_inter.specs.Filters.{filter_of}
use Rattle.av1_inter.specs.Motion.{entry, prepared, single}
use Rattle.av1_inter.specs.Places.{AreWithinDepth, HoldRows, IsReadFrom, read_before, read_beside, read_place, sample_in}
use Rattle.av1_inter.specs.declared.block.Moved.{Moved}
use Rattle.av1_inter.proofs.Strips.{part_sample}
use Rattle.av1_calls.specs.Motions.{AreOfDepth, HoldBlock, IsReadWithin, IsSource, filter_along, moved_sample, read_at, read_for, rectangle_at, source_at}
use Rattle.av1_calls.specs.declared.motion.MotionBlock.{MotionBlock}
use Rattle.av1_calls.specs.declared.motion.Place.{Place}

-- what is read for a block, from the first sample on
module _ {T : Type 0} (num : T → ℕ) (from : Place) (block : MotionBlock) (src read : List T) (source : IsSource from block (length src))
    (read_is : read ≡ drop (row_start from.stride (read_for from block) 0) src) where
  there : (y : ℕ) → row_start from.stride (read_for from block) 0 + y * from.stride ≡ row_start from.stride (read_for from block) y
  there y = grind arith

  pub read_long : HoldRows (length read) from.stride (block.width + read_beside block.col_frac) (block.height + read_beside block.row_frac)
  read_long y l =
      let n : ℕ = row_start from.stride (read_for from block) 0 in
      let rest : length (drop n src) ≡ length src - n = grind (arith, places) in
      omega (arith, ap length read_is, rest, there y, source.rows.rows y l)

  pub read_is_at : (x y : ℕ) → sample_in num read from.stride x y ≡ read_at from block (map num src) x y
  read_is_at x y = part_sample num src read (row_start from.stride (read_for from block) 0) (y * from.stride + x) _ read_is (omega (arith, there y))

  pub read_within : (depth : ℕ) → IsReadWithin depth from block (map num src) →
      AreWithinDepth depth (sample_in num read from.stride) (block.width + read_beside block.col_frac) (block.height + read_beside block.row_frac)
  read_within depth within x y h k = subst (λ (n : ℕ). n < 2 ^ depth) (sym (read_is_at x y)) (within x y h k)

  pub read_around : (around : ℕ → ℕ → ℕ) → IsReadFrom block.col_frac block.row_frac block.width block.height (read_at from block (map num src)) around →
      IsReadFrom block.col_frac block.row_frac block.width block.height (sample_in num read from.stride) around
  read_around around same x y h k = read_is_at x y ∙ same x y h k

-- a column or row that is read, counted from 3 before the place
counted : (fraction place x : ℕ) → read_before fraction ≤ place → place - read_before fraction + x ≡ place + read_place fraction x - 3
counted zero place x h = omega arith
counted (suc f) place x h = omega (arith, h)

-- the samples round the block have what is read
pub source_around : (from : Place) (block : MotionBlock) (samples : List ℕ) (n : ℕ) → IsSource from block n →
    IsReadFrom block.col_frac block.row_frac block.width block.height (read_at from block samples) (source_at from samples)
source_around from block samples n source x y h k =
    let columns = counted block.col_frac from.x x source.left in
    let rows = counted block.row_frac from.y y source.top in
    let order : (r : ℕ) → r * from.stride + (from.x - read_before block.col_frac) + x ≡ r * from.stride + (from.x - read_before block.col_frac + x) =
    λ r. omega arith in
    ap (slice_index samples) (order (from.y - read_before block.row_frac + y))
    ∙ ap (λ c. slice_index samples ((from.y - read_before block.row_frac + y) * from.stride + c)) columns
    ∙ ap (λ r. slice_index samples (r * from.stride + (from.x + read_place block.col_frac x - 3))) rows

-- samples of 8 bits
pub below_each : (xs : List ℕ) (n i : ℕ) → 0 < n → ((k : ℕ) → k < length xs → slice_index xs k < n) → slice_index xs i < n
below_each xs n i some all = elim (cases_lt i (length xs)) [
  | inl lt ↦ all i lt
  | inr past ↦ subst (λ (k : ℕ). k < n) (sym (get_or_past xs i 0 past)) some
]

pub bytes_deep : (from : Place) (src : List ℕ) (block : MotionBlock) → ((i : ℕ) → i < length src → slice_index src i < 256) →
    AreOfDepth 8 from (map (λ n. n) src) block
bytes_deep from src block all =
    subst (λ xs. AreOfDepth 8 from xs block) (sym (map-id src)) (record { is_depth = inl refl; within = λ x y h k. below_each src 256 _ (omega arith) all })

-- what holds of a block's fractions and sides holds of them as they are passed on
pub passed_on : (block : MotionBlock) (moved : Moved) (w h : ℕ) → moved.col_frac ≡ block.col_frac → moved.row_frac ≡ block.row_frac → w ≡ block.width →
    h ≡ block.height → (P : (fx fy width height : ℕ) → Type 0) → P block.col_frac block.row_frac block.width block.height →
    P moved.col_frac moved.row_frac w h
passed_on block moved w h ex ey ew eh P held =
    subst (λ n. P moved.col_frac moved.row_frac w n) (sym eh)
    (subst (λ n. P moved.col_frac moved.row_frac n block.height) (sym ew)
    (subst (λ n. P moved.col_frac n block.width block.height) (sym ey)
    (subst (λ n. P n block.row_frac block.width block.height) (sym ex) held)))

-- what is painted of the place that is read is the block
pub put_is : {T : Type 0} (pixel : ℕ → T) (depth : ℕ) (to : Place) (block : MotionBlock) (old new : List T) (area : StoredArea) (moved : Moved)
    (around : ℕ → ℕ → ℕ)
    → area ≡ rectangle_at to block.width block.height → moved.col_frac ≡ block.col_frac → moved.row_frac ≡ block.row_frac
    → moved.mode_x ≡ filter_along block.filter_x block.width → moved.mode_y ≡ filter_along block.filter_y block.height
    → new ≡ paint to.stride area (λ r c _. pixel (single depth moved.col_frac moved.row_frac (filter_of moved.mode_x moved.col_frac area.width)
    (filter_of moved.mode_y moved.row_frac area.height) around r c)) old
    → new ≡ paint to.stride (rectangle_at to block.width block.height) (λ r c _. pixel (moved_sample depth block around r c)) old
put_is pixel depth to block old new area moved around placed ex ey mx my e =
    let P = λ (a : StoredArea) (i j : ℕ) (m n : FilterMode). paint to.stride a
    (λ r c _. pixel (single depth i j (filter_of m i a.width) (filter_of n j a.height) around r c)) old in
    let a : StoredArea = rectangle_at to block.width block.height in
    e ∙ ap (λ b. P b moved.col_frac moved.row_frac moved.mode_x moved.mode_y) placed ∙ ap (λ i. P a i moved.row_frac moved.mode_x moved.mode_y) ex
    ∙ ap (λ j. P a block.col_frac j moved.mode_x moved.mode_y) ey ∙ ap (λ m. P a block.col_frac block.row_frac m moved.mode_y) mx
    ∙ ap (λ n. P a block.col_frac block.row_frac (filter_along block.filter_x block.width) n) my

-- what is prepared of it is the block
pub prep_is : (depth : ℕ) (block : MotionBlock) (before after : List ℤ) (moved : Moved) (around : ℕ → ℕ → ℕ)
    → moved.col_frac ≡ block.col_frac → moved.row_frac ≡ block.row_frac
    → moved.mode_x ≡ filter_along block.filter_x block.width → moved.mode_y ≡ filter_along block.filter_y block.height
    → ((r c : ℕ) → r < block.height → c < block.width →
    entry after (r * block.width + c) ≡ prepared depth moved.col_frac moved.row_frac (filter_of moved.mode_x moved.col_frac block.width)
    (filter_of moved.mode_y moved.row_frac block.height) around r c)
    → ((i : ℕ) → block.height * block.width ≤ i → entry after i ≡ entry before i)
    → HoldBlock depth block around before after
prep_is depth block before after moved around ex ey mx my values others =
    let P = λ (i j : ℕ) (m n : FilterMode) (r c : ℕ). prepared depth i j (filter_of m i block.width) (filter_of n j block.height) around r c in
    record {
      values = λ r c l h. values r c l h
          ∙ ap (λ i. P i moved.row_frac moved.mode_x moved.mode_y r c) ex ∙ ap (λ j. P block.col_frac j moved.mode_x moved.mode_y r c) ey
          ∙ ap (λ m. P block.col_frac block.row_frac m moved.mode_y r c) mx
          ∙ ap (λ n. P block.col_frac block.row_frac (filter_along block.filter_x block.width) n r c) my;
      others = others;
    }

-- samples that were tested before, as they are read
pub tested_deep : (depth : ℕ) (from : Place) (src : List ℕ) (block : MotionBlock) → IsDepth depth → IsReadWithin depth from block src →
    AreOfDepth depth from (map (λ n. n) src) block
tested_deep depth from src block is_depth within =
    subst (λ xs. AreOfDepth depth from xs block) (sym (map-id src)) (record { is_depth = is_depth; within = within })
