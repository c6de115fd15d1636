-- The luma that chroma from luma reads is written.
use Rattle.std.proofs.Common.{◌≡◌, ℕ, zero, suc, ◌+◌, ◌-◌, ◌*◌, ◌/◌, ◌%◌, ◌^◌, ◌<◌, ◌≤◌, ◌⊎◌, max, Bool, true, false, not, ◌&&◌, ◌||◌, eqb, List, [], ◌∷◌, ◌++◌}
use Rattle.std.proofs.Common.{Option, None, Some, inl, inr, refl, sym, subst, ◌∙◌, ap, arith}
use Rattle.std.specs.Prelude.{nat_lt, nat_le, if◌then◌else◌, ◌==◌}
use Rattle.std.proofs.Math.Nat.{mul-add-mod_self_right, mod-eq_of_lt, mul-le-mul_right, mul-div-mul_left, mul_comm}
use Rattle.std.proofs.Math.Pow.{pow_mono}
use Rattle.std.proofs.lemmas.Bool.{and_parts, cases_lt, lt-ltb, ltb-true, true≢false}
use Rattle.std.proofs.lemmas.Bool.Decides.{nat_tests}
use Rattle.std.proofs.lemmas.Nat.{div-mul-add, pow_below, pow_pos}
use Rattle.av1_blocks.specs.declared.partition.BlockSize.{BlockSize}
use Rattle.av1_blocks.specs.declared.partition.BlockSize.TheVariants.{BLOCK_4X4}
use Rattle.av1_blocks.specs.declared.transform.TxSize.{TxSize}
use Rattle.av1_blocks.specs.declared.transform.TxSize.TheVariants.{TX_4X4}
use Rattle.av1_blocks.specs.Blocks.{block_width, block_height, side_log2}
use Rattle.av1_blocks.specs.Transforms.{tx_width, tx_height}
use Rattle.av1_plan.specs.declared.geometry.PlaneArea.{PlaneArea}
use Rattle.av1_plan.specs.declared.geometry.TransformBlock.{TransformBlock}
use Rattle.av1_plan.specs.declared.header.Header.{Header}
use Rattle.av1_plan.specs.CodingOrder.{IsOnGrid, IsQuarterInside, cells_of}
use Rattle.av1_plan.specs.Geometry.{xdec, ydec, block_at, block_count, blocks_across, carries_chroma, covers_plane, has_block, is_inside, plane_area}
use Rattle.av1_plan.specs.Geometry.{coded_width, coded_height}
use Rattle.av1_plan.specs.Geometry.{plane_height, plane_place, plane_size, plane_tx_size, plane_width, transform_block}
use Rattle.av1_plan.specs.Plan.{LeafValue}
use Rattle.av1_plan.proofs.ValidLeaves.{IsValidLeaf, fitting_transforms}
use Rattle.av1_order.specs.ChromaFromLuma.{LumaIsWritten, ReadsWritten, luma_place}
use Rattle.av1_order.specs.Plans.{IsWholeFrame, steps_in}
use Rattle.av1_order.specs.Turns.{IsCodedPlan, is_written, leaves_steps}
use Rattle.av1_order.proofs.Cuts.{cut_grid, cut_on_grid, cut_valid, steps_with, written_at_turn}
use Rattle.av1_order.proofs.Edges.{covered-append}
use Rattle.av1_order.proofs.Halved.{last}
use Rattle.av1_order.proofs.Neighbours.{near_starts, whole_cells}
use Rattle.av1_order.proofs.PlanEdges.{visible_in}
use Rattle.av1_order.proofs.Plans.{halved_x, halved_y, in_plane_block}
use Rattle.av1_order.proofs.Rectangles.{placed as held}
use Rattle.av1_order.proofs.Sizes.{divides, tx_some}
use Rattle.av1_order.proofs.Units.{whole_multiple}
use Rattle.av1_order.proofs.WholeAreas.{blocks_written, row_within}
use Rattle.av1_order.proofs.Choices.{first_true, second_true}

-- ---- along one direction

-- what is read there: no further than the leaf goes; in the leaf only what begins in the frame; and before the leaf only where its side is 4
pub record Reads (s side place frame tx c i : ℕ) : Type 0 where
  pub ends : luma_place s side place frame tx c i < place + side
  pub coded : place ≤ luma_place s side place frame tx c i → place + (luma_place s side place frame tx c i - place) / tx * tx < frame
  pub before : luma_place s side place frame tx c i < place → side ≡ 4

-- over the logarithms of the leaf's side and of the transform's, less 2
reads : (s k j place frame c i : ℕ) → s ≤ 1 → k ≤ 3 → j ≤ k → place % (4 * 2 ^ k) ≡ 0 → frame % 8 ≡ 0 → place < frame → (s ≡ 1 → k ≡ 0 → place / 4 % 2 ≡ 1)
    → c < 4 * (max (4 * 2 ^ k / 4) (2 ^ s) / 2 ^ s) → i < 2 ^ s → Reads s (4 * 2 ^ k) place frame (4 * 2 ^ j) c i
reads zero zero zero place frame c i hs hk hj at whole lt odd hc hi = record { ends = omega arith; coded = λ e. omega arith; before = λ e. refl }
reads zero (suc zero) zero place frame c i hs hk hj at whole lt odd hc hi =
    record { ends = omega arith; coded = λ e. omega arith; before = λ e. absurd (omega arith) }
reads zero (suc zero) (suc zero) place frame c i hs hk hj at whole lt odd hc hi =
    record { ends = omega arith; coded = λ e. omega arith; before = λ e. absurd (omega arith) }
reads zero (suc (suc zero)) zero place frame c i hs hk hj at whole lt odd hc hi =
    record { ends = omega arith; coded = λ e. omega arith; before = λ e. absurd (omega arith) }
reads zero (suc (suc zero)) (suc zero) place frame c i hs hk hj at whole lt odd hc hi =
    record { ends = omega arith; coded = λ e. omega arith; before = λ e. absurd (omega arith) }
reads zero (suc (suc zero)) (suc (suc zero)) place frame c i hs hk hj at whole lt odd hc hi =
    record { ends = omega arith; coded = λ e. omega arith; before = λ e. absurd (omega arith) }
reads zero (suc (suc (suc zero))) zero place frame c i hs hk hj at whole lt odd hc hi =
    record { ends = omega arith; coded = λ e. omega arith; before = λ e. absurd (omega arith) }
reads zero (suc (suc (suc zero))) (suc zero) place frame c i hs hk hj at whole lt odd hc hi =
    record { ends = omega arith; coded = λ e. omega arith; before = λ e. absurd (omega arith) }
reads zero (suc (suc (suc zero))) (suc (suc zero)) place frame c i hs hk hj at whole lt odd hc hi =
    record { ends = omega arith; coded = λ e. omega arith; before = λ e. absurd (omega arith) }
reads zero (suc (suc (suc zero))) (suc (suc (suc zero))) place frame c i hs hk hj at whole lt odd hc hi =
    record { ends = omega arith; coded = λ e. omega arith; before = λ e. absurd (omega arith) }
reads (suc zero) zero zero place frame c i hs hk hj at whole lt odd hc hi = let o : place / 4 % 2 ≡ 1 = odd refl refl
    in record { ends = omega arith; coded = λ e. omega arith; before = λ e. refl }
reads (suc zero) (suc zero) zero place frame c i hs hk hj at whole lt odd hc hi =
    record { ends = omega arith; coded = λ e. omega arith; before = λ e. absurd (omega arith) }
reads (suc zero) (suc zero) (suc zero) place frame c i hs hk hj at whole lt odd hc hi =
    record { ends = omega arith; coded = λ e. omega arith; before = λ e. absurd (omega arith) }
reads (suc zero) (suc (suc zero)) zero place frame c i hs hk hj at whole lt odd hc hi =
    record { ends = omega arith; coded = λ e. omega arith; before = λ e. absurd (omega arith) }
reads (suc zero) (suc (suc zero)) (suc zero) place frame c i hs hk hj at whole lt odd hc hi =
    record { ends = omega arith; coded = λ e. omega arith; before = λ e. absurd (omega arith) }
reads (suc zero) (suc (suc zero)) (suc (suc zero)) place frame c i hs hk hj at whole lt odd hc hi =
    record { ends = omega arith; coded = λ e. omega arith; before = λ e. absurd (omega arith) }
reads (suc zero) (suc (suc (suc zero))) zero place frame c i hs hk hj at whole lt odd hc hi =
    record { ends = omega arith; coded = λ e. omega arith; before = λ e. absurd (omega arith) }
reads (suc zero) (suc (suc (suc zero))) (suc zero) place frame c i hs hk hj at whole lt odd hc hi =
    record { ends = omega arith; coded = λ e. omega arith; before = λ e. absurd (omega arith) }
reads (suc zero) (suc (suc (suc zero))) (suc (suc zero)) place frame c i hs hk hj at whole lt odd hc hi =
    record { ends = omega arith; coded = λ e. omega arith; before = λ e. absurd (omega arith) }
reads (suc zero) (suc (suc (suc zero))) (suc (suc (suc zero))) place frame c i hs hk hj at whole lt odd hc hi =
    record { ends = omega arith; coded = λ e. omega arith; before = λ e. absurd (omega arith) }
reads zero zero (suc j) place frame c i hs hk hj at whole lt odd hc hi = absurd (omega arith)
reads zero (suc zero) (suc (suc j)) place frame c i hs hk hj at whole lt odd hc hi = absurd (omega arith)
reads zero (suc (suc zero)) (suc (suc (suc j))) place frame c i hs hk hj at whole lt odd hc hi = absurd (omega arith)
reads zero (suc (suc (suc zero))) (suc (suc (suc (suc j)))) place frame c i hs hk hj at whole lt odd hc hi = absurd (omega arith)
reads zero (suc (suc (suc (suc k)))) j place frame c i hs hk hj at whole lt odd hc hi = absurd (omega arith)
reads (suc zero) zero (suc j) place frame c i hs hk hj at whole lt odd hc hi = absurd (omega arith)
reads (suc zero) (suc zero) (suc (suc j)) place frame c i hs hk hj at whole lt odd hc hi = absurd (omega arith)
reads (suc zero) (suc (suc zero)) (suc (suc (suc j))) place frame c i hs hk hj at whole lt odd hc hi = absurd (omega arith)
reads (suc zero) (suc (suc (suc zero))) (suc (suc (suc (suc j)))) place frame c i hs hk hj at whole lt odd hc hi = absurd (omega arith)
reads (suc zero) (suc (suc (suc (suc k)))) j place frame c i hs hk hj at whole lt odd hc hi = absurd (omega arith)
reads (suc (suc s)) k j place frame c i hs hk hj at whole lt odd hc hi = absurd (omega arith)

sides_power : (size : BlockSize) → (block_width size ≡ 4 * 2 ^ (side_log2 (block_width size) - 2)) ×
    (block_height size ≡ 4 * 2 ^ (side_log2 (block_height size) - 2))
sides_power BLOCK_4X4 = (refl, refl)
sides_power _ = (refl, refl)

tx_power : (t : TxSize) → (tx_width t ≡ 4 * 2 ^ (side_log2 (tx_width t) - 2)) × (tx_height t ≡ 4 * 2 ^ (side_log2 (tx_height t) - 2))
tx_power TX_4X4 = (refl, refl)
tx_power _ = (refl, refl)

log_small : (n k : ℕ) → n ≡ 4 * 2 ^ k → n ≤ 32 → k ≤ 3
log_small n k e le =
    elim (cases_lt 3 k) [
      | inl more ↦ absurd (let p = pow_mono {i = 4} {j = k} (omega arith) in omega arith)
      | inr less ↦ less
    ]

log_most_one : (n k : ℕ) → n ≡ 4 * 2 ^ k → n ≤ 8 → k ≤ 1
log_most_one n k e le =
    elim (cases_lt 1 k) [
      | inl more ↦ absurd (let p = pow_mono {i = 2} {j = k} (omega arith) in omega arith)
      | inr less ↦ less
    ]

log_below : (m n j k : ℕ) → m ≡ 4 * 2 ^ j → n ≡ 4 * 2 ^ k → m ≤ n → j ≤ k
log_below m n j k em en le =
    elim (cases_lt k j) [
      | inl more ↦ absurd (let p = pow_below k j more in omega arith)
      | inr less ↦ less
    ]

reads_at : (s side tx k j place frame c i : ℕ) → side ≡ 4 * 2 ^ k → tx ≡ 4 * 2 ^ j → s ≤ 1 → side ≤ 32 → tx ≤ side → place % side ≡ 0 → frame % 8 ≡ 0 →
    place < frame
    → (s ≡ 1 → side ≡ 4 → place / 4 % 2 ≡ 1) → c < 4 * (max (side / 4) (2 ^ s) / 2 ^ s) → i < 2 ^ s → Reads s side place frame tx c i
reads_at s side tx k j place frame c i es et hs small fits at whole lt odd hc hi =
    let P : ℕ → Type 0 = λ n. (place % n ≡ 0) → (s ≡ 1 → n ≡ 4 → place / 4 % 2 ≡ 1) → c < 4 * (max (n / 4) (2 ^ s) / 2 ^ s) → Reads s n place frame tx c i in
    subst P (sym es)
    (λ at' odd' hc'. subst (λ m. Reads s (4 * 2 ^ k) place frame m c i) (sym et)
    (reads s k j place frame c i hs (log_small side k es small) (log_below tx side j k et es fits) at' whole lt (λ e f. odd' e (ap (λ z. 4 * 2 ^ z) f)) hc' hi))
    at odd hc

-- a short side lies in the frame with its place
fits_inside : (k place frame : ℕ) → k ≤ 1 → place % (4 * 2 ^ k) ≡ 0 → frame % 8 ≡ 0 → place < frame → place + 4 * 2 ^ k ≤ frame
fits_inside zero place frame h at whole lt = omega arith
fits_inside (suc zero) place frame h at whole lt = omega arith
fits_inside (suc (suc k)) place frame h at whole lt = absurd (omega arith)

-- a size whose one side is 4 has another of at most 8, or one that is four times as long
narrow_sizes : (size : BlockSize)
    → ((not (eqb (block_width size) 4) || nat_le (block_height size) 8 || eqb (block_height size) (4 * block_width size)) ≡ true)
    × ((not (eqb (block_height size) 4) || nat_le (block_width size) 8 || eqb (block_width size) (4 * block_height size)) ≡ true)
narrow_sizes BLOCK_4X4 = (refl, refl)
narrow_sizes _ = (refl, refl)

long_side : (w t : ℕ) → (not (eqb w 4) || nat_le t 8 || eqb t (4 * w)) ≡ true → w ≡ 4 → 8 < t → t ≡ 4 * w
long_side w t e four long = grind (arith, nat_tests)

-- the side beside one of 4 ends in the frame
beside_four : (w t k place frame : ℕ) → (not (eqb w 4) || nat_le t 8 || eqb t (4 * w)) ≡ true → w ≡ 4 → t ≡ 4 * 2 ^ k → place % t ≡ 0 → frame % 8 ≡ 0 →
    place < frame
    → (t ≡ 4 * w → place + t ≤ frame) → place + t ≤ frame
beside_four w t k place frame e four power at whole lt quarter =
    elim (cases_lt 8 t) [
      | inl long ↦ quarter (long_side w t e four long)
      | inr short ↦
          let P : ℕ → Type 0 = λ n. place % n ≡ 0 → place + n ≤ frame in
          subst P (sym power) (λ at'. fits_inside k place frame (log_most_one t k power short) at' whole lt) at
    ]

-- ---- the leaf's own luma

passes : (a b c : Bool) (v : TransformBlock) → a ≡ true → b ≡ true → c ≡ true → (if a && b && c then Some v else None) ≡ Some v
passes true true true v e f g = refl
passes true true false v e f g = absurd (true≢false (sym g))
passes true false c v e f g = absurd (true≢false (sym f))
passes false b c v e f g = absurd (true≢false (sym e))

in_count : (r A c R : ℕ) → c < A → r < R → r * A + c < A * R
in_count r A c R hc hr = let p : (r + 1) * A ≤ R * A = mul-le-mul_right A (omega arith) in omega (arith, p, mul_comm A R)

-- the block in column c and row r of blocks
block_there : (h : Header) (p : ℕ) (a : PlaneArea) (c r : ℕ) → c < blocks_across a → r < block_height a.size / tx_height a.tx_size
    → a.x + c * tx_width a.tx_size < plane_width h p → a.y + r * tx_height a.tx_size < plane_height h p
    → transform_block h p a (r * blocks_across a + c) ≡ Some (record { x = a.x + c * tx_width a.tx_size; y = a.y + r * tx_height a.tx_size })
unfolding transform_block has_block block_at block_count
block_there h p a c r hc hr in_x in_y =
    let across = blocks_across a in
    let n = r * across + c in
    let row : n / across ≡ r = div-mul-add r across c hc in
    let column : n % across ≡ c = mul-add-mod_self_right r across c ∙ mod-eq_of_lt hc in
    let spot : TransformBlock = record { x = a.x + c * tx_width a.tx_size; y = a.y + r * tx_height a.tx_size } in
    let made : ℕ → ℕ → TransformBlock = λ m k. record { x = a.x + m * tx_width a.tx_size; y = a.y + k * tx_height a.tx_size } in
    let found : ℕ → ℕ → Option TransformBlock = λ m k.
    if nat_lt n (across * (block_height a.size / tx_height a.tx_size)) && nat_lt (made m k).x (plane_width h p)
    && nat_lt (made m k).y (plane_height h p) then Some (made m k) else None in
    ap (λ m. found m (n / across)) column ∙ ap (λ k. found c k) row
    ∙ passes (nat_lt n (across * (block_height a.size / tx_height a.tx_size))) (nat_lt spot.x (plane_width h p)) (nat_lt spot.y (plane_height h p)) spot
    (lt-ltb n _ (in_count r across c (block_height a.size / tx_height a.tx_size) hc hr)) (lt-ltb spot.x (plane_width h p) in_x)
    (lt-ltb spot.y (plane_height h p) in_y)

pub luma_width : (h : Header) → plane_width h 0 ≡ coded_width h
unfolding plane_width xdec
luma_width h = omega arith

pub luma_height : (h : Header) → plane_height h 0 ≡ coded_height h
unfolding plane_height ydec
luma_height h = omega arith

-- transforms fill a side that they fit in
fills : (m n k j : ℕ) → m ≡ 4 * 2 ^ k → n ≡ 4 * 2 ^ j → n ≤ m → m / n * n ≡ m
fills m n k j em en le =
    let a = 2 ^ k in
    let b = 2 ^ j in
    let some : 0 < b = pow_pos j in
    let many : m / n ≡ a / b = ap (λ z. z / n) em ∙ ap (λ z. 4 * a / z) en ∙ mul-div-mul_left {m = 4} a b (omega arith) in
    let whole : a / b * b ≡ a = whole_multiple a b some (divides k j (pow_mono (log_below n m j k en em le))) in
    ap (λ z. z * n) many ∙ ap (λ z. a / b * z) en ∙ four_times (a / b) b a whole ∙ sym em
  where
    four_times : (q b a : ℕ) → q * b ≡ a → q * (4 * b) ≡ 4 * a
    four_times q b a e = omega (arith, e)

column_in : (x at w n side : ℕ) → at ≤ x → x < at + side → side / w * w ≡ side → n ≡ (x - at) / w → n < side / w
column_in x at w n side lo hi e en = subst (λ m. m < side / w) (sym en) (row_within (x - at) (side / w) w (omega (arith, e)))

held_at : (x at w n : ℕ) → at ≤ x → 0 < w → n ≡ (x - at) / w → (at + n * w ≤ x) × (x < at + n * w + w)
held_at x at w n lo pos en =
    let whole : w * ((x - at) / w) + (x - at) % w ≡ x - at = omega arith in
    let rest : (x - at) % w < w = omega arith in
    let turned : n * w ≡ w * ((x - at) / w) = ap (λ m. m * w) en ∙ mul_comm ((x - at) / w) w in
    omega (arith, whole, rest, turned)

module _ (h : Header) (l : LeafValue) (frame : IsWholeFrame h) (grid : IsOnGrid h l) (valid : IsValidLeaf h l) where
  -- what lies in a transform block of the leaf that begins in the frame is written
  own_written : (x y : ℕ) → l.x ≤ x → x < l.x + block_width l.size → l.y ≤ y → y < l.y + block_height l.size
      → l.x + (x - l.x) / tx_width l.tx_size * tx_width l.tx_size < coded_width h → l.y + (y - l.y) / tx_height l.tx_size * tx_height l.tx_size < coded_height h
      → is_written h 0 (steps_in h 0 l) x y ≡ true
  unfolding plane_area plane_place plane_size plane_tx_size xdec ydec covers_plane blocks_across
  own_written x y x0 x1 y0 y1 in_x in_y =
      let w = tx_width l.tx_size in
      let t = tx_height l.tx_size in
      let c = (x - l.x) / w in
      let r = (y - l.y) / t in
      let fits = fitting_transforms h l valid in
      let sides = sides_power l.size in
      let txs = tx_power l.tx_size in
      let some = tx_some l.tx_size in
      let across = fills (block_width l.size) w (side_log2 (block_width l.size) - 2) (side_log2 w - 2) sides.0 txs.0 fits.width in
      let along = fills (block_height l.size) t (side_log2 (block_height l.size) - 2) (side_log2 t - 2) sides.1 txs.1 fits.height in
      let at = block_there h 0 (plane_area h l.x l.y l.size l.tx_size 0) c r (column_in x l.x w c (block_width l.size) x0 x1 across refl)
      (column_in y l.y t r (block_height l.size) y0 y1 along refl) (omega (arith, luma_width h, in_x)) (omega (arith, luma_height h, in_y)) in
      let columns = held_at x l.x w c x0 (omega (arith, some.0)) refl in
      let rows = held_at y l.y t r y0 (omega (arith, some.1)) refl in
      blocks_written h 0 l frame grid valid refl (r * (block_width l.size / w) + c) (record { x = l.x + c * w; y = l.y + r * t }) at x y
      (held x y (l.x + c * w) (l.y + r * t) w t (record { left = columns.0; right = columns.1; top = rows.0; bottom = rows.1 }))

-- ---- the luma of the leaf and of those before it

last_luma_x : (h : Header) (t : ℕ) → last (xdec h 0) t ≡ t
unfolding xdec
last_luma_x h t = omega arith

last_luma_y : (h : Header) (t : ℕ) → last (ydec h 0) t ≡ t
unfolding ydec
last_luma_y h t = omega arith

in_cells_below : (x at side : ℕ) → at % 4 ≡ 0 → side % 4 ≡ 0 → x < at + side → x / 4 < at / 4 + side / 4
in_cells_below x at side e f lt = omega arith

in_cells_before : (x at : ℕ) → at % 4 ≡ 0 → x < at → x / 4 < at / 4
in_cells_before x at e lt = omega arith

module _ (h : Header) (earlier : List LeafValue) (l : LeafValue) (later : List LeafValue) (is : IsCodedPlan h 0 (earlier ++ l ∷ later))
    (quarter : IsQuarterInside h l) where
  grid : IsOnGrid h l
  grid = cut_grid h 0 earlier l later is

  valid : IsValidLeaf h l
  valid = cut_valid h 0 earlier l later is

  inside : (l.x < coded_width h) × (l.y < coded_height h)
  unfolding is_inside
  inside =
      let (column, row) = and_parts (nat_lt l.x (coded_width h)) (nat_lt l.y (coded_height h)) grid.within in
      (ltb-true l.x (coded_width h) column, ltb-true l.y (coded_height h) row)

  -- before the leaf
  near_written : (x y : ℕ) → x < l.x + block_width l.size → y < l.y + block_height l.size → (x < l.x) ⊎ (y < l.y) → x < coded_width h → y < coded_height h
      → is_written h 0 (leaves_steps h 0 earlier) x y ≡ true
  near_written x y x1 y1 near in_x in_y =
      let cells = whole_cells l.size in
      let ex = last_luma_x h (x / 4) in
      let ey = last_luma_y h (y / 4) in
      let column = in_cells_below x l.x (block_width l.size) grid.cell_x cells.0 x1 in
      let row = in_cells_below y l.y (block_height l.size) grid.cell_y cells.1 y1 in
      written_at_turn h 0 earlier l later is x y (visible_in h 0 is.frame x y (omega (arith, luma_width h, in_x)) (omega (arith, luma_height h, in_y)))
      ∙ near_starts (cells_of l) (cut_on_grid h 0 earlier l later is) (last (xdec h 0) (x / 4)) (last (ydec h 0) (y / 4)) (omega (arith, ex, column))
      (omega (arith, ey, row))
      (elim near [
        | inl o ↦ inl (let p = in_cells_before x l.x grid.cell_x o in omega (arith, ex, p))
        | inr o ↦ inr (let p = in_cells_before y l.y grid.cell_y o in omega (arith, ey, p))
      ])

  ends_down : block_width l.size ≡ 4 → l.y + block_height l.size ≤ coded_height h
  ends_down four =
      beside_four (block_width l.size) (block_height l.size)
      (side_log2 (block_height l.size) - 2) l.y (coded_height h) (narrow_sizes l.size).0 four (sides_power l.size).1 grid.side_y is.frame.height
      inside.1 quarter.high

  ends_across : block_height l.size ≡ 4 → l.x + block_width l.size ≤ coded_width h
  ends_across four =
      beside_four (block_height l.size) (block_width l.size)
      (side_log2 (block_width l.size) - 2) l.x (coded_width h) (narrow_sizes l.size).1 four (sides_power l.size).0 grid.side_x is.frame.width
      inside.0 quarter.wide

  -- what is read in each direction
  luma_written : (x y : ℕ) → x < l.x + block_width l.size → y < l.y + block_height l.size
      → (l.x ≤ x → l.x + (x - l.x) / tx_width l.tx_size * tx_width l.tx_size < coded_width h) →
      (l.y ≤ y → l.y + (y - l.y) / tx_height l.tx_size * tx_height l.tx_size < coded_height h)
      → (x < l.x → block_width l.size ≡ 4) → (y < l.y → block_height l.size ≡ 4) → is_written h 0 (leaves_steps h 0 (earlier ++ l ∷ [])) x y ≡ true
  luma_written x y x1 y1 coded_x coded_y before_x before_y =
      ap (λ ss. is_written h 0 ss x y) (steps_with h 0 earlier l later is)
      ∙ covered-append (xdec h 0) (ydec h 0) (leaves_steps h 0 earlier) (steps_in h 0 l) x y
      ∙ go (cases_lt x l.x) (cases_lt y l.y)
    where
      go : (x < l.x) ⊎ (l.x ≤ x) → (y < l.y) ⊎ (l.y ≤ y) → (is_written h 0 (leaves_steps h 0 earlier) x y || is_written h 0 (steps_in h 0 l) x y) ≡ true
      go (inl o) (inl o') =
          first_true _ _ (near_written x y x1 y1 (inl o) (omega (arith, inside.0)) (omega (arith, inside.1)))
      go (inl o) (inr o') =
          first_true _ _ (near_written x y x1 y1 (inl o) (omega (arith, inside.0)) (omega (arith, ends_down (before_x o))))
      go (inr o) (inl o') =
          first_true _ _ (near_written x y x1 y1 (inr o') (omega (arith, ends_across (before_y o'))) (omega (arith, inside.1)))
      go (inr o) (inr o') =
          second_true _ _ (own_written h l is.frame grid valid x y o x1 o' y1 (coded_x o) (coded_y o'))

  -- a leaf that carries chroma stands at an odd cell where its side is 4 and the direction halved
  odd_axis : (s side at : ℕ) → not (s == 1 && side == 4 && at % 2 == 0) ≡ true → s ≡ 1 → side ≡ 4 → at % 2 ≡ 1
  odd_axis s side at e es ew = grind (arith, nat_tests)

  odd_cells : carries_chroma h l.x l.y l.size ≡ true
      → (xdec h 1 ≡ 1 → block_width l.size ≡ 4 → l.x / 4 % 2 ≡ 1) × (ydec h 1 ≡ 1 → block_height l.size ≡ 4 → l.y / 4 % 2 ≡ 1)
  unfolding carries_chroma
  odd_cells carried =
      let p = and_parts (not (xdec h 1 == 1 && block_width l.size == 4 && l.x / 4 % 2 == 0))
      (not (ydec h 1 == 1 && block_height l.size == 4 && l.y / 4 % 2 == 0)) carried in
      (odd_axis (xdec h 1) (block_width l.size) (l.x / 4) p.0, odd_axis (ydec h 1) (block_height l.size) (l.y / 4) p.1)

  reads_written : carries_chroma h l.x l.y l.size ≡ true → block_width l.size ≤ 32 → block_height l.size ≤ 32
      → (c r : ℕ) → c < block_width (plane_size h l.size 1) → r < block_height (plane_size h l.size 1) → ReadsWritten h l (earlier ++ l ∷ []) c r
  unfolding plane_size
  reads_written carried narrow short c r hc hr i j hi hj =
      let low : ydec h 1 ≤ 1 = omega (arith, halved_x h 1, halved_y h 1) in
      let fits = fitting_transforms h l valid in
      let odd = odd_cells carried in
      let sides = in_plane_block h l.size 1 valid.size in
      let x = reads_at (xdec h 1) (block_width l.size) (tx_width l.tx_size) (side_log2 (block_width l.size) - 2)
      (side_log2 (tx_width l.tx_size) - 2) l.x (coded_width h) c i
      (sides_power l.size).0 (tx_power l.tx_size).0 (halved_x h 1) narrow fits.width grid.side_x is.frame.width inside.0 odd.0
      (subst (λ n. c < n) sides.width hc) hi in
      let y = reads_at (ydec h 1) (block_height l.size) (tx_height l.tx_size) (side_log2 (block_height l.size) - 2)
      (side_log2 (tx_height l.tx_size) - 2) l.y (coded_height h) r j
      (sides_power l.size).1 (tx_power l.tx_size).1 low short fits.height grid.side_y is.frame.height inside.1 odd.1 (subst (λ n. r < n) sides.height hr) hj in
      luma_written _ _ x.ends y.ends x.coded y.coded x.before y.before

pub luma_is_written : LumaIsWritten
luma_is_written h earlier l later is carried narrow short quarter c r hc hr = reads_written h earlier l later is quarter carried narrow short c r hc hr
