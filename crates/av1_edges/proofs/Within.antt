-- Edges of samples within a depth lie within it.
use Rattle.std.proofs.Common.{ℕ, zero, suc, ◌+◌, ◌-◌, ◌^◌, ◌<◌, ◌≤◌, ◌≡◌, Bool, true, false, ◌&&◌, cond, min, ltb, arith, inl, inr, lit<}
use Rattle.std.proofs.lemmas.Bool.Decides.{nat_tests}
use Rattle.std.proofs.lemmas.Bool.{cases_lt}
use Rattle.av1_lists.proofs.Lists.{by_index-all}
use Rattle.av1_blocks.specs.declared.transform.TxSize.{TxSize}
use Rattle.av1_blocks.specs.declared.transform.TxSize.TheVariants.{TX_4X4}
use Rattle.av1_blocks.specs.Transforms.{tx_width, tx_height}
use Rattle.av1_frame.specs.declared.plane_region.PlaneRegion.{PlaneRegion}
use Rattle.av1_frame.proofs.Depths.{half_depth, pow_le}
use Rattle.av1_frame.proofs.Within.{chosen_below}
use Rattle.av1_edges.specs.declared.parts.Parts.{Parts}
use Rattle.av1_edges.specs.declared.position.TransformPosition.{TransformPosition}
use Rattle.av1_edges.specs.Sides.{base, num_avail, above_at, left_at, corner_at, smoothed}
use Rattle.av1_edges.specs.Edges.{region_sample, visible_columns, visible_rows, edge_of_parts, above_places, left_places, num_avail_above, num_avail_left}
use Rattle.av1_edges.specs.Edges.{has_above_right, has_below_left}
use Rattle.av1_edges.specs.Within.{EdgeIsWithin}

-- ---- half of the range, and what stands in for samples that are not there

pub base_within : (depth : ℕ) → 8 ≤ depth → base depth + 1 < 2 ^ depth
base_within depth deep = omega (arith, half_depth depth deep, pow_le 8 depth deep)

pub smoothed_within : (left corner above bound : ℕ) → left < bound → corner < bound → above < bound → smoothed left corner above < bound
smoothed_within left corner above bound a b c = omega arith

-- ---- the places round a block

module _ (sample : ℕ → ℕ → ℕ) (depth width height : ℕ) (deep : 8 ≤ depth) (within : (x y : ℕ) → x < width → y < height → sample x y < 2 ^ depth) where
  pub above_within : (x y n j : ℕ) → x < width → y < height → 0 < n → x + n ≤ width → above_at sample (base depth) x y n j < 2 ^ depth
  above_within x y n j column row some inside = elim (cases_lt 0 y) [
    | inl b ↦ (let t : ltb 0 y ≡ true = grind (arith, nat_tests) in rw t (within (x + min j (n - 1)) (y - 1) (omega arith) (omega arith)))
    | inr b ↦ (let t : ltb 0 y ≡ false = grind (arith, nat_tests) in rw t (elim (cases_lt 0 x) [
      | inl c ↦ (let u : ltb 0 x ≡ true = grind (arith, nat_tests) in rw u (within (x - 1) 0 (omega arith) (omega arith)))
      | inr c ↦ (let u : ltb 0 x ≡ false = grind (arith, nat_tests) in rw u (omega (arith, base_within depth deep)))
    ]))
  ]

  pub left_within : (x y n i : ℕ) → x < width → y < height → 0 < n → y + n ≤ height → left_at sample (base depth) x y n i < 2 ^ depth
  left_within x y n i column row some inside = elim (cases_lt 0 x) [
    | inl b ↦ (let t : ltb 0 x ≡ true = grind (arith, nat_tests) in rw t (within (x - 1) (y + min i (n - 1)) (omega arith) (omega arith)))
    | inr b ↦ (let t : ltb 0 x ≡ false = grind (arith, nat_tests) in rw t (elim (cases_lt 0 y) [
      | inl c ↦ (let u : ltb 0 y ≡ true = grind (arith, nat_tests) in rw u (within 0 (y - 1) (omega arith) (omega arith)))
      | inr c ↦ (let u : ltb 0 y ≡ false = grind (arith, nat_tests) in rw u (omega (arith, base_within depth deep)))
    ]))
  ]

  pub corner_within : (x y : ℕ) → x < width → y < height → corner_at sample (base depth) x y < 2 ^ depth
  corner_within zero zero column row = omega (arith, base_within depth deep)
  corner_within (suc x) zero column row = within x 0 (omega arith) (omega arith)
  corner_within zero (suc y) column row = within 0 y (omega arith) (omega arith)
  corner_within (suc x) (suc y) column row = within x y (omega arith) (omega arith)

-- ---- how many samples of a side are available

pub some_available : (limit first count run : ℕ) (goes_on : Bool) → first < limit → 0 < count → 0 < num_avail limit first count goes_on run
some_available limit first count run true h s = omega arith
some_available limit first count run false h s = omega arith

pub available_inside : (limit first count run : ℕ) (goes_on : Bool) → first < limit → first + num_avail limit first count goes_on run ≤ limit
available_inside limit first count run true h = omega arith
available_inside limit first count run false h = omega arith

-- ---- a prepared edge

tx_some : (size : TxSize) → (0 < tx_width size) × (0 < tx_height size)
tx_some size = elim size as (λ s. (0 < tx_width s) × (0 < tx_height s)) [ TX_4X4 ↦ (lit< tt, lit< tt) | _ ↦ (lit< tt, lit< tt) ]

pub prepared_within : {T : Type 0} (num : T → ℕ) (r : PlaneRegion T) (at : TransformPosition) (depth : ℕ) (parts : Parts) → 8 ≤ depth
    → at.x < visible_columns r → at.y < visible_rows r
    → ((x y : ℕ) → x < visible_columns r → y < visible_rows r → region_sample num r x y < 2 ^ depth)
    → EdgeIsWithin depth (edge_of_parts num r at depth parts)
unfolding edge_of_parts
prepared_within num r at depth parts deep column row within =
    let sample = region_sample num r in
    let w = visible_columns r in
    let h = visible_rows r in
    let run = min (tx_width at.tx_size) (tx_height at.tx_size) in
    let right = parts.above_right && has_above_right r at in
    let below = parts.below_left && has_below_left r at in
    let n = num_avail_above r at right in
    let m = num_avail_left r at below in
    let above : (j : ℕ) → above_at sample (base depth) at.x at.y n j < 2 ^ depth =
    λ j. above_within sample depth w h deep within at.x at.y n j column row
    (some_available w at.x (tx_width at.tx_size) run right column (tx_some at.tx_size).0) (available_inside w at.x (tx_width at.tx_size) run right column) in
    let left : (i : ℕ) → left_at sample (base depth) at.x at.y m i < 2 ^ depth =
    λ i. left_within sample depth w h deep within at.x at.y m i column row
    (some_available h at.y (tx_height at.tx_size) run below row (tx_some at.tx_size).1) (available_inside h at.y (tx_height at.tx_size) run below row) in
    let corner : cond parts.corner (corner_at sample (base depth) at.x at.y) (base depth) < 2 ^ depth =
    chosen_below parts.corner _ _ _ (corner_within sample depth w h deep within at.x at.y column row) (omega (arith, base_within depth deep)) in
    record {
      above = by_index-all (λ k. k < 2 ^ depth) (above_places parts at.tx_size) _ (λ j l. above j);
      left = by_index-all (λ k. k < 2 ^ depth) (left_places parts at.tx_size) _ (λ i l. left i);
      corner = chosen_below parts.smoothed _ _ _ (smoothed_within _ _ _ _ (left 0) corner (above 0)) corner;
    }
