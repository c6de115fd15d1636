-- The parts of an edge where they stand in a buffer.
use Rattle.std.proofs.Common.{ℕ, ◌+◌, ◌-◌, ◌≡◌, List, ◌++◌, length, get_or, map, reverse, ◌<◌, ap, arith, ◌∙◌, sym, Bool, true, false, ◌&&◌, cond}
use Rattle.std.proofs.lemmas.List.{length-append, append_assoc}
use Rattle.av1_frame.specs.declared.plane_region.PlaneRegion.{PlaneRegion}
use Rattle.av1_frame.specs.Samples.{part}
use Rattle.av1_edges.specs.declared.parts.Parts.{Parts}
use Rattle.av1_edges.specs.declared.position.TransformPosition.{TransformPosition}
use Rattle.av1_edges.specs.Sides.{base, above_at, left_at, corner_at, smoothed}
use Rattle.av1_lists.specs.Lists.{by_index}
use Rattle.av1_edges.specs.Edges.{region_sample, edge_of_parts, above_places, left_places, num_avail_above, num_avail_left, has_above_right, has_below_left}
use Rattle.av1_edges.proofs.Lists.{part_between, last_reversed, first_by_index}

-- what stands first, second and third behind a front
pub second_part : {T : Type 0} (a b c z : List T) (i n : ℕ) → length a + length b ≡ i → length c ≡ n → part i n (a ++ (b ++ (c ++ z))) ≡ c
second_part a b c z i n e h =
    ap (part i n) (sym (append_assoc a b (c ++ z))) ∙ part_between (a ++ b) c z i n (length-append a b ∙ e) h

pub third_part : {T : Type 0} (a b c d z : List T) (i n : ℕ) → length a + length b + length c ≡ i → length d ≡ n → part i n (a ++ (b ++ (c ++ (d ++ z)))) ≡ d
third_part a b c d z i n e h =
    ap (part i n) (sym (append_assoc a b (c ++ (d ++ z)))) ∙ second_part (a ++ b) c d z i n (omega (arith, length-append a b, e)) h

chosen_then : (b : Bool) (v m n : ℕ) → b ≡ true → v ≡ m → v ≡ cond b m n
chosen_then b v m n e h = h ∙ ap (λ t. cond t m n) (sym e)

chosen_else : (b : Bool) (v m n : ℕ) → b ≡ false → v ≡ n → v ≡ cond b m n
chosen_else b v m n e h = h ∙ ap (λ t. cond t m n) (sym e)

module _ {T : Type 0} (num : T → ℕ) (r : PlaneRegion T) (at : TransformPosition) (depth : ℕ) (parts : Parts) where
  pub left_is : (xs : List T) (n t : ℕ) → map num xs ≡ reverse (by_index n (left_at (region_sample num r) (base depth) at.x at.y t)) →
      n ≡ left_places parts at.tx_size → t ≡ num_avail_left r at (parts.below_left && has_below_left r at) →
      map num xs ≡ reverse (edge_of_parts num r at depth parts).left
  unfolding edge_of_parts
  left_is xs n t e l h =
      e ∙ ap (λ m. reverse (by_index m (left_at (region_sample num r) (base depth) at.x at.y t))) l
      ∙ ap (λ m. reverse (by_index (left_places parts at.tx_size) (left_at (region_sample num r) (base depth) at.x at.y m))) h

  pub above_is : (xs : List T) (n t : ℕ) → map num xs ≡ by_index n (above_at (region_sample num r) (base depth) at.x at.y t) →
      n ≡ above_places parts at.tx_size → t ≡ num_avail_above r at (parts.above_right && has_above_right r at) →
      map num xs ≡ (edge_of_parts num r at depth parts).above
  unfolding edge_of_parts
  above_is xs n t e l h =
      e ∙ ap (λ m. by_index m (above_at (region_sample num r) (base depth) at.x at.y t)) l
      ∙ ap (λ m. by_index (above_places parts at.tx_size) (above_at (region_sample num r) (base depth) at.x at.y m)) h

  -- the corner, without and with smoothing
  pub corner_plain : (v : T) → num v ≡ cond parts.corner (corner_at (region_sample num r) (base depth) at.x at.y) (base depth) → parts.smoothed ≡ false →
      num v ≡ (edge_of_parts num r at depth parts).corner
  unfolding edge_of_parts
  corner_plain v e s = chosen_else parts.smoothed (num v) _ _ s e

  pub corner_smooth : (left above : List T) (l a k v : T) → map num left ≡ reverse (edge_of_parts num r at depth parts).left
      → map num above ≡ (edge_of_parts num r at depth parts).above
      → num k ≡ cond parts.corner (corner_at (region_sample num r) (base depth) at.x at.y) (base depth) → num v ≡ smoothed (num l) (num k) (num a)
      → l ≡ get_or left (length left - 1) l → a ≡ get_or above 0 a → 0 < length left → 0 < length above → parts.smoothed ≡ true
      → num v ≡ (edge_of_parts num r at depth parts).corner
  unfolding edge_of_parts
  corner_smooth left above l a k v lefts aboves corner e here there hl ha s =
      let f = left_at (region_sample num r) (base depth) at.x at.y (num_avail_left r at (parts.below_left && has_below_left r at)) in
      let g = above_at (region_sample num r) (base depth) at.x at.y (num_avail_above r at (parts.above_right && has_above_right r at)) in
      let m = cond parts.corner (corner_at (region_sample num r) (base depth) at.x at.y) (base depth) in
      let x : num l ≡ f 0 = ap num here ∙ last_reversed num left (left_places parts at.tx_size) f l lefts hl in
      let y : num a ≡ g 0 = ap num there ∙ first_by_index num above (above_places parts at.tx_size) g a aboves ha in
      chosen_then parts.smoothed (num v) _ _ s (e ∙ ap (λ n. smoothed n (num k) (num a)) x ∙ ap (λ n. smoothed (f 0) n (num a)) corner
      ∙ ap (smoothed (f 0) m) y)
