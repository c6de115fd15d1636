-- What the filters of a block give is what the specification says, at each depth.
use Rattle.std.proofs.Common.{ℕ, zero, suc, ◌+◌, ◌-◌, ◌*◌, ◌/◌, ◌^◌, ◌<◌, ◌≡◌, ◌≢◌, ◌⊎◌, ◌∙◌, ap, arith, refl, sym, List, [], ℤ, pos, negsuc, ◌+ℤ◌, ◌-ℤ◌}
use Rattle.std.proofs.Common.{◌*ℤ◌, inl, inr, w16}
use Rattle.std.specs.Int.{int_shr, saturate_signed}
use Rattle.std.specs.Int.Signed.{shr_z}
use Rattle.std.proofs.lemmas.Bool.{cases_lt}
use Rattle.std.proofs.lemmas.Int.{ints}
use Rattle.std.proofs.lemmas.List.{get_or-map, length-map}
use Rattle.av1_blocks.specs.Depths.{IsDepth}
use Rattle.av1_frame.specs.Arithmetic.{clip, round_shift}
use Rattle.av1_inter.specs.Motion.{bias, entry, intermediate, intermediate_bits, prepared, single, sum_to, weighted}
use Rattle.av1_inter.specs.Places.{AreWithinDepth, IsReadFrom, read_beside}
use Rattle.av1_inter.specs.Scaffolding.{along, Between, between_filters, doubled, halved, IsFilter}
use Rattle.av1_inter.specs.Scaffolding.{prepared_roundings, put_roundings, value_of}
use Rattle.av1_inter.specs.Filters.{filter_of}
use Rattle.av1_blocks.specs.declared.mc.FilterMode.{FilterMode}
use Rattle.av1_inter.proofs.Strips.{near, near_within, prepared_read, single_read}
use Rattle.av1_inter.proofs.Table.{filter_of_is_filter}
use Rattle.av1_inter.proofs.Constants.{weighted_constant}
use Rattle.av1_inter.proofs.Halves.{depth_numbers, doubled_sum, halves_are, rounded_twice}
use Rattle.av1_inter.proofs.Fitting.{prepared_fits}
use Rattle.av1_inter.proofs.Reach.{intermediate_between}
use Rattle.av1_inter.proofs.Settled.{held_fits}
use Rattle.av1_inter.proofs.Sums.{weighted_same}

-- a filter's sum is twice that by halved weights
pub whole_sum : (taps : List ℤ) (value : ℕ → ℤ) → IsFilter taps → weighted taps value ≡ pos 2 *ℤ weighted (halved taps) value
whole_sum taps value f =
    let twice : doubled (halved taps) ≡ taps =
    halves_are (halved taps) taps (length-map taps _
    ∙ f.size) f (λ t l. get_or-map (λ z. int_shr z 1) taps t (pos 0) (pos 0) (omega (arith, f.size, l))) in
    ap (λ w. weighted w value) (sym twice) ∙ doubled_sum (halved taps) value 8

-- shifts of what is twice as great
half_8 : (y z : ℤ) → y ≡ pos 2 *ℤ z → shr_z y 8 ≡ shr_z z 4
half_8 (pos n) (pos k) e = omega (arith, ints, e)
half_8 (pos n) (negsuc k) e = absurd (omega (arith, ints, e))
half_8 (negsuc n) (pos k) e = absurd (omega (arith, ints, e))
half_8 (negsuc n) (negsuc k) e = omega (arith, ints, e)

half_32 : (y z : ℤ) → y ≡ pos 2 *ℤ z → shr_z y 32 ≡ shr_z z 16
half_32 (pos n) (pos k) e = omega (arith, ints, e)
half_32 (pos n) (negsuc k) e = absurd (omega (arith, ints, e))
half_32 (negsuc n) (pos k) e = absurd (omega (arith, ints, e))
half_32 (negsuc n) (negsuc k) e = omega (arith, ints, e)

half_128 : (y z : ℤ) → y ≡ pos 2 *ℤ z → shr_z y 128 ≡ shr_z z 64
half_128 (pos n) (pos k) e = omega (arith, ints, e)
half_128 (pos n) (negsuc k) e = absurd (omega (arith, ints, e))
half_128 (negsuc n) (pos k) e = absurd (omega (arith, ints, e))
half_128 (negsuc n) (negsuc k) e = omega (arith, ints, e)

half_512 : (y z : ℤ) → y ≡ pos 2 *ℤ z → shr_z y 512 ≡ shr_z z 256
half_512 (pos n) (pos k) e = omega (arith, ints, e)
half_512 (pos n) (negsuc k) e = absurd (omega (arith, ints, e))
half_512 (negsuc n) (pos k) e = absurd (omega (arith, ints, e))
half_512 (negsuc n) (negsuc k) e = omega (arith, ints, e)

half_2048 : (y z : ℤ) → y ≡ pos 2 *ℤ z → shr_z y 2048 ≡ shr_z z 1024
half_2048 (pos n) (pos k) e = omega (arith, ints, e)
half_2048 (pos n) (negsuc k) e = absurd (omega (arith, ints, e))
half_2048 (negsuc n) (pos k) e = absurd (omega (arith, ints, e))
half_2048 (negsuc n) (negsuc k) e = omega (arith, ints, e)

-- shifts of what is 64 * 8192 greater
less_64 : (y z : ℤ) → y ≡ z +ℤ pos 524288 → shr_z y 64 ≡ shr_z z 64 +ℤ pos 8192
less_64 (pos n) (pos k) e = omega (arith, ints, e)
less_64 (pos n) (negsuc k) e = omega (arith, ints, e)
less_64 (negsuc n) (pos k) e = absurd (omega (arith, ints, e))
less_64 (negsuc n) (negsuc k) e = omega (arith, ints, e)

less_256 : (y z : ℤ) → y ≡ z +ℤ pos 524288 → shr_z y 256 ≡ shr_z z 256 +ℤ pos 2048
less_256 (pos n) (pos k) e = omega (arith, ints, e)
less_256 (pos n) (negsuc k) e = omega (arith, ints, e)
less_256 (negsuc n) (pos k) e = absurd (omega (arith, ints, e))
less_256 (negsuc n) (negsuc k) e = omega (arith, ints, e)

less_1024 : (y z : ℤ) → y ≡ z +ℤ pos 524288 → shr_z y 1024 ≡ shr_z z 1024 +ℤ pos 512
less_1024 (pos n) (pos k) e = omega (arith, ints, e)
less_1024 (pos n) (negsuc k) e = omega (arith, ints, e)
less_1024 (negsuc n) (pos k) e = absurd (omega (arith, ints, e))
less_1024 (negsuc n) (negsuc k) e = omega (arith, ints, e)

-- half a sum of 12 bits that is rounded twice
twice_12 : (w v : ℤ) → v ≡ w +ℤ pos 32 → shr_z v 64 ≡ shr_z (shr_z w 16 +ℤ pos 2) 4
twice_12 (pos m) v e = ap (λ u. shr_z u 64) e ∙ ap pos (omega arith)
twice_12 (negsuc m) v e = elim (cases_lt m 32) [
  | inl h ↦ (
      let a : v ≡ pos (31 - m) = omega (arith, ints, e, h) in
      let b : negsuc (m / 16) +ℤ pos 2 ≡ pos (1 - m / 16) = omega (arith, ints, h) in
      ap (λ u. shr_z u 64) a ∙ ap pos (let k : (31 - m) / 64 ≡ (1 - m / 16) / 4 = omega (arith, h) in k) ∙ sym (ap (λ u. shr_z u 4) b)
      )
  | inr h ↦ (
      let a : v ≡ negsuc (m - 32) = omega (arith, ints, e, h) in
      let b : negsuc (m / 16) +ℤ pos 2 ≡ negsuc (m / 16 - 2) = omega (arith, ints, h) in
      ap (λ u. shr_z u 64) a ∙ ap negsuc (let k : (m - 32) / 64 ≡ (m / 16 - 2) / 4 = omega (arith, h) in k) ∙ sym (ap (λ u. shr_z u 4) b)
      )
]

-- the clip to a depth forgets that a number was held in 16 bits
clip_saturated : (depth : ℕ) → IsDepth depth → (z : ℤ) → clip depth (saturate_signed w16 z) ≡ clip depth z
clip_saturated depth d (pos n) = omega (arith, depth_numbers depth d)
clip_saturated depth d (negsuc n) = refl

less_none : (z : ℤ) → z -ℤ pos 0 ≡ z
less_none z = omega (arith, ints)

module _ (w v : ℤ) (e : v ≡ pos 2 *ℤ w) where
  -- a sum that is rounded once, from half of it
  once : (depth : ℕ) → IsDepth depth →
      int_shr (w +ℤ pos (2 ^ (5 - intermediate_bits depth))) (6 - intermediate_bits depth) ≡ round_shift v (7 - intermediate_bits depth)
  once depth (inl d) = rw d (sym (half_8 (v +ℤ pos 4) (w +ℤ pos 2) (omega (arith, ints, e))))
  once depth (inr (inl d)) = rw d (sym (half_8 (v +ℤ pos 4) (w +ℤ pos 2) (omega (arith, ints, e))))
  once depth (inr (inr d)) = rw d (sym (half_32 (v +ℤ pos 16) (w +ℤ pos 8) (omega (arith, ints, e))))

  -- one that is rounded twice
  twice_rounded : (depth : ℕ) → IsDepth depth →
      int_shr (w +ℤ pos (32 + 2 ^ (5 - intermediate_bits depth))) 6 ≡ round_shift (round_shift v (7 - intermediate_bits depth)) (intermediate_bits depth)
  twice_rounded depth (inl d) = rw d (rounded_twice w ∙ ap (λ z. round_shift z 4) (sym (half_8 (v +ℤ pos 4) (w +ℤ pos 2) (omega (arith, ints, e)))))
  twice_rounded depth (inr (inl d)) = rw d (rounded_twice w ∙ ap (λ z. round_shift z 4) (sym (half_8 (v +ℤ pos 4) (w +ℤ pos 2) (omega (arith, ints, e)))))
  twice_rounded depth (inr (inr d)) =
      rw d (twice_12 (w +ℤ pos 8) (w +ℤ pos 40) (omega (arith, ints))
      ∙ ap (λ z. round_shift z 2) (sym (half_32 (v +ℤ pos 16) (w +ℤ pos 8) (omega (arith, ints, e)))))

  -- one of rows that were moved up by 8192
  moved_back : (depth : ℕ) → IsDepth depth → (y : ℤ) → y ≡ w +ℤ pos 524288
      → int_shr (y +ℤ pos (2 ^ (5 + intermediate_bits depth))) (6 + intermediate_bits depth) -ℤ pos (2 ^ (13 - intermediate_bits depth)) ≡
      round_shift v (7 + intermediate_bits depth)
  moved_back depth (inl d) y h =
      rw d (let l = less_1024 (y +ℤ pos 512) (w +ℤ pos 512) (omega (arith, ints, h))
      in let t = half_2048 (v +ℤ pos 1024) (w +ℤ pos 512) (omega (arith, ints, e)) in omega (arith, ints, l, t))
  moved_back depth (inr (inl d)) y h =
      rw d (let l = less_1024 (y +ℤ pos 512) (w +ℤ pos 512) (omega (arith, ints, h))
      in let t = half_2048 (v +ℤ pos 1024) (w +ℤ pos 512) (omega (arith, ints, e)) in omega (arith, ints, l, t))
  moved_back depth (inr (inr d)) y h =
      rw d (let l = less_256 (y +ℤ pos 128) (w +ℤ pos 128) (omega (arith, ints, h))
      in let t = half_512 (v +ℤ pos 256) (w +ℤ pos 128) (omega (arith, ints, e)) in omega (arith, ints, l, t))

  moved_prepared : (b y : ℤ) → y ≡ w +ℤ pos 524288 → int_shr (y +ℤ pos 32) 6 -ℤ (pos 8192 +ℤ b) ≡ round_shift v 7 -ℤ b
  moved_prepared b y h =
      let l = less_64 (y +ℤ pos 32) (w +ℤ pos 32) (omega (arith, ints, h)) in
      let t = half_128 (v +ℤ pos 64) (w +ℤ pos 32) (omega (arith, ints, e)) in
      omega (arith, ints, l, t)

-- a value of a row that is kept has no sign, and is not cut
kept_number : (y z : ℤ) → y ≡ z -ℤ negsuc 8191 → Between 7167 23547 z → pos (clip 15 (saturate_signed w16 y)) ≡ z +ℤ pos 8192
kept_number (pos n) z e b = omega (arith, ints, e, b.low, b.high)
kept_number (negsuc n) z e b = absurd (omega (arith, ints, e, b.low))

-- sums of numbers that are each 8192 greater
shared : (a x y z : ℕ) → x + y ≡ z → a * x + a * y ≡ a * z
shared a x y z e = let d : a * x + a * y ≡ a * (x + y) = grind arith in d ∙ ap (λ n. a * n) e

product_more : (h v : ℤ) → h *ℤ (v +ℤ pos 8192) ≡ h *ℤ v +ℤ h *ℤ pos 8192
product_more (pos a) (pos n) = let k = shared a n 8192 (n + 8192) refl in omega (arith, ints, k)
product_more (negsuc a) (pos n) = let k = shared (suc a) n 8192 (n + 8192) refl in omega (arith, ints, k)
product_more (pos a) (negsuc n) = elim (cases_lt n 8192) [
  | inl b ↦ (
      let e : negsuc n +ℤ pos 8192 ≡ pos (8191 - n) = omega (arith, ints, b) in
      let k = shared a (8191 - n) (suc n) 8192 (omega (arith, b)) in
      ap (λ z. pos a *ℤ z) e ∙ omega (arith, ints, k)
      )
  | inr b ↦ (
      let e : negsuc n +ℤ pos 8192 ≡ negsuc (n - 8192) = omega (arith, ints, b) in
      let k = shared a (suc (n - 8192)) 8192 (suc n) (omega (arith, b)) in
      ap (λ z. pos a *ℤ z) e ∙ omega (arith, ints, k)
      )
]
product_more (negsuc a) (negsuc n) = elim (cases_lt n 8192) [
  | inl b ↦ (
      let e : negsuc n +ℤ pos 8192 ≡ pos (8191 - n) = omega (arith, ints, b) in
      let k = shared (suc a) (8191 - n) (suc n) 8192 (omega (arith, b)) in
      ap (λ z. negsuc a *ℤ z) e ∙ omega (arith, ints, k)
      )
  | inr b ↦ (
      let e : negsuc n +ℤ pos 8192 ≡ negsuc (n - 8192) = omega (arith, ints, b) in
      let k = shared (suc a) (suc (n - 8192)) 8192 (suc n) (omega (arith, b)) in
      ap (λ z. negsuc a *ℤ z) e ∙ omega (arith, ints, k)
      )
]

sum_more : (halves : List ℤ) (value : ℕ → ℤ) (k : ℕ) →
    sum_to k (λ t. entry halves t *ℤ (value t +ℤ pos 8192)) ≡ sum_to k (λ t. entry halves t *ℤ value t) +ℤ sum_to k (λ t. entry halves t *ℤ pos 8192)
unfolding sum_to
sum_more halves value zero = refl
sum_more halves value (suc k) = let s = sum_more halves value k in let p = product_more (entry halves k) (value k) in omega (arith, ints, s, p)

moved_sum : (taps : List ℤ) (value moved : ℕ → ℤ) → IsFilter taps → ((t : ℕ) → t < 8 → moved t ≡ value t +ℤ pos 8192) →
    weighted (halved taps) moved ≡ weighted (halved taps) value +ℤ pos 524288
moved_sum taps value moved f h =
    let s = weighted_same (halved taps) moved (λ t. value t +ℤ pos 8192) h ∙ sum_more (halved taps) value 8 in
    let c = sym (whole_sum taps (λ t. pos 8192) f) ∙ weighted_constant taps 8192 f in
    omega (arith, ints, s, c)

module _ (depth : ℕ) (d : IsDepth depth) (across down : List ℤ) (fa : IsFilter across) (fd : IsFilter down) (samples : ℕ → ℕ → ℕ) (r c : ℕ)
    (within : (x y : ℕ) → x < c + 8 → y < r + 8 → samples x y < 2 ^ depth) where
  row_kept : (j y : ℕ) → y < r + 8 →
      pos (clip 15 (along (between_filters depth) (halved across) samples y c)) ≡ intermediate depth (suc j) across samples y c +ℤ pos 8192
  row_kept j y l =
      let e = once (weighted (halved across) (λ t. pos (samples (c + t) y))) _ (whole_sum across _ fa) depth d in
      kept_number _ _ (ap (λ z. z -ℤ negsuc 8191) e)
      (intermediate_between depth d (suc j) across (λ x. samples x y) c fa (λ t k. within (c + t) y (omega (arith, k)) l))

  rows_kept : (j : ℕ) → weighted (halved down) (λ t. pos (clip 15 (along (between_filters depth) (halved across) samples (r + t) c))) ≡
      weighted (halved down) (λ t. intermediate depth (suc j) across samples (r + t) c) +ℤ pos 524288
  rows_kept j = moved_sum down (λ t. intermediate depth (suc j) across samples (r + t) c) _ fd (λ t k. row_kept j (r + t) (omega (arith, k)))

-- the samples of a block that is not filtered, and what is prepared of them
module _ (depth : ℕ) (across down : List ℤ) (w h : ℕ) (s around : ℕ → ℕ → ℕ) (r c : ℕ) (k : r < h) (l : c < w) where
  copied_single : (fx fy : ℕ) → fx ≡ 0 → fy ≡ 0 → IsReadFrom fx fy w h s around → s c r ≡ single depth fx fy across down around r c
  copied_single zero zero ex ey same = same c r (omega (arith, l)) (omega (arith, k))
  copied_single (suc i) fy ex ey same = absurd (omega (arith, ex))
  copied_single zero (suc j) ex ey same = absurd (omega (arith, ey))

  copied_prepared : (fx fy : ℕ) → fx ≡ 0 → fy ≡ 0 → IsReadFrom fx fy w h s around →
      pos (s c r * 2 ^ intermediate_bits depth) -ℤ bias depth ≡ prepared depth fx fy across down around r c
  copied_prepared zero zero ex ey same = ap (λ n. pos (n * 2 ^ intermediate_bits depth) -ℤ bias depth) (same c r (omega (arith, l)) (omega (arith, k)))
  copied_prepared (suc i) fy ex ey same = absurd (omega (arith, ex))
  copied_prepared zero (suc j) ex ey same = absurd (omega (arith, ey))

-- what a block's filters give over the samples that it reads
module _ (depth : ℕ) (d : IsDepth depth) (across down : List ℤ) (fa : IsFilter across) (fd : IsFilter down) (s : ℕ → ℕ → ℕ) (r c : ℕ) where
  pub put_value : (fx fy : ℕ) → (fx ≢ 0) ⊎ (fy ≢ 0) → ((x y : ℕ) → x < c + 8 → y < r + 8 → near fx fy r c s x y < 2 ^ depth) →
      clip depth (value_of (put_roundings depth) depth fx fy (halved across) (halved down) s r c) ≡
      single depth fx fy across down (near fx fy r c s) r c
  put_value zero zero (inl h) within = absurd (h refl)
  put_value zero zero (inr h) within = absurd (h refl)
  put_value zero (suc k) h within =
      let w = weighted (halved down) (λ t. pos (s c (r + t))) in
      let e = whole_sum down (λ t. pos (s c (r + t))) fd in
      clip_saturated depth d _
      ∙ ap (clip depth)
      (less_none _ ∙ sym (half_128 (weighted down (λ t. pos (s c (r + t))) +ℤ pos 64) (w +ℤ pos 32) (omega (arith, ints, e))))
  put_value (suc j) zero h within =
      clip_saturated depth d _
      ∙ ap (clip depth) (less_none _ ∙ twice_rounded (weighted (halved across) (λ t. pos (s (c + t) r))) _ (whole_sum across _ fa) depth d)
  put_value (suc j) (suc k) h within =
      clip_saturated depth d _
      ∙ ap (clip depth)
      (moved_back (weighted (halved down) (λ t. intermediate depth (suc j) across s (r + t) c)) _ (whole_sum down _ fd) depth d _
      (rows_kept depth d across down fa fd s r c within j))

  pub prepared_value : (fx fy : ℕ) → (fx ≢ 0) ⊎ (fy ≢ 0) → ((x y : ℕ) → x < c + 8 → y < r + 8 → near fx fy r c s x y < 2 ^ depth) →
      value_of (prepared_roundings depth) depth fx fy (halved across) (halved down) s r c ≡
      prepared depth fx fy across down (near fx fy r c s) r c
  prepared_value zero zero (inl h) within = absurd (h refl)
  prepared_value zero zero (inr h) within = absurd (h refl)
  prepared_value zero (suc k) h within =
      ap (λ z. saturate_signed w16 (z -ℤ bias depth)) (once (weighted (halved down) (λ t. pos (s c (r + t)))) _ (whole_sum down _ fd) depth d)
      ∙ held_fits _ (prepared_fits depth d 0 (suc k) across down (near 0 (suc k) r c s) r c fa fd within)
  prepared_value (suc j) zero h within =
      ap (λ z. saturate_signed w16 (z -ℤ bias depth)) (once (weighted (halved across) (λ t. pos (s (c + t) r))) _ (whole_sum across _ fa) depth d)
      ∙ held_fits _ (prepared_fits depth d (suc j) 0 across down (near (suc j) 0 r c s) r c fa fd within)
  prepared_value (suc j) (suc k) h within =
      ap (saturate_signed w16)
      (moved_prepared (weighted (halved down) (λ t. intermediate depth (suc j) across s (r + t) c)) _ (whole_sum down _ fd)
      (bias depth) _ (rows_kept depth d across down fa fd s r c within j))
      ∙ held_fits _ (prepared_fits depth d (suc j) (suc k) across down s r c fa fd within)

-- A block's samples and its prepared values, as a contract names them: `s` is what is read, `around` are all samples round the block.
module _ (depth : ℕ) (d : IsDepth depth) (mode_x mode_y : FilterMode) (w h fx fy : ℕ) (s around : ℕ → ℕ → ℕ) (same : IsReadFrom fx fy w h s around)
    (within : AreWithinDepth depth s (w + read_beside fx) (h + read_beside fy)) (r c : ℕ) (k : r < h) (l : c < w) where
  pub put_here : fx < 16 → fy < 16 → (fx ≢ 0) ⊎ (fy ≢ 0) →
      clip depth (value_of (put_roundings depth) depth fx fy (halved (filter_of mode_x fx w)) (halved (filter_of mode_y fy h)) s r c) ≡
      single depth fx fy (filter_of mode_x fx w) (filter_of mode_y fy h) around r c
  put_here lx ly some =
      put_value depth d (filter_of mode_x fx w) (filter_of mode_y fy h) (filter_of_is_filter mode_x fx w lx)
      (filter_of_is_filter mode_y fy h ly) s r c fx fy some
      (near_within depth [] [] w h r c s around k l fx fy within)
      ∙ single_read depth (filter_of mode_x fx w) (filter_of mode_y fy h) w h r c s around k l fx fy same

  pub prepared_here : fx < 16 → fy < 16 → (fx ≢ 0) ⊎ (fy ≢ 0) →
      value_of (prepared_roundings depth) depth fx fy (halved (filter_of mode_x fx w)) (halved (filter_of mode_y fy h)) s r c ≡
      prepared depth fx fy (filter_of mode_x fx w) (filter_of mode_y fy h) around r c
  prepared_here lx ly some =
      prepared_value depth d (filter_of mode_x fx w) (filter_of mode_y fy h) (filter_of_is_filter mode_x fx w lx)
      (filter_of_is_filter mode_y fy h ly) s r c fx fy some
      (near_within depth [] [] w h r c s around k l fx fy within)
      ∙ prepared_read depth (filter_of mode_x fx w) (filter_of mode_y fy h) w h r c s around k l fx fy same

  -- where it is not moved by part of a sample
  pub put_copied : fx ≡ 0 → fy ≡ 0 → s c r ≡ single depth fx fy (filter_of mode_x fx w) (filter_of mode_y fy h) around r c
  put_copied ex ey = copied_single depth (filter_of mode_x fx w) (filter_of mode_y fy h) w h s around r c k l fx fy ex ey same

  pub prepared_copied : fx ≡ 0 → fy ≡ 0 →
      pos (s c r * 2 ^ intermediate_bits depth) -ℤ bias depth ≡ prepared depth fx fy (filter_of mode_x fx w) (filter_of mode_y fy h) around r c
  prepared_copied ex ey = copied_prepared depth (filter_of mode_x fx w) (filter_of mode_y fy h) w h s around r c k l fx fy ex ey same
