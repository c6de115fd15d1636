-- A block is its strips: what a strip reads, and what strips paint side by side.
use Rattle.std.proofs.Common.{ℕ, zero, suc, ◌+◌, ◌-◌, ◌*◌, ◌/◌, ◌%◌, ◌^◌, ◌<◌, ◌≤◌, ◌≡◌, ◌∙◌, ap, sym, subst, arith, inl, inr, List, [], ◌∷◌, refl, drop}
use Rattle.std.proofs.Common.{length}
use Rattle.std.proofs.Common.{map, slice_index, get_or, ℤ, pos, ◌-ℤ◌}
use Rattle.std.proofs.lemmas.List.{get_or-drop, get_or-map, places}
use Rattle.std.proofs.lemmas.Bool.{cases_lt}
use Rattle.std.proofs.lemmas.Bool.Decides.{nat_tests}
use Rattle.av1_frame.specs.declared.plane_region.StoredArea.{StoredArea}
use Rattle.av1_frame.specs.Arithmetic.{clip, round_shift}
use Rattle.av1_frame.specs.Samples.{corner, paint, painted_at}
use Rattle.av1_frame.proofs.Paint.{paint_empty}
use Rattle.av1_frame.proofs.Update.{get_or-update, length-update, update_is}
use Rattle.av1_inter.specs.Motion.{bias, intermediate_bits, prepared, single, unbiased}
use Rattle.av1_inter.specs.declared.strip.Strip.{Strip}
use Rattle.av1_inter.specs.declared.strip.Taps.{Taps}
use Rattle.av1_blocks.specs.Depths.{IsDepth}
use Rattle.av1_inter.specs.Places.{AreWithinDepth, IsReadFrom, read_beside}
use Rattle.av1_inter.specs.Scaffolding.{filtered, IsBlock, IsLaid, part_of, sample_of, settled, strip_of}
use Rattle.av1_inter.proofs.Sums.{intermediate_same, weighted_same}

-- samples that agree where the taps of two places stand
module _ (depth : ℕ) (across down : List ℤ) (s t : ℕ → ℕ → ℕ) (r c d : ℕ) (same : (x y : ℕ) → x < 8 → y < 8 → s (c + x) (r + y) ≡ t (d + x) (r + y)) where
  pub single_moved : (fx fy : ℕ) → single depth fx fy across down s r c ≡ single depth fx fy across down t r d
  single_moved zero zero = same 3 3 (omega arith) (omega arith)
  single_moved zero (suc k) = ap (λ z. clip depth (round_shift z 7)) (weighted_same down _ _ (λ i l. ap pos (same 3 i (omega arith) l)))
  single_moved (suc j) zero =
      ap (λ z. clip depth (round_shift z (intermediate_bits depth)))
      (intermediate_same depth (suc j) across (λ x. s x (r + 3)) (λ x. t x (r + 3)) c d (λ i l. same i 3 l (omega arith)))
  single_moved (suc j) (suc k) =
      ap (λ z. clip depth (round_shift z (7 + intermediate_bits depth)))
      (weighted_same down _ _ (λ i l. intermediate_same depth (suc j) across (λ x. s x (r + i)) (λ x. t x (r + i)) c d (λ m n. same m i n l)))

  unbiased_moved : (fx fy : ℕ) → unbiased depth fx fy across down s r c ≡ unbiased depth fx fy across down t r d
  unbiased_moved fx zero = intermediate_same depth fx across (λ x. s x (r + 3)) (λ x. t x (r + 3)) c d (λ i l. same i 3 l (omega arith))
  unbiased_moved zero (suc k) = ap (λ z. round_shift z (7 - intermediate_bits depth)) (weighted_same down _ _ (λ i l. ap pos (same 3 i (omega arith) l)))
  unbiased_moved (suc j) (suc k) =
      ap (λ z. round_shift z 7)
      (weighted_same down _ _ (λ i l. intermediate_same depth (suc j) across (λ x. s x (r + i)) (λ x. t x (r + i)) c d (λ m n. same m i n l)))

  pub prepared_moved : (fx fy : ℕ) → prepared depth fx fy across down s r c ≡ prepared depth fx fy across down t r d
  prepared_moved fx fy = ap (λ z. z -ℤ bias depth) (unbiased_moved fx fy)

-- the place that is read for column c (or row c) of a block, in place of one of those around it
abbrev pub kept_place : (fraction c x : ℕ) → ℕ
kept_place zero c x = c
kept_place (suc _) c x = x

-- what is read for a sample, in place of the samples around it
abbrev pub near : (fx fy r c : ℕ) → (ℕ → ℕ → ℕ) → ℕ → ℕ → ℕ
near fx fy r c s = λ x y. s (kept_place fx c x) (kept_place fy r y)

kept_below : (f w c x : ℕ) → c < w → x < c + 8 → kept_place f c x < w + read_beside f
kept_below zero w c x h l = omega (arith, h)
kept_below (suc f) w c x h l = omega (arith, h, l)

-- what is read for a block decides its samples
module _ (depth : ℕ) (across down : List ℤ) (w h r c : ℕ) (s around : ℕ → ℕ → ℕ) (k : r < h) (l : c < w) where
  pub near_within : (fx fy : ℕ) → AreWithinDepth depth s (w + read_beside fx) (h + read_beside fy) →
      (x y : ℕ) → x < c + 8 → y < r + 8 → near fx fy r c s x y < 2 ^ depth
  near_within fx fy within x y m n =
      within (kept_place fx c x) (kept_place fy r y) (kept_below fx w c x l m) (kept_below fy h r y k n)

  pub single_read : (fx fy : ℕ) → IsReadFrom fx fy w h s around →
      single depth fx fy across down (near fx fy r c s) r c ≡ single depth fx fy across down around r c
  single_read zero zero same = same c r (omega (arith, l)) (omega (arith, k))
  single_read zero (suc j) same =
      ap (λ z. clip depth (round_shift z 7)) (weighted_same down _ _ (λ i m. ap pos (same c (r + i) (omega (arith, l)) (omega (arith, k, m)))))
  single_read (suc i) zero same =
      ap (λ z. clip depth (round_shift z (intermediate_bits depth)))
      (intermediate_same depth (suc i) across (λ x. s x r) (λ x. around x (r + 3)) c c (λ t m. same (c + t) r (omega (arith, l, m)) (omega (arith, k))))
  single_read (suc i) (suc j) same =
      ap (λ z. clip depth (round_shift z (7 + intermediate_bits depth)))
      (weighted_same down _ _ (λ t m. intermediate_same depth (suc i) across (λ x. s x (r + t)) (λ x. around x (r + t)) c c
      (λ u n. same (c + u) (r + t) (omega (arith, l, n)) (omega (arith, k, m)))))

  unbiased_read : (fx fy : ℕ) → IsReadFrom fx fy w h s around →
      unbiased depth fx fy across down (near fx fy r c s) r c ≡ unbiased depth fx fy across down around r c
  unbiased_read zero zero same = ap (λ n. pos (n * 2 ^ intermediate_bits depth)) (same c r (omega (arith, l)) (omega (arith, k)))
  unbiased_read zero (suc j) same =
      ap (λ z. round_shift z (7 - intermediate_bits depth)) (weighted_same down _ _ (λ i m. ap pos (same c (r + i) (omega (arith, l)) (omega (arith, k, m)))))
  unbiased_read (suc i) zero same =
      intermediate_same depth (suc i) across (λ x. s x r) (λ x. around x (r + 3)) c c (λ t m. same (c + t) r (omega (arith, l, m)) (omega (arith, k)))
  unbiased_read (suc i) (suc j) same =
      ap (λ z. round_shift z 7)
      (weighted_same down _ _ (λ t m. intermediate_same depth (suc i) across (λ x. s x (r + t)) (λ x. around x (r + t)) c c
      (λ u n. same (c + u) (r + t) (omega (arith, l, n)) (omega (arith, k, m)))))

  pub prepared_read : (fx fy : ℕ) → IsReadFrom fx fy w h s around →
      prepared depth fx fy across down (near fx fy r c s) r c ≡ prepared depth fx fy across down around r c
  prepared_read fx fy same = ap (λ z. z -ℤ bias depth) (unbiased_read fx fy same)

-- no column of a rectangle is painted yet
pub paint_no_column : {X : Type 0} (stride : ℕ) (a : StoredArea) (h : ℕ) (f : ℕ → ℕ → X → X) (s : List X) → s ≡ paint stride (corner a 0 h) f s
paint_no_column stride a h f s = sym (paint_empty stride (corner a 0 h) f s (inl refl))

-- a sample that is painted in the first w columns, or in the n columns after them
strip_at : {X : Type 0} (a : StoredArea) (w n h p q : ℕ) (f g : ℕ → ℕ → X → X) (v : X) → ((r c : ℕ) (v : X) → r < h → c < n → g r c v ≡ f r (w + c) v) →
    painted_at (strip_of a w n h) g p q (painted_at (corner a w h) f p q v) ≡ painted_at (corner a (w + n) h) f p q v
strip_at a w n h p q f g v e =
    elim (cases_lt p a.x) [
      | inl b ↦ grind (arith, nat_tests)
      | inr b ↦ elim (cases_lt q a.y) [
        | inl c ↦ grind (arith, nat_tests)
        | inr c ↦ elim (cases_lt q (a.y + h)) [
          | inr d ↦ grind (arith, nat_tests)
          | inl d ↦ elim (cases_lt p (a.x + w)) [
            | inl i ↦ grind (arith, nat_tests)
            | inr i ↦ elim (cases_lt p (a.x + w + n)) [
              | inr j ↦ grind (arith, nat_tests)
              | inl j ↦ (let t = e (q - a.y) (p - (a.x + w)) v (omega arith) (omega arith) in let z : w + (p - (a.x + w)) ≡ p - a.x = omega arith
                  in grind (arith, nat_tests))
            ]
          ]
        ]
      ]
    ]

-- the strip after the first w columns
pub paint_strip : {X : Type 0} (stride : ℕ) (a : StoredArea) (w n h : ℕ) (f g : ℕ → ℕ → X → X) (s : List X) →
    ((r c : ℕ) (v : X) → r < h → c < n → g r c v ≡ f r (w + c) v) →
    paint stride (strip_of a w n h) g (paint stride (corner a w h) f s) ≡ paint stride (corner a (w + n) h) f s
unfolding paint
paint_strip stride a w n h f g s e =
    update_is _ s _ (length-update _ _ ∙ length-update _ s) (λ k d l.
    get_or-update _ _ k d (omega (arith, length-update (λ k v. painted_at (corner a w h) f (k % stride) (k / stride) v) s))
    ∙ ap (painted_at (strip_of a w n h) g (k % stride) (k / stride)) (get_or-update _ s k d l)
    ∙ strip_at a w n h (k % stride) (k / stride) f g (get_or s k d) e)

-- a rectangle that is painted in its first columns, and then in the n after them
pub paint_next : {X : Type 0} (stride : ℕ) (a p : StoredArea) (w n : ℕ) (f g : ℕ → ℕ → X → X) (s t new : List X) → p ≡ part_of a w 0 n a.height →
    t ≡ paint stride (corner a w a.height) f s → new ≡ paint stride p g t
    → ((r c : ℕ) (v : X) → r < a.height → c < n → g r c v ≡ f r (w + c) v) → new ≡ paint stride (corner a (w + n) a.height) f s
paint_next stride a p w n f g s t new ep et en e =
    let same : part_of a w 0 n a.height ≡ strip_of a w n a.height =
    ap (λ (y : ℕ). let b : StoredArea = record { x = a.x + w; y = y; width = n; height = a.height } in b) (omega arith) in
    en ∙ ap (paint stride p g) et ∙ ap (λ (b : StoredArea). paint stride b g (paint stride (corner a w a.height) f s)) (ep ∙ same)
    ∙ paint_strip stride a w n a.height f g s e

-- a sample that is painted in the first h rows, or in the n rows after them
band_at : {X : Type 0} (a : StoredArea) (h n p q : ℕ) (f g : ℕ → ℕ → X → X) (v : X) → ((r c : ℕ) (v : X) → r < n → c < a.width → g r c v ≡ f (h + r) c v)
    → painted_at (part_of a 0 h a.width n) g p q (painted_at (corner a a.width h) f p q v) ≡ painted_at (corner a a.width (h + n)) f p q v
band_at a h n p q f g v e =
    elim (cases_lt p a.x) [
      | inl b ↦ grind (arith, nat_tests)
      | inr b ↦ elim (cases_lt q a.y) [
        | inl c ↦ grind (arith, nat_tests)
        | inr c ↦ elim (cases_lt p (a.x + a.width)) [
          | inr d ↦ grind (arith, nat_tests)
          | inl d ↦ elim (cases_lt q (a.y + h)) [
            | inl i ↦ grind (arith, nat_tests)
            | inr i ↦ elim (cases_lt q (a.y + h + n)) [
              | inr j ↦ grind (arith, nat_tests)
              | inl j ↦ (let t = e (q - (a.y + h)) (p - a.x) v (omega arith) (omega arith) in let z : h + (q - (a.y + h)) ≡ q - a.y = omega arith
                  in let x : p - (a.x + 0) ≡ p - a.x = omega arith in grind (arith, nat_tests))
            ]
          ]
        ]
      ]
    ]

-- the same by rows: painted in its first rows, and then in the n after them
pub paint_below : {X : Type 0} (stride : ℕ) (a p : StoredArea) (h n : ℕ) (f g : ℕ → ℕ → X → X) (s t new : List X) → p ≡ part_of a 0 h a.width n →
    t ≡ paint stride (corner a a.width h) f s → new ≡ paint stride p g t
    → ((r c : ℕ) (v : X) → r < n → c < a.width → g r c v ≡ f (h + r) c v) → new ≡ paint stride (corner a a.width (h + n)) f s
unfolding paint
paint_below stride a p h n f g s t new ep et en e =
    en ∙ ap (paint stride p g) et ∙ ap (λ (b : StoredArea). paint stride b g (paint stride (corner a a.width h) f s)) ep
    ∙ update_is _ s _ (length-update _ _ ∙ length-update _ s) (λ k d l.
    get_or-update _ _ k d (omega (arith, length-update (λ k v. painted_at (corner a a.width h) f (k % stride) (k / stride) v) s))
    ∙ ap (painted_at (part_of a 0 h a.width n) g (k % stride) (k / stride)) (get_or-update _ s k d l)
    ∙ band_at a h n (k % stride) (k / stride) f g (get_or s k d) e)

map_drop : {T : Type 0} (num : T → ℕ) (n : ℕ) (s : List T) → map num (drop n s) ≡ drop n (map num s)
map_drop num zero s = refl
map_drop num (suc n) [] = refl
map_drop num (suc n) (x ∷ s) = map_drop num n s

-- a sample of what is left behind the first n
pub part_sample : {T : Type 0} (num : T → ℕ) (source part : List T) (n k m : ℕ) → part ≡ drop n source → n + k ≡ m →
    slice_index (map num part) k ≡ slice_index (map num source) m
part_sample num source part n k m e h =
    ap (λ u. slice_index (map num u) k) e ∙ ap (λ u. get_or u k 0) (map_drop num n source) ∙ get_or-drop n (map num source) k 0
    ∙ ap (λ i. slice_index (map num source) i) h

-- a part of a block from which a filter is laid: what it reads, and what the filter gives there
module _ {T : Type 0} (num : T → ℕ) (block part : Strip T) (taps : Taps) (x y w h : ℕ) (area : part.area ≡ part_of block.area x y w h)
    (source : part.source.now ≡ drop (y * block.source_stride + x) block.source.now)
    (stride : part.source_stride ≡ block.source_stride) where
  place : (r c k : ℕ) → y * block.source_stride + x + (taps.start + r * part.source_stride + c + k) ≡ taps.start + (y + r) * block.source_stride + (x + c) + k
  place r c k =
      let m : (y + r) * block.source_stride ≡ y * block.source_stride + r * block.source_stride = grind arith in
      let n : r * part.source_stride ≡ r * block.source_stride = ap (λ s. r * s) stride in
      omega (arith, m, n)

  number_there : (r c k : ℕ) → slice_index (map num part.source.now) (taps.start + r * part.source_stride + c + k) ≡ slice_index (map num block.source.now)
      (taps.start + (y + r) * block.source_stride + (x + c) + k)
  number_there r c k = part_sample num block.source.now part.source.now (y * block.source_stride + x) _ _ source (place r c k)

  pub part_filtered : (r c : ℕ) → filtered num part taps r c ≡ filtered num block taps (y + r) (x + c)
  part_filtered r c = ap (settled taps.rounding) (weighted_same taps.halves _ _ (λ t l. ap pos (number_there r c (t * taps.step))))

  pub part_laid : x + w ≤ block.area.width → y + h ≤ block.area.height → IsLaid num block taps → IsLaid num part taps
  part_laid columns rows l =
      let wide : part.area.width ≡ w = ap (λ (a : StoredArea). a.width) area in
      let high : part.area.height ≡ h = ap (λ (a : StoredArea). a.height) area in
      record {
        filter = l.filter;
        rounding = l.rounding;
        reach = λ r k.
            let long = l.reach (y + r) (omega (arith, k, high, rows)) in
            let m = place r part.area.width (7 * taps.step) in
            let n : length (drop (y * block.source_stride + x) block.source.now) ≡ length block.source.now - (y * block.source_stride + x) =
            grind (arith, places) in
            omega (arith, ap length source, n, m, long, wide, columns);
        small = λ r c t k q i. subst (λ (n : ℕ). n < 32768) (sym (number_there r c (t * taps.step)))
            (l.small (y + r) (x + c) t (omega (arith, k, high, rows)) (omega (arith, q, wide, columns)) i);
      }

-- a part of a block reads as much beside it as the block
pub part_is_block : {T : Type 0} (num : T → ℕ) (across down : ℕ) (block part : Strip T) (x y w h : ℕ) → part.area ≡ part_of block.area x y w h
    → part.source.now ≡ drop (y * block.source_stride + x) block.source.now → part.source_stride ≡ block.source_stride
    → part.bit_depth ≡ block.bit_depth → IsBlock num across down block → x + w ≤ block.area.width → y + h ≤ block.area.height → 0 < h →
    IsBlock num across down part
part_is_block num across down block part x y w h area source stride depth b columns rows some =
    let wide : part.area.width ≡ w = ap (λ (a : StoredArea). a.width) area in
    let high : part.area.height ≡ h = ap (λ (a : StoredArea). a.height) area in
    let s : ℕ = block.source_stride in
    let there : (p q : ℕ) → sample_of num part p q ≡ sample_of num block (x + p) (y + q) =
    λ p q. ap (λ n. slice_index (map num part.source.now) (q * n + p)) stride
    ∙ part_sample num block.source.now part.source.now (y * s + x) (q * s + p) ((y + q) * s + (x + p)) source (grind arith) in
    record {
      wide = omega (arith, wide, columns, b.wide);
      high = omega (arith, high, rows, b.high);
      some = omega (arith, high, some);
      depths = subst IsDepth (sym depth) b.depths;
      reach = λ q l.
          let long = b.reach (y + q) (omega (arith, l, high, rows)) in
          let m : (y + q) * s ≡ y * s + q * s = grind arith in
          let same : q * part.source_stride ≡ q * s = ap (λ n. q * n) stride in
          let n : length (drop (y * s + x) block.source.now) ≡ length block.source.now - (y * s + x) = grind (arith, places) in
          omega (arith, ap length source, n, m, same, long, wide, columns);
      within = λ p q k l.
          let e : part.bit_depth ≡ block.bit_depth = depth in
          subst (λ (d : ℕ). sample_of num part p q < 2 ^ d) (sym e)
          (subst (λ (v : ℕ). v < 2 ^ block.bit_depth) (sym (there p q))
          (b.within (x + p) (y + q) (omega (arith, k, wide, columns)) (omega (arith, l, high, rows))));
    }

-- a sample behind the first n of a source, by its number
pub copied_there : {T : Type 0} (num : T → ℕ) (pixel : ℕ → T) (back : (v : T) → pixel (num v) ≡ v) (source from : List T) (n q m : ℕ) (v : T) →
    from ≡ drop n source → n + q ≡ m → q < length from → get_or from q v ≡ pixel (slice_index (map num source) m)
copied_there num pixel back source from n q m v e h l = sym (back (get_or from q v))
    ∙ ap pixel (sym (get_or-map num from q v 0 l) ∙ part_sample num source from n q m e h)
