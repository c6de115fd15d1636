-- The luma over a block of chroma.
use Rattle.std.proofs.Common.{ℕ, zero, suc, ◌+◌, ◌*◌, ◌/◌, ◌%◌, ◌^◌, ◌<◌, ◌≤◌, ◌≡◌, List, [], ◌∷◌, ◌++◌, length, get_or, take, drop, map, sum, min, arith, ap}
use Rattle.std.proofs.Common.{◌∙◌, sym, subst, refl, cond, ltb, inl, inr, ℤ, pos, ◌-ℤ◌, unsigned_abs}
use Rattle.std.proofs.lemmas.Bool.Decides.{nat_tests}
use Rattle.std.proofs.lemmas.Bool.{cases_lt}
use Rattle.std.proofs.lemmas.List.{get_or-take, get_or-drop, take-map, drop-map, length-take-le, get_or_default}
use Rattle.std.proofs.lemmas.List.Sums.{sum-map, sum_by-cons}
use Rattle.std.proofs.lemmas.Nat.{div-mul-add, mod-mul-add}
use Rattle.std.proofs.Math.Nat.{mul_comm, div-lt_iff_lt-mul, mod-lt}
use Rattle.av1_frame.specs.declared.plane_region.PlaneRegion.{PlaneRegion}
use Rattle.av1_frame.specs.Samples.{row_of, row_start, paint_row}
use Rattle.av1_frame.proofs.Update.{update_is, length-update, get_or-update}
use Rattle.av1_edges.specs.Edges.{region_sample}
use Rattle.av1_lists.proofs.Lists.{numbers_are}
use Rattle.av1_intra.specs.Sides.{numbers}
use Rattle.av1_intra.proofs.RowParts.{painted_front}
use Rattle.av1_intra.proofs.RowReads.{entry_painted}
use Rattle.av1_intra.specs.Dc.{mean}
use Rattle.av1_intra.specs.ChromaFromLuma.{covered, two_rows, luma_at, lumas, luma_difference, with_rows, columns_read, rows_read}
use Rattle.av1_intra.specs.declared.luma.ChromaBlock.{ChromaBlock}

-- a fact on both decimations
pub by_decimation : (P : ℕ → Type 0) (x : ℕ) → x ≤ 1 → P 0 → P 1 → P x
by_decimation P zero h a b = a
by_decimation P (suc zero) h a b = b
by_decimation P (suc (suc x)) h a b = absurd (omega arith)

-- ---- which columns and rows are read

pub column_read : (x c n last k : ℕ) → x ≤ 1 → n ≤ 128 → c < min n (last / 2 ^ x + 1) → k ≤ c * 2 ^ x % 2 ^ 64 + x → k < min (n * 2 ^ x) (last + 2 ^ x)
column_read x c n last k h l =
    let P = λ (x : ℕ). c < min n (last / 2 ^ x + 1) → k ≤ c * 2 ^ x % 2 ^ 64 + x → k < min (n * 2 ^ x) (last + 2 ^ x) in
    by_decimation P x h (λ a b. omega arith) (λ a b. omega arith)

-- past the last column that one is repeated
pub last_kept : (x c last : ℕ) → x ≤ 1 → last / 2 ^ x + 1 ≤ c → min (c * 2 ^ x) last ≡ last
last_kept x c last h =
    let P = λ (x : ℕ). last / 2 ^ x + 1 ≤ c → min (c * 2 ^ x) last ≡ last in
    by_decimation P x h (λ a. omega arith) (λ a. omega arith)

pub row_read : (y r n last height : ℕ) → y ≤ 1 → n ≤ 128 → r < n → min (n * 2 ^ y) (last + 2 ^ y) ≤ height → min (r * 2 ^ y % 2 ^ 64) last + y < height
row_read y r n last height h l =
    let P = λ (y : ℕ). r < n → min (n * 2 ^ y) (last + 2 ^ y) ≤ height → min (r * 2 ^ y % 2 ^ 64) last + y < height in
    by_decimation P y h (λ a b. omega arith) (λ a b. omega arith)

-- and the row above the one that is read last
pub row_place : (y r : ℕ) → y ≤ 1 → r ≤ 128 → r * 2 ^ y % 2 ^ 64 ≡ r * 2 ^ y
row_place y r h l = let P = λ (y : ℕ). r * 2 ^ y % 2 ^ 64 ≡ r * 2 ^ y in by_decimation P y h (omega arith) (omega arith)

pub small_shift : (d : ℕ) → d ≤ 1 → 1 * 2 ^ d % 2 ^ 64 ≤ 2
small_shift d h = let P = λ (d : ℕ). 1 * 2 ^ d % 2 ^ 64 ≤ 2 in by_decimation P d h (omega arith) (omega arith)

-- ---- the luma over one sample of chroma

module _ (f g : ℕ → ℕ → ℕ) (x v y : ℕ) where
  -- two lumas that agree over a sample
  pub covered_same : (a b : ℕ) → a ≤ 1 → b ≤ a → ((s t : ℕ) → s < 2 ^ a → t < 2 ^ b → f (x + s) (v + t) ≡ g (x + s) (y + t)) →
      covered f a b x v ≡ covered g a b x y
  covered_same zero zero h l e = rw (e 0 0 (omega arith) (omega arith)) refl
  covered_same (suc zero) zero h l e = rw (e 0 0 (omega arith) (omega arith), e 1 0 (omega arith) (omega arith)) refl
  covered_same (suc zero) (suc zero) h l e =
      rw (e 0 0 (omega arith) (omega arith), e 1 0 (omega arith) (omega arith), e 0 1 (omega arith) (omega arith), e 1 1 (omega arith) (omega arith)) refl
  covered_same a b h l e = absurd (omega arith)

-- eight samples of 12 bits fit 16 bits
pub covered_small : (f : ℕ → ℕ → ℕ) (x y a b : ℕ) → a ≤ 1 → b ≤ a → ((s t : ℕ) → s < 2 ^ a → t < 2 ^ b → f (x + s) (y + t) < 4096) → covered f a b x y ≤ 32760
covered_small f x y zero zero h l e = let p = e 0 0 (omega arith) (omega arith) in omega (arith, p)
covered_small f x y (suc zero) zero h l e =
    let p = e 0 0 (omega arith) (omega arith) in
    let q = e 1 0 (omega arith) (omega arith) in omega (arith, p, q)
covered_small f x y (suc zero) (suc zero) h l e =
    let p = e 0 0 (omega arith) (omega arith) in
    let q = e 1 0 (omega arith) (omega arith) in
    let r = e 0 1 (omega arith) (omega arith) in
    let s = e 1 1 (omega arith) (omega arith) in omega (arith, p, q, r, s)
covered_small f x y a b h l e = absurd (omega arith)

-- the numbers of a row of a region
pub row_numbers : {T : Type 0} (num : T → ℕ) (r : PlaneRegion T) (row : List T) (y c : ℕ) → row ≡ row_of r.plane_cfg.stride r.area y r.samples.now →
    c < r.area.width → numbers num row c ≡ region_sample num r c y
row_numbers num r row y c e h =
    let i = row_start r.plane_cfg.stride r.area y in
    let s = r.samples.now in
    ap (λ t. numbers num t c) e ∙ ap (λ t. get_or t c 0) (sym (take-map num r.area.width (drop i s)) ∙ ap (take r.area.width) (sym (drop-map num i s)))
    ∙ (get_or-take r.area.width (drop i (map num s)) c 0 h ∙ get_or-drop i (map num s) c 0)

-- ---- the mean

-- numbers of which none is large
pub sum_within : (xs : List ℤ) → ((k : ℕ) → k < length xs → unsigned_abs (get_or xs k (pos 0)) ≤ 32760) → sum (map unsigned_abs xs) ≤ length xs * 32760
sum_within [] h = omega arith
sum_within (x ∷ xs) h =
    let a : unsigned_abs x ≤ 32760 = h 0 (omega arith) in
    let r = sum_within xs (λ k l. h (suc k) (omega arith)) in
    let s : sum (map unsigned_abs (x ∷ xs)) ≡ unsigned_abs x + sum (map unsigned_abs xs) = sum-map unsigned_abs (x ∷ xs) ∙ sum_by-cons unsigned_abs x xs
    ∙ ap (λ n. unsigned_abs x + n) (sym (sum-map unsigned_abs xs)) in
    omega (arith, a, r, s)

-- an entry that is not written yet
pub entry_ahead : (i k : ℕ) (g : ℕ → ℤ → ℤ) (s t : List ℤ) (d : ℤ) → t ≡ paint_row i g s → i ≤ k → k < length s → get_or t k d ≡ get_or s k d
unfolding paint_row
entry_ahead i k g s t d e h l = ap (λ u. get_or u k d) e ∙ (get_or-update _ s k d l ∙ grind (arith, nat_tests))

pub painted_length : (w : ℕ) (g : ℕ → ℤ → ℤ) (s t : List ℤ) → t ≡ paint_row w g s → length t ≡ length s
unfolding paint_row
painted_length w g s t e = ap length e ∙ length-update _ s

-- a list that is painted twice
pub painted_twice : (w : ℕ) (f g : ℕ → ℤ → ℤ) (s t : List ℤ) → t ≡ paint_row w g s → paint_row w f t ≡ paint_row w (λ k v. f k (g k v)) s
unfolding paint_row
painted_twice w f g s t e =
    ap (paint_row w f) e ∙ update_is _ s _ (grind (arith, length-update)) (λ k d l. get_or-update _ _ k d (omega (arith, length-update)) ∙ elim (cases_lt k w) [
      | inl b ↦ (let q = get_or-update (λ c v. cond (ltb c w) (g c v) v) s k d l in grind (arith, nat_tests))
      | inr b ↦ (let q = get_or-update (λ c v. cond (ltb c w) (g c v) v) s k d l in grind (arith, nat_tests))
    ])

-- ---- a block

-- the luma over sample k of row r, which stands in two rows, is that of the region
pub row_luma : {T : Type 0} (num : T → ℕ) (l : PlaneRegion T) (b : ChromaBlock) (top below : List T) (r k i : ℕ) → b.xdec ≤ 1 → b.ydec ≤ b.xdec
    → k < b.width → i ≡ r * b.width + k
    → ((c : ℕ) → c < min (b.width * 2 ^ b.xdec) (b.last_column + 2 ^ b.xdec) → numbers num top c ≡ region_sample num l c (min (r * 2 ^ b.ydec) b.last_row))
    → ((c : ℕ) → c < min (b.width * 2 ^ b.xdec) (b.last_column + 2 ^ b.xdec) →
    numbers num below c ≡ region_sample num l c (min (r * 2 ^ b.ydec) b.last_row + b.ydec))
    → covered (two_rows num top below) b.xdec b.ydec (min (k * 2 ^ b.xdec) b.last_column) 0 ≡ luma_at (region_sample num l) b (i / b.width) (i % b.width)
row_luma num l b top below r k i h m c e ft fb =
    let x = min (k * 2 ^ b.xdec) b.last_column in
    let y = min (r * 2 ^ b.ydec) b.last_row in
    let q : i / b.width ≡ r = ap (λ n. n / b.width) e ∙ div-mul-add r b.width k c in
    let p : i % b.width ≡ k = ap (λ n. n % b.width) e ∙ mod-mul-add r b.width k c in
    let inside : (s : ℕ) → s < 2 ^ b.xdec → x + s < min (b.width * 2 ^ b.xdec) (b.last_column + 2 ^ b.xdec) =
    λ s d. by_decimation (λ a. s < 2 ^ a → min (k * 2 ^ a) b.last_column + s < min (b.width * 2 ^ a) (b.last_column + 2 ^ a)) b.xdec h (λ f. omega arith)
    (λ f. omega arith) d in
    covered_same (two_rows num top below)
    (region_sample num l) x 0 y b.xdec b.ydec h m (λ s t d f. rows_agree num l top below b.ydec (x + s) y t (omega arith) f (ft (x + s) (inside s d))
    (fb (x + s) (inside s d)))
    ∙ sym (ap (λ n. luma_at (region_sample num l) b n (i % b.width)) q ∙ ap (λ n. luma_at (region_sample num l) b r n) p)
  where
    rows_agree : {T : Type 0} (num : T → ℕ) (l : PlaneRegion T) (top below : List T) (b c y t : ℕ) → b ≤ 1 → t < 2 ^ b →
        numbers num top c ≡ region_sample num l c y → numbers num below c ≡ region_sample num l c (y + b) →
        two_rows num top below c (0 + t) ≡ region_sample num l c (y + t)
    rows_agree num l top below b c y zero h f d e = d ∙ ap (region_sample num l c) (omega arith)
    rows_agree num l top below (suc zero) c y (suc zero) h f d e = e
    rows_agree num l top below b c y t h f d e = absurd (omega arith)

-- the same at decimations that are known to be the block's
pub row_luma_of : {T : Type 0} (num : T → ℕ) (l : PlaneRegion T) (b : ChromaBlock) (top below : List T) (r k i y u v : ℕ) → b.xdec ≡ u → b.ydec ≡ v
    → u ≤ 1 → v ≤ u → k < b.width → i ≡ r * b.width + k → y ≡ min (r * 2 ^ v % 2 ^ 64) b.last_row → r ≤ 128 → columns_read b ≤ l.area.width
    → top ≡ row_of l.plane_cfg.stride l.area y l.samples.now → below ≡ row_of l.plane_cfg.stride l.area (y + v) l.samples.now
    → covered (two_rows num top below) u v (min (k * 2 ^ u) b.last_column) 0 ≡ luma_at (region_sample num l) b (i / b.width) (i % b.width)
row_luma_of num l b top below r k i y u v eu ev h m c e ey few wide et eb =
    let x : b.xdec ≤ 1 = subst (λ n. n ≤ 1) (sym eu) h in
    let z : b.ydec ≤ b.xdec = subst (λ n. n ≤ b.xdec) (sym ev) (subst (λ n. v ≤ n) (sym eu) m) in
    let w : y ≡ min (r * 2 ^ b.ydec) b.last_row = ey ∙ ap (λ n. min n b.last_row) (row_place v r (omega arith) few)
    ∙ ap (λ n. min (r * 2 ^ n) b.last_row) (sym ev) in
    let q =
    row_luma num l b top below r k i x z c e (λ p d. row_numbers num l top y p et (omega (arith, d, wide)) ∙ ap (region_sample num l p) w)
    (λ p d. row_numbers num l below (y + v) p eb (omega (arith, d, wide))
    ∙ ap (region_sample num l p) (ap (λ n. n + v) w ∙ ap (λ n. min (r * 2 ^ b.ydec) b.last_row + n) (sym ev))) in
    let F = λ (u v : ℕ). covered (two_rows num top below) u v (min (k * 2 ^ u) b.last_column) 0 in
    sym (ap (λ n. F n b.ydec) eu ∙ ap (F u) ev) ∙ q

-- where sample k of a block of w columns and h rows stands
row_in : (k w h : ℕ) → 0 < w → k < w * h → k / w < h
row_in k w h s l = (div-lt_iff_lt-mul s).1 (subst (λ n. k < n) (mul_comm w h) l)

-- luma of 12 bits fits 16 bits
pub luma_small : (luma : ℕ → ℕ → ℕ) (b : ChromaBlock) (r c : ℕ) → b.xdec ≤ 1 → b.ydec ≤ b.xdec → r < b.height → c < b.width →
    ((x y : ℕ) → x < columns_read b → y < rows_read b → luma x y < 4096) → luma_at luma b r c ≤ 32760
luma_small luma b r c h l m n low =
    let across : (s : ℕ) → s < 2 ^ b.xdec → min (c * 2 ^ b.xdec) b.last_column + s < columns_read b =
    λ s d. by_decimation (λ a. s < 2 ^ a → min (c * 2 ^ a) b.last_column + s < min (b.width * 2 ^ a) (b.last_column + 2 ^ a)) b.xdec h (λ f. omega arith)
    (λ f. omega arith) d in
    let down : (t : ℕ) → t < 2 ^ b.ydec → min (r * 2 ^ b.ydec) b.last_row + t < rows_read b =
    λ t d. by_decimation (λ a. t < 2 ^ a → min (r * 2 ^ a) b.last_row + t < min (b.height * 2 ^ a) (b.last_row + 2 ^ a)) b.ydec (omega arith)
    (λ f. omega arith) (λ f. omega arith) d in
    covered_small luma _ _ b.xdec b.ydec h l (λ s t p q. low _ _ (across s p) (down t q))

-- the same of the luma of all samples
pub each_small : (luma : ℕ → ℕ → ℕ) (b : ChromaBlock) (k : ℕ) → b.xdec ≤ 1 → b.ydec ≤ b.xdec → 0 < b.width → k < b.width * b.height →
    ((x y : ℕ) → x < columns_read b → y < rows_read b → luma x y < 4096) → luma_at luma b (k / b.width) (k % b.width) ≤ 32760
each_small luma b k h l s m low = luma_small luma b (k / b.width) (k % b.width) h l (row_in k b.width b.height s m) (mod-lt k s) low

-- a list in which luma stands
module _ (luma : ℕ → ℕ → ℕ) (b : ChromaBlock) (s t : List ℤ) where
  pub luma_entry : t ≡ with_rows b.width b.height (λ r c. pos (luma_at luma b r c)) s → b.width * b.height ≤ length s → (k : ℕ) → k < b.width * b.height →
      get_or (take (b.width * b.height) t) k (pos 0) ≡ pos (luma_at luma b (k / b.width) (k % b.width))
  luma_entry e h k l =
      get_or-take (b.width * b.height) t k (pos 0) l
      ∙ entry_painted (b.width * b.height) k (λ k _. pos (luma_at luma b (k / b.width) (k % b.width))) s t (pos 0) e l (omega arith)

  pub luma_length : t ≡ with_rows b.width b.height (λ r c. pos (luma_at luma b r c)) s → b.width * b.height ≤ length s →
      length (take (b.width * b.height) t) ≡ b.width * b.height
  luma_length e h = length-take-le (b.width * b.height) t (subst (λ n. b.width * b.height ≤ n) (sym (painted_length _ _ s t e)) h)

  luma_list : t ≡ with_rows b.width b.height (λ r c. pos (luma_at luma b r c)) s → b.width * b.height ≤ length s →
      map unsigned_abs (take (b.width * b.height) t) ≡ lumas luma b
  luma_list e h =
      numbers_are unsigned_abs (λ k. luma_at luma b (k / b.width) (k % b.width)) (take (b.width * b.height) t) (b.width * b.height) (luma_length e h)
      (λ k d l. ap unsigned_abs (get_or_default (take (b.width * b.height) t) k d (pos 0) (omega (arith, luma_length e h)) ∙ luma_entry e h k l))

  -- the mean is taken from it
  pub differences_are : (ys : List ℤ) → t ≡ with_rows b.width b.height (λ r c. pos (luma_at luma b r c)) s → b.width * b.height ≤ length s
      → ys ≡ paint_row (length (take (b.width * b.height) t)) (λ _ v. v -ℤ pos (mean (map unsigned_abs (take (b.width * b.height) t))))
      (take (b.width * b.height) t)
      → ys ++ drop (b.width * b.height) t ≡ with_rows b.width b.height (luma_difference luma b) s
  unfolding luma_difference
  differences_are ys e h q =
      let n = b.width * b.height in
      let m = mean (lumas luma b) in
      let l : length t ≡ length s = painted_length n _ s t e in
      let f = λ (_k : ℕ) (v : ℤ). v -ℤ pos m in
      painted_front n (length (take n t)) _ f t ys (omega arith) (luma_length e h) q (λ k v d. ap (λ xs. v -ℤ pos (mean xs)) (luma_list e h))
      ∙ painted_twice n f (λ k _. pos (luma_at luma b (k / b.width) (k % b.width))) s t e
