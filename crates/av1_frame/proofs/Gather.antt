-- Samples that are gathered from other places: sides that are filled, rows that are copied.
use Rattle.std.proofs.Common.{ℕ, ◌+◌, ◌-◌, ◌*◌, ◌/◌, ◌%◌, ◌<◌, ◌≤◌, ◌≡◌, ◌≢◌, List, length, get_or, set, refl, ap, arith, ◌∙◌, sym, cond, leb}
use Rattle.std.proofs.Common.{ltb, ◌&&◌, ◌⊎◌, inl, inr}
use Rattle.std.proofs.lemmas.List.{places, get_or-set_same, get_or-set_other, length-set, get_or_default, get_or_past}
use Rattle.std.proofs.lemmas.Bool.Decides.{nat_tests}
use Rattle.std.proofs.lemmas.Bool.{cases_eq, cases_lt, cases_order}
use Rattle.std.proofs.lemmas.Nat.{div-mul-add, mod-mul-add}
use Rattle.av1_frame.specs.Samples.{gathered, with_part, part}
use Rattle.av1_frame.specs.Planes.{nearest}
use Rattle.av1_frame.proofs.Fits.{row_end_le}
use Rattle.av1_frame.proofs.Update.{update_is, length-update, get_or-update}

pub length-gathered : {X : Type 0} (g : ℕ → ℕ) (s : List X) → length (gathered g s) ≡ length s
unfolding gathered
length-gathered g s = length-update _ s

pub get_or-gathered : {X : Type 0} (g : ℕ → ℕ) (s : List X) (k : ℕ) (d : X) → k < length s → g k < length s → get_or (gathered g s) k d ≡ get_or s (g k) d
unfolding gathered
get_or-gathered g s k d h l = get_or-update _ s k d h ∙ get_or_default s (g k) (get_or s k d) d l

-- a list whose elements stood at those places is the gathered one
pub gathered_is : {X : Type 0} (g : ℕ → ℕ) (s t : List X) → length t ≡ length s → ((k : ℕ) → k < length s → g k < length s) →
    ((k : ℕ) (d : X) → k < length s → get_or t k d ≡ get_or s (g k) d) → t ≡ gathered g s
unfolding gathered
gathered_is g s t e b h =
    update_is _ s t e (λ k d l. h k d l ∙ get_or_default s (g k) d (get_or s k d) (b k l))

-- gathered twice
pub gathered_twice : {X : Type 0} (g h : ℕ → ℕ) (s : List X) → ((k : ℕ) → k < length s → g k < length s) → ((k : ℕ) → k < length s → h k < length s) →
    gathered h (gathered g s) ≡ gathered (λ k. g (h k)) s
gathered_twice g h s b c =
    gathered_is (λ k. g (h k)) s (gathered h (gathered g s)) (length-gathered h (gathered g s) ∙ length-gathered g s) (λ k l. b (h k) (c k l))
    (λ k d l. get_or-gathered h (gathered g s) k d (omega (arith, length-gathered g s)) (omega (arith, length-gathered g s, c k l))
    ∙ get_or-gathered g s (h k) d (c k l) (b (h k) (c k l)))

-- gathered from the same places
pub gathered_same : {X : Type 0} (g h : ℕ → ℕ) (s : List X) → ((k : ℕ) → k < length s → h k < length s) → ((k : ℕ) → k < length s → g k ≡ h k) →
    gathered g s ≡ gathered h s
gathered_same g h s b e =
    gathered_is h s (gathered g s) (length-gathered g s) b (λ k d l. get_or-gathered g s k d l (let t = b k l in omega (arith, e k l))
    ∙ ap (λ i. get_or s i d) (e k l))

-- each from its own place
pub gathered_none : {X : Type 0} (g : ℕ → ℕ) (s : List X) → ((k : ℕ) → k < length s → g k ≡ k) → s ≡ gathered g s
gathered_none g s e =
    gathered_is g s s refl (λ k l. omega (arith, e k l)) (λ k d l. ap (λ i. get_or s i d) (sym (e k l)))

-- one more element takes the value x, which stood at the place g k
pub gathered_set : {X : Type 0} (g h : ℕ → ℕ) (s t : List X) (k : ℕ) (x : X) → t ≡ gathered g s → k < length s → ((i : ℕ) → i < length s → g i < length s) →
    ((i : ℕ) → i < length s → h i < length s) → ((i : ℕ) → i < length s → i ≢ k → h i ≡ g i) → x ≡ get_or s (h k) x → set t k x ≡ gathered h s
gathered_set g h s t k x a l b c e r =
    ap (λ u. set u k x) a ∙ gathered_is h s (set (gathered g s) k x) (grind (arith, length-set, length-gathered)) c (λ i d m. elim (cases_eq i k) [
      | inl f ↦ ap (λ j. get_or (set (gathered g s) k x) j d) f ∙ get_or-set_same (gathered g s) k x d (omega (arith, length-gathered g s)) ∙ r
          ∙ get_or_default s (h k) x d (c k l) ∙ ap (λ j. get_or s (h j) d) (sym f)
      | inr f ↦ get_or-set_other (gathered g s) k i x d f ∙ get_or-gathered g s i d m (b i m) ∙ ap (λ j. get_or s j d) (sym (e i m f))
    ])

-- place k, or `from` where k is one of first .. end - 1
abbrev pub spread_place : ℕ → ℕ → ℕ → ℕ → ℕ
spread_place from first end k = cond (leb first k && ltb k end) from k

-- the same column of row `from` where place k lies in one of the rows first .. end - 1, else k
abbrev pub row_place : ℕ → ℕ → ℕ → ℕ → ℕ → ℕ
row_place stride from first end k = cond (leb first (k / stride) && ltb (k / stride) end) from (k / stride) * stride + k % stride

-- the nearest column of the w from column x on, in the rows from row `first` to before row `end`; else k
abbrev pub side_place : ℕ → ℕ → ℕ → ℕ → ℕ → ℕ → ℕ
side_place stride x w first end k =
    k / stride * stride + cond (leb first (k / stride) && ltb (k / stride) end) (nearest x w (k % stride)) (k % stride)

pub spread_none : {X : Type 0} (from first : ℕ) (s : List X) → gathered (spread_place from first first) s ≡ s
spread_none from first s = sym (gathered_none _ s (λ k l. grind (arith, nat_tests)))

spread_bound : (from first end n k : ℕ) → from < n → k < n → spread_place from first end k < n
spread_bound from first end n k h l = grind (arith, nat_tests)

pub spread_more : {X : Type 0} (from first c : ℕ) (s t : List X) (x : X) → t ≡ gathered (spread_place from first c) s → first ≤ c → c < length s →
    from < length s → x ≡ get_or s from x → set t c x ≡ gathered (spread_place from first (c + 1)) s
spread_more from first c s t x e f l m r =
    let h : spread_place from first (c + 1) c ≡ from = grind (arith, nat_tests) in
    gathered_set (spread_place from first c) (spread_place from first (c + 1)) s t c x e l (λ i j. spread_bound from first c (length s) i m j)
    (λ i j. spread_bound from first (c + 1) (length s) i m j) (λ i j n. grind (arith, nat_tests)) (r ∙ ap (λ k. get_or s k x) (sym h))

both_sides : (x w n k : ℕ) → 0 < w → x + w ≤ n → k < n → spread_place x 0 x (spread_place (x + w - 1) (x + w) n k) ≡ nearest x w k
both_sides x w n k h l m =
    elim (cases_lt k x) [
      | inl b ↦ grind (arith, nat_tests)
      | inr b ↦ elim (cases_lt k (x + w)) [
        | inl c ↦ grind (arith, nat_tests)
        | inr c ↦ grind (arith, nat_tests)
      ]
    ]

-- a row whose two sides were filled
pub row_sides : {X : Type 0} (x w n : ℕ) (s t u : List X) → 0 < w → x + w ≤ length s → n ≡ length s → t ≡ gathered (spread_place x 0 x) s →
    u ≡ gathered (spread_place (x + w - 1) (x + w) n) t → u ≡ gathered (nearest x w) s
row_sides x w n s t u h l e a b =
    let near : (k : ℕ) → k < length s → nearest x w k < length s = λ k m. omega arith in
    b ∙ ap (gathered (spread_place (x + w - 1) (x + w) n)) a
    ∙ gathered_twice _ _ s (λ k m. spread_bound x 0 x (length s) k (omega arith) m) (λ k m. spread_bound (x + w - 1) (x + w) n (length s) k (omega arith) m)
    ∙ gathered_same _ (nearest x w) s near (λ k m. both_sides x w n k h (omega arith) (omega arith))

taken : {X : Type 0} (i k : ℕ) (a b : X) → i ≤ k → cond (leb i k) a b ≡ a
taken i k a b h = grind (arith, nat_tests)

left_alone : {X : Type 0} (i k : ℕ) (a b : X) → k < i → cond (leb i k) a b ≡ b
left_alone i k a b h = grind (arith, nat_tests)

-- one more row takes ws, which stood at the places that h names
pub row_gathered : {X : Type 0} (stride y : ℕ) (g h : ℕ → ℕ) (s ws : List X) → 0 < stride → y * stride + stride ≤ length s → length ws ≡ stride
    → ((k : ℕ) → k < length s → g k < length s) → ((k : ℕ) → k < length s → h k < length s) → ((k : ℕ) → k < length s → k / stride ≢ y → h k ≡ g k)
    → ((c : ℕ) (d : X) → c < stride → get_or ws c d ≡ get_or s (h (y * stride + c)) d) → with_part (y * stride) (gathered g s) ws ≡ gathered h s
row_gathered stride y g h s ws z f e gb hb other row =
    gathered_is h s (with_part (y * stride) (gathered g s) ws) (length-update _ (gathered g s) ∙ length-gathered g s) hb (λ k d l.
    let t = gathered g s in
    let v = get_or t k d in
    let b : k ≡ k / stride * stride + k % stride = omega arith in
    get_or-update _ t k d (omega (arith, length-gathered g s)) ∙ elim (cases_order (k / stride) y) [
      | inl q ↦ (let r : k / stride * stride ≡ y * stride = ap (λ n. n * stride) q in
          let a : k ≡ y * stride + k % stride = omega (arith, b, r) in
          let p : get_or ws (k - y * stride) v ≡ get_or ws (k % stride) v = ap (λ i. get_or ws i v) (omega (arith, a)) in
          taken (y * stride) k (get_or ws (k - y * stride) v) v (omega (arith, a)) ∙ p ∙ row (k % stride) v (omega arith) ∙ ap (λ i. get_or s (h i) v) (sym a)
          ∙ get_or_default s (h k) v d (hb k l))
      | inr (inl q) ↦ (let m = row_end_le (k / stride) y stride stride (y * stride) refl q (omega arith) in
          left_alone (y * stride) k (get_or ws (k - y * stride) v) v (omega (arith, b, m)) ∙ get_or-gathered g s k d l (gb k l)
          ∙ ap (λ i. get_or s i d) (sym (other k l (omega arith))))
      | inr (inr q) ↦ (let m = row_end_le y (k / stride) stride stride (k / stride * stride) refl q (omega arith) in
          taken (y * stride) k (get_or ws (k - y * stride) v) v (omega (arith, b, m)) ∙ get_or_past ws (k - y * stride) v (omega (arith, b, m))
          ∙ get_or-gathered g s k d l (gb k l) ∙ ap (λ i. get_or s i d) (sym (other k l (omega arith))))
    ])

pub row_bound : (stride from first end h n k : ℕ) → 0 < stride → n ≡ h * stride → from < h → k < n → row_place stride from first end k < n
row_bound stride from first end h n k z e f l =
    let b : k ≡ k / stride * stride + k % stride = omega arith in
    let m = row_end_le from h stride (k % stride + 1) n e f (omega arith) in
    grind (arith, nat_tests)

pub rows_none : {X : Type 0} (stride from first : ℕ) (s : List X) → gathered (row_place stride from first first) s ≡ s
rows_none stride from first s =
    sym (gathered_none _ s (λ k l. let b : k ≡ k / stride * stride + k % stride = omega arith in grind (arith, nat_tests)))

-- the row of place p of row y
at_row : (stride y c : ℕ) → c < stride → (y * stride + c) / stride ≡ y
at_row stride y c h = div-mul-add y stride c h

at_column : (stride y c : ℕ) → c < stride → (y * stride + c) % stride ≡ c
at_column stride y c h = mod-mul-add y stride c h

pub row_place_at : (stride from first end r c : ℕ) → c < stride →
    row_place stride from first end (r * stride + c) ≡ cond (leb first r && ltb r end) from r * stride + c
row_place_at stride from first end r c h = rw (at_row stride r c h, at_column stride r c h) refl

chosen_row : (first end from r stride c s : ℕ) → cond (leb first r && ltb r end) from r ≡ s →
    cond (leb first r && ltb r end) from r * stride + c ≡ s * stride + c
chosen_row first end from r stride c s e = ap (λ n. n * stride + c) e

pub rows_more : {X : Type 0} (stride from first y h : ℕ) (s : List X) → 0 < stride → length s ≡ h * stride → from < h → y < h → first ≤ y
    → (from < first) ⊎ (y < from)
    → with_part (y * stride) (gathered (row_place stride from first y) s) (part (from * stride) stride (gathered (row_place stride from first y) s)) ≡
    gathered (row_place stride from first (y + 1)) s
rows_more stride from first y h s z e f l m apart =
    let g = row_place stride from first y in
    let t = gathered g s in
    let fy = row_end_le y h stride stride (length s) e l (omega arith) in
    let ff = row_end_le from h stride stride (length s) e f (omega arith) in
    let lt = length-gathered g s in
    row_gathered stride y g (row_place stride from first (y + 1)) s (part (from * stride) stride t) z fy (grind (arith, places, lt, ff))
    (λ k i. row_bound stride from first y h (length s) k z e f i)
    (λ k i. row_bound stride from first (y + 1) h (length s) k z e f i) (λ k i n. grind (arith, nat_tests)) (λ c d i.
    let a : from * stride + c < length s = omega (arith, ff, i) in
    let p : get_or (part (from * stride) stride t) c d ≡ get_or t (from * stride + c) d = grind (arith, places, lt, ff) in
    let u : g (from * stride + c) ≡ from * stride + c = row_place_at stride from first y from c i
    ∙ chosen_row first y from from stride c from (grind (arith, nat_tests)) in
    let v : row_place stride from first (y + 1) (y * stride + c) ≡ from * stride + c = row_place_at stride from first (y + 1) y c i
    ∙ chosen_row first (y + 1) from y stride c from (grind (arith, nat_tests)) in
    p ∙ get_or-gathered g s (from * stride + c) d a (omega (arith, u, a)) ∙ ap (λ k. get_or s k d) (u ∙ sym v))

-- the row of a place lies in storage
pub row_stored : (stride h n k : ℕ) → n ≡ h * stride → k < n → k / stride < h
row_stored stride h n k e l = grind arith

pub side_bound : (stride x w first end h n k : ℕ) → 0 < w → x + w ≤ stride → n ≡ h * stride → k < n → side_place stride x w first end k < n
side_bound stride x w first end h n k z f e l =
    let b : k ≡ k / stride * stride + k % stride = omega arith in
    let r = row_stored stride h n k e l in
    let m = row_end_le (k / stride) h stride stride n e r (omega arith) in
    let c : cond (leb first (k / stride) && ltb (k / stride) end) (nearest x w (k % stride)) (k % stride) < stride = grind (arith, nat_tests) in
    omega (arith, m, c)

pub sides_none : {X : Type 0} (stride x w first : ℕ) (s : List X) → gathered (side_place stride x w first first) s ≡ s
sides_none stride x w first s =
    sym (gathered_none _ s (λ k l. let b : k ≡ k / stride * stride + k % stride = omega arith in grind (arith, nat_tests)))

pub side_place_at : (stride x w first end r c : ℕ) → c < stride →
    side_place stride x w first end (r * stride + c) ≡ r * stride + cond (leb first r && ltb r end) (nearest x w c) c
side_place_at stride x w first end r c h = rw (at_row stride r c h, at_column stride r c h) refl

-- one more row whose sides were filled
pub sides_more : {X : Type 0} (stride x w first y h : ℕ) (s ws : List X) → 0 < w → x + w ≤ stride → length s ≡ h * stride → first ≤ y → y < h
    → ws ≡ gathered (nearest x w) (part (y * stride) stride (gathered (side_place stride x w first y) s))
    → with_part (y * stride) (gathered (side_place stride x w first y) s) ws ≡ gathered (side_place stride x w first (y + 1)) s
sides_more stride x w first y h s ws z f e behind l a =
    let g = side_place stride x w first y in
    let t = gathered g s in
    let row = part (y * stride) stride t in
    let fy = row_end_le y h stride stride (length s) e l (omega arith) in
    let lt = length-gathered g s in
    let lr : length row ≡ stride = grind (arith, places, lt, fy) in
    row_gathered stride y g (side_place stride x w first (y + 1)) s ws (omega arith) fy (ap length a ∙ length-gathered (nearest x w) row ∙ lr)
    (λ k i. side_bound stride x w first y h (length s) k z f e i) (λ k i. side_bound stride x w first (y + 1) h (length s) k z f e i)
    (λ k i n. grind (arith, nat_tests)) (λ c d i.
    let m : nearest x w c < stride = omega arith in
    let j = y * stride + nearest x w c in
    let b : j < length s = omega (arith, fy, m) in
    let p : get_or row (nearest x w c) d ≡ get_or t j d = grind (arith, places, lt, fy) in
    let u : g j ≡ j = side_place_at stride x w first y y (nearest x w c) m ∙ ap (λ n. y * stride + n) (grind (arith, nat_tests)) in
    let v : side_place stride x w first (y + 1) (y * stride + c) ≡ j = side_place_at stride x w first (y + 1) y c i
    ∙ ap (λ n. y * stride + n) (grind (arith, nat_tests)) in
    ap (λ r. get_or r c d) a ∙ get_or-gathered (nearest x w) row c d (omega (arith, lr)) (omega (arith, lr, m)) ∙ p
    ∙ get_or-gathered g s j d b (omega (arith, u, b)) ∙ ap (λ k. get_or s k d) (u ∙ sym v))
