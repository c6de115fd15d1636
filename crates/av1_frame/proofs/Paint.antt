-- The steps of a loop that paints a rectangle row by row, and of one that paints a row sample by sample.
use Rattle.std.proofs.Common.{ℕ, ◌+◌, ◌-◌, ◌*◌, ◌/◌, ◌%◌, ◌<◌, ◌≤◌, ◌≡◌, List, length, take, drop, ◌++◌, get_or, set, refl, ap, arith, ◌∙◌, sym, cond, ◌⊎◌, leb}
use Rattle.std.proofs.Common.{ltb, inl, inr}
use Rattle.std.proofs.lemmas.List.{same_lists, places, get_or-set_same, get_or-set_other, length-set, get_or_default}
use Rattle.std.proofs.lemmas.Bool.Decides.{nat_tests}
use Rattle.std.proofs.lemmas.Bool.{cases_eq, cases_lt, cases_order}
use Rattle.std.proofs.lemmas.Nat.{div-mul-add, mod-mul-add}
use Rattle.av1_frame.specs.declared.plane_region.StoredArea.{StoredArea}
use Rattle.av1_frame.specs.Samples.{with_part, part, paint, paint_row, painted_at, corner, in_rows}
use Rattle.av1_frame.specs.Areas.{AreRows}
use Rattle.av1_frame.proofs.Fits.{row_end_le, rows_le}
use Rattle.av1_frame.proofs.Update.{update_is, length-update, get_or-update}

-- no sample of a row is painted yet
pub paint_row_none : {X : Type 0} (g : ℕ → X → X) (s : List X) → s ≡ paint_row 0 g s
unfolding paint_row
paint_row_none g s = update_is _ s s refl (λ k d l. grind (arith, nat_tests))

-- one more sample of a row
pub paint_row_more : {X : Type 0} (c : ℕ) (g : ℕ → X → X) (s : List X) (v : X) → c < length s → v ≡ g c (get_or s c v) →
    set (paint_row c g s) c v ≡ paint_row (c + 1) g s
unfolding paint_row
paint_row_more c g s v h e =
    update_is _ s (set (paint_row c g s) c v) (grind (arith, length-set, length-update))
    (λ k d l. grind (arith, nat_tests, get_or-set_same, get_or-set_other, get_or-update, length-update, get_or_default, cases_eq k c))

-- the same, where the sample x was read from the row t before
pub paint_row_step : {X : Type 0} (c : ℕ) (g : ℕ → X → X) (s t : List X) (x v : X) → t ≡ paint_row c g s → c < length s → x ≡ get_or t c x → v ≡ g c x →
    set t c v ≡ paint_row (c + 1) g s
unfolding paint_row
paint_row_step c g s t x v a h e r =
    let y : x ≡ get_or s c x = e ∙ ap (λ u. get_or u c x) a ∙ (get_or-update _ s c x h ∙ grind (arith, nat_tests)) in
    ap (λ u. set u c v) a ∙ paint_row_more c g s v h (r ∙ ap (g c) (y ∙ get_or_default s c x v h))

-- two changes that agree on the first w samples of a row
pub paint_row_same : {X : Type 0} (w : ℕ) (f g : ℕ → X → X) (s : List X) → ((c : ℕ) (v : X) → c < w → f c v ≡ g c v) → paint_row w f s ≡ paint_row w g s
unfolding paint_row
paint_row_same w f g s e =
    update_is _ s _ (length-update _ s) (λ k d l. get_or-update _ s k d l ∙ elim (cases_lt k w) [
      | inl b ↦ (let t = e k (get_or s k d) b in grind (arith, nat_tests))
      | inr b ↦ grind (arith, nat_tests)
    ])

-- a loop that writes a row sample by sample
pub ruleset row_painting = (paint_row_none, paint_row_more)

-- a painted rectangle leaves the number of samples
pub length_paint : {X : Type 0} (stride : ℕ) (a : StoredArea) (f : ℕ → ℕ → X → X) (s : List X) → length (paint stride a f s) ≡ length s
unfolding paint
length_paint stride a f s = length-update _ s

-- a part that is written back leaves it too
pub length_with_part : {X : Type 0} (i : ℕ) (s ws : List X) → length (with_part i s ws) ≡ length s
length_with_part i s ws = length-update _ s

-- no row of a rectangle is painted yet
pub paint_none : {X : Type 0} (stride : ℕ) (a : StoredArea) (w : ℕ) (f : ℕ → ℕ → X → X) (s : List X) → s ≡ paint stride (corner a w 0) f s
unfolding paint
paint_none stride a w f s = update_is _ s s refl (λ k d l. grind (arith, nat_tests))

-- the sample of a row that is painted, past its start at i
row_elem : {X : Type 0} (i n w k : ℕ) (g : ℕ → X → X) (s : List X) (d : X) → i ≤ k → k < length s → w ≤ n → i + n ≤ length s →
    get_or (paint_row w g (part i n s)) (k - i) (get_or s k d) ≡ cond (ltb (k - i) w) (g (k - i) (get_or s k d)) (get_or s k d)
unfolding paint_row
row_elem i n w k g s d h l q e = grind (arith, nat_tests, places, get_or-update, length-update)

-- each sample after such a row is written back
with_row : {X : Type 0} (i n w k : ℕ) (g : ℕ → X → X) (s : List X) (d : X) → w ≤ n → i + n ≤ length s → k < length s →
    get_or (with_part i s (paint_row w g (part i n s))) k d ≡ cond (leb i k) (cond (ltb (k - i) w) (g (k - i) (get_or s k d)) (get_or s k d)) (get_or s k d)
unfolding paint_row
with_row i n w k g s d q e l =
    get_or-update _ s k d l ∙ elim (cases_lt k i) [
      | inl b ↦ grind (arith, nat_tests)
      | inr b ↦ (let r = row_elem i n w k g s d b l q e in grind (arith, nat_tests))
    ]

-- the sample at row q and column p, when row r is painted
row_painted : {X : Type 0} (stride : ℕ) (a : StoredArea) (w r k p q : ℕ) (f : ℕ → ℕ → X → X) (u v : X) → a.x + w ≤ stride → p < stride
    → k ≡ q * stride + p → u ≡ painted_at (corner a w r) f p q v
    → cond (leb ((a.y + r) * stride + a.x) k) (cond (ltb (k - ((a.y + r) * stride + a.x)) w) (f r (k - ((a.y + r) * stride + a.x)) u) u) u ≡
    painted_at (corner a w (r + 1)) f p q v
row_painted stride a w r k p q f u v h l e t =
    elim (cases_order q (a.y + r)) [
      | inl b ↦ (let m : q * stride ≡ (a.y + r) * stride = ap (λ n. n * stride) b in grind (arith, nat_tests))
      | inr (inl b) ↦ (let m = row_end_le q (a.y + r) stride stride _ refl b (omega arith) in grind (arith, nat_tests))
      | inr (inr b) ↦ (let m = row_end_le (a.y + r) q stride stride _ refl b (omega arith) in grind (arith, nat_tests))
    ]

-- one more row of a rectangle
pub paint_more : {X : Type 0} (stride : ℕ) (a : StoredArea) (w r n : ℕ) (f : ℕ → ℕ → X → X) (s : List X) → 0 < stride → a.x + n ≤ stride → w ≤ n
    → (a.y + r) * stride + a.x + n ≤ length s
    → with_part ((a.y + r) * stride + a.x) (paint stride (corner a w r) f s)
    (paint_row w (f r) (part ((a.y + r) * stride + a.x) n (paint stride (corner a w r) f s))) ≡ paint stride (corner a w (r + 1)) f s
unfolding paint paint_row
paint_more stride a w r n f s z p q h =
    update_is _ s _ (grind (arith, length-update)) (λ k d l. let e : k ≡ k / stride * stride + k % stride = omega arith in
    with_row _ n w k (f r) (paint stride (corner a w r) f s) d q (omega (arith, length-update)) (omega (arith, length-update))
    ∙ row_painted stride a w r k (k % stride) (k / stride) f _ _ (omega arith) (omega arith) e (get_or-update _ s k d l))

-- the sample at column p of row q of a painted rectangle, and of all else
pub paint_at : {X : Type 0} (stride : ℕ) (a : StoredArea) (f : ℕ → ℕ → X → X) (s : List X) (p q : ℕ) (d : X) → p < stride → q * stride + p < length s →
    get_or (paint stride a f s) (q * stride + p) d ≡ painted_at a f p q (get_or s (q * stride + p) d)
unfolding paint
paint_at stride a f s p q d h l =
    get_or-update _ s (q * stride + p) d l ∙ rw (div-mul-add q stride p h, mod-mul-add q stride p h) refl

-- the sample at column p of row q, where the rows of a were painted by themselves and written back
rows_at : {X : Type 0} (stride : ℕ) (a : StoredArea) (w h k p q : ℕ) (f : ℕ → ℕ → X → X) (s : List X) (d : X) → p < stride → k ≡ q * stride + p → k < length s
    → h ≤ a.height → (a.y + a.height) * stride ≤ length s
    → get_or (with_part (a.y * stride) s (paint stride (in_rows a w h) f (part (a.y * stride) (a.height * stride) s))) k d ≡
    painted_at (corner a w h) f p q (get_or s k d)
rows_at stride a w h k p q f s d lt is within few rows =
    let first = a.y * stride in
    let own = part first (a.height * stride) s in
    let split : (a.y + a.height) * stride ≡ first + a.height * stride = grind arith in
    get_or-update _ s k d within ∙ elim (cases_lt q a.y) [
      | inl b ↦ (let m = row_end_le q a.y stride stride _ refl b (omega arith) in grind (arith, nat_tests))
      | inr b ↦ elim (cases_lt q (a.y + a.height)) [
        | inl c ↦
            let r = q - a.y in
            let q_is : q ≡ a.y + r = omega arith in
            let there : q * stride ≡ first + r * stride = ap (λ n. n * stride) q_is ∙ grind arith in
            let m = row_end_le r a.height stride stride _ refl (omega arith) (omega arith) in
            let place : k - first ≡ r * stride + p = omega arith in
            let inside : r * stride + p < length own = grind (arith, places) in
            let own_is : get_or own (r * stride + p) (get_or s k d) ≡ get_or s k d = grind (arith, places) in
            let painted = paint_at stride (in_rows a w h) f own p r (get_or s k d) lt inside in
            rw (place, painted, own_is) (grind (arith, nat_tests))
        | inr c ↦
            let m = rows_le (a.y + a.height) q stride _ refl c in
            grind (arith, nat_tests, places, length_paint)
      ]
    ]

-- rows that are painted by themselves and written back
pub paint_rows : {X : Type 0} (stride : ℕ) (a : StoredArea) (w h : ℕ) (f : ℕ → ℕ → X → X) (s : List X) → 0 < stride → h ≤ a.height →
    (a.y + a.height) * stride ≤ length s
    → with_part (a.y * stride) s (paint stride (in_rows a w h) f (part (a.y * stride) (a.height * stride) s)) ≡ paint stride (corner a w h) f s
paint_rows stride a w h f s some few rows =
    same_lists _ _ (length_with_part _ s _ ∙ sym (length_paint stride (corner a w h) f s)) (λ k d l.
    let own = paint stride (in_rows a w h) f (part (a.y * stride) (a.height * stride) s) in
    let within : k < length s = omega (arith, l, length_with_part (a.y * stride) s own) in
    let e : k ≡ k / stride * stride + k % stride = omega arith in
    rows_at stride a w h k (k % stride) (k / stride) f s d (omega arith) e within few rows
    ∙ sym (ap (λ n. get_or (paint stride (corner a w h) f s) n d) e ∙ paint_at stride (corner a w h) f s (k % stride) (k / stride) d (omega arith) (omega arith)
    ∙ ap (λ n. painted_at (corner a w h) f (k % stride) (k / stride) (get_or s n d)) (sym e)))

pub paint_inside : {X : Type 0} (stride : ℕ) (a : StoredArea) (f : ℕ → ℕ → X → X) (s : List X) (r c : ℕ) (d : X) → r < a.height → c < a.width
    → a.x + a.width ≤ stride → (a.y + r) * stride + (a.x + c) < length s
    → get_or (paint stride a f s) ((a.y + r) * stride + (a.x + c)) d ≡ f r c (get_or s ((a.y + r) * stride + (a.x + c)) d)
paint_inside stride a f s r c d h e w l =
    let t = paint_at stride a f s (a.x + c) (a.y + r) d (omega arith) l in grind (arith, nat_tests)

same_at : {X : Type 0} (a : StoredArea) (p q : ℕ) (f g : ℕ → ℕ → X → X) (v : X) → ((r c : ℕ) (v : X) → r < a.height → c < a.width → f r c v ≡ g r c v) →
    painted_at a f p q v ≡ painted_at a g p q v
same_at a p q f g v e =
    elim (cases_lt p a.x) [
      | inl b ↦ grind (arith, nat_tests)
      | inr b ↦ elim (cases_lt p (a.x + a.width)) [
        | inr c ↦ grind (arith, nat_tests)
        | inl c ↦ elim (cases_lt q a.y) [
          | inl d ↦ grind (arith, nat_tests)
          | inr d ↦ elim (cases_lt q (a.y + a.height)) [
            | inr h ↦ grind (arith, nat_tests)
            | inl h ↦ (let t = e (q - a.y) (p - a.x) v (omega arith) (omega arith) in grind (arith, nat_tests))
          ]
        ]
      ]
    ]

-- two changes that agree in the rectangle paint the same
pub paint_same : {X : Type 0} (stride : ℕ) (a : StoredArea) (f g : ℕ → ℕ → X → X) (s : List X) →
    ((r c : ℕ) (v : X) → r < a.height → c < a.width → f r c v ≡ g r c v) → paint stride a f s ≡ paint stride a g s
unfolding paint
paint_same stride a f g s e =
    update_is _ s _ (length-update _ s) (λ k d l. get_or-update _ s k d l ∙ same_at a (k % stride) (k / stride) f g (get_or s k d) e)

nothing_at : {X : Type 0} (a : StoredArea) (p q : ℕ) (f : ℕ → ℕ → X → X) (v : X) → (a.width ≡ 0) ⊎ (a.height ≡ 0) → painted_at a f p q v ≡ v
nothing_at a p q f v (inl e) = grind (arith, nat_tests)
nothing_at a p q f v (inr e) = grind (arith, nat_tests)

-- a rectangle with no samples
pub paint_empty : {X : Type 0} (stride : ℕ) (a : StoredArea) (f : ℕ → ℕ → X → X) (s : List X) → (a.width ≡ 0) ⊎ (a.height ≡ 0) → paint stride a f s ≡ s
unfolding paint
paint_empty stride a f s e =
    sym (update_is _ s s refl (λ k d l. sym (nothing_at a (k % stride) (k / stride) f (get_or s k d) e)))

-- a row that is painted keeps its length
pub length-paint_row : {X : Type 0} (w : ℕ) (g : ℕ → X → X) (s : List X) → length (paint_row w g s) ≡ length s
unfolding paint_row
length-paint_row w g s = length-update _ s

-- a row of the rest of a slice, from its place n on, is painted: each element after that
rest_elem : {X : Type 0} (n w k : ℕ) (g : ℕ → X → X) (t : List X) (d : X) → n + w ≤ length t → k < length t →
    get_or (take n t ++ paint_row w g (drop n t)) k d ≡ cond (leb n k) (cond (ltb (k - n) w) (g (k - n) (get_or t k d)) (get_or t k d)) (get_or t k d)
unfolding paint_row
rest_elem n w k g t d h l =
    elim (cases_lt k n) [
      | inl b ↦ grind (arith, nat_tests, places, length-update)
      | inr b ↦ (let q : k - n < length (drop n t) = grind (arith, places) in let e = get_or-update (λ c v. cond (ltb c w) (g c v) v) (drop n t) (k - n) d q
          in grind (arith, nat_tests, places, length-update))
    ]

rest_is : {X : Type 0} (n w : ℕ) (g : ℕ → X → X) (t : List X) → n + w ≤ length t →
    take n t ++ paint_row w g (drop n t) ≡ with_part n t (paint_row w g (part n w t))
rest_is n w g t h =
    update_is _ t _ (let e = length-paint_row w g (drop n t) in grind (arith, places))
    (λ k d l. rest_elem n w k g t d h l ∙ sym (with_row n w w k g t d (omega arith) h l) ∙ get_or-update _ t k d l)

-- row y of the rectangle a ends in them, and begins in them
pub row_within : (stride : ℕ) (a : StoredArea) (n y : ℕ) → AreRows stride a n → y < a.height → (a.y + y) * stride + a.x + a.width ≤ n
row_within stride a n y f h =
    let e = row_end_le (a.y + y) (a.y + a.height) stride (a.x + a.width) _ refl (omega arith) f.columns in
    omega (arith, e, f.rows)

pub row_starts_within : (stride : ℕ) (a : StoredArea) (n y : ℕ) → AreRows stride a n → y < a.height → (a.y + y) * stride + a.x ≤ n
row_starts_within stride a n y f h = let e = row_within stride a n y f h in omega arith

-- one more row: all from the row on was taken, the row was painted, and it was joined again
pub row_painted_rest : {X : Type 0} (stride : ℕ) (a : StoredArea) (r : ℕ) (f : ℕ → ℕ → X → X) (s t front rest new : List X) → AreRows stride a (length s) →
    r < a.height → t ≡ paint stride (corner a a.width r) f s
    → let n : ℕ = (a.y + r) * stride + a.x in front ≡ take n t → rest ≡ drop n t → new ≡ paint_row a.width (f r) rest →
    front ++ new ≡ paint stride (corner a a.width (r + 1)) f s
row_painted_rest stride a r f s t front rest new h l e p q b =
    let n : ℕ = (a.y + r) * stride + a.x in
    let fits : n + a.width ≤ length s = row_within stride a (length s) r h l in
    let same : length t ≡ length s = ap length e ∙ length_paint stride _ f s in
    ap (λ u. u ++ new) p ∙ ap (λ u. take n t ++ u) (b ∙ ap (paint_row a.width (f r)) q) ∙ rest_is n a.width (f r) t (omega arith)
    ∙ ap (λ u. with_part n u (paint_row a.width (f r) (part n a.width u))) e ∙ paint_more stride a a.width r a.width f s h.some h.columns (omega arith) fits

-- a loop that writes a rectangle of a slice row by row; `row_painted_rest` closes it
pub ruleset rectangle_painting = (paint_none, length_paint, row_starts_within, row_within)
