-- Rows and columns of a list that stands row by row.
use Rattle.std.proofs.Common.{ℕ, cond, ltb, leb, ◌&&◌, ◌-◌, ◌≡◌, ◌==◌, ◌+◌, ◌-◌, ◌*◌, ◌/◌, ◌<◌, ◌≤◌, ℤ, pos, List, map, length, set, get_or, arith, ap, sym}
use Rattle.std.proofs.Common.{refl, ◌∙◌, inl}
use Rattle.std.proofs.Common.{inr, get_or-set_other, get_or-set_same}
use Rattle.std.proofs.lemmas.Bool.{cases_lt, cases_eq, cases_order}
use Rattle.std.proofs.lemmas.Bool.Decides.{nat_tests}
use Rattle.std.proofs.lemmas.List.{get_or-map}
use Rattle.std.proofs.Math.Nat.{add-mul, mod-lt, mul-le-mul_right, mul_assoc, mul_comm}
use Rattle.std.proofs.lemmas.Nat.{div-add-mod'}
use Rattle.av1_frame.proofs.Fits.{row_end_le}
use Rattle.av1_dct.specs.Arithmetic.{at}
use Rattle.av1_dct.proofs.Groups.{put, put-low, put-mid}

pub place_in : (r c w h : ℕ) → r < h → c < w → r * w + c < h * w
place_in r c w h hr hc = let e = row_end_le r h w (c + 1) (h * w) refl hr (omega arith) in omega arith

-- places of different rows differ
pub place_before : (r c w q : ℕ) → r < q → c < w → r * w + c < q * w
place_before r c w q hr hc = place_in r c w q hr hc

pub same_place : (r q w c d : ℕ) → c < w → d < w → r * w + c ≡ q * w + d → (r ≡ q) × (c ≡ d)
same_place r q w c d hc hd e =
    elim (cases_order r q) [
      | inl b ↦ (b, (let m : r * w ≡ q * w = ap (λ n. n * w) b in omega arith))
      | inr (inl b) ↦ absurd (let m = place_before r c w q b hc in omega arith)
      | inr (inr b) ↦ absurd (let m = place_before q d w r b hd in omega arith)
    ]

-- m more rows of w places, from place a on
pub rows_more : (w q m n a : ℕ) (f : ℕ → ℕ → ℤ) (buf out : List ℤ) → ((r c : ℕ) → r < q → c < w → at buf (r * w + c) ≡ f r c) → a ≡ q * w → n ≡ m * w →
    length out ≡ n → a + n ≤ length buf
    → ((j c : ℕ) → j < m → c < w → at out (j * w + c) ≡ f (q + j) c) → (r c : ℕ) → r < q + m → c < w → at (put a n buf out) (r * w + c) ≡ f r c
rows_more w q m n a f buf out before is_a is_n len room here = λ r c hr hc.
    elim (cases_lt r q) [
      | inl b ↦ (let below = place_before r c w q b hc in put-low a n buf out (r * w + c) (omega arith) (omega arith) ∙ before r c b hc)
      | inr b ↦ (let e : q + (r - q) ≡ r = omega arith in
          let split : q * w + (r - q) * w ≡ r * w = sym (add-mul q (r - q) w) ∙ ap (λ k. k * w) e in
          let inside = place_in (r - q) c w m (omega arith) hc in
          let d : r * w + c - a ≡ (r - q) * w + c = omega arith in
          put-mid a n buf out (r * w + c) (omega arith) (omega arith) (omega arith) ∙ ap (at out) d ∙ here (r - q) c (omega arith) hc ∙ ap (λ k. f k c) e)
    ]

-- one more place of column c
pub column_step : (w c n k : ℕ) (old buf : List ℤ) (t : ℕ → ℤ) (v : ℤ) → c < w → k < n → length buf ≡ n * w → v ≡ t k
    → ((r q : ℕ) → r < n → q < w → at buf (r * w + q) ≡ cond (q == c) (cond (ltb r k) (t r) (at old (r * w + q))) (at old (r * w + q)))
    → (r q : ℕ) → r < n → q < w → at (set buf (k * w + c) v) (r * w + q) ≡ cond (q == c) (cond (ltb r (k + 1)) (t r) (at old (r * w + q))) (at old (r * w + q))
column_step w c n k old buf t v hc hk len is inv = λ r q hr hq.
    let i = inv r q hr hq in
    let inside = place_in k c w n hk hc in
    let same = same_place r k w q c hq hc in
    elim (cases_eq (r * w + q) (k * w + c)) [
      | inl e ↦ (let s = same e in let z : at (set buf (k * w + c) v) (r * w + q) ≡ v = ap (at (set buf (k * w + c) v)) e
          ∙ get_or-set_same buf (k * w + c) v (pos 0) (omega arith) in grind (arith, nat_tests, s.0, s.1))
      | inr e ↦ (let z : at (set buf (k * w + c) v) (r * w + q) ≡ at buf (r * w + q) = grind (arith, get_or-set_other) in grind (arith, nat_tests))
    ]

-- the rest of the rows, where it is zeros
pub rows_end : (w q n h : ℕ) (f : ℕ → ℕ → ℤ) (buf out : List ℤ) → ((r c : ℕ) → r < q → c < w → at buf (r * w + c) ≡ f r c) → q ≤ h
    → length buf ≡ h * w → n ≡ length buf - q * w → length out ≡ n → ((i : ℕ) → at out i ≡ pos 0) → ((r c : ℕ) → q ≤ r → f r c ≡ pos 0) → (r c : ℕ)
    → r < h → c < w → at (put (q * w) n buf out) (r * w + c) ≡ f r c
rows_end w q n h f buf out before le len is_n out_len zero none = λ r c hr hc.
    let inside = place_in r c w h hr hc in
    let room = mul-le-mul_right w le in
    elim (cases_lt r q) [
      | inl b ↦ put-low (q * w) n buf out (r * w + c) (place_before r c w q b hc) (omega arith) ∙ before r c b hc
      | inr b ↦ (let m = mul-le-mul_right w b in put-mid (q * w) n buf out (r * w + c) (omega arith) (omega arith) (omega arith) ∙ zero _ ∙ sym (none r c b))
    ]

-- one more column
pub columns_more : (w c h : ℕ) (new old : List ℤ) (t : ℕ → ℤ) (F G : ℕ → ℕ → ℤ)
    → ((r q : ℕ) → r < h → q < w → at old (r * w + q) ≡ cond (ltb q c) (F r q) (G r q))
    → ((r q : ℕ) → r < h → q < w → at new (r * w + q) ≡ cond (q == c) (t r) (at old (r * w + q)))
    → ((r : ℕ) → r < h → t r ≡ F r c) → (r q : ℕ) → r < h → q < w → at new (r * w + q) ≡ cond (ltb q (c + 1)) (F r q) (G r q)
columns_more w c h new old t F G before now here = λ r q hr hq.
    let a = before r q hr hq in
    let b = now r q hr hq in
    let d = here r hr in
    elim (cases_order q c) [
      | inl e ↦ (let s : F r q ≡ F r c = ap (F r) e in grind (arith, nat_tests))
      | inr (inl e) ↦ grind (arith, nat_tests)
      | inr (inr e) ↦ grind (arith, nat_tests)
    ]

-- what a function of an element that was read is
pub read_at : {X : Type 0} (f : X → ℤ) (xs : List X) (q : ℕ) (x : X) → q < length xs → x ≡ get_or xs q x → f x ≡ at (map f xs) q
read_at f xs q x h e = ap f e ∙ sym (get_or-map f xs q x (pos 0) h)

-- a buffer whose first columns were written
pub column_written : (n w c h : ℕ) (buf old : List ℤ) (F : ℕ → ℕ → ℤ) →
    ((r q : ℕ) → r < h → q < w → at buf (r * w + q) ≡ cond (ltb q c) (F r q) (at old (r * w + q))) → n ≤ c → n ≤ w → (r q : ℕ) → r < h → q < n →
    at buf (r * w + q) ≡ F r q
column_written n w c h buf old F inv le few r q hr hq = let i = inv r q hr (omega arith) in grind (arith, nat_tests)

-- where group g of m rows of w places begins, and that it is one of h rows
pub group_place : (m g w h : ℕ) → m * g + m ≤ h → (g * (m * w) ≡ m * g * w) × (g * (m * w) + m * w ≤ h * w)
group_place m g w h le =
    let e : g * (m * w) ≡ m * g * w = sym (mul_assoc g m w) ∙ ap (λ k. k * w) (mul_comm g m) in
    let room = mul-le-mul_right w le in
    let split = add-mul (m * g) m w in
    (e, omega (arith, e, room, split))

-- one column more than whole ones has room for a list
pub columns_hold : (n rows : ℕ) → 0 < rows → n ≤ (n / rows + 1) * rows
columns_hold n rows some =
    let all = div-add-mod' n rows in
    let less = mod-lt n some in
    let split = add-mul (n / rows) 1 rows in
    omega (arith, all, less, split)

-- the end of a part of row r, in h rows of w places
pub row_room : (r c w h : ℕ) → r < h → c ≤ w → r * w + c ≤ h * w
row_room r c w h hr hc = grind arith

-- one more row of l columns from c on
pub lanes_row : (w c l n k : ℕ) (G H : ℕ → ℕ → ℤ) (v : ℕ → ℤ) (buf new : List ℤ) → c + l ≤ w → k < n
    → ((p : ℕ) → at new p ≡ cond (leb (k * w + c) p && ltb p (k * w + c + l)) (v (p - (k * w + c))) (at buf p))
    → ((r q : ℕ) → r < n → q < w → at buf (r * w + q) ≡ cond (ltb r k && (leb c q && ltb q (c + l))) (G r q) (H r q))
    → ((q : ℕ) → c ≤ q → q < c + l → v (q - c) ≡ G k q)
    → (r q : ℕ) → r < n → q < w → at new (r * w + q) ≡ cond (ltb r (k + 1) && (leb c q && ltb q (c + l))) (G r q) (H r q)
lanes_row w c l n k G H v buf new room hk now before here = λ r q hr hq.
    let a = before r q hr hq in
    let b = now (r * w + q) in
    elim (cases_order r k) [
      | inl e ↦ (
          let m : r * w ≡ k * w = ap (λ x. x * w) e in
          let g : G r q ≡ G k q = ap (λ x. G x q) e in
          elim (cases_lt q c) [
            | inl lo ↦ grind (arith, nat_tests)
            | inr lo ↦ elim (cases_lt q (c + l)) [
              | inl hi ↦ (let d : r * w + q - (k * w + c) ≡ q - c = omega arith in let u : v (r * w + q - (k * w + c)) ≡ G k q = ap v d ∙ here q lo hi
                  in grind (arith, nat_tests))
              | inr hi ↦ grind (arith, nat_tests)
            ]
          ]
          )
      | inr (inl e) ↦ (let p = row_room r (q + 1) w k e (omega arith) in grind (arith, nat_tests))
      | inr (inr e) ↦ (let p = row_room k (c + l) w r e room in grind (arith, nat_tests))
    ]
