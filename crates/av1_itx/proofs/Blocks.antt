-- Sums, differences and turns in blocks.
use Rattle.std.proofs.Common.{ℕ, cond, ltb, ◌≡◌, ◌+◌, ◌-◌, ◌*◌, ◌/◌, ◌%◌, ◌<◌, ◌≤◌, ℤ, ◌+ℤ◌, ◌-ℤ◌, List, take, drop, length, arith, ap, sym, refl, ◌∙◌, inl}
use Rattle.std.proofs.Common.{inr}
use Rattle.std.proofs.lemmas.Bool.{cases_lt}
use Rattle.std.proofs.lemmas.Bool.Decides.{nat_tests}
use Rattle.std.proofs.lemmas.Nat.{mod-mul-add}
use Rattle.std.proofs.Math.Nat.{mod-eq_of_lt}
use Rattle.av1_dct.specs.Arithmetic.{at, clamp_value}
use Rattle.av1_lists.specs.Lists.{by_index}
use Rattle.av1_itx.specs.Adst.{adst_sum, adst_sum_with, adst_turn, adst_turn_with, turned, round_weights}
use Rattle.av1_dct.proofs.Begun.{IsBegun}
use Rattle.av1_dct.proofs.Groups.{put, put-low, put-mid, put-high, length-put, at-part}
use Rattle.av1_dct.proofs.Places.{at-by_index}
use Rattle.av1_itx.proofs.Fills.{filled, part_len}
use Rattle.av1_lists.proofs.Lists.{length-by_index}
use Rattle.av1_itx.proofs.Turns.{turned-same, weights_at, turned_by}

pub sum-low : (range s : ℕ) (v : List ℤ) (i : ℕ) → i % (2 * s) < s → clamp_value (at v i +ℤ at v (i + s)) range ≡ adst_sum range s v i
unfolding adst_sum_with
sum-low range s v i h = grind (arith, nat_tests)

pub sum-high : (range s : ℕ) (v : List ℤ) (i : ℕ) → s ≤ i % (2 * s) → clamp_value (at v (i - s) -ℤ at v i) range ≡ adst_sum range s v i
unfolding adst_sum_with
sum-high range s v i h = grind (arith, nat_tests)

pick-high : (t s : ℕ) (x y : ℤ) → s ≤ t → y ≡ cond (ltb t s) x y
pick-high t s x y h = grind (arith, nat_tests)

pub turn-low : (s : ℕ) (v : List ℤ) (i : ℕ) → i % (2 * s) < s → at v i ≡ adst_turn s v i
unfolding adst_turn_with
turn-low s v i h = grind (arith, nat_tests)

pub turn-high : (s : ℕ) (v : List ℤ) (i m : ℕ) → m ≡ i % (2 * s) → s ≤ m →
    turned (round_weights s ((m - s) / 2)).0 (round_weights s ((m - s) / 2)).1 v i ≡ adst_turn s v i
unfolding adst_turn_with
turn-high s v i m e h =
    let w = round_weights s ((i % (2 * s) - s) / 2) in
    ap (λ n. turned (round_weights s ((n - s) / 2)).0 (round_weights s ((n - s) / 2)).1 v i) e
    ∙ pick-high (i % (2 * s)) s (at v i) (turned w.0 w.1 v i) (omega arith)

-- the two places of the first block that a sum and a difference are put at
pub sum_first : (range s : ℕ) (v : List ℤ) (i : ℕ) (x y z : ℤ) → i < s → x ≡ at v i → y ≡ at v (i + s) → z ≡ clamp_value (x +ℤ y) range →
    z ≡ adst_sum range s v i
sum_first range s v i x y z h ex ey is =
    let m : i % (2 * s) ≡ i = mod-eq_of_lt (omega arith) in
    is ∙ ap (λ n. clamp_value (n +ℤ y) range) ex ∙ ap (λ n. clamp_value (at v i +ℤ n) range) ey ∙ sum-low range s v i (omega arith)

pub sum_second : (range s : ℕ) (v : List ℤ) (i : ℕ) (x y z : ℤ) → i < s → x ≡ at v i → y ≡ at v (i + s) → z ≡ clamp_value (x -ℤ y) range →
    z ≡ adst_sum range s v (i + s)
sum_second range s v i x y z h ex ey is =
    let m : (i + s) % (2 * s) ≡ i + s = mod-eq_of_lt (omega arith) in
    let back : i ≡ i + s - s = omega arith in
    is ∙ ap (λ n. clamp_value (n -ℤ y) range) (ex ∙ ap (at v) back) ∙ ap (λ n. clamp_value (at v (i + s - s) -ℤ n) range) ey
    ∙ sum-high range s v (i + s) (omega arith)

-- a block by itself: place t of it is place i of all
pub sum-block : (range s b t i : ℕ) (v u : List ℤ) → t < 2 * s → i ≡ b * (2 * s) + t → ((j : ℕ) → j < 2 * s → at v (b * (2 * s) + j) ≡ at u j) →
    adst_sum range s u t ≡ adst_sum range s v i
sum-block range s b t i v u h e same =
    let m : t % (2 * s) ≡ t = mod-eq_of_lt h in
    let n : i % (2 * s) ≡ t = ap (λ k. k % (2 * s)) e ∙ mod-mul-add b (2 * s) t h in
    let here : at u t ≡ at v i = sym (same t h) ∙ ap (at v) (sym e) in
    elim (cases_lt t s) [
      | inl l ↦ (let far : at u (t + s) ≡ at v (i + s) = sym (same (t + s) (omega arith)) ∙ ap (at v) (let q : b * (2 * s) + (t + s) ≡ i + s = omega arith in q)
          in
          sym (sum-low range s u t (omega arith)) ∙ ap (λ z. clamp_value (z +ℤ at u (t + s)) range) here ∙ ap (λ z. clamp_value (at v i +ℤ z) range) far
          ∙ sum-low range s v i (omega arith))
      | inr l ↦ (let far : at u (t - s) ≡ at v (i - s) = sym (same (t - s) (omega arith)) ∙ ap (at v) (let q : b * (2 * s) + (t - s) ≡ i - s = omega arith in q)
          in
          sym (sum-high range s u t (omega arith)) ∙ ap (λ z. clamp_value (z -ℤ at u t) range) far ∙ ap (λ z. clamp_value (at v (i - s) -ℤ z) range) here
          ∙ sum-high range s v i (omega arith))
    ]

pub turn-block : (s h b t i : ℕ) (v u : List ℤ) → s ≡ 2 * h → t < 2 * s → i ≡ b * (2 * s) + t → ((j : ℕ) → j < 2 * s → at v (b * (2 * s) + j) ≡ at u j) →
    adst_turn s u t ≡ adst_turn s v i
turn-block s h b t i v u es lt e same =
    let m : t % (2 * s) ≡ t = mod-eq_of_lt lt in
    let n : i % (2 * s) ≡ t = ap (λ k. k % (2 * s)) e ∙ mod-mul-add b (2 * s) t lt in
    let here : at u t ≡ at v i = sym (same t lt) ∙ ap (at v) (sym e) in
    elim (cases_lt t s) [
      | inl l ↦ sym (turn-low s u t (omega arith)) ∙ here ∙ turn-low s v i (omega arith)
      | inr l ↦ (let w = round_weights s ((t - s) / 2) in
          let even : b * (2 * s) ≡ 2 * (b * s) = omega arith in
          sym (turn-high s u t t (sym m) l)
          ∙ turned-same w.0 w.1 u v t i (omega arith) here
          (λ z. sym (same (t + 1) (omega arith)) ∙ ap (at v) (let q : b * (2 * s) + (t + 1) ≡ i + 1 = omega arith in q))
          (λ z. sym (same (t - 1) (omega arith)) ∙ ap (at v) (let q : b * (2 * s) + (t - 1) ≡ i - 1 = omega arith in q))
          ∙ turn-high s v i t (sym n) l)
    ]

-- a block whose halves were summed and whose upper half was turned
pub block_done : (range : ℕ) (ws : List (ℤ × ℤ)) (v q u : List ℤ) → length v ≡ 2 * (2 * length ws)
    → ((p : ℕ) → p < length ws → weights_at ws p ≡ round_weights (2 * length ws) p) → q ≡ by_index (length v) (adst_sum range (length v / 2) v)
    → let k = length q - 2 * length ws in let upper = take k (drop (2 * length ws) q) in u ≡ by_index (length upper) (turned_by ws upper)
    → put (2 * length ws) k q u ≡ by_index (2 * (2 * length ws)) (adst_turn (2 * length ws) (by_index (2 * (2 * length ws)) (adst_sum range (2 * length ws) v)))
block_done range ws v q u len table is_q is_u =
    let s = 2 * length ws in
    let n = 2 * s in
    let half : length v / 2 ≡ s = omega arith in
    let sums : q ≡ by_index n (adst_sum range s v) = is_q ∙ ap (λ m. by_index m (adst_sum range (length v / 2) v)) len
    ∙ ap (λ m. by_index n (adst_sum range m v)) half in
    let q_len : length q ≡ n = ap length sums ∙ length-by_index n _ in
    let k = length q - s in
    let upper = take k (drop s q) in
    let upper_len : length upper ≡ s = part_len s k q (omega arith) ∙ (let e : k ≡ s = omega arith in e) in
    let u_len : length u ≡ s = ap length is_u ∙ length-by_index _ _ ∙ upper_len in
    let read = λ (j : ℕ) (h : j < s). at-part s k q j (omega arith) in
    let at_low = λ (j : ℕ) (h : j < s). put-low s k q u j h (omega arith) ∙ turn-low s q j (let m : j % (2 * s) ≡ j = mod-eq_of_lt (omega arith) in omega arith)
    in
    let at_high = λ (j : ℕ) (h : s ≤ j) (l : j < n).
    (let t = j - s in
    let w = round_weights s (t / 2) in
    let place : s + t ≡ j = omega arith in
    let here : at upper t ≡ at q j = read t (omega arith) ∙ ap (at q) place in
    let within : j ≡ j % (2 * s) = sym (mod-eq_of_lt l) in
    put-mid s k q u j h (omega arith) (omega arith) ∙ ap (λ z. at z t) is_u ∙ at-by_index (length upper) (turned_by ws upper) t (omega arith)
    ∙ ap (λ z. turned z.0 z.1 upper t) (table (t / 2) (omega arith))
    ∙ turned-same w.0 w.1 upper q t j (omega arith) here
    (λ e. read (t + 1) (omega arith) ∙ ap (at q) (let f : s + (t + 1) ≡ j + 1 = omega arith in f))
    (λ e. read (t - 1) (omega arith) ∙ ap (at q) (let f : s + (t - 1) ≡ j - 1 = omega arith in f))
    ∙ turn-high s q j j within h) in
    filled n (adst_turn s q) (put s k q u) n (length-put s k q u (omega arith) (omega arith) ∙ q_len) (omega arith)
    (λ j l. elim (cases_lt j s) [ inl h ↦ at_low j h | inr h ↦ at_high j h l ])
    ∙ ap (λ z. by_index n (adst_turn s z)) sums

-- the sums, differences and turns of a block, place by place
abbrev pub block_round : ℕ → ℕ → ℕ → List ℤ → ℕ → ℤ
block_round range s n v = adst_turn s (by_index n (adst_sum range s v))

round-block : (range h m b t i : ℕ) (v u : List ℤ) → t < 2 * (2 * h) → i ≡ b * (2 * (2 * h)) + t → b * (2 * (2 * h)) + 2 * (2 * h) ≤ m →
    ((j : ℕ) → j < 2 * (2 * h) → at v (b * (2 * (2 * h)) + j) ≡ at u j) → block_round range (2 * h) (2 * (2 * h)) u t ≡ block_round range (2 * h) m v i
round-block range h m b t i v u lt e room same =
    let s = 2 * h in
    let sums = λ (j : ℕ) (l : j < 2 * s).
    (at-by_index m (adst_sum range s v) (b * (2 * s) + j) (omega arith) ∙ sym (sum-block range s b j (b * (2 * s) + j) v u l refl same)
    ∙ sym (at-by_index (2 * s) (adst_sum range s u) j l)) in
    turn-block s h b t i (by_index m (adst_sum range s v)) (by_index (2 * s) (adst_sum range s u)) refl lt e sums

-- one more block
pub blocks_step : (range h m b n k : ℕ) (old v ys : List ℤ) → n ≡ 2 * (2 * h) → k ≡ n → b * n + n ≤ m → length old ≡ m
    → IsBegun m (block_round range (2 * h) m old) old (b * n) v
    → ys ≡ by_index (2 * (2 * h)) (block_round range (2 * h) (2 * (2 * h)) (take k (drop (b * n) v)))
    → IsBegun m (block_round range (2 * h) m old) old ((b + 1) * n) (put (b * n) k v ys)
blocks_step range h m b n k old v ys en ek room len s is =
    let w = 2 * (2 * h) in
    let a = b * n in
    let ea : a ≡ b * w = ap (λ j. b * j) en in
    let next : (b + 1) * n ≡ a + n = omega arith in
    let part = take k (drop a v) in
    let F = block_round range (2 * h) m old in
    let ys_len : length ys ≡ w = ap length is ∙ length-by_index w _ in
    let same = λ (j : ℕ) (l : j < w). ap (λ p. at old (p + j)) (sym ea) ∙ sym (s.rest (a + j) (omega arith)) ∙ sym (at-part a k v j (omega arith)) in
    let here = λ (i : ℕ) (ge : a ≤ i) (lt : i < a + n).
    (put-mid a k v ys i ge (omega arith) (omega (arith, s.len))
    ∙ ap (λ z. at z (i - a)) is ∙ at-by_index w _ (i - a) (omega arith)
    ∙ round-block range h m b (i - a) i old part (omega arith) (omega arith) (omega arith) same) in
    record {
      len = length-put a k v ys (omega arith) (omega (arith, s.len)) ∙ s.len;
      low = λ i lt. elim (cases_lt i a) [ inl h ↦ put-low a k v ys i h (omega (arith, s.len)) ∙ s.low i h | inr h ↦ here i h (omega arith) ];
      rest = λ i ge. put-high a k v ys i (omega arith) (omega arith) (omega (arith, s.len)) ∙ s.rest i (omega arith);
    }
