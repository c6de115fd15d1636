-- The order of reversed places: even inputs first, then odd ones, and so on in each half.
use Rattle.std.proofs.Common.{ℕ, zero, suc, false, ◌≡◌, ◌+◌, ◌-◌, ◌*◌, ◌/◌, ◌%◌, ◌^◌, ◌<◌, ◌≤◌, ℤ, pos, List, ◌++◌, map, take, drop, set, length, get_or, arith}
use Rattle.std.proofs.Common.{ap, sym, subst, refl, ◌∙◌}
use Rattle.std.proofs.lemmas.List.{map-set, length-map, length-take, length-drop, get_or-take, get_or-drop, get_or-map, take_at, take-map}
use Rattle.std.proofs.lemmas.List.FromFn.{fill_by_all, get_or-map-range_with_len, length-map-range_with_len}
use Rattle.std.proofs.lemmas.List.Edits.{fill_by_more}
use Rattle.std.proofs.lemmas.Nat.{shl-shr}
use Rattle.std.proofs.Math.Pow.{pow_mono}
use Rattle.std.proofs.Math.Nat.{pow-suc, mul_comm}
use Rattle.std.proofs.lemmas.Nat.{mod-mul-add, div-mul-add}
use Rattle.av1_dct.specs.Arithmetic.{AllFit, at}
use Rattle.av1_dct.specs.Word.{column}
use Rattle.av1_dct.specs.Cosine.{brev, outer_turn, mirror_sum, rounds, evens, odds, cosine, cosine_with, odd_half_with}
use Rattle.av1_lists.specs.Lists.{by_index}
use Rattle.av1_lists.proofs.Lists.{by_index-same}
use Rattle.av1_dct.specs.InPlace.{network}
use Rattle.av1_dct.specs.declared.weights.TheConstants.{REVERSED}
use Rattle.av1_dct.proofs.Fits.{by_index-fits}
use Rattle.av1_dct.proofs.Tables.{REVERSED_is, brev-lt, brev-suc, brev-add}

pub reversed_is : (k p : ℕ) → k ≤ 5 → p < 2 * 2 ^ k → (get_or REVERSED p 0 / 2 ^ (5 - k) ≡ brev (suc k) p) × (brev (suc k) p < 2 * 2 ^ k)
reversed_is k p hk hp =
    let small : 2 ^ k ≤ 2 ^ 5 = pow_mono {i = k} {j = 5} hk in
    let in_k : p < 2 ^ suc k = omega (arith, pow-suc 2 k) in
    let e : 6 ≡ 5 - k + suc k = omega arith in
    let table : get_or REVERSED p 0 ≡ brev (suc k) p * 2 ^ (5 - k) = REVERSED_is p (omega arith) ∙ ap (λ n. brev n p) e ∙ brev-add (5 - k) (suc k) p in_k
    ∙ mul_comm (2 ^ (5 - k)) (brev (suc k) p) in
    (ap (λ n. n / 2 ^ (5 - k)) table ∙ shl-shr (brev (suc k) p) (5 - k), omega (arith, brev-lt (suc k) p in_k, pow-suc 2 k))

-- one more place, in lane i
pub column_fill : {W : Type 0} (lane : W → ℕ → ℤ) (i : ℕ) (f : ℕ → ℤ) (v : List W) (p : ℕ) (x : W) → p < length v →
    ((q : ℕ) → q < p → at (column lane i v) q ≡ f q) → lane x i ≡ f p → (q : ℕ) → q < p + 1 → at (column lane i (set v p x)) q ≡ f q
column_fill {W} lane i f v p x h below here = λ q lt.
    let g = λ (w : W). lane w i in
    ap (λ zs. at zs q) (map-set g v p x ∙ ap (set (column lane i v) p) here)
    ∙ fill_by_more f (column lane i v) p (pos 0) (omega (arith, length-map v g)) below q lt

pub at-by_index : (n : ℕ) (f : ℕ → ℤ) (p : ℕ) → p < n → at (by_index n f) p ≡ f p
at-by_index n f p h = get_or-map-range_with_len f 0 n p p (pos 0) h (omega arith)

brev-high : (k p : ℕ) → p < 2 ^ k → brev (suc k) (2 ^ k + p) ≡ 2 * brev k p + 1
unfolding brev
brev-high k p h =
    let one : 2 ^ k + p ≡ 1 * 2 ^ k + p = omega arith in
    ap (λ n. 2 * brev k (n % 2 ^ k) + n / 2 ^ k) one
    ∙ ap (λ n. 2 * brev k n + (1 * 2 ^ k + p) / 2 ^ k) (mod-mul-add 1 (2 ^ k) p h)
    ∙ ap (λ n. 2 * brev k p + n) (div-mul-add 1 (2 ^ k) p h)

-- the places of the first half, and of the second
first_half : (m : ℕ) (g : ℕ → ℤ) (zs : List ℤ) → zs ≡ by_index (2 * m) g → take m zs ≡ by_index m g
first_half m g zs is = fill_by_all g (take m zs) m (pos 0) (omega (arith, length-take m zs, ap length is, length-map-range_with_len g 0 (2 * m)))
    (λ p h. get_or-take m zs p (pos 0) h ∙ ap (λ ys. at ys p) is ∙ at-by_index (2 * m) g p (omega arith))

second_half : (m : ℕ) (g : ℕ → ℤ) (zs : List ℤ) → zs ≡ by_index (2 * m) g → drop m zs ≡ by_index m (λ p. g (m + p))
second_half m g zs is =
    fill_by_all (λ p. g (m + p)) (drop m zs) m (pos 0) (omega (arith, length-drop m zs, ap length is, length-map-range_with_len g 0 (2 * m)))
    (λ p h. get_or-drop m zs p (pos 0) ∙ ap (λ ys. at ys (m + p)) is ∙ at-by_index (2 * m) g (m + p) (omega arith))

-- the network on reversed places is the cosine network
pub cosine_is : (range k : ℕ) (x : List ℤ) → cosine range k x ≡ network range k (by_index (2 * 2 ^ k) (λ p. at x (brev (suc k) p)))
unfolding cosine_with odd_half_with network brev
cosine_is range zero x = refl
cosine_is range (suc k) x =
    let m = 2 ^ suc k in
    let g = λ (p : ℕ). at x (brev (suc (suc k)) p) in
    let twice : 2 * 2 ^ k ≡ m = omega (arith, pow-suc 2 k) in
    let even : by_index (2 * 2 ^ k) (λ p. at (evens m x) (brev (suc k) p)) ≡ take m (by_index (2 * m) g) =
    ap (λ n. by_index n (λ p. at (evens m x) (brev (suc k) p))) twice
    ∙ by_index-same m _ g (λ p h. at-by_index m (λ i. at x (2 * i)) (brev (suc k) p) (brev-lt (suc k) p h) ∙ ap (at x) (sym (brev-suc (suc k) p h)))
    ∙ sym (first_half m g (by_index (2 * m) g) refl) in
    let odd : by_index m (λ p. at (odds m x) (brev (suc k) p)) ≡ drop m (by_index (2 * m) g) =
    by_index-same m _ (λ p. g (m + p)) (λ p h. at-by_index m (λ i. at x (2 * i + 1)) (brev (suc k) p) (brev-lt (suc k) p h)
    ∙ ap (at x) (sym (brev-high (suc k) p h))) ∙ sym (second_half m g (by_index (2 * m) g) refl) in
    ap (λ zs. by_index (2 * m)
    (mirror_sum range false m (zs ++ rounds range (suc k) k (by_index m (outer_turn (suc k) (by_index m (λ p. at (odds m x) (brev (suc k) p))))))))
    (cosine_is range k (evens m x) ∙ ap (network range k) even)
    ∙ ap (λ zs. by_index (2 * m)
    (mirror_sum range false m (network range k (take m (by_index (2 * m) g)) ++ rounds range (suc k) k (by_index m (outer_turn (suc k) zs))))) odd

pub places_taken : (k : ℕ) (x : List ℤ) →
    by_index (2 * 2 ^ k) (λ p. at x (brev (suc k) p)) ≡ by_index (2 * 2 ^ k) (λ p. at (take (2 * 2 ^ k) x) (brev (suc k) p))
places_taken k x =
    by_index-same (2 * 2 ^ k) _ _
    (λ p h. sym
    (get_or-take (2 * 2 ^ k) x (brev (suc k) p) (pos 0)
    (omega (arith, brev-lt (suc k) p (let w : p < 2 ^ suc k = omega (arith, pow-suc 2 k) in w), pow-suc 2 k))))

pub places-fit : (k : ℕ) (x : List ℤ) → AllFit 20 (take (2 * 2 ^ k) x) → AllFit 20 (by_index (2 * 2 ^ k) (λ p. at x (brev (suc k) p)))
places-fit k x fit = let P : List ℤ → Type 0 = λ zs. AllFit 20 zs in subst P (sym (places_taken k x)) (by_index-fits _ _ (λ p. fit (brev (suc k) p)))

pub cosine_words : {W : Type 0} (lane : W → ℕ → ℤ) (i range k n : ℕ) (input old reordered new : List W) → n ≡ 2 * 2 ^ k → length new ≡ n
    → column lane i reordered ≡ by_index (2 * 2 ^ k) (λ p. at (column lane i input) (brev (suc k) p))
    → column lane i new ≡ network range k (column lane i reordered)
    → take (2 * 2 ^ k) (column lane i (new ++ drop n old)) ≡ cosine range k (take (2 * 2 ^ k) (column lane i input))
cosine_words {W} lane i range k n input old reordered new is_n len is_r is_new =
    let g = λ (x : W). lane x i in
    take-map g (2 * 2 ^ k) (new ++ drop n old)
    ∙ ap (map g) (take_at new (drop n old) (2 * 2 ^ k) (len ∙ is_n))
    ∙ is_new ∙ ap (network range k) (is_r ∙ places_taken k (column lane i input))
    ∙ sym (cosine_is range k (take (2 * 2 ^ k) (column lane i input)))

-- a word that was read
pub column_get : {W : Type 0} (lane : W → ℕ → ℤ) (i : ℕ) (v : List W) (q : ℕ) (x : W) → q < length v → x ≡ get_or v q x → lane x i ≡ at (column lane i v) q
column_get {W} lane i v q x h e = ap (λ (w : W). lane w i) e ∙ sym (get_or-map (λ (w : W). lane w i) v q x (pos 0) h)
