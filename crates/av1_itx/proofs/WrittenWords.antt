-- One lane of words that the sine transforms write.
use Rattle.std.proofs.Common.{ℕ, ◌≡◌, ◌+◌, ◌-◌, ◌*◌, ◌/◌, ◌<◌, ◌≤◌, ℤ, List, [], ◌∷◌, ◌++◌, map, take, drop, set, reverse, refl, length, get_or, arith, ap, sym}
use Rattle.std.proofs.Common.{subst, ◌∙◌}
use Rattle.std.proofs.lemmas.List.{length-map, map-append, map-set, reverse-append}
use Rattle.av1_dct.specs.Arithmetic.{at, AllFit, FitsBits}
use Rattle.av1_dct.specs.Word.{column}
use Rattle.av1_dct.proofs.Groups.{put, column-put, column-part}
use Rattle.av1_dct.proofs.Begun.{IsBegun}
use Rattle.av1_dct.proofs.Places.{column_get}
use Rattle.av1_lists.specs.Lists.{by_index}
use Rattle.av1_itx.specs.Adst.{adst_sum, adst_turn, round_weights}
use Rattle.av1_itx.proofs.Blocks.{block_done, block_round, blocks_step}
use Rattle.av1_itx.proofs.Fills.{IsBegun-pair, IsBegun-start, IsHalved, IsHalved-more}
use Rattle.av1_itx.proofs.Turns.{weights_at, turned_by}

-- a lane of a word that was read has the bits that all lanes have
pub word_fits : {W : Type 0} {b : ℕ} (lane : W → ℕ → ℤ) (i : ℕ) (v : List W) (q : ℕ) (x : W) → q < length v → x ≡ get_or v q x → AllFit b (column lane i v) →
    FitsBits b (lane x i)
word_fits {b = b} lane i v q x h e fit = subst (λ (z : ℤ). FitsBits b z) (sym (column_get lane i v q x h e)) (fit q)

-- two words written
pub column-set2 : {W : Type 0} (lane : W → ℕ → ℤ) (i : ℕ) (v : List W) (p q : ℕ) (x y : W) →
    column lane i (set (set v p x) q y) ≡ set (set (column lane i v) p (lane x i)) q (lane y i)
column-set2 {W} lane i v p q x y = let g = λ (w : W). lane w i in map-set g (set v p x) q y ∙ ap (λ ws. set ws q (g y)) (map-set g v p x)

-- four words written
pub column-set4 : {W : Type 0} (lane : W → ℕ → ℤ) (i : ℕ) (o : List W) (a b c d : W) → length o ≡ 4 →
    column lane i (set (set (set (set o 0 a) 1 b) 2 c) 3 d) ≡ lane a i ∷ lane b i ∷ lane c i ∷ lane d i ∷ []
column-set4 lane i [] a b c d h = absurd (omega (arith, h))
column-set4 lane i (x ∷ []) a b c d h = absurd (omega (arith, h))
column-set4 lane i (x ∷ y ∷ []) a b c d h = absurd (omega (arith, h))
column-set4 lane i (x ∷ y ∷ z ∷ []) a b c d h = absurd (omega (arith, h))
column-set4 lane i (x ∷ y ∷ z ∷ u ∷ []) a b c d h = refl
column-set4 lane i (x ∷ y ∷ z ∷ u ∷ v ∷ vs) a b c d h = absurd (omega (arith, h))

-- words the other way round
pub column-reverse : {W : Type 0} (lane : W → ℕ → ℤ) (i : ℕ) (v : List W) → column lane i (reverse v) ≡ reverse (column lane i v)
column-reverse lane i [] = refl
column-reverse {W} lane i (x ∷ xs) =
    let g = λ (w : W). lane w i in
    ap (column lane i) (reverse-append (x ∷ []) xs)
    ∙ map-append g (reverse xs) (x ∷ [])
    ∙ ap (λ ys. ys ++ (lane x i ∷ [])) (column-reverse lane i xs)
    ∙ sym (reverse-append (lane x i ∷ []) (column lane i xs))

-- words of which a loop has written none
pub words_begun : {X : Type 0} {f : ℕ → ℤ} {p : ℕ} (g : X → ℤ) (v : List X) → p ≡ 0 → IsBegun (length v) f (map g v) p (map g v)
words_begun g v none = IsBegun-start _ _ _ _ (length-map v g) none

-- one more pair of neighbours
pub pair_more : {W : Type 0} (lane : W → ℕ → ℤ) (i n : ℕ) (f : ℕ → ℤ) (old : List ℤ) (v : List W) (p q r : ℕ) (x y : W) → IsBegun n f old p (column lane i v) →
    q ≡ p + 1 → r ≡ p + 2 → q < n → lane x i ≡ f p → lane y i ≡ f q → IsBegun n f old r (column lane i (set (set v p x) q y))
pair_more lane i n f old v p q r x y h is_q is_r lt is_x is_y =
    let P : List ℤ → Type 0 = λ z. IsBegun n f old r z in
    subst P (sym (column-set2 lane i v p q x y)) (IsBegun-pair n f old (column lane i v) p q r (lane x i) (lane y i) h is_q is_r lt is_x is_y)

-- one more place of each half
pub halves_more : {W : Type 0} (lane : W → ℕ → ℤ) (i s : ℕ) (f : ℕ → ℤ) (old : List ℤ) (v : List W) (j q : ℕ) (x y : W) → IsHalved s f old j (column lane i v) →
    q ≡ j + s → j < s → lane x i ≡ f j → lane y i ≡ f q → IsHalved s f old (j + 1) (column lane i (set (set v j x) q y))
halves_more lane i s f old v j q x y h is_q lt is_x is_y =
    let P : List ℤ → Type 0 = λ z. IsHalved s f old (j + 1) z in
    subst P (sym (column-set2 lane i v j q x y)) (IsHalved-more s f old (column lane i v) j q (lane x i) (lane y i) h is_q lt is_x is_y)

-- a word that was read where nothing is written yet
pub begun_read : {W : Type 0} (lane : W → ℕ → ℤ) (i n : ℕ) (f : ℕ → ℤ) (old : List ℤ) (p : ℕ) (v : List W) (q : ℕ) (x : W) →
    IsBegun n f old p (column lane i v) → p ≤ q → q < length v → x ≡ get_or v q x → lane x i ≡ at old q
begun_read lane i n f old p v q x h le lt e = column_get lane i v q x lt e ∙ h.rest q le

-- the length of words is that of a lane
pub by_length : {W : Type 0} (lane : W → ℕ → ℤ) (i : ℕ) (v : List W) (F : ℕ → List ℤ) → F (length v) ≡ F (length (column lane i v))
by_length {W} lane i v F = ap F (sym (length-map v (λ (w : W). lane w i)))

-- a block whose halves were summed and whose upper half was turned
pub block_words : {W : Type 0} (lane : W → ℕ → ℤ) (i range : ℕ) (ws : List (ℤ × ℤ)) (v q u : List W) → length v ≡ 2 * (2 * length ws)
    → ((p : ℕ) → p < length ws → weights_at ws p ≡ round_weights (2 * length ws) p) →
    column lane i q ≡ by_index (length v) (adst_sum range (length v / 2) (column lane i v))
    → let k = length q - 2 * length ws in let upper = take k (drop (2 * length ws) q)
    in column lane i u ≡ by_index (length upper) (turned_by ws (column lane i upper))
    → column lane i (put (2 * length ws) k q u) ≡ by_index (2 * (2 * length ws))
    (adst_turn (2 * length ws) (by_index (2 * (2 * length ws)) (adst_sum range (2 * length ws) (column lane i v))))
block_words {W} lane i range ws v q u len table is_q is_u =
    let g = λ (w : W). lane w i in
    let s = 2 * length ws in
    let V = column lane i v in
    let Q = column lane i q in
    let U = column lane i u in
    let lv : length V ≡ length v = length-map v g in
    let lq : length q ≡ length Q = sym (length-map q g) in
    let upper = take (length q - s) (drop s q) in
    let part : column lane i upper ≡ take (length Q - s) (drop s Q) = column-part lane i s (length q - s) q ∙ ap (λ n. take (n - s) (drop s Q)) lq in
    column-put lane i s (length q - s) q u
    ∙ ap (λ n. put s (n - s) Q U) lq
    ∙ block_done range ws V Q U (lv ∙ len) table (is_q ∙ by_length lane i v (λ n. by_index n (adst_sum range (n / 2) V)))
    (is_u ∙ by_length lane i upper (λ n. by_index n (turned_by ws (column lane i upper))) ∙ ap (λ z. by_index (length z) (turned_by ws z)) part)

-- one more block
pub blocks_words : {W : Type 0} (lane : W → ℕ → ℤ) (i range h m b n k : ℕ) (old : List ℤ) (v u : List W) → n ≡ 2 * (2 * h) → k ≡ n → b * n + n ≤ m →
    length old ≡ m
    → IsBegun m (block_round range (2 * h) m old) old (b * n) (column lane i v)
    → column lane i u ≡ by_index (2 * (2 * h)) (block_round range (2 * h) (2 * (2 * h)) (column lane i (take k (drop (b * n) v))))
    → IsBegun m (block_round range (2 * h) m old) old ((b + 1) * n) (column lane i (put (b * n) k v u))
blocks_words lane i range h m b n k old v u en ek room len begun is =
    let P : List ℤ → Type 0 = λ z. IsBegun m (block_round range (2 * h) m old) old ((b + 1) * n) z in
    subst P (sym (column-put lane i (b * n) k v u))
    (blocks_step range h m b n k old (column lane i v) (column lane i u) en ek room len begun
    (is ∙ ap (λ z. by_index (2 * (2 * h)) (block_round range (2 * h) (2 * (2 * h)) z)) (column-part lane i (b * n) k v)))
