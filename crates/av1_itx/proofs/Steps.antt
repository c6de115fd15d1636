-- The steps of the sine transforms of 8 and 16 values, and what they give.
use Rattle.std.proofs.Common.{ℕ, suc, length, ◌≡◌, ◌-◌, ◌*◌, ◌/◌, ◌^◌, ◌<◌, ◌≤◌, ℤ, List, arith, ap, refl, ◌∙◌}
use Rattle.av1_dct.specs.Arithmetic.{FitsBits, AllFit}
use Rattle.av1_lists.specs.Lists.{by_index}
use Rattle.av1_dct.proofs.Fits.{by_index-fits, half_btf-fits, clamp_value-fits, cond-fits}
use Rattle.av1_itx.specs.Adst.{turned, turned_with, adst_start, adst_start_with, adst_sum, adst_sum_with, adst_turn, adst_turn_with, start_weights, adst_in}
use Rattle.av1_itx.specs.Adst.{adst_out, adst_rounds, adst_rounds_with, adst_more, adst_more_with}
use Rattle.av1_lists.proofs.Lists.{by_index-same, length-by_index}
use Rattle.av1_itx.proofs.Turns.{weights_at, turned_by}
use Rattle.av1_itx.proofs.Blocks.{block_round}

pub turned-fits : (w0 w1 : ℤ) (v : List ℤ) (i : ℕ) → FitsBits 20 (turned w0 w1 v i)
unfolding turned_with
turned-fits w0 w1 v i = cond-fits _ _ _ (half_btf-fits _ _ _ _) (half_btf-fits _ _ _ _)

pub start-fits : (n m : ℕ) (v : List ℤ) → AllFit 20 (by_index m (adst_start n v))
unfolding adst_start_with
start-fits n m v = by_index-fits m _ (λ i. turned-fits _ _ v i)

pub sum-fits : (range s m : ℕ) (v : List ℤ) → range ≤ 20 → AllFit 20 (by_index m (adst_sum range s v))
unfolding adst_sum_with
sum-fits range s m v h = by_index-fits m _ (λ i. cond-fits _ _ _ (clamp_value-fits _ range h) (clamp_value-fits _ range h))

pub turn-fits : (s m : ℕ) (v : List ℤ) → AllFit 20 v → AllFit 20 (by_index m (adst_turn s v))
unfolding adst_turn_with
turn-fits s m v h = by_index-fits m _ (λ i. cond-fits _ _ _ (h i) (turned-fits _ _ v i))

pub round-fits : (range s n m : ℕ) (v : List ℤ) → range ≤ 20 → AllFit 20 (by_index m (block_round range s n v))
round-fits range s n m v h = turn-fits s m _ (sum-fits range s n v h)

-- the first turn, by a table of its weights
pub started : (ws : List (ℤ × ℤ)) (n : ℕ) (v : List ℤ) → 2 * (n / 2) ≡ n → ((p : ℕ) → p < n / 2 → weights_at ws p ≡ start_weights n p) →
    by_index n (turned_by ws v) ≡ by_index n (adst_start n v)
unfolding adst_start_with
started ws n v even table = by_index-same n _ _ (λ i h. ap (λ w. turned w.0 w.1 v i) (table (i / 2) (omega arith)))

-- one more round, for the next lesser size of blocks
pub rounds_more : (range k c s n : ℕ) (u v w : List ℤ) → n ≡ 2 * 2 ^ k → s ≡ 2 ^ (k - c) → v ≡ adst_rounds range k c u →
    w ≡ by_index (length v) (block_round range s (length v) v) → length v ≡ n → w ≡ adst_rounds range k (suc c) u
unfolding adst_rounds_with
rounds_more range k c s n u v w en es hv hw len =
    hw ∙ ap (λ m. by_index m (block_round range s m v)) (len ∙ en)
    ∙ ap (λ m. by_index (2 * 2 ^ k) (block_round range m (2 * 2 ^ k) v)) es
    ∙ ap (λ m. by_index (2 * 2 ^ k) (block_round range (2 ^ (k - c)) (2 * 2 ^ k) m)) hv

pub no_rounds : (range k : ℕ) (v : List ℤ) → v ≡ adst_rounds range k 0 v
unfolding adst_rounds_with
no_rounds range k v = refl

-- all steps
pub more_is : (range k n : ℕ) (ws : List (ℤ × ℤ)) (x u v w o : List ℤ) → n ≡ 2 * 2 ^ k → ((p : ℕ) → p < n / 2 → weights_at ws p ≡ start_weights n p)
    → u ≡ by_index n (adst_in n x) → v ≡ by_index (length u) (turned_by ws u) → w ≡ adst_rounds range k k v → o ≡ by_index (2 * 2 ^ k) (adst_out k w)
    → o ≡ adst_more range k x
unfolding adst_more_with
more_is range k n ws x u v w o en table hu hv hw ho =
    let len : length u ≡ n = ap length hu ∙ length-by_index n _ in
    let start : v ≡ by_index n (adst_start n (by_index n (adst_in n x))) =
    hv ∙ ap (λ m. by_index m (turned_by ws u)) len ∙ started ws n u (omega arith) table ∙ ap (λ z. by_index n (adst_start n z)) hu in
    ho ∙ ap (λ z. by_index (2 * 2 ^ k) (adst_out k z))
    (hw ∙ ap (adst_rounds range k k) (start ∙ ap (λ m. by_index m (adst_start m (by_index m (adst_in m x)))) en))

pub turned_by-fits : (ws : List (ℤ × ℤ)) (m : ℕ) (v : List ℤ) → AllFit 20 (by_index m (turned_by ws v))
turned_by-fits ws m v = by_index-fits m _ (λ i. turned-fits _ _ v i)
