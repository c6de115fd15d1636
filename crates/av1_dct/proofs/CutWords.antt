-- Transforms in lanes of 16 bits: words that are cut, run and written out again.
use Rattle.std.proofs.Common.{refl, ℕ, suc, ◌≡◌, ◌*◌, ◌^◌, ◌<◌, ℤ, pos, List, ◌++◌, map, take, drop, length, arith, ap, sym, ◌∙◌}
use Rattle.std.specs.List.{All}
use Rattle.std.proofs.Math.Nat.{pow-suc}
use Rattle.std.proofs.lemmas.List.{get_or-take, length-map, take-map, take_at}
use Rattle.std.proofs.lemmas.List.FromFn.{fill_by_all}
use Rattle.av1_lists.specs.Lists.{by_index}
use Rattle.av1_lists.proofs.Lists.{by_index-same}
use Rattle.av1_dct.specs.Arithmetic.{FitsBits, at, clamp_value}
use Rattle.av1_dct.specs.Cosine.{brev, cosine}
use Rattle.av1_dct.specs.InPlace.{cut_place, network}
use Rattle.av1_dct.specs.Word.{column}
use Rattle.av1_dct.proofs.Fits.{all-fit, clamped_same}
use Rattle.av1_dct.proofs.Places.{cosine_is}
use Rattle.av1_dct.proofs.Tables.{brev-lt}

-- two lists of words that agree in a lane, place by place
pub columns_same : {W V : Type 0} (lane : W → ℕ → ℤ) (other : V → ℕ → ℤ) (i : ℕ) (ws : List W) (vs : List V) → length ws ≡ length vs →
    ((q : ℕ) → q < length vs → at (column lane i ws) q ≡ at (column other i vs) q) → column lane i ws ≡ column other i vs
columns_same {W} {V} lane other i ws vs len same =
    let n = length vs in
    let zs = column other i vs in
    fill_by_all (at zs) (column lane i ws) n (pos 0) (length-map ws _ ∙ len) same
    ∙ sym (fill_by_all (at zs) zs n (pos 0) (length-map vs _) (λ q lt. refl))

-- what fits 16 bits is not changed by the cut
cut_whole : (k : ℕ) (x : List ℤ) → All (FitsBits 16) (take (2 * 2 ^ k) x) →
    by_index (2 * 2 ^ k) (cut_place k x) ≡ by_index (2 * 2 ^ k) (λ p. at (take (2 * 2 ^ k) x) (brev (suc k) p))
cut_whole k x fit =
    let fits = all-fit 16 16 (take (2 * 2 ^ k) x) (omega arith) fit in
    by_index-same (2 * 2 ^ k) _ _ (λ p h.
    let low : brev (suc k) p < 2 * 2 ^ k = omega (arith, brev-lt (suc k) p (let w : p < 2 ^ suc k = omega (arith, pow-suc 2 k) in w), pow-suc 2 k) in
    ap (λ z. clamp_value z 16) (sym (get_or-take (2 * 2 ^ k) x (brev (suc k) p) (pos 0) low)) ∙ clamped_same 16 _ (fits (brev (suc k) p)))

-- words that were cut to 16 bits, which changed none of them, and then were run
pub narrow_words : {S : Type 0} (lane : S → ℕ → ℤ) (i k : ℕ) (x : List ℤ) (cut run : List S)
    → All (FitsBits 16) (take (2 * 2 ^ k) x)
    → column lane i cut ≡ by_index (2 * 2 ^ k) (cut_place k x)
    → column lane i run ≡ network 16 k (column lane i cut)
    → column lane i run ≡ cosine 16 k (take (2 * 2 ^ k) x)
narrow_words {S} lane i k x cut run fit is_cut is_run =
    is_run ∙ ap (network 16 k) (is_cut ∙ cut_whole k x fit) ∙ sym (cosine_is 16 k (take (2 * 2 ^ k) x))

-- the front of a slice that was written
pub front_column : {W : Type 0} (lane : W → ℕ → ℤ) (i n m : ℕ) (new old : List W) → length new ≡ n →
    take n (column lane i (new ++ drop m old)) ≡ column lane i new
front_column {W} lane i n m new old len =
    let g = λ (x : W). lane x i in
    take-map g n (new ++ drop m old) ∙ ap (map g) (take_at new (drop m old) n len)
