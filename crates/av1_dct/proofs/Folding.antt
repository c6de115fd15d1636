-- The transform of twice as many values, as sums and differences of its two halves.
use Rattle.std.proofs.Common.{ℕ, suc, false, ◌≡◌, ◌+◌, ◌-◌, ◌*◌, ◌^◌, ◌<◌, ℤ, pos, ◌+ℤ◌, ◌-ℤ◌, List, ◌++◌, arith, ◌∙◌, ap, sym, refl}
use Rattle.std.proofs.Math.Nat.{pow-suc}
use Rattle.std.proofs.lemmas.List.{get_or_append_left, get_or-append_right}
use Rattle.av1_dct.specs.Arithmetic.{at, clamp_value}
use Rattle.av1_dct.specs.Cosine.{evens, odds, mirror_sum, odd_half, cosine, cosine_with}
use Rattle.av1_dct.proofs.Sums.{mirror-low, mirror-high}
use Rattle.av1_dct.proofs.Halves.{cosine-length}
use Rattle.av1_dct.proofs.Places.{at-by_index}

-- the two halves, side by side
low_half : (range k : ℕ) (x ys : List ℤ) (i : ℕ) → i < 2 ^ suc k → at (cosine range k x) i ≡ at (cosine range k x ++ ys) i
low_half range k x ys i h = sym (get_or_append_left (cosine range k x) ys (pos 0) i (omega (arith, cosine-length range k x, pow-suc 2 k)))

high_half : (range k : ℕ) (x ys : List ℤ) (i e : ℕ) → e ≡ 2 ^ suc k + i → at ys i ≡ at (cosine range k x ++ ys) e
high_half range k x ys i e is =
    let m = 2 ^ suc k in
    sym (get_or-append_right (cosine range k x) ys m e (pos 0) (omega (arith, cosine-length range k x, pow-suc 2 k)) (omega arith)
    ∙ ap (at ys) (let z : e - m ≡ i = omega arith in z))

pub sums : (range k i : ℕ) (x : List ℤ) → i < 2 ^ suc k →
    at (cosine range (suc k) x) i ≡ clamp_value (at (cosine range k (evens (2 ^ suc k) x)) i +ℤ at (odd_half range k (odds (2 ^ suc k) x)) (2 ^ suc k - 1 - i))
    range
unfolding cosine_with
sums range k i x h =
    let m = 2 ^ suc k in
    let even = cosine range k (evens m x) in
    let odd = odd_half range k (odds m x) in
    at-by_index (2 * m) (mirror_sum range false m (even ++ odd)) i (omega arith)
    ∙ sym (mirror-low range m (even ++ odd) i (2 * m - 1 - i) _ _ h refl (low_half range k (evens m x) odd i h)
    (high_half range k (evens m x) odd (m - 1 - i) (2 * m - 1 - i) (omega arith)))

pub differences : (range k i : ℕ) (x : List ℤ) → i < 2 ^ suc k →
    at (cosine range (suc k) x) (2 * 2 ^ suc k - 1 - i) ≡
    clamp_value (at (cosine range k (evens (2 ^ suc k) x)) i -ℤ at (odd_half range k (odds (2 ^ suc k) x)) (2 ^ suc k - 1 - i)) range
unfolding cosine_with
differences range k i x h =
    let m = 2 ^ suc k in
    let even = cosine range k (evens m x) in
    let odd = odd_half range k (odds m x) in
    at-by_index (2 * m) (mirror_sum range false m (even ++ odd)) (2 * m - 1 - i) (omega arith)
    ∙ sym (mirror-high range m (even ++ odd) i (2 * m - 1 - i) _ _ h refl (low_half range k (evens m x) odd i h)
    (high_half range k (evens m x) odd (m - 1 - i) (2 * m - 1 - i) (omega arith)))
