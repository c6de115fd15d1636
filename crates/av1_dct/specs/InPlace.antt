-- What single functions of the crate do in place. No public contract cites this file.
use Rattle.std.specs.Prelude.{ℕ, zero, suc, ◌+◌, ◌-◌, ◌*◌, ◌/◌, ◌%◌, ◌^◌, nat_lt, min, if◌then◌else◌, Bool, false, ℤ}
use Rattle.std.specs.Prelude.{neg_ℤ, ◌+ℤ◌, ◌-ℤ◌, List, [], ◌∷◌, ◌++◌, set, take, drop}
use Rattle.av1_dct.specs.Arithmetic.{at, clamp_value}
use Rattle.av1_dct.specs.Operations.{half_btf}
use Rattle.av1_dct.specs.Cosine.{brev, cos128, group_sum, outer_turn, mirror_sum, rounds, inner_turn}
use Rattle.av1_lists.specs.Lists.{by_index}

-- From the transform of the even inputs, in the first half of 2^(k+1) values, and the odd inputs, in the second half in
-- the order of their reversed places, to the transform of all: steps 1 to 3 on the second half, and the sums and
-- differences of both.
abbrev pub joined : ℕ → ℕ → List ℤ → List ℤ
joined range k w =
    let m = 2 ^ k in
    by_index (2 * m)
    (mirror_sum range false m (take m w ++ rounds range k (k - 1) (by_index m (outer_turn k (drop m w)))))

-- The inverse cosine transform of 2^(k+1) values that are in the order of their reversed places: even inputs first.
unfoldable pub network : ℕ → ℕ → List ℤ → List ℤ
network range zero w =
    half_btf (cos128 32) (at w 0) (cos128 32) (at w 1) ∷ half_btf (cos128 32) (at w 0) (neg_ℤ (cos128 32)) (at w 1) ∷ []
network range (suc k) w =
    let m = 2 ^ suc k in
    let odd = rounds range (suc k) k (by_index m (outer_turn (suc k) (drop m w))) in
    by_index (2 * m) (mirror_sum range false m (network range k (take m w) ++ odd))

-- ---- rotations and the sums after them in one step

-- the sums of groups of 2h places after the rounds before them; h = 2^c
abbrev pub sums : (range k c : ℕ) → List ℤ → List ℤ
sums range k c u = by_index (2 ^ k) (group_sum range (2 ^ c) (rounds range k c u))

-- the places p and e become the clamped sum and difference of two values; if `odd`, the difference and the sum
abbrev pub paired : Bool → (range p e : ℕ) → (x y : ℤ) → List ℤ → List ℤ
paired odd range p e x y v =
    set (set v p (if odd then clamp_value (y -ℤ x) range else clamp_value (x +ℤ y) range)) e
    (if odd then clamp_value (y +ℤ x) range else clamp_value (x -ℤ y) range)

-- step 1 and the sums of pairs: all of 2^k places
abbrev pub begin_all : (range k : ℕ) → List ℤ → List ℤ
begin_all range k u = by_index (2 ^ k) (group_sum range 1 (by_index (2 ^ k) (outer_turn k u)))

-- the same only at the first and the last 2n places
abbrev pub begun_at : (range k n : ℕ) → List ℤ → ℕ → ℤ
begun_at range k n u i =
    let m = 2 ^ k in
    if nat_lt (min i (m - 1 - i)) (2 * n) then group_sum range 1 (by_index m (outer_turn k u)) i else at u i

unfoldable pub begun : (range k n : ℕ) → List ℤ → List ℤ
begun range k n u = by_index (2 ^ k) (begun_at range k n u)

-- round j's rotations and the sums of groups of 4h places after them, for h = 2^j: all of 2^k places
abbrev pub round_all : (range k j : ℕ) → List ℤ → List ℤ
round_all range k j s = by_index (2 ^ k) (group_sum range (2 * 2 ^ j) (by_index (2 ^ k) (inner_turn k j s)))

-- the same at eight places for each of the first n turns
abbrev pub rounded_at : (range k j n : ℕ) → List ℤ → ℕ → ℤ
rounded_at range k j n s i =
    let m = 2 ^ k in
    let h = 2 ^ j in
    let p = min i (m - 1 - i) in
    let t = min (p % (4 * h)) (4 * h - 1 - p % (4 * h)) in
    if nat_lt (p / (4 * h) * h + t % h) n then group_sum range (2 * h) (by_index m (inner_turn k j s)) i else at s i

unfoldable pub rounded : (range k j n : ℕ) → List ℤ → List ℤ
rounded range k j n s = by_index (2 ^ k) (rounded_at range k j n s)

-- the last rotations, of the second half of 2 * 2^k places, and the sums of both halves
abbrev pub end_all : (range k : ℕ) → List ℤ → List ℤ
end_all range k w =
    let m = 2 ^ k in
    by_index (2 * m)
    (mirror_sum range false m (by_index m (at w)
    ++ by_index m (inner_turn k (k - 2) (by_index m (λ i. at w (m + i))))))

-- the same at eight places for each of the first n turns
abbrev pub ended_at : (range k n : ℕ) → List ℤ → ℕ → ℤ
ended_at range k n w i =
    let m = 2 ^ k in
    let p = if nat_lt i m then m - 1 - i else i - m in
    if nat_lt (min p (m - 1 - p) % 2 ^ (k - 2)) n
    then mirror_sum range false m (by_index m (at w)
    ++ by_index m (inner_turn k (k - 2) (by_index m (λ i. at w (m + i))))) i
    else at w i

unfoldable pub ended : (range k n : ℕ) → List ℤ → List ℤ
ended range k n w = by_index (2 * 2 ^ k) (ended_at range k n w)

-- ---- narrow lanes

-- the value that comes to place p, in the order of reversed places, if 2^(k+1) values are cut to 16 bits
abbrev pub cut_place : ℕ → List ℤ → ℕ → ℤ
cut_place k x p = clamp_value (at x (brev (suc k) p)) 16
