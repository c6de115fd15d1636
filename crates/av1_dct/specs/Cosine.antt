-- The inverse cosine transform: the inverse DCT process of the AV1 specification, for 2^(k+1) values. It is made of
-- butterfly rotations (a value and its mirror image are turned by an angle) and Hadamard rotations (they become their
-- clamped sum and difference).
use Rattle.std.specs.Prelude.{ℕ, zero, suc, ◌+◌, ◌-◌, ◌*◌, ◌^◌, ◌/◌, ◌%◌, ◌==◌, Bool, false, nat_lt, nat_le, ◌||◌, min}
use Rattle.std.specs.Prelude.{if◌then◌else◌, ℤ, pos, neg_ℤ, List, [], ◌∷◌, ◌++◌, map, take, drop}
use Rattle.av1_lists.specs.Lists.{by_index}
use Rattle.av1_dct.specs.Arithmetic.{at, clamp_value}
use Rattle.av1_dct.specs.Operations.{Operations, wrapping, half_btf_with}

-- 4096 times the cosine of a * pi / 128, rounded, for a from 0 to 63
abbrev pub cos128_lookup : List ℤ
cos128_lookup =
    map pos (4096 ∷ 4095 ∷ 4091 ∷ 4085 ∷ 4076 ∷ 4065 ∷ 4052 ∷ 4036 ∷ 4017 ∷ 3996 ∷ 3973 ∷ 3948 ∷ 3920 ∷ 3889 ∷ 3857 ∷
    3822 ∷ 3784 ∷ 3745 ∷ 3703 ∷ 3659 ∷ 3612 ∷ 3564 ∷ 3513 ∷ 3461 ∷ 3406 ∷ 3349 ∷ 3290 ∷ 3229 ∷ 3166 ∷ 3102 ∷ 3035 ∷
    2967 ∷ 2896 ∷ 2824 ∷ 2751 ∷ 2675 ∷ 2598 ∷ 2520 ∷ 2440 ∷ 2359 ∷ 2276 ∷ 2191 ∷ 2106 ∷ 2019 ∷ 1931 ∷ 1842 ∷ 1751 ∷
    1660 ∷ 1567 ∷ 1474 ∷ 1380 ∷ 1285 ∷ 1189 ∷ 1092 ∷ 995 ∷ 897 ∷ 799 ∷ 700 ∷ 601 ∷ 501 ∷ 401 ∷ 301 ∷ 201 ∷ 101 ∷ [])

-- the weight of the angle a, in 128ths of a half turn: its cosine; its sine is the weight of 64 - a
unfoldable pub cos128 : ℕ → ℤ
cos128 a = at cos128_lookup a

-- the lowest k bits of p, in reverse order
unfoldable pub brev : ℕ → ℕ → ℕ
brev zero p = 0
brev (suc k) p = 2 * brev k (p % 2 ^ k) + p / 2 ^ k

-- Step 1, on m = 2^k values: butterfly rotations of place p of the lower half with place m - 1 - p.
unfoldable pub outer_turn_with : Operations → ℕ → List ℤ → ℕ → ℤ
outer_turn_with ops k v i =
    let m = 2 ^ k in
    let p = min i (m - 1 - i) in
    let q = m - 1 - p in
    let a = 32 / m * (2 * brev k p + 1) in
    if nat_lt i (m / 2)
    then half_btf_with ops (cos128 (64 - a)) (at v p) (neg_ℤ (cos128 a)) (at v q)
    else half_btf_with ops (cos128 a) (at v p) (cos128 (64 - a)) (at v q)

abbrev pub outer_turn : ℕ → List ℤ → ℕ → ℤ
outer_turn = outer_turn_with wrapping

-- Hadamard rotations, on 2m values: place i and its mirror image become their clamped sum and difference; if `odd`, the
-- difference and the sum.
unfoldable pub mirror_sum_with : Operations → ℕ → Bool → ℕ → List ℤ → ℕ → ℤ
mirror_sum_with ops range odd m w i =
    let e = 2 * m - 1 - i in
    if (if odd then nat_le m i else nat_lt i m)
    then clamp_value (ops.plus (at w i) (at w e)) range
    else clamp_value (ops.minus (at w e) (at w i)) range

abbrev pub mirror_sum : ℕ → Bool → ℕ → List ℤ → ℕ → ℤ
mirror_sum = mirror_sum_with wrapping

-- Step 2: Hadamard rotations in each group of 2h places; in each second group with `odd`.
unfoldable pub group_sum_with : Operations → ℕ → ℕ → List ℤ → ℕ → ℤ
group_sum_with ops range h v i =
    let g = i / (2 * h) in
    mirror_sum_with ops range (g % 2 == 1) h (take (2 * h) (drop (g * (2 * h)) v)) (i % (2 * h))

abbrev pub group_sum : ℕ → ℕ → List ℤ → ℕ → ℤ
group_sum = group_sum_with wrapping

-- Step 3, on m = 2^k values in groups of 2h = 2^(j+1) places: butterfly rotations of the inner half of each two groups
-- with their mirror images.
unfoldable pub inner_turn_with : Operations → ℕ → ℕ → List ℤ → ℕ → ℤ
inner_turn_with ops k j v i =
    let m = 2 ^ k in
    let h = 2 ^ j in
    let p = min i (m - 1 - i) in
    let q = m - 1 - p in
    let r = p % (4 * h) in
    let b = 128 * h / m * (4 * brev (k - j - 3) (p / (4 * h)) + 1) in
    if nat_lt r h || nat_le (3 * h) r then at v i
    else if nat_lt i (m / 2)
    then (if nat_lt r (2 * h)
    then half_btf_with ops (neg_ℤ (cos128 b)) (at v p) (cos128 (64 - b)) (at v q)
    else half_btf_with ops (neg_ℤ (cos128 (64 - b))) (at v p) (neg_ℤ (cos128 b)) (at v q))
    else (if nat_lt r (2 * h)
    then half_btf_with ops (cos128 (64 - b)) (at v p) (cos128 b) (at v q)
    else half_btf_with ops (neg_ℤ (cos128 b)) (at v p) (cos128 (64 - b)) (at v q))

abbrev pub inner_turn : ℕ → ℕ → List ℤ → ℕ → ℤ
inner_turn = inner_turn_with wrapping

-- Steps 2 and 3 one after the other, for groups of 2, 4, .. places: the first c sizes.
unfoldable pub rounds_with : Operations → ℕ → ℕ → ℕ → List ℤ → List ℤ
rounds_with ops range k zero v = v
rounds_with ops range k (suc c) v =
    let w = rounds_with ops range k c v in
    let s = by_index (2 ^ k) (group_sum_with ops range (2 ^ c) w) in
    by_index (2 ^ k) (inner_turn_with ops k c s)

abbrev pub rounds : ℕ → ℕ → ℕ → List ℤ → List ℤ
rounds = rounds_with wrapping

-- The 2^(k+1) odd inputs after their part of the transform: put into the order of their reversed places, then steps 1
-- to 3.
unfoldable pub odd_half_with : Operations → ℕ → ℕ → List ℤ → List ℤ
odd_half_with ops range k y =
    let m = 2 ^ suc k in
    let v = by_index m (λ p. at y (brev (suc k) p)) in
    rounds_with ops range (suc k) k (by_index m (outer_turn_with ops (suc k) v))

abbrev pub odd_half : ℕ → ℕ → List ℤ → List ℤ
odd_half = odd_half_with wrapping

-- the inputs at even places, and those at odd places, m of each
abbrev pub evens : ℕ → List ℤ → List ℤ
evens m x = by_index m (λ i. at x (2 * i))

abbrev pub odds : ℕ → List ℤ → List ℤ
odds m x = by_index m (λ i. at x (2 * i + 1))

-- The inverse cosine transform of 2^(k+1) values: the transform of the even inputs and the result of the odd ones,
-- added and subtracted (step 4).
unfoldable pub cosine_with : Operations → ℕ → ℕ → List ℤ → List ℤ
cosine_with ops range zero x =
    half_btf_with ops (cos128 32) (at x 0) (cos128 32) (at x 1) ∷
    half_btf_with ops (cos128 32) (at x 0) (neg_ℤ (cos128 32)) (at x 1) ∷ []
cosine_with ops range (suc k) x =
    let m = 2 ^ suc k in
    let even = cosine_with ops range k (evens m x) in
    by_index (2 * m) (mirror_sum_with ops range false m (even ++ odd_half_with ops range k (odds m x)))

abbrev pub cosine : ℕ → ℕ → List ℤ → List ℤ
cosine = cosine_with wrapping
