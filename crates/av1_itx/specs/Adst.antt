-- The inverse asymmetric sine transforms (the inverse ADST4, ADST8 and ADST16 processes of the AV1 specification).
use Rattle.std.specs.Prelude.{ℕ, zero, suc, ◌+◌, ◌-◌, ◌*◌, ◌^◌, ◌/◌, ◌%◌, ◌==◌, nat_lt, max, if◌then◌else◌, ℤ, pos}
use Rattle.std.specs.Prelude.{neg_ℤ, List, [], ◌∷◌}
use Rattle.std.specs.Int.Bits.{bit_xor}
use Rattle.av1_dct.specs.Arithmetic.{at, clamp_value}
use Rattle.av1_dct.specs.Operations.{Operations, wrapping, half_btf_with}
use Rattle.av1_dct.specs.Cosine.{brev, cos128}
use Rattle.av1_lists.specs.Lists.{by_index}

-- 4096 times (2 sqrt 2 / 3) sin(i pi / 9), rounded, for i from 1 to 4
abbrev pub sinpi_1_9 : ℤ
sinpi_1_9 = pos 1321

abbrev pub sinpi_2_9 : ℤ
sinpi_2_9 = pos 2482

abbrev pub sinpi_3_9 : ℤ
sinpi_3_9 = pos 3344

abbrev pub sinpi_4_9 : ℤ
sinpi_4_9 = pos 3803

-- four values by four weights, rounded
unfoldable pub weighted_with : Operations → ℤ → ℤ → ℤ → ℤ → List ℤ → ℤ
weighted_with ops a b c d x =
    ops.round (ops.plus (ops.plus (ops.plus (ops.times a (at x 0)) (ops.times b (at x 1))) (ops.times c (at x 2)))
    (ops.times d (at x 3)))

abbrev pub weighted : ℤ → ℤ → ℤ → ℤ → List ℤ → ℤ
weighted = weighted_with wrapping

-- The inverse ADST4 process.
unfoldable pub adst4_with : Operations → List ℤ → List ℤ
adst4_with ops x =
    weighted_with ops sinpi_1_9 sinpi_3_9 sinpi_4_9 sinpi_2_9 x
    ∷ weighted_with ops sinpi_2_9 sinpi_3_9 (neg_ℤ sinpi_1_9) (neg_ℤ sinpi_4_9) x
    ∷ ops.round (ops.times sinpi_3_9 (ops.plus (ops.minus (at x 0) (at x 2)) (at x 3)))
    ∷ weighted_with ops sinpi_4_9 (neg_ℤ sinpi_3_9) sinpi_2_9 (neg_ℤ sinpi_1_9) x
    ∷ []

abbrev pub adst4 : List ℤ → List ℤ
adst4 = adst4_with wrapping

-- Two neighbours u, v by the weights w0 and w1 (a butterfly rotation): they become w0 u + w1 v and w1 u - w0 v,
-- rounded. `i` is a place of the pair 2p, 2p + 1.
unfoldable pub turned_with : Operations → ℤ → ℤ → List ℤ → ℕ → ℤ
turned_with ops w0 w1 v i =
    if i % 2 == 0
    then half_btf_with ops w0 (at v i) w1 (at v (i + 1))
    else half_btf_with ops w1 (at v (i - 1)) (neg_ℤ w0) (at v i)

abbrev pub turned : ℤ → ℤ → List ℤ → ℕ → ℤ
turned = turned_with wrapping

-- the weights of a turn by the angle a, and of one in the other direction
abbrev pub turn_weights : ℕ → ℤ × ℤ
turn_weights a = (cos128 a, cos128 (64 - a))

abbrev pub back_weights : ℕ → ℤ × ℤ
back_weights a = (neg_ℤ (cos128 (64 - a)), cos128 a)

-- The inverse ADST input array permutation process: place i of n values.
unfoldable pub adst_in : ℕ → List ℤ → ℕ → ℤ
adst_in n x i = if i % 2 == 0 then at x (n - 1 - i) else at x (i - 1)

-- The weights of pair p of n places in the first turn, which turns each pair.
abbrev pub start_weights : ℕ → ℕ → ℤ × ℤ
start_weights n p = turn_weights (32 / n * (4 * p + 1))

unfoldable pub adst_start_with : Operations → ℕ → List ℤ → ℕ → ℤ
adst_start_with ops n v i =
    let w = start_weights n (i / 2) in
    turned_with ops w.0 w.1 v i

abbrev pub adst_start : ℕ → List ℤ → ℕ → ℤ
adst_start = adst_start_with wrapping

-- In each block of 2s places, two places at a distance of s become their clamped sum and difference (a Hadamard
-- rotation).
unfoldable pub adst_sum_with : Operations → ℕ → ℕ → List ℤ → ℕ → ℤ
adst_sum_with ops range s v i =
    if nat_lt (i % (2 * s)) s
    then clamp_value (ops.plus (at v i) (at v (i + s))) range
    else clamp_value (ops.minus (at v (i - s)) (at v i)) range

abbrev pub adst_sum : ℕ → ℕ → List ℤ → ℕ → ℤ
adst_sum = adst_sum_with wrapping

-- After the sums, the pairs of the upper s places of each block are turned: the first s/4 of them, at least one, and
-- the others in the other direction. These are the weights of pair p.
abbrev pub round_weights : ℕ → ℕ → ℤ × ℤ
round_weights s p =
    if nat_lt p (max 1 (s / 4))
    then turn_weights (64 / s * (4 * p + 1))
    else back_weights (64 / s * (4 * (p - s / 4) + 1))

unfoldable pub adst_turn_with : Operations → ℕ → List ℤ → ℕ → ℤ
adst_turn_with ops s v i =
    let t = i % (2 * s) in
    let w = round_weights s ((t - s) / 2) in
    if nat_lt t s then at v i else turned_with ops w.0 w.1 v i

abbrev pub adst_turn : ℕ → List ℤ → ℕ → ℤ
adst_turn = adst_turn_with wrapping

-- The sums and then the turns, for the first c of s = 2^k, 2^(k-1), ..
unfoldable pub adst_rounds_with : Operations → ℕ → ℕ → ℕ → List ℤ → List ℤ
adst_rounds_with ops range k zero v = v
adst_rounds_with ops range k (suc c) v =
    let n = 2 * 2 ^ k in
    let s = 2 ^ (k - c) in
    by_index n (adst_turn_with ops s (by_index n (adst_sum_with ops range s (adst_rounds_with ops range k c v))))

abbrev pub adst_rounds : ℕ → ℕ → ℕ → List ℤ → List ℤ
adst_rounds = adst_rounds_with wrapping

-- The inverse ADST output array permutation process: the place, of 2^(k+1), that output i is read from
unfoldable pub out_place : ℕ → ℕ → ℕ
out_place k i = brev (suc k) (bit_xor i (i / 2))

-- Output i, which is negated if i is odd.
unfoldable pub adst_out_with : Operations → ℕ → List ℤ → ℕ → ℤ
adst_out_with ops k v i =
    let z = at v (out_place k i) in
    if i % 2 == 0 then z else ops.minus (pos 0) z

abbrev pub adst_out : ℕ → List ℤ → ℕ → ℤ
adst_out = adst_out_with wrapping

-- The inverse ADST8 and ADST16 processes: 2^(k+1) values, for k = 2 and 3.
unfoldable pub adst_more_with : Operations → ℕ → ℕ → List ℤ → List ℤ
adst_more_with ops range k x =
    let n = 2 * 2 ^ k in
    by_index n
    (adst_out_with ops k
    (adst_rounds_with ops range k k (by_index n (adst_start_with ops n (by_index n (adst_in n x))))))

abbrev pub adst_more : ℕ → ℕ → List ℤ → List ℤ
adst_more = adst_more_with wrapping

-- The inverse ADST process, of 2^(k+1) values for k from 1 to 3.
unfoldable pub adst_with : Operations → ℕ → ℕ → List ℤ → List ℤ
adst_with ops range (suc zero) x = adst4_with ops x
adst_with ops range k x = adst_more_with ops range k x

abbrev pub adst : ℕ → ℕ → List ℤ → List ℤ
adst = adst_with wrapping
