-- What one turn of the fused steps does, and that the turns together do the whole step. All of it is computed, for each length.
use Rattle.std.proofs.Common.{refl, arith, zero, suc, ℕ, ◌≡◌, ◌<◌, ◌≤◌, ◌+◌, ◌-◌, ◌*◌, ◌/◌, ◌%◌, ◌==◌, ◌^◌, false, not, min, ◌++◌, nat_lt, if◌then◌else◌}
use Rattle.std.proofs.Common.{neg_ℤ, ℤ}
use Rattle.std.proofs.Common.{pos, List, [], ◌∷◌, length}
use Rattle.std.proofs.lemmas.Bool.Decides.{nat_tests}
use Rattle.std.proofs.lemmas.List.FromFn.{fill_by_all}
use Rattle.av1_lists.specs.Lists.{by_index}
use Rattle.av1_dct.specs.Arithmetic.{at}
use Rattle.av1_dct.specs.Operations.{half_btf}
use Rattle.av1_dct.specs.Cosine.{brev, cos128, group_sum, group_sum_with, mirror_sum, mirror_sum_with, outer_turn, outer_turn_with, inner_turn, inner_turn_with}
use Rattle.av1_dct.specs.Cosine.{rounds, rounds_with}
use Rattle.av1_dct.specs.InPlace.{network, paired, sums, begun, begun_at, begin_all, rounded, rounded_at, round_all, ended, ended_at, end_all}

-- step 1 and the sums at pair n and its mirror image
abbrev pub begin_turn : (range k n : ℕ) → List ℤ → List ℤ
begin_turn range k n v =
    let m = 2 ^ k in
    let p = 2 * n in
    let e = 2 * n + 1 in
    let f = m - 1 - e in
    let q = m - 1 - p in
    let a = 32 / m * (2 * brev k p + 1) in
    let b = 32 / m * (2 * brev k e + 1) in
    let tp = half_btf (cos128 (64 - a)) (at v p) (neg_ℤ (cos128 a)) (at v q) in
    let tq = half_btf (cos128 a) (at v p) (cos128 (64 - a)) (at v q) in
    let te = half_btf (cos128 (64 - b)) (at v e) (neg_ℤ (cos128 b)) (at v f) in
    let tf = half_btf (cos128 b) (at v e) (cos128 (64 - b)) (at v f) in
    paired (not (n % 2 == 1)) range f q tf tq (paired (n % 2 == 1) range p e tp te v)

-- round j's rotations and the sums behind them, at turn n
abbrev pub round_turn : (range k j n : ℕ) → List ℤ → List ℤ
round_turn range k j n v =
    let m = 2 ^ k in
    let h = 2 ^ j in
    let d = n / h in
    let odd = d % 2 == 1 in
    let first = d * (4 * h) + n % h in
    let last = d * (4 * h) + 4 * h - 1 - n % h in
    let b = 128 * h / m * (4 * brev (k - j - 3) d + 1) in
    let v1 = paired odd range first last (at v first) (at v last) v in
    let v2 = paired (not odd) range (m - 1 - last) (m - 1 - first) (at v1 (m - 1 - last)) (at v1 (m - 1 - first)) v1 in
    let p = first + h in
    let e = last - h in
    let q = m - 1 - p in
    let f = m - 1 - e in
    let tp = half_btf (neg_ℤ (cos128 b)) (at v2 p) (cos128 (64 - b)) (at v2 q) in
    let tq = half_btf (cos128 (64 - b)) (at v2 p) (cos128 b) (at v2 q) in
    let te = half_btf (neg_ℤ (cos128 (64 - b))) (at v2 e) (neg_ℤ (cos128 b)) (at v2 f) in
    let tf = half_btf (neg_ℤ (cos128 b)) (at v2 e) (cos128 (64 - b)) (at v2 f) in
    paired (not odd) range f q tf tq (paired odd range p e tp te v2)

-- the last rotations and the sums of both halves, at turn n
abbrev pub end_turn : (range k n : ℕ) → List ℤ → List ℤ
end_turn range k n w =
    let m = 2 ^ k in
    let b = 128 * 2 ^ (k - 2) / m * (4 * brev (k - (k - 2) - 3) 0 + 1) in
    let w1 = paired false range n (2 * m - 1 - n) (at w n) (at w (2 * m - 1 - n)) w in
    let w2 = paired false range (m - 1 - n) (m + n) (at w1 (m - 1 - n)) (at w1 (m + n)) w1 in
    let p = m / 4 + n in
    let q = m - 1 - p in
    let tp = half_btf (neg_ℤ (cos128 b)) (at w2 (m + p)) (cos128 (64 - b)) (at w2 (m + q)) in
    let tq = half_btf (cos128 (64 - b)) (at w2 (m + p)) (cos128 b) (at w2 (m + q)) in
    paired false range p (m + q) (at w2 p) tq (paired false range q (m + p) (at w2 q) tp w2)

-- a turn, step by step, from the numbers that the code computes
pub begin_turned : (range k n m a b : ℕ) (v v1 v2 : List ℤ) (tp tq te tf : ℤ) → m ≡ 2 ^ k →
    a ≡ 32 / 2 ^ k * (2 * brev k (2 * n) + 1) → b ≡ 32 / 2 ^ k * (2 * brev k (2 * n + 1) + 1) →
    tp ≡ half_btf (cos128 (64 - a)) (at v (2 * n)) (neg_ℤ (cos128 a)) (at v (m - 1 - 2 * n)) →
    tq ≡ half_btf (cos128 a) (at v (2 * n)) (cos128 (64 - a)) (at v (m - 1 - 2 * n)) →
    te ≡ half_btf (cos128 (64 - b)) (at v (2 * n + 1)) (neg_ℤ (cos128 b)) (at v (m - 1 - (2 * n + 1))) →
    tf ≡ half_btf (cos128 b) (at v (2 * n + 1)) (cos128 (64 - b)) (at v (m - 1 - (2 * n + 1))) →
    v1 ≡ paired (n % 2 == 1) range (2 * n) (2 * n + 1) tp te v →
    v2 ≡ paired (not (n % 2 == 1)) range (m - 1 - (2 * n + 1)) (m - 1 - 2 * n) tf tq v1 → v2 ≡ begin_turn range k n v
begin_turned range k n m a b v v1 v2 tp tq te tf em ea eb ep eq ee ef e1 e2 = cc

pub round_turned : (range k j n m h d first last b : ℕ) (v v1 v2 v3 v4 : List ℤ) (tp tq te tf : ℤ) → m ≡ 2 ^ k → h ≡ 2 ^ j → d ≡ n / 2 ^ j →
    first ≡ n / 2 ^ j * (4 * 2 ^ j) + n % 2 ^ j → last ≡ n / 2 ^ j * (4 * 2 ^ j) + 4 * 2 ^ j - 1 - n % 2 ^ j →
    b ≡ 128 * 2 ^ j / 2 ^ k * (4 * brev (k - j - 3) d + 1) →
    v1 ≡ paired (d % 2 == 1) range first last (at v first) (at v last) v →
    v2 ≡ paired (not (d % 2 == 1)) range (m - 1 - last) (m - 1 - first) (at v1 (m - 1 - last)) (at v1 (m - 1 - first)) v1 →
    tp ≡ half_btf (neg_ℤ (cos128 b)) (at v2 (first + h)) (cos128 (64 - b)) (at v2 (m - 1 - (first + h))) →
    tq ≡ half_btf (cos128 (64 - b)) (at v2 (first + h)) (cos128 b) (at v2 (m - 1 - (first + h))) →
    te ≡ half_btf (neg_ℤ (cos128 (64 - b))) (at v2 (last - h)) (neg_ℤ (cos128 b)) (at v2 (m - 1 - (last - h))) →
    tf ≡ half_btf (neg_ℤ (cos128 b)) (at v2 (last - h)) (cos128 (64 - b)) (at v2 (m - 1 - (last - h))) →
    v3 ≡ paired (d % 2 == 1) range (first + h) (last - h) tp te v2 →
    v4 ≡ paired (not (d % 2 == 1)) range (m - 1 - (last - h)) (m - 1 - (first + h)) tf tq v3 → v4 ≡ round_turn range k j n v
round_turned range k j n m h d first last b v v1 v2 v3 v4 tp tq te tf em eh ed e0 ez eb e1 e2 ep eq ee ef e3 e4 = cc

pub end_turned : (range k n m b : ℕ) (w w1 w2 w3 w4 : List ℤ) (x y tp tq : ℤ) → m ≡ 2 ^ k →
    b ≡ 128 * 2 ^ (k - 2) / 2 ^ k * (4 * brev (k - (k - 2) - 3) 0 + 1) →
    w1 ≡ paired false range n (2 * m - 1 - n) (at w n) (at w (2 * m - 1 - n)) w →
    w2 ≡ paired false range (m - 1 - n) (m + n) (at w1 (m - 1 - n)) (at w1 (m + n)) w1 →
    x ≡ at w2 (m - 1 - (m / 4 + n)) → y ≡ at w2 (m / 4 + n) →
    tp ≡ half_btf (neg_ℤ (cos128 b)) (at w2 (m + (m / 4 + n))) (cos128 (64 - b)) (at w2 (m + (m - 1 - (m / 4 + n)))) →
    tq ≡ half_btf (cos128 (64 - b)) (at w2 (m + (m / 4 + n))) (cos128 b) (at w2 (m + (m - 1 - (m / 4 + n)))) →
    w3 ≡ paired false range (m - 1 - (m / 4 + n)) (m + (m / 4 + n)) x tp w2 →
    w4 ≡ paired false range (m / 4 + n) (m + (m - 1 - (m / 4 + n))) y tq w3 → w4 ≡ end_turn range k n w
end_turned range k n m b w w1 w2 w3 w4 x y tp tq em eb e1 e2 ex ey ep eq e3 e4 = cc

-- each turn follows on those before it
pub begin_next : (range k n : ℕ) (u : List ℤ) → 2 ≤ k → k ≤ 5 → n < 2 ^ k / 4 → begin_turn range k n (begun range k n u) ≡ begun range k (n + 1) u
unfolding begun group_sum_with mirror_sum_with outer_turn_with inner_turn_with brev
begin_next range (suc (suc zero)) zero u low high few = refl
begin_next range (suc (suc zero)) (suc n) u low high few = absurd (omega arith)
begin_next range (suc (suc (suc zero))) zero u low high few = refl
begin_next range (suc (suc (suc zero))) (suc zero) u low high few = refl
begin_next range (suc (suc (suc zero))) (suc (suc n)) u low high few = absurd (omega arith)
begin_next range (suc (suc (suc (suc zero)))) zero u low high few = refl
begin_next range (suc (suc (suc (suc zero)))) (suc zero) u low high few = refl
begin_next range (suc (suc (suc (suc zero)))) (suc (suc zero)) u low high few = refl
begin_next range (suc (suc (suc (suc zero)))) (suc (suc (suc zero))) u low high few = refl
begin_next range (suc (suc (suc (suc zero)))) (suc (suc (suc (suc n)))) u low high few = absurd (omega arith)
begin_next range (suc (suc (suc (suc (suc zero))))) zero u low high few = refl
begin_next range (suc (suc (suc (suc (suc zero))))) (suc zero) u low high few = refl
begin_next range (suc (suc (suc (suc (suc zero))))) (suc (suc zero)) u low high few = refl
begin_next range (suc (suc (suc (suc (suc zero))))) (suc (suc (suc zero))) u low high few = refl
begin_next range (suc (suc (suc (suc (suc zero))))) (suc (suc (suc (suc zero)))) u low high few = refl
begin_next range (suc (suc (suc (suc (suc zero))))) (suc (suc (suc (suc (suc zero))))) u low high few = refl
begin_next range (suc (suc (suc (suc (suc zero))))) (suc (suc (suc (suc (suc (suc zero)))))) u low high few = refl
begin_next range (suc (suc (suc (suc (suc zero))))) (suc (suc (suc (suc (suc (suc (suc zero))))))) u low high few = refl
begin_next range (suc (suc (suc (suc (suc zero))))) (suc (suc (suc (suc (suc (suc (suc (suc n)))))))) u low high few = absurd (omega arith)
begin_next range zero n u low high few = absurd (omega arith)
begin_next range (suc zero) n u low high few = absurd (omega arith)
begin_next range (suc (suc (suc (suc (suc (suc k)))))) n u low high few = absurd (omega arith)

pub round_next : (range k j n : ℕ) (s : List ℤ) → j + 3 ≤ k → k ≤ 5 → n < 2 ^ k / 8 →
    round_turn range k j n (rounded range k j n s) ≡ rounded range k j (n + 1) s
unfolding rounded group_sum_with mirror_sum_with outer_turn_with inner_turn_with brev
round_next range (suc (suc (suc zero))) zero zero s low high few = refl
round_next range (suc (suc (suc zero))) zero (suc n) s low high few = absurd (omega arith)
round_next range (suc (suc (suc zero))) (suc j) n s low high few = absurd (omega arith)
round_next range (suc (suc (suc (suc zero)))) zero zero s low high few = refl
round_next range (suc (suc (suc (suc zero)))) zero (suc zero) s low high few = refl
round_next range (suc (suc (suc (suc zero)))) zero (suc (suc n)) s low high few = absurd (omega arith)
round_next range (suc (suc (suc (suc zero)))) (suc zero) zero s low high few = refl
round_next range (suc (suc (suc (suc zero)))) (suc zero) (suc zero) s low high few = refl
round_next range (suc (suc (suc (suc zero)))) (suc zero) (suc (suc n)) s low high few = absurd (omega arith)
round_next range (suc (suc (suc (suc zero)))) (suc (suc j)) n s low high few = absurd (omega arith)
round_next range (suc (suc (suc (suc (suc zero))))) zero zero s low high few = refl
round_next range (suc (suc (suc (suc (suc zero))))) zero (suc zero) s low high few = refl
round_next range (suc (suc (suc (suc (suc zero))))) zero (suc (suc zero)) s low high few = refl
round_next range (suc (suc (suc (suc (suc zero))))) zero (suc (suc (suc zero))) s low high few = refl
round_next range (suc (suc (suc (suc (suc zero))))) zero (suc (suc (suc (suc n)))) s low high few = absurd (omega arith)
round_next range (suc (suc (suc (suc (suc zero))))) (suc zero) zero s low high few = refl
round_next range (suc (suc (suc (suc (suc zero))))) (suc zero) (suc zero) s low high few = refl
round_next range (suc (suc (suc (suc (suc zero))))) (suc zero) (suc (suc zero)) s low high few = refl
round_next range (suc (suc (suc (suc (suc zero))))) (suc zero) (suc (suc (suc zero))) s low high few = refl
round_next range (suc (suc (suc (suc (suc zero))))) (suc zero) (suc (suc (suc (suc n)))) s low high few = absurd (omega arith)
round_next range (suc (suc (suc (suc (suc zero))))) (suc (suc zero)) zero s low high few = refl
round_next range (suc (suc (suc (suc (suc zero))))) (suc (suc zero)) (suc zero) s low high few = refl
round_next range (suc (suc (suc (suc (suc zero))))) (suc (suc zero)) (suc (suc zero)) s low high few = refl
round_next range (suc (suc (suc (suc (suc zero))))) (suc (suc zero)) (suc (suc (suc zero))) s low high few = refl
round_next range (suc (suc (suc (suc (suc zero))))) (suc (suc zero)) (suc (suc (suc (suc n)))) s low high few = absurd (omega arith)
round_next range (suc (suc (suc (suc (suc zero))))) (suc (suc (suc j))) n s low high few = absurd (omega arith)
round_next range zero j n s low high few = absurd (omega arith)
round_next range (suc zero) j n s low high few = absurd (omega arith)
round_next range (suc (suc zero)) j n s low high few = absurd (omega arith)
round_next range (suc (suc (suc (suc (suc (suc k)))))) j n s low high few = absurd (omega arith)

pub end_next : (range k n : ℕ) (w : List ℤ) → 2 ≤ k → k ≤ 5 → n < 2 ^ k / 4 → end_turn range k n (ended range k n w) ≡ ended range k (n + 1) w
unfolding ended group_sum_with mirror_sum_with outer_turn_with inner_turn_with brev
end_next range (suc (suc zero)) zero w low high few = refl
end_next range (suc (suc zero)) (suc n) w low high few = absurd (omega arith)
end_next range (suc (suc (suc zero))) zero w low high few = refl
end_next range (suc (suc (suc zero))) (suc zero) w low high few = refl
end_next range (suc (suc (suc zero))) (suc (suc n)) w low high few = absurd (omega arith)
end_next range (suc (suc (suc (suc zero)))) zero w low high few = refl
end_next range (suc (suc (suc (suc zero)))) (suc zero) w low high few = refl
end_next range (suc (suc (suc (suc zero)))) (suc (suc zero)) w low high few = refl
end_next range (suc (suc (suc (suc zero)))) (suc (suc (suc zero))) w low high few = refl
end_next range (suc (suc (suc (suc zero)))) (suc (suc (suc (suc n)))) w low high few = absurd (omega arith)
end_next range (suc (suc (suc (suc (suc zero))))) zero w low high few = refl
end_next range (suc (suc (suc (suc (suc zero))))) (suc zero) w low high few = refl
end_next range (suc (suc (suc (suc (suc zero))))) (suc (suc zero)) w low high few = refl
end_next range (suc (suc (suc (suc (suc zero))))) (suc (suc (suc zero))) w low high few = refl
end_next range (suc (suc (suc (suc (suc zero))))) (suc (suc (suc (suc zero)))) w low high few = refl
end_next range (suc (suc (suc (suc (suc zero))))) (suc (suc (suc (suc (suc zero))))) w low high few = refl
end_next range (suc (suc (suc (suc (suc zero))))) (suc (suc (suc (suc (suc (suc zero)))))) w low high few = refl
end_next range (suc (suc (suc (suc (suc zero))))) (suc (suc (suc (suc (suc (suc (suc zero))))))) w low high few = refl
end_next range (suc (suc (suc (suc (suc zero))))) (suc (suc (suc (suc (suc (suc (suc (suc n)))))))) w low high few = absurd (omega arith)
end_next range zero n w low high few = absurd (omega arith)
end_next range (suc zero) n w low high few = absurd (omega arith)
end_next range (suc (suc (suc (suc (suc (suc k)))))) n w low high few = absurd (omega arith)

-- after the last one all is done
pub begun_all : (range k n : ℕ) (u : List ℤ) → 2 ≤ k → k ≤ 5 → 2 ^ k / 4 ≤ n → n ≤ 8 → begun range k n u ≡ begin_all range k u
unfolding begun
begun_all range (suc (suc zero)) (suc zero) u low high many few = refl
begun_all range (suc (suc zero)) (suc (suc zero)) u low high many few = refl
begun_all range (suc (suc zero)) (suc (suc (suc zero))) u low high many few = refl
begun_all range (suc (suc zero)) (suc (suc (suc (suc zero)))) u low high many few = refl
begun_all range (suc (suc zero)) (suc (suc (suc (suc (suc zero))))) u low high many few = refl
begun_all range (suc (suc zero)) (suc (suc (suc (suc (suc (suc zero)))))) u low high many few = refl
begun_all range (suc (suc zero)) (suc (suc (suc (suc (suc (suc (suc zero))))))) u low high many few = refl
begun_all range (suc (suc zero)) (suc (suc (suc (suc (suc (suc (suc (suc zero)))))))) u low high many few = refl
begun_all range (suc (suc zero)) zero u low high many few = absurd (omega arith)
begun_all range (suc (suc zero)) (suc (suc (suc (suc (suc (suc (suc (suc (suc n))))))))) u low high many few = absurd (omega arith)
begun_all range (suc (suc (suc zero))) (suc (suc zero)) u low high many few = refl
begun_all range (suc (suc (suc zero))) (suc (suc (suc zero))) u low high many few = refl
begun_all range (suc (suc (suc zero))) (suc (suc (suc (suc zero)))) u low high many few = refl
begun_all range (suc (suc (suc zero))) (suc (suc (suc (suc (suc zero))))) u low high many few = refl
begun_all range (suc (suc (suc zero))) (suc (suc (suc (suc (suc (suc zero)))))) u low high many few = refl
begun_all range (suc (suc (suc zero))) (suc (suc (suc (suc (suc (suc (suc zero))))))) u low high many few = refl
begun_all range (suc (suc (suc zero))) (suc (suc (suc (suc (suc (suc (suc (suc zero)))))))) u low high many few = refl
begun_all range (suc (suc (suc zero))) zero u low high many few = absurd (omega arith)
begun_all range (suc (suc (suc zero))) (suc zero) u low high many few = absurd (omega arith)
begun_all range (suc (suc (suc zero))) (suc (suc (suc (suc (suc (suc (suc (suc (suc n))))))))) u low high many few = absurd (omega arith)
begun_all range (suc (suc (suc (suc zero)))) (suc (suc (suc (suc zero)))) u low high many few = refl
begun_all range (suc (suc (suc (suc zero)))) (suc (suc (suc (suc (suc zero))))) u low high many few = refl
begun_all range (suc (suc (suc (suc zero)))) (suc (suc (suc (suc (suc (suc zero)))))) u low high many few = refl
begun_all range (suc (suc (suc (suc zero)))) (suc (suc (suc (suc (suc (suc (suc zero))))))) u low high many few = refl
begun_all range (suc (suc (suc (suc zero)))) (suc (suc (suc (suc (suc (suc (suc (suc zero)))))))) u low high many few = refl
begun_all range (suc (suc (suc (suc zero)))) zero u low high many few = absurd (omega arith)
begun_all range (suc (suc (suc (suc zero)))) (suc zero) u low high many few = absurd (omega arith)
begun_all range (suc (suc (suc (suc zero)))) (suc (suc zero)) u low high many few = absurd (omega arith)
begun_all range (suc (suc (suc (suc zero)))) (suc (suc (suc zero))) u low high many few = absurd (omega arith)
begun_all range (suc (suc (suc (suc zero)))) (suc (suc (suc (suc (suc (suc (suc (suc (suc n))))))))) u low high many few = absurd (omega arith)
begun_all range (suc (suc (suc (suc (suc zero))))) (suc (suc (suc (suc (suc (suc (suc (suc zero)))))))) u low high many few = refl
begun_all range (suc (suc (suc (suc (suc zero))))) zero u low high many few = absurd (omega arith)
begun_all range (suc (suc (suc (suc (suc zero))))) (suc zero) u low high many few = absurd (omega arith)
begun_all range (suc (suc (suc (suc (suc zero))))) (suc (suc zero)) u low high many few = absurd (omega arith)
begun_all range (suc (suc (suc (suc (suc zero))))) (suc (suc (suc zero))) u low high many few = absurd (omega arith)
begun_all range (suc (suc (suc (suc (suc zero))))) (suc (suc (suc (suc zero)))) u low high many few = absurd (omega arith)
begun_all range (suc (suc (suc (suc (suc zero))))) (suc (suc (suc (suc (suc zero))))) u low high many few = absurd (omega arith)
begun_all range (suc (suc (suc (suc (suc zero))))) (suc (suc (suc (suc (suc (suc zero)))))) u low high many few = absurd (omega arith)
begun_all range (suc (suc (suc (suc (suc zero))))) (suc (suc (suc (suc (suc (suc (suc zero))))))) u low high many few = absurd (omega arith)
begun_all range (suc (suc (suc (suc (suc zero))))) (suc (suc (suc (suc (suc (suc (suc (suc (suc n))))))))) u low high many few = absurd (omega arith)
begun_all range zero n u low high many few = absurd (omega arith)
begun_all range (suc zero) n u low high many few = absurd (omega arith)
begun_all range (suc (suc (suc (suc (suc (suc k)))))) n u low high many few = absurd (omega arith)

pub rounded_all : (range k j n : ℕ) (s : List ℤ) → j + 3 ≤ k → k ≤ 5 → 2 ^ k / 8 ≤ n → n ≤ 4 → rounded range k j n s ≡ round_all range k j s
unfolding rounded
rounded_all range (suc (suc (suc zero))) zero zero s low high many few = absurd (omega arith)
rounded_all range (suc (suc (suc zero))) zero (suc zero) s low high many few = refl
rounded_all range (suc (suc (suc zero))) zero (suc (suc zero)) s low high many few = refl
rounded_all range (suc (suc (suc zero))) zero (suc (suc (suc zero))) s low high many few = refl
rounded_all range (suc (suc (suc zero))) zero (suc (suc (suc (suc zero)))) s low high many few = refl
rounded_all range (suc (suc (suc zero))) zero (suc (suc (suc (suc (suc n))))) s low high many few = absurd (omega arith)
rounded_all range (suc (suc (suc zero))) (suc j) n s low high many few = absurd (omega arith)
rounded_all range (suc (suc (suc (suc zero)))) zero zero s low high many few = absurd (omega arith)
rounded_all range (suc (suc (suc (suc zero)))) zero (suc zero) s low high many few = absurd (omega arith)
rounded_all range (suc (suc (suc (suc zero)))) zero (suc (suc zero)) s low high many few = refl
rounded_all range (suc (suc (suc (suc zero)))) zero (suc (suc (suc zero))) s low high many few = refl
rounded_all range (suc (suc (suc (suc zero)))) zero (suc (suc (suc (suc zero)))) s low high many few = refl
rounded_all range (suc (suc (suc (suc zero)))) zero (suc (suc (suc (suc (suc n))))) s low high many few = absurd (omega arith)
rounded_all range (suc (suc (suc (suc zero)))) (suc zero) zero s low high many few = absurd (omega arith)
rounded_all range (suc (suc (suc (suc zero)))) (suc zero) (suc zero) s low high many few = absurd (omega arith)
rounded_all range (suc (suc (suc (suc zero)))) (suc zero) (suc (suc zero)) s low high many few = refl
rounded_all range (suc (suc (suc (suc zero)))) (suc zero) (suc (suc (suc zero))) s low high many few = refl
rounded_all range (suc (suc (suc (suc zero)))) (suc zero) (suc (suc (suc (suc zero)))) s low high many few = refl
rounded_all range (suc (suc (suc (suc zero)))) (suc zero) (suc (suc (suc (suc (suc n))))) s low high many few = absurd (omega arith)
rounded_all range (suc (suc (suc (suc zero)))) (suc (suc j)) n s low high many few = absurd (omega arith)
rounded_all range (suc (suc (suc (suc (suc zero))))) zero zero s low high many few = absurd (omega arith)
rounded_all range (suc (suc (suc (suc (suc zero))))) zero (suc zero) s low high many few = absurd (omega arith)
rounded_all range (suc (suc (suc (suc (suc zero))))) zero (suc (suc zero)) s low high many few = absurd (omega arith)
rounded_all range (suc (suc (suc (suc (suc zero))))) zero (suc (suc (suc zero))) s low high many few = absurd (omega arith)
rounded_all range (suc (suc (suc (suc (suc zero))))) zero (suc (suc (suc (suc zero)))) s low high many few = refl
rounded_all range (suc (suc (suc (suc (suc zero))))) zero (suc (suc (suc (suc (suc n))))) s low high many few = absurd (omega arith)
rounded_all range (suc (suc (suc (suc (suc zero))))) (suc zero) zero s low high many few = absurd (omega arith)
rounded_all range (suc (suc (suc (suc (suc zero))))) (suc zero) (suc zero) s low high many few = absurd (omega arith)
rounded_all range (suc (suc (suc (suc (suc zero))))) (suc zero) (suc (suc zero)) s low high many few = absurd (omega arith)
rounded_all range (suc (suc (suc (suc (suc zero))))) (suc zero) (suc (suc (suc zero))) s low high many few = absurd (omega arith)
rounded_all range (suc (suc (suc (suc (suc zero))))) (suc zero) (suc (suc (suc (suc zero)))) s low high many few = refl
rounded_all range (suc (suc (suc (suc (suc zero))))) (suc zero) (suc (suc (suc (suc (suc n))))) s low high many few = absurd (omega arith)
rounded_all range (suc (suc (suc (suc (suc zero))))) (suc (suc zero)) zero s low high many few = absurd (omega arith)
rounded_all range (suc (suc (suc (suc (suc zero))))) (suc (suc zero)) (suc zero) s low high many few = absurd (omega arith)
rounded_all range (suc (suc (suc (suc (suc zero))))) (suc (suc zero)) (suc (suc zero)) s low high many few = absurd (omega arith)
rounded_all range (suc (suc (suc (suc (suc zero))))) (suc (suc zero)) (suc (suc (suc zero))) s low high many few = absurd (omega arith)
rounded_all range (suc (suc (suc (suc (suc zero))))) (suc (suc zero)) (suc (suc (suc (suc zero)))) s low high many few = refl
rounded_all range (suc (suc (suc (suc (suc zero))))) (suc (suc zero)) (suc (suc (suc (suc (suc n))))) s low high many few = absurd (omega arith)
rounded_all range (suc (suc (suc (suc (suc zero))))) (suc (suc (suc j))) n s low high many few = absurd (omega arith)
rounded_all range zero j n s low high many few = absurd (omega arith)
rounded_all range (suc zero) j n s low high many few = absurd (omega arith)
rounded_all range (suc (suc zero)) j n s low high many few = absurd (omega arith)
rounded_all range (suc (suc (suc (suc (suc (suc k)))))) j n s low high many few = absurd (omega arith)

pub ended_all : (range k n : ℕ) (w : List ℤ) → 2 ≤ k → k ≤ 5 → 2 ^ k / 4 ≤ n → n ≤ 8 → ended range k n w ≡ end_all range k w
unfolding ended
ended_all range (suc (suc zero)) zero w low high many few = absurd (omega arith)
ended_all range (suc (suc zero)) (suc zero) w low high many few = refl
ended_all range (suc (suc zero)) (suc (suc zero)) w low high many few = refl
ended_all range (suc (suc zero)) (suc (suc (suc zero))) w low high many few = refl
ended_all range (suc (suc zero)) (suc (suc (suc (suc zero)))) w low high many few = refl
ended_all range (suc (suc zero)) (suc (suc (suc (suc (suc zero))))) w low high many few = refl
ended_all range (suc (suc zero)) (suc (suc (suc (suc (suc (suc zero)))))) w low high many few = refl
ended_all range (suc (suc zero)) (suc (suc (suc (suc (suc (suc (suc zero))))))) w low high many few = refl
ended_all range (suc (suc zero)) (suc (suc (suc (suc (suc (suc (suc (suc zero)))))))) w low high many few = refl
ended_all range (suc (suc zero)) (suc (suc (suc (suc (suc (suc (suc (suc (suc n))))))))) w low high many few = absurd (omega arith)
ended_all range (suc (suc (suc zero))) zero w low high many few = absurd (omega arith)
ended_all range (suc (suc (suc zero))) (suc zero) w low high many few = absurd (omega arith)
ended_all range (suc (suc (suc zero))) (suc (suc zero)) w low high many few = refl
ended_all range (suc (suc (suc zero))) (suc (suc (suc zero))) w low high many few = refl
ended_all range (suc (suc (suc zero))) (suc (suc (suc (suc zero)))) w low high many few = refl
ended_all range (suc (suc (suc zero))) (suc (suc (suc (suc (suc zero))))) w low high many few = refl
ended_all range (suc (suc (suc zero))) (suc (suc (suc (suc (suc (suc zero)))))) w low high many few = refl
ended_all range (suc (suc (suc zero))) (suc (suc (suc (suc (suc (suc (suc zero))))))) w low high many few = refl
ended_all range (suc (suc (suc zero))) (suc (suc (suc (suc (suc (suc (suc (suc zero)))))))) w low high many few = refl
ended_all range (suc (suc (suc zero))) (suc (suc (suc (suc (suc (suc (suc (suc (suc n))))))))) w low high many few = absurd (omega arith)
ended_all range (suc (suc (suc (suc zero)))) zero w low high many few = absurd (omega arith)
ended_all range (suc (suc (suc (suc zero)))) (suc zero) w low high many few = absurd (omega arith)
ended_all range (suc (suc (suc (suc zero)))) (suc (suc zero)) w low high many few = absurd (omega arith)
ended_all range (suc (suc (suc (suc zero)))) (suc (suc (suc zero))) w low high many few = absurd (omega arith)
ended_all range (suc (suc (suc (suc zero)))) (suc (suc (suc (suc zero)))) w low high many few = refl
ended_all range (suc (suc (suc (suc zero)))) (suc (suc (suc (suc (suc zero))))) w low high many few = refl
ended_all range (suc (suc (suc (suc zero)))) (suc (suc (suc (suc (suc (suc zero)))))) w low high many few = refl
ended_all range (suc (suc (suc (suc zero)))) (suc (suc (suc (suc (suc (suc (suc zero))))))) w low high many few = refl
ended_all range (suc (suc (suc (suc zero)))) (suc (suc (suc (suc (suc (suc (suc (suc zero)))))))) w low high many few = refl
ended_all range (suc (suc (suc (suc zero)))) (suc (suc (suc (suc (suc (suc (suc (suc (suc n))))))))) w low high many few = absurd (omega arith)
ended_all range (suc (suc (suc (suc (suc zero))))) zero w low high many few = absurd (omega arith)
ended_all range (suc (suc (suc (suc (suc zero))))) (suc zero) w low high many few = absurd (omega arith)
ended_all range (suc (suc (suc (suc (suc zero))))) (suc (suc zero)) w low high many few = absurd (omega arith)
ended_all range (suc (suc (suc (suc (suc zero))))) (suc (suc (suc zero))) w low high many few = absurd (omega arith)
ended_all range (suc (suc (suc (suc (suc zero))))) (suc (suc (suc (suc zero)))) w low high many few = absurd (omega arith)
ended_all range (suc (suc (suc (suc (suc zero))))) (suc (suc (suc (suc (suc zero))))) w low high many few = absurd (omega arith)
ended_all range (suc (suc (suc (suc (suc zero))))) (suc (suc (suc (suc (suc (suc zero)))))) w low high many few = absurd (omega arith)
ended_all range (suc (suc (suc (suc (suc zero))))) (suc (suc (suc (suc (suc (suc (suc zero))))))) w low high many few = absurd (omega arith)
ended_all range (suc (suc (suc (suc (suc zero))))) (suc (suc (suc (suc (suc (suc (suc (suc zero)))))))) w low high many few = refl
ended_all range (suc (suc (suc (suc (suc zero))))) (suc (suc (suc (suc (suc (suc (suc (suc (suc n))))))))) w low high many few = absurd (omega arith)
ended_all range zero n w low high many few = absurd (omega arith)
ended_all range (suc zero) n w low high many few = absurd (omega arith)
ended_all range (suc (suc (suc (suc (suc (suc k)))))) n w low high many few = absurd (omega arith)

-- before the first turn nothing is done
none_yet : (t : ℕ) (x y : ℤ) → y ≡ (if nat_lt t 0 then x else y)
none_yet t x y = grind (arith, nat_tests)

pub begun_start : (range k : ℕ) (u : List ℤ) → length u ≡ 2 ^ k → u ≡ begun range k 0 u
unfolding begun
begun_start range k u len =
    fill_by_all (begun_at range k 0 u) u (2 ^ k)
    (pos 0) len (λ i lt. none_yet (min i (2 ^ k - 1 - i)) (group_sum range 1 (by_index (2 ^ k) (outer_turn k u)) i) (at u i))

pub rounded_start : (range k j : ℕ) (s : List ℤ) → length s ≡ 2 ^ k → s ≡ rounded range k j 0 s
unfolding rounded
rounded_start range k j s len = fill_by_all (rounded_at range k j 0 s) s (2 ^ k) (pos 0) len (λ i lt.
    let p = min i (2 ^ k - 1 - i) in
    let t = min (p % (4 * 2 ^ j)) (4 * 2 ^ j - 1 - p % (4 * 2 ^ j)) in
    none_yet (p / (4 * 2 ^ j) * 2 ^ j + t % 2 ^ j) (group_sum range (2 * 2 ^ j) (by_index (2 ^ k) (inner_turn k j s)) i) (at s i))

pub ended_start : (range k : ℕ) (w : List ℤ) → length w ≡ 2 * 2 ^ k → w ≡ ended range k 0 w
unfolding ended
ended_start range k w len = fill_by_all (ended_at range k 0 w) w (2 * 2 ^ k) (pos 0) len (λ i lt.
    let m = 2 ^ k in
    let p = if nat_lt i m then m - 1 - i else i - m in
    none_yet (min p (m - 1 - p) % 2 ^ (k - 2))
    (mirror_sum range false m (by_index m (at w) ++ by_index m (inner_turn k (k - 2) (by_index m (λ q. at w (m + q))))) i) (at w i))

-- what the steps come to, in the words of the transform
pub begin_sums : (range k : ℕ) (u : List ℤ) → begin_all range k u ≡ sums range k 0 (by_index (2 ^ k) (outer_turn k u))
unfolding rounds_with
begin_sums range k u = refl

pub round_sums : (range k j : ℕ) (u : List ℤ) → j ≤ 2 → round_all range k j (sums range k j u) ≡ sums range k (j + 1) u
unfolding rounds_with
round_sums range k zero u low = refl
round_sums range k (suc zero) u low = refl
round_sums range k (suc (suc zero)) u low = refl
round_sums range k (suc (suc (suc j))) u low = absurd (omega arith)

pub last_round : (range k : ℕ) (u : List ℤ) → 2 ≤ k → k ≤ 5 → by_index (2 ^ k) (inner_turn k (k - 2) (sums range k (k - 2) u)) ≡ rounds range k (k - 1) u
unfolding rounds_with
last_round range zero u low high = absurd (omega arith)
last_round range (suc zero) u low high = absurd (omega arith)
last_round range (suc (suc zero)) u low high = refl
last_round range (suc (suc (suc zero))) u low high = refl
last_round range (suc (suc (suc (suc zero)))) u low high = refl
last_round range (suc (suc (suc (suc (suc zero))))) u low high = refl
last_round range (suc (suc (suc (suc (suc (suc k)))))) u low high = absurd (omega arith)

-- the transform of 4 values: both rotations of either half, and the sums behind them
abbrev pub four_turn : (range : ℕ) → List ℤ → List ℤ
four_turn range w =
    let a = half_btf (cos128 32) (at w 0) (cos128 32) (at w 1) in
    let b = half_btf (cos128 32) (at w 0) (neg_ℤ (cos128 32)) (at w 1) in
    let x = half_btf (cos128 48) (at w 2) (neg_ℤ (cos128 16)) (at w 3) in
    let y = half_btf (cos128 16) (at w 2) (cos128 48) (at w 3) in
    paired false range 1 2 b x (paired false range 0 3 a y w)

pub four_turned : (range : ℕ) (w w1 w2 : List ℤ) (a b x y : ℤ) → b ≡ half_btf (cos128 32) (at w 0) (neg_ℤ (cos128 32)) (at w 1) →
    a ≡ half_btf (cos128 32) (at w 0) (cos128 32) (at w 1) → x ≡ half_btf (cos128 48) (at w 2) (neg_ℤ (cos128 16)) (at w 3) →
    y ≡ half_btf (cos128 16) (at w 2) (cos128 48) (at w 3) → w1 ≡ paired false range 0 3 a y w → w2 ≡ paired false range 1 2 b x w1 → w2 ≡ four_turn range w
four_turned range w w1 w2 a b x y eb ea ex ey e1 e2 = cc

pub four_is : (range : ℕ) (w : List ℤ) → length w ≡ 4 → four_turn range w ≡ network range 1 w
unfolding network mirror_sum_with outer_turn_with rounds_with brev
four_is range (a ∷ b ∷ c ∷ d ∷ []) len = refl
four_is range [] len = absurd (omega (arith, len))
four_is range (a ∷ []) len = absurd (omega (arith, len))
four_is range (a ∷ b ∷ []) len = absurd (omega (arith, len))
four_is range (a ∷ b ∷ c ∷ []) len = absurd (omega (arith, len))
four_is range (a ∷ b ∷ c ∷ d ∷ e ∷ zs) len = absurd (omega (arith, len))
