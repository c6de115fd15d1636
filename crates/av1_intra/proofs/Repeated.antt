-- Sides whose last entry is repeated after it.
use Rattle.std.proofs.Common.{ℕ, ◌+◌, ◌-◌, ◌*◌, ◌/◌, ◌%◌, ◌^◌, ◌<◌, ◌≤◌, ◌≡◌, ◌⊎◌, ◌∙◌, ◌++◌, List, length, get_or, take, drop, ap, arith, cond, sym, inl, inr}
use Rattle.std.proofs.Common.{Bool, true, false, min, pos, refl, subst}
use Rattle.std.specs.Prelude.{Option, None, Some}
use Rattle.std.proofs.lemmas.Bool.{cases_lt}
use Rattle.std.proofs.lemmas.Bool.Decides.{nat_tests}
use Rattle.std.proofs.lemmas.List.{places}
use Rattle.av1_frame.specs.Arithmetic.{clip}
use Rattle.av1_frame.specs.Samples.{paint_row}
use Rattle.av1_frame.proofs.Update.{get_or-update, length-update}
use Rattle.av1_intra.specs.Sides.{Side}
use Rattle.av1_intra.specs.Directional.{blend, at, below_90, filter_choice, upsampling}
use Rattle.av1_intra.specs.Scaffolding.{IsRepeated}
use Rattle.av1_intra.specs.Upsampling.{is_upsampled}
use Rattle.av1_intra.specs.declared.directional.DirectionalBlock.{DirectionalBlock}
use Rattle.av1_intra.proofs.Lines.{one_of_two}

-- between two equal numbers lies the same one
same_mix : (x z : ℕ) → z < 32 → (x * (32 - z) + x * z + 16) / 32 ≡ x
same_mix x z h =
    let m = 32 - z in
    let all : m + z ≡ 32 = omega arith in
    let sum : x * m + x * z ≡ x * (m + z) = grind arith in
    let whole : x * (m + z) ≡ x * 32 = ap (λ n. x * n) all in
    omega (arith, sum, whole)

same_blend : (depth : ℕ) (E : Side) (e z x : ℕ) → z < 32 → E e ≡ x → E (e + 1) ≡ x → blend depth E e z ≡ clip depth (pos x)
same_blend depth E e z x h p q =
    ap (λ a. clip depth (pos ((a * (32 - z) + E (e + 1) * z + 16) / 32))) p ∙ ap (λ b. clip depth (pos ((x * (32 - z) + b * z + 16) / 32))) q
    ∙ ap (λ a. clip depth (pos a)) (same_mix x z h)

before_last : (u s n j : ℕ) → u ≤ 1 → n / 2 ^ (6 - u) + j * 2 ^ u < s * 2 ^ u → n ≤ 64 * s
before_last u s n j h =
    one_of_two (λ u. n / 2 ^ (6 - u) + j * 2 ^ u < s * 2 ^ u → n ≤ 64 * s) u h (λ p. omega arith) (λ p. omega arith)

past_last : (u s n j : ℕ) → u ≤ 1 → s * 2 ^ u ≤ n / 2 ^ (6 - u) + j * 2 ^ u → s * 2 ^ u ≤ min n (64 * s) / 2 ^ (6 - u) + j * 2 ^ u
past_last u s n j h =
    one_of_two (λ u. s * 2 ^ u ≤ n / 2 ^ (6 - u) + j * 2 ^ u → s * 2 ^ u ≤ min n (64 * s) / 2 ^ (6 - u) + j * 2 ^ u) u h (λ p. omega arith) (λ p. omega arith)

in_reach : (u s n j : ℕ) → u ≤ 1 → j * 2 ^ u ≤ 63 → min n (64 * s) / 2 ^ (6 - u) + j * 2 ^ u + 1 ≤ s * 2 ^ u + 65
in_reach u s n j h =
    one_of_two (λ u. j * 2 ^ u ≤ 63 → min n (64 * s) / 2 ^ (6 - u) + j * 2 ^ u + 1 ≤ s * 2 ^ u + 65) u h (λ p. omega arith) (λ p. omega arith)

-- a row that stops at the last entry is that of an angle below 90
pub at_repeated : (depth : ℕ) (E : Side) (u s n j : ℕ) → u ≤ 1 → j * 2 ^ u ≤ 63 → IsRepeated (s * 2 ^ u) E →
    at depth E u (min n (64 * s)) j ≡ below_90 depth E u s n j
unfolding at below_90
at_repeated depth E u s n j h r rep =
    elim (cases_lt (n / 2 ^ (6 - u) + j * 2 ^ u) (s * 2 ^ u)) [
      | inl b ↦
          let l = before_last u s n j h b in
          let e : min n (64 * s) ≡ n = omega arith in
          ap (λ m. blend depth E (m / 2 ^ (6 - u) + j * 2 ^ u) (m * 2 ^ u / 2 % 32)) e ∙ grind (arith, nat_tests)
      | inr b ↦
          let m = min n (64 * s) in
          let e = m / 2 ^ (6 - u) + j * 2 ^ u in
          let p : s * 2 ^ u ≤ e = past_last u s n j h b in
          let q : e + 1 ≤ s * 2 ^ u + 65 = in_reach u s n j h r in
          same_blend depth E e (m * 2 ^ u / 2 % 32) (E (s * 2 ^ u)) (omega arith) (rep e p (omega (arith, q))) (rep (e + 1) (omega (arith, p)) q)
          ∙ grind (arith, nat_tests)
    ]

-- what a row reads of a side
pub below_90_same : (depth : ℕ) (E F : Side) (u s n j : ℕ) → ((k : ℕ) → k ≤ s * 2 ^ u → E k ≡ F k) → below_90 depth E u s n j ≡ below_90 depth F u s n j
unfolding at below_90
below_90_same depth E F u s n j same =
    let e = n / 2 ^ (6 - u) + j * 2 ^ u in
    let z = n * 2 ^ u / 2 % 32 in
    elim (cases_lt e (s * 2 ^ u)) [
      | inl b ↦
          let p = same e (omega arith) in
          let q = same (e + 1) (omega arith) in
          let f : blend depth E e z ≡ blend depth F e z = ap (λ a. clip depth (pos ((a * (32 - z) + E (e + 1) * z + 16) / 32))) p
          ∙ ap (λ c. clip depth (pos ((F e * (32 - z) + c * z + 16) / 32))) q in
          grind (arith, nat_tests)
      | inr b ↦
          let p : clip depth (pos (E (s * 2 ^ u))) ≡ clip depth (pos (F (s * 2 ^ u))) = ap (λ a. clip depth (pos a)) (same (s * 2 ^ u) (omega arith)) in
          grind (arith, nat_tests)
    ]

-- only small blocks have sides that are upsampled
small_sides : (smooth : Bool) (s d : ℕ) → is_upsampled s smooth d ≡ true → s ≤ 16
small_sides true s d e = grind (arith, nat_tests)
small_sides false s d e = grind (arith, nat_tests)

abbrev one_if : Bool → ℕ
one_if t = cond t 1 0

few_if : (t : Bool) (s : ℕ) → (t ≡ true → s ≤ 16) → (one_if t ≡ 0) ⊎ ((one_if t ≡ 1) × (s ≤ 16))
few_if true s h = inr (refl, h refl)
few_if false s h = inl refl

abbrev times_of : Option Bool → ℕ → ℕ → ℕ
times_of f s d = filter_choice f 0 (λ smooth. one_if (is_upsampled s smooth d))

few_of : (f : Option Bool) (s d : ℕ) → (times_of f s d ≡ 0) ⊎ ((times_of f s d ≡ 1) × (s ≤ 16))
few_of None s d = inl refl
few_of (Some smooth) s d = few_if (is_upsampled s smooth d) s (small_sides smooth s d)

few_doubled : (s w u : ℕ) → s ≤ 128 → w ≤ 64 → (u ≡ 0) ⊎ ((u ≡ 1) × (s ≤ 16)) → w ≤ s → (s * 2 ^ u ≤ 128) × (w * 2 ^ u ≤ 64)
few_doubled s w u few wide (inl e) l = subst (λ v. (s * 2 ^ v ≤ 128) × (w * 2 ^ v ≤ 64)) (sym e) (omega arith, omega arith)
few_doubled s w u few wide (inr e) l = subst (λ v. (s * 2 ^ v ≤ 128) × (w * 2 ^ v ≤ 64)) (sym e.0) (omega (arith, e.1), omega (arith, e.1, l))

pub upsampled_small : (b : DirectionalBlock) (d u : ℕ) → u ≡ upsampling b d → b.width + b.height ≤ 128 → b.width ≤ 64 →
    ((b.width + b.height) * 2 ^ u ≤ 128) × (b.width * 2 ^ u ≤ 64)
upsampled_small b d u is few wide =
    let s = b.width + b.height in
    let by : (u ≡ 0) ⊎ ((u ≡ 1) × (s ≤ 16)) = subst (λ (v : ℕ). (v ≡ 0) ⊎ ((v ≡ 1) × (s ≤ 16))) (sym is) (few_of b.smooth_filter s d) in
    few_doubled s b.width u few wide by (omega arith)

-- an entry that is filled again from its place on
pub kept_entry : (last count k v : ℕ) (xs front rest new : List ℕ) → front ≡ take last xs → rest ≡ drop last xs → new ≡ paint_row count (λ _ _. v) rest →
    v ≡ get_or xs last 0 → last < length xs → 0 < count → k ≤ last → get_or (front ++ new) k 0 ≡ get_or xs k 0
unfolding paint_row
kept_entry last count k v xs front rest new f r n e l some h =
    rw (n, f, r) (elim (cases_lt k last) [
      | inl b ↦ grind (arith, nat_tests, places, get_or-update, length-update)
      | inr b ↦ (let q : k ≡ last = omega arith in grind (arith, nat_tests, places, get_or-update, length-update))
    ])

pub filled_entry : (last count k v : ℕ) (xs front rest new : List ℕ) → front ≡ take last xs → rest ≡ drop last xs → new ≡ paint_row count (λ _ _. v) rest →
    last + count ≤ length xs → last ≤ k → k < last + count → get_or (front ++ new) k 0 ≡ v
unfolding paint_row
filled_entry last count k v xs front rest new f r n l h m =
    rw (n, f, r) (grind (arith, nat_tests, places, get_or-update, length-update))

-- a sample of a group lies in reach
pub sample_in_reach : (u m groups k i : ℕ) → u ≤ 1 → m * k + m ≤ m * groups → i < m → m * groups * 2 ^ u ≤ 64 → (m * k + i) * 2 ^ u ≤ 63
sample_in_reach u m groups k i h g l =
    let a = m * k in
    let b = m * groups in
    one_of_two (λ u. b * 2 ^ u ≤ 64 → (a + i) * 2 ^ u ≤ 63) u h (λ p. omega arith) (λ p. omega arith)

-- and so do eight entries from the group on
pub eight_in_reach : (u s m groups k n : ℕ) → u ≤ 1 → m * k + m ≤ m * groups → m * groups * 2 ^ u ≤ 64 → s * 2 ^ u ≤ 128 → n ≤ 64 * s →
    (n + 64 * (m * k)) / 2 ^ (6 - u) + 8 * 2 ^ u ≤ 256
eight_in_reach u s m groups k n h g =
    let a = m * k in
    let b = m * groups in
    one_of_two (λ u. b * 2 ^ u ≤ 64 → s * 2 ^ u ≤ 128 → n ≤ 64 * s → (n + 64 * a) / 2 ^ (6 - u) + 8 * 2 ^ u ≤ 256) u h
    (λ p q r. omega arith) (λ p q r. omega arith)

pub few_numbers : (u s m groups k n : ℕ) → u ≤ 1 → m * k + m ≤ m * groups → m * groups * 2 ^ u ≤ 64 → s * 2 ^ u ≤ 128 → n ≤ 64 * s → n + 64 * (m * k) < 2 ^ 20
few_numbers u s m groups k n h g =
    let a = m * k in
    let b = m * groups in
    one_of_two (λ u. b * 2 ^ u ≤ 64 → s * 2 ^ u ≤ 128 → n ≤ 64 * s → n + 64 * a < 2 ^ 20) u h (λ p q r. omega arith) (λ p q r. omega arith)
