-- Sums of eight products that are formed two at a time, from eight or sixteen places on.
use Rattle.std.proofs.Common.{ℕ, suc, ◌+◌, ◌*◌, ◌^◌, ◌<◌, ◌≤◌, ◌≡◌, ◌∙◌, ap, refl, arith, subst, sym, ℤ, pos, ◌+ℤ◌, ◌*ℤ◌, List, replicate, slice_index, w32}
use Rattle.std.proofs.Common.{to_z, of_z, FitsSigned}
use Rattle.std.proofs.lemmas.Int.{ints, to_z-of_z}
use Rattle.std.proofs.lemmas.List.{get_or-replicate}
use Rattle.av1_inter.specs.Motion.{entry, sum_to, weighted}
use Rattle.av1_inter.specs.Scaffolding.{AreZero, Between, IsWithin}
use Rattle.av1_inter.proofs.PairSums.{small_product}
use Rattle.av1_inter.proofs.Sums.{fits_of, sum_begins, sum_ends}

-- two samples of 15 bits, each times half a weight
pub pair_within : (v w x y z : ℤ) → Between 28 92 v → Between 28 92 w → Between 0 32767 x → Between 0 32767 y → z ≡ v *ℤ x +ℤ w *ℤ y → IsWithin (2 ^ 23) z
pair_within v w x y z bv bw bx by e =
    let p = small_product v x bv bx in
    let q = small_product w y bw by in
    record { low = omega (arith, ints, e, p.low, q.low); high = omega (arith, ints, e, p.high, q.high) }

none_at : (lanes c : ℕ) → c < lanes → entry (replicate lanes (pos 0)) c ≡ pos 0
none_at lanes c h = get_or-replicate lanes c (pos 0) (pos 0) h

-- the sums of the first pairs of products, from the first weight that isn't 0 on: those of the first n are known, and all are small
pub record ArePairs (lanes n zeros pairs : ℕ) (halves : List ℤ) (value : ℕ → ℕ → ℤ) (sums : List ℤ) : Type 0 where
  pub known : (c : ℕ) → c < lanes → c < n → entry sums c ≡ sum_to (zeros + 2 * pairs) (λ t. entry halves t *ℤ value c t)
  pub within : (c : ℕ) → c < lanes → IsWithin (pairs * 2 ^ 23) (entry sums c)

pub no_pairs : (lanes n zeros : ℕ) (halves : List ℤ) (value : ℕ → ℕ → ℤ) → zeros ≤ 2 → AreZero zeros halves →
    ArePairs lanes n zeros 0 halves value (replicate lanes (pos 0))
no_pairs lanes n zeros halves value few none = record {
  known = λ c h b.
      let e : zeros ≡ zeros + 2 * 0 = omega arith in
      none_at lanes c h ∙ sum_begins zeros halves (value c) few none ∙ ap (λ (i : ℕ). sum_to i (λ t. entry halves t *ℤ value c t)) e;
  within = λ c h. let e = none_at lanes c h in record { low = omega (arith, ints, e); high = omega (arith, ints, e) };
}

pub pair_next : (term : ℕ → ℤ) (k m : ℕ) (s p z : ℤ) → s ≡ sum_to k term → p ≡ term k +ℤ term (k + 1) → m ≡ k + 2 → z ≡ s +ℤ p → z ≡ sum_to m term
unfolding sum_to
pair_next term k m s p z es ep em ez =
    let one : suc k ≡ k + 1 = omega arith in
    let two : suc (suc k) ≡ m = omega (arith, em) in
    let last = ap term one in
    let whole : z ≡ sum_to (suc (suc k)) term = omega (arith, ints, es, ep, ez, last) in
    whole ∙ ap (λ (i : ℕ). sum_to i term) two

pub next_within : (k m : ℕ) (s p z : ℤ) → IsWithin (k * 2 ^ 23) s → IsWithin (2 ^ 23) p → m ≡ k + 1 → z ≡ s +ℤ p → IsWithin (m * 2 ^ 23) z
next_within k m s p z f g e ez = record {
  low = omega (arith, ints, f.low, g.low, e, ez);
  high = omega (arith, ints, f.high, g.high, e, ez);
}

-- the sum of the four products that are left where the outer two weights are 0
pub four_products : (zeros : ℕ) (halves : List ℤ) (value : ℕ → ℤ) (x y v w z : ℤ) → zeros ≡ 2 → AreZero zeros halves → x ≡ value 2 → y ≡ value 3 →
    v ≡ value 4 → w ≡ value 5 →
    z ≡ (entry halves 2 *ℤ x +ℤ entry halves 3 *ℤ y) +ℤ (entry halves 4 *ℤ v +ℤ entry halves 5 *ℤ w) → z ≡ weighted halves value
four_products outer halves value x y v w z two none ex ey ev ew e =
    let zero : AreZero 2 halves = subst (λ (n : ℕ). AreZero n halves) two none in
    let term = λ (t : ℕ). entry halves t *ℤ value t in
    let first : entry halves 2 *ℤ x +ℤ entry halves 3 *ℤ y ≡ term 2 +ℤ term 3 = ap (λ u. entry halves 2 *ℤ u +ℤ entry halves 3 *ℤ y) ex
    ∙ ap (λ u. term 2 +ℤ entry halves 3 *ℤ u) ey in
    let second : entry halves 4 *ℤ v +ℤ entry halves 5 *ℤ w ≡ term 4 +ℤ term 5 = ap (λ u. entry halves 4 *ℤ u +ℤ entry halves 5 *ℤ w) ev
    ∙ ap (λ u. term 4 +ℤ entry halves 5 *ℤ u) ew in
    let p = entry halves 2 *ℤ x +ℤ entry halves 3 *ℤ y in
    let none_yet : p ≡ pos 0 +ℤ p = omega (arith, ints) in
    sum_ends 2 halves value z (omega arith) zero
    (pair_next term 4 6 p _ z (pair_next term 2 4 (pos 0) p p (sum_begins 2 halves value (omega arith) zero) first refl none_yet) second refl e)

pub few_within : (k : ℕ) (z : ℤ) → k ≤ 4 → IsWithin (k * 2 ^ 23) z → IsWithin (2 ^ 25) z
few_within k z h f = record { low = omega (arith, ints, f.low, h); high = omega (arith, ints, f.high, h) }

-- so 26 bits hold the sums of pairs
pub held : {lanes n zeros pairs : ℕ} {halves : List ℤ} {value : ℕ → ℕ → ℤ} {sums : List ℤ} → ArePairs lanes n zeros pairs halves value sums → pairs ≤ 4 →
    (c : ℕ) → c < lanes → IsWithin (2 ^ 25) (entry sums c)
held known few c inside = few_within _ _ few (known.within c inside)

-- a sample's place, counted otherwise
pub sample_below : (samples : List ℕ) (n start step c t i : ℕ) → ((c t : ℕ) → c < n → t < 8 → slice_index samples (start + c + t * step) < 32768) → c < n →
    t < 8 → i ≡ start + c + t * step → slice_index samples i < 32768
sample_below samples n start step c t i h a b e = let P : ℕ → Type 0 = λ k. slice_index samples k < 32768 in subst P (sym e) (h c t a b)

pub sample_between : (z : ℤ) (n : ℕ) → z ≡ pos n → n < 32768 → Between 0 32767 z
sample_between z n e h = record { low = omega (arith, ints, e); high = omega (arith, ints, e, h) }

-- two numbers that are added in 32 bits
read_wide : (z : ℤ) → IsWithin (2 ^ 25) z → to_z w32 (of_z w32 z) ≡ z
read_wide z h = to_z-of_z w32 z (fits_of z (omega (arith, ints, h.low)) (omega (arith, ints, h.high)))

added : (a b : ℤ) → IsWithin (2 ^ 25) a → IsWithin (2 ^ 25) b → to_z w32 (of_z w32 a) +ℤ to_z w32 (of_z w32 b) ≡ a +ℤ b
added a b f g = ap (λ z. z +ℤ to_z w32 (of_z w32 b)) (read_wide a f) ∙ ap (λ z. a +ℤ z) (read_wide b g)

pub two_fit : (a b : ℤ) → IsWithin (2 ^ 25) a → IsWithin (2 ^ 25) b → FitsSigned w32 (to_z w32 (of_z w32 a) +ℤ to_z w32 (of_z w32 b))
two_fit a b f g =
    let P : ℤ → Type 0 = λ z. FitsSigned w32 z in
    subst P (sym (added a b f g)) (fits_of _ (omega (arith, ints, f.low, g.low)) (omega (arith, ints, f.high, g.high)))

pub two_added : (a b : ℤ) → IsWithin (2 ^ 25) a → IsWithin (2 ^ 25) b → to_z w32 (of_z w32 (to_z w32 (of_z w32 a) +ℤ to_z w32 (of_z w32 b))) ≡ a +ℤ b
two_added a b f g = to_z-of_z w32 _ (two_fit a b f g) ∙ added a b f g

-- a number that stays as great as it was
pub kept_within : (a b : ℤ) → a ≡ b → IsWithin (2 ^ 25) b → IsWithin (2 ^ 25) a
kept_within a b e h = let P : ℤ → Type 0 = λ z. IsWithin (2 ^ 25) z in subst P (sym e) h

-- a pair of products, among sums
pub pair_wide : (z : ℤ) → IsWithin (2 ^ 23) z → IsWithin (2 ^ 25) z
pair_wide z h = record { low = omega (arith, ints, h.low); high = omega (arith, ints, h.high) }
