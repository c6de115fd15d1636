-- Sums by halved weights, as the machine forms them in 16 bits, and how great they are.
use Rattle.std.proofs.Common.{ℕ, zero, suc, ◌+◌, ◌-◌, ◌*◌, ◌/◌, ◌^◌, ◌<◌, ◌≤◌, ◌≡◌, ◌∙◌, ap, refl, arith, subst, sym, ℤ, pos, negsuc, ◌+ℤ◌, ◌*ℤ◌, neg_ℤ}
use Rattle.std.proofs.Common.{◌≤ℤ◌, List, [], ◌∷◌, length, inl, inr, unsigned_abs, w16, w32, to_z, of_z, FitsSigned}
use Rattle.std.specs.Int.{int_max, int_min, int_shr}
use Rattle.std.specs.Int.Signed.{shr_z}
use Rattle.std.proofs.lemmas.Bool.{cases_lt}
use Rattle.std.proofs.lemmas.Int.{int_max_is, int_min_is, ints, to_z-of_z}
use Rattle.std.proofs.lemmas.Nat.{mul-le}
use Rattle.std.proofs.lemmas.List.{same_lists, get_or_default, get_or-map, length-map}
use Rattle.av1_blocks.specs.Depths.{IsDepth}
use Rattle.av1_frame.specs.Arithmetic.{clip, round_shift}
use Rattle.av1_inter.specs.Motion.{entry, sum_to, weighted}
use Rattle.av1_inter.specs.Scaffolding.{Between, doubled, gains, halved, IsFilter, losses}
use Rattle.av1_inter.proofs.Sums.{filter_between, gain, gains_more, gains_part, loss, losses_more, losses_part, product_between, small_sum, SumsFit}

-- entry t of the doubled weights
pub entry_doubled : (halves : List ℤ) (t : ℕ) → entry (doubled halves) t ≡ pos 2 *ℤ entry halves t
entry_doubled [] t = refl
entry_doubled (x ∷ xs) zero = refl
entry_doubled (x ∷ xs) (suc t) = entry_doubled xs t

negated : (n : ℕ) → pos 2 *ℤ negsuc n ≡ negsuc (2 * n + 1)
negated n = omega (arith, ints)

twice : (h v : ℤ) → (pos 2 *ℤ h) *ℤ v ≡ pos 2 *ℤ (h *ℤ v)
twice (pos n) (pos m) = let k : 2 * n * m ≡ 2 * (n * m) = grind arith in omega (arith, ints, k)
twice (pos n) (negsuc m) = let k : 2 * n * suc m ≡ 2 * (n * suc m) = grind arith in omega (arith, ints, k)
twice (negsuc n) (pos m) = ap (λ z. z *ℤ pos m) (negated n) ∙ (let k : suc (2 * n + 1) * m ≡ 2 * (suc n * m) = grind arith in omega (arith, ints, k))
twice (negsuc n) (negsuc m) = ap (λ z. z *ℤ negsuc m) (negated n)
    ∙ (let k : suc (2 * n + 1) * suc m ≡ 2 * (suc n * suc m) = grind arith in omega (arith, ints, k))

-- a sum by the doubled weights is twice the sum
pub doubled_sum : (halves : List ℤ) (value : ℕ → ℤ) (k : ℕ) →
    sum_to k (λ t. entry (doubled halves) t *ℤ value t) ≡ pos 2 *ℤ sum_to k (λ t. entry halves t *ℤ value t)
unfolding sum_to
doubled_sum halves value zero = refl
doubled_sum halves value (suc k) =
    let e = doubled_sum halves value k in
    let p : entry (doubled halves) k *ℤ value k ≡ pos 2 *ℤ (entry halves k *ℤ value k) = ap (λ z. z *ℤ value k) (entry_doubled halves k)
    ∙ twice (entry halves k) (value k) in
    omega (arith, ints, e, p)

half_between : (s t : ℤ) → t ≡ pos 2 *ℤ s → Between (184 * 0 + 56 * 255) (184 * 255 + 56 * 0) t → Between 7140 23460 s
half_between (pos n) t e b = record { low = omega (arith, ints, e, b.low); high = omega (arith, ints, e, b.high) }
half_between (negsuc n) t e b = record { low = omega (arith, ints, e, b.low); high = omega (arith, ints, e, b.high) }

-- half a filter's sum, also of its first weights alone, over samples of 8 bits
pub halves_between : (halves : List ℤ) (value : ℕ → ℤ) (k : ℕ) → IsFilter (doubled halves) → k ≤ 8 → ((t : ℕ) → t < 8 → Between 0 255 (value t)) →
    Between 7140 23460 (sum_to k (λ t. entry halves t *ℤ value t))
halves_between halves value k f h v = half_between _ _ (doubled_sum halves value k) (filter_between (doubled halves) value 0 255 k f h v)

-- a number of 16 bits
pub short_sum_fits : (z : ℤ) → Between 32767 32767 z → FitsSigned w16 z
short_sum_fits (pos n) h = record { sfits = omega (arith, ints, h.high) }
short_sum_fits (negsuc n) h = record { sfits = omega (arith, ints, h.low) }

short_fits : (n : ℕ) (z : ℤ) → n < 2 ^ 15 → Between 0 n z → FitsSigned w16 z
short_fits n (pos m) l h = record { sfits = omega (arith, ints, h.high, l) }
short_fits n (negsuc m) l h = absurd (omega (arith, ints, h.low))

-- a sample up to n, as it was read
pub short_read : (n : ℕ) (z : ℤ) → n < 2 ^ 15 → Between 0 n z → to_z w16 (of_z w16 z) ≡ z
short_read n z l h = to_z-of_z w16 z (short_fits n z l h)

pub short_kept : (n : ℕ) (z : ℤ) → n < 2 ^ 15 → Between 0 n z → Between 0 n (to_z w16 (of_z w16 z))
short_kept n z l h = let P : ℤ → Type 0 = λ v. Between 0 n v in subst P (sym (short_read n z l h)) h

-- each product by a small weight
short_product_small : (weights : List ℤ) (n t : ℕ) (v : ℤ) → SumsFit weights n → t < 8 → Between 0 n v → FitsSigned w16 (entry weights t *ℤ v)
short_product_small weights n t v f h w =
    let p = product_between (entry weights t) v 0 n w in
    let more = gains_more weights t (omega (arith, f.size)) in
    let less = losses_more weights t (omega (arith, f.size)) in
    let g : gain (entry weights t) ≤ gains weights = omega (arith, more, gains_part weights (suc t)) in
    let l : loss (entry weights t) ≤ losses weights = omega (arith, less, losses_part weights (suc t)) in
    let gn : gain (entry weights t) * n ≤ gains weights * n = mul-le _ n _ n g (omega arith) in
    let ln : loss (entry weights t) * n ≤ losses weights * n = mul-le _ n _ n l (omega arith) in
    short_sum_fits _ (record { low = omega (arith, ints, p.low, ln, f.losses); high = omega (arith, ints, p.high, gn, f.gains) })

short_product_of : (weights : List ℤ) (n t : ℕ) (v : ℤ) → n < 2 ^ 15 → FitsSigned w16 (entry weights t) → Between 0 n v →
    to_z w16 (of_z w16 (entry weights t)) *ℤ to_z w16 (of_z w16 v) ≡ entry weights t *ℤ v
short_product_of weights n t v s f w = ap (λ z. z *ℤ to_z w16 (of_z w16 v)) (to_z-of_z w16 _ f) ∙ ap (λ z. entry weights t *ℤ z) (short_read n v s w)

pub short_product : (weights : List ℤ) (n t : ℕ) (v : ℤ) → SumsFit weights n → n < 2 ^ 15 → t < 8 → FitsSigned w16 (entry weights t) → Between 0 n v →
    FitsSigned w16 (to_z w16 (of_z w16 (entry weights t)) *ℤ to_z w16 (of_z w16 v))
short_product weights n t v f s h e w =
    let P : ℤ → Type 0 = λ z. FitsSigned w16 z in
    subst P (sym (short_product_of weights n t v s e w)) (short_product_small weights n t v f h w)

pub short_product_stored : (weights : List ℤ) (n t : ℕ) (v : ℤ) → SumsFit weights n → n < 2 ^ 15 → t < 8 → FitsSigned w16 (entry weights t) →
    Between 0 n v → to_z w16 (of_z w16 (to_z w16 (of_z w16 (entry weights t)) *ℤ to_z w16 (of_z w16 v))) ≡ entry weights t *ℤ v
short_product_stored weights n t v f s h e w = to_z-of_z w16 _ (short_product weights n t v f s h e w) ∙ short_product_of weights n t v s e w

pub next_short_fits : (weights : List ℤ) (value : ℕ → ℤ) (n t : ℕ) (s p : ℤ) → SumsFit weights n → t < 8 → ((i : ℕ) → i < 8 → Between 0 n (value i)) →
    s ≡ sum_to t (λ i. entry weights i *ℤ value i) → p ≡ entry weights t *ℤ value t → FitsSigned w16 (s +ℤ p)
unfolding sum_to
next_short_fits weights value n t s p f h v es ep =
    let w = small_sum weights value n (suc t) f (omega arith) v in
    short_sum_fits _ (record { low = omega (arith, ints, w.low, es, ep); high = omega (arith, ints, w.high, es, ep) })

-- the bounds of doubled weights
pub doubled_gains : (halves : List ℤ) → gains (doubled halves) ≡ 2 * gains halves
doubled_gains [] = refl
doubled_gains (pos n ∷ xs) =
    let p : pos 2 *ℤ pos n ≡ pos (2 * n) = omega (arith, ints) in
    ap (λ z. gains (z ∷ doubled xs)) p ∙ (let e = doubled_gains xs in omega (arith, e))
doubled_gains (negsuc n ∷ xs) = ap (λ z. gains (z ∷ doubled xs)) (negated n) ∙ doubled_gains xs

pub doubled_losses : (halves : List ℤ) → losses (doubled halves) ≡ 2 * losses halves
doubled_losses [] = refl
doubled_losses (pos n ∷ xs) =
    let p : pos 2 *ℤ pos n ≡ pos (2 * n) = omega (arith, ints) in
    ap (λ z. losses (z ∷ doubled xs)) p ∙ doubled_losses xs
doubled_losses (negsuc n ∷ xs) = ap (λ z. losses (z ∷ doubled xs)) (negated n) ∙ (let e = doubled_losses xs in omega (arith, e))

-- half of a filter's sums over samples of 8 bits are formed in 16
pub bytes_fit : (halves : List ℤ) → IsFilter (doubled halves) → SumsFit halves 255
bytes_fit halves f =
    let g = doubled_gains halves in
    let l = doubled_losses halves in
    record { size = sym (length-map halves _) ∙ f.size; gains = omega (arith, g, f.gains); losses = omega (arith, l, f.losses) }

-- a list of eight that agrees with a filter at each entry
pub filter_is : (weights taps : List ℤ) → length weights ≡ 8 → IsFilter taps → ((t : ℕ) → t < 8 → entry weights t ≡ entry taps t) → weights ≡ taps
filter_is weights taps l f h =
    let n : length weights ≡ length taps = l ∙ sym f.size in
    same_lists weights taps n (λ k d b. let m : k < 8 = omega (arith, n, f.size, b) in
    get_or_default weights k d (pos 0) b ∙ h k m ∙ sym (get_or_default taps k d (pos 0) (omega (arith, f.size, m))))

pub halves_are : (halves taps : List ℤ) → length halves ≡ 8 → IsFilter taps → ((t : ℕ) → t < 8 → entry halves t ≡ int_shr (entry taps t) 1) →
    doubled halves ≡ taps
halves_are halves taps l f h =
    filter_is (doubled halves) taps (length-map halves _ ∙ l) f (λ k m. entry_doubled halves k ∙ ap (λ z. pos 2 *ℤ z) (h k m) ∙ f.even k m)

-- half of a weight
shr_small : (z : ℤ) → neg_ℤ (pos 184) ≤ℤ z → z ≤ℤ pos 184 → FitsSigned w16 (int_shr z 1)
shr_small (pos n) l h = record { sfits = omega (arith, ints, h) }
shr_small (negsuc n) l h = record { sfits = omega (arith, ints, l) }

weight_by : (z : ℤ) → gain z ≤ 184 → loss z ≤ 56 → Between 56 184 z
weight_by (pos n) g l = record { low = omega (arith, ints); high = omega (arith, ints, g) }
weight_by (negsuc n) g l = record { low = omega (arith, ints, l); high = omega (arith, ints) }

-- a weight
pub weight_between : (taps : List ℤ) (t : ℕ) → IsFilter taps → t < 8 → Between 56 184 (entry taps t)
weight_between taps t f h =
    let more = gains_more taps t (omega (arith, f.size)) in
    let less = losses_more taps t (omega (arith, f.size)) in
    weight_by (entry taps t) (omega (arith, more, gains_part taps (suc t), f.gains)) (omega (arith, less, losses_part taps (suc t), f.losses))

pub half_weight_fits : (taps : List ℤ) (t : ℕ) → IsFilter taps → t < 8 → FitsSigned w16 (int_shr (entry taps t) 1)
half_weight_fits taps t f h = let w = weight_between taps t f h in shr_small (entry taps t) (omega (arith, ints, w.low)) w.high

-- as the machine forms it
pub half_weight_is : (taps : List ℤ) (t : ℕ) → IsFilter taps → t < 8 → FitsSigned w32 (entry taps t) →
    to_z w32 (of_z w32 (int_shr (to_z w32 (of_z w32 (entry taps t))) 1)) ≡ int_shr (entry taps t) 1
half_weight_is taps t f h e =
    ap (λ z. to_z w32 (of_z w32 (int_shr z 1))) (to_z-of_z w32 _ e) ∙ to_z-of_z w32 _ (half_wide _ (half_weight_fits taps t f h))
  where
    half_wide : (z : ℤ) → FitsSigned w16 z → FitsSigned w32 z
    half_wide (pos n) k = record { sfits = omega (arith, ints, k) }
    half_wide (negsuc n) k = record { sfits = omega (arith, ints, k) }

-- a value that is cut to a depth
cut_steps : (top : ℕ) (z m r : ℤ) → m ≡ int_max z (pos 0) → r ≡ int_min m (pos top) → Between 0 top r × (r ≡ int_min (int_max z (pos 0)) (pos top))
cut_steps top z m r e f =
    let a = int_max_is z (pos 0) in
    let b = int_min_is m (pos top) in
    (record { low = omega (arith, ints, a, b, e, f); high = omega (arith, ints, a, b, e, f) }, f ∙ ap (λ u. int_min u (pos top)) e)

cut_clips : (depth : ℕ) (z : ℤ) → unsigned_abs (int_min (int_max z (pos 0)) (pos (2 ^ depth - 1))) ≡ clip depth z
cut_clips depth (pos n) =
    let a = int_max_is (pos n) (pos 0) in
    let e : int_max (pos n) (pos 0) ≡ pos n = omega (arith, ints, a) in
    let b = int_min_is (pos n) (pos (2 ^ depth - 1)) in
    let f : int_min (pos n) (pos (2 ^ depth - 1)) ≡ pos (clip depth (pos n)) = omega (arith, ints, b) in
    ap unsigned_abs (ap (λ u. int_min u (pos (2 ^ depth - 1))) e ∙ f)
cut_clips depth (negsuc n) =
    let a = int_max_is (negsuc n) (pos 0) in
    let e : int_max (negsuc n) (pos 0) ≡ pos 0 = omega (arith, ints, a) in
    let b = int_min_is (pos 0) (pos (2 ^ depth - 1)) in
    let f : int_min (pos 0) (pos (2 ^ depth - 1)) ≡ pos 0 = omega (arith, ints, b) in
    ap unsigned_abs (ap (λ u. int_min u (pos (2 ^ depth - 1))) e ∙ f)

-- numbers of a depth have 12 bits at most
pub depth_numbers : (depth : ℕ) → IsDepth depth → 2 ^ depth ≤ 4096
depth_numbers depth (inl e) = subst (λ (n : ℕ). 2 ^ n ≤ 4096) (sym e) (omega arith)
depth_numbers depth (inr (inl e)) = subst (λ (n : ℕ). 2 ^ n ≤ 4096) (sym e) (omega arith)
depth_numbers depth (inr (inr e)) = subst (λ (n : ℕ). 2 ^ n ≤ 4096) (sym e) (omega arith)

pub cut_is : (depth : ℕ) (z m g r : ℤ) → IsDepth depth → FitsSigned w16 z → FitsSigned w16 m → m ≡ int_max (to_z w16 (of_z w16 z)) (pos 0) →
    g ≡ pos (2 ^ depth - 1)
    → r ≡ int_min (to_z w16 (of_z w16 m)) (to_z w16 (of_z w16 g)) → unsigned_abs (to_z w16 (of_z w16 r)) ≡ clip depth z
cut_is depth z m g r d fz fm e eg f =
    let top : 2 ^ depth - 1 < 2 ^ 15 = omega (arith, depth_numbers depth d) in
    let P : ℤ → Type 0 = λ v. Between 0 (2 ^ depth - 1) v in
    let g_is : to_z w16 (of_z w16 g) ≡ pos (2 ^ depth - 1) =
    short_read (2 ^ depth - 1) g top (subst P (sym eg) (record { low = omega (arith, ints); high = omega (arith, ints) })) ∙ eg in
    let s = cut_steps (2 ^ depth - 1) z m r (e ∙ ap (λ u. int_max u (pos 0)) (to_z-of_z w16 z fz))
    (f ∙ ap (λ u. int_min u (to_z w16 (of_z w16 g))) (to_z-of_z w16 m fm) ∙ ap (int_min m) g_is) in
    ap unsigned_abs (short_read (2 ^ depth - 1) r top s.0) ∙ ap unsigned_abs s.1 ∙ cut_clips depth z

-- a filter's sum over samples of 8 bits that is known as a value
pub half_sum_known : (halves : List ℤ) (value : ℕ → ℤ) (z : ℤ) → IsFilter (doubled halves) → ((t : ℕ) → t < 8 → Between 0 255 (value t)) →
    z ≡ weighted halves value → Between 7140 23460 z
half_sum_known halves value z h bytes e = let P : ℤ → Type 0 = λ v. Between 7140 23460 v
    in subst P (sym e) (halves_between halves value 8 h (omega arith) bytes)

-- the halves of a filter's weights
pub halved_are : (halves taps : List ℤ) → length halves ≡ 8 → IsFilter taps → ((t : ℕ) → t < 8 → entry halves t ≡ int_shr (entry taps t) 1) →
    halves ≡ halved taps
halved_are halves taps l f h =
    let n : length halves ≡ length (halved taps) = l ∙ sym f.size ∙ sym (length-map taps _) in
    same_lists halves (halved taps) n (λ k d b. let m : k < 8 = omega (arith, l, b) in let inside : k < length taps = omega (arith, f.size, m) in
    get_or_default halves k d (pos 0) b ∙ h k m ∙ sym (get_or-map (λ z. int_shr z 1) taps k (pos 0) d inside))

halved_between : (s t : ℤ) → t ≡ pos 2 *ℤ s → gain t ≤ 184 → loss t ≤ 56 → Between 28 92 s
halved_between s (pos n) e g l = record { low = omega (arith, ints, e); high = omega (arith, ints, e, g) }
halved_between s (negsuc n) e g l = record { low = omega (arith, ints, e, l); high = omega (arith, ints, e) }

-- half of a weight
pub half_weight_between : (halves : List ℤ) (t : ℕ) → IsFilter (doubled halves) → t < 8 → Between 28 92 (entry halves t)
half_weight_between halves t f h =
    let taps = doubled halves in
    let more = gains_more taps t (omega (arith, f.size)) in
    let less = losses_more taps t (omega (arith, f.size)) in
    halved_between _ _ (entry_doubled halves t) (omega (arith, more, gains_part taps (suc t), f.gains))
    (omega (arith, less, losses_part taps (suc t), f.losses))

half_fits : (z : ℤ) → Between 28 92 z → FitsSigned w16 z
half_fits (pos n) b = record { sfits = omega (arith, ints, b.high) }
half_fits (negsuc n) b = record { sfits = omega (arith, ints, b.low) }

pub half_weight_read : (halves : List ℤ) (t : ℕ) → IsFilter (doubled halves) → t < 8 → to_z w16 (of_z w16 (entry halves t)) ≡ entry halves t
half_weight_read halves t f h = to_z-of_z w16 _ (half_fits _ (half_weight_between halves t f h))

pub half_read_between : (halves : List ℤ) (t : ℕ) → IsFilter (doubled halves) → t < 8 → Between 28 92 (to_z w16 (of_z w16 (entry halves t)))
half_read_between halves t f h = let P : ℤ → Type 0 = λ z. Between 28 92 z in subst P (sym (half_weight_read halves t f h)) (half_weight_between halves t f h)

shr_twice : (w v : ℤ) → v ≡ w +ℤ pos 32 → shr_z v 64 ≡ shr_z (shr_z w 4 +ℤ pos 8) 16
shr_twice (pos m) v e = ap (λ u. shr_z u 64) e ∙ ap pos (omega arith)
shr_twice (negsuc m) v e = elim (cases_lt m 32) [
  | inl h ↦ (
      let a : v ≡ pos (31 - m) = omega (arith, ints, e, h) in
      let b : negsuc (m / 4) +ℤ pos 8 ≡ pos (7 - m / 4) = omega (arith, ints, h) in
      ap (λ u. shr_z u 64) a ∙ ap pos (let k : (31 - m) / 64 ≡ (7 - m / 4) / 16 = omega (arith, h) in k) ∙ sym (ap (λ u. shr_z u 16) b)
      )
  | inr h ↦ (
      let a : v ≡ negsuc (m - 32) = omega (arith, ints, e, h) in
      let b : negsuc (m / 4) +ℤ pos 8 ≡ negsuc (m / 4 - 8) = omega (arith, ints, h) in
      ap (λ u. shr_z u 64) a ∙ ap negsuc (let k : (m - 32) / 64 ≡ (m / 4 - 8) / 16 = omega (arith, h) in k) ∙ sym (ap (λ u. shr_z u 16) b)
      )
]

-- half a sum that is rounded twice
pub rounded_twice : (z : ℤ) → int_shr (z +ℤ pos 34) 6 ≡ round_shift (round_shift z 2) 4
rounded_twice z = shr_twice (z +ℤ pos 2) (z +ℤ pos 34) (omega (arith, ints))
