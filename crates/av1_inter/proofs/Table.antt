-- The weights of every filter are in bounds, by computing over the table.
use Rattle.std.proofs.Common.{ℕ, ◌+◌, ◌*◌, ◌/◌, ◌%◌, ◌*ℤ◌, ◌<◌, ◌≤◌, ◌≡◌, ◌≢◌, refl, arith, Bool, true, ◌&&◌, nat_eq, nat_le, List, []}
use Rattle.std.proofs.Common.{length, slice_index_or, inl, inr, ℤ, pos, negsuc, ◌≤ℤ◌, ◌<ℤ◌, unsigned_abs}
use Rattle.std.specs.Int.{int_shr}
use Rattle.std.proofs.lemmas.Bool.{cases_lt}
use Rattle.std.proofs.lemmas.Bool.Decides.{nat_tests}
use Rattle.std.proofs.lemmas.Int.{ints}
use Rattle.av1_lists.proofs.Below.{all_below, below}
use Rattle.av1_blocks.specs.declared.mc.FilterMode.{FilterMode}
use Rattle.av1_blocks.specs.declared.mc.FilterMode.TheVariants.{REGULAR, SMOOTH, SHARP, BILINEAR, SWITCHABLE}
use Rattle.av1_blocks.specs.Filters.{filter_number, subpel_filters}
use Rattle.av1_inter.specs.Filters.{family, filter_of, short_family}
use Rattle.av1_inter.specs.Scaffolding.{gains, IsFilter, IsStripWidth, losses}

both_true : (a b : Bool) → (a && b) ≡ true → (a ≡ true) × (b ≡ true)
both_true a b e = grind (arith, nat_tests)

abbrev row_at : ℕ → ℕ → List ℤ
row_at k f = slice_index_or (slice_index_or subpel_filters k []) f []

abbrev is_filter : List ℤ → Bool
is_filter taps = nat_eq (length taps) 8 && (nat_eq (gains taps) (128 + losses taps) && (nat_le (gains taps) 184 && nat_le (losses taps) 56))

all_filters : all_below 6 (λ k. all_below 16 (λ f. is_filter (row_at k f))) ≡ true
all_filters = refl

equal_is : (m n : ℕ) → nat_eq m n ≡ true → m ≡ n
equal_is m n e = grind (arith, nat_tests)

at_most_is : (m n : ℕ) → nat_le m n ≡ true → m ≤ n
at_most_is m n e = grind (arith, nat_tests)

abbrev is_even : ℤ → Bool
is_even (pos n) = nat_eq (n % 2) 0
is_even (negsuc n) = nat_eq (n % 2) 1

all_even : all_below 6 (λ k. all_below 16 (λ f. all_below 8 (λ t. is_even (slice_index_or (row_at k f) t (pos 0))))) ≡ true
all_even = refl

even_is : (z : ℤ) → is_even z ≡ true → pos 2 *ℤ int_shr z 1 ≡ z
even_is (pos n) e = let m : n % 2 ≡ 0 = equal_is _ _ e in let h : 2 * (n / 2) ≡ n = omega arith in omega (arith, ints, h)
even_is (negsuc n) e = let m : n % 2 ≡ 1 = equal_is _ _ e in let h : 2 * (n / 2) + 1 ≡ n = omega arith in omega (arith, ints, h)

row_is_even : (k f t : ℕ) → k < 6 → f < 16 → t < 8 → pos 2 *ℤ int_shr (slice_index_or (row_at k f) t (pos 0)) 1 ≡ slice_index_or (row_at k f) t (pos 0)
row_is_even k f t h l m =
    even_is _ (below 8 (λ i. is_even (slice_index_or (row_at k f) i (pos 0)))
    (below 16 (λ j. all_below 8 (λ i. is_even (slice_index_or (row_at k j) i (pos 0))))
    (below 6 (λ n. all_below 16 (λ j. all_below 8 (λ i. is_even (slice_index_or (row_at n j) i (pos 0))))) all_even k h) f l) t m)

row_is_filter : (k f : ℕ) → k < 6 → f < 16 → IsFilter (row_at k f)
row_is_filter k f h l =
    let e = below 16 (λ i. is_filter (row_at k i)) (below 6 (λ j. all_below 16 (λ i. is_filter (row_at j i))) all_filters k h) f l in
    let b = both_true (nat_eq (length (row_at k f)) 8)
    (nat_eq (gains (row_at k f)) (128 + losses (row_at k f)) && (nat_le (gains (row_at k f)) 184 && nat_le (losses (row_at k f)) 56)) e in
    let d = both_true (nat_eq (gains (row_at k f)) (128 + losses (row_at k f))) (nat_le (gains (row_at k f)) 184 && nat_le (losses (row_at k f)) 56) b.1 in
    let m = both_true (nat_le (gains (row_at k f)) 184) (nat_le (losses (row_at k f)) 56) d.1 in
    record { size = equal_is _ _ b.0; whole = equal_is _ _ d.0; gains = at_most_is _ _ m.0; losses = at_most_is _ _ m.1; even = λ t b. row_is_even k f t h l b }

number_small : (mode : FilterMode) → filter_number mode < 6
number_small REGULAR = omega arith
number_small SMOOTH = omega arith
number_small SHARP = omega arith
number_small BILINEAR = omega arith
number_small SWITCHABLE = omega arith

short_small : (mode : FilterMode) → short_family mode < 6
short_small REGULAR = omega arith
short_small SMOOTH = omega arith
short_small SHARP = omega arith
short_small BILINEAR = omega arith
short_small SWITCHABLE = omega arith

family_small : (mode : FilterMode) (side : ℕ) → family mode side < 6
family_small mode side =
    let n = number_small mode in
    let s = short_small mode in
    elim (cases_lt 4 side) [ inl h ↦ grind (arith, nat_tests) | inr h ↦ grind (arith, nat_tests) ]

-- the filter of each mode at each fraction
pub filter_of_is_filter : (mode : FilterMode) (fraction side : ℕ) → fraction < 16 → IsFilter (filter_of mode fraction side)
filter_of_is_filter mode fraction side h = row_is_filter (family mode side) fraction (family_small mode side) h

-- a fraction as it was passed on
pub fraction_small : (z : ℤ) (n : ℕ) → n ≡ unsigned_abs z → (pos 0 ≤ℤ z) × (z <ℤ pos 16) → n < 16
fraction_small (pos m) n e h = omega (arith, ints, e, h.1)
fraction_small (negsuc m) n e h = absurd (omega (arith, ints, h.0))

-- the widths of strips
pub strip_short : (n : ℕ) → IsStripWidth n → n ≤ 16
strip_short n (inl e) = omega (arith, e)
strip_short n (inr (inl e)) = omega (arith, e)
strip_short n (inr (inr (inl e))) = omega (arith, e)
strip_short n (inr (inr (inr e))) = omega (arith, e)

pub strip_narrow : (n : ℕ) → IsStripWidth n → n ≢ 16 → n ≤ 8
strip_narrow n (inl e) h = absurd (h e)
strip_narrow n (inr (inl e)) h = omega (arith, e)
strip_narrow n (inr (inr (inl e))) h = omega (arith, e)
strip_narrow n (inr (inr (inr e))) h = omega (arith, e)
