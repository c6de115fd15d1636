-- Of eight places one is free, where fewer than eight slots show frames.
use Rattle.std.proofs.Common.{ℕ, zero, suc, ◌+◌, ◌<◌, ◌≤◌, ◌≡◌, ◌≢◌, ◌∙◌, ◌⊎◌, inl, inr, Bool, true, false, Option, Some, None, refl, ap, sym, arith}
use Rattle.std.proofs.Common.{if◌then◌else◌}
use Rattle.std.specs.Prelude.{◌==◌}
use Rattle.std.proofs.lemmas.Bool.{cases_lt, eq-eqb}
use Rattle.std.proofs.lemmas.Bool.Decides.{eqb_tells}

-- f 0 + .. + f (n - 1)
total : ℕ → (ℕ → ℕ) → ℕ
total zero f = 0
total (suc n) f = total n f + f n

total_add : (n : ℕ) (f g : ℕ → ℕ) → total n (λ i. f i + g i) ≡ total n f + total n g
unfolding total
total_add zero f g = refl
total_add (suc n) f g = omega (arith, total_add n f g)

total_none : (n : ℕ) → total n (λ i. 0) ≡ 0
unfolding total
total_none zero = refl
total_none (suc n) = omega (arith, total_none n)

-- the sum of sums, taken the other way round
total_turned : (n m : ℕ) (f : ℕ → ℕ → ℕ) → total n (λ i. total m (λ s. f i s)) ≡ total m (λ s. total n (λ i. f i s))
unfolding total
total_turned zero m f = sym (total_none m)
total_turned (suc n) m f = ap (λ (t : ℕ). t + total m (λ s. f n s)) (total_turned n m f) ∙ sym (total_add m (λ s. total n (λ i. f i s)) (λ s. f n s))

total_least : (n : ℕ) (f : ℕ → ℕ) → ((i : ℕ) → i < n → 1 ≤ f i) → n ≤ total n f
unfolding total
total_least zero f some = omega arith
total_least (suc n) f some = omega (arith, total_least n f (λ i lt. some i (omega (arith, lt))), some n (omega arith))

total_item : (n : ℕ) (f : ℕ → ℕ) (s : ℕ) → s < n → f s ≤ total n f
unfolding total
total_item zero f s lt = absurd (omega (arith, lt))
total_item (suc n) f s lt =
    elim (cases_lt s n) [ inl below ↦ omega (arith, total_item n f s below) | inr le ↦ (let at : s ≡ n = omega (arith, lt, le) in omega (arith, ap f at)) ]

total_most : (n : ℕ) (f : ℕ → ℕ) → ((i : ℕ) → i < n → f i ≤ 1) → total n f ≤ n
unfolding total
total_most zero f few = omega arith
total_most (suc n) f few = omega (arith, total_most n f (λ i lt. few i (omega (arith, lt))), few n (omega arith))

total_fewer : (n : ℕ) (f : ℕ → ℕ) (r : ℕ) → r < n → f r ≡ 0 → ((i : ℕ) → i < n → f i ≤ 1) → total n f < n
unfolding total
total_fewer zero f r lt none few = absurd (omega (arith, lt))
total_fewer (suc n) f r lt none few =
    elim (cases_lt r n) [
      | inl below ↦ omega (arith, total_fewer n f r below none (λ i l. few i (omega (arith, l))), few n (omega arith))
      | inr le ↦ (let at : r ≡ n = omega (arith, lt, le) in omega (arith, total_most n f (λ i l. few i (omega (arith, l))), ap f at, none))
    ]

-- 1 where a slot shows the frame at place i
hit : Option ℕ → ℕ → ℕ
hit None i = 0
hit (Some place) i = if place == i then 1 else 0

hit_self : (place : ℕ) → hit (Some place) place ≡ 1
unfolding hit
hit_self place = rw (eq-eqb place place refl) refl

hit_past : (place n : ℕ) → place ≢ n → hit (Some place) n ≡ 0
unfolding hit
hit_past place n other = elim (eqb_tells place n) [ inl same ↦ absurd (other same.1) | inr away ↦ rw away.0 refl ]

-- none up to the place, and one behind it
hits : (place n : ℕ) → ((n ≤ place) × (total n (hit (Some place)) ≡ 0)) ⊎ ((place < n) × (total n (hit (Some place)) ≡ 1))
unfolding total
hits place zero = inl (omega arith, refl)
hits place (suc n) = elim (hits place n) [
  | inl h ↦ elim (cases_lt n place) [
    | inl below ↦ inl (omega (arith, below), omega (arith, h.1, hit_past place n (λ e. absurd (omega (arith, below, e)))))
    | inr le ↦ (let at : place ≡ n = omega (arith, le, h.0) in inr (omega (arith, at), omega (arith, h.1, ap (hit (Some place)) (sym at), hit_self place)))
  ]
  | inr h ↦ inr (omega (arith, h.0), omega (arith, h.1, hit_past place n (λ e. absurd (omega (arith, h.0, e)))))
]

hits_one : (place n : ℕ) → total n (hit (Some place)) ≤ 1
hits_one place n = elim (hits place n) [ inl h ↦ omega (arith, h.1) | inr h ↦ omega (arith, h.1) ]

hits_few : (kept : Option ℕ) (n : ℕ) → total n (hit kept) ≤ 1
unfolding hit
hits_few None n = omega (arith, total_none n)
hits_few (Some place) n = hits_one place n

-- a slot that counts
own : Bool → Option ℕ → ℕ → ℕ
own away kept i = if away then 0 else hit kept i

own_few : (away : Bool) (kept : Option ℕ) (n : ℕ) → total n (own away kept) ≤ 1
unfolding own
own_few true kept n = omega (arith, total_none n)
own_few false kept n = hits_few kept n

own_none : (away : Bool) (kept : Option ℕ) (n : ℕ) → away ≡ true → total n (own away kept) ≡ 0
unfolding own
own_none away kept n e = rw e (total_none n)

own_hit : (away : Bool) (kept : Option ℕ) (i : ℕ) → away ≡ false → kept ≡ Some i → 1 ≤ own away kept i
unfolding own
own_hit away kept i e is = rw (e, is) (omega (arith, hit_self i))

-- Where each of the first n places is shown by one of m slots that stay, and one slot goes, there are fewer places than slots.
pub fewer : (n m : ℕ) (away : ℕ → Bool) (kept : ℕ → Option ℕ) (r : ℕ) → r < m → away r ≡ true
    → ((i : ℕ) → i < n → (s : ℕ) × ((s < m) × (away s ≡ false) × (kept s ≡ Some i))) → n < m
fewer n m away kept r lt gone shown =
    let table : ℕ → ℕ → ℕ = λ i s. own (away s) (kept s) i in
    let least =
    total_least n (λ i. total m (table i))
    (λ i l. let (s, at) = shown i l in omega (arith, total_item m (table i) s at.0, own_hit (away s) (kept s) i at.1 at.2)) in
    let most = total_fewer m (λ s. total n (λ i. table i s)) r lt (own_none (away r) (kept r) n gone) (λ s l. own_few (away s) (kept s) n) in
    omega (arith, least, most, total_turned n m table)
