-- Sides that are upsampled eight entries at a time.
use Rattle.std.proofs.Common.{ℕ, ◌+◌, ◌-◌, ◌*◌, ◌/◌, ◌%◌, ◌<◌, ◌≤◌, ◌≡◌, ◌∙◌, ◌++◌, List, length, get_or, take, drop, ap, arith, inl, inr, min, refl, sym}
use Rattle.std.proofs.lemmas.Bool.{cases_eq, cases_lt}
use Rattle.std.proofs.lemmas.Bool.Decides.{nat_tests}
use Rattle.std.proofs.lemmas.List.{places}
use Rattle.av1_frame.specs.Samples.{paint_row}
use Rattle.av1_frame.proofs.Update.{get_or-update, length-update}
use Rattle.av1_intra.specs.Sides.{Side}
use Rattle.av1_intra.specs.Scaffolding.{IsDoubled}
use Rattle.av1_intra.specs.Upsampling.{upsampled}
use Rattle.av1_intra.proofs.Upsampled.{upsampled_even, upsampled_odd}

-- `new` is `start` with the entries past 16g upsampled
pub record IsUpsampledPast (depth m g : ℕ) (A : Side) (start new : List ℕ) : Type 0 where
  pub low : (k : ℕ) → k ≤ 16 * g → get_or new k 0 ≡ get_or start k 0
  pub done : (k : ℕ) → 16 * g < k → k ≤ 2 * m → get_or new k 0 ≡ upsampled depth m A k
  pub rest : (k : ℕ) → 2 * m + 16 < k → get_or new k 0 ≡ get_or start k 0

pub none_upsampled : (depth m g : ℕ) (A : Side) (s : List ℕ) → 2 * m ≤ 16 * g → IsUpsampledPast depth m g A s s
none_upsampled depth m g A s h = record { low = λ k l. refl; done = λ k l n. absurd (omega (arith, h, l, n)); rest = λ k l. refl }

-- one group more
pub more_upsampled : (depth m g : ℕ) (A : Side) (start t new : List ℕ) → 8 * g < m → ((k : ℕ) → k ≤ m + 1 → get_or start k 0 ≡ A (min m k)) →
    IsUpsampledPast depth m (g + 1) A start t → IsDoubled depth (8 * g) t new → IsUpsampledPast depth m g A start new
more_upsampled depth m g A start t new some is b d =
    let read = λ (q : ℕ) (l : q ≤ 16 * (g + 1)) (n : q ≤ m + 1). b.low q l ∙ is q n in record {
      low = λ k l. d.before k (omega (arith, l)) ∙ b.low k (omega (arith, l));
      done = λ k l n. elim (cases_lt (16 * g + 16) k) [
        | inl past ↦ d.after k (omega (arith, past)) ∙ b.done k (omega (arith, past)) n
        | inr here ↦ elim (cases_eq (k % 2) 1) [
          | inl odd ↦ (let j = (k - (16 * g + 1)) / 2 in
              let e = 8 * g + j in
              let at_k : k ≡ 2 * e + 1 = omega (arith, odd, l) in
              let lt : e < m = omega (arith, at_k, n) in
              let few : j < 8 = omega (arith, here, at_k) in
              ap (λ q. get_or new q 0) at_k
              ∙ upsampled_odd depth m e _ (get_or t (e - 1) 0) (get_or t e 0) (get_or t (e + 1) 0) (get_or t (e + 2) 0) A lt
              (read (e - 1) (omega (arith, few)) (omega (arith, lt)) ∙ ap A (let z : min m (e - 1) ≡ e - 1 = omega (arith, lt) in z))
              (read e (omega (arith, few)) (omega (arith, lt)) ∙ ap A (let z : min m e ≡ e = omega (arith, lt) in z))
              (read (e + 1) (omega (arith, few)) (omega (arith, lt)) ∙ ap A (let z : min m (e + 1) ≡ e + 1 = omega (arith, lt) in z))
              (read (e + 2) (omega (arith, few)) (omega (arith, lt))) (d.halfway j few)
              ∙ ap (upsampled depth m A) (sym at_k))
          | inr even ↦ (let j = (k - (16 * g + 2)) / 2 in
              let e = 8 * g + j in
              let at_k : k ≡ 2 * (e + 1) = omega (arith, even, l) in
              let lt : e < m = omega (arith, at_k, n) in
              let few : j < 8 = omega (arith, here, at_k) in
              let two : 2 * (e + 1) ≡ 2 * e + 2 = omega arith in
              ap (λ q. get_or new q 0) (at_k ∙ two) ∙ d.kept j few ∙ read (e + 1) (omega (arith, few)) (omega (arith, lt))
              ∙ ap A (let z : min m (e + 1) ≡ e + 1 = omega (arith, lt) in z)
              ∙ upsampled_even depth m (e + 1) (A (e + 1)) A (omega (arith, lt)) refl ∙ ap (upsampled depth m A) (sym at_k))
        ]
      ];
      rest = λ k l. d.after k (omega (arith, l, some)) ∙ b.rest k l;
    }

-- entries after the n-th are cleared, 16 of them
pub before_cleared : (n k : ℕ) (xs front rest new : List ℕ) → front ≡ take n xs → rest ≡ drop n xs → new ≡ paint_row 16 (λ _ _. 0) rest →
    n ≤ length xs → k < n → get_or (front ++ new) k 0 ≡ get_or xs k 0
unfolding paint_row
before_cleared n k xs front rest new f r q l h = rw (q, f, r) (grind (arith, nat_tests, places, get_or-update, length-update))

pub after_cleared : (n k : ℕ) (xs front rest new : List ℕ) → front ≡ take n xs → rest ≡ drop n xs → new ≡ paint_row 16 (λ _ _. 0) rest →
    n + 16 ≤ length xs → n + 16 ≤ k → get_or (front ++ new) k 0 ≡ get_or xs k 0
unfolding paint_row
after_cleared n k xs front rest new f r q l h =
    elim (cases_lt k (length xs)) [
      | inl b ↦ rw (q, f, r) (grind (arith, nat_tests, places, get_or-update, length-update))
      | inr b ↦ rw (q, f, r) (grind (arith, nat_tests, places, get_or-update, length-update))
    ]

pub upsampled_past : (depth m k : ℕ) (A : Side) → 2 * m < k → A k ≡ upsampled depth m A k
unfolding upsampled
upsampled_past depth m k A h = grind (arith, nat_tests)
