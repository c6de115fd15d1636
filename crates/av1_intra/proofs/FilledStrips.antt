-- Strips of eight rows that are filled column by column.
use Rattle.std.proofs.Common.{ℕ, ◌+◌, ◌-◌, ◌*◌, ◌%◌, ◌<◌, ◌≤◌, ◌≡◌, ◌∙◌, List, length, get_or, set, ap, arith, inl, inr, refl, subst, sym}
use Rattle.std.proofs.lemmas.Bool.{cases_eq, cases_lt}
use Rattle.std.proofs.lemmas.List.{get_or-set_same, get_or-set_other, length-set}
use Rattle.std.proofs.lemmas.Nat.{mod-mul-add}
use Rattle.std.proofs.Math.Nat.{mul-lt-mul_of_pos_right}
use Rattle.av1_intra.specs.Scaffolding.{IsPut, IsFilled}

pub put_none : (step place : ℕ) (values s : List ℕ) → IsPut step place 0 values s s
put_none step place values s = record { long = refl; put = λ j l. absurd (omega arith); others = λ q h. refl; within = λ b v o. o }

-- two places of a column
apart : (step place j k : ℕ) → 0 < step → j < k → place + step * j ≡ place + step * k → 1 ≤ 0
apart step place j k some l e =
    let a = mul-lt-mul_of_pos_right l some in
    let b : j * step ≡ step * j = grind arith in
    let c : k * step ≡ step * k = grind arith in
    omega (arith, a, b, c, e)

-- one more number of a column
pub put_next : (step place k : ℕ) (values s t : List ℕ) (x : ℕ) → 0 < step → place + step * k < length t → x ≡ get_or values k 0 →
    IsPut step place k values s t → IsPut step place (k + 1) values s (set t (place + step * k) x)
put_next step place k values s t x some room is p =
    let here : get_or (set t (place + step * k) x) (place + step * k) 0 ≡ get_or values k 0 = get_or-set_same t (place + step * k) x 0 room ∙ is in record {
      long = length-set t (place + step * k) x ∙ p.long;
      put = λ j l. elim (cases_lt j k) [
        | inl b ↦ get_or-set_other t (place + step * k) (place + step * j) x 0 (λ e. absurd (let q = apart step place j k some b e in omega (arith, q)))
            ∙ p.put j b
        | inr b ↦ (let e : j ≡ k = omega arith in ap (λ m. get_or (set t (place + step * k) x) (place + step * m) 0) e ∙ here
            ∙ ap (λ m. get_or values m 0) (sym e))
      ];
      others = λ q h. get_or-set_other t (place + step * k) q x 0 (h k (omega arith)) ∙ p.others q (λ j l. h j (omega arith));
      within = λ b v o q. elim (cases_eq q (place + step * k)) [
        | inl e ↦ subst (λ y. y < b) (sym (ap (λ m. get_or (set t (place + step * k) x) m 0) e ∙ here)) (v k (omega arith))
        | inr n ↦ subst (λ y. y < b) (sym (get_or-set_other t (place + step * k) q x 0 n)) (p.within b (λ j l. v j (omega arith)) o q)
      ];
    }

pub fill_none : (step : ℕ) (skipped : ℕ → ℕ) (f : ℕ → ℕ → ℕ) (s : List ℕ) → IsFilled step 0 skipped f s s
fill_none step skipped f s = record { long = refl; filled = λ r c l m _. absurd (omega arith); within = λ b v o. o }

-- a place of another column
beside : (step r j c k : ℕ) → c < k → k < step → step * r + c ≡ k + step * j → 1 ≤ 0
beside step r j c k l m e =
    let a : (r * step + c) % step ≡ c = mod-mul-add r step c (omega arith) in
    let b : (j * step + k) % step ≡ k = mod-mul-add j step k m in
    let f : r * step + c ≡ j * step + k = grind (arith, e) in
    let g : c ≡ k = sym a ∙ ap (λ n. n % step) f ∙ b in
    omega (arith, g)

-- one more column
pub fill_next : (step k place : ℕ) (skipped : ℕ → ℕ) (f : ℕ → ℕ → ℕ) (values old s t : List ℕ) → k < step → place ≡ step * skipped k + k →
    IsFilled step k skipped f old s → IsPut step place 8 values s t → ((j : ℕ) → j < 8 → get_or values j 0 ≡ f (skipped k + j) k) →
    IsFilled step (k + 1) skipped f old t
fill_next step k place skipped f values old s t lt at before p are = record {
  long = p.long ∙ before.long;
  filled = λ r c l m h. elim (cases_lt c k) [
    | inl b ↦ p.others (step * r + c) (λ j _ e. absurd (
        let d : step * (skipped k + j) ≡ step * skipped k + step * j = grind arith in
        let q = beside step r (skipped k + j) c k b lt (omega (arith, d, e, at)) in omega (arith, q))) ∙ before.filled r c l b h
    | inr b ↦ (let e : c ≡ k = omega arith in
        let few : skipped k ≤ r = subst (λ n. skipped n ≤ r) e h in
        let j = r - skipped k in
        let all : skipped k + j ≡ r = omega (arith, few) in
        let a : step * r ≡ step * (skipped k + j) = ap (λ n. step * n) (sym all) in
        let d : step * (skipped k + j) ≡ step * skipped k + step * j = grind arith in
        let q : step * r + c ≡ place + step * j = omega (arith, a, d, e, at) in
        ap (λ n. get_or t n 0) q ∙ p.put j (omega (arith, l)) ∙ are j (omega (arith, l)) ∙ ap (λ n. f n k) all ∙ ap (f r) (sym e))
  ];
  within = λ b v o. p.within b (λ j l. subst (λ y. y < b) (sym (are j l)) (v (skipped k + j) k)) (before.within b v o);
}
