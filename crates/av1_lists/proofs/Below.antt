-- Numbers below a bound, tried one by one: a test over all of them is closed by `refl`.
use Rattle.std.proofs.Common.{◌≡◌, ℕ, zero, suc, ◌<◌, Bool, true, ◌&&◌, arith, inl, inr}
use Rattle.std.proofs.lemmas.Bool.{and_parts, cases_lt}

-- p holds of each number below n
abbrev pub all_below : ℕ → (ℕ → Bool) → Bool
all_below zero p = true
all_below (suc n) p = p n && all_below n p

pub below : (n : ℕ) (p : ℕ → Bool) → all_below n p ≡ true → (v : ℕ) → v < n → p v ≡ true
below zero p e v lt = absurd (omega arith)
below (suc n) p e v lt =
    let (here, rest) = and_parts (p n) (all_below n p) e in
    elim (cases_lt v n) [
      | inl lower ↦ below n p rest v lower
      | inr le ↦ let same : v ≡ n = omega arith in rw same here
    ]
