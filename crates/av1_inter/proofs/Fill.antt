-- Loops that write the entries of a list one after another.
use Rattle.std.proofs.Common.{ℕ, ◌+◌, ◌<◌, ◌≤◌, ◌≡◌, ℤ, pos, List, length, replicate, set, refl, arith, ◌∙◌, inl, inr}
use Rattle.std.proofs.Common.{get_or-set_other}
use Rattle.std.proofs.lemmas.Bool.{cases_eq}
use Rattle.std.proofs.lemmas.Grind.{get_or-set_at}
use Rattle.std.proofs.lemmas.List.{length-replicate, length-set}
use Rattle.av1_inter.specs.Motion.{entry}

-- the first c entries of `now` are f's, and the others are those of `old`
pub record IsDone (c : ℕ) (f : ℕ → ℤ) (old now : List ℤ) : Type 0 where
  pub done : (k : ℕ) → k < c → entry now k ≡ f k
  pub rest : (k : ℕ) → c ≤ k → entry now k ≡ entry old k

pub done_more : (c : ℕ) (f : ℕ → ℤ) (old now : List ℤ) (v : ℤ) → IsDone c f old now → c < length now → v ≡ f c → IsDone (c + 1) f old (set now c v)
done_more c f old now v h l e =
    record {
      done = λ k b. elim (cases_eq k c) [
        | inl same ↦ (let n = e in grind (arith, get_or-set_at))
        | inr other ↦ (let n = h.done k (omega arith) in grind (arith, get_or-set_other))
      ];
      rest = λ k b. let n = h.rest k (omega arith) in grind (arith, get_or-set_other);
    }

-- the first c of n entries are f's
pub record IsLine (n c : ℕ) (f : ℕ → ℤ) (now : List ℤ) : Type 0 where
  pub value : (k : ℕ) → k < c → entry now k ≡ f k
  pub long : length now ≡ n

pub line_none : (n : ℕ) (f : ℕ → ℤ) → IsLine n 0 f (replicate n (pos 0))
line_none n f = record { value = λ k h. absurd (omega arith); long = length-replicate n (pos 0) }

pub line_more : (n c : ℕ) (f : ℕ → ℤ) (now : List ℤ) (v : ℤ) → IsLine n c f now → c < n → v ≡ f c → IsLine n (c + 1) f (set now c v)
line_more n c f now v h l e = record {
  value = (done_more c f now now v (record { done = h.value; rest = λ k b. refl }) (omega (arith, h.long)) e).done;
  long = length-set now c v ∙ h.long;
}
