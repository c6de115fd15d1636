-- The span of a grid in which a place lies.
use Rattle.std.proofs.Common.{◌≡◌, ℕ, ◌+◌, ◌-◌, ◌*◌, ◌/◌, ◌%◌, ◌<◌, ◌≤◌, sym, ◌∙◌, ap, arith}
use Rattle.std.proofs.lemmas.Nat.{div-mul-add}

-- its number
pub span_of : (w n a : ℕ) → n % w ≡ 0 → n ≤ a → a < n + w → a / w ≡ n / w
span_of w n a e lo hi =
    let whole : w * (n / w) ≡ n = omega arith in
    let at : a ≡ (n / w) * w + (a - n) = omega arith in
    ap (λ z. z / w) at ∙ div-mul-add (n / w) w (a - n) (omega arith)

-- where it begins
pub span_start : (w n a : ℕ) → n % w ≡ 0 → n ≤ a → a < n + w → a - a % w ≡ n
span_start w n a e lo hi =
    let whole : w * (n / w) ≡ n = omega arith in
    let rest : w * (a / w) + a % w ≡ a = omega arith in
    let same : w * (a / w) ≡ w * (n / w) = ap (λ z. w * z) (span_of w n a e lo hi) in
    omega arith

pub same_span : (w n a b : ℕ) → n % w ≡ 0 → n ≤ a → a < n + w → n ≤ b → b < n + w → a / w ≡ b / w
same_span w n a b e a0 a1 b0 b1 = span_of w n a e a0 a1 ∙ sym (span_of w n b e b0 b1)
