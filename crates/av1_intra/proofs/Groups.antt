-- Rows that are written in groups of samples.
use Rattle.std.proofs.Common.{ℕ, ◌+◌, ◌*◌, ◌<◌, ◌≤◌, ◌≡◌, ◌∙◌, List, length, get_or, set, ap, arith}
use Rattle.std.proofs.lemmas.List.{get_or_default}
use Rattle.std.proofs.Math.Nat.{mul-le-mul_left}
use Rattle.av1_frame.specs.Samples.{paint_row}
use Rattle.av1_frame.proofs.Paint.{paint_row_more}
use Rattle.std.proofs.lemmas.Bool.Decides.{nat_tests}
use Rattle.av1_frame.proofs.Update.{get_or-update}

-- a group among all, each of m samples
pub group_inside : (m groups g : ℕ) → g < groups → m * g + m ≤ m * groups
group_inside m groups g h =
    let all : m * (g + 1) ≤ m * groups = mul-le-mul_left m (omega arith) in
    let one : m * (g + 1) ≡ m * g + m = grind arith in
    omega (arith, all, one)

-- one more sample of a line, at the place start + k of the row t
pub next_in_line : {X : Type 0} (start k n : ℕ) (f : ℕ → X → X) (s t line : List X) (x : X) → t ≡ paint_row (start + k) f s → start + k < length s → k < n
    → n ≤ length line → x ≡ get_or line k x → ((c : ℕ) (v : X) → c < n → get_or line c v ≡ f (start + c) v) →
    set t (start + k) x ≡ paint_row (start + (k + 1)) f s
next_in_line start k n f s t line x is lt few long read told =
    let v = get_or s (start + k) x in
    let value : x ≡ f (start + k) v = read ∙ get_or_default line k x v (omega (arith, few, long)) ∙ told k v few in
    ap (λ u. set u (start + k) x) is ∙ paint_row_more (start + k) f s x lt value
    ∙ ap (λ n. paint_row n f s) (let a : start + k + 1 ≡ start + (k + 1) = omega arith in a)

-- the next group of a row: a line of m samples, which was painted by h, is written behind the groups before it
pub group_of_line : {X : Type 0} (m k : ℕ) (h : ℕ → X) (f : ℕ → X → X) (blank line : List X) (c : ℕ) (v : X) → line ≡ paint_row m (λ q _. h q) blank →
    length blank ≡ m → ((q : ℕ) (u : X) → q < m → h q ≡ f (m * k + q) u) → c < m → get_or line c v ≡ f (m * k + c) v
unfolding paint_row
group_of_line m k h f blank line c v is long same lt =
    ap (λ u. get_or u c v) is ∙ (get_or-update _ blank c v (omega (arith, lt, long)) ∙ (let t = same c v lt in grind (arith, nat_tests)))
