-- What stands behind what was written.
use Rattle.std.proofs.Common.{◌≡◌, ℕ, ◌+◌, ◌-◌, ◌≤◌, List, ◌++◌, length, drop, sym, ap, ◌∙◌, append_assoc, length-append, drop-drop, drop_at, arith}
use Rattle.std.proofs.Math.Seq.{drop-append-add}

-- what stays behind a place stays behind each later one
pub rest_later : (q r : ℕ) (s t : List ℕ) → drop q s ≡ drop q t → q ≤ r → drop r s ≡ drop r t
rest_later q r s t same le =
    let e : q + (r - q) ≡ r = omega (arith, le) in
    ap (λ (n : ℕ). drop n s) (sym e) ∙ sym (drop-drop (r - q) q s) ∙ ap (drop (r - q)) same ∙ drop-drop (r - q) q t ∙ ap (λ (n : ℕ). drop n t) e

-- behind as many bytes as were there before
pub rest_behind : (n : ℕ) (front old new rest whole : List ℕ) → whole ≡ front ++ (old ++ rest) → length front + length old ≡ n → length new ≡ length old
    → drop n (front ++ (new ++ rest)) ≡ drop n whole
rest_behind n front old new rest whole is end same =
    ap (drop n) (sym (append_assoc front new rest)) ∙ drop_at (front ++ new) rest n (omega (arith, length-append front new, same, end))
    ∙ sym (drop_at (front ++ old) rest n (omega (arith, length-append front old, end))) ∙ ap (drop n) (append_assoc front old rest ∙ sym is)

-- behind a part that was changed at its front alone
pub rest_within : (at n : ℕ) (front old new whole : List ℕ) → whole ≡ front ++ old → length front ≡ at → drop n new ≡ drop n old
    → drop (at + n) (front ++ new) ≡ drop (at + n) whole
rest_within at n front old new whole is len same =
    ap (λ (k : ℕ). drop (k + n) (front ++ new)) (sym len) ∙ drop-append-add front new n ∙ same ∙ sym (drop-append-add front old n)
    ∙ ap (λ (k : ℕ). drop (k + n) (front ++ old)) len ∙ ap (drop (at + n)) (sym is)
