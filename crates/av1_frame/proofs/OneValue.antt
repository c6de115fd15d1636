-- Lists of one value that grow.
use Rattle.std.proofs.Common.{ℕ, ◌-◌, ◌≤◌, ◌≡◌, List, ◌++◌, length, take, replicate, ap, arith, ◌∙◌}
use Rattle.std.proofs.lemmas.List.{length-replicate, replicate-append-replicate, take_all}

-- m of a value, filled up to n
pub more_of_one : {X : Type 0} (m n len : ℕ) (v : X) (old new : List X) → m ≤ n → old ≡ replicate m v → len ≡ m
    → new ≡ take n old ++ replicate (n - len) v → new ≡ replicate n v
more_of_one m n len v old new le old_is len_is new_is =
    let long : length old ≡ m = ap length old_is ∙ length-replicate m v in
    let whole : take n old ≡ replicate m v = take_all n old (omega (arith, long, le)) ∙ old_is in
    new_is ∙ ap (λ (xs : List _). xs ++ replicate (n - len) v) whole ∙ ap (λ (k : ℕ). replicate m v ++ replicate (n - k) v) len_is
    ∙ replicate-append-replicate m (n - m) v ∙ ap (λ (k : ℕ). replicate k v) (omega (arith, le))
