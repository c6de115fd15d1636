-- Lists that are defined by the item at each position.
use Rattle.std.specs.Prelude.{ℕ, List, map}
use Rattle.std.specs.List.{range_with_len}

-- f 0, .., f (n - 1)
abbrev pub by_index : {A : Type 0} → ℕ → (ℕ → A) → List A
by_index n f = map f (range_with_len 0 n)
