-- What holds of each of eight numbers.
use Rattle.std.proofs.Common.{ℕ, ◌<◌}
use borrow.Author.Count.{below_more, below_none}

pub each_of_eight : (P : ℕ → Type 0) → P 0 → P 1 → P 2 → P 3 → P 4 → P 5 → P 6 → P 7 → (t : ℕ) → t < 8 → P t
each_of_eight P a b c d e f g h =
    let four = below_more P 3 (below_more P 2 (below_more P 1 (below_more P 0 (below_none P) a) b) c) d in
    below_more P 7 (below_more P 6 (below_more P 5 (below_more P 4 four e) f) g) h
