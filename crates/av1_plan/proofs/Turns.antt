-- Drafts one after the other, in a loop.
use Rattle.std.proofs.Common.{◌≡◌, ℕ, suc, ◌+◌, ◌-◌, ◌<◌, ◌≤◌, List, refl, arith}
use Rattle.av1_plan.specs.Draft.{Draft, each}
use Rattle.av1_plan.specs.Making.{run}

pub turn : (d : ℕ → Draft) (count i : ℕ) (s : List ℕ × ℕ) → i < count → run (each d i (count - i)) s ≡ run (each d (i + 1) (count - (i + 1))) (run (d i) s)
unfolding each
turn d count i s lt =
    let k : count - i ≡ suc (count - (i + 1)) = omega arith in
    rw k refl

pub turn_stop : (d : ℕ → Draft) (count i : ℕ) (s : List ℕ × ℕ) → count ≤ i → run (each d i (count - i)) s ≡ s
unfolding each
turn_stop d count i s le =
    let k : count - i ≡ 0 = omega arith in
    rw k refl

pub ruleset turns = (turn, turn_stop)
