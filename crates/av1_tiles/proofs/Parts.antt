-- The parts of tiles, one after the other in a loop.
use Rattle.std.proofs.Common.{◌≡◌, ℕ, suc, ◌+◌, ◌-◌, ◌<◌, ◌≤◌, List, [], ◌∷◌, ◌++◌, Ok, refl, arith}
use Rattle.std.proofs.lemmas.List.{map_push}
use Rattle.av1_plan.specs.Format.{Input, on_ok, read_part}
use Rattle.av1_tiles.specs.Grammar.{read_parts}

pub turn : (count i : ℕ) (s : List (List ℕ) × Input) → i < count →
    read_parts (count - i) s ≡ on_ok (read_part s.1) (λ p. read_parts (count - (i + 1)) (s.0 ++ p.0 ∷ [], p.1))
unfolding read_parts
turn count i s lt =
    let k : count - i ≡ suc (count - (i + 1)) = omega arith in
    rw k refl

pub turn_stop : (count i : ℕ) (s : List (List ℕ) × Input) → count ≤ i → read_parts (count - i) s ≡ Ok s
unfolding read_parts
turn_stop count i s le =
    let k : count - i ≡ 0 = omega arith in
    rw k refl

pub ruleset turns = (turn, turn_stop, map_push)
