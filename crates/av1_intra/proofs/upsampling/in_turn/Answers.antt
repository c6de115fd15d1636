use Rattle.std.proofs.Common.{rules, ◌≡◌, ℕ, ◌+◌, ◌*◌, ◌<◌, ◌∙◌, ◌++◌, length, get_or, arith, ap, sym}
use Rattle.std.proofs.lemmas.List.{get_or_append_left, get_or-append-add}
use Rattle.av1_intra.specs.Sides.{entries}
use Rattle.av1_intra.proofs.EightLanes.{each_of_eight}
use Rattle.av1_intra.proofs.upsampling.in_turn.Goals as goal

pub returns-clause-first : goal.returns-clause-first
returns-clause-first c =
    let n : length c.args.first ≡ 8 = search rules in
    let E = λ (j : ℕ) (l : j < 8). get_or_append_left c.args.first c.args.second 0 j (omega (arith, n, l)) in
    each_of_eight (λ k. _ ≡ entries c.args.first k) (E 0 (omega arith)) (E 1 (omega arith)) (E 2 (omega arith)) (E 3 (omega arith)) (E 4 (omega arith))
    (E 5 (omega arith)) (E 6 (omega arith)) (E 7 (omega arith))

pub returns-clause-second : goal.returns-clause-second
returns-clause-second c =
    let n : length c.args.first ≡ 8 = search rules in
    let E = λ (j : ℕ). ap (λ m. get_or (c.args.first ++ c.args.second) (m + j) 0) (sym n) ∙ get_or-append-add c.args.first c.args.second j 0 in
    each_of_eight (λ k. _ ≡ entries c.args.second k) (E 0) (E 1) (E 2) (E 3) (E 4) (E 5) (E 6) (E 7)
