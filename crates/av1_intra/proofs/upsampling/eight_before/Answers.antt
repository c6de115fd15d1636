use Rattle.std.proofs.Common.{◌≡◌, ℕ, ◌+◌, ◌-◌, ◌<◌, ◌≤◌, ◌∙◌, ◌++◌, List, length, get_or, take, arith, ap}
use Rattle.std.proofs.lemmas.List.{get_or-take, get_or_append_left, places}
use Rattle.av1_intra.specs.Sides.{entries}
use Rattle.av1_intra.proofs.EightLanes.{each_of_eight}
use Rattle.av1_intra.proofs.upsampling.eight_before.Goals as goal

-- an entry of eight
one : (j : ℕ) (xs : List ℕ) → 8 ≤ length xs → j < 8 → get_or (take 8 xs ++ take 8 xs) j 0 ≡ get_or xs j 0
one j xs h l =
    let long : length (take 8 xs) ≡ 8 = grind (arith, places) in
    get_or_append_left (take 8 xs) (take 8 xs) 0 j (omega (arith, long, l)) ∙ get_or-take 8 xs j 0 l

pub returns-then-e-eq0 : goal.returns-then-e-eq0
returns-then-e-eq0 c =
    let xs = c.args.numbers.now in
    let E = λ (j k : ℕ) (l : j < 8) (e : j ≡ c.args.e + k - 1). one j xs (omega (arith, c.requires)) l ∙ ap (entries xs) e in
    let h : c.args.e ≡ 0 = omega (arith, c.if-e-eq0.true) in
    each_of_eight (λ k. _ ≡ entries xs (c.args.e + k - 1)) (E 0 0 (omega arith) (omega (arith, h))) (E 0 1 (omega arith) (omega (arith, h)))
    (E 1 2 (omega arith) (omega (arith, h))) (E 2 3 (omega arith) (omega (arith, h))) (E 3 4 (omega arith) (omega (arith, h)))
    (E 4 5 (omega arith) (omega (arith, h))) (E 5 6 (omega arith) (omega (arith, h))) (E 6 7 (omega arith) (omega (arith, h)))
