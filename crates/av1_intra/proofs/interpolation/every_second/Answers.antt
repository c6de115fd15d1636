use Rattle.std.proofs.Common.{◌≡◌, ℕ, ◌+◌, ◌*◌, ◌<◌, ◌≤◌, ◌∙◌, ◌++◌, List, length, get_or, take, drop, arith}
use Rattle.std.proofs.lemmas.List.{get_or-drop, get_or-take, get_or_append_left, places}
use Rattle.av1_intra.specs.Sides.{entries}
use Rattle.av1_intra.proofs.EightLanes.{each_of_eight}
use Rattle.av1_intra.proofs.interpolation.every_second.Goals as goal

-- an entry of 16
one : (e j : ℕ) (xs : List ℕ) → e + 16 ≤ length xs → j < 16 → get_or (take 16 (drop e xs) ++ take 16 (drop e xs)) j 0 ≡ get_or xs (e + j) 0
one e j xs h l =
    let long : length (take 16 (drop e xs)) ≡ 16 = grind (arith, places) in
    get_or_append_left (take 16 (drop e xs)) (take 16 (drop e xs)) 0 j (omega (arith, long, l)) ∙ get_or-take 16 (drop e xs) j 0 l ∙ get_or-drop e xs j 0

pub returns : goal.returns
returns c =
    let E = λ (j : ℕ) (l : j < 16). one c.args.e j c.args.numbers.now c.requires l in
    each_of_eight (λ k. _ ≡ entries c.args.numbers.now (c.args.e + k * 2)) (E 0 (omega arith)) (E 2 (omega arith)) (E 4 (omega arith)) (E 6 (omega arith))
    (E 8 (omega arith)) (E 10 (omega arith)) (E 12 (omega arith)) (E 14 (omega arith))
