-- An edge in the front of a room, and how many samples its parts have.
use Rattle.std.proofs.Common.{◌++◌, ℕ, ◌+◌, ◌-◌, ◌≤◌, ◌≡◌, List, length, map, take, drop, arith, ap, ◌∙◌, sym}
use Rattle.std.proofs.lemmas.List.{drop-append-le, length-map, length-take-le, length-drop, take-append-le}
use Rattle.av1_edges.specs.Edges.{Edge}
use Rattle.av1_frame.specs.Samples.{part}
use Rattle.av1_calls.specs.IntraEdges.{HoldsEdge}

-- a part has as many samples as its numbers are
pub part_count : {T : Type 0} (num : T → ℕ) (room : List T) (i n : ℕ) (side : List ℕ) → i + n ≤ length room → map num (part i n room) ≡ side → n ≡ length side
part_count num room i n side fits told =
    sym (length-map (part i n room) num ∙ length-take-le n (drop i room) (omega (arith, length-drop i room))) ∙ ap length told

-- a part of the front
part_front : {T : Type 0} (room rest : List T) (i n : ℕ) → i + n ≤ length room → part i n (room ++ rest) ≡ part i n room
part_front room rest i n fits =
    ap (take n) (drop-append-le i room rest (omega arith)) ∙ take-append-le n (drop i room) rest (omega (arith, length-drop i room))

-- what holds an edge holds it with more behind it
pub held_before : {T : Type 0} (num : T → ℕ) (e : Edge) (room rest : List T) → length room ≡ 257 → HoldsEdge num e room → HoldsEdge num e (room ++ rest)
held_before num e room rest whole held =
    record {
      few_left = held.few_left;
      few_above = held.few_above;
      left = ap (map num) (part_front room rest (128 - length e.left) (length e.left) (omega (arith, held.few_left, whole))) ∙ held.left;
      corner = ap (map num) (part_front room rest 128 1 (omega (arith, whole))) ∙ held.corner;
      above = ap (map num) (part_front room rest 129 (length e.above) (omega (arith, held.few_above, whole))) ∙ held.above;
    }
