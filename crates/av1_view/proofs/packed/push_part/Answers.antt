use Rattle.std.proofs.Common.{◌≡◌, ℕ, ◌-◌, ◌≤◌, ◌++◌, List, IfOk, arith, ap, length, min, subst, sym, ◌∙◌}
use Rattle.av1_view.specs.Packed.{change, group_bytes, sign_last}
use Rattle.std.proofs.lemmas.List.{take_rest}
use Rattle.av1_view.proofs.Packing.{later_group_is, part_is}
use Rattle.av1_view.proofs.packed.push_part.Goals as goal

pub returns-then-len-eq-GROUP : goal.returns-then-len-eq-GROUP
returns-then-len-eq-GROUP c =
    let number : ℕ → ℕ = λ i. sign_last (change c.args.row c.args.planes.now c.args.predictions.now i) in
    let count : ℕ = min (length c.args.planes.now) (length c.args.predictions.now) in
    let within : c.args.at ≤ count = omega (arith, c.requires.plane, c.requires.prediction) in
    let len : c.min-len.result ≡ min (count - c.args.at) 8 = c.min-len.ensures ∙ ap (λ (n : ℕ). min (n - c.args.at) 8) c.min.ensures in
    let full : 8 ≡ min (count - c.args.at) 8 = sym c.if-len-eq-GROUP.true ∙ len in
    subst (λ (l : List ℕ). IfOk c.push_group.result (λ done. c.push_group.new.bytes.items ≡ c.args.bytes.now.items ++ group_bytes l))
    (c.later_group-group.ensures
    ∙ later_group_is c.args.row c.args.at c.args.planes.now c.args.predictions.now _ _ _ _ c.if-row-at.true (take_rest c.args.planes.now c.args.at)
    (take_rest c.args.predictions.now c.args.at) (take_rest c.args.planes.now (c.args.at - c.args.row))
    (take_rest c.args.predictions.now (c.args.at - c.args.row)) ∙ part_is number count c.args.at 8 within full) c.push_group.ensures

pub returns : goal.returns
returns c =
    let number : ℕ → ℕ = λ i. sign_last (change c.args.row c.args.planes.now c.args.predictions.now i) in
    let count : ℕ = min (length c.args.planes.now) (length c.args.predictions.now) in
    let within : c.args.at ≤ count = omega (arith, c.requires.plane, c.requires.prediction) in
    let len : c.min-len.result ≡ min (count - c.args.at) 8 = c.min-len.ensures ∙ ap (λ (n : ℕ). min (n - c.args.at) 8) c.min.ensures in
    subst (λ (l : List ℕ). IfOk c.push_any.result (λ done. c.push_any.new.bytes.items ≡ c.args.bytes.now.items ++ group_bytes l))
    (part_is number count c.args.at c.min-len.result within len) c.push_any.ensures
