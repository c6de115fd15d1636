use Rattle.std.proofs.Common.{ℤ, ◌≡◌, ◌∙◌, ◌-◌, true, false, ap, min, pos, subst, sym, unsigned_abs, w64}
use Rattle.std.specs.Int.Signed.{lt_z}
use Rattle.std.proofs.lemmas.Int.{to_z-of_z}
use Rattle.av1_calls.proofs.MovedBlocks.{nearest_before, nearest_from}
use Rattle.av1_calls.proofs.window.nearest.Goals as goal

pub returns-then-place-lt0-clause-value : goal.returns-then-place-lt0-clause-value
returns-then-place-lt0-clause-value c =
    let a = c.args in
    sym (nearest_before a.visible a.place (subst (λ (z : ℤ). lt_z z (pos 0) ≡ true) (to_z-of_z w64 a.place c.ranges.place) c.if-place-lt0.true))

pub returns-clause-value : goal.returns-clause-value
returns-clause-value c =
    let a = c.args in
    let is = to_z-of_z w64 a.place c.ranges.place in
    c.min.ensures ∙ ap (λ k. min k (a.visible - 1)) (c.unsigned_abs.ensures.value ∙ ap unsigned_abs is)
    ∙ sym (nearest_from a.visible a.place (subst (λ (z : ℤ). lt_z z (pos 0) ≡ false) is c.if-place-lt0.false))
