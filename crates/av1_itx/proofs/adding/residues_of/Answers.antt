use Rattle.std.proofs.Common.{arith, ap, sym, ◌≡◌, ◌∙◌, ◌+ℤ◌, pos, ℤ, inl, inr}
use Rattle.std.specs.Int.{int_shr}
use Rattle.av1_frame.specs.Arithmetic.{round_shift}
use Rattle.av1_itx.proofs.Raised.{halved, rounded_none}
use Rattle.av1_itx.proofs.adding.residues_of.Goals as goal

pub returns-then-this-eq0 : goal.returns-then-this-eq0
returns-then-this-eq0 g c = λ i h.
    let z = g.W.Word.lane_of c.args.z i in
    sym (rounded_none z) ∙ ap (round_shift z) (sym c.if-this-eq0.true)

pub returns : goal.returns
returns g c = λ i h.
    let half = λ (y : ℤ). int_shr y 1 in
    let z = g.W.Word.lane_of c.args.z i in
    let four : 4 ≡ g.row.SHIFT = elim c.requires.shift_in [ inl e ↦ absurd (omega (arith, e, c.if-this-eq0.false)) | inr e ↦ sym e ] in
    c.halve-4.ensures i h ∙ ap half (c.halve-3.ensures i h ∙ ap half (c.halve-2.ensures i h ∙ ap half (c.halve.ensures i h
    ∙ ap half (c.plus.ensures i h ∙ ap (λ (y : ℤ). z +ℤ y) (c.splat.ensures i h)))))
    ∙ halved (z +ℤ pos 8) ∙ ap (round_shift z) four
