use Rattle.std.proofs.Common.{Bool, ap, ◌∙◌, sym}
use Rattle.std.specs.Prelude.{if◌then◌else◌}
use Rattle.av1_intra.specs.Predicted.{along_above}
use Rattle.av1_intra.proofs.ByMode.{above_else}
use Rattle.av1_intra.proofs.edge_lengths.places_above.Goals as goal

pub returns-then-is_directional : goal.returns-then-is_directional
returns-then-is_directional c =
    let a = c.args in
    let n = c.in_default in
    c.along_above.ensures ∙ sym (ap (λ (b : Bool). if b then along_above a.p_angle a.width a.height else a.width) c.if-is_directional.true)
    ∙ ap (λ (b : Bool). if b then along_above a.p_angle a.width a.height else a.width) c.is_directional.ensures
    ∙ above_else a.mode a.variant a.p_angle a.width a.height n.not-DC_PRED n.not-UV_CFL_PRED

pub returns-else-is_directional : goal.returns-else-is_directional
returns-else-is_directional c =
    let a = c.args in
    let n = c.in_default in
    sym (ap (λ (b : Bool). if b then along_above a.p_angle a.width a.height else a.width) c.if-is_directional.false)
    ∙ ap (λ (b : Bool). if b then along_above a.p_angle a.width a.height else a.width) c.is_directional.ensures
    ∙ above_else a.mode a.variant a.p_angle a.width a.height n.not-DC_PRED n.not-UV_CFL_PRED
