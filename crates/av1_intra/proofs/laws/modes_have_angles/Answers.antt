use Rattle.std.proofs.Common.{◌≡◌, true, false, refl, arith, pos, unsigned_abs, ◌+ℤ◌, ◌*ℤ◌, ◌≤◌}
use Rattle.av1_blocks.specs.declared.predict.PredictionMode.TheVariants.{V_PRED, H_PRED, D45_PRED, D135_PRED, D113_PRED, D157_PRED, D203_PRED, D67_PRED}
use Rattle.av1_blocks.specs.Modes.{is_directional, intra_mode_to_angle}
use Rattle.av1_intra.specs.Angles.{derivative, is_interpolated}
use Rattle.av1_intra.proofs.ModeAngles.{step_fine}
use Rattle.av1_intra.proofs.laws.modes_have_angles.Goals as goal

pub returns : goal.returns
unfolding derivative is_interpolated
returns c = λ mode step p.
    elim mode as (λ m. is_directional m ≡ true → unsigned_abs step ≤ 3 → pos p ≡ intra_mode_to_angle m +ℤ pos 3 *ℤ step → (p ≡ 90 → ⊥) → (p ≡ 180 → ⊥) →
    is_interpolated p ≡ true) [
      | V_PRED ↦ λ h. step_fine 90 p step refl (omega arith) (omega arith)
      | H_PRED ↦ λ h. step_fine 180 p step refl (omega arith) (omega arith)
      | D45_PRED ↦ λ h. step_fine 45 p step refl (omega arith) (omega arith)
      | D67_PRED ↦ λ h. step_fine 67 p step refl (omega arith) (omega arith)
      | D113_PRED ↦ λ h. step_fine 113 p step refl (omega arith) (omega arith)
      | D135_PRED ↦ λ h. step_fine 135 p step refl (omega arith) (omega arith)
      | D157_PRED ↦ λ h. step_fine 157 p step refl (omega arith) (omega arith)
      | D203_PRED ↦ λ h. step_fine 203 p step refl (omega arith) (omega arith)
      | _ ↦ λ h m e x y. (let f : false ≡ true = h in cc)
    ]
