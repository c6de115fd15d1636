-- The parts that a mode needs, told apart by whether it has an angle.
use Rattle.std.proofs.Common.{ℕ, ◌+◌, ◌≡◌, Bool, true, false, ◌&&◌, cond, leb, refl, ap, sym, ◌∙◌, ℤ, pos}
use Rattle.std.specs.Prelude.{int_lt}
use Rattle.av1_blocks.specs.declared.predict.PredictionMode.{PredictionMode}
use Rattle.av1_blocks.specs.declared.predict.PredictionMode.TheVariants.{DC_PRED}
use Rattle.av1_blocks.specs.Modes.{is_directional}
use Rattle.av1_edges.specs.declared.parts.Parts.{Parts}
use Rattle.av1_edges.specs.Parts.{angle, is_paeth, is_slanted, needs_left, parts_for}

abbrev along : Bool → ℤ → (w h : ℕ) → Parts
along filter degrees w h = record {
  left = true;
  below_left = int_lt (pos 180) degrees;
  above_right = int_lt degrees (pos 90);
  corner = is_slanted degrees;
  smoothed = filter && int_lt (pos 90) degrees && int_lt degrees (pos 180) && leb 24 (w + h);
}

abbrev level : PredictionMode → ℕ → Parts
level mode x = record { left = needs_left mode x; below_left = false; above_right = false; corner = is_paeth mode; smoothed = false }

either : (filter : Bool) (mode : PredictionMode) (step : ℤ) (x w h : ℕ) → cond (is_directional mode) (along filter (angle mode step) w h) (level mode x) ≡
    parts_for filter mode step x w h
either true mode step x w h =
    elim mode as (λ m. cond (is_directional m) (along true (angle m step) w h) (level m x) ≡ parts_for true m step x w h) [ DC_PRED ↦ refl | _ ↦ refl ]
either false mode step x w h =
    elim mode as (λ m. cond (is_directional m) (along false (angle m step) w h) (level m x) ≡ parts_for false m step x w h) [ DC_PRED ↦ refl | _ ↦ refl ]

module _ (filter : Bool) (mode : PredictionMode) (step : ℤ) (x w h : ℕ) (p : Parts) where
  -- those of a mode with an angle
  pub needed_along : (degrees : ℤ) → p ≡ along filter degrees w h → degrees ≡ angle mode step → is_directional mode ≡ true →
      p ≡ parts_for filter mode step x w h
  needed_along degrees e d t =
      e ∙ ap (λ (a : ℤ). along filter a w h) d ∙ sym (ap (λ b. cond b (along filter (angle mode step) w h) (level mode x)) t) ∙ either filter mode step x w h

  -- and of one without
  pub needed_level : p ≡ level mode x → is_directional mode ≡ false → p ≡ parts_for filter mode step x w h
  needed_level e t =
      e ∙ sym (ap (λ b. cond b (along filter (angle mode step) w h) (level mode x)) t) ∙ either filter mode step x w h
