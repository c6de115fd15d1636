-- What a call asks of a block of an intra mode is what predicting it asks, and what is painted is what the call says.
use Rattle.std.proofs.Common.{ℕ, ℤ, ◌≡◌, ◌≢◌, ◌≤◌, List, true, arith, ap, ◌∙◌, sym, subst, unsigned_abs}
use Rattle.av1_blocks.specs.Modes.{is_directional}
use Rattle.av1_blocks.specs.declared.predict.IntraParam.TheVariants.{AngleDelta}
use Rattle.av1_blocks.specs.declared.predict.PredictionMode.{PredictionMode}
use Rattle.av1_blocks.specs.declared.transform.TxSize.{TxSize}
use Rattle.av1_frame.specs.Areas.{AreRows}
use Rattle.av1_frame.specs.Samples.{paint}
use Rattle.av1_frame.specs.declared.plane_region.StoredArea.{StoredArea}
use Rattle.av1_intra.specs.Angles.{is_interpolated}
use Rattle.av1_intra.specs.ChromaFromLuma.{ac_at}
use Rattle.av1_intra.specs.Predicted.{angle_or_alpha, edge_round, predicted}
use Rattle.av1_intra.specs.declared.directional.DirectionalBlock.{DirectionalBlock}
use Rattle.av1_intra.specs.declared.variant.PredictionVariant.{PredictionVariant}
use Rattle.av1_intra.proofs.ByMode.{angle_fine, angle_given}
use Rattle.av1_calls.specs.Arguments.{rectangle}
use Rattle.av1_calls.specs.IntraBlocks.{AreLong, block_of, mode_in, variant_in, with_prediction}
use Rattle.av1_calls.specs.declared.intra.IntraBlock.{IntraBlock}

-- the rectangle of the block does not lie in the samples
pub outside_of : (stride x y samples : ℕ) (size : TxSize) (area : StoredArea) → area ≡ rectangle x y size → ¬ AreRows stride area samples →
    ¬ AreRows stride (rectangle x y size) samples
outside_of stride x y samples size area placed never = λ rows. never (subst (λ (a : StoredArea). AreRows stride a samples) (sym placed) rows)

-- what is as long as one block reads it is so for the same block
pub long_for : (block other : DirectionalBlock) (variant v : PredictionVariant) (mode m : PredictionMode) (left above ac : ℕ) → block ≡ other → variant ≡ v →
    mode ≡ m
    → AreLong other v m left above ac → AreLong block variant mode left above ac
long_for block other variant v mode m left above ac e f h long =
    subst (λ (k : DirectionalBlock). AreLong k variant mode left above ac) (sym e)
    (subst (λ (k : PredictionVariant). AreLong other k mode left above ac) (sym f)
    (subst (λ (k : PredictionMode). AreLong other v k left above ac) (sym h) long))

-- so few steps give an angle that directional prediction takes
pub turned_angle : (mode : PredictionMode) (step : ℤ) → unsigned_abs step ≤ 3 → is_directional mode ≡ true
    → unsigned_abs (angle_or_alpha mode (AngleDelta step)) ≢ 90 → unsigned_abs (angle_or_alpha mode (AngleDelta step)) ≢ 180 →
    is_interpolated (unsigned_abs (angle_or_alpha mode (AngleDelta step))) ≡ true
turned_angle mode step few h = angle_fine mode h (angle_or_alpha mode (AngleDelta step)) (angle_given mode (AngleDelta step) few (omega arith))

-- what was painted in the block's own words is what the call says
pub predicted_so : {T : Type 0} (num : T → ℕ) (pixel : ℕ → T) (b : IntraBlock) (mode m : PredictionMode) (size : TxSize) (stride x y : ℕ) (left : List T)
    (corner : T) (above : List T) (ac : List ℤ) (alpha z : ℤ)
    → (before after : List T) (area : StoredArea) (block : DirectionalBlock) (v : PredictionVariant)
    → area ≡ rectangle x y size → m ≡ mode_in b mode → v ≡ variant_in b → block ≡ block_of b (mode_in b mode) size → z ≡ alpha
    → after ≡ paint stride area (λ r c _. pixel (predicted block v m z (ac_at block.width ac) (edge_round num left (num corner) above) r c)) before
    → after ≡ with_prediction num pixel b mode stride x y size left corner above ac alpha before
predicted_so {T} num pixel b mode m size stride x y left corner above ac alpha z before after area block v area_is mode_is variant_is block_is alpha_is
    painted =
    let P = λ (a : StoredArea) (k : DirectionalBlock) (u : PredictionVariant) (n : PredictionMode) (w : ℤ).
    paint stride a (λ r c (_ : T). pixel (predicted k u n w (ac_at k.width ac) (edge_round num left (num corner) above) r c)) before in
    let A = rectangle x y size in
    let K = block_of b (mode_in b mode) size in
    painted
    ∙ ap (λ a. P a block v m z) area_is
    ∙ ap (λ k. P A k v m z) block_is
    ∙ ap (λ u. P A K u m z) variant_is
    ∙ ap (λ n. P A K (variant_in b) n z) mode_is
    ∙ ap (λ w. P A K (variant_in b) (mode_in b mode) w) alpha_is
