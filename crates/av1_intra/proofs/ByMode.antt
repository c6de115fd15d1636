-- What each mode reads and predicts.
use Rattle.std.proofs.Common.{ℕ, zero, suc, ◌*◌, ◌%◌, ◌≤◌, ◌≡◌, List, refl, true, false, ◌&&◌, eqb, leb, arith, ◌∙◌, sym, ap, subst, ◌⊎◌, inl, inr, ℤ, pos}
use Rattle.std.proofs.Common.{negsuc, ◌+ℤ◌, ◌*ℤ◌, ◌-ℤ◌, unsigned_abs}
use Rattle.std.specs.Prelude.{if◌then◌else◌}
use Rattle.std.proofs.lemmas.Bool.Decides.{nat_tests}
use Rattle.std.proofs.lemmas.Int.{ints}
use Rattle.av1_blocks.specs.declared.predict.PredictionMode.{PredictionMode}
use Rattle.av1_blocks.specs.declared.predict.PredictionMode.TheVariants.{DC_PRED, V_PRED, H_PRED, D45_PRED, D135_PRED, D113_PRED, D157_PRED, D203_PRED}
use Rattle.av1_blocks.specs.declared.predict.PredictionMode.TheVariants.{D67_PRED, SMOOTH_PRED, SMOOTH_V_PRED, SMOOTH_H_PRED, PAETH_PRED, UV_CFL_PRED}
use Rattle.av1_blocks.specs.declared.transform.TxSize.{TxSize}
use Rattle.av1_blocks.specs.declared.transform.TxSize.TheVariants.{TX_4X4, TX_8X8, TX_16X16, TX_32X32, TX_64X64, TX_4X8, TX_8X4, TX_8X16, TX_16X8, TX_16X32}
use Rattle.av1_blocks.specs.declared.transform.TxSize.TheVariants.{TX_32X16, TX_32X64, TX_64X32, TX_4X16, TX_16X4, TX_8X32, TX_32X8, TX_16X64, TX_64X16}
use Rattle.av1_blocks.specs.Transforms.{tx_width, tx_height}
use Rattle.av1_lists.specs.Sides.{IsTransformSide}
use Rattle.av1_blocks.specs.Modes.{is_intra, is_directional, is_cfl}
use Rattle.av1_blocks.specs.declared.predict.IntraParam.{IntraParam}
use Rattle.av1_edges.specs.Parts.{effective, step_of}
use Rattle.av1_edges.specs.Edges.{Edge}
use Rattle.av1_intra.specs.declared.directional.DirectionalBlock.{DirectionalBlock}
use Rattle.av1_intra.specs.declared.variant.PredictionVariant.{PredictionVariant}
use Rattle.av1_intra.specs.declared.variant.PredictionVariant.TheVariants.{NONE, LEFT, TOP, BOTH}
use Rattle.av1_intra.specs.Angles.{is_interpolated, derivative}
use Rattle.av1_intra.specs.Predicted.{edge_round, dc, along, smoothly, predicted, alpha_of, angle_or_alpha, is_angle_of, along_above, along_left, places_above}
use Rattle.av1_intra.specs.Predicted.{places_left}
use Rattle.av1_intra.proofs.ModeAngles.{turned_fine}

-- DC prediction doesn't read the corner
pub dc_corner : {T : Type 0} (num : T → ℕ) (v : PredictionVariant) (depth w h k : ℕ) (left above : List T) →
    dc v depth w h (edge_round num left 0 above) ≡ dc v depth w h (edge_round num left k above)
dc_corner num v depth w h k left above =
    elim v as (λ v. dc v depth w h (edge_round num left 0 above) ≡ dc v depth w h (edge_round num left k above))
    [ NONE ↦ refl | LEFT ↦ refl | TOP ↦ refl | BOTH ↦ refl ]

pub side_small : (n : ℕ) → IsTransformSide n → n ≤ 64
side_small n (inl e) = omega arith
side_small n (inr (inl e)) = omega arith
side_small n (inr (inr (inl e))) = omega arith
side_small n (inr (inr (inr (inl e)))) = omega arith
side_small n (inr (inr (inr (inr e)))) = omega arith

pub tx_width_side : (t : TxSize) → IsTransformSide (tx_width t)
tx_width_side t =
    elim t as (λ t. IsTransformSide (tx_width t)) [
      | TX_4X4 ↦ inl refl
      | TX_8X8 ↦ inr (inl refl)
      | TX_16X16 ↦ inr (inr (inl refl))
      | TX_32X32 ↦ inr (inr (inr (inl refl)))
      | TX_64X64 ↦ inr (inr (inr (inr refl)))
      | TX_4X8 ↦ inl refl
      | TX_8X4 ↦ inr (inl refl)
      | TX_8X16 ↦ inr (inl refl)
      | TX_16X8 ↦ inr (inr (inl refl))
      | TX_16X32 ↦ inr (inr (inl refl))
      | TX_32X16 ↦ inr (inr (inr (inl refl)))
      | TX_32X64 ↦ inr (inr (inr (inl refl)))
      | TX_64X32 ↦ inr (inr (inr (inr refl)))
      | TX_4X16 ↦ inl refl
      | TX_16X4 ↦ inr (inr (inl refl))
      | TX_8X32 ↦ inr (inl refl)
      | TX_32X8 ↦ inr (inr (inr (inl refl)))
      | TX_16X64 ↦ inr (inr (inl refl))
      | TX_64X16 ↦ inr (inr (inr (inr refl)))
    ]

pub tx_height_side : (t : TxSize) → IsTransformSide (tx_height t)
tx_height_side t =
    elim t as (λ t. IsTransformSide (tx_height t)) [
      | TX_4X4 ↦ inl refl
      | TX_8X8 ↦ inr (inl refl)
      | TX_16X16 ↦ inr (inr (inl refl))
      | TX_32X32 ↦ inr (inr (inr (inl refl)))
      | TX_64X64 ↦ inr (inr (inr (inr refl)))
      | TX_4X8 ↦ inr (inl refl)
      | TX_8X4 ↦ inl refl
      | TX_8X16 ↦ inr (inr (inl refl))
      | TX_16X8 ↦ inr (inl refl)
      | TX_16X32 ↦ inr (inr (inr (inl refl)))
      | TX_32X16 ↦ inr (inr (inl refl))
      | TX_32X64 ↦ inr (inr (inr (inr refl)))
      | TX_64X32 ↦ inr (inr (inr (inl refl)))
      | TX_4X16 ↦ inr (inr (inl refl))
      | TX_16X4 ↦ inl refl
      | TX_8X32 ↦ inr (inr (inr (inl refl)))
      | TX_32X8 ↦ inr (inl refl)
      | TX_16X64 ↦ inr (inr (inr (inr refl)))
      | TX_64X16 ↦ inr (inr (inl refl))
    ]

-- an intra mode that is none of these has an angle
pub rest_directional : (mode : PredictionMode) → is_intra mode ≡ true → (mode ≡ DC_PRED → ⊥) → (mode ≡ UV_CFL_PRED → ⊥) → (mode ≡ SMOOTH_PRED → ⊥) →
    (mode ≡ SMOOTH_V_PRED → ⊥) → (mode ≡ SMOOTH_H_PRED → ⊥) → (mode ≡ PAETH_PRED → ⊥) → is_directional mode ≡ true
rest_directional mode =
    elim mode as (λ m. is_intra m ≡ true → (m ≡ DC_PRED → ⊥) → (m ≡ UV_CFL_PRED → ⊥) → (m ≡ SMOOTH_PRED → ⊥) → (m ≡ SMOOTH_V_PRED → ⊥) →
    (m ≡ SMOOTH_H_PRED → ⊥) → (m ≡ PAETH_PRED → ⊥) → is_directional m ≡ true) [
      | DC_PRED ↦ λ h a b d e f x. absurd (a refl)
      | UV_CFL_PRED ↦ λ h a b d e f x. absurd (b refl)
      | SMOOTH_PRED ↦ λ h a b d e f x. absurd (d refl)
      | SMOOTH_V_PRED ↦ λ h a b d e f x. absurd (e refl)
      | SMOOTH_H_PRED ↦ λ h a b d e f x. absurd (f refl)
      | PAETH_PRED ↦ λ h a b d e f x. absurd (x refl)
      | V_PRED ↦ λ h a b d e f x. refl
      | H_PRED ↦ λ h a b d e f x. refl
      | D45_PRED ↦ λ h a b d e f x. refl
      | D67_PRED ↦ λ h a b d e f x. refl
      | D113_PRED ↦ λ h a b d e f x. refl
      | D135_PRED ↦ λ h a b d e f x. refl
      | D157_PRED ↦ λ h a b d e f x. refl
      | D203_PRED ↦ λ h a b d e f x. refl
      | _ ↦ λ h a b d e f x. (let y : false ≡ true = h in cc)
    ]

module _ (mode : PredictionMode) (h : is_directional mode ≡ true) where
  pub predicted_along : (b : DirectionalBlock) (v : PredictionVariant) (alpha : ℤ) (ac : ℕ → ℕ → ℤ) (e : Edge) (r c : ℕ) →
      along b e r c ≡ predicted b v mode alpha ac e r c
  unfolding predicted
  predicted_along b v alpha ac e r c =
      elim mode as (λ m. is_directional m ≡ true → along b e r c ≡ predicted b v m alpha ac e r c) [
        | V_PRED ↦ λ h. refl
        | H_PRED ↦ λ h. refl
        | D45_PRED ↦ λ h. refl
        | D67_PRED ↦ λ h. refl
        | D113_PRED ↦ λ h. refl
        | D135_PRED ↦ λ h. refl
        | D157_PRED ↦ λ h. refl
        | D203_PRED ↦ λ h. refl
        | _ ↦ λ h. (let y : false ≡ true = h in cc)
      ] h

  pub above_along : (v : PredictionVariant) (p w h : ℕ) → along_above p w h ≡ places_above mode v p w h
  above_along v p w n =
      elim mode as (λ m. is_directional m ≡ true → along_above p w n ≡ places_above m v p w n) [
        | V_PRED ↦ λ h. refl
        | H_PRED ↦ λ h. refl
        | D45_PRED ↦ λ h. refl
        | D67_PRED ↦ λ h. refl
        | D113_PRED ↦ λ h. refl
        | D135_PRED ↦ λ h. refl
        | D157_PRED ↦ λ h. refl
        | D203_PRED ↦ λ h. refl
        | _ ↦ λ h. (let y : false ≡ true = h in cc)
      ] h

  pub left_along : (v : PredictionVariant) (p w h : ℕ) → along_left p w h ≡ places_left mode v p w h
  left_along v p w n =
      elim mode as (λ m. is_directional m ≡ true → along_left p w n ≡ places_left m v p w n) [
        | V_PRED ↦ λ h. refl
        | H_PRED ↦ λ h. refl
        | D45_PRED ↦ λ h. refl
        | D67_PRED ↦ λ h. refl
        | D113_PRED ↦ λ h. refl
        | D135_PRED ↦ λ h. refl
        | D157_PRED ↦ λ h. refl
        | D203_PRED ↦ λ h. refl
        | _ ↦ λ h. (let y : false ≡ true = h in cc)
      ] h

  -- its angle is one that directional prediction takes
  pub angle_fine : (z : ℤ) → is_angle_of mode z ≡ true → (unsigned_abs z ≡ 90 → ⊥) → (unsigned_abs z ≡ 180 → ⊥) → is_interpolated (unsigned_abs z) ≡ true
  unfolding derivative is_interpolated
  angle_fine z =
      elim mode as (λ m. is_directional m ≡ true → is_angle_of m z ≡ true → (unsigned_abs z ≡ 90 → ⊥) → (unsigned_abs z ≡ 180 → ⊥) →
      is_interpolated (unsigned_abs z) ≡ true) [
        | V_PRED ↦ λ h. turned_fine 90 z refl (omega arith) (omega arith)
        | H_PRED ↦ λ h. turned_fine 180 z refl (omega arith) (omega arith)
        | D45_PRED ↦ λ h. turned_fine 45 z refl (omega arith) (omega arith)
        | D67_PRED ↦ λ h. turned_fine 67 z refl (omega arith) (omega arith)
        | D113_PRED ↦ λ h. turned_fine 113 z refl (omega arith) (omega arith)
        | D135_PRED ↦ λ h. turned_fine 135 z refl (omega arith) (omega arith)
        | D157_PRED ↦ λ h. turned_fine 157 z refl (omega arith) (omega arith)
        | D203_PRED ↦ λ h. turned_fine 203 z refl (omega arith) (omega arith)
        | _ ↦ λ h a x y. (let f : false ≡ true = h in cc)
      ] h

pub only_cfl : (mode : PredictionMode) → (mode ≡ UV_CFL_PRED → ⊥) → is_cfl mode ≡ true → ⊥
only_cfl mode = elim mode as (λ m. (m ≡ UV_CFL_PRED → ⊥) → is_cfl m ≡ true → ⊥) [ UV_CFL_PRED ↦ λ x h. x refl | _ ↦ λ x h. (let f : false ≡ true = h in cc) ]

-- a mode that takes no mean reads by its angle, if it has one
module _ (mode : PredictionMode) (v : PredictionVariant) (p w h : ℕ) (d : mode ≡ DC_PRED → ⊥) (f : mode ≡ UV_CFL_PRED → ⊥) where
  pub above_else : (if is_directional mode then along_above p w h else w) ≡ places_above mode v p w h
  above_else =
      elim mode as (λ m. (m ≡ DC_PRED → ⊥) → (m ≡ UV_CFL_PRED → ⊥) → (if is_directional m then along_above p w h else w) ≡ places_above m v p w h) [
        | DC_PRED ↦ λ x y. absurd (x refl)
        | UV_CFL_PRED ↦ λ x y. absurd (y refl)
        | _ ↦ λ x y. refl
      ] d f

  pub left_else : (if is_directional mode then along_left p w h else h) ≡ places_left mode v p w h
  left_else =
      elim mode as (λ m. (m ≡ DC_PRED → ⊥) → (m ≡ UV_CFL_PRED → ⊥) → (if is_directional m then along_left p w h else h) ≡ places_left m v p w h) [
        | DC_PRED ↦ λ x y. absurd (x refl)
        | UV_CFL_PRED ↦ λ x y. absurd (y refl)
        | _ ↦ λ x y. refl
      ] d f

-- only luma's mode weighs
pub weighed_alike : (b : DirectionalBlock) (v : PredictionVariant) (mode : PredictionMode) (x z : ℤ) (ac : ℕ → ℕ → ℤ) (e : Edge) (r c : ℕ) →
    (is_cfl mode ≡ true → x ≡ z) → predicted b v mode x ac e r c ≡ predicted b v mode z ac e r c
unfolding predicted
weighed_alike b v mode x z ac e r c =
    elim mode as (λ m. (is_cfl m ≡ true → x ≡ z) → predicted b v m x ac e r c ≡ predicted b v m z ac e r c) [
      | UV_CFL_PRED ↦ λ h. ap (λ (y : ℤ). predicted b v UV_CFL_PRED y ac e r c) (h refl)
      | _ ↦ λ h. refl
    ]

-- the modes that mix, and that of the nearest neighbour
pub smoothly_predicted : (b : DirectionalBlock) (v : PredictionVariant) (mode : PredictionMode) (alpha : ℤ) (ac : ℕ → ℕ → ℤ) (e : Edge) (r c : ℕ)
    → (mode ≡ SMOOTH_PRED) ⊎ ((mode ≡ SMOOTH_V_PRED) ⊎ ((mode ≡ SMOOTH_H_PRED) ⊎ (mode ≡ PAETH_PRED)))
    → smoothly mode b.width b.height e r c ≡ predicted b v mode alpha ac e r c
unfolding predicted
smoothly_predicted b v mode alpha ac e r c h =
    let P : PredictionMode → Type 0 = λ m. smoothly m b.width b.height e r c ≡ predicted b v m alpha ac e r c in
    elim h [
      | inl q ↦ subst P (sym q) refl
      | inr (inl q) ↦ subst P (sym q) refl
      | inr (inr (inl q)) ↦ subst P (sym q) refl
      | inr (inr (inr q)) ↦ subst P (sym q) refl
    ]

-- Paeth prediction with fewer neighbours is an intra mode, too
paeth_intra : (x y : ℕ) → is_intra (effective PAETH_PRED x y) ≡ true
paeth_intra zero zero = refl
paeth_intra zero (suc y) = refl
paeth_intra (suc x) zero = refl
paeth_intra (suc x) (suc y) = refl

pub effective_intra : (mode : PredictionMode) (x y : ℕ) → is_intra mode ≡ true → is_intra (effective mode x y) ≡ true
effective_intra mode x y = elim mode as (λ m. is_intra m ≡ true → is_intra (effective m x y) ≡ true) [ PAETH_PRED ↦ λ h. paeth_intra x y | _ ↦ λ h. h ]

paeth_cfl : (x y : ℕ) → is_cfl (effective PAETH_PRED x y) ≡ false
paeth_cfl zero zero = refl
paeth_cfl zero (suc y) = refl
paeth_cfl (suc x) zero = refl
paeth_cfl (suc x) (suc y) = refl

-- and none that takes luma
pub effective_cfl : (mode : PredictionMode) (x y : ℕ) → is_cfl (effective mode x y) ≡ true → is_cfl mode ≡ true
effective_cfl mode x y =
    elim mode as (λ m. is_cfl (effective m x y) ≡ true → is_cfl m ≡ true) [ PAETH_PRED ↦ λ h. absurd (no (sym (paeth_cfl x y) ∙ h)) | _ ↦ λ h. h ]
  where
    no : false ≡ true → ⊥
    no h = cc

-- an angle is so far from its mode's
turned_by : (a : ℕ) (step : ℤ) → unsigned_abs step ≤ 3 → unsigned_abs ((pos a +ℤ pos 3 *ℤ step) -ℤ pos a) ≡ 3 * unsigned_abs step
turned_by a (pos n) h = grind (arith, ints)
turned_by a (negsuc n) h = grind (arith, ints)

near_three : (d n : ℕ) → d ≡ 3 * n → n ≤ 3 → (leb d 9 && eqb (d % 3) 0) ≡ true
near_three d n e h = let m : d % 3 ≡ 0 = omega arith in grind (arith, nat_tests)

small_weight : (n : ℕ) → n ≤ 16 → leb n 16 ≡ true
small_weight n h = grind (arith, nat_tests)

-- the angle that a mode and its parameter give is one that the mode has
pub angle_given : (mode : PredictionMode) (param : IntraParam) → unsigned_abs (step_of param) ≤ 3 → unsigned_abs (alpha_of param) ≤ 16 →
    is_angle_of mode (angle_or_alpha mode param) ≡ true
angle_given mode param h l =
    let s = step_of param in
    elim mode as (λ m. is_angle_of m (angle_or_alpha m param) ≡ true) [
      | UV_CFL_PRED ↦ small_weight (unsigned_abs (alpha_of param)) l
      | V_PRED ↦ near_three _ (unsigned_abs s) (turned_by 90 s h) h
      | H_PRED ↦ near_three _ (unsigned_abs s) (turned_by 180 s h) h
      | D45_PRED ↦ near_three _ (unsigned_abs s) (turned_by 45 s h) h
      | D67_PRED ↦ near_three _ (unsigned_abs s) (turned_by 67 s h) h
      | D113_PRED ↦ near_three _ (unsigned_abs s) (turned_by 113 s h) h
      | D135_PRED ↦ near_three _ (unsigned_abs s) (turned_by 135 s h) h
      | D157_PRED ↦ near_three _ (unsigned_abs s) (turned_by 157 s h) h
      | D203_PRED ↦ near_three _ (unsigned_abs s) (turned_by 203 s h) h
      | _ ↦ refl
    ]
