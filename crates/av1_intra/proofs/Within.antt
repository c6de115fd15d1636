-- What is predicted from an edge within a depth lies within it.
use Rattle.std.proofs.Common.{ℕ, ◌+◌, ◌-◌, ◌*◌, ◌/◌, ◌%◌, ◌^◌, ◌<◌, ◌≤◌, ◌≡◌, List, [], ◌∷◌, length, get_or, sum, slice_index, eqb, ltb, leb, true, false, refl}
use Rattle.std.proofs.Common.{subst, sym, add-one, arith, inl, inr, ℤ, pos, ◌+ℤ◌, suc, lit≤}
use Rattle.std.specs.List.{All, list_all}
use Rattle.std.specs.Ordering.{int_eq}
use Rattle.std.proofs.lemmas.Bool.Decides.{nat_tests}
use Rattle.std.proofs.lemmas.Bool.{cases_eq, cases_lt}
use Rattle.std.proofs.lemmas.List.{get_or_past}
use Rattle.std.proofs.lemmas.List.Elements.{All-get_or, All-take, All-append}
use Rattle.std.proofs.lemmas.List.Sums.{AllPass-from_list_all, sum_by-cons}
use Rattle.av1_blocks.specs.declared.predict.PredictionMode.{PredictionMode}
use Rattle.av1_blocks.specs.declared.predict.PredictionMode.TheVariants.{DC_PRED, SMOOTH_PRED, SMOOTH_V_PRED, SMOOTH_H_PRED, PAETH_PRED, UV_CFL_PRED}
use Rattle.av1_blocks.specs.Modes.{is_directional}
use Rattle.av1_frame.proofs.Within.{entry_below, some_numbers, clip_within, chosen_below}
use Rattle.av1_edges.specs.Edges.{Edge}
use Rattle.av1_edges.specs.Within.{EdgeIsWithin}
use Rattle.av1_edges.proofs.Within.{base_within}
use Rattle.av1_intra.specs.declared.directional.DirectionalBlock.{DirectionalBlock}
use Rattle.av1_intra.specs.declared.variant.PredictionVariant.{PredictionVariant}
use Rattle.av1_intra.specs.declared.variant.PredictionVariant.TheVariants.{NONE, LEFT, TOP, BOTH}
use Rattle.av1_intra.specs.Sides.{Side, entries}
use Rattle.av1_intra.specs.Dc.{mean}
use Rattle.av1_intra.specs.Paeth.{paeth}
use Rattle.av1_intra.specs.Smooth.{weights, smooth, smooth_v, smooth_h, down, across}
use Rattle.av1_intra.specs.Directional.{blend, entry, at, below_90, between, directional}
use Rattle.av1_intra.specs.ChromaFromLuma.{from_luma, scaled_luma}
use Rattle.av1_intra.specs.Predicted.{dc, along, predicted}
use Rattle.av1_intra.proofs.Mixes.{mix_within}
use Rattle.av1_intra.proofs.Means.{mean_fits, sum_bound}

-- ---- means

sum_below : (bound : ℕ) (ns : List ℕ) → ((k : ℕ) → k < length ns → get_or ns k 0 < bound) → sum ns + length ns ≤ length ns * bound
sum_below bound [] h = omega arith
sum_below bound (n ∷ ns) h =
    let r = sum_below bound ns (λ k l. h (suc k) (omega arith)) in
    let b = sum_bound (sum ns) (length ns) n bound r (h 0 (omega arith)) in
    let e : sum (n ∷ ns) ≡ n + sum ns = sum_by-cons (λ x. x) n ns in
    let f : sum ns + n ≡ sum (n ∷ ns) = omega (arith, e) in
    subst (λ m. sum (n ∷ ns) + m ≤ m * bound) (add-one (length ns)) (subst (λ t. t + (length ns + 1) ≤ (length ns + 1) * bound) f b)

pub mean_below : (bound : ℕ) (ns : List ℕ) → 0 < bound → All (λ n. n < bound) ns → mean ns < bound
mean_below bound [] some all = some
mean_below bound (n ∷ ns) some all =
    mean_fits (sum (n ∷ ns)) (length (n ∷ ns)) bound (omega arith) (sum_below bound (n ∷ ns) (λ k l. All-get_or (λ m. m < bound) (n ∷ ns) k 0 l all))

-- ---- weights

entry_tested : (ns : List ℕ) (k : ℕ) → list_all (λ n. leb n 256) ns ≡ true → slice_index ns k ≤ 256
entry_tested ns k h = elim (cases_lt k (length ns)) [
  | inl l ↦ (let t : leb (get_or ns k 0) 256 ≡ true = All-get_or (λ n. leb n 256 ≡ true) ns k 0 l (AllPass-from_list_all (λ n. leb n 256) ns h)
      in grind (arith, nat_tests))
  | inr l ↦ subst (λ n. n ≤ 256) (sym (get_or_past ns k 0 l)) (lit≤ tt)
]

weights_tested : (n : ℕ) → list_all (λ w. leb w 256) (weights n) ≡ true
unfolding weights
weights_tested n =
    let tested = λ (n : ℕ). list_all (λ w. leb w 256) (weights n) ≡ true in
    elim (cases_eq n 4) [
      | inl e ↦ subst tested (sym e) refl
      | inr a ↦ elim (cases_eq n 8) [
        | inl e ↦ subst tested (sym e) refl
        | inr b ↦ elim (cases_eq n 16) [
          | inl e ↦ subst tested (sym e) refl
          | inr c ↦ elim (cases_eq n 32) [
            | inl e ↦ subst tested (sym e) refl
            | inr d ↦ elim (cases_eq n 64) [
              | inl e ↦ subst tested (sym e) refl
              | inr f ↦ (let p : eqb n 4 ≡ false = grind (arith, nat_tests) in
                  let q : eqb n 8 ≡ false = grind (arith, nat_tests) in
                  let r : eqb n 16 ≡ false = grind (arith, nat_tests) in
                  let s : eqb n 32 ≡ false = grind (arith, nat_tests) in
                  let t : eqb n 64 ≡ false = grind (arith, nat_tests) in
                  rw (p, q, r, s, t) refl)
            ]
          ]
        ]
      ]
    ]

pub weight_small : (n k : ℕ) → slice_index (weights n) k ≤ 256
weight_small n k = entry_tested (weights n) k (weights_tested n)

-- ---- the modes that mix both sides, and that of the nearest neighbour

module _ (bound : ℕ) (above left : Side) (up : (k : ℕ) → above k < bound) (beside : (k : ℕ) → left k < bound) (r c : ℕ) where
  down_below : (h : ℕ) → down h above left r c + 256 ≤ 256 * bound
  down_below h = mix_within _ (above c) (left (h - 1)) bound (weight_small h r) (up c) (beside (h - 1))

  across_below : (w : ℕ) → across w above left r c + 256 ≤ 256 * bound
  across_below w = mix_within _ (left r) (above (w - 1)) bound (weight_small w c) (beside r) (up (w - 1))

  pub smooth_below : (w h : ℕ) → smooth w h above left r c < bound
  smooth_below w h = omega (arith, down_below h, across_below w)

  pub smooth_v_below : (h : ℕ) → smooth_v h above left r c < bound
  smooth_v_below h = omega (arith, down_below h)

  pub smooth_h_below : (w : ℕ) → smooth_h w above left r c < bound
  smooth_h_below w = omega (arith, across_below w)

pub paeth_below : (above left corner bound : ℕ) → above < bound → left < bound → corner < bound → paeth above left corner < bound
unfolding paeth
paeth_below above left corner bound a b c = chosen_below _ left _ bound b (chosen_below _ above corner bound a c)

-- ---- along an angle

blend_within : (depth : ℕ) (E : Side) (e z : ℕ) → blend depth E e z < 2 ^ depth
blend_within depth E e z = clip_within depth (pos ((E e * (32 - z) + E (e + 1) * z + 16) / 32))

pub at_within : (depth : ℕ) (E : Side) (u n k : ℕ) → at depth E u n k < 2 ^ depth
unfolding at
at_within depth E u n k = blend_within depth E (entry u n k) (n * 2 ^ u / 2 % 32)

below_90_within : (depth : ℕ) (E : Side) (u s n j : ℕ) → below_90 depth E u s n j < 2 ^ depth
unfolding below_90
below_90_within depth E u s n j = chosen_below _ _ _ _ (at_within depth E u n j) (clip_within depth (pos (E (s * 2 ^ u))))

between_within : (depth : ℕ) (A : Side) (u : ℕ) (L : Side) (v dx dy i j : ℕ) → between depth A u L v dx dy i j < 2 ^ depth
unfolding between
between_within depth A u L v dx dy i j = chosen_below _ _ _ _ (at_within depth A u _ 0) (at_within depth L v _ 0)

pub directional_within : (b : DirectionalBlock) (corner : ℕ) (above left : List ℕ) (i j : ℕ) → directional b corner above left i j < 2 ^ b.bit_depth
unfolding directional
directional_within b corner above left i j =
    chosen_below (ltb b.p_angle 90) _ _ _ (below_90_within b.bit_depth _ _ _ _ j)
    (chosen_below (ltb b.p_angle 180) _ _ _ (between_within b.bit_depth _ _ _ _ _ _ i j) (at_within b.bit_depth _ _ _ i))

-- ---- chroma from luma

pub from_luma_within : (depth : ℕ) (alpha : ℤ) (n : ℕ) (d : ℤ) → n < 2 ^ depth → from_luma depth alpha n d < 2 ^ depth
unfolding from_luma
from_luma_within depth alpha n d h = chosen_below (int_eq alpha (pos 0)) n _ _ h (clip_within depth (pos n +ℤ scaled_luma alpha d))

-- ---- every mode

module _ (depth : ℕ) (e : Edge) (deep : 8 ≤ depth) (edge : EdgeIsWithin depth e) where
  above_within : (k : ℕ) → entries e.above k < 2 ^ depth
  above_within k = entry_below (2 ^ depth) e.above k (some_numbers depth) edge.above

  left_within : (k : ℕ) → entries e.left k < 2 ^ depth
  left_within k = entry_below (2 ^ depth) e.left k (some_numbers depth) edge.left

  pub dc_within : (v : PredictionVariant) (w h : ℕ) → dc v depth w h e < 2 ^ depth
  dc_within NONE w h = omega (arith, base_within depth deep)
  dc_within LEFT w h = mean_below (2 ^ depth) _ (some_numbers depth) (All-take (λ n. n < 2 ^ depth) h e.left edge.left)
  dc_within TOP w h = mean_below (2 ^ depth) _ (some_numbers depth) (All-take (λ n. n < 2 ^ depth) w e.above edge.above)
  dc_within BOTH w h =
      mean_below (2 ^ depth) _ (some_numbers depth)
      (All-append (λ n. n < 2 ^ depth) _ _ (All-take (λ n. n < 2 ^ depth) h e.left edge.left) (All-take (λ n. n < 2 ^ depth) w e.above edge.above))

along_within : (b : DirectionalBlock) (e : Edge) (r c : ℕ) → 8 ≤ b.bit_depth → EdgeIsWithin b.bit_depth e → along b e r c < 2 ^ b.bit_depth
along_within b e r c deep edge =
    chosen_below (eqb b.p_angle 90) _ _ _ (above_within b.bit_depth e deep edge c)
    (chosen_below (eqb b.p_angle 180) _ _ _ (left_within b.bit_depth e deep edge r) (directional_within b e.corner e.above e.left r c))

-- the sample at any row and column, whatever the block's sides, its angle and the luma
pub predicted_within : (b : DirectionalBlock) (v : PredictionVariant) (mode : PredictionMode) (alpha : ℤ) (ac : ℕ → ℕ → ℤ) (e : Edge) (r c : ℕ)
    → 8 ≤ b.bit_depth → EdgeIsWithin b.bit_depth e → predicted b v mode alpha ac e r c < 2 ^ b.bit_depth
unfolding predicted
predicted_within b v DC_PRED alpha ac e r c deep edge = dc_within b.bit_depth e deep edge v b.width b.height
predicted_within b v SMOOTH_PRED alpha ac e r c deep edge =
    smooth_below (2 ^ b.bit_depth) (entries e.above) (entries e.left) (above_within b.bit_depth e deep edge)
    (left_within b.bit_depth e deep edge) r c b.width b.height
predicted_within b v SMOOTH_V_PRED alpha ac e r c deep edge =
    smooth_v_below (2 ^ b.bit_depth) (entries e.above) (entries e.left) (above_within b.bit_depth e deep edge)
    (left_within b.bit_depth e deep edge) r c b.height
predicted_within b v SMOOTH_H_PRED alpha ac e r c deep edge =
    smooth_h_below (2 ^ b.bit_depth) (entries e.above) (entries e.left) (above_within b.bit_depth e deep edge) (left_within b.bit_depth e deep edge) r c b.width
predicted_within b v PAETH_PRED alpha ac e r c deep edge =
    paeth_below _ _ _ (2 ^ b.bit_depth) (above_within b.bit_depth e deep edge c) (left_within b.bit_depth e deep edge r) edge.corner
predicted_within b v UV_CFL_PRED alpha ac e r c deep edge =
    from_luma_within b.bit_depth alpha _ (ac r c) (dc_within b.bit_depth e deep edge v b.width b.height)
predicted_within b v mode alpha ac e r c deep edge =
    chosen_below (is_directional mode) (along b e r c) 0 (2 ^ b.bit_depth) (along_within b e r c deep edge) (some_numbers b.bit_depth)
