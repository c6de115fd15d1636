-- Steps of one plane, seen as steps over all three.
use Rattle.std.proofs.Common.{ℕ, zero, suc, arith, ◌<◌, ◌≡◌, Bool, true, false, ℤ, List, [], ◌∷◌, ◌++◌, refl, ap, ◌∙◌, sym, if◌then◌else◌, Option, Some, None}
use Rattle.std.specs.List.{fold, flat_map, range_with_len}
use Rattle.std.specs.Prelude.{⊤}
use Rattle.std.proofs.lemmas.Grind.{fold-append}
use Rattle.std.proofs.lemmas.List.{append-nil}
use Rattle.av1_blocks.specs.Transforms.{tx_width, tx_height}
use Rattle.av1_frame.specs.declared.plane.Plane.{Plane}
use Rattle.av1_frame.specs.Areas.{VisibleArea}
use Rattle.av1_frame.specs.Planes.{sample_at}
use Rattle.av1_frame.proofs.Planes.{painted_plane_same}
use Rattle.av1_intra.proofs.SameLuma.{predicted_luma}
use Rattle.av1_plan.specs.declared.geometry.TransformBlock.{TransformBlock}
use Rattle.av1_plan.specs.declared.header.Header.{Header}
use Rattle.av1_plan.specs.declared.leaf.Triple.{Triple}
use Rattle.av1_plan.specs.Geometry.{carries_chroma, block_count, transform_block}
use Rattle.av1_plan.specs.Plan.{LeafValue}
use Rattle.av1_tile.specs.Motion.{leaf_area}
use Rattle.av1_tile.specs.declared.plane_block.PlaneBlock.{PlaneBlock}
use Rattle.av1_tile.specs.declared.plane_block.Prediction.{Prediction}
use Rattle.av1_tile.specs.declared.plane_block.Prediction.TheVariants as predictions
use Rattle.av1_tile.specs.declared.planes.Planes.{Planes}
use Rattle.av1_tile.specs.Canvas.{Component, Y, U, V}
use Rattle.av1_tile.specs.PlaneBlocks.{number, component, components_of, is_whole, triples_in}
use Rattle.av1_tile.specs.Predicted.{Gathered, Keeping, gathered_in, keeping_in, keeping_step}
use Rattle.av1_tile.specs.Reference.{Scene, by_prediction, luma_for}
use Rattle.av1_tile.specs.Steps.{Step, PlaneStep, predict, add, joined, block_area, block_steps, steps_at, whole_steps, plane_steps, in_component}
use Rattle.av1_tile.specs.Steps.{component_steps, steps_of}
use Rattle.av1_tile.specs.Walk.{edges_after, fast_in, fast_step, placed_edge, plane_of, with_plane, SameLayout}

-- ---- steps that do alike

-- two ways to take steps that do alike at each step of a leaf's block
module _ {A : Type 0} (F G : A → Step → A) (block : PlaneBlock)
    (whole : is_whole block.prediction ≡ true → (q : A) → F q (predict block 0 (leaf_area block.area)) ≡ G q (predict block 0 (leaf_area block.area))) where
  whole_alike : (q : A) → fold F q (whole_steps block) ≡ fold G q (whole_steps block)
  whole_alike q = go (is_whole block.prediction) refl
    where
      go : (t : Bool) → is_whole block.prediction ≡ t →
          fold F q (if t then predict block 0 (leaf_area block.area) ∷ [] else []) ≡ fold G q (if t then predict block 0 (leaf_area block.area) ∷ [] else [])
      go true e = whole e q
      go false e = refl

  module _ (own : (n : ℕ) (b : TransformBlock) (q : A) → F q (predict block n (block_area block b)) ≡ G q (predict block n (block_area block b)))
      (adds : (triples : List Triple) (n : ℕ) (b : TransformBlock) (q : A) →
      F q (add block triples n (block_area block b)) ≡ G q (add block triples n (block_area block b))) where
    block_alike : (triples : List Triple) (n : ℕ) (o : Option TransformBlock) (q : A) →
        fold F q (block_steps block triples n o) ≡ fold G q (block_steps block triples n o)
    block_alike triples n None q = refl
    block_alike triples n (Some b) q = go (is_whole block.prediction)
      where
        a : VisibleArea
        a = block_area block b

        go : (t : Bool) → fold F q (if t then add block triples n a ∷ [] else predict block n a ∷ add block triples n a ∷ []) ≡
            fold G q (if t then add block triples n a ∷ [] else predict block n a ∷ add block triples n a ∷ [])
        go true = adds triples n b q
        go false = ap (λ (z : A). F z (add block triples n a)) (own n b q) ∙ adds triples n b (G q (predict block n a))

    pieces_alike : (h : Header) (triples : List Triple) (ns : List ℕ) (q : A) →
        fold F q (flat_map (steps_at h block triples) ns) ≡ fold G q (flat_map (steps_at h block triples) ns)
    unfolding steps_at
    pieces_alike h triples [] q = refl
    pieces_alike h triples (n ∷ ns) q =
        let s = steps_at h block triples in
        fold-append F q (s n) (flat_map s ns)
        ∙ ap (λ (z : A). fold F z (flat_map s ns)) (block_alike triples n (transform_block h block.plane block.area n) q)
        ∙ pieces_alike h triples ns (fold G q (s n)) ∙ sym (fold-append G q (s n) (flat_map s ns))

    steps_alike : (h : Header) (triples : List Triple) (q : A) → fold F q (plane_steps h block triples) ≡ fold G q (plane_steps h block triples)
    unfolding joined
    steps_alike h triples q =
        let w = whole_steps block in
        let j = flat_map (steps_at h block triples) (range_with_len 0 (block_count block.area)) in
        fold-append F q w j ∙ ap (λ (z : A). fold F z j) (whole_alike q) ∙ pieces_alike h triples (range_with_len 0 (block_count block.area)) (fold G q w)
        ∙ sym (fold-append G q w j)

-- ---- what luma says

-- two words on luma that are the same where a block is predicted from luma
abbrev pub SameFor : PlaneBlock → Prediction → (f g : PlaneBlock → ℕ → ℕ → ℤ) → Type 0
SameFor block (predictions.FromLuma alpha) f g = (r c : ℕ) → r < tx_height block.area.tx_size → c < tx_width block.area.tx_size → f block r c ≡ g block r c
SameFor block (predictions.Intra mode step filter) f g = ⊤
SameFor block (predictions.Inter motion) f g = ⊤
SameFor block (predictions.Parts parts) f g = ⊤

abbrev pub SameLuma : PlaneBlock → (f g : PlaneBlock → ℕ → ℕ → ℤ) → Type 0
SameLuma block f g = SameFor block block.prediction f g

module _ {T : Type 0} (num : T → ℕ) (pixel : ℕ → T) (plan : Scene) (p : ℕ) (f g : PlaneBlock → ℕ → ℕ → ℤ) (block : PlaneBlock) where
  -- a leaf that is predicted over its whole area doesn't look at luma
  whole_same : (of : Prediction) → is_whole of ≡ true → (a : VisibleArea) (q : Plane T) (r c : ℕ)
      → by_prediction plan p of a (placed_edge plan.header p block 0 a num q) (f block) r c ≡
      by_prediction plan p of a (placed_edge plan.header p block 0 a num q) (g block) r c
  unfolding by_prediction
  whole_same (predictions.Intra mode step filter) e a q r c = refl
  whole_same (predictions.FromLuma alpha) e a q r c = absurd cc
  whole_same (predictions.Inter motion) e a q r c = refl
  whole_same (predictions.Parts parts) e a q r c = refl

  whole_one : is_whole block.prediction ≡ true → (q : Plane T) →
      fast_in num pixel plan p f q (predict block 0 (leaf_area block.area)) ≡ fast_in num pixel plan p g q (predict block 0 (leaf_area block.area))
  unfolding fast_in
  whole_one e q = painted_plane_same q (leaf_area block.area) _ _ (λ r c v hr hc. ap pixel (whole_same block.prediction e (leaf_area block.area) q r c))

  pub whole_steps_same : (q : Plane T) → fold (fast_in num pixel plan p f) q (whole_steps block) ≡ fold (fast_in num pixel plan p g) q (whole_steps block)
  whole_steps_same q = whole_alike (fast_in num pixel plan p f) (fast_in num pixel plan p g) block whole_one q

module _ {T : Type 0} (num : T → ℕ) (pixel : ℕ → T) (plan : Scene) (p : ℕ) (f g : PlaneBlock → ℕ → ℕ → ℤ) (block : PlaneBlock)
    (same : SameLuma block f g) where
  -- a transform block is predicted alike
  by_luma : (of : Prediction) → SameFor block of f g → (n : ℕ) (b : TransformBlock) (q : Plane T) (r c : ℕ) → r < (block_area block b).height →
      c < (block_area block b).width
      → by_prediction plan p of (block_area block b) (placed_edge plan.header p block n (block_area block b) num q) (f block) r c ≡
      by_prediction plan p of (block_area block b) (placed_edge plan.header p block n (block_area block b) num q) (g block) r c
  unfolding by_prediction
  by_luma (predictions.Intra mode step filter) s n b q r c hr hc = refl
  by_luma (predictions.FromLuma alpha) s n b q r c hr hc = predicted_luma _ _ _ _ (f block) (g block) _ r c (s r c hr hc)
  by_luma (predictions.Inter motion) s n b q r c hr hc = refl
  by_luma (predictions.Parts parts) s n b q r c hr hc = refl

  one_same : (n : ℕ) (b : TransformBlock) (q : Plane T) →
      fast_in num pixel plan p f q (predict block n (block_area block b)) ≡ fast_in num pixel plan p g q (predict block n (block_area block b))
  unfolding fast_in
  one_same n b q = painted_plane_same q (block_area block b) _ _ (λ r c v hr hc. ap pixel (by_luma block.prediction same n b q r c hr hc))

  added_alike : (triples : List Triple) (n : ℕ) (b : TransformBlock) (q : Plane T) →
      fast_in num pixel plan p f q (add block triples n (block_area block b)) ≡ fast_in num pixel plan p g q (add block triples n (block_area block b))
  unfolding fast_in
  added_alike triples n b q = refl

  -- so a leaf's block is reconstructed alike, and what is kept beside it
  pub kept_same : (h : Header) (triples : List Triple) (s : Keeping (Plane T) T) →
      fold (keeping_in num pixel plan p f) s (plane_steps h block triples) ≡ fold (keeping_in num pixel plan p g) s (plane_steps h block triples)
  unfolding keeping_in
  kept_same h triples s =
      let after : (q : Keeping (Plane T) T) (step : Step) → Plane T → Keeping (Plane T) T = λ q step z. (z, gathered_in num pixel p z q.1 step) in
      steps_alike (keeping_in num pixel plan p f) (keeping_in num pixel plan p g) block
      (λ e q. ap (after q (predict block 0 (leaf_area block.area))) (whole_one num pixel plan p f g block e q.0))
      (λ n b q. ap (after q (predict block n (block_area block b))) (one_same n b q.0))
      (λ ts n b q. ap (after q (add block ts n (block_area block b))) (added_alike ts n b q.0)) h triples s

-- ---- planes

pub number_component : (p : ℕ) → p < 3 → number (component p) ≡ p
number_component zero h = refl
number_component (suc zero) h = refl
number_component (suc (suc zero)) h = refl
number_component (suc (suc (suc p))) h = absurd (omega arith)

module _ {T : Type 0} (num : T → ℕ) (pixel : ℕ → T) (plan : Scene) where
  -- the planes are those of the steps alone
  pub kept_walked : (s : Keeping (Planes T) T) (steps : List PlaneStep) →
      (fold (keeping_step num pixel plan) s steps).0 ≡ fold (fast_step num pixel plan) s.0 steps
  unfolding keeping_step
  kept_walked s [] = refl
  kept_walked s (step ∷ rest) = kept_walked (keeping_step num pixel plan s step) rest

  -- and the count of edges is theirs
  pub kept_counted : (s : Keeping (Planes T) T) (steps : List PlaneStep) →
      (fold (keeping_step num pixel plan) s steps).1.edges ≡ fold edges_after s.1.edges steps
  unfolding keeping_step
  kept_counted s [] = refl
  kept_counted s (step ∷ rest) = kept_counted (keeping_step num pixel plan s step) rest

  -- what is kept beside steps in plane k
  fold_keeping : (k : Component) (planes : Planes T) (kept : Gathered T) (steps : List Step) →
      let r = fold (keeping_in num pixel plan (number k) (luma_for plan.header (sample_at num planes.y) k)) (plane_of k planes, kept) steps in
      fold (keeping_step num pixel plan) (planes, kept) (in_component k steps) ≡ (with_plane k planes r.0, r.1)
  unfolding fast_step keeping_step keeping_in
  fold_keeping Y planes kept [] = refl
  fold_keeping U planes kept [] = refl
  fold_keeping V planes kept [] = refl
  fold_keeping Y planes kept (step ∷ rest) =
      let next = fast_in num pixel plan 0 (luma_for plan.header (sample_at num planes.y) Y) planes.y step in
      fold_keeping Y (with_plane Y planes next) (gathered_in num pixel 0 next kept step) rest
  fold_keeping U planes kept (step ∷ rest) =
      let next = fast_in num pixel plan 1 (luma_for plan.header (sample_at num planes.y) U) planes.u step in
      fold_keeping U (with_plane U planes next) (gathered_in num pixel 1 next kept step) rest
  fold_keeping V planes kept (step ∷ rest) =
      let next = fast_in num pixel plan 2 (luma_for plan.header (sample_at num planes.y) V) planes.v step in
      fold_keeping V (with_plane V planes next) (gathered_in num pixel 2 next kept step) rest

  -- a plane and what is kept, after the steps of a block in plane k
  abbrev pub kept_block : Component → (luma : ℕ → ℕ → ℕ) → PlaneBlock → List Triple → Keeping (Plane T) T → Keeping (Plane T) T
  kept_block k luma block triples s = fold (keeping_in num pixel plan (number k) (luma_for plan.header luma k)) s (plane_steps plan.header block triples)

  -- what is kept beside a leaf's steps in each plane is what is kept beside its steps in all
  pub leaf_kept : (p q : Planes T) (k0 k1 k2 k3 : Gathered T) (told : Component → PlaneBlock) (leaf : LeafValue) →
      carries_chroma plan.header leaf.x leaf.y leaf.size ≡ true
      → (q.y, k1) ≡ kept_block Y (sample_at num p.y) (told Y) (triples_in Y leaf) (p.y, k0)
      → (q.u, k2) ≡ kept_block U (sample_at num q.y) (told U) (triples_in U leaf) (p.u, k1)
      → (q.v, k3) ≡ kept_block V (sample_at num q.y) (told V) (triples_in V leaf) (p.v, k2)
      → (q, k3) ≡ fold (keeping_step num pixel plan) (p, k0) (steps_of plan.header told leaf)
  unfolding steps_of
  leaf_kept p q k0 k1 k2 k3 told leaf carried e i j =
      let h = plan.header in
      let s = keeping_step num pixel plan in
      let a = component_steps h told leaf Y in
      let b = component_steps h told leaf U in
      let c = component_steps h told leaf V in
      let y = kept_block Y (sample_at num p.y) (told Y) (triples_in Y leaf) (p.y, k0) in
      let u = kept_block U (sample_at num y.0) (told U) (triples_in U leaf) (p.u, y.1) in
      let v = kept_block V (sample_at num y.0) (told V) (triples_in V leaf) (p.v, u.1) in
      let list : flat_map (component_steps h told leaf) (components_of h leaf) ≡ a ++ (b ++ c) =
      ap (λ (t : Bool). flat_map (component_steps h told leaf) (if t then Y ∷ U ∷ V ∷ [] else Y ∷ [])) carried ∙ ap (λ xs. a ++ (b ++ xs)) (append-nil c) in
      let all : fold s (p, k0) (a ++ (b ++ c)) ≡ (with_plane V (with_plane U (with_plane Y p y.0) u.0) v.0, v.1) =
      fold-append s (p, k0) a (b ++ c) ∙ fold-append s (fold s (p, k0) a) b c
      ∙ ap (λ (r : Keeping (Planes T) T). fold s (fold s r b) c) (fold_keeping Y p k0 (plane_steps h (told Y) (triples_in Y leaf)))
      ∙ ap (λ (r : Keeping (Planes T) T). fold s r c) (fold_keeping U (with_plane Y p y.0) y.1 (plane_steps h (told U) (triples_in U leaf)))
      ∙ fold_keeping V (with_plane U (with_plane Y p y.0) u.0) u.1 (plane_steps h (told V) (triples_in V leaf)) in
      let eu : (q.u, k2) ≡ u = i ∙ ap (λ (z : Keeping (Plane T) T). kept_block U (sample_at num z.0) (told U) (triples_in U leaf) (p.u, z.1)) e in
      let ev : (q.v, k3) ≡ v = j ∙ ap (λ (z : Keeping (Plane T) T). kept_block V (sample_at num z.0) (told V) (triples_in V leaf) (p.v, k2)) e
      ∙ ap (λ (z : Keeping (Plane T) T). kept_block V (sample_at num y.0) (told V) (triples_in V leaf) (p.v, z.1)) eu in
      ap (λ (z : Keeping (Plane T) T). (with_plane Y q z.0, k3)) e ∙ ap (λ (z : Keeping (Plane T) T). (with_plane U (with_plane Y q y.0) z.0, k3)) eu
      ∙ ap (λ (z : Keeping (Plane T) T). (with_plane V (with_plane U (with_plane Y q y.0) u.0) z.0, z.1)) ev ∙ sym all ∙ ap (fold s (p, k0)) (sym list)

  -- the same where it carries no chroma
  pub luma_kept : (p q : Planes T) (k0 k1 : Gathered T) (told : Component → PlaneBlock) (leaf : LeafValue) →
      carries_chroma plan.header leaf.x leaf.y leaf.size ≡ false
      → (q.y, k1) ≡ kept_block Y (sample_at num p.y) (told Y) (triples_in Y leaf) (p.y, k0) → q.u ≡ p.u → q.v ≡ p.v
      → (q, k1) ≡ fold (keeping_step num pixel plan) (p, k0) (steps_of plan.header told leaf)
  unfolding steps_of
  luma_kept p q k0 k1 told leaf carried e i j =
      let h = plan.header in
      let s = keeping_step num pixel plan in
      let a = component_steps h told leaf Y in
      let y = kept_block Y (sample_at num p.y) (told Y) (triples_in Y leaf) (p.y, k0) in
      let list : flat_map (component_steps h told leaf) (components_of h leaf) ≡ a =
      ap (λ (t : Bool). flat_map (component_steps h told leaf) (if t then Y ∷ U ∷ V ∷ [] else Y ∷ [])) carried ∙ append-nil a in
      ap (λ (z : Keeping (Plane T) T). (with_plane Y q z.0, z.1)) e ∙ ap (λ (z : Plane T). (with_plane U (with_plane Y q y.0) z, y.1)) i
      ∙ ap (λ (z : Plane T). (with_plane V (with_plane U (with_plane Y q y.0) p.u) z, y.1)) j
      ∙ sym (fold_keeping Y p k0 (plane_steps h (told Y) (triples_in Y leaf))) ∙ ap (fold s (p, k0)) (sym list)

-- ---- layouts

pub layout_kept : {T : Type 0} (p q r : Planes T) → SameLayout p q → SameLayout q r → SameLayout p r
layout_kept p q r e f = record { y = f.y ∙ e.y; u = f.u ∙ e.u; v = f.v ∙ e.v }
