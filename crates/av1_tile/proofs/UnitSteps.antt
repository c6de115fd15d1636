-- The steps of a plane as the theory of coding order counts them: each prediction, in units of 4 by 4 samples.
use Rattle.std.proofs.Common.{ℕ, zero, suc, ◌+◌, ◌-◌, ◌*◌, ◌/◌, ◌%◌, ◌^◌, ◌<◌, ◌≤◌, ◌≡◌, max, Bool, true, false, if◌then◌else◌, List, [], ◌∷◌, ◌++◌, Option}
use Rattle.std.proofs.Common.{Some, None, refl, ap, arith, ◌∙◌, sym}
use Rattle.std.specs.List.{flat_map, filter_map, range_with_len, cons_option, AllByRecursion}
use Rattle.std.proofs.lemmas.Grind.{flat_map-append}
use Rattle.std.proofs.lemmas.List.{append-nil, map-append}
use Rattle.av1_blocks.specs.Blocks.{block_width, block_height}
use Rattle.av1_blocks.specs.Transforms.{tx_width, tx_height}
use Rattle.av1_blocks.specs.declared.partition.BlockSize.{BlockSize}
use Rattle.av1_blocks.specs.declared.partition.BlockSize.TheVariants.{BLOCK_4X4}
use Rattle.av1_frame.specs.Areas.{VisibleArea}
use Rattle.av1_order.specs.WholeAreas.{whole_step}
use Rattle.av1_order.specs.Plans.{IsWholeFrame, is_inter, coding_in, steps_in}
use Rattle.av1_order.specs.Steps as order
use Rattle.av1_order.specs.Steps.{Coding, widened}
use Rattle.av1_order.proofs.PlanBlocks.{units_in, numbered_in, column_of, row_of, begins, block_is, leaf_numbered, uncovered}
use Rattle.av1_order.proofs.Plans.{halved_x, halved_y, luma_x, luma_y, place_is, in_plane_block}
use Rattle.av1_order.proofs.WholeAreas.{inter_is_whole}
use Rattle.av1_order.specs.Turns.{leaves_steps}
use Rattle.av1_plan.proofs.ValidLeaves.{IsValidLeaf, valid_leaf}
use Rattle.av1_plan.specs.Validity.{fault_of}
use Rattle.av1_plan.specs.CodingOrder.{IsOnGrid, cells_of}
use Rattle.av1_plan.specs.Geometry.{xdec, ydec, carries_chroma, covers_plane, plane_size, plane_tx_size, plane_area, block_count, transform_block}
use Rattle.av1_plan.specs.Plan.{LeafValue}
use Rattle.av1_plan.specs.Tree.{Block}
use Rattle.av1_plan.specs.declared.geometry.TransformBlock.{TransformBlock}
use Rattle.av1_plan.specs.declared.header.Header.{Header}
use Rattle.av1_plan.specs.declared.leaf.Triple.{Triple}
use Rattle.av1_tile.specs.Motion.{from_one, from_two}
use Rattle.av1_tile.specs.declared.motion.Motion.{Motion}
use Rattle.av1_tile.specs.Motion.{leaf_area}
use Rattle.av1_tile.specs.declared.plane_block.PlaneBlock.{PlaneBlock}
use Rattle.av1_tile.specs.declared.plane_block.Nearby.{Nearby}
use Rattle.av1_tile.specs.declared.shared_chroma.MotionParts.{MotionParts}
use Rattle.av1_plan.specs.declared.leaf.ChromaMode.TheVariants.{Plain, Cfl}
use Rattle.av1_plan.specs.declared.leaf.LeafKind.{LeafKind}
use Rattle.av1_plan.specs.declared.leaf.LeafKind.TheVariants.{Intra, Single, Compound}
use Rattle.av1_tile.specs.Canvas.{Component, Y, U, V, is_same}
use Rattle.av1_tile.specs.PlaneBlocks.{number, block_told, plane_block, prediction_in, near_at, is_whole, shared, triples_in}
use Rattle.av1_tile.specs.Steps.{Step, predict, add, PlaneStep, joined, block_area, block_steps, steps_at, whole_steps, plane_steps, in_component}
use Rattle.av1_tile.specs.Steps.{component_steps, steps_of, leaf_steps, steps_after, steps}

-- the prediction of the rectangle a of a leaf's block, in units; sx and sy are 1 where the plane is halved
abbrev pub unit_step : (sx sy : ℕ) → PlaneBlock → VisibleArea → order.Step
unit_step sx sy block a = record {
  block = record {
    x = block.area.x / 4 * 2 ^ sx;
    y = block.area.y / 4 * 2 ^ sy;
    columns = block_width block.area.size / 4 * 2 ^ sx;
    rows = block_height block.area.size / 4 * 2 ^ sy;
  };
  right = (a.x - block.area.x) / 4;
  down = (a.y - block.area.y) / 4;
  columns = a.width / 4;
  rows = a.height / 4;
}

-- a step in plane j, where it is a prediction in plane k
abbrev pub unit_in : (sx sy : ℕ) → (k j : Component) → Step → List order.Step
unit_in sx sy k j (predict block n a) = if is_same k j then unit_step sx sy block a ∷ [] else []
unit_in sx sy k j (add block triples n a) = []

abbrev pub unit_of : (sx sy : ℕ) → Component → PlaneStep → List order.Step
unit_of sx sy k s = unit_in sx sy k s.component s.step

-- the predictions in plane k
abbrev pub units : (sx sy : ℕ) → Component → List PlaneStep → List order.Step
units sx sy k steps = flat_map (unit_of sx sy k) steps

pub same_component : (k : Component) → is_same k k ≡ true
same_component Y = refl
same_component U = refl
same_component V = refl

-- ---- blocks in units

abbrev unit_at : Block → (right down columns rows : ℕ) → order.Step
unit_at b r d w t = record { block = b; right = r; down = d; columns = w; rows = t }

step_same : (b b' : Block) (r r' d d' w w' t t' : ℕ) → b ≡ b' → r ≡ r' → d ≡ d' → w ≡ w' → t ≡ t' → unit_at b r d w t ≡ unit_at b' r' d' w' t'
step_same b b' r r' d d' w w' t t' hb hr hd hw ht = cc

abbrev cells_at : (x y columns rows : ℕ) → Block
cells_at x y w t = record { x = x; y = y; columns = w; rows = t }

block_same : (x x' y y' w w' t t' : ℕ) → x ≡ x' → y ≡ y' → w ≡ w' → t ≡ t' → cells_at x y w t ≡ cells_at x' y' w' t'
block_same x x' y y' w w' t t' hx hy hw ht = cc

-- a place that was rounded down to whole units, in cells
place_cells : (s z a : ℕ) → s ≤ 1 → a ≡ 4 * ((z - z % 2 ^ s) / 2 ^ s) → a / 4 * 2 ^ s ≡ z - z % 2 ^ s
place_cells zero z a h e = omega (arith, e)
place_cells (suc zero) z a h e = omega (arith, e)
place_cells (suc (suc s)) z a h e = absurd (omega arith)

widened_width : (size : BlockSize) (s : ℕ) → s ≤ 1 → max (block_width size / 4) (2 ^ s) / 2 ^ s * 2 ^ s ≡ max (block_width size / 4) (2 ^ s)
widened_width size zero h = omega arith
widened_width size (suc zero) h = halved size
  where
    halved : (size : BlockSize) → max (block_width size / 4) 2 / 2 * 2 ≡ max (block_width size / 4) 2
    halved BLOCK_4X4 = refl
    halved _ = refl
widened_width size (suc (suc s)) h = absurd (omega arith)

widened_height : (size : BlockSize) (s : ℕ) → s ≤ 1 → max (block_height size / 4) (2 ^ s) / 2 ^ s * 2 ^ s ≡ max (block_height size / 4) (2 ^ s)
widened_height size zero h = omega arith
widened_height size (suc zero) h = halved size
  where
    halved : (size : BlockSize) → max (block_height size / 4) 2 / 2 * 2 ≡ max (block_height size / 4) 2
    halved BLOCK_4X4 = refl
    halved _ = refl
widened_height size (suc (suc s)) h = absurd (omega arith)

side_cells : (m c n : ℕ) → m ≡ 4 * c → c * n ≡ m / 4 * n
side_cells m c n e = ap (λ z. z * n) (omega (arith, e))

from_place : (a u c : ℕ) → a ≡ 4 * u → (4 * (u + c) - a) / 4 ≡ c
from_place a u c e = omega (arith, e)

-- ---- the steps of a part

-- steps of one plane, one piece behind the other
pub units_joined : (sx sy : ℕ) (k : Component) (f : ℕ → List Step) (ns : List ℕ) →
    units sx sy k (in_component k (flat_map f ns)) ≡ flat_map (λ n. units sx sy k (in_component k (f n))) ns
units_joined sx sy k f [] = refl
units_joined sx sy k f (n ∷ ns) =
    ap (flat_map (unit_of sx sy k)) (map-append _ (f n) (flat_map f ns))
    ∙ flat_map-append (unit_of sx sy k) (in_component k (f n)) (in_component k (flat_map f ns))
    ∙ ap (λ l. units sx sy k (in_component k (f n)) ++ l) (units_joined sx sy k f ns)

-- the steps of a transform block that is predicted by itself, if there is one
units_block : (sx sy : ℕ) (k : Component) (block : PlaneBlock) (triples : List Triple) (n : ℕ) → is_whole block.prediction ≡ false →
    (t : Bool) (b : TransformBlock)
    → units sx sy k (in_component k (block_steps block triples n (if t then Some b else None))) ≡ (if t then unit_step sx sy block (block_area block b) ∷ []
    else [])
units_block sx sy k block triples n own true b = rw (own, same_component k) refl
units_block sx sy k block triples n own false b = refl

-- a block of a leaf that is predicted over its whole area has additions alone
units_added : (sx sy : ℕ) (k : Component) (block : PlaneBlock) (triples : List Triple) (n : ℕ) → is_whole block.prediction ≡ true → (o : Option TransformBlock)
    → units sx sy k (in_component k (block_steps block triples n o)) ≡ []
units_added sx sy k block triples n whole (Some b) = rw whole refl
units_added sx sy k block triples n whole None = refl

-- steps of another plane
pub other_units : (sx sy : ℕ) (k j : Component) → is_same k j ≡ false → (steps : List Step) → units sx sy k (in_component j steps) ≡ []
other_units sx sy k j e [] = refl
other_units sx sy k j e (predict block n a ∷ steps) = rw (e, other_units sx sy k j e steps) refl
other_units sx sy k j e (add block triples n a ∷ steps) = other_units sx sy k j e steps

-- one step or none
chosen : (t : Bool) (s : order.Step) → (if t then s ∷ [] else []) ≡ cons_option (if t then Some s else None) []
chosen true s = refl
chosen false s = refl

joined_option : {A : Type 0} (o : Option A) (xs : List A) → cons_option o [] ++ xs ≡ cons_option o xs
joined_option (Some x) xs = refl
joined_option None xs = refl

-- pieces of one item or none each
pub pieces_kept : {A : Type 0} (f : ℕ → List A) (g : ℕ → Option A) (a n : ℕ) → ((i : ℕ) → i < a + n → f i ≡ cons_option (g i) []) →
    flat_map f (range_with_len a n) ≡ filter_map g (range_with_len a n)
pieces_kept f g a zero same = refl
pieces_kept f g a (suc n) same =
    ap (λ l. l ++ flat_map f (range_with_len (a + 1) n)) (same a (omega arith))
    ∙ ap (λ l. cons_option (g a) [] ++ l) (pieces_kept f g (a + 1) n (λ i h. same i (omega arith)))
    ∙ joined_option (g a) (filter_map g (range_with_len (a + 1) n))

-- so is a block in parts as one that isn't
shared_whole : (parts : Option MotionParts) (own : Motion) → is_whole (shared parts own) ≡ true
shared_whole (Some parts) own = refl
shared_whole None own = refl

-- a leaf is predicted over its whole area where it is predicted from references
pub whole_is_inter : (near : Nearby) (k : Component) (kind : LeafKind) → is_whole (prediction_in near k kind) ≡ is_inter kind
whole_is_inter near Y (Intra mode step chroma) = refl
whole_is_inter near U (Intra mode step (Some (Plain uv_mode uv_step))) = refl
whole_is_inter near V (Intra mode step (Some (Plain uv_mode uv_step))) = refl
whole_is_inter near U (Intra mode step (Some (Cfl alpha_u alpha_v))) = refl
whole_is_inter near V (Intra mode step (Some (Cfl alpha_u alpha_v))) = refl
whole_is_inter near U (Intra mode step None) = refl
whole_is_inter near V (Intra mode step None) = refl
whole_is_inter near k (Single mode reference mv) = shared_whole near.parts (from_one mode reference mv)
whole_is_inter near k (Compound mode references mvs) = shared_whole near.parts (from_two mode references mvs)

-- a leaf's block in plane k of a frame
module _ (h : Header) (near : Nearby) (k : Component) (leaf : LeafValue) (frame : IsWholeFrame h) (grid : IsOnGrid h leaf)
    (valid : IsValidLeaf h leaf) where
  abbrev sx : ℕ
  sx = xdec h (number k)

  abbrev sy : ℕ
  sy = ydec h (number k)

  abbrev coding : Coding
  coding = coding_in h (number k) leaf

  abbrev block : PlaneBlock
  block = block_told h near k leaf

  halved_down : sy ≤ 1
  halved_down = omega (arith, halved_x h (number k), halved_y h (number k))

  pub block_x : block.area.x ≡ 4 * (units_in h (number k) leaf frame grid valid).x
  unfolding plane_area
  block_x = place_is (number k) leaf.x sx (halved_x h (number k)) (luma_x h (number k)) grid.cell_x

  pub block_y : block.area.y ≡ 4 * (units_in h (number k) leaf frame grid valid).y
  unfolding plane_area
  block_y = place_is (number k) leaf.y sy halved_down (luma_y h (number k)) grid.cell_y

  pub block_columns : block_width block.area.size ≡ 4 * (units_in h (number k) leaf frame grid valid).columns
  unfolding plane_area plane_size
  block_columns = (in_plane_block h leaf.size (number k) valid.size).width

  pub block_rows : block_height block.area.size ≡ 4 * (units_in h (number k) leaf frame grid valid).rows
  unfolding plane_area plane_size
  block_rows = (in_plane_block h leaf.size (number k) valid.size).height

  pub block_tx_size : block.area.tx_size ≡ plane_tx_size h leaf.size leaf.tx_size (number k)
  unfolding plane_area
  block_tx_size = refl

  -- a block that begins at a place in units
  unit_is : (i j : ℕ) →
      unit_step sx sy block
      (block_area block (record {
        x = 4 * ((units_in h (number k) leaf frame grid valid).x + i);
        y = 4 * ((units_in h (number k) leaf frame grid valid).y + j);
      })) ≡ unit_at (widened sx sy (cells_of leaf)) i j coding.columns coding.rows
  unit_is i j =
      let b = widened sx sy (cells_of leaf) in
      let columns : block_width block.area.size / 4 * 2 ^ sx ≡ b.columns = sym (side_cells _ _ (2 ^ sx) block_columns)
      ∙ widened_width leaf.size sx (halved_x h (number k)) in
      let rows : block_height block.area.size / 4 * 2 ^ sy ≡ b.rows = sym (side_cells _ _ (2 ^ sy) block_rows) ∙ widened_height leaf.size sy halved_down in
      step_same _ b _ i _ j _ coding.columns _ coding.rows
      (block_same _ b.x _ b.y _ b.columns _ b.rows (place_cells sx (leaf.x / 4) _ (halved_x h (number k)) block_x)
      (place_cells sy (leaf.y / 4) _ halved_down block_y) columns rows)
      (from_place _ _ i block_x) (from_place _ _ j block_y) (ap (λ t. tx_width t / 4) block_tx_size) (ap (λ t. tx_height t / 4) block_tx_size)

  -- all of its area at once
  pub whole_unit : unit_step sx sy block (leaf_area block.area) ≡ whole_step h (number k) leaf
  whole_unit =
      let b = widened sx sy (cells_of leaf) in
      let u = units_in h (number k) leaf frame grid valid in
      let columns : block_width block.area.size / 4 * 2 ^ sx ≡ b.columns = sym (side_cells _ _ (2 ^ sx) block_columns)
      ∙ widened_width leaf.size sx (halved_x h (number k)) in
      let rows : block_height block.area.size / 4 * 2 ^ sy ≡ b.rows = sym (side_cells _ _ (2 ^ sy) block_rows) ∙ widened_height leaf.size sy halved_down in
      step_same _ b _ 0 _ 0 _ u.columns _ u.rows
      (block_same _ b.x _ b.y _ b.columns _ b.rows (place_cells sx (leaf.x / 4) _ (halved_x h (number k)) block_x)
      (place_cells sy (leaf.y / 4) _ halved_down block_y) columns rows)
      (nothing block.area.x) (nothing block.area.y) (omega (arith, block_columns)) (omega (arith, block_rows))
    where
      nothing : (a : ℕ) → (a - a) / 4 ≡ 0
      nothing a = omega arith

  -- transform block n, where the leaf is predicted block by block
  pub number_units : (triples : List Triple) → is_inter leaf.kind ≡ false → (n : ℕ) → n < block_count block.area →
      units sx sy k (in_component k (steps_at h block triples n)) ≡ cons_option (numbered_in h (number k) leaf frame grid valid n) []
  unfolding steps_at
  number_units triples intra n lt =
      let x = column_of h (number k) leaf frame grid valid n * coding.columns in
      let y = row_of h (number k) leaf frame grid valid n * coding.rows in
      let u = units_in h (number k) leaf frame grid valid in
      let begins_there = begins h (number k) leaf frame grid valid n in
      ap (λ o. units sx sy k (in_component k (block_steps block triples n o))) (block_is h (number k) leaf frame grid valid n lt)
      ∙ units_block sx sy k block triples n (whole_is_inter near k leaf.kind ∙ intra) begins_there (record { x = 4 * (u.x + x); y = 4 * (u.y + y) })
      ∙ ap (λ s. if begins_there then s ∷ [] else []) (unit_is x y)
      ∙ chosen begins_there (unit_at (widened sx sy (cells_of leaf)) x y coding.columns coding.rows)

  -- and where it is predicted from references
  number_added : (triples : List Triple) → is_inter leaf.kind ≡ true → (n : ℕ) → units sx sy k (in_component k (steps_at h block triples n)) ≡ []
  unfolding steps_at
  number_added triples inter n = units_added sx sy k block triples n (whole_is_inter near k leaf.kind ∙ inter) (transform_block h block.plane block.area n)

  pub blocks_added : (triples : List Triple) → is_inter leaf.kind ≡ true → (n : ℕ) → units sx sy k (in_component k (joined n (steps_at h block triples))) ≡ []
  unfolding joined
  blocks_added triples inter n = units_joined sx sy k (steps_at h block triples) (range_with_len 0 n) ∙ none (range_with_len 0 n)
    where
      none : (ns : List ℕ) → flat_map (λ m. units sx sy k (in_component k (steps_at h block triples m))) ns ≡ []
      none [] = refl
      none (m ∷ ns) = ap (λ l. l ++ flat_map (λ m. units sx sy k (in_component k (steps_at h block triples m))) ns) (number_added triples inter m) ∙ none ns

  -- no prediction of the whole area comes before the blocks
  pub nothing_whole : is_inter leaf.kind ≡ false → whole_steps block ≡ []
  nothing_whole intra = ap (λ (b : Bool). if b then predict block 0 (leaf_area block.area) ∷ [] else []) (whole_is_inter near k leaf.kind ∙ intra)

  -- or it does
  pub whole_first : is_inter leaf.kind ≡ true → whole_steps block ≡ predict block 0 (leaf_area block.area) ∷ []
  whole_first inter = ap (λ (b : Bool). if b then predict block 0 (leaf_area block.area) ∷ [] else []) (whole_is_inter near k leaf.kind ∙ inter)

  intra_units : (triples : List Triple) → is_inter leaf.kind ≡ false → covers_plane h leaf.x leaf.y leaf.size (number k) ≡ true →
      units sx sy k (in_component k (plane_steps h block triples)) ≡ steps_in h (number k) leaf
  unfolding joined
  intra_units triples intra covered =
      ap (λ (w : List Step). units sx sy k (in_component k (w ++ joined (block_count block.area) (steps_at h block triples)))) (nothing_whole intra)
      ∙ units_joined sx sy k (steps_at h block triples) (range_with_len 0 (block_count block.area))
      ∙ pieces_kept (λ n. units sx sy k (in_component k (steps_at h block triples n)))
      (numbered_in h (number k) leaf frame grid valid) 0 (block_count block.area) (λ n lt. number_units triples intra n (omega arith))
      ∙ sym (leaf_numbered h (number k) leaf frame grid valid intra covered)

  inter_units : (triples : List Triple) → fault_of h leaf ≡ None → is_inter leaf.kind ≡ true → covers_plane h leaf.x leaf.y leaf.size (number k) ≡ true →
      units sx sy k (in_component k (plane_steps h block triples)) ≡ steps_in h (number k) leaf
  inter_units triples faultless inter covered =
      let own : units sx sy k (in_component k (predict block 0 (leaf_area block.area) ∷ [])) ≡ whole_step h (number k) leaf ∷ [] =
      rw (same_component k) (ap (λ (s : order.Step). s ∷ []) whole_unit) in
      ap (λ (w : List Step). units sx sy k (in_component k (w ++ joined (block_count block.area) (steps_at h block triples)))) (whole_first inter)
      ∙ flat_map-append (unit_of sx sy k) (in_component k (predict block 0 (leaf_area block.area) ∷ []))
      (in_component k (joined (block_count block.area) (steps_at h block triples)))
      ∙ ap (λ l. l ++ units sx sy k (in_component k (joined (block_count block.area) (steps_at h block triples)))) own
      ∙ ap (λ l. whole_step h (number k) leaf ∷ l) (blocks_added triples inter (block_count block.area))
      ∙ sym ((inter_is_whole h (number k) leaf grid faultless inter).0 covered).one

  -- its steps are those of the theory
  pub plane_units : (triples : List Triple) → fault_of h leaf ≡ None → covers_plane h leaf.x leaf.y leaf.size (number k) ≡ true →
      units sx sy k (in_component k (plane_steps h block triples)) ≡ steps_in h (number k) leaf
  plane_units triples faultless covered = go (is_inter leaf.kind) refl
    where
      go : (t : Bool) → is_inter leaf.kind ≡ t → units sx sy k (in_component k (plane_steps h block triples)) ≡ steps_in h (number k) leaf
      go true e = inter_units triples faultless e covered
      go false e = intra_units triples e covered

-- ---- the steps of leaves

-- a leaf covers a part of luma, and of chroma where it carries it
abbrev pub covers : Component → Bool → Bool
covers Y carried = true
covers U carried = carried
covers V carried = carried

module _ (h : Header) (sx sy : ℕ) (told : Component → PlaneBlock) (leaf : LeafValue) where
  abbrev component_units : (k j : Component) → List order.Step
  component_units k j = units sx sy k (component_steps h told leaf j)

  pub other_none : (k j : Component) → is_same k j ≡ false → component_units k j ≡ []
  other_none k j e = other_units sx sy k j e (plane_steps h (told j) (triples_in j leaf))

  three : (k : Component) → units sx sy k (flat_map (component_steps h told leaf) (Y ∷ U ∷ V ∷ [])) ≡ component_units k Y
      ++ (component_units k U ++ component_units k V)
  three k =
      let u = unit_of sx sy k in
      let a = component_steps h told leaf Y in
      let b = component_steps h told leaf U in
      let c = component_steps h told leaf V in
      flat_map-append u a (b ++ (c ++ [])) ∙ ap (λ l. flat_map u a ++ l) (flat_map-append u b (c ++ []) ∙ ap (λ l. flat_map u b ++ flat_map u l) (append-nil c))

  one : (k : Component) → units sx sy k (flat_map (component_steps h told leaf) (Y ∷ [])) ≡ component_units k Y
  one k = ap (units sx sy k) (append-nil (component_steps h told leaf Y))

  carried_units : (k : Component) (t : Bool) →
      units sx sy k (flat_map (component_steps h told leaf) (if t then Y ∷ U ∷ V ∷ [] else Y ∷ [])) ≡ (if covers k t then component_units k k else [])
  carried_units Y true = three Y ∙ ap (λ l. component_units Y Y ++ l) (ap (λ l. l ++ component_units Y V) (other_none Y U refl) ∙ other_none Y V refl)
      ∙ append-nil (component_units Y Y)
  carried_units Y false = one Y
  carried_units U true = three U ∙ ap (λ l. l ++ (component_units U U ++ component_units U V)) (other_none U Y refl)
      ∙ ap (λ l. component_units U U ++ l) (other_none U V refl) ∙ append-nil (component_units U U)
  carried_units U false = one U ∙ other_none U Y refl
  carried_units V true = three V ∙ ap (λ l. l ++ (component_units V U ++ component_units V V)) (other_none V Y refl)
      ∙ ap (λ l. l ++ component_units V V) (other_none V U refl)
  carried_units V false = one V ∙ other_none V Y refl

  -- a leaf's steps in plane k
  leaf_only : (k : Component) → units sx sy k (steps_of h told leaf) ≡ (if covers k (carries_chroma h leaf.x leaf.y leaf.size) then component_units k k else [])
  unfolding steps_of
  leaf_only k = carried_units k (carries_chroma h leaf.x leaf.y leaf.size)

pub covers_is : (h : Header) (k : Component) (leaf : LeafValue) →
    covers_plane h leaf.x leaf.y leaf.size (number k) ≡ covers k (carries_chroma h leaf.x leaf.y leaf.size)
unfolding covers_plane
covers_is h Y leaf = refl
covers_is h U leaf = refl
covers_is h V leaf = refl

-- a valid leaf of a frame
pub record IsCodedLeaf (h : Header) (leaf : LeafValue) : Type 0 where
  pub frame : IsWholeFrame h
  pub grid : IsOnGrid h leaf
  pub faultless : fault_of h leaf ≡ None

-- its steps in plane k are those of the theory
pub leaf_units : (h : Header) (earlier : List LeafValue) (k : Component) (leaf : LeafValue) → IsCodedLeaf h leaf →
    units (xdec h (number k)) (ydec h (number k)) k (leaf_steps h earlier leaf) ≡ steps_in h (number k) leaf
leaf_units h earlier k leaf is =
    leaf_only h (xdec h (number k)) (ydec h (number k)) (λ j. plane_block h earlier j leaf) leaf k
    ∙ go (covers k (carries_chroma h leaf.x leaf.y leaf.size)) (covers_is h k leaf)
  where
    valid : IsValidLeaf h leaf
    valid = valid_leaf h leaf is.faultless

    go : (t : Bool) → covers_plane h leaf.x leaf.y leaf.size (number k) ≡ t →
        (if t then component_units h (xdec h (number k)) (ydec h (number k)) (λ j. plane_block h earlier j leaf) leaf k k else []) ≡ steps_in h (number k) leaf
    go true e = plane_units h (near_at h earlier k leaf) k leaf is.frame is.grid valid (triples_in k leaf) is.faultless e
    go false e = sym (uncovered h (number k) leaf is.frame is.grid valid e)

-- and those of all leaves
pub plan_units : (h : Header) (k : Component) (earlier leaves : List LeafValue) → AllByRecursion (IsCodedLeaf h) leaves
    → units (xdec h (number k)) (ydec h (number k)) k (steps_after h earlier leaves) ≡ leaves_steps h (number k) leaves
plan_units h k earlier [] are = refl
plan_units h k earlier (leaf ∷ leaves) are =
    let u = unit_of (xdec h (number k)) (ydec h (number k)) k in
    flat_map-append u (leaf_steps h earlier leaf) (steps_after h (earlier ++ leaf ∷ []) leaves)
    ∙ ap (λ l. l ++ units (xdec h (number k)) (ydec h (number k)) k (steps_after h (earlier ++ leaf ∷ []) leaves)) (leaf_units h earlier k leaf are.0)
    ∙ ap (λ l. steps_in h (number k) leaf ++ l) (plan_units h k (earlier ++ leaf ∷ []) leaves are.1)
