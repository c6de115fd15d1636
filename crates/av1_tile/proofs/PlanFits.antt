-- The leaves of a valid plan fit planes that have room for whole superblocks.
use Rattle.std.proofs.Common.{ℕ, zero, suc, ◌+◌, ◌-◌, ◌*◌, ◌/◌, ◌%◌, ◌^◌, ◌<◌, ◌≤◌, ◌≡◌, max, true, false, not, ◌||◌, nat_lt, Bool, get_or, length, List}
use Rattle.std.proofs.Common.{Option, Some, None, All, ℤ, refl, ap, arith, ◌∙◌, sym}
use Rattle.std.specs.Int.{next_multiple_of}
use Rattle.std.specs.Prelude.{◌==◌, unsigned_abs, IfSome}
use Rattle.std.specs.Option.{is_some, unwrap_or}
use Rattle.std.proofs.lemmas.Bool.{and_parts, eqb-true, false_from_ne_true, leb-true, ltb-true, true≢false}
use Rattle.av1_blocks.specs.Blocks.{block_width, block_height}
use Rattle.av1_blocks.specs.Modes.{is_compound, is_intra, mode_number}
use Rattle.av1_blocks.specs.Transforms.{tx_number, tx_type_number, valid_av1_transform}
use Rattle.av1_blocks.specs.declared.mc.MotionVector.{MotionVector}
use Rattle.av1_blocks.specs.declared.partition.BlockSize.{BlockSize}
use Rattle.av1_blocks.specs.declared.partition.RefType.{RefType}
use Rattle.av1_blocks.specs.declared.partition.RefType.TheVariants.{INTRA_FRAME}
use Rattle.av1_blocks.specs.declared.predict.PredictionMode.{PredictionMode}
use Rattle.av1_blocks.specs.declared.transform.TxSize.{TxSize}
use Rattle.av1_blocks.specs.declared.transform.TxSize.TheVariants.{TX_4X4}
use Rattle.av1_blocks.specs.declared.transform.TxType.{TxType}
use Rattle.av1_blocks.specs.declared.transform.TxType.TheVariants.{WHT_WHT, DCT_DCT}
use Rattle.av1_frame.specs.declared.plane.PlaneConfig.{PlaneConfig}
use Rattle.av1_inter.specs.Reference.{reference_of}
use Rattle.av1_tile.specs.declared.motion.Motion.{Motion}
use Rattle.av1_tile.specs.declared.plane_block.Nearby.{Nearby}
use Rattle.av1_tile.specs.declared.shared_chroma.MotionParts.{MotionParts}
use Rattle.av1_order.specs.Plans.{IsWholeFrame}
use Rattle.av1_order.proofs.Plans.{halved_x, halved_y}
use Rattle.av1_order.proofs.Sizes.{block_some}
use Rattle.av1_plan.specs.ReadPlans.{IsOtherFrame, IsReadFrame, IsReadLeaf, IsReadKind}
use Rattle.av1_plan.specs.CodingOrder.{IsOnGrid}
use Rattle.av1_plan.specs.Geometry.{xdec, ydec, plane_width, plane_height, plane_area, carries_chroma, plane_tx_size, is_inside, coded_width, coded_height}
use Rattle.av1_plan.specs.Grammar.{plan as grammar}
use Rattle.av1_plan.specs.Plan.{LeafValue, PlanValue}
use Rattle.av1_plan.specs.Spelling.{IsSpelled}
use Rattle.av1_plan.specs.Validity.{first_fault, is_transform}
use Rattle.av1_plan.proofs.ReadPlans.{kept_frame, kept_leaves}
use Rattle.av1_plan.proofs.ValidLeaves.{IsValidLeaf, HasFittingTransforms, valid_leaves, fitting_transforms, fitting_triples}
use Rattle.av1_plan.proofs.ValidModes.{valid_modes, valid_references, HasPlanes, HasValidModes, HasValidReferences}
use Rattle.av1_plan.specs.declared.geometry.PlaneArea.{PlaneArea}
use Rattle.av1_plan.specs.declared.header.Header.{Header}
use Rattle.av1_plan.specs.declared.leaf.ChromaMode.TheVariants.{Plain, Cfl}
use Rattle.av1_plan.specs.declared.leaf.LeafKind.{LeafKind}
use Rattle.av1_plan.specs.declared.leaf.LeafKind.TheVariants.{Intra, Single, Compound}
use Rattle.av1_tile.proofs.Served.{accepted}
use Rattle.av1_tile.specs.declared.planes.Planes.{Planes}
use Rattle.av1_tile.specs.Canvas.{Component, Y, U, V, is_same}
use Rattle.av1_tile.specs.Motion.{from_one, from_two, motion_of}
use Rattle.av1_tile.specs.PlaneBlocks.{number, type_in, block_told, prediction_in, shared, triples_in, is_from_luma}
use Rattle.av1_tile.specs.Walk.{HasRoom, HasRoomIn, Begins, BlockFits, FromLumaFits, MotionServes, LeafFits, NearServes, PartsServe, PredictionFits}
use Rattle.av1_tile.specs.Walk.{ReferenceFits}
use Rattle.av1_tile.proofs.CflSizes.{from_luma_fits, luma_fits}
use Rattle.av1_tile.proofs.UnitSteps.{covers, block_x, block_y, block_columns, block_rows, block_tx_size}
use Rattle.av1_tile.proofs.ValidTriples.{triples_fit, triples_rise}

-- ---- the frame

pub whole_frame : (h : Header) → IsReadFrame h → IsWholeFrame h
whole_frame h is = record { some = omega (arith, is.width.least); width = is.width.whole; height = is.height.whole }

-- a side of a plane
plane_side : (n s : ℕ) → s ≤ 1 → 8 ≤ n → n ≤ 2048 → (0 < n / 2 ^ s) × (n / 2 ^ s ≤ 65536)
plane_side n zero h low high = (omega arith, omega arith)
plane_side n (suc zero) h low high = (omega arith, omega arith)
plane_side n (suc (suc s)) h low high = absurd (omega arith)

low_ydec : (h : Header) (p : ℕ) → ydec h p ≤ 1
low_ydec h p = omega (arith, halved_x h p, halved_y h p)

pub across : (h : Header) (p : ℕ) → IsReadFrame h → (0 < plane_width h p) × (plane_width h p ≤ 65536)
unfolding plane_width
across h p is = plane_side (coded_width h) (xdec h p) (halved_x h p) is.width.least is.width.most

pub down : (h : Header) (p : ℕ) → IsReadFrame h → (0 < plane_height h p) × (plane_height h p ≤ 65536)
unfolding plane_height
down h p is = plane_side (coded_height h) (ydec h p) (low_ydec h p) is.height.least is.height.most

-- ---- places

-- A leaf that begins at cell b and has c cells ends in a superblock that begins in the frame, in a plane too.
ends_within : (s w b c : ℕ) → s ≤ 1 → w % 8 ≡ 0 → 0 < c → b + c ≤ 16 * ((w / 4 + 15) / 16) →
    4 * ((b - b % 2 ^ s) / 2 ^ s) + 4 * (max c (2 ^ s) / 2 ^ s) ≤ next_multiple_of (w / 2 ^ s) (64 / 2 ^ s)
ends_within zero w b c h whole some e = omega (arith, whole, some, e)
ends_within (suc zero) w b c h whole some e = omega (arith, whole, some, e)
ends_within (suc (suc s)) w b c h whole some e = absurd (omega arith)

ends_across : (h : Header) (p b c : ℕ) → IsReadFrame h → 0 < c → b + c ≤ 16 * ((coded_width h / 4 + 15) / 16) →
    4 * ((b - b % 2 ^ xdec h p) / 2 ^ xdec h p) + 4 * (max c (2 ^ xdec h p) / 2 ^ xdec h p) ≤ next_multiple_of (plane_width h p) (64 / 2 ^ xdec h p)
unfolding plane_width
ends_across h p b c is some e = ends_within (xdec h p) (coded_width h) b c (halved_x h p) is.width.whole some e

ends_down : (h : Header) (p b c : ℕ) → IsReadFrame h → 0 < c → b + c ≤ 16 * ((coded_height h / 4 + 15) / 16) →
    4 * ((b - b % 2 ^ ydec h p) / 2 ^ ydec h p) + 4 * (max c (2 ^ ydec h p) / 2 ^ ydec h p) ≤ next_multiple_of (plane_height h p) (64 / 2 ^ ydec h p)
unfolding plane_height
ends_down h p b c is some e = ends_within (ydec h p) (coded_height h) b c (low_ydec h p) is.height.whole some e

-- A leaf that begins in the frame does in a plane too.
begins_within : (s w b : ℕ) → s ≤ 1 → w % 8 ≡ 0 → b < w / 4 → 4 * ((b - b % 2 ^ s) / 2 ^ s) < w / 2 ^ s
begins_within zero w b h whole e = omega (arith, whole, e)
begins_within (suc zero) w b h whole e = omega (arith, whole, e)
begins_within (suc (suc s)) w b h whole e = absurd (omega arith)

begins_across : (h : Header) (p b : ℕ) → IsReadFrame h → b < coded_width h / 4 → 4 * ((b - b % 2 ^ xdec h p) / 2 ^ xdec h p) < plane_width h p
unfolding plane_width
begins_across h p b is e = begins_within (xdec h p) (coded_width h) b (halved_x h p) is.width.whole e

begins_down : (h : Header) (p b : ℕ) → IsReadFrame h → b < coded_height h / 4 → 4 * ((b - b % 2 ^ ydec h p) / 2 ^ ydec h p) < plane_height h p
unfolding plane_height
begins_down h p b is e = begins_within (ydec h p) (coded_height h) b (low_ydec h p) is.height.whole e

-- a leaf begins in the frame, and ends in a superblock that does
record StandsIn (h : Header) (leaf : LeafValue) : Type 0 where
  column : leaf.x / 4 < coded_width h / 4
  row : leaf.y / 4 < coded_height h / 4
  end_x : leaf.x / 4 + block_width leaf.size / 4 ≤ 16 * ((coded_width h / 4 + 15) / 16)
  end_y : leaf.y / 4 + block_height leaf.size / 4 ≤ 16 * ((coded_height h / 4 + 15) / 16)

inside : (h : Header) (x y : ℕ) → is_inside h x y ≡ true → (x < coded_width h) × (y < coded_height h)
unfolding is_inside
inside h x y e = let (column, row) = and_parts (nat_lt x (coded_width h)) (nat_lt y (coded_height h)) e
    in (ltb-true x (coded_width h) column, ltb-true y (coded_height h) row)

stands_in : (h : Header) (leaf : LeafValue) → IsReadFrame h → IsOnGrid h leaf → StandsIn h leaf
stands_in h leaf frame grid =
    let (column, row) = inside h leaf.x leaf.y grid.within in
    record {
      column = omega (arith, column, frame.width.whole);
      row = omega (arith, row, frame.height.whole);
      end_x = omega (arith, column, grid.end_x, frame.width.whole);
      end_y = omega (arith, row, grid.end_y, frame.height.whole);
    }

-- ---- transforms

-- both chroma planes have transforms of one size
chroma_size : (h : Header) (size : BlockSize) (tx_size : TxSize) → plane_tx_size h size tx_size 2 ≡ plane_tx_size h size tx_size 1
unfolding plane_tx_size xdec ydec
chroma_size h size tx_size = refl

chroma_type : (h : Header) (leaf : LeafValue) (o : Option TxType) → leaf.uv_type ≡ o → is_some o ≡ true → HasFittingTransforms h leaf →
    is_transform (plane_tx_size h leaf.size leaf.tx_size 1) (unwrap_or o DCT_DCT) ≡ true
chroma_type h leaf None e some fit = absurd (true≢false (sym some))
chroma_type h leaf (Some t) e some fit = fit.chroma t e

-- the type of a leaf's transforms in each plane that it covers is one that their size has
type_fits : (h : Header) (k : Component) (leaf : LeafValue) → IsReadLeaf h leaf → covers k (carries_chroma h leaf.x leaf.y leaf.size) ≡ true →
    HasFittingTransforms h leaf → is_transform (plane_tx_size h leaf.size leaf.tx_size (number k)) (type_in k leaf) ≡ true
unfolding plane_tx_size
type_fits h Y leaf read carried fit = fit.luma
type_fits h U leaf read carried fit = chroma_type h leaf leaf.uv_type refl (read.uv_type ∙ carried) fit
type_fits h V leaf read carried fit = ap (λ (t : TxSize). is_transform t (type_in V leaf)) (chroma_size h leaf.size leaf.tx_size)
    ∙ chroma_type h leaf leaf.uv_type refl (read.uv_type ∙ carried) fit

smallest : (t : TxSize) → tx_number t ≡ 0 → t ≡ TX_4X4
smallest TX_4X4 e = refl
smallest _ e = absurd cc

-- a type is valid at its size, and the lossless one is for 4x4 alone
transform_valid : (t : TxSize) (type : TxType) → is_transform t type ≡ true → (valid_av1_transform t type ≡ true) × (type ≡ WHT_WHT → t ≡ TX_4X4)
unfolding is_transform
transform_valid t type e =
    let (valid, small) = and_parts (valid_av1_transform t type) (not (tx_type_number type == tx_type_number WHT_WHT) || tx_number t == tx_number TX_4X4) e in
    (valid, λ is. smallest t (eqb-true (tx_number t) 0 (rw is at small)))

-- ---- modes

-- a mode that takes two references is not intra
compound_inter : (mode : PredictionMode) → is_compound mode ≡ true → is_intra mode ≡ false
compound_inter mode e =
    false_from_ne_true (is_intra mode) (λ intra. let high = leb-true 20 (mode_number mode) e in let low = ltb-true (mode_number mode) 14 intra
    in absurd (omega (arith, high, low)))

-- an area of plane p whose sides are those of motion
record HasMotionSides (h : Header) (p : ℕ) (area : PlaneArea) : Type 0 where
  wide : block_width area.size ≤ 64 / 2 ^ xdec h p
  high : block_height area.size ≤ 64 / 2 ^ ydec h p

reference_fits : (h : Header) (reference : RefType) → IsOtherFrame reference → HasPlanes h reference → ReferenceFits h reference
reference_fits h reference other has = record { other = other; has = accepted h reference has }

-- the motion of a leaf from references can be predicted
single_serves : (h : Header) (carried : Bool) (mode : PredictionMode) (reference : RefType) (mv : MotionVector) →
    IsReadKind carried (Single mode reference mv) → HasValidReferences h (Single mode reference mv) → MotionServes h (from_one mode reference mv)
single_serves h carried mode reference mv read has =
    record { mode = read.inter; first = reference_fits h reference read.reference_read has; second = λ e. absurd cc }

compound_serves : (h : Header) (carried : Bool) (mode : PredictionMode) (references : List RefType) (mvs : List MotionVector) →
    IsReadKind carried (Compound mode references mvs) → HasValidReferences h (Compound mode references mvs) → MotionServes h (from_two mode references mvs)
compound_serves h carried mode references mvs read has =
    let first : 0 < length references = omega (arith, read.two_references) in
    let second : 1 < length references = omega (arith, read.two_references) in
    record {
      mode = compound_inter mode read.compound;
      first = reference_fits h (reference_of references 0) (read.references_read 0 INTRA_FRAME first) (has 0 INTRA_FRAME first);
      second = λ _. reference_fits h (reference_of references 1) (read.references_read 1 INTRA_FRAME second) (has 1 INTRA_FRAME second);
    }

kind_serves : (h : Header) (carried : Bool) (kind : LeafKind) → IsReadKind carried kind → HasValidReferences h kind →
    IfSome (motion_of kind) (MotionServes h)
kind_serves h carried (Intra mode step chroma) read has = tt
kind_serves h carried (Single mode reference mv) read has = single_serves h carried mode reference mv read has
kind_serves h carried (Compound mode references mvs) read has = compound_serves h carried mode references mvs read has

-- so can its block, in parts or not
shared_fits : (h : Header) (p : ℕ) (area : PlaneArea) (parts : Option MotionParts) (own : Motion) → IfSome parts (PartsServe h) →
    HasMotionSides h p area → MotionServes h own → PredictionFits h p area (shared parts own)
shared_fits h p area (Some parts) own serve sides serves = record { wide = sides.wide; high = sides.high; serve = serve }
shared_fits h p area None own serve sides serves = record { wide = sides.wide; high = sides.high; serves = serves }

-- a leaf whose chroma may be predicted from its luma, and which may be predicted from references
mode_fits : (h : Header) (near : Nearby) (k : Component) (area : PlaneArea) (carried : Bool) (size : BlockSize) (kind : LeafKind) →
    NearServes h near → IsReadKind carried kind → HasValidModes h size kind → HasValidReferences h kind → HasMotionSides h (number k) area
    → (is_same Y k ≡ false → is_from_luma kind ≡ true → (alpha : ℤ) → unsigned_abs alpha ≤ 16 → FromLumaFits area alpha) →
    PredictionFits h (number k) area (prediction_in near k kind)
mode_fits h near Y area carried size (Intra mode step chroma) serve read valid has sides luma =
    record { intra = read.intra; plain = valid.plain; few_steps = valid.step_valid.small }
mode_fits h near U area carried size (Intra mode step (Some (Plain uv_mode uv_step))) serve read valid has sides luma =
    record { intra = read.chroma_read.intra; plain = read.chroma_read.plain; few_steps = valid.chroma_valid.small }
mode_fits h near V area carried size (Intra mode step (Some (Plain uv_mode uv_step))) serve read valid has sides luma =
    record { intra = read.chroma_read.intra; plain = read.chroma_read.plain; few_steps = valid.chroma_valid.small }
mode_fits h near U area carried size (Intra mode step (Some (Cfl alpha_u alpha_v))) serve read valid has sides luma =
    luma refl refl alpha_u valid.chroma_valid.u
mode_fits h near V area carried size (Intra mode step (Some (Cfl alpha_u alpha_v))) serve read valid has sides luma =
    luma refl refl alpha_v valid.chroma_valid.v
mode_fits h near U area carried size (Intra mode step None) serve read valid has sides luma = record { intra = refl; plain = refl; few_steps = omega arith }
mode_fits h near V area carried size (Intra mode step None) serve read valid has sides luma = record { intra = refl; plain = refl; few_steps = omega arith }
mode_fits h near k area carried size (Single mode reference mv) serve read valid has sides luma =
    shared_fits h (number k) area near.parts (from_one mode reference mv) serve sides (single_serves h carried mode reference mv read has)
mode_fits h near k area carried size (Compound mode references mvs) serve read valid has sides luma =
    shared_fits h (number k) area near.parts (from_two mode references mvs) serve sides (compound_serves h carried mode references mvs read has)

-- ---- leaves

-- a leaf of a plan that was read and is valid
pub record IsSoundLeaf (h : Header) (leaf : LeafValue) : Type 0 where
  pub frame : IsReadFrame h
  pub read : IsReadLeaf h leaf
  pub valid : IsValidLeaf h leaf

-- nothing is said of its block
nothing_near : Nearby
nothing_near = record { filter = None; parts = None }

pub begins : (h : Header) (k : Component) (leaf : LeafValue) → IsSoundLeaf h leaf → Begins h k leaf
begins h k leaf is =
    let stands = stands_in h leaf is.frame is.read.grid in
    let frame = whole_frame h is.frame in
    let n = number k in
    let x = begins_across h n (leaf.x / 4) is.frame stands.column in
    let y = begins_down h n (leaf.y / 4) is.frame stands.row in
    record {
      column = omega (arith, x, block_x h nothing_near k leaf frame is.read.grid is.valid);
      row = omega (arith, y, block_y h nothing_near k leaf frame is.read.grid is.valid);
    }

weight_fits : (h : Header) (k : Component) (leaf : LeafValue) → IsSoundLeaf h leaf → is_same Y k ≡ false → is_from_luma leaf.kind ≡ true → (alpha : ℤ) →
    unsigned_abs alpha ≤ 16
    → FromLumaFits (plane_area h leaf.x leaf.y leaf.size leaf.tx_size (number k)) alpha
weight_fits h Y leaf is chroma from alpha low = absurd cc
weight_fits h U leaf is chroma from alpha low = from_luma_fits h leaf is.frame is.read.grid is.valid from 0 alpha low
weight_fits h V leaf is chroma from alpha low = from_luma_fits h leaf is.frame is.read.grid is.valid from 1 alpha low

-- a side of a leaf in a plane
side_within : (s w n : ℕ) → s ≤ 1 → w ≤ 64 → n ≡ 4 * (max (w / 4) (2 ^ s) / 2 ^ s) → n ≤ 64 / 2 ^ s
side_within zero w n h short e = omega (arith, short, e)
side_within (suc zero) w n h short e = omega (arith, short, e)
side_within (suc (suc s)) w n h short e = absurd (omega arith)

motion_sides : (h : Header) (k : Component) (leaf : LeafValue) → IsSoundLeaf h leaf →
    HasMotionSides h (number k) (plane_area h leaf.x leaf.y leaf.size leaf.tx_size (number k))
motion_sides h k leaf is =
    let frame = whole_frame h is.frame in
    let n = number k in
    record {
      wide = side_within (xdec h n) (block_width leaf.size) _ (halved_x h n) (omega (arith, is.read.grid.end_x))
          (block_columns h nothing_near k leaf frame is.read.grid is.valid);
      high = side_within (ydec h n) (block_height leaf.size) _ (low_ydec h n) (omega (arith, is.read.grid.end_y))
          (block_rows h nothing_near k leaf frame is.read.grid is.valid);
    }

block_fits : (h : Header) (k : Component) (cfg : PlaneConfig) (leaf : LeafValue) → covers k (carries_chroma h leaf.x leaf.y leaf.size) ≡ true →
    IsSoundLeaf h leaf → HasRoomIn h (number k) cfg
    → (near : Nearby) → NearServes h near → BlockFits cfg h (block_told h near k leaf) (triples_in k leaf)
block_fits h k cfg leaf covered is roomy near serve =
    let frame = whole_frame h is.frame in
    let stands = stands_in h leaf is.frame is.read.grid in
    let n = number k in
    let (some_columns, some_rows) = block_some leaf.size in
    let right = ends_across h n (leaf.x / 4) (block_width leaf.size / 4) is.frame some_columns stands.end_x in
    let low = ends_down h n (leaf.y / 4) (block_height leaf.size / 4) is.frame some_rows stands.end_y in
    let tx_size = block_tx_size h near k leaf frame is.read.grid is.valid in
    let (valid, lossless) =
    transform_valid (plane_tx_size h leaf.size leaf.tx_size n) (type_in k leaf) (type_fits h k leaf is.read covered (fitting_transforms h leaf is.valid)) in
    record {
      columns =
          omega (arith, roomy.columns, right, block_x h near k leaf frame is.read.grid is.valid, block_columns h near k leaf frame is.read.grid is.valid);
      rows = omega (arith, roomy.rows, low, block_y h near k leaf frame is.read.grid is.valid, block_rows h near k leaf frame is.read.grid is.valid);
      prediction =
          mode_fits h near k (plane_area h leaf.x leaf.y leaf.size leaf.tx_size n)
          (carries_chroma h leaf.x leaf.y leaf.size) leaf.size leaf.kind serve is.read.kind (valid_modes h leaf is.valid) (valid_references h leaf is.valid)
          (motion_sides h k leaf is) (weight_fits h k leaf is);
      transform = rw tx_size valid;
      lossless = λ e. tx_size ∙ lossless e;
      coefficients = triples_fit h near leaf k (fitting_triples h leaf is.valid) covered;
      rising = triples_rise h leaf k is.valid covered;
    }

pub leaf_fits : {T : Type 0} (h : Header) (planes : Planes T) (leaf : LeafValue) → IsSoundLeaf h leaf → HasRoom h planes → LeafFits h planes leaf
leaf_fits h planes leaf is roomy = record {
  begins_y = begins h Y leaf is;
  begins_u = λ carried. begins h U leaf is;
  begins_v = λ carried. begins h V leaf is;
  luma = λ carried from. luma_fits h leaf is.frame is.read.grid is.valid from planes.y.plane_cfg carried roomy.y;
  y = block_fits h Y planes.y.plane_cfg leaf refl is roomy.y;
  u = λ carried. block_fits h U planes.u.plane_cfg leaf carried is roomy.u;
  v = λ carried. block_fits h V planes.v.plane_cfg leaf carried is roomy.v;
  serves = kind_serves h (carries_chroma h leaf.x leaf.y leaf.size) leaf.kind is.read.kind (valid_references h leaf is.valid);
}

-- ---- plans

-- the leaves of a valid plan
pub sound_leaves : (plan : PlanValue) → ∥ IsSpelled grammar plan ∥₁ → first_fault plan ≡ None → All (IsSoundLeaf plan.header) plan.leaves
sound_leaves plan spelled valid k d within = record {
  frame = kept_frame plan spelled;
  read = kept_leaves plan spelled k d within;
  valid = valid_leaves plan valid k d within;
}

pub plan_fits : {T : Type 0} (plan : PlanValue) (planes : Planes T) → ∥ IsSpelled grammar plan ∥₁ → first_fault plan ≡ None → HasRoom plan.header planes →
    All (LeafFits plan.header planes) plan.leaves
plan_fits plan planes spelled valid roomy i d within = leaf_fits plan.header planes (get_or plan.leaves i d) (sound_leaves plan spelled valid i d within) roomy
