-- What a leaf's blocks are told of luma: nothing in Y, and in chroma that is predicted from it how far it is from its mean.
use Rattle.std.proofs.Common.{ℕ, ◌<◌, ◌≡◌, List, true, ℤ, Option, Some, None, refl, ap, arith, ◌∙◌, sym}
use Rattle.av1_blocks.specs.Transforms.{tx_width, tx_height}
use Rattle.av1_blocks.specs.declared.transform.TxSize.{TxSize}
use Rattle.av1_intra.specs.ChromaFromLuma.{ac_at, chroma_block, leaf_difference}
use Rattle.av1_plan.specs.declared.header.Header.{Header}
use Rattle.av1_plan.specs.declared.leaf.ChromaMode.TheVariants.{Plain, Cfl}
use Rattle.av1_plan.specs.declared.leaf.LeafKind.{LeafKind}
use Rattle.av1_plan.specs.declared.leaf.LeafKind.TheVariants.{Intra, Single, Compound}
use Rattle.av1_plan.specs.Geometry.{plane_area, plane_tx_size, xdec, ydec}
use Rattle.av1_plan.specs.Plan.{LeafValue}
use Rattle.av1_tile.specs.Motion.{from_one, from_two}
use Rattle.av1_tile.specs.declared.motion.Motion.{Motion}
use Rattle.av1_tile.specs.declared.plane_block.Nearby.{Nearby}
use Rattle.av1_tile.specs.declared.shared_chroma.MotionParts.{MotionParts}
use Rattle.av1_tile.specs.declared.plane_block.PlaneBlock.{PlaneBlock}
use Rattle.av1_tile.specs.Canvas.{Y, U, V}
use Rattle.av1_tile.specs.PlaneBlocks.{block_told, is_from_luma, prediction_in, shared}
use Rattle.av1_tile.specs.Reference.{luma_for, luma_of}
use Rattle.av1_tile.specs.Walk.{luma_block}
use Rattle.av1_tile.proofs.Lifts.{SameFor, SameLuma}

-- a block in parts isn't predicted from luma
shared_same : (parts : Option MotionParts) (own : Motion) (block : PlaneBlock) (f g : PlaneBlock → ℕ → ℕ → ℤ) → SameFor block (shared parts own) f g
shared_same (Some parts) own block f g = tt
shared_same None own block f g = tt

-- the luma of a leaf is predicted from the samples round it or from references
same_y : (near : Nearby) (kind : LeafKind) (block : PlaneBlock) (f g : PlaneBlock → ℕ → ℕ → ℤ) →
    SameFor block (prediction_in near Y kind) f g
same_y near (Intra mode step chroma) block f g = tt
same_y near (Single mode reference mv) block f g = shared_same near.parts (from_one mode reference mv) block f g
same_y near (Compound mode references mvs) block f g = shared_same near.parts (from_two mode references mvs) block f g

-- whatever its block is told, nothing hangs on it
pub plain_in_y : (h : Header) (l : LeafValue) (near : Nearby) (luma : ℕ → ℕ → ℕ) (w : ℕ) (ac : List ℤ) →
    SameLuma (block_told h near Y l) (λ _. ac_at w ac) (luma_for h luma Y)
plain_in_y h l near luma w ac = same_y near l.kind (block_told h near Y l) (λ _. ac_at w ac) (luma_for h luma Y)

-- two words on luma that are the same where chroma is predicted from it
abbrev SameWhere : LeafKind → PlaneBlock → (f g : PlaneBlock → ℕ → ℕ → ℤ) → Type 0
SameWhere kind block f g = is_from_luma kind ≡ true → (r c : ℕ) → r < tx_height block.area.tx_size → c < tx_width block.area.tx_size → f block r c ≡ g block r c

same_u : (near : Nearby) (kind : LeafKind) (block : PlaneBlock) (f g : PlaneBlock → ℕ → ℕ → ℤ) → SameWhere kind block f g →
    SameFor block (prediction_in near U kind) f g
same_u near (Intra mode step (Some (Cfl alpha_u alpha_v))) block f g same = same refl
same_u near (Intra mode step (Some (Plain chroma_mode chroma_step))) block f g same = tt
same_u near (Intra mode step None) block f g same = tt
same_u near (Single mode reference mv) block f g same = shared_same near.parts (from_one mode reference mv) block f g
same_u near (Compound mode references mvs) block f g same = shared_same near.parts (from_two mode references mvs) block f g

same_v : (near : Nearby) (kind : LeafKind) (block : PlaneBlock) (f g : PlaneBlock → ℕ → ℕ → ℤ) → SameWhere kind block f g →
    SameFor block (prediction_in near V kind) f g
same_v near (Intra mode step (Some (Cfl alpha_u alpha_v))) block f g same = same refl
same_v near (Intra mode step (Some (Plain chroma_mode chroma_step))) block f g same = tt
same_v near (Intra mode step None) block f g same = tt
same_v near (Single mode reference mv) block f g same = shared_same near.parts (from_one mode reference mv) block f g
same_v near (Compound mode references mvs) block f g same = shared_same near.parts (from_two mode references mvs) block f g

-- both planes of chroma are transformed alike
chroma_size : (h : Header) (l : LeafValue) → (plane_area h l.x l.y l.size l.tx_size 2).tx_size ≡ (plane_area h l.x l.y l.size l.tx_size 1).tx_size
unfolding plane_area plane_tx_size xdec ydec
chroma_size h l = refl

-- a list that holds how far luma is from its mean, of a leaf whose chroma is predicted from it
pub record HoldsLuma (h : Header) (luma : ℕ → ℕ → ℕ) (l : LeafValue) (ac : List ℤ) : Type 0 where
  pub width : (chroma_block (luma_of h (luma_block l))).width ≡ tx_width (plane_area h l.x l.y l.size l.tx_size 1).tx_size
  pub height : (chroma_block (luma_of h (luma_block l))).height ≡ tx_height (plane_area h l.x l.y l.size l.tx_size 1).tx_size
  pub value : (r c : ℕ) → r < (chroma_block (luma_of h (luma_block l))).height → c < (chroma_block (luma_of h (luma_block l))).width
      → ac_at (chroma_block (luma_of h (luma_block l))).width ac r c ≡ leaf_difference luma (luma_of h (luma_block l)) r c

module _ (h : Header) (luma : ℕ → ℕ → ℕ) (l : LeafValue) (ac : List ℤ) (holds : is_from_luma l.kind ≡ true → HoldsLuma h luma l ac) where
  held : (size : TxSize) → size ≡ (plane_area h l.x l.y l.size l.tx_size 1).tx_size → is_from_luma l.kind ≡ true → (r c : ℕ) → r < tx_height size →
      c < tx_width size
      → ac_at (tx_width size) ac r c ≡ leaf_difference luma (luma_of h (luma_block l)) r c
  held size is from r c hr hc =
      let all = holds from in
      let width : tx_width size ≡ (chroma_block (luma_of h (luma_block l))).width = ap tx_width is ∙ sym all.width in
      let height : tx_height size ≡ (chroma_block (luma_of h (luma_block l))).height = ap tx_height is ∙ sym all.height in
      ap (λ (w : ℕ). ac_at w ac r c) width ∙ all.value r c (omega (arith, hr, height)) (omega (arith, hc, width))

  -- what the blocks of chroma are told so is what the steps say
  pub luma_in_u : (near : Nearby) →
      SameLuma (block_told h near U l) (λ _. ac_at (tx_width (block_told h near U l).area.tx_size) ac) (luma_for h luma U)
  luma_in_u near =
      let block = block_told h near U l in
      same_u near l.kind block (λ _. ac_at (tx_width block.area.tx_size) ac) (luma_for h luma U) (λ from r c. held block.area.tx_size refl from r c)

  pub luma_in_v : (near : Nearby) →
      SameLuma (block_told h near V l) (λ _. ac_at (tx_width (block_told h near V l).area.tx_size) ac) (luma_for h luma V)
  luma_in_v near =
      let block = block_told h near V l in
      same_v near l.kind block (λ _. ac_at (tx_width block.area.tx_size) ac) (luma_for h luma V)
      (λ from r c. held block.area.tx_size (chroma_size h l) from r c)
