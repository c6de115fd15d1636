-- Which blocks of chroma no leaves share: those of valid leaves in the versions before the third.
use Rattle.std.proofs.Common.{ℕ, ◌/◌, ◌≤◌, ◌≡◌, ◌∙◌, ◌&&◌, ◌||◌, ◌==◌, Bool, true, false, not, List, [], ◌∷◌, ◌++◌, Option, Some, None, refl, ap}
use Rattle.std.proofs.Common.{arith, if◌then◌else◌}
use Rattle.std.proofs.lemmas.Bool.Decides.{nat_tests}
use Rattle.std.proofs.lemmas.List.Sums.{fold_push}
use Rattle.av1_avail.specs.Order.{is_in}
use Rattle.av1_blocks.specs.Blocks.{block_width, block_height}
use Rattle.av1_blocks.specs.Chroma.{is_low, is_narrow}
use Rattle.av1_order.specs.Neighbours.{leaf_holds, noted}
use Rattle.av1_order.specs.Plans.{is_inter}
use Rattle.av1_order.proofs.Sizes.{block_some}
use Rattle.av1_plan.specs.declared.header.Header.{Header}
use Rattle.av1_plan.specs.declared.leaf.LeafKind.{LeafKind}
use Rattle.av1_plan.specs.declared.leaf.LeafKind.TheVariants.{Intra, Single, Compound}
use Rattle.av1_plan.specs.Geometry.{xdec, ydec}
use Rattle.av1_plan.specs.Plan.{LeafValue}
use Rattle.av1_plan.proofs.ValidLeaves.{valid_leaf}
use Rattle.av1_plan.proofs.ValidModes.{HasValidModes, IsInterSize, valid_modes}
use Rattle.av1_tile.specs.declared.shared_chroma.MotionParts.{MotionParts}
use Rattle.av1_tile.specs.declared.motion.Motion.{Motion}
use Rattle.av1_tile.specs.Motion.{motion_of}
use Rattle.av1_tile.specs.PlaneBlocks.{number}
use Rattle.av1_tile.specs.SharedChroma.{in_parts, motion_in, parts_in}
use Rattle.av1_tile.specs.Versions.{EarlierShareNone}

-- ---- a leaf that isn't predicted from references

-- it holds its first cell
holds_first : (leaf : LeafValue) → leaf_holds leaf (leaf.x / 4) (leaf.y / 4) ≡ true
unfolding is_in
holds_first leaf = let (columns, rows) = block_some leaf.size in grind (arith, nat_tests)

-- and is noted there
noted_first : (earlier : List LeafValue) (leaf : LeafValue) → noted (earlier ++ leaf ∷ []) (leaf.x / 4) (leaf.y / 4) ≡ Some leaf
noted_first earlier leaf =
    fold_push (λ (shown : Option LeafValue) (m : LeafValue). if leaf_holds m (leaf.x / 4) (leaf.y / 4) then Some m else shown) None earlier leaf
    ∙ ap (λ (t : Bool). if t then Some leaf else noted earlier (leaf.x / 4) (leaf.y / 4)) (holds_first leaf)

-- but has no motion
no_motion : (kind : LeafKind) → is_inter kind ≡ false → motion_of kind ≡ None
no_motion (Intra mode step chroma) e = refl
no_motion (Single mode reference mv) e = absurd cc
no_motion (Compound mode references mvs) e = absurd cc

-- so that its block has no parts
without_own : (narrow low : Bool) (corner over side own : Option Motion) → own ≡ None → in_parts narrow low corner over side own ≡ None
without_own narrow low None over side own e = refl
without_own narrow low (Some i) None side own e = refl
without_own narrow low (Some i) (Some j) None own e = refl
without_own narrow low (Some i) (Some j) (Some k) own e = ap (in_parts narrow low (Some i) (Some j) (Some k)) e

none_when : (shared : Bool) (parts : Option MotionParts) → parts ≡ None → (if shared then parts else None) ≡ None
none_when true parts e = e
none_when false parts e = refl

pub intra_shares_none : (h : Header) (earlier : List LeafValue) (p : ℕ) (leaf : LeafValue) → is_inter leaf.kind ≡ false → parts_in h earlier p leaf ≡ None
intra_shares_none h earlier p leaf intra =
    let narrow = is_narrow leaf.size (xdec h p) in
    let low = is_low leaf.size (ydec h p) in
    let own : motion_in (noted (earlier ++ leaf ∷ []) (leaf.x / 4) (leaf.y / 4)) ≡ None =
    ap motion_in (noted_first earlier leaf) ∙ no_motion leaf.kind intra in
    none_when (narrow || low) _ (without_own narrow low _ _ _ _ own)

-- ---- a leaf without a side under 8

far_from_four : (halved : Bool) (n : ℕ) → 8 ≤ n → (halved && n == 4) ≡ false
far_from_four true n h = grind (arith, nat_tests)
far_from_four false n h = refl

pub large_shares_none : (h : Header) (earlier : List LeafValue) (p : ℕ) (leaf : LeafValue) → IsInterSize leaf.size → parts_in h earlier p leaf ≡ None
large_shares_none h earlier p leaf is =
    let narrow = far_from_four (not (xdec h p == 0)) (block_width leaf.size) is.width in
    let low = far_from_four (not (ydec h p == 0)) (block_height leaf.size) is.height in
    rw (narrow, low) refl

-- ---- both

pub earlier_share_none : EarlierShareNone
earlier_share_none h leaf few valid earlier k = go leaf.kind refl (valid_modes h leaf (valid_leaf h leaf valid))
  where
    go : (kind : LeafKind) → leaf.kind ≡ kind → HasValidModes h leaf.size kind → parts_in h earlier (number k) leaf ≡ None
    go (Intra mode step chroma) is modes = intra_shares_none h earlier (number k) leaf (ap is_inter is)
    go (Single mode reference mv) is modes = large_shares_none h earlier (number k) leaf (modes few)
    go (Compound mode references mvs) is modes = large_shares_none h earlier (number k) leaf (modes few)
