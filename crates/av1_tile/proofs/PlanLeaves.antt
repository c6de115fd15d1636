-- Leaves in memory, what is said of them, and what the record of cells tells of those before one.
use Rattle.std.proofs.Common.{ℕ, ◌+◌, ◌-◌, ◌/◌, ◌<◌, ◌≡◌, take, All, Bool, true, false, List, [], ◌∷◌, ◌++◌, length, get_or, refl, ap, arith, ◌∙◌, sym, subst}
use Rattle.std.proofs.Common.{if◌then◌else◌, slice_index_or, append_assoc, Option, Some, None}
use Rattle.std.specs.Prelude.{nat_lt, ◌||◌, IfSome}
use Rattle.std.specs.Option.{option_map, is_some}
use Rattle.std.specs.List.{flat_map, fold}
use Rattle.std.proofs.lemmas.Bool.{ltb-true, true≢false}
use Rattle.std.proofs.lemmas.List.{append-nil, get_or-map, get_or_default, length-map, take_more}
use Rattle.std.proofs.lemmas.List.Sums.{fold_push}
use Rattle.std.proofs.lemmas.Option.{same_Some}
use Rattle.std.proofs.lemmas.Grind.{fold-append}
use mathlib.Core.Path.{fun_ext}
use Rattle.av1_blocks.specs.Chroma.{is_low, is_narrow}
use Rattle.av1_frame.specs.declared.plane.PlaneConfig.{PlaneConfig}
use Rattle.av1_frame.specs.declared.tile_state.CodedBlockInfo.{CodedBlockInfo}
use Rattle.av1_intra.specs.declared.neighbours.IntraEdgeFilterParameters.{IntraEdgeFilterParameters}
use Rattle.av1_order.specs.Neighbours.{area_of, last_cell, leaf_holds, noted, NeighboursAreNoted}
use Rattle.av1_order.specs.Plans.{IsWholeFrame}
use Rattle.av1_order.specs.Turns.{IsCodedPlan}
use Rattle.av1_order.proofs.Cuts.{at_cut}
use Rattle.av1_order.proofs.Neighbours.{last_cells_lie_inside, leaves_find_neighbours}
use Rattle.av1_plan.specs.declared.geometry.PlaneArea.{PlaneArea}
use Rattle.av1_plan.specs.declared.header.Header.{Header}
use Rattle.av1_plan.specs.declared.leaf.Leaf.{Leaf}
use Rattle.av1_plan.specs.declared.leaf.Triple.{Triple}
use Rattle.av1_plan.specs.declared.leaves.Leaves.{Leaves}
use Rattle.av1_plan.specs.Values.{leaf_list, leaves_value, triple_list}
use Rattle.av1_plan.specs.Geometry.{carries_chroma, covers_plane, plane_area, plane_width, plane_height, xdec, ydec, coded_width, coded_height}
use Rattle.av1_plan.specs.Plan.{LeafValue, leaf_triples, leaf_value, leaf_values}
use Rattle.av1_tile.specs.declared.plane_block.Nearby.{Nearby}
use Rattle.av1_tile.specs.declared.shared_chroma.MotionParts.{MotionParts}
use Rattle.av1_tile.specs.declared.plane_block.PlaneBlock.{PlaneBlock}
use Rattle.av1_tile.specs.declared.planes.Planes.{Planes}
use Rattle.av1_tile.specs.Canvas.{Component, Y, U, V}
use Rattle.av1_tile.specs.PlaneBlocks.{number, coded_info, block_told, filter_parameters, near_at, neighbour_above, neighbour_left, plane_block, told_of}
use Rattle.av1_tile.specs.PlaneBlocks.{triples_in}
use Rattle.av1_tile.specs.declared.motion.Motion.{Motion}
use Rattle.av1_tile.specs.Motion.{motion_of}
use Rattle.av1_tile.specs.SharedChroma.{in_parts, motion_in, parts_at, parts_in}
use Rattle.av1_tile.specs.Steps.{PlaneStep, component_steps, steps_of, leaf_steps, steps_after, steps}
use Rattle.av1_tile.specs.Walk.{Known, MotionServes, Motions, MotionsServe, Told, at_start, told_by, parameters_by, parts_by, block_by, leaf_steps_by}
use Rattle.av1_tile.specs.Walk.{motions_of, near_by}
use Rattle.av1_tile.specs.Walk.{no_motions, steps_by, with_all_known, with_known, with_leaf, with_motion, Begins, BlockFits, LeafFits}
use Rattle.av1_tile.specs.Walk.{LumaFits, PartsServe, SameLayout, leaf_with}
use Rattle.av1_tile.proofs.UnitSteps.{covers, covers_is}

-- ---- leaves in memory

-- the triples of a leaf, looked up by its number
pub triples_at : (ls : List LeafValue) (i : ℕ) (l : LeafValue) (k : Component) → i < length ls → l ≡ get_or ls i l →
    leaf_triples ls i (number k) ≡ triples_in k l
triples_at ls i l k h e =
    ap (λ (xs : List (List Triple)). slice_index_or xs (number k) []) (get_or-map (λ (m : LeafValue). m.triples) ls i l [] h)
    ∙ ap (λ (m : LeafValue). triples_in k m) (sym e)

-- the leaf at a place, as it is said
leaf_at : (ts : List Triple) (ls : List Leaf) (i : ℕ) (l : Leaf) → i < length ls → l ≡ get_or ls i l →
    leaf_value ts l ≡ get_or (leaf_values ts ls) i (leaf_value ts l)
unfolding leaf_values
leaf_at ts ls i l h e = ap (leaf_value ts) e ∙ sym (get_or-map (leaf_value ts) ls i l (leaf_value ts l) h)

pub length_leaves : (ts : List Triple) (ls : List Leaf) → length (leaf_values ts ls) ≡ length ls
unfolding leaf_values
length_leaves ts ls = length-map ls (leaf_value ts)

-- leaf i and its triples, as they are said
pub record IsLeafAt (leaves : Leaves) (i : ℕ) (l : Leaf) (y u v : List Triple) : Type 0 where
  pub inside : i < length (leaves_value leaves)
  pub stored : i < length (leaf_list leaves)
  pub own : l ≡ get_or (leaf_list leaves) i l
  pub is : leaf_value (triple_list leaves) l ≡ get_or (leaves_value leaves) i (leaf_value (triple_list leaves) l)
  pub y_is : y ≡ triples_in Y (leaf_value (triple_list leaves) l)
  pub u_is : u ≡ triples_in U (leaf_value (triple_list leaves) l)
  pub v_is : v ≡ triples_in V (leaf_value (triple_list leaves) l)

pub is_leaf_at : (leaves : Leaves) (i : ℕ) (xs : List Leaf) (d : Leaf) (y u v : List Triple) → xs ≡ leaf_list leaves → i < length xs →
    y ≡ leaf_triples (leaves_value leaves) i 0 → u ≡ leaf_triples (leaves_value leaves) i 1 → v ≡ leaf_triples (leaves_value leaves) i 2 →
    IsLeafAt leaves i (get_or xs i d) y u v
is_leaf_at leaves i xs d y u v are inside y_is u_is v_is =
    let ts = triple_list leaves in
    let ls = leaf_list leaves in
    let l = get_or xs i d in
    let short : i < length ls = subst (λ (ys : List Leaf). i < length ys) are inside in
    let within : i < length (leaves_value leaves) = subst (λ (n : ℕ). i < n) (sym (length_leaves ts ls)) short in
    let own : l ≡ get_or ls i l = ap (λ (ys : List Leaf). get_or ys i d) are ∙ get_or_default ls i d l short in
    let is : leaf_value ts l ≡ get_or (leaves_value leaves) i (leaf_value ts l) = leaf_at ts ls i l short own in
    record {
      inside = within;
      stored = short;
      own = own;
      is = is;
      y_is = y_is ∙ triples_at (leaves_value leaves) i (leaf_value ts l) Y within is;
      u_is = u_is ∙ triples_at (leaves_value leaves) i (leaf_value ts l) U within is;
      v_is = v_is ∙ triples_at (leaves_value leaves) i (leaf_value ts l) V within is;
    }

with_same : (l : Leaf) (y u v a b c : List Triple) → y ≡ a → u ≡ b → v ≡ c → leaf_with l y u v ≡ leaf_with l a b c
with_same l y u v a b c e f g = ap (λ (t : List Triple). leaf_with l t u v) e ∙ ap (λ (t : List Triple). leaf_with l a t v) f
    ∙ ap (λ (t : List Triple). leaf_with l a b t) g

-- the leaf as it was read, and as it is said
pub read_is : (leaves : Leaves) (i : ℕ) (l : Leaf) (y u v : List Triple) → IsLeafAt leaves i l y u v → let w = leaf_value (triple_list leaves) l
    in leaf_with l y u v ≡ leaf_with l (triples_in Y w) (triples_in U w) (triples_in V w)
read_is leaves i l y u v a = with_same l y u v _ _ _ a.y_is a.u_is a.v_is

-- ---- a leaf's steps read no more of it

-- blocks that are the same in the planes that the leaf covers
abbrev pub SameBlocks : Header → LeafValue → (f g : Component → PlaneBlock) → Type 0
SameBlocks h leaf f g = (k : Component) → covers k (carries_chroma h leaf.x leaf.y leaf.size) ≡ true → f k ≡ g k

same_in : (h : Header) (a b : LeafValue) (f g : Component → PlaneBlock) (k : Component) → f k ≡ g k → triples_in k a ≡ triples_in k b →
    component_steps h f a k ≡ component_steps h g b k
same_in h a b f g k e t = rw (e, t) refl

-- two leaves at one place, of the same blocks and triples, have the same steps
pub same_steps : (h : Header) (a b : LeafValue) (f g : Component → PlaneBlock) → carries_chroma h a.x a.y a.size ≡ carries_chroma h b.x b.y b.size →
    SameBlocks h a f g → ((k : Component) → triples_in k a ≡ triples_in k b) → steps_of h f a ≡ steps_of h g b
unfolding steps_of
same_steps h a b f g carried blocks triples = go (carries_chroma h a.x a.y a.size) refl
    ∙ ap (λ (t : Bool). flat_map (component_steps h g b) (if t then Y ∷ U ∷ V ∷ [] else Y ∷ [])) carried
  where
    go : (t : Bool) → carries_chroma h a.x a.y a.size ≡ t →
        flat_map (component_steps h f a) (if t then Y ∷ U ∷ V ∷ [] else Y ∷ []) ≡ flat_map (component_steps h g b) (if t then Y ∷ U ∷ V ∷ [] else Y ∷ [])
    go true e =
        rw (same_in h a b f g Y (blocks Y refl) (triples Y), same_in h a b f g U (blocks U e) (triples U), same_in h a b f g V (blocks V e) (triples V)) refl
    go false e = rw (same_in h a b f g Y (blocks Y refl) (triples Y)) refl

-- ---- what cells tell

-- what is told of each cell of the frame is what the record of these leaves shows
abbrev pub TellsOf : Header → Told → List LeafValue → Type 0
TellsOf h told earlier = (cx cy : ℕ) → cx < coded_width h / 4 → cy < coded_height h / 4 → (l : LeafValue) → noted earlier cx cy ≡ Some l →
    told cx cy ≡ coded_info l.kind

tells_nothing : (h : Header) (told : Told) → TellsOf h told []
tells_nothing h told cx cy hx hy l e = cc

-- one more leaf
tells_more : (h : Header) (told : Told) (earlier : List LeafValue) (leaf : LeafValue) → TellsOf h told earlier →
    TellsOf h (with_leaf told leaf) (earlier ++ leaf ∷ [])
tells_more h told earlier leaf before cx cy hx hy l e =
    go (leaf_holds leaf cx cy) (sym (fold_push (λ (shown : Option LeafValue) (m : LeafValue). if leaf_holds m cx cy then Some m else shown) None earlier leaf)
    ∙ e)
  where
    go : (t : Bool) → (if t then Some leaf else noted earlier cx cy) ≡ Some l → (if t then coded_info leaf.kind else told cx cy) ≡ coded_info l.kind
    go true e = ap (λ (m : LeafValue). coded_info m.kind) (same_Some _ _ e)
    go false e = before cx cy hx hy l e

module _ (h : Header) (p : ℕ) (earlier : List LeafValue) (leaf : LeafValue) (later : List LeafValue) (is : IsCodedPlan h p (earlier ++ leaf ∷ later))
    (covered : covers_plane h leaf.x leaf.y leaf.size p ≡ true)
    (told : Told) (tells : TellsOf h told earlier) where
  near : NeighboursAreNoted h p earlier leaf
  near = leaves_find_neighbours h p earlier leaf later is covered

  -- what is told of a place that one of the leaves holds
  told_there : (x y : ℕ) → x < plane_width h p → y < plane_height h p → (o : Option LeafValue) → area_of h p earlier x y ≡ o → is_some o ≡ true →
      Some (told_by h told p x y) ≡ option_map (λ (l : LeafValue). coded_info l.kind) o
  told_there x y hx hy None e some = absurd (true≢false (sym some))
  told_there x y hx hy (Some l) e some =
      let (column, row) = last_cells_lie_inside h p is.frame x y hx hy in
      ap Some (tells (last_cell (xdec h p) x) (last_cell (ydec h p) y) column row l (near.shown x y hx hy ∙ e))

  module _ (begins_x : (plane_area h leaf.x leaf.y leaf.size leaf.tx_size p).x < plane_width h p)
      (begins_y : (plane_area h leaf.x leaf.y leaf.size leaf.tx_size p).y < plane_height h p) where
    abbrev own : PlaneArea
    own = plane_area h leaf.x leaf.y leaf.size leaf.tx_size p

    above_told : (if nat_lt 0 own.y then Some (told_by h told p own.x (own.y - 1)) else None) ≡ neighbour_above h p earlier own
    above_told = go (nat_lt 0 own.y) refl
      where
        go : (t : Bool) → nat_lt 0 own.y ≡ t →
            (if t then Some (told_by h told p own.x (own.y - 1)) else None) ≡ (if t then told_of h p earlier own.x (own.y - 1) else None)
        go true e =
            let some = ltb-true 0 own.y e in
            told_there own.x (own.y - 1) begins_x (omega (arith, begins_y)) (area_of h p earlier own.x (own.y - 1)) refl (near.above some)
        go false e = refl

    left_told : (if nat_lt 0 own.x then Some (told_by h told p (own.x - 1) own.y) else None) ≡ neighbour_left h p earlier own
    left_told = go (nat_lt 0 own.x) refl
      where
        go : (t : Bool) → nat_lt 0 own.x ≡ t →
            (if t then Some (told_by h told p (own.x - 1) own.y) else None) ≡ (if t then told_of h p earlier (own.x - 1) own.y else None)
        go true e =
            let some = ltb-true 0 own.x e in
            told_there (own.x - 1) own.y (omega (arith, begins_x)) begins_y (area_of h p earlier (own.x - 1) own.y) refl (near.beside some)
        go false e = refl

    -- what the edge filter is told by cells is what the leaves before say
    parameters_told : parameters_by h told p own ≡ filter_parameters h p (neighbour_above h p earlier own) (neighbour_left h p earlier own)
    parameters_told =
        ap (λ (o : Option CodedBlockInfo). filter_parameters h p o (if nat_lt 0 own.x then Some (told_by h told p (own.x - 1) own.y) else None)) above_told
        ∙ ap (λ (o : Option CodedBlockInfo). filter_parameters h p (neighbour_above h p earlier own) o) left_told

-- ---- leaves that share a block

-- of each cell the leaf that was noted last in it is known, where that is predicted from references
abbrev pub AreMotionsOf : Motions → List LeafValue → Type 0
AreMotionsOf motions earlier = (cx cy : ℕ) → motions cx cy ≡ motion_in (noted earlier cx cy)

-- one more leaf
motions_of_more : (motions : Motions) (earlier : List LeafValue) (leaf : LeafValue) → AreMotionsOf motions earlier →
    AreMotionsOf (with_motion motions leaf) (earlier ++ leaf ∷ [])
motions_of_more motions earlier leaf before cx cy =
    go (leaf_holds leaf cx cy)
    ∙ ap motion_in (sym (fold_push (λ (shown : Option LeafValue) (m : LeafValue). if leaf_holds m cx cy then Some m else shown) None earlier leaf))
  where
    go : (t : Bool) → (if t then motion_of leaf.kind else motions cx cy) ≡ motion_in (if t then Some leaf else noted earlier cx cy)
    go true = refl
    go false = before cx cy

-- what is known before a leaf is what the leaves before it say
pub record KnowsOf (h : Header) (known : Known) (earlier : List LeafValue) : Type 0 where
  pub told : TellsOf h known.told earlier
  pub motions : AreMotionsOf known.motions earlier

knows_nothing : (h : Header) (told : Told) → KnowsOf h (at_start told) []
knows_nothing h told = record { told = tells_nothing h told; motions = λ cx cy. refl }

knows_more : (h : Header) (known : Known) (earlier : List LeafValue) (leaf : LeafValue) → KnowsOf h known earlier →
    KnowsOf h (with_known known leaf) (earlier ++ leaf ∷ [])
knows_more h known earlier leaf is = record {
  told = tells_more h known.told earlier leaf is.told;
  motions = motions_of_more known.motions earlier leaf is.motions;
}

-- so a leaf's block has the parts that they give it
parts_known : (h : Header) (known : Known) (earlier : List LeafValue) (leaf : LeafValue) (p : ℕ) → KnowsOf h known earlier →
    parts_by h known.motions p leaf ≡ parts_in h earlier p leaf
parts_known h known earlier leaf p is =
    ap (λ (at : ℕ → ℕ →
    Option Motion). parts_at (is_narrow leaf.size (xdec h p)) (is_low leaf.size (ydec h p)) at (leaf.x / 4) (leaf.y / 4))
    (fun_ext (λ cx. fun_ext (λ cy. motions_of_more known.motions earlier leaf is.motions cx cy)))

-- two records that tell the same of each cell of the frame
abbrev pub TellSame : Header → (f g : Told) → Type 0
TellSame h f g = (cx cy : ℕ) → cx < coded_width h / 4 → cy < coded_height h / 4 → f cx cy ≡ g cx cy

-- two that are known alike
pub record KnowSame (h : Header) (f g : Known) : Type 0 where
  pub told : TellSame h f.told g.told
  pub motions : (cx cy : ℕ) → f.motions cx cy ≡ g.motions cx cy

-- say the same of a leaf's parts
parts_same : (h : Header) (f g : Known) (leaf : LeafValue) (p : ℕ) → KnowSame h f g → parts_by h f.motions p leaf ≡ parts_by h g.motions p leaf
parts_same h f g leaf p same =
    ap (λ (motions : Motions). parts_by h motions p leaf) (fun_ext (λ cx. fun_ext (λ cy. same.motions cx cy)))

-- a block by what is said of it
near_same : (h : Header) (k : Component) (leaf : LeafValue) (f g : Nearby) → f.filter ≡ g.filter → f.parts ≡ g.parts →
    block_told h f k leaf ≡ block_told h g k leaf
near_same h k leaf f g filter parts =
    ap (λ (o : Option IntraEdgeFilterParameters). block_told h (record { filter = o; parts = f.parts }) k leaf) filter
    ∙ ap (λ (o : Option MotionParts). block_told h (record { filter = g.filter; parts = o }) k leaf) parts

-- a leaf's steps by what is known are its steps behind the leaves before it
leaf_told : (h : Header) (earlier : List LeafValue) (leaf : LeafValue) (later : List LeafValue) (known : Known) →
    ((k : Component) → IsCodedPlan h (number k) (earlier ++ leaf ∷ later))
    → ((k : Component) → covers k (carries_chroma h leaf.x leaf.y leaf.size) ≡ true → Begins h k leaf) → KnowsOf h known earlier →
    leaf_steps_by h known leaf ≡ leaf_steps h earlier leaf
leaf_told h earlier leaf later known is begins knows =
    same_steps h leaf leaf (λ k. block_by h known k leaf) (λ k. plane_block h earlier k leaf) refl
    (λ k e. near_same h k leaf (near_by h known k leaf) (near_at h earlier k leaf)
    (parameters_told h (number k) earlier leaf later (is k) (covers_is h k leaf ∙ e) known.told knows.told (begins k e).column (begins k e).row)
    (parts_known h known earlier leaf (number k) knows))
    (λ k. refl)

-- so the steps of all leaves are the same, whatever was told at first
module _ (h : Header) (leaves : List LeafValue) (is : (k : Component) → IsCodedPlan h (number k) leaves)
    (begins : All (λ (l : LeafValue). (k : Component) → covers k (carries_chroma h l.x l.y l.size) ≡ true → Begins h k l) leaves) where
  rest_told : (earlier later : List LeafValue) (known : Known) → earlier ++ later ≡ leaves → KnowsOf h known earlier →
      steps_by h known later ≡ steps_after h earlier later
  rest_told earlier [] known cut knows = refl
  rest_told earlier (leaf ∷ later) known cut knows =
      let own = leaf_told h earlier leaf later known (λ k. subst (IsCodedPlan h (number k)) (sym cut) (is k))
      (at_cut (λ l. (k : Component) → covers k (carries_chroma h l.x l.y l.size) ≡ true →
      Begins h k l) earlier leaf later
      (subst (All (λ (l : LeafValue). (k : Component) → covers k (carries_chroma h l.x l.y l.size) ≡ true → Begins h k l)) (sym cut) begins)) knows in
      ap (λ (ss : List PlaneStep). ss ++ steps_by h (with_known known leaf) later) own
      ∙ ap (λ (ss : List PlaneStep). leaf_steps h earlier leaf ++ ss)
      (rest_told (earlier ++ leaf ∷ []) later (with_known known leaf) (append_assoc earlier (leaf ∷ []) later ∙ cut) (knows_more h known earlier leaf knows))

  pub steps_told : (told : Told) → steps_by h (at_start told) leaves ≡ steps h leaves
  steps_told told = rest_told [] leaves (at_start told) refl (knows_nothing h told)

-- ---- one more leaf of a loop

steps_by_more : (h : Header) (known : Known) (xs : List LeafValue) (l : LeafValue) →
    steps_by h known (xs ++ l ∷ []) ≡ steps_by h known xs ++ leaf_steps_by h (with_all_known known xs) l
steps_by_more h known [] l = append-nil (leaf_steps_by h known l)
steps_by_more h known (x ∷ xs) l =
    ap (λ (ss : List PlaneStep). leaf_steps_by h known x ++ ss) (steps_by_more h (with_known known x) xs l)
    ∙ sym (append_assoc (leaf_steps_by h known x) (steps_by h (with_known known x) xs) (leaf_steps_by h (with_all_known (with_known known x) xs) l))

told_same : (h : Header) (p x y : ℕ) (f g : Told) → IsWholeFrame h → TellSame h f g → x < plane_width h p → y < plane_height h p →
    told_by h f p x y ≡ told_by h g p x y
told_same h p x y f g frame same hx hy = let (column, row) = last_cells_lie_inside h p frame x y hx hy
    in same (last_cell (xdec h p) x) (last_cell (ydec h p) y) column row

parameters_same : (h : Header) (p : ℕ) (a : PlaneArea) (f g : Told) → IsWholeFrame h → TellSame h f g → a.x < plane_width h p → a.y < plane_height h p →
    parameters_by h f p a ≡ parameters_by h g p a
parameters_same h p a f g frame same hx hy =
    ap (λ (o : Option CodedBlockInfo). filter_parameters h p o (if nat_lt 0 a.x then Some (told_by h f p (a.x - 1) a.y) else None)) (above (nat_lt 0 a.y))
    ∙ ap (λ (o : Option CodedBlockInfo). filter_parameters h p (if nat_lt 0 a.y then Some (told_by h g p a.x (a.y - 1)) else None) o) (left (nat_lt 0 a.x))
  where
    above : (t : Bool) → (if t then Some (told_by h f p a.x (a.y - 1)) else None) ≡ (if t then Some (told_by h g p a.x (a.y - 1)) else None)
    above true = ap Some (told_same h p a.x (a.y - 1) f g frame same hx (omega (arith, hy)))
    above false = refl

    left : (t : Bool) → (if t then Some (told_by h f p (a.x - 1) a.y) else None) ≡ (if t then Some (told_by h g p (a.x - 1) a.y) else None)
    left true = ap Some (told_same h p (a.x - 1) a.y f g frame same (omega (arith, hx)) hy)
    left false = refl

-- a leaf's blocks don't look at its triples
same_block : (h : Header) (near : Nearby) (k : Component) (ts : List Triple) (l : Leaf) (y u v : List Triple) →
    block_told h near k (leaf_with l y u v) ≡ block_told h near k (leaf_value ts l)
same_block h said Y ts l y u v = refl
same_block h said U ts l y u v = refl
same_block h said V ts l y u v = refl

-- the steps of leaf i as it was read are those of the leaf as it is said
pub leaf_read : (leaves : Leaves) (h : Header) (i : ℕ) (l : Leaf) (y u v : List Triple) (f g : Known) → IsLeafAt leaves i l y u v → IsWholeFrame h
    → ((k : Component) → covers k (carries_chroma h l.x l.y l.size) ≡ true → Begins h k (leaf_value (triple_list leaves) l)) → KnowSame h f g
    → leaf_steps_by h f (leaf_with l y u v) ≡ leaf_steps_by h g (leaf_value (triple_list leaves) l)
leaf_read leaves h i l y u v f g a frame begins same =
    let w = leaf_value (triple_list leaves) l in
    same_steps h (leaf_with l y u v) w (λ k. block_by h f k (leaf_with l y u v)) (λ k. block_by h g k w) refl
    (λ k e. same_block h (near_by h f k (leaf_with l y u v)) k (triple_list leaves) l y u v
    ∙ near_same h k w (near_by h f k w) (near_by h g k w)
    (parameters_same h (number k) (plane_area h l.x l.y l.size l.tx_size (number k)) f.told g.told frame same.told (begins k e).column (begins k e).row)
    (parts_same h f g w (number k) same))
    own
  where
    own : (k : Component) → triples_in k (leaf_with l y u v) ≡ triples_in k (leaf_value (triple_list leaves) l)
    own Y = a.y_is
    own U = a.u_is
    own V = a.v_is

-- what is reconstructed with one more leaf
pub leaf_more : {S : Type 0} (step : S → PlaneStep → S) (leaves : Leaves) (h : Header) (i : ℕ) (w : LeafValue) (known : Known) (p q r : S) →
    i < length (leaves_value leaves) → w ≡ get_or (leaves_value leaves) i w
    → q ≡ fold step p (steps_by h known (take i (leaves_value leaves)))
    → r ≡ fold step q (leaf_steps_by h (with_all_known known (take i (leaves_value leaves))) w)
    → r ≡ fold step p (steps_by h known (take (i + 1) (leaves_value leaves)))
leaf_more step leaves h i w known p q r inside is before own =
    let xs = leaves_value leaves in
    let next : steps_by h known (take (i + 1) xs) ≡ steps_by h known (take i xs) ++ leaf_steps_by h (with_all_known known (take i xs)) w =
    ap (steps_by h known) (take_more xs i w inside ∙ ap (λ (m : LeafValue). take i xs ++ m ∷ []) (sym is)) ∙ steps_by_more h known (take i xs) w in
    own ∙ ap (λ (z : _). fold step z (leaf_steps_by h (with_all_known known (take i xs)) w)) before
    ∙ sym (fold-append step p (steps_by h known (take i xs)) (leaf_steps_by h (with_all_known known (take i xs)) w)) ∙ ap (fold step p) (sym next)

-- what is known once leaf i is
all_known_more : (leaves : Leaves) (i : ℕ) (w : LeafValue) (known : Known) → i < length (leaves_value leaves) → w ≡ get_or (leaves_value leaves) i w →
    with_all_known known (take (i + 1) (leaves_value leaves)) ≡ with_known (with_all_known known (take i (leaves_value leaves))) w
all_known_more leaves i w known inside is =
    let xs = leaves_value leaves in
    ap (λ (ms : List LeafValue). fold with_known known ms) (take_more xs i w inside ∙ ap (λ (m : LeafValue). take i xs ++ m ∷ []) (sym is))
    ∙ fold_push with_known known (take i xs) w

-- the leaves in memory up to one more
pub motions_more : (ls : List Leaf) (i : ℕ) (l : Leaf) → i < length ls → l ≡ get_or ls i l → (cx cy : ℕ) →
    motions_of (take (i + 1) ls) cx cy ≡ with_motion (motions_of (take i ls)) (leaf_with l [] [] []) cx cy
motions_more ls i l inside is cx cy =
    let note : Motions → Leaf → Motions = λ motions leaf. with_motion motions (leaf_with leaf [] [] []) in
    ap (λ (motions : Motions). motions cx cy) (ap (λ (ms : List Leaf). fold note no_motions ms)
    (take_more ls i l inside ∙ ap (λ (m : Leaf). take i ls ++ m ∷ []) (sym is))
    ∙ fold_push note no_motions (take i ls) l)

-- what is known once leaf i is noted
pub known_more : (leaves : Leaves) (h : Header) (i : ℕ) (l : Leaf) (known : Known) (old new : Told) → i < length (leaves_value leaves) →
    i < length (leaf_list leaves) → l ≡ get_or (leaf_list leaves) i l →
    leaf_value (triple_list leaves) l ≡ get_or (leaves_value leaves) i (leaf_value (triple_list leaves) l)
    → KnowSame h (record { told = old; motions = motions_of (take i (leaf_list leaves)) }) (with_all_known known (take i (leaves_value leaves)))
    → TellSame h new (with_leaf old (leaf_with l [] [] []))
    → KnowSame h (record { told = new; motions = motions_of (take (i + 1) (leaf_list leaves)) }) (with_all_known known (take (i + 1) (leaves_value leaves)))
known_more leaves h i l known old new inside stored own is before noted =
    let w = leaf_value (triple_list leaves) l in
    let was = with_all_known known (take i (leaves_value leaves)) in
    let next = all_known_more leaves i w known inside is in
    record {
      told = λ cx cy hx hy.
          noted cx cy hx hy ∙ ap (λ (z : CodedBlockInfo). if leaf_holds w cx cy then coded_info l.kind else z) (before.told cx cy hx hy)
          ∙ sym (ap (λ (k : Known). k.told cx cy) next);
      motions = λ cx cy.
          motions_more (leaf_list leaves) i l stored own cx cy
          ∙ ap (λ (z : Option Motion). if leaf_holds w cx cy then motion_of l.kind else z) (before.motions cx cy)
          ∙ sym (ap (λ (k : Known). k.motions cx cy) next);
    }

-- leaves that serve
pub no_motion_serves : (h : Header) → MotionsServe h no_motions
no_motion_serves h cx cy = tt

motion_serves : (h : Header) (motions : Motions) (leaf : LeafValue) → MotionsServe h motions → IfSome (motion_of leaf.kind) (MotionServes h) →
    MotionsServe h (with_motion motions leaf)
motion_serves h motions leaf before own cx cy = go (leaf_holds leaf cx cy)
  where
    go : (t : Bool) → IfSome (if t then motion_of leaf.kind else motions cx cy) (MotionServes h)
    go true = own
    go false = before cx cy

pub motions_serve : (h : Header) (ls : List Leaf) (i : ℕ) (l : Leaf) → i < length ls → l ≡ get_or ls i l → MotionsServe h (motions_of (take i ls)) →
    IfSome (motion_of l.kind) (MotionServes h) → MotionsServe h (motions_of (take (i + 1) ls))
motions_serve h ls i l inside is before own cx cy =
    subst (λ (o : Option Motion). IfSome o (MotionServes h)) (sym (motions_more ls i l inside is cx cy))
    (motion_serves h (motions_of (take i ls)) (leaf_with l [] [] []) before own cx cy)

-- the parts that these leaves and one more give its block do
four_serve : (h : Header) (narrow low : Bool) (corner over side own : Option Motion) → IfSome corner (MotionServes h) → IfSome over (MotionServes h) →
    IfSome side (MotionServes h) → IfSome own (MotionServes h) → IfSome (in_parts narrow low corner over side own) (PartsServe h)
four_serve h narrow low (Some i) (Some j) (Some k) (Some l) first second third last =
    record { corner = first; over = second; side = third; own = last }
four_serve h narrow low None j k l first second third last = tt
four_serve h narrow low (Some i) None k l first second third last = tt
four_serve h narrow low (Some i) (Some j) None l first second third last = tt
four_serve h narrow low (Some i) (Some j) (Some k) None first second third last = tt

shared_serve : (h : Header) (shared : Bool) (parts : Option MotionParts) → IfSome parts (PartsServe h) →
    IfSome (if shared then parts else None) (PartsServe h)
shared_serve h true parts serve = serve
shared_serve h false parts serve = tt

pub parts_serve : (h : Header) (motions : Motions) (p : ℕ) (leaf : LeafValue) → MotionsServe h motions → IfSome (motion_of leaf.kind) (MotionServes h) →
    IfSome (parts_by h motions p leaf) (PartsServe h)
parts_serve h motions p leaf before own =
    let narrow = is_narrow leaf.size (xdec h p) in
    let low = is_low leaf.size (ydec h p) in
    let at = with_motion motions leaf in
    let cx = leaf.x / 4 in
    let cy = leaf.y / 4 in
    let left = if narrow then cx - 1 else cx in
    let top = if low then cy - 1 else cy in
    let serve = motion_serves h motions leaf before own in
    shared_serve h (narrow || low) (in_parts narrow low (at left top) (at cx top) (at left cy) (at cx cy))
    (four_serve h narrow low (at left top) (at cx top) (at left cy) (at cx cy) (serve left top) (serve cx top) (serve left cy) (serve cx cy))

-- ---- a leaf that fits

-- a leaf that fits planes fits those laid out alike
fits_kept : {T : Type 0} (h : Header) (p q : Planes T) (l : LeafValue) → SameLayout p q → LeafFits h p l → LeafFits h q l
fits_kept h p q l same f = record {
  begins_y = f.begins_y;
  begins_u = f.begins_u;
  begins_v = f.begins_v;
  luma = λ carried from. subst (λ (c : PlaneConfig). LumaFits h c l) (sym same.y) (f.luma carried from);
  y = λ near serve. subst (λ (c : PlaneConfig). BlockFits c h (block_told h near Y l) (triples_in Y l)) (sym same.y) (f.y near serve);
  u = λ carried near serve. subst (λ (c : PlaneConfig). BlockFits c h (block_told h near U l) (triples_in U l)) (sym same.u) (f.u carried near serve);
  v = λ carried near serve. subst (λ (c : PlaneConfig). BlockFits c h (block_told h near V l) (triples_in V l)) (sym same.v) (f.v carried near serve);
  serves = f.serves;
}

-- with its triples in a list of three
fits_listed : {T : Type 0} (h : Header) (p : Planes T) (ts : List Triple) (l : Leaf) → LeafFits h p (leaf_value ts l) → let w = leaf_value ts l
    in LeafFits h p (leaf_with l (triples_in Y w) (triples_in U w) (triples_in V w))
fits_listed h p ts l f = record {
  begins_y = record { column = f.begins_y.column; row = f.begins_y.row };
  begins_u = λ carried. record { column = (f.begins_u carried).column; row = (f.begins_u carried).row };
  begins_v = λ carried. record { column = (f.begins_v carried).column; row = (f.begins_v carried).row };
  luma = λ carried from.
      let own = f.luma carried from in
      record {
        narrow = own.narrow;
        low = own.low;
        width = own.width;
        height = own.height;
        few = own.few;
        columns = own.columns;
        rows = own.rows;
        depth = own.depth;
      };
  y = f.y;
  u = f.u;
  v = f.v;
  serves = f.serves;
}

-- leaf i fits as it was read
pub turn_fits : {T : Type 0} (leaves : Leaves) (h : Header) (i : ℕ) (l : Leaf) (y u v : List Triple) (p q : Planes T) → IsLeafAt leaves i l y u v →
    SameLayout p q → All (LeafFits h p) (leaves_value leaves)
    → LeafFits h q (leaf_with l y u v)
turn_fits leaves h i l y u v p q a same fits =
    let ts = triple_list leaves in
    let w = leaf_value ts l in
    let own : LeafFits h q w = fits_kept h p q w same (subst (λ (m : LeafValue). LeafFits h p m) (sym a.is) (fits i w a.inside)) in
    subst (λ (m : LeafValue). LeafFits h q m) (sym (read_is leaves i l y u v a)) (fits_listed h q ts l own)

-- and begins in the planes that it covers
pub turn_begins : {T : Type 0} (leaves : Leaves) (h : Header) (i : ℕ) (l : Leaf) (y u v : List Triple) (p : Planes T) → IsLeafAt leaves i l y u v →
    All (LeafFits h p) (leaves_value leaves)
    → (k : Component) → covers k (carries_chroma h l.x l.y l.size) ≡ true → Begins h k (leaf_value (triple_list leaves) l)
turn_begins leaves h i l y u v p a fits k =
    let w = leaf_value (triple_list leaves) l in
    let own : LeafFits h p w = subst (λ (m : LeafValue). LeafFits h p m) (sym a.is) (fits i w a.inside) in
    go own k
  where
    go : LeafFits h p (leaf_value (triple_list leaves) l) → (c : Component) → covers c (carries_chroma h l.x l.y l.size) ≡ true →
        Begins h c (leaf_value (triple_list leaves) l)
    go own Y e = own.begins_y
    go own U e = own.begins_u e
    go own V e = own.begins_v e
