-- No difference is listed exactly where the bytes are those of the plan's planes.
use Rattle.std.proofs.Common.{◌≡◌, ℕ, zero, suc, ◌+◌, ◌-◌, ◌<◌, ◌≤◌, min, inl, inr, Bool, true, false, ◌&&◌, ◌==◌, not, cond, List, [], ◌∷◌, ◌++◌, length}
use Rattle.std.proofs.Common.{get_or, Option, Some, None, refl, sym, ap, subst, ◌∙◌, arith}
use Rattle.std.specs.Prelude.{◌↔◌, find, count_by, if◌then◌else◌, nat_le, nat_lt}
use Rattle.std.specs.List.{flat_map, range_with_len}
use Rattle.std.specs.Option.{option_map}
use Rattle.std.proofs.Math.Logic.{∥∥₁_elim}
use native.Mathlib.Nat.{ℕ_set}
use Rattle.std.proofs.lemmas.Bool.{and_parts, cases_Bool, eqb-true, eq-eqb}
use Rattle.std.proofs.lemmas.Bool.Decides.{nat_tests}
use Rattle.std.proofs.lemmas.List.Folds.{flat_map-map}
use Rattle.std.proofs.lemmas.List.Sums.{sum_by-cons}
use Rattle.av1_blocks.specs.Blocks.{block_width, block_height}
use Rattle.av1_avail.specs.Order.{is_in}
use Rattle.av1_lists.specs.Lists.{by_index}
use Rattle.av1_lists.proofs.Lists.{get_or-by_index, length-by_index}
use Rattle.av1_order.specs.Neighbours.{in_area}
use Rattle.av1_order.proofs.Neighbours.{areas_tile}
use Rattle.av1_plan.specs.declared.header.Header.{Header}
use Rattle.av1_plan.specs.declared.geometry.PlaneArea.{PlaneArea}
use Rattle.av1_plan.specs.declared.plan.Plan.{Plan}
use Rattle.av1_plan.specs.Values.{plan_value}
use Rattle.av1_plan.specs.Geometry.{covers_plane, plane_area, plane_height, plane_width, shown_rows, shown_columns}
use Rattle.av1_plan.specs.Plan.{LeafValue, PlanValue}
use Rattle.av1_plan.specs.Validity.{first_fault}
use Rattle.av1_plan.proofs.ReadPlans.{kept_frame}
use Rattle.av1_plan.proofs.Shown.{columns_shown, rows_shown}
use Rattle.av1_recon.proofs.SamplesByBytes.{same_rows}
use Rattle.av1_streams.specs.Streams.{AreBytes}
use Rattle.av1_tile.specs.declared.extent.PlaneExtent.{PlaneExtent}
use Rattle.av1_tile.specs.Canvas.{Component, Y, U, V}
use Rattle.av1_tile.specs.Output.{by_rows, planes_of}
use Rattle.av1_tile.specs.Edge.{sample_of}
use Rattle.av1_tile.specs.PlaneBlocks.{component, shown_of, number}
use Rattle.av1_tile.specs.Reference.{slow_walk}
use Rattle.av1_tile.proofs.Pictures.{plan_coded}
use Rattle.av1_tile.proofs.Simulation.{visible_same}
use Rattle.av1_trace.specs.declared.entry.Difference.{Difference}
use Rattle.av1_trace.specs.Samples.{given, defined, planes_len}
use Rattle.av1_trace.specs.Differences.{difference_at, differences, entries, first_difference, is_other, leaf_differences, leaves_differences}
use Rattle.av1_trace.specs.Differences.{plane_differences, visible_places}
use Rattle.av1_trace.proofs.GivenSamples.{given_bytes}
use Rattle.av1_trace.proofs.Places.{first_or_later, none_passes, nothing_passes}

-- ---- areas

-- each visible place lies in one leaf's area
pub has_its_leaf : (plan : Plan) → first_fault (plan_value plan) ≡ None → (p x y : ℕ) → x < plane_width (plan_value plan).header p →
    y < plane_height (plan_value plan).header p
    → count_by (λ (l : LeafValue). in_area (plan_value plan).header p l x y) (plan_value plan).leaves ≡ 1
has_its_leaf plan valid p x y a b =
    ∥∥₁_elim plan.spelled (hlevel (ℕ_set)) (λ s. areas_tile (plan_value plan).header p (plan_value plan).leaves (plan_coded plan valid s p) x y a b)

-- ---- one leaf in a plane

-- the place is visible in the rectangle
pub record IsVisibleIn (h : Header) (p : ℕ) (a : PlaneArea) (x y : ℕ) : Type 0 where
  pub left : a.x ≤ x
  pub right : x < a.x + block_width a.size
  pub top : a.y ≤ y
  pub bottom : y < a.y + block_height a.size
  pub column : x < shown_columns h p
  pub row : y < shown_rows h p

-- samples agree at the visible places of a rectangle
abbrev Agree : PlanValue → List ℕ → (p : ℕ) → PlaneArea → Type 0
Agree plan bytes p a = (x y : ℕ) → IsVisibleIn plan.header p a x y → given plan.header bytes p x y ≡ defined plan p x y

differs : (m n : ℕ) → not (m == n) ≡ false → m ≡ n
differs m n e = elim (cases_Bool (m == n)) [
  | inl t ↦ eqb-true m n t
  | inr f ↦ let clash : true ≡ false = sym (ap not f) ∙ e in absurd cc
]

pub agrees : (m n : ℕ) → m ≡ n → not (m == n) ≡ false
agrees m n e = ap not (eq-eqb m n e)

-- a place of the visible part of a side, which begins at a and has w samples, of a plane that has so many
in_side : (a w whole z : ℕ) → z < a + (min (a + w) whole - a) → a ≤ z → (z < a + w) × (z < whole)
in_side a w whole z h l = (omega arith, omega arith)

of_side : (a w whole z : ℕ) → z < a + w → z < whole → a ≤ z → z < a + (min (a + w) whole - a)
of_side a w whole z h m l = omega arith

-- no entry for a rectangle where they agree
pub none_listed : (plan : PlanValue) (bytes : List ℕ) (n p : ℕ) (a : PlaneArea) → Agree plan bytes p a → first_difference plan bytes n p a ≡ None
unfolding first_difference visible_places
none_listed plan bytes n p a same =
    let h = plan.header in
    ap (option_map (difference_at plan bytes n p))
    (none_passes (is_other plan bytes p) a.x (min (a.x + block_width a.size) (shown_columns h p) - a.x) a.y
    (min (a.y + block_height a.size) (shown_rows h p) - a.y)
    (λ x y l r t b.
    let (right, column) = in_side a.x (block_width a.size) (shown_columns h p) x r l in
    let (bottom, row) = in_side a.y (block_height a.size) (shown_rows h p) y b t in
    agrees (given h bytes p x y) (defined plan p x y) (same x y (record { left = l; right = right; top = t; bottom = bottom; column = column; row = row }))))

unmapped : {A B : Type 0} (f : A → B) (o : Option A) → option_map f o ≡ None → o ≡ None
unmapped f None e = refl
unmapped f (Some x) e = absurd cc

-- and they agree where there is none
none_differs : (plan : PlanValue) (bytes : List ℕ) (n p : ℕ) (a : PlaneArea) → first_difference plan bytes n p a ≡ None → Agree plan bytes p a
unfolding first_difference visible_places
none_differs plan bytes n p a e x y v =
    let h = plan.header in
    let q = is_other plan bytes p in
    differs (given h bytes p x y) (defined plan p x y)
    (nothing_passes q a.x (min (a.x + block_width a.size) (shown_columns h p) - a.x) a.y (min (a.y + block_height a.size) (shown_rows h p) - a.y)
    (unmapped (difference_at plan bytes n p) (find q (visible_places h p a)) e) x y
    v.left (of_side a.x (block_width a.size) (shown_columns h p) x v.right v.column v.left) v.top
    (of_side a.y (block_height a.size) (shown_rows h p) y v.bottom v.row v.top))

-- samples agree at all visible places of a plane
abbrev AgreeIn : PlanValue → List ℕ → (p : ℕ) → Type 0
AgreeIn plan bytes p = (x y : ℕ) → x < shown_columns plan.header p → y < shown_rows plan.header p → given plan.header bytes p x y ≡ defined plan p x y

either_way : {A : Type 0} (b : Bool) (xs : List A) → xs ≡ [] → (if b then xs else []) ≡ []
either_way true xs e = e
either_way false xs e = refl

where_covered : {A : Type 0} (b : Bool) (xs : List A) → b ≡ true → (if b then xs else []) ≡ [] → xs ≡ []
where_covered true xs t e = e
where_covered false xs t e = absurd cc

no_entry : (o : Option Difference) → entries o ≡ [] → o ≡ None
no_entry None e = refl
no_entry (Some d) e = absurd cc

nothing_in_plane : (plan : PlanValue) (bytes : List ℕ) (n : ℕ) (l : LeafValue) (p : ℕ) → AgreeIn plan bytes p → plane_differences plan bytes n l p ≡ []
unfolding plane_differences
nothing_in_plane plan bytes n l p same =
    let a = plane_area plan.header l.x l.y l.size l.tx_size p in
    let none : first_difference plan bytes n p a ≡ None = none_listed plan bytes n p a (λ x y v. same x y v.column v.row) in
    either_way (covers_plane plan.header l.x l.y l.size p) (entries (first_difference plan bytes n p a)) (ap entries none)

-- a leaf without an entry in a plane agrees at the visible places of its area
agrees_in_area : (plan : PlanValue) (bytes : List ℕ) (n : ℕ) (l : LeafValue) (p : ℕ) → plane_differences plan bytes n l p ≡ [] → (x y : ℕ) →
    in_area plan.header p l x y ≡ true → x < shown_columns plan.header p → y < shown_rows plan.header p
    → given plan.header bytes p x y ≡ defined plan p x y
unfolding plane_differences is_in
agrees_in_area plan bytes n l p e x y inside c r =
    let h = plan.header in
    let a = plane_area h l.x l.y l.size l.tx_size p in
    let (covered, within) =
    and_parts (covers_plane h l.x l.y l.size p)
    (nat_le a.x x && nat_lt x (a.x + block_width a.size) && nat_le a.y y && nat_lt y (a.y + block_height a.size)) inside in
    let (three, bottom) = and_parts (nat_le a.x x && nat_lt x (a.x + block_width a.size) && nat_le a.y y) (nat_lt y (a.y + block_height a.size)) within in
    let (two, top) = and_parts (nat_le a.x x && nat_lt x (a.x + block_width a.size)) (nat_le a.y y) three in
    let (left, right) = and_parts (nat_le a.x x) (nat_lt x (a.x + block_width a.size)) two in
    let listed : entries (first_difference plan bytes n p a) ≡ [] =
    where_covered (covers_plane h l.x l.y l.size p) (entries (first_difference plan bytes n p a)) covered e in
    none_differs plan bytes n p a (no_entry (first_difference plan bytes n p a) listed) x y
    (record {
      left = grind (arith, nat_tests);
      right = grind (arith, nat_tests);
      top = grind (arith, nat_tests);
      bottom = grind (arith, nat_tests);
      column = c;
      row = r;
    })

-- ---- all leaves

nothing_of_leaves : (plan : PlanValue) (bytes : List ℕ) (n : ℕ) (leaves : List LeafValue) → AgreeIn plan bytes 0 → AgreeIn plan bytes 1 → AgreeIn plan bytes 2 →
    leaves_differences plan bytes n leaves ≡ []
nothing_of_leaves plan bytes n [] y u v = refl
nothing_of_leaves plan bytes n (l ∷ leaves) y u v =
    let a = nothing_in_plane plan bytes n l 0 y in
    let b = nothing_in_plane plan bytes n l 1 u in
    let c = nothing_in_plane plan bytes n l 2 v in
    let rest = leaves_differences plan bytes (n + 1) leaves in
    ap (λ d. d ++ plane_differences plan bytes n l 1 ++ plane_differences plan bytes n l 2 ++ rest) a
    ∙ ap (λ d. d ++ plane_differences plan bytes n l 2 ++ rest) b
    ∙ ap (λ d. d ++ rest) c ∙ nothing_of_leaves plan bytes (n + 1) leaves y u v

nothing_left : {A : Type 0} (xs ys : List A) → xs ++ ys ≡ [] → (xs ≡ []) × (ys ≡ [])
nothing_left [] ys e = (refl, e)
nothing_left (x ∷ xs) ys e = absurd cc

-- the entries of a leaf in plane p are among its own
in_its_planes : (plan : PlanValue) (bytes : List ℕ) (n : ℕ) (l : LeafValue) → leaf_differences plan bytes n l ≡ [] → (p : ℕ) → p < 3 →
    plane_differences plan bytes n l p ≡ []
in_its_planes plan bytes n l e zero h =
    (nothing_left (plane_differences plan bytes n l 0) (plane_differences plan bytes n l 1)
    (nothing_left (plane_differences plan bytes n l 0 ++ plane_differences plan bytes n l 1) (plane_differences plan bytes n l 2) e).0).0
in_its_planes plan bytes n l e (suc zero) h =
    (nothing_left (plane_differences plan bytes n l 0) (plane_differences plan bytes n l 1)
    (nothing_left (plane_differences plan bytes n l 0 ++ plane_differences plan bytes n l 1) (plane_differences plan bytes n l 2) e).0).1
in_its_planes plan bytes n l e (suc (suc zero)) h =
    (nothing_left (plane_differences plan bytes n l 0 ++ plane_differences plan bytes n l 1) (plane_differences plan bytes n l 2) e).1
in_its_planes plan bytes n l e (suc (suc (suc p))) h = absurd (omega arith)

abbrev one_if : Bool → ℕ
one_if b = cond b 1 0

others_hold : (q : LeafValue → Bool) (l : LeafValue) (leaves : List LeafValue) → q l ≡ false → 0 < count_by q (l ∷ leaves) → 0 < count_by q leaves
others_hold q l leaves outside some =
    let counted : count_by q (l ∷ leaves) ≡ one_if (q l) + count_by q leaves = sum_by-cons (λ m. one_if (q m)) l leaves in
    let own : one_if (q l) ≡ 0 = ap one_if outside in
    omega (arith, some, counted, own)

-- a visible place in one of the leaves' areas agrees where no leaf has an entry
agrees_at : (plan : PlanValue) (bytes : List ℕ) (n : ℕ) (leaves : List LeafValue) (p x y : ℕ) → leaves_differences plan bytes n leaves ≡ [] → p < 3 →
    x < shown_columns plan.header p → y < shown_rows plan.header p
    → 0 < count_by (λ (l : LeafValue). in_area plan.header p l x y) leaves → given plan.header bytes p x y ≡ defined plan p x y
agrees_at plan bytes n [] p x y e few c r some = absurd (omega (arith, some))
agrees_at plan bytes n (l ∷ leaves) p x y e few c r some =
    let (own, others) = nothing_left (leaf_differences plan bytes n l) (leaves_differences plan bytes (n + 1) leaves) e in
    elim (cases_Bool (in_area plan.header p l x y)) [
      | inl inside ↦ agrees_in_area plan bytes n l p (in_its_planes plan bytes n l own p few) x y inside c r
      | inr outside ↦ agrees_at plan bytes (n + 1) leaves p x y others few c r
          (others_hold (λ (m : LeafValue). in_area plan.header p m x y) l leaves outside some)
    ]

-- ---- bytes and samples

append_once : (xs ys p q : List ℕ) → length xs ≡ length ys → xs ++ p ≡ ys ++ q → (xs ≡ ys) × (p ≡ q)
append_once [] [] p q n e = (refl, e)
append_once [] (y ∷ ys) p q n e = absurd (omega (arith, n))
append_once (x ∷ xs) [] p q n e = absurd (omega (arith, n))
append_once (x ∷ xs) (y ∷ ys) p q n e =
    let head : x ≡ y = cc in
    let tail : xs ++ p ≡ ys ++ q = cc in
    let (same, rest) = append_once xs ys p q (omega (arith, n)) tail in
    (cc (head, same), rest)

rows_once : (w : ℕ) (f g : ℕ → ℕ → ℕ) (a h : ℕ) →
    flat_map (λ y. by_index w (λ x. f x y)) (range_with_len a h) ≡ flat_map (λ y. by_index w (λ x. g x y)) (range_with_len a h)
    → (y : ℕ) → a ≤ y → y < a + h → by_index w (λ x. f x y) ≡ by_index w (λ x. g x y)
rows_once w f g a zero e y l m = absurd (omega arith)
rows_once w f g a (suc h) e y l m =
    let same_length : length (by_index w (λ x. f x a)) ≡ length (by_index w (λ x. g x a)) = length-by_index w (λ x. f x a)
    ∙ sym (length-by_index w (λ x. g x a)) in
    let (here, rest) =
    append_once _ _ (flat_map (λ r. by_index w (λ x. f x r)) (range_with_len (a + 1) h))
    (flat_map (λ r. by_index w (λ x. g x r)) (range_with_len (a + 1) h)) same_length e in
    elim (first_or_later a y l) [
      | inl same ↦ subst (λ (z : ℕ). by_index w (λ x. f x z) ≡ by_index w (λ x. g x z)) same here
      | inr later ↦ rows_once w f g (a + 1) h rest y later (omega arith)
    ]

samples_once : (extent : PlaneExtent) (f g : ℕ → ℕ → ℕ) → by_rows extent f ≡ by_rows extent g → (x y : ℕ) → x < extent.width → y < extent.height → f x y ≡ g x y
samples_once extent f g e x y c r =
    let line : (ℕ → ℕ → ℕ) → ℕ → List ℕ = λ s z. by_index extent.width (λ v. s v z) in
    let rows = sym (flat_map-map (line f) (λ z. z) (range_with_len 0 extent.height)) ∙ e ∙ flat_map-map (line g) (λ z. z) (range_with_len 0 extent.height) in
    let row : line f y ≡ line g y = rows_once extent.width f g 0 extent.height rows y (omega arith) (omega arith) in
    sym (get_or-by_index extent.width (λ v. f v y) x 0 c) ∙ ap (λ l. get_or l x 0) row ∙ get_or-by_index extent.width (λ v. g v y) x 0 c

few_planes : (k : Component) → number k < 3
few_planes Y = omega arith
few_planes U = omega arith
few_planes V = omega arith

own_number : (k : Component) → component (number k) ≡ k
own_number Y = refl
own_number U = refl
own_number V = refl

pub same_exactly : (plan : Plan) (bytes : List ℕ) → first_fault (plan_value plan) ≡ None → length bytes ≡ planes_len (plan_value plan).header → AreBytes bytes
    → (differences (plan_value plan) bytes ≡ []) ↔ (bytes ≡ planes_of (plan_value plan))
unfolding planes_of differences
same_exactly plan bytes valid len all =
    let value = plan_value plan in
    let h = value.header in
    let spelled = given_bytes h bytes len all in
    let read = kept_frame value plan.spelled in
    let own : Component → ℕ → ℕ → ℕ = λ k x y. given h bytes (number k) x y in
    let right : Component → ℕ → ℕ → ℕ = λ k x y. sample_of (slow_walk value k x y) in (
      λ none. sym spelled ∙ visible_same h own right (λ k x y c r.
          agrees_at value bytes 0 value.leaves (number k) x y none (few_planes k) c r
          (omega (
            arith,
            has_its_leaf plan valid (number k) x y (omega (arith, c, (columns_shown h (number k) read.width read.shown_width).1))
                (omega (arith, r, (rows_shown h (number k) read.height read.shown_height).1)),
          ))
          ∙ ap (λ (j : Component). sample_of (slow_walk value j x y)) (own_number k)),
      λ same.
          let rows : (k : Component) → by_rows (shown_of h (number k)) (own k) ≡ by_rows (shown_of h (number k)) (right k) =
          same_rows h own right (spelled ∙ same) in
          nothing_of_leaves value bytes 0 value.leaves
          (λ x y c r. samples_once (shown_of h 0) (own Y) (right Y) (rows Y) x y c r)
          (λ x y c r. samples_once (shown_of h 1) (own U) (right U) (rows U) x y c r)
          (λ x y c r. samples_once (shown_of h 2) (own V) (right V) (rows V) x y c r),
    )
