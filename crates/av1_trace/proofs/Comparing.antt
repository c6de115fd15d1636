-- What the code compares, in the words of the definition.
use Rattle.std.proofs.Common.{◌≡◌, ◌≢◌, ℕ, zero, suc, ◌+◌, ◌-◌, ◌<◌, ◌≤◌, min, Bool, true, false, ◌==◌, not, List, [], ◌∷◌, ◌++◌, length, map, take, get_or}
use Rattle.std.proofs.Common.{Option, Some, None, Result, Ok, Err, inl, inr, sym, ap, subst, ◌∙◌, arith, append-nil, append_assoc}
use Rattle.std.specs.Prelude.{◌↔◌, IfNone, IfOk, IfSome, Vec, if◌then◌else◌}
use Rattle.std.specs.Option.{option_map}
use Rattle.std.proofs.lemmas.Bool.{cases_Bool, cases_lt, eqb-true}
use Rattle.std.proofs.lemmas.List.{get_or-map, length-map, take_all}
use Rattle.av1_blocks.specs.Blocks.{block_width, block_height}
use Rattle.av1_lists.proofs.Lists.{get_or-by_index, length-by_index}
use Rattle.av1_plan.specs.declared.header.Header.{Header}
use Rattle.av1_plan.specs.declared.geometry.PlaneArea.{PlaneArea}
use Rattle.av1_plan.specs.Geometry.{covers_plane, plane_area, shown_rows, shown_columns}
use Rattle.av1_plan.proofs.Shown.{columns_few}
use Rattle.av1_plan.specs.ReadPlans.{IsReadFrame}
use Rattle.av1_tile.specs.State.{plan_row}
use Rattle.av1_plan.specs.declared.leaf.Leaf.{Leaf}
use Rattle.av1_plan.specs.declared.plan.Plan.{Plan}
use Rattle.av1_plan.specs.Values.{plan_value, stored_leaves, stored_triples}
use Rattle.av1_plan.specs.Plan.{LeafValue, PlanValue, leaf_value, leaf_values}
use Rattle.av1_trace.specs.declared.comparison.Other.{Other}
use Rattle.av1_trace.specs.declared.entry.Difference.{Difference}
use Rattle.av1_trace.specs.Samples.{defined, given, sample_from}
use Rattle.av1_trace.specs.Differences.{difference_at, differences, entries, first_difference, is_other, leaf_differences, leaves_differences}
use Rattle.av1_trace.specs.Differences.{plane_differences, visible_places}
use Rattle.av1_trace.specs.Rows.{AgreeFrom, IsOther}
use Rattle.av1_trace.proofs.Places.{first_passes}
use Rattle.av1_trace.proofs.SameSamples.{agrees, none_listed}

-- ---- rows

-- the numbers of a row, and the samples of a row's bytes, are those of the plane
pub record IsRow (plan : PlanValue) (bytes : List ℕ) (p y depth : ℕ) (row numbers : List ℕ) : Type 0 where
  pub given_are : (x : ℕ) → x < shown_columns plan.header p → sample_from depth row x ≡ given plan.header bytes p x y
  pub numbers_are : numbers ≡ plan_row plan p y

pub is_row : (plan : PlanValue) (bytes : List ℕ) (p y : ℕ) (h : Header) (row numbers : List ℕ) → h ≡ plan.header
    → ((x : ℕ) → x < shown_columns h p → sample_from h.depth row x ≡ given h bytes p x y) → numbers ≡ plan_row plan p y →
    IsRow plan bytes p y h.depth row numbers
is_row plan bytes p y h row numbers same f e = record {
  given_are = subst (λ (k : Header). (x : ℕ) → x < shown_columns k p → sample_from h.depth row x ≡ given k bytes p x y) same f;
  numbers_are = e;
}

-- a row is as long as its plane is wide
pub row_is_long : {T : Type 0} (num : T → ℕ) (plan : PlanValue) (p y right : ℕ) (row : List T) → map num row ≡ plan_row plan p y →
    right ≤ shown_columns plan.header p → right ≤ length row
row_is_long num plan p y right row e h =
    let long : length row ≡ shown_columns plan.header p = sym (length-map row num) ∙ ap length e
    ∙ length-by_index (shown_columns plan.header p) (λ x. defined plan p x y) in
    omega (arith, h, long)

pub few_columns : (h k : Header) (p right : ℕ) → k ≡ h → IsReadFrame k → right ≤ shown_columns h p → right ≤ 65536
few_columns h k p right same read within =
    let frame : IsReadFrame h = subst IsReadFrame same read in
    omega (arith, within, columns_few h p, frame.shown_width.within, frame.width.most)

number_is : (plan : PlanValue) (bytes : List ℕ) (p y x depth : ℕ) (row numbers : List ℕ) → IsRow plan bytes p y depth row numbers →
    x < shown_columns plan.header p → get_or numbers x 0 ≡ defined plan p x y
number_is plan bytes p y x depth row numbers is h =
    ap (λ l. get_or l x 0) is.numbers_are ∙ get_or-by_index (shown_columns plan.header p) (λ c. defined plan p c y) x 0 h

row_agrees : (plan : PlanValue) (bytes : List ℕ) (p y left right depth : ℕ) (row numbers : List ℕ) → IsRow plan bytes p y depth row numbers →
    right ≤ shown_columns plan.header p
    → ((x : ℕ) → left ≤ x → x < right → sample_from depth row x ≡ get_or numbers x 0) → AgreeFrom plan bytes p y left right
row_agrees plan bytes p y left right depth row numbers is within same x l h =
    let inside : x < shown_columns plan.header p = omega arith in
    sym (is.given_are x inside) ∙ same x l h ∙ number_is plan bytes p y x depth row numbers is inside

-- what is said of a row's bytes and numbers, said of the plane
pub none_in_row : (plan : PlanValue) (bytes : List ℕ) (p y left right depth : ℕ) (row numbers : List ℕ) (found : Option Other) →
    IsRow plan bytes p y depth row numbers → right ≤ shown_columns plan.header p
    → IfNone found ((x : ℕ) → left ≤ x → x < right → sample_from depth row x ≡ get_or numbers x 0) → IfNone found (AgreeFrom plan bytes p y left right)
none_in_row plan bytes p y left right depth row numbers None is within same = row_agrees plan bytes p y left right depth row numbers is within same
none_in_row plan bytes p y left right depth row numbers (Some other) is within same = tt

pub some_in_row : (plan : PlanValue) (bytes : List ℕ) (p y left right depth : ℕ) (row numbers : List ℕ) (found : Option Other) →
    IsRow plan bytes p y depth row numbers → right ≤ shown_columns plan.header p
    → IfSome found (λ other. (left ≤ other.column) × (other.column < right) × (other.given ≢ other.defined))
    → IfSome found (λ other. (other.given ≡ sample_from depth row other.column) × (other.defined ≡ get_or numbers other.column 0))
    → IfSome found (λ other. (x : ℕ) → left ≤ x → x < other.column → sample_from depth row x ≡ get_or numbers x 0)
    → IfSome found (λ other. IsOther plan bytes p y left right other)
some_in_row plan bytes p y left right depth row numbers None is within place samples same = tt
some_in_row plan bytes p y left right depth row numbers (Some other) is within (from, before, differs) (g, d) same =
    let inside : other.column < shown_columns plan.header p = omega arith in
    let some : other.column ≤ shown_columns plan.header p = omega arith in
    record {
      from = from;
      before = before;
      given_is = g ∙ is.given_are other.column inside;
      defined_is = d ∙ number_is plan bytes p y other.column depth row numbers is inside;
      differs = differs;
      first = row_agrees plan bytes p y left other.column depth row numbers is some same;
    }

-- ---- rectangles

other_at : (m n : ℕ) → m ≢ n → not (m == n) ≡ true
other_at m n ne = elim (cases_Bool (m == n)) [
  | inl t ↦ absurd (ne (eqb-true m n t))
  | inr f ↦ ap not f
]

-- the rows of a rectangle above one agree
abbrev pub AgreeAbove : PlanValue → List ℕ → (p left right top y : ℕ) → Type 0
AgreeAbove plan bytes p left right top y = (x r : ℕ) → left ≤ x → x < right → top ≤ r → r < y → given plan.header bytes p x r ≡ defined plan p x r

-- one row more
pub one_row_more : (plan : PlanValue) (bytes : List ℕ) (p left right top y : ℕ) → AgreeAbove plan bytes p left right top y →
    AgreeFrom plan bytes p y left right → AgreeAbove plan bytes p left right top (y + 1)
one_row_more plan bytes p left right top y above here x r a b t u = elim (cases_lt r y) [
  | inl l ↦ above x r a b t l
  | inr l ↦ let same : y ≡ r = omega arith in subst (λ (z : ℕ). given plan.header bytes p x z ≡ defined plan p x z) same (here x a b)
]

-- a rectangle, by the columns and rows from which and up to which it is visible
pub record IsRectangle (h : Header) (p : ℕ) (a : PlaneArea) (left right top bottom : ℕ) : Type 0 where
  pub left_is : left ≡ a.x
  pub right_is : right ≡ min (a.x + block_width a.size) (shown_columns h p)
  pub top_is : top ≡ a.y
  pub bottom_is : bottom ≡ min (a.y + block_height a.size) (shown_rows h p)

-- all of its rows agree
pub all_agree : (plan : PlanValue) (bytes : List ℕ) (n p : ℕ) (a : PlaneArea) (left right top bottom y : ℕ) →
    IsRectangle plan.header p a left right top bottom → bottom ≤ y
    → AgreeAbove plan bytes p left right top y → None ≡ first_difference plan bytes n p a
all_agree plan bytes n p a left right top bottom y is end same =
    sym (none_listed plan bytes n p a (λ x r v.
    let b : left ≤ x = omega (arith, v.left, is.left_is) in
    let c : x < right = omega (arith, v.right, v.column, is.right_is) in
    let d : top ≤ r = omega (arith, v.top, is.top_is) in
    let e : r < y = omega (arith, v.bottom, v.row, is.bottom_is, end) in
    same x r b c d e))

side_is : (a w whole last : ℕ) → last ≡ min (a + w) whole → (z : ℕ) → z < a + (min (a + w) whole - a) → a ≤ z → z < last
side_is a w whole last e z h l = omega arith

in_count : (a w whole last : ℕ) → last ≡ min (a + w) whole → (z : ℕ) → a ≤ z → z < last → z - a < min (a + w) whole - a
in_count a w whole last e z l h = omega arith

again : (a z : ℕ) → a ≤ z → z ≡ a + (z - a)
again a z l = omega arith

-- the difference of a rectangle is that of the first row in which there is one
pub first_is : (plan : PlanValue) (bytes : List ℕ) (n p : ℕ) (a : PlaneArea) (left right top bottom y : ℕ) (other : Other) →
    IsRectangle plan.header p a left right top bottom
    → top ≤ y → y < bottom → IsOther plan bytes p y left right other → AgreeAbove plan bytes p left right top y
    → Some (record { leaf = n; plane = p; row = y; column = other.column; given = other.given; defined = other.defined }) ≡ first_difference plan bytes n p a
unfolding first_difference visible_places
first_is plan bytes n p a left right top bottom y other box over below is above =
    let h = plan.header in
    let q = is_other plan bytes p in
    let x = other.column in
    let from : a.x ≤ x = omega (arith, is.from, box.left_is) in
    let begins : a.y ≤ y = omega (arith, over, box.top_is) in
    let ne : given h bytes p x y ≢ defined plan p x y = λ same. is.differs (is.given_is ∙ same ∙ sym is.defined_is) in
    let found = first_passes q a.x (min (a.x + block_width a.size) (shown_columns h p) - a.x) a.y (min (a.y + block_height a.size) (shown_rows h p) - a.y)
    (x - a.x) (y - a.y) x y
    (in_count a.x (block_width a.size) (shown_columns h p) right box.right_is x from is.before)
    (in_count a.y (block_height a.size) (shown_rows h p) bottom box.bottom_is y begins below)
    (again a.x x from) (again a.y y begins)
    (other_at (given h bytes p x y) (defined plan p x y) ne)
    (λ z l m. agrees (given h bytes p z y) (defined plan p z y) (is.first z (omega (arith, l, box.left_is)) m))
    (λ z r l m t b. agrees (given h bytes p z r) (defined plan p z r)
    (above z r (omega (arith, l, box.left_is)) (side_is a.x (block_width a.size) (shown_columns h p) right box.right_is z m l)
    (omega (arith, t, box.top_is)) b))
    in
    sym (ap (option_map (difference_at plan bytes n p)) found
    ∙ ap (λ (v : ℕ). let o : Option Difference = Some (record { leaf = n; plane = p; row = y; column = x; given = v; defined = defined plan p x y }) in o)
    (sym is.given_is)
    ∙ ap (λ (v : ℕ). let o : Option Difference = Some (record { leaf = n; plane = p; row = y; column = x; given = other.given; defined = v }) in o)
    (sym is.defined_is))

-- ---- leaves

-- a leaf that covers nothing of the plane has no entry there
pub none_uncovered : (plan : PlanValue) (bytes : List ℕ) (n p : ℕ) (l : LeafValue) (h : Header) (list : List Difference) → h ≡ plan.header →
    covers_plane h l.x l.y l.size p ≡ false → list ≡ list ++ plane_differences plan bytes n l p
unfolding plane_differences
none_uncovered plan bytes n p l h list same uncovered =
    let own : covers_plane plan.header l.x l.y l.size p ≡ false = subst (λ (k : Header). covers_plane k l.x l.y l.size p ≡ false) same uncovered in
    sym (append-nil list)
    ∙ ap (λ (b : Bool). list ++ (if b then entries (first_difference plan bytes n p (plane_area plan.header l.x l.y l.size l.tx_size p)) else [])) (sym own)

-- one that covers a part of it has the first of its rectangle
pub some_covered : (plan : PlanValue) (bytes : List ℕ) (n p : ℕ) (l : LeafValue) (h : Header) (a : PlaneArea) (found : Option Difference)
    (list : List Difference) → h ≡ plan.header → covers_plane h l.x l.y l.size p ≡ true
    → a ≡ plane_area h l.x l.y l.size l.tx_size p → found ≡ first_difference plan bytes n p a →
    list ++ entries found ≡ list ++ plane_differences plan bytes n l p
unfolding plane_differences
some_covered plan bytes n p l h a found list same covered area is =
    let own : covers_plane plan.header l.x l.y l.size p ≡ true = subst (λ (k : Header). covers_plane k l.x l.y l.size p ≡ true) same covered in
    let rectangle : a ≡ plane_area plan.header l.x l.y l.size l.tx_size p = area ∙ ap (λ (k : Header). plane_area k l.x l.y l.size l.tx_size p) same in
    ap (λ o. list ++ entries o) (is ∙ ap (first_difference plan bytes n p) rectangle)
    ∙ ap (λ (b : Bool). list ++ (if b then entries (first_difference plan bytes n p (plane_area plan.header l.x l.y l.size l.tx_size p)) else [])) (sym own)

-- one leaf more
pub leaves_more : (plan : PlanValue) (bytes : List ℕ) (a : ℕ) (leaves : List LeafValue) (n : ℕ) (d : LeafValue) → n < length leaves
    → leaves_differences plan bytes a (take (suc n) leaves) ≡ leaves_differences plan bytes a (take n leaves)
    ++ leaf_differences plan bytes (a + n) (get_or leaves n d)
leaves_more plan bytes a [] n d h = absurd (omega arith)
leaves_more plan bytes a (l ∷ leaves) zero d h =
    let none : a + 0 ≡ a = omega arith in
    append-nil (leaf_differences plan bytes a l) ∙ ap (λ (z : ℕ). leaf_differences plan bytes z l) (sym none)
leaves_more plan bytes a (l ∷ leaves) (suc n) d h =
    let place : a + 1 + n ≡ a + suc n = omega arith in
    ap (λ ds. leaf_differences plan bytes a l ++ ds) (leaves_more plan bytes (a + 1) leaves n d (omega arith))
    ∙ sym (append_assoc (leaf_differences plan bytes a l) (leaves_differences plan bytes (a + 1) (take n leaves))
    (leaf_differences plan bytes (a + 1 + n) (get_or leaves n d)))
    ∙ ap (λ (z : ℕ). leaf_differences plan bytes a l ++ leaves_differences plan bytes (a + 1) (take n leaves)
    ++ leaf_differences plan bytes z (get_or leaves n d)) place

-- the differences of the leaves before one, and those of that leaf
pub next_leaf : (plan : Plan) (bytes : List ℕ) (n : ℕ) (d : Leaf) (before list : List Difference) → n < length (stored_leaves plan)
    → before ≡ leaves_differences (plan_value plan) bytes 0 (take n (plan_value plan).leaves)
    → list ≡ before ++ leaf_differences (plan_value plan) bytes n (leaf_value (stored_triples plan) (get_or (stored_leaves plan) n d))
    → list ≡ leaves_differences (plan_value plan) bytes 0 (take (n + 1) (plan_value plan).leaves)
unfolding leaf_values
next_leaf plan bytes n d before list h e f =
    let value = plan_value plan in
    let leaf = leaf_value (stored_triples plan) (get_or (stored_leaves plan) n d) in
    let many : length value.leaves ≡ length (stored_leaves plan) = length-map (stored_leaves plan) (leaf_value (stored_triples plan)) in
    let item : get_or value.leaves n leaf ≡ leaf = get_or-map (leaf_value (stored_triples plan)) (stored_leaves plan) n d leaf h in
    let place : 0 + n ≡ n = omega arith in
    let one : n + 1 ≡ suc n = omega arith in
    f ∙ ap (λ l. l ++ leaf_differences value bytes n leaf) e
    ∙ ap (λ (m : ℕ). leaves_differences value bytes 0 (take n value.leaves) ++ leaf_differences value bytes m leaf) (sym place)
    ∙ ap (λ (l : LeafValue). leaves_differences value bytes 0 (take n value.leaves) ++ leaf_differences value bytes (0 + n) l) (sym item)
    ∙ sym (leaves_more value bytes 0 value.leaves n leaf (omega (arith, h, many)))
    ∙ ap (λ (m : ℕ). leaves_differences value bytes 0 (take m value.leaves)) (sym one)

-- once all leaves are compared
pub last_leaf : (plan : Plan) (bytes : List ℕ) (n : ℕ) (list : List Difference) → length (stored_leaves plan) ≤ n →
    list ≡ leaves_differences (plan_value plan) bytes 0 (take n (plan_value plan).leaves) → list ≡ differences (plan_value plan) bytes
unfolding differences leaf_values
last_leaf plan bytes n list h e =
    let value = plan_value plan in
    let many : length value.leaves ≤ n = omega (arith, h, length-map (stored_leaves plan) (leaf_value (stored_triples plan))) in
    e ∙ ap (leaves_differences value bytes 0) (take_all n value.leaves many)

-- what holds of the differences holds of a list that is these
pub same_list : {E A : Type 0} (result : Result (Vec Difference A) E) (ds : List Difference) (P : Type 0) → IfOk result (λ list. list.items ≡ ds) →
    (ds ≡ []) ↔ P → IfOk result (λ list. (list.items ≡ []) ↔ P)
same_list (Err e) ds P is same = tt
same_list (Ok list) ds P is (there, back) = (λ e. there (sym is ∙ e), λ p. is ∙ back p)
