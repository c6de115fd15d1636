-- What stands on a stack of parts.
use Rattle.std.proofs.Common.{◌≡◌, ℕ, zero, suc, ◌+◌, ◌-◌, ◌*◌, ◌<◌, ◌≤◌, true, false, ◌&&◌, List, [], ◌∷◌, length, take, set, get_or, reverse, refl, sym, ap}
use Rattle.std.proofs.Common.{subst, ◌∙◌, arith}
use Rattle.std.specs.Prelude.{nat_lt, nat_le}
use Rattle.std.proofs.lemmas.Bool.{and_parts, ltb-true, lt-ltb, le-leb}
use Rattle.std.proofs.lemmas.List.{take_more, take_more_set, reverse-append, length-reverse, length-take-le}
use Rattle.av1_blocks.specs.declared.partition.BlockSize.TheVariants.{BLOCK_4X4}
use Rattle.av1_plan.specs.declared.header.Header.{Header}
use Rattle.av1_plan.specs.Geometry.{is_inside, coded_width, coded_height}
use Rattle.av1_plan.specs.declared.nodes.Part.{Part}
use Rattle.av1_plan.specs.declared.nodes.Part.TheVariants.{Node, Leaf}
use Rattle.av1_plan.specs.Remaining.{leaf_before, block_before}
use Rattle.av1_plan.specs.Remaining.{later_parts}
use Rattle.av1_plan.specs.Stacks.{on_top, has_room, have_room}

pub none_on_top : (xs : List Part) → have_room (on_top xs 0) ≡ true
unfolding have_room
none_on_top xs = refl

-- one more
pub put_on_top : (xs : List Part) (n : ℕ) (p : Part) → n < length xs → on_top (set xs n p) (n + 1) ≡ p ∷ on_top xs n
put_on_top xs n p lt = ap reverse (take_more_set xs n p lt) ∙ reverse-append (take n xs) (p ∷ [])

pub top_is : (xs : List Part) (n : ℕ) (d : Part) → n < length xs → on_top xs (n + 1) ≡ get_or xs n d ∷ on_top xs n
top_is xs n d lt = ap reverse (take_more xs n d lt) ∙ reverse-append (take n xs) (get_or xs n d ∷ [])

pub count_on_top : (xs : List Part) (n : ℕ) → n ≤ length xs → length (on_top xs n) ≡ n
count_on_top xs n le = length-reverse (take n xs) ∙ length-take-le n xs le

-- a part that has room has so few below it
pub few_below : (p : Part) (n : ℕ) → has_room p n ≡ true → n < 13
unfolding has_room
few_below (Node level x y) n e =
    let (_, most) = and_parts (nat_le 1 level && nat_le level 4 && nat_lt x 2048 && nat_lt y 2048) (nat_lt (3 * level + n) 13) e in
    omega (arith, ltb-true (3 * level + n) 13 most)
few_below (Leaf size x y) n e = ltb-true n 13 e

pub room_for : (p : Part) (ps : List Part) → has_room p (length ps) ≡ true → have_room ps ≡ true → have_room (p ∷ ps) ≡ true
unfolding have_room
room_for p ps e f = rw (e, f) refl

pub room_of : (p : Part) (ps : List Part) → have_room (p ∷ ps) ≡ true → (has_room p (length ps) ≡ true) × (have_room ps ≡ true)
unfolding have_room
room_of p ps e = and_parts (has_room p (length ps)) (have_room ps) e

-- one less
pub behind_top : (xs : List Part) (n : ℕ) (d : Part) → 0 < n → n ≤ length xs → on_top xs (n - 1) ≡ later_parts (on_top xs n)
behind_top xs n d some le =
    let e : n ≡ n - 1 + 1 = omega arith in
    sym (ap (λ (m : ℕ). later_parts (on_top xs m)) e ∙ ap later_parts (top_is xs (n - 1) d (omega arith)))

pub room_behind : (xs : List Part) (n : ℕ) (d : Part) → 0 < n → n ≤ length xs → have_room (on_top xs n) ≡ true → have_room (on_top xs (n - 1)) ≡ true
room_behind xs n d some le room =
    let e : n ≡ n - 1 + 1 = omega arith in
    let whole : have_room (get_or xs (n - 1) d ∷ on_top xs (n - 1)) ≡ true =
    subst (λ (ps : List Part). have_room ps ≡ true) (ap (on_top xs) e ∙ top_is xs (n - 1) d (omega arith)) room in
    (room_of (get_or xs (n - 1) d) (on_top xs (n - 1)) whole).1

-- the top, and its room
pub top_with_room : (xs : List Part) (n : ℕ) (d : Part) → 0 < n → n ≤ length xs → have_room (on_top xs n) ≡ true →
    has_room (get_or xs (n - 1) d) (length (later_parts (on_top xs n))) ≡ true
top_with_room xs n d some le room =
    let e : n ≡ n - 1 + 1 = omega arith in
    let top : on_top xs n ≡ get_or xs (n - 1) d ∷ on_top xs (n - 1) = ap (on_top xs) e ∙ top_is xs (n - 1) d (omega arith) in
    let whole : have_room (get_or xs (n - 1) d ∷ on_top xs (n - 1)) ≡ true = subst (λ (ps : List Part). have_room ps ≡ true) top room in
    subst (λ (ps : List Part). has_room (get_or xs (n - 1) d) (length (later_parts ps)) ≡ true) (sym top)
    (room_of (get_or xs (n - 1) d) (on_top xs (n - 1)) whole).0

-- the room of one more
pub room_more : (xs : List Part) (n : ℕ) (d : Part) → n < length xs → have_room (on_top xs (n + 1)) ≡ (has_room (get_or xs n d) n && have_room (on_top xs n))
unfolding have_room
room_more xs n d lt = ap have_room (top_is xs n d lt)
    ∙ ap (λ (m : ℕ). has_room (get_or xs n d) m && have_room (on_top xs n)) (count_on_top xs n (omega (arith, lt)))

pub ruleset room_below = (none_on_top, room_more)

-- a block before others
pub block_leaf : (h : Header) (level x y : ℕ) (others : List Part) → level ≡ 0 → block_before h level x y others ≡ leaf_before h BLOCK_4X4 x y others
unfolding block_before
block_leaf h zero x y others e = refl
block_leaf h (suc level) x y others e = absurd (omega arith)

pub block_inside : (h : Header) (level x y : ℕ) (others : List Part) → 0 < level → is_inside h x y ≡ true →
    block_before h level x y others ≡ Node level x y ∷ others
unfolding block_before
block_inside h zero x y others lt e = absurd (omega arith)
block_inside h (suc level) x y others lt e = rw e refl

pub block_outside : (h : Header) (level x y : ℕ) (others : List Part) → 0 < level → is_inside h x y ≡ false → block_before h level x y others ≡ others
unfolding block_before
block_outside h zero x y others lt e = absurd (omega arith)
block_outside h (suc level) x y others lt e = rw e refl

-- what lies in the frame lies in a frame of the greatest sides
pub in_greatest : (h : Header) (x y : ℕ) → h.width ≤ 2048 → h.height ≤ 2048 → is_inside h x y ≡ true → (nat_lt x 2048 ≡ true) × (nat_lt y 2048 ≡ true)
unfolding is_inside coded_width coded_height
in_greatest h x y width height e =
    let (a, b) = and_parts (nat_lt x (coded_width h)) (nat_lt y (coded_height h)) e in
    (lt-ltb x 2048 (omega (arith, width, ltb-true x (coded_width h) a)), lt-ltb y 2048 (omega (arith, height, ltb-true y (coded_height h) b)))

pub node_room : (h : Header) (level x y below : ℕ) → 0 < level → level ≤ 4 → 3 * level + below < 13 → h.width ≤ 2048 → h.height ≤ 2048 →
    is_inside h x y ≡ true → has_room (Node level x y) below ≡ true
unfolding has_room
node_room h level x y below some most room width height e =
    let (a, b) = in_greatest h x y width height e in
    rw (le-leb 1 level (omega (arith, some)), le-leb level 4 most, a, b, lt-ltb (3 * level + below) 13 room) refl

pub ruleset blocks = (block_leaf, block_inside, block_outside, node_room)
