-- The leaves of a node follow one another.
use Rattle.std.proofs.Common.{◌≡◌, ℕ, zero, suc, ◌+◌, ◌*◌, ◌%◌, ◌^◌, ◌<◌, ◌≤◌, ◌⊎◌, Bool, true, false, ◌&&◌, ◌||◌, ltb, List, [], ◌∷◌, ◌++◌, inl, inr, refl}
use Rattle.std.proofs.Common.{sym, ◌∙◌, arith}
use Rattle.std.specs.Prelude.{nat_lt, if◌then◌else◌}
use Rattle.std.proofs.Math.Nat.{pow-succ'}
use Rattle.std.proofs.lemmas.Nat.{pow_pos}
use Rattle.av1_order.proofs.Spans.{span_start}
use Rattle.std.proofs.lemmas.Bool.Decides.{nat_tests}
use Rattle.av1_avail.specs.Order.{AreInTurn, is_in, is_earlier}
use Rattle.av1_plan.specs.Tree.{Block, Placed, Tree, none, horz, vert, horz_4, vert_4, split, kept, part_leaves, node_leaves}
use Rattle.av1_order.proofs.Nodes.{node_side, node_x, node_y}
use Rattle.av1_order.proofs.Leaves.{IsPart, leaf_block, IsEven, IsOnGrid, Follows, follows-from, follows-to, follows-append, follows-kept, outside}
use Rattle.av1_order.proofs.Rectangles.{Places, places, placed}
use Rattle.av1_order.proofs.Choices.{either_way, choose, or_nothing}
use Rattle.av1_order.proofs.Earlier.{never_earlier}
use Rattle.av1_avail.proofs.SquareOrder.{is_done, quarters_in_turn}

-- arithmetic at the five sides of a node
even_at : (k n : ℕ) → k ≤ 4 → n % 2 ^ k ≡ 0 → IsEven n (2 ^ k)
even_at zero n h e = inl refl
even_at (suc zero) n h e = inr (omega arith)
even_at (suc (suc zero)) n h e = inr (omega arith)
even_at (suc (suc (suc zero))) n h e = inr (omega arith)
even_at (suc (suc (suc (suc zero)))) n h e = inr (omega arith)
even_at (suc (suc (suc (suc (suc k))))) n h e = absurd (omega arith)

pub half_at : (k n : ℕ) → k ≤ 3 → n % 2 ^ suc k ≡ 0 → (n % 2 ^ k ≡ 0) × ((n + 2 ^ k) % 2 ^ k ≡ 0)
half_at zero n h e = omega arith
half_at (suc zero) n h e = omega arith
half_at (suc (suc zero)) n h e = omega arith
half_at (suc (suc (suc zero))) n h e = omega arith
half_at (suc (suc (suc (suc k)))) n h e = absurd (omega arith)

quarter_at : (k n : ℕ) → k ≤ 2 → n % 2 ^ suc (suc k) ≡ 0 → (n % 2 ^ k ≡ 0) × ((n + 2 ^ k) % 2 ^ k ≡ 0) × ((n + 2 * 2 ^ k) % 2 ^ k ≡ 0) ×
    ((n + 3 * 2 ^ k) % 2 ^ k ≡ 0)
quarter_at zero n h e = omega arith
quarter_at (suc zero) n h e = omega arith
quarter_at (suc (suc zero)) n h e = omega arith
quarter_at (suc (suc (suc k))) n h e = absurd (omega arith)

outside_false : (q e : Bool) → (q ≡ true → e ≡ false) → e ≡ (if q then false else e)
outside_false true e h = h refl
outside_false false e h = refl

inside_true : (q e : Bool) → (if q then true else e) ≡ (e || q)
inside_true true true = refl
inside_true true false = refl
inside_true false true = refl
inside_true false false = refl

-- the cells of a node in which a test holds, and those before the node
abbrev at : (nx ny s : ℕ) (test : ℕ → ℕ → Bool) → (x y : ℕ) → Bool
at nx ny s test x y = if is_in x y nx ny s s then test x y else is_earlier x y nx ny

abbrev above : (y0 : ℕ) → (x y : ℕ) → Bool
above y0 x y = ltb y y0

abbrev left_of : (x0 : ℕ) → (x y : ℕ) → Bool
left_of x0 x y = ltb x x0

between : (nx ny s x y : ℕ) (f g : ℕ → ℕ → Bool) → (Places x y nx ny s s → f x y ≡ g x y) → at nx ny s f x y ≡ at nx ny s g x y
between nx ny s x y f g h = either_way (is_in x y nx ny s s) (f x y) (g x y) (is_earlier x y nx ny) (λ e. h (places x y nx ny s s e))

open_node : (nx ny s x y : ℕ) (f : ℕ → ℕ → Bool) → (Places x y nx ny s s → f x y ≡ false) → is_earlier x y nx ny ≡ at nx ny s f x y
open_node nx ny s x y f h =
    outside_false (is_in x y nx ny s s) (is_earlier x y nx ny) (λ e. let p = places x y nx ny s s e in never_earlier x y nx ny p.left p.top)
    ∙ between nx ny s x y (λ x y. false) f (λ p. sym (h p))

close_node : (nx ny s x y : ℕ) (f : ℕ → ℕ → Bool) → (Places x y nx ny s s → f x y ≡ true) → at nx ny s f x y ≡ is_done x y nx ny s
close_node nx ny s x y f h = between nx ny s x y f (λ x y. true) h ∙ inside_true (is_in x y nx ny s s) (is_earlier x y nx ny)

-- plain tests
not_above : (nx ny s x y : ℕ) → Places x y nx ny s s → ltb y ny ≡ false
not_above nx ny s x y p = let t = p.top in grind (arith, nat_tests)

not_left : (nx ny s x y : ℕ) → Places x y nx ny s s → ltb x nx ≡ false
not_left nx ny s x y p = let t = p.left in grind (arith, nat_tests)

all_above : (nx ny s e x y : ℕ) → e ≡ ny + s → Places x y nx ny s s → ltb y e ≡ true
all_above nx ny s e x y q p = let t = p.bottom in grind (arith, nat_tests)

all_left : (nx ny s e x y : ℕ) → e ≡ nx + s → Places x y nx ny s s → ltb x e ≡ true
all_left nx ny s e x y q p = let t = p.right in grind (arith, nat_tests)

row_opens : (nx ny s y0 x y : ℕ) → Places x y nx ny s s → ltb y y0 ≡ (ltb y y0 || ltb x nx)
row_opens nx ny s y0 x y p = let t = p.left in grind (arith, nat_tests)

column_opens : (nx ny s x0 x y : ℕ) → Places x y nx ny s s → ltb x x0 ≡ (ltb y ny || ltb x x0)
column_opens nx ny s x0 x y p = let t = p.top in grind (arith, nat_tests)

row_closes : (nx ny s y0 y1 h x y : ℕ) → y1 ≡ y0 + h → Places x y nx ny s s → (ltb y y0 || is_in x y nx y0 s h) ≡ ltb y y1
unfolding is_in
row_closes nx ny s y0 y1 h x y e p = let l = p.left in let r = p.right in grind (arith, nat_tests)

column_closes : (nx ny s x0 x1 h x y : ℕ) → x1 ≡ x0 + h → Places x y nx ny s s → (ltb x x0 || is_in x y x0 ny h s) ≡ ltb x x1
unfolding is_in
column_closes nx ny s x0 x1 h x y e p = let l = p.top in let r = p.bottom in grind (arith, nat_tests)

row_cut : (width height nx ny s y0 y1 x y : ℕ) → x < width → y < height → (nat_lt nx width && nat_lt y0 height) ≡ false → y0 ≤ y1 → Places x y nx ny s s →
    ltb y y0 ≡ ltb y y1
row_cut width height nx ny s y0 y1 x y hx hy out le p = let l = p.left in grind (arith, nat_tests)

column_cut : (width height nx ny s x0 x1 x y : ℕ) → x < width → y < height → (nat_lt x0 width && nat_lt ny height) ≡ false → x0 ≤ x1 → Places x y nx ny s s →
    ltb x x0 ≡ ltb x x1
column_cut width height nx ny s x0 x1 x y hx hy out le p = let l = p.top in grind (arith, nat_tests)

outer : (nx ny s x y x0 y0 w h : ℕ) → nx ≤ x0 → x0 + w ≤ nx + s → ny ≤ y0 → y0 + h ≤ ny + s → is_in x y x0 y0 w h ≡ true → is_in x y nx ny s s ≡ true
outer nx ny s x y x0 y0 w h a b c d e =
    let p = places x y x0 y0 w h e in
    let l = p.left in let r = p.right in let t = p.top in let q = p.bottom in
    placed x y nx ny s s (record { left = omega arith; right = omega arith; top = omega arith; bottom = omega arith })

-- a block on a node's grid
pub on_grid : (k : ℕ) (b : Block) (nx ny : ℕ) → k ≤ 4 → nx % 2 ^ k ≡ 0 → ny % 2 ^ k ≡ 0 → node_side b ≡ 2 ^ k → nx ≤ b.x → b.x < nx + 2 ^ k → ny ≤ b.y →
    b.y < ny + 2 ^ k
    → (b.x + b.columns ≡ nx + 2 ^ k) ⊎ (b.x + 2 * b.columns ≤ nx + 2 ^ k) → (b.y + b.rows ≡ ny + 2 ^ k) ⊎ (b.y + 2 * b.rows ≤ ny + 2 ^ k)
    → IsEven b.x b.columns → IsEven b.y b.rows → b.x % b.columns ≡ 0 → b.y % b.rows ≡ 0 → IsOnGrid b × (node_x b ≡ nx) × (node_y b ≡ ny)
on_grid k b nx ny small hx hy side x0 x1 y0 y1 rx ry ex ey mx my =
    let ax : node_x b ≡ nx = rw side (span_start (2 ^ k) nx b.x hx x0 x1) in
    let ay : node_y b ≡ ny = rw side (span_start (2 ^ k) ny b.y hy y0 y1) in (
      record {
        log = k;
        small = small;
        side = side;
        x_at = rw ax hx;
        y_at = rw ay hy;
        left = rw ax x0;
        top = rw ay y0;
        room_x = rw ax rx;
        room_y = rw ay ry;
        even_x = ex;
        even_y = ey;
        across = mx;
        along = my;
      },
      ax,
      ay,
    )

-- A square is done when the last of its quarters is.
square : (nx ny h x y : ℕ)
    → is_in x y nx ny (2 * h) (2 * h) ≡ (is_in x y nx ny h h || is_in x y (nx + h) ny h h || is_in x y nx (ny + h) h h || is_in x y (nx + h) (ny + h) h h)
unfolding is_in
square nx ny h x y = grind (arith, nat_tests)

in_line : (e a b c d : Bool) → (e || (a || b || c || d)) ≡ (e || a || b || c || d)
in_line true a b c d = refl
in_line false a b c d = refl

last_quarter : (h nx ny x y : ℕ) → AreInTurn h nx ny → is_done x y nx ny (2 * h) ≡ is_done x y (nx + h) (ny + h) h
last_quarter h nx ny x y t =
    rw (t.lower_right x y, t.lower_left x y, t.upper_right x y, square nx ny h x y)
    (in_line (is_earlier x y nx ny) (is_in x y nx ny h h) (is_in x y (nx + h) ny h h) (is_in x y nx (ny + h) h h) (is_in x y (nx + h) (ny + h) h h))

four_times : (k : ℕ) → 2 ^ suc (suc k) ≡ 4 * 2 ^ k
four_times k = pow-succ' 2 (suc k) ∙ omega (arith, pow-succ' 2 k)

opened : (b : Block) (nx ny s x y : ℕ) (f : ℕ → ℕ → Bool) → node_x b ≡ nx → node_y b ≡ ny → node_side b ≡ s
    → (if is_in x y (node_x b) (node_y b) (node_side b) (node_side b) then f x y else is_earlier x y (node_x b) (node_y b)) ≡ at nx ny s f x y
opened b nx ny s x y f ex ey es = rw (ex, ey, es) refl

whole_part : (k : ℕ) → IsPart k (2 ^ k)
whole_part k = record { log = k; is = refl; most = omega arith; least = omega arith }

half_part : (k : ℕ) → IsPart (suc k) (2 ^ k)
half_part k = record { log = k; is = refl; most = omega arith; least = omega arith }

quarter_part : (k : ℕ) → IsPart (suc (suc k)) (2 ^ k)
quarter_part k = record { log = k; is = refl; most = omega arith; least = omega arith }

module _ {A : Type 0} (width height : ℕ) where
  -- a part as wide as its node
  row_follows : (k nx ny y0 y1 h : ℕ) (c : A) → k ≤ 4 → IsPart k h → nx % 2 ^ k ≡ 0 → ny % 2 ^ k ≡ 0 → 1 ≤ h → ny ≤ y0 → y1 ≡ y0 + h →
      (y1 ≡ ny + 2 ^ k) ⊎ (y1 + h ≤ ny + 2 ^ k)
      → IsEven y0 h → y0 % h ≡ 0 → Follows width height (at nx ny (2 ^ k) (above y0)) (part_leaves width height nx y0 (2 ^ k) h c) (at nx ny (2 ^ k) (above y1))
  row_follows k nx ny y0 y1 h c small part hx hy pos low e room even at_y =
      let s = 2 ^ k in
      let one = pow_pos k in
      let high : y1 ≤ ny + s = omega arith in
      let b : Block = record { x = nx; y = y0; columns = s; rows = h } in
      let g = on_grid k b nx ny small hx hy (omega arith) (omega arith) (omega arith) low (omega arith) (inl refl) (grind arith)
      (even_at k nx small hx) even hx at_y in
      follows-kept width height (at nx ny s (above y0)) (at nx ny s (above y1)) nx y0 (record { block = b; content = c } ∷ []) (λ begins. (
        (λ x y here. between nx ny s x y (above y0) (λ x y. ltb y y0 || ltb x nx) (row_opens nx ny s y0 x y)
            ∙ sym (opened b nx ny s x y (λ x y. ltb y y0 || ltb x nx) g.1 g.2 (omega arith))),
        g.0,
        (λ x y here.
            choose (is_in x y nx ny s s) (is_in x y nx y0 s h) (ltb y y0) (ltb y y0 || is_in x y nx y0 s h) (is_earlier x y nx ny) refl
            (outer nx ny s x y nx y0 s h (omega arith) (omega arith) low (omega arith))
            ∙ between nx ny s x y (λ x y. ltb y y0 || is_in x y nx y0 s h) (above y1) (row_closes nx ny s y0 y1 h x y e)),
        leaf_block width height k b small (whole_part k) part hx at_y begins,
      ))
      (λ out x y here. between nx ny s x y (above y0) (above y1) (row_cut width height nx ny s y0 y1 x y here.column here.row out (omega arith)))

  -- a part as high as its node
  column_follows : (k nx ny x0 x1 h : ℕ) (c : A) → k ≤ 4 → IsPart k h → nx % 2 ^ k ≡ 0 → ny % 2 ^ k ≡ 0 → 1 ≤ h → nx ≤ x0 → x1 ≡ x0 + h →
      (x1 ≡ nx + 2 ^ k) ⊎ (x1 + h ≤ nx + 2 ^ k)
      → IsEven x0 h → x0 % h ≡ 0 →
      Follows width height (at nx ny (2 ^ k) (left_of x0)) (part_leaves width height x0 ny h (2 ^ k) c) (at nx ny (2 ^ k) (left_of x1))
  column_follows k nx ny x0 x1 h c small part hx hy pos low e room even at_x =
      let s = 2 ^ k in
      let one = pow_pos k in
      let high : x1 ≤ nx + s = omega arith in
      let b : Block = record { x = x0; y = ny; columns = h; rows = s } in
      let g = on_grid k b nx ny small hx hy (omega arith) low (omega arith) (omega arith) (omega arith) (grind arith)
      (inl refl) even (even_at k ny small hy) at_x hy in
      follows-kept width height (at nx ny s (left_of x0)) (at nx ny s (left_of x1)) x0 ny (record { block = b; content = c } ∷ []) (λ begins. (
        (λ x y here. between nx ny s x y (left_of x0) (λ x y. ltb y ny || ltb x x0) (column_opens nx ny s x0 x y)
            ∙ sym (opened b nx ny s x y (λ x y. ltb y ny || ltb x x0) g.1 g.2 (omega arith))),
        g.0,
        (λ x y here.
            choose (is_in x y nx ny s s) (is_in x y x0 ny h s) (ltb x x0) (ltb x x0 || is_in x y x0 ny h s) (is_earlier x y nx ny) refl
            (outer nx ny s x y x0 ny h s low (omega arith) (omega arith) (omega arith))
            ∙ between nx ny s x y (λ x y. ltb x x0 || is_in x y x0 ny h s) (left_of x1) (column_closes nx ny s x0 x1 h x y e)),
        leaf_block width height k b small part (whole_part k) at_x hy begins,
      ))
      (λ out x y here. between nx ny s x y (left_of x0) (left_of x1) (column_cut width height nx ny s x0 x1 x y here.column here.row out (omega arith)))

  -- from a node's first row to its end, and likewise by columns
  rows_node : (k nx ny y1 : ℕ) (ls : List (Placed A)) → y1 ≡ ny + 2 ^ k → Follows width height (at nx ny (2 ^ k) (above ny)) ls (at nx ny (2 ^ k) (above y1))
      → Follows width height (λ x y. is_earlier x y nx ny) ls (λ x y. is_done x y nx ny (2 ^ k))
  rows_node k nx ny y1 ls e f =
      let s = 2 ^ k in
      follows-from width height (λ x y. is_earlier x y nx ny) (at nx ny s (above ny)) (λ x y. is_done x y nx ny s) ls
      (λ x y here. open_node nx ny s x y (above ny) (not_above nx ny s x y))
      (follows-to width height (at nx ny s (above ny)) (at nx ny s (above y1)) (λ x y. is_done x y nx ny s) ls f
      (λ x y here. close_node nx ny s x y (above y1) (all_above nx ny s y1 x y e)))

  columns_node : (k nx ny x1 : ℕ) (ls : List (Placed A)) → x1 ≡ nx + 2 ^ k →
      Follows width height (at nx ny (2 ^ k) (left_of nx)) ls (at nx ny (2 ^ k) (left_of x1))
      → Follows width height (λ x y. is_earlier x y nx ny) ls (λ x y. is_done x y nx ny (2 ^ k))
  columns_node k nx ny x1 ls e f =
      let s = 2 ^ k in
      follows-from width height (λ x y. is_earlier x y nx ny) (at nx ny s (left_of nx)) (λ x y. is_done x y nx ny s) ls
      (λ x y here. open_node nx ny s x y (left_of nx) (not_left nx ny s x y))
      (follows-to width height (at nx ny s (left_of nx)) (at nx ny s (left_of x1)) (λ x y. is_done x y nx ny s) ls f
      (λ x y here. close_node nx ny s x y (left_of x1) (all_left nx ny s x1 x y e)))

  none_follows : (k nx ny : ℕ) (c : A) → k ≤ 4 → nx % 2 ^ k ≡ 0 → ny % 2 ^ k ≡ 0
      → Follows width height (λ x y. is_earlier x y nx ny) (part_leaves width height nx ny (2 ^ k) (2 ^ k) c) (λ x y. is_done x y nx ny (2 ^ k))
  none_follows k nx ny c hk hx hy =
      rows_node k nx ny (ny + 2 ^ k) (part_leaves width height nx ny (2 ^ k) (2 ^ k) c) refl
      (row_follows k nx ny ny (ny + 2 ^ k) (2 ^ k) c hk (whole_part k) hx hy (pow_pos k) (omega arith) refl (inl refl) (even_at k ny hk hy) hy)

  horz_follows : (k nx ny : ℕ) (c d : A) → k ≤ 3 → nx % 2 ^ suc k ≡ 0 → ny % 2 ^ suc k ≡ 0
      → Follows width height (λ x y. is_earlier x y nx ny) (node_leaves width height (horz {k = k} c d) nx ny) (λ x y. is_done x y nx ny (2 ^ suc k))
  horz_follows k nx ny c d hk hx hy =
      let e : 2 ^ suc k ≡ 2 * 2 ^ k = pow-succ' 2 k in
      let s = 2 ^ suc k in
      let h = 2 ^ k in
      let p = pow_pos k in
      let y_at = half_at k ny hk hy in
      rw (← e)
      (rows_node (suc k) nx ny (ny + h + h) (part_leaves width height nx ny s h c ++ part_leaves width height nx (ny + h) s h d) (omega arith)
      (follows-append width height (at nx ny s (above ny)) (at nx ny s (above (ny + h))) (at nx ny s (above (ny + h + h)))
      (part_leaves width height nx ny s h c)
      (part_leaves width height nx (ny + h) s h d)
      (row_follows (suc k) nx ny ny (ny + h) h c (omega arith) (half_part k) hx hy p (omega arith) refl (inr (omega arith))
      (even_at k ny (omega arith) y_at.0) y_at.0)
      (row_follows (suc k) nx ny (ny + h) (ny + h + h) h d (omega arith) (half_part k) hx hy p (omega arith) refl (inl (omega arith))
      (even_at k (ny + h) (omega arith) y_at.1) y_at.1)))

  vert_follows : (k nx ny : ℕ) (c d : A) → k ≤ 3 → nx % 2 ^ suc k ≡ 0 → ny % 2 ^ suc k ≡ 0
      → Follows width height (λ x y. is_earlier x y nx ny) (node_leaves width height (vert {k = k} c d) nx ny) (λ x y. is_done x y nx ny (2 ^ suc k))
  vert_follows k nx ny c d hk hx hy =
      let e : 2 ^ suc k ≡ 2 * 2 ^ k = pow-succ' 2 k in
      let s = 2 ^ suc k in
      let h = 2 ^ k in
      let p = pow_pos k in
      let x_at = half_at k nx hk hx in
      rw (← e)
      (columns_node (suc k) nx ny (nx + h + h) (part_leaves width height nx ny h s c ++ part_leaves width height (nx + h) ny h s d) (omega arith)
      (follows-append width height (at nx ny s (left_of nx)) (at nx ny s (left_of (nx + h))) (at nx ny s (left_of (nx + h + h)))
      (part_leaves width height nx ny h s c)
      (part_leaves width height (nx + h) ny h s d)
      (column_follows (suc k) nx ny nx (nx + h) h c (omega arith) (half_part k) hx hy p (omega arith) refl (inr (omega arith))
      (even_at k nx (omega arith) x_at.0) x_at.0)
      (column_follows (suc k) nx ny (nx + h) (nx + h + h) h d (omega arith) (half_part k) hx hy p (omega arith) refl (inl (omega arith))
      (even_at k (nx + h) (omega arith) x_at.1) x_at.1)))

  horz_4_follows : (k nx ny : ℕ) (a b c d : A) → k ≤ 2 → nx % 2 ^ suc (suc k) ≡ 0 → ny % 2 ^ suc (suc k) ≡ 0
      → Follows width height (λ x y. is_earlier x y nx ny) (node_leaves width height (horz_4 {k = k} a b c d) nx ny)
      (λ x y. is_done x y nx ny (2 ^ suc (suc k)))
  horz_4_follows k nx ny a b c d hk hx hy =
      let e : 2 ^ suc (suc k) ≡ 4 * 2 ^ k = four_times k in
      let s = 2 ^ suc (suc k) in
      let h = 2 ^ k in
      let p = pow_pos k in
      let y_at = quarter_at k ny hk hy in
      let t = at nx ny s in
      let one = part_leaves width height nx ny s h a in
      let two = part_leaves width height nx (ny + h) s h b in
      let three = part_leaves width height nx (ny + 2 * h) s h c in
      let four = part_leaves width height nx (ny + 3 * h) s h d in
      rw (← e)
      (rows_node (suc (suc k)) nx ny (ny + 3 * h + h) (one ++ two ++ three ++ four) (omega arith)
      (follows-append width height (t (above ny)) (t (above (ny + 3 * h))) (t (above (ny + 3 * h + h))) (one ++ two ++ three) four
      (follows-append width height (t (above ny)) (t (above (ny + 2 * h))) (t (above (ny + 3 * h))) (one ++ two) three
      (follows-append width height (t (above ny)) (t (above (ny + h))) (t (above (ny + 2 * h))) one two
      (row_follows (suc (suc k)) nx ny ny (ny + h) h a (omega arith) (quarter_part k) hx hy p (omega arith) refl (inr (omega arith))
      (even_at k ny (omega arith) y_at.0) y_at.0)
      (row_follows (suc (suc k)) nx ny (ny + h) (ny + 2 * h) h b (omega arith) (quarter_part k) hx hy p (omega arith) (omega arith) (inr (omega arith))
      (even_at k (ny + h) (omega arith) y_at.1) y_at.1))
      (row_follows (suc (suc k)) nx ny (ny + 2 * h) (ny + 3 * h) h c (omega arith) (quarter_part k) hx hy p (omega arith) (omega arith) (inr (omega arith))
      (even_at k (ny + 2 * h) (omega arith) y_at.2) y_at.2))
      (row_follows (suc (suc k)) nx ny (ny + 3 * h) (ny + 3 * h + h) h d (omega arith) (quarter_part k) hx hy p (omega arith) refl (inl (omega arith))
      (even_at k (ny + 3 * h) (omega arith) y_at.3) y_at.3)))

  vert_4_follows : (k nx ny : ℕ) (a b c d : A) → k ≤ 2 → nx % 2 ^ suc (suc k) ≡ 0 → ny % 2 ^ suc (suc k) ≡ 0
      → Follows width height (λ x y. is_earlier x y nx ny) (node_leaves width height (vert_4 {k = k} a b c d) nx ny)
      (λ x y. is_done x y nx ny (2 ^ suc (suc k)))
  vert_4_follows k nx ny a b c d hk hx hy =
      let e : 2 ^ suc (suc k) ≡ 4 * 2 ^ k = four_times k in
      let s = 2 ^ suc (suc k) in
      let h = 2 ^ k in
      let p = pow_pos k in
      let x_at = quarter_at k nx hk hx in
      let t = at nx ny s in
      let one = part_leaves width height nx ny h s a in
      let two = part_leaves width height (nx + h) ny h s b in
      let three = part_leaves width height (nx + 2 * h) ny h s c in
      let four = part_leaves width height (nx + 3 * h) ny h s d in
      rw (← e)
      (columns_node (suc (suc k)) nx ny (nx + 3 * h + h) (one ++ two ++ three ++ four) (omega arith)
      (follows-append width height (t (left_of nx)) (t (left_of (nx + 3 * h))) (t (left_of (nx + 3 * h + h))) (one ++ two ++ three) four
      (follows-append width height (t (left_of nx)) (t (left_of (nx + 2 * h))) (t (left_of (nx + 3 * h))) (one ++ two) three
      (follows-append width height (t (left_of nx)) (t (left_of (nx + h))) (t (left_of (nx + 2 * h))) one two
      (column_follows (suc (suc k)) nx ny nx (nx + h) h a (omega arith) (quarter_part k) hx hy p (omega arith) refl (inr (omega arith))
      (even_at k nx (omega arith) x_at.0) x_at.0)
      (column_follows (suc (suc k)) nx ny (nx + h) (nx + 2 * h) h b (omega arith) (quarter_part k) hx hy p (omega arith) (omega arith) (inr (omega arith))
      (even_at k (nx + h) (omega arith) x_at.1) x_at.1))
      (column_follows (suc (suc k)) nx ny (nx + 2 * h) (nx + 3 * h) h c (omega arith) (quarter_part k) hx hy p (omega arith) (omega arith) (inr (omega arith))
      (even_at k (nx + 2 * h) (omega arith) x_at.2) x_at.2))
      (column_follows (suc (suc k)) nx ny (nx + 3 * h) (nx + 3 * h + h) h d (omega arith) (quarter_part k) hx hy p (omega arith) refl (inl (omega arith))
      (even_at k (nx + 3 * h) (omega arith) x_at.3) x_at.3)))

  -- a quarter of a node, after those before it
  quarter : (h qx qy : ℕ) (d : ℕ → ℕ → Bool) (ls : List (Placed A)) → ((x y : ℕ) → is_earlier x y qx qy ≡ d x y)
      → Follows width height (λ x y. is_earlier x y qx qy) ls (λ x y. is_done x y qx qy h)
      → Follows width height d (kept width height qx qy ls) (λ x y. is_done x y qx qy h)
  quarter h qx qy d ls a f =
      follows-from width height d (λ x y. is_earlier x y qx qy) (λ x y. is_done x y qx qy h) (kept width height qx qy ls) (λ x y here. sym (a x y))
      (follows-kept width height (λ x y. is_earlier x y qx qy) (λ x y. is_done x y qx qy h) qx qy ls (λ begins. f)
      (λ out x y here. or_nothing (is_earlier x y qx qy) (is_in x y qx qy h h) (outside width height qx qy h h x y out here)))

  split_follows : (k nx ny : ℕ) (a b c d : Tree A k) → k ≤ 3 → nx % (2 * 2 ^ k) ≡ 0 → ny % (2 * 2 ^ k) ≡ 0
      → Follows width height (λ x y. is_earlier x y nx ny) (node_leaves width height a nx ny) (λ x y. is_done x y nx ny (2 ^ k))
      → Follows width height (λ x y. is_earlier x y (nx + 2 ^ k) ny) (node_leaves width height b (nx + 2 ^ k) ny) (λ x y. is_done x y (nx + 2 ^ k) ny (2 ^ k))
      → Follows width height (λ x y. is_earlier x y nx (ny + 2 ^ k)) (node_leaves width height c nx (ny + 2 ^ k)) (λ x y. is_done x y nx (ny + 2 ^ k) (2 ^ k))
      → Follows width height (λ x y. is_earlier x y (nx + 2 ^ k) (ny + 2 ^ k)) (node_leaves width height d (nx + 2 ^ k) (ny + 2 ^ k))
      (λ x y. is_done x y (nx + 2 ^ k) (ny + 2 ^ k) (2 ^ k))
      → Follows width height (λ x y. is_earlier x y nx ny) (node_leaves width height (split {k = k} a b c d) nx ny) (λ x y. is_done x y nx ny (2 * 2 ^ k))
  split_follows k nx ny a b c d hk hx hy fa fb fc fd =
      let h = 2 ^ k in
      let q = quarters_in_turn k nx ny (omega arith) hx hy in
      let e1 = λ (x y : ℕ). is_earlier x y nx ny in
      let d1 = λ (x y : ℕ). is_done x y nx ny h in
      let d2 = λ (x y : ℕ). is_done x y (nx + h) ny h in
      let d3 = λ (x y : ℕ). is_done x y nx (ny + h) h in
      let d4 = λ (x y : ℕ). is_done x y (nx + h) (ny + h) h in
      let sa = kept width height nx ny (node_leaves width height a nx ny) in
      let sb = kept width height (nx + h) ny (node_leaves width height b (nx + h) ny) in
      let sc = kept width height nx (ny + h) (node_leaves width height c nx (ny + h)) in
      let sd = kept width height (nx + h) (ny + h) (node_leaves width height d (nx + h) (ny + h)) in
      follows-to width height e1 d4 (λ x y. is_done x y nx ny (2 * h)) (sa ++ sb ++ sc ++ sd)
      (follows-append width height e1 d3 d4 (sa ++ sb ++ sc) sd
      (follows-append width height e1 d2 d3 (sa ++ sb) sc
      (follows-append width height e1 d1 d2 sa sb (quarter h nx ny e1 (node_leaves width height a nx ny) (λ x y. refl) fa)
      (quarter h (nx + h) ny d1 (node_leaves width height b (nx + h) ny) (λ x y. q.upper_right x y) fb))
      (quarter h nx (ny + h) d2 (node_leaves width height c nx (ny + h)) (λ x y. q.lower_left x y) fc))
      (quarter h (nx + h) (ny + h) d3 (node_leaves width height d (nx + h) (ny + h)) (λ x y. q.lower_right x y) fd))
      (λ x y here. sym (last_quarter h nx ny x y q))

  -- A node finds coded just what is coded before its corner, and then its whole square is coded, as far as the frame goes.
  pub node_follows : {k : ℕ} (t : Tree A k) (nx ny : ℕ) → k ≤ 4 → nx % 2 ^ k ≡ 0 → ny % 2 ^ k ≡ 0
      → Follows width height (λ x y. is_earlier x y nx ny) (node_leaves width height t nx ny) (λ x y. is_done x y nx ny (2 ^ k))
  node_follows (none {k = k} c) nx ny hk hx hy = none_follows k nx ny c hk hx hy
  node_follows (horz {k = k} c d) nx ny hk hx hy = horz_follows k nx ny c d (omega arith) hx hy
  node_follows (vert {k = k} c d) nx ny hk hx hy = vert_follows k nx ny c d (omega arith) hx hy
  node_follows (horz_4 {k = k} a b c d) nx ny hk hx hy = horz_4_follows k nx ny a b c d (omega arith) hx hy
  node_follows (vert_4 {k = k} a b c d) nx ny hk hx hy = vert_4_follows k nx ny a b c d (omega arith) hx hy
  node_follows (split {k = k} a b c d) nx ny hk hx hy =
      let e : 2 ^ suc k ≡ 2 * 2 ^ k = pow-succ' 2 k in
      let x_at = half_at k nx (omega arith) hx in
      let y_at = half_at k ny (omega arith) hy in
      rw e (split_follows k nx ny a b c d (omega arith) (rw e at hx) (rw e at hy)
      (node_follows a nx ny (omega arith) x_at.0 y_at.0)
      (node_follows b (nx + 2 ^ k) ny (omega arith) x_at.1 y_at.0)
      (node_follows c nx (ny + 2 ^ k) (omega arith) x_at.0 y_at.1)
      (node_follows d (nx + 2 ^ k) (ny + 2 ^ k) (omega arith) x_at.1 y_at.1))
