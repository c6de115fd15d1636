-- Leaves one after the other, each of which finds coded just what places tell.
use Rattle.std.proofs.Common.{◌≡◌, ℕ, zero, suc, ◌+◌, ◌*◌, ◌/◌, ◌%◌, ◌^◌, ◌<◌, ◌≤◌, ◌⊎◌, Bool, true, false, ◌&&◌, ◌||◌, ltb, List, [], ◌∷◌, ◌++◌, take, length}
use Rattle.std.proofs.Common.{get_or, inl, inr, refl, sym, ◌∙◌, ap, arith}
use Rattle.std.specs.Prelude.{nat_lt, if◌then◌else◌}
use Rattle.std.specs.List.{All}
use Rattle.std.proofs.Math.Bool.{or-false, or_assoc}
use Rattle.std.proofs.lemmas.List.Elements.{All-nil, All-cons}
use Rattle.std.proofs.lemmas.Bool.{and_cases, and_parts, ltb-true, ltb-false, false_from_ne_true}
use Rattle.std.proofs.lemmas.Bool.Decides.{nat_tests}
use Rattle.av1_avail.specs.Order.{is_in, is_earlier}
use Rattle.av1_plan.specs.Tree.{Block, Placed, kept}
use Rattle.av1_order.specs.Leaves.{IsLeafBlock, holds_cell, is_coded}
use Rattle.av1_order.proofs.Nodes.{node_side, node_x, node_y}
use Rattle.av1_order.proofs.Earlier.{never_earlier}
use Rattle.av1_order.proofs.Rectangles.{places}

-- the cells that are coded before a block
abbrev pub starts : Block → (x y : ℕ) → Bool
starts b x y = if is_in x y (node_x b) (node_y b) (node_side b) (node_side b) then (ltb y b.y || ltb x b.x) else is_earlier x y (node_x b) (node_y b)

-- A side of one cell, or an even side at an even place.
abbrev pub IsEven : (at side : ℕ) → Type 0
IsEven at side = (side ≡ 1) ⊎ ((side % 2 ≡ 0) × (at % 2 ≡ 0) × (2 ≤ side))

-- The block lies on the grid of its node: it reaches the node's end, or a block as large fits after it.
pub record IsOnGrid (b : Block) : Type 0 where
  pub log : ℕ
  pub small : log ≤ 4
  pub side : node_side b ≡ 2 ^ log
  pub x_at : node_x b % 2 ^ log ≡ 0
  pub y_at : node_y b % 2 ^ log ≡ 0
  pub left : node_x b ≤ b.x
  pub top : node_y b ≤ b.y
  pub room_x : (b.x + b.columns ≡ node_x b + 2 ^ log) ⊎ (b.x + 2 * b.columns ≤ node_x b + 2 ^ log)
  pub room_y : (b.y + b.rows ≡ node_y b + 2 ^ log) ⊎ (b.y + 2 * b.rows ≤ node_y b + 2 ^ log)
  pub even_x : IsEven b.x b.columns
  pub even_y : IsEven b.y b.rows
  pub across : b.x % b.columns ≡ 0
  pub along : b.y % b.rows ≡ 0

-- a side of a part of a node whose side is 2 ^ k: the node's, or a half or a quarter of it
pub record IsPart (k side : ℕ) : Type 0 where
  pub log : ℕ
  pub is : side ≡ 2 ^ log
  pub most : log ≤ k
  pub least : k ≤ log + 2

within_superblocks : (k at end : ℕ) → k ≤ 4 → at % 2 ^ k ≡ 0 → at < end → at + 2 ^ k ≤ 16 * ((end + 15) / 16)
within_superblocks zero at end h e lt = omega arith
within_superblocks (suc zero) at end h e lt = omega arith
within_superblocks (suc (suc zero)) at end h e lt = omega arith
within_superblocks (suc (suc (suc zero))) at end h e lt = omega arith
within_superblocks (suc (suc (suc (suc zero)))) at end h e lt = omega arith
within_superblocks (suc (suc (suc (suc (suc k))))) at end h e lt = absurd (omega arith)

module _ (width height : ℕ) where
  pub record IsInFrame (x y : ℕ) : Type 0 where
    pub column : x < width
    pub row : y < height

  -- a part of a node on its grid that begins in the frame
  pub leaf_block : (k : ℕ) (b : Block) → k ≤ 4 → IsPart k b.columns → IsPart k b.rows → b.x % b.columns ≡ 0 → b.y % b.rows ≡ 0 → IsInFrame b.x b.y →
      IsLeafBlock width height b
  leaf_block k b small w h across along begins =
      let w_most = w.most in
      let w_least = w.least in
      let h_most = h.most in
      let h_least = h.least in
      record {
        columns_log = w.log;
        rows_log = h.log;
        columns_power = w.is;
        rows_power = h.is;
        columns_small = omega arith;
        rows_small = omega arith;
        not_wide = omega arith;
        not_high = omega arith;
        across = across;
        along = along;
        begins_x = begins.column;
        begins_y = begins.row;
        ends_x = rw w.is (within_superblocks w.log b.x width (omega arith) (rw w.is at across) begins.column);
        ends_y = rw h.is (within_superblocks h.log b.y height (omega arith) (rw h.is at along) begins.row);
      }

  -- two sets of cells that agree in the frame
  abbrev pub Agree : (d e : ℕ → ℕ → Bool) → Type 0
  Agree d e = (x y : ℕ) → IsInFrame x y → d x y ≡ e x y

  pub outside : (a b w h x y : ℕ) → (nat_lt a width && nat_lt b height) ≡ false → IsInFrame x y → is_in x y a b w h ≡ false
  outside a b w h x y out here =
      false_from_ne_true (is_in x y a b w h)
      (λ e.
      let p = places x y a b w h e in
      elim (and_cases (nat_lt a width) (nat_lt b height) out) [
        | inl f ↦ let g = ltb-false a width f in omega (arith, here.column, p.left)
        | inr f ↦ let g = ltb-false b height f in omega (arith, here.row, p.top)
      ])

module _ {A : Type 0} (width height : ℕ) where
  -- Where the cells of d are coded before the leaves, each leaf finds just its own cells coded, and then the cells of e are coded.
  abbrev pub Follows : (d : ℕ → ℕ → Bool) → List (Placed A) → (e : ℕ → ℕ → Bool) → Type 0
  Follows d [] e = Agree width height d e
  Follows d (l ∷ ls) e = Agree width height d (starts l.block) × IsOnGrid l.block × Follows (λ x y. d x y || holds_cell l x y) ls e ×
      IsLeafBlock width height l.block

  pub follows-from : (c d e : ℕ → ℕ → Bool) (ls : List (Placed A)) → Agree width height c d → Follows d ls e → Follows c ls e
  follows-from c d e [] a f = λ x y h. a x y h ∙ f x y h
  follows-from c d e (l ∷ ls) a f = (
    (λ x y h. a x y h ∙ f.0 x y h),
    f.1,
    follows-from (λ x y. c x y || holds_cell l x y) (λ x y. d x y || holds_cell l x y) e ls (λ x y h. ap (λ b. b || holds_cell l x y) (a x y h)) f.2,
    f.3,
  )

  pub follows-to : (d e g : ℕ → ℕ → Bool) (ls : List (Placed A)) → Follows d ls e → Agree width height e g → Follows d ls g
  follows-to d e g [] f a = λ x y h. f x y h ∙ a x y h
  follows-to d e g (l ∷ ls) f a = (f.0, f.1, follows-to (λ x y. d x y || holds_cell l x y) e g ls f.2 a, f.3)

  pub follows-append : (d e g : ℕ → ℕ → Bool) (ls ms : List (Placed A)) → Follows d ls e → Follows e ms g → Follows d (ls ++ ms) g
  follows-append d e g [] ms f f' = follows-from d e g ms f f'
  follows-append d e g (l ∷ ls) ms f f' = (f.0, f.1, follows-append (λ x y. d x y || holds_cell l x y) e g ls ms f.2 f', f.3)

  pub follows-kept : (d e : ℕ → ℕ → Bool) (a b : ℕ) (ls : List (Placed A)) → (IsInFrame width height a b → Follows d ls e)
      → ((nat_lt a width && nat_lt b height) ≡ false → Agree width height d e) → Follows d (kept width height a b ls) e
  follows-kept d e a b ls f g = go (nat_lt a width && nat_lt b height) refl
    where
      go : (t : Bool) → (nat_lt a width && nat_lt b height) ≡ t → Follows d (if t then ls else []) e
      go true h = let p = and_parts (nat_lt a width) (nat_lt b height) h in f (record { column = ltb-true a width p.0; row = ltb-true b height p.1 })
      go false h = g h

  pub coded_before : (d e : ℕ → ℕ → Bool) (ls : List (Placed A)) (k : ℕ) (l : Placed A) → Follows d ls e → k < length ls
      → (x y : ℕ) → IsInFrame width height x y → (d x y || is_coded (take k ls) x y) ≡ starts (get_or ls k l).block x y
  coded_before d e [] k l f lt x y h = absurd (omega arith)
  coded_before d e (m ∷ ls) zero l f lt x y h = or-false (d x y) ∙ f.0 x y h
  coded_before d e (m ∷ ls) (suc k) l f lt x y h =
      sym (or_assoc (d x y) (holds_cell m x y) (is_coded (take k ls) x y)) ∙ coded_before (λ x y. d x y || holds_cell m x y) e ls k l f.2 (omega arith) x y h

  pub coded_after : (d e : ℕ → ℕ → Bool) (ls : List (Placed A)) → Follows d ls e → (x y : ℕ) → IsInFrame width height x y → (d x y || is_coded ls x y) ≡ e x y
  coded_after d e [] f x y h = or-false (d x y) ∙ f x y h
  coded_after d e (m ∷ ls) f x y h =
      sym (or_assoc (d x y) (holds_cell m x y) (is_coded ls x y)) ∙ coded_after (λ x y. d x y || holds_cell m x y) e ls f.2 x y h

  pub leaves_lie : (d e : ℕ → ℕ → Bool) (ls : List (Placed A)) → Follows d ls e → All (λ l. IsLeafBlock width height l.block) ls
  leaves_lie d e [] f = All-nil (λ l. IsLeafBlock width height l.block)
  leaves_lie d e (l ∷ ls) f =
      All-cons (λ l. IsLeafBlock width height l.block) l ls f.3 (leaves_lie (λ x y. d x y || holds_cell l x y) e ls f.2)

  pub grid_at : (d e : ℕ → ℕ → Bool) (ls : List (Placed A)) (k : ℕ) (l : Placed A) → Follows d ls e → k < length ls → IsOnGrid (get_or ls k l).block
  grid_at d e [] k l f lt = absurd (omega arith)
  grid_at d e (m ∷ ls) zero l f lt = f.1
  grid_at d e (m ∷ ls) (suc k) l f lt = grid_at (λ x y. d x y || holds_cell m x y) e ls k l f.2 (omega arith)

-- A block's own cells aren't coded before it.
fresh_plain : (x y bx by w h : ℕ) → bx ≤ x → by ≤ y → (ltb y by || ltb x bx) ≡ false
fresh_plain x y bx by w h a b = grind (arith, nat_tests)

either_false : (q a e : Bool) → a ≡ false → e ≡ false → (if q then a else e) ≡ false
either_false true a e f g = f
either_false false a e f g = g

pub fresh : (b : Block) → IsOnGrid b → (x y : ℕ) → is_in x y b.x b.y b.columns b.rows ≡ true → starts b x y ≡ false
fresh b g x y e =
    let p = places x y b.x b.y b.columns b.rows e in
    let l = p.left in
    let t = p.top in
    either_false (is_in x y (node_x b) (node_y b) (node_side b) (node_side b)) (ltb y b.y || ltb x b.x) (is_earlier x y (node_x b) (node_y b))
    (fresh_plain x y b.x b.y b.columns b.rows l t)
    (never_earlier x y (node_x b) (node_y b) (omega (arith, g.left)) (omega (arith, g.top)))
