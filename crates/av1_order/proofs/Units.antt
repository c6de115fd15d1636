-- The steps of one leaf in a plane, over its units.
use Rattle.std.proofs.Common.{◌≡◌, ℕ, zero, suc, ◌+◌, ◌*◌, ◌/◌, ◌%◌, ◌^◌, ◌<◌, ◌≤◌, Bool, true, false, ◌&&◌, ◌||◌, ltb, List, [], ◌∷◌, ◌++◌, length, get_or}
use Rattle.std.proofs.Common.{inl, inr, refl, sym, ◌∙◌, ap, arith}
use Rattle.std.specs.Prelude.{nat_lt, if◌then◌else◌}
use Rattle.std.proofs.Math.Bool.{or-false, or_assoc}
use Rattle.std.proofs.lemmas.Bool.{and_cases, ltb-false, false_from_ne_true}
use Rattle.av1_avail.specs.Order.{next_before, is_in, is_before_in_block, is_earlier}
use Rattle.av1_plan.specs.Tree.{Block}
use Rattle.av1_order.specs.Steps.{Coding, Step, area, row_steps, block_steps}
use Rattle.av1_order.specs.Places.{is_covered, holds, frame_before, told_before, IsInPlane}
use Rattle.av1_order.proofs.Nodes.{node_side, node_x, node_y}
use Rattle.av1_order.proofs.Rectangles.{places, placed}
use Rattle.av1_order.proofs.Choices.{choose, either_way}
use Rattle.av1_order.proofs.BlockOrder.{block_step, row_end, block_start, block_end, block_whole}

pub whole_multiple : (w m : ℕ) → 0 < m → w % m ≡ 0 → (w / m) * m ≡ w
whole_multiple w m pos e = omega arith

-- the block, in cells, with its units
module _ (sx sy : ℕ) (b : Block) where
  abbrev pub in_node : (x y : ℕ) → Bool
  in_node x y = is_in (x * 2 ^ sx) (y * 2 ^ sy) (node_x b) (node_y b) (node_side b) (node_side b)

  abbrev pub early : (x y : ℕ) → Bool
  early x y = is_earlier (x * 2 ^ sx) (y * 2 ^ sy) (node_x b) (node_y b)

  -- the units that are written before the block
  abbrev pub opens : (x y : ℕ) → Bool
  opens x y = if in_node x y then (ltb y (area sx sy b).y || ltb x (area sx sy b).x) else early x y

  abbrev pub in_area : (x y : ℕ) → Bool
  in_area x y = is_in x y (area sx sy b).x (area sx sy b).y (area sx sy b).columns (area sx sy b).rows

  abbrev pub closes : (x y : ℕ) → Bool
  closes x y = if in_node x y then (ltb y (area sx sy b).y || ltb x (area sx sy b).x || in_area x y) else early x y

  -- before the transform of so many rows at this place in the block
  abbrev pub before_at : (rows down right x y : ℕ) → Bool
  before_at rows down right x y =
      if in_node x y then is_before_in_block (area sx sy b).x (area sx sy b).y (area sx sy b).columns (area sx sy b).rows rows down right x y else early x y

module _ (sx sy width height : ℕ) where
  abbrev pub AgreeIn : (d e : ℕ → ℕ → Bool) → Type 0
  AgreeIn d e = (x y : ℕ) → IsInPlane sx sy width height x y → d x y ≡ e x y

  -- Where the units of d are written before the steps, each step finds written just what places tell, and then the units of e are written.
  abbrev pub Written : (d : ℕ → ℕ → Bool) → List Step → (e : ℕ → ℕ → Bool) → Type 0
  Written d [] e = AgreeIn d e
  Written d (s ∷ ss) e = AgreeIn d (told_before sx sy s) × Written (λ x y. d x y || holds sx sy s x y) ss e

  pub written-from : (c d e : ℕ → ℕ → Bool) (ss : List Step) → AgreeIn c d → Written d ss e → Written c ss e
  written-from c d e [] a f = λ x y h. a x y h ∙ f x y h
  written-from c d e (s ∷ ss) a f = (
    (λ x y h. a x y h ∙ f.0 x y h),
    written-from (λ x y. c x y || holds sx sy s x y) (λ x y. d x y || holds sx sy s x y) e ss (λ x y h. ap (λ b. b || holds sx sy s x y) (a x y h)) f.1,
  )

  pub written-to : (d e g : ℕ → ℕ → Bool) (ss : List Step) → Written d ss e → AgreeIn e g → Written d ss g
  written-to d e g [] f a = λ x y h. f x y h ∙ a x y h
  written-to d e g (s ∷ ss) f a = (f.0, written-to (λ x y. d x y || holds sx sy s x y) e g ss f.1 a)

  pub written-append : (d e g : ℕ → ℕ → Bool) (ss ts : List Step) → Written d ss e → Written e ts g → Written d (ss ++ ts) g
  written-append d e g [] ts f f' = written-from d e g ts f f'
  written-append d e g (s ∷ ss) ts f f' = (f.0, written-append (λ x y. d x y || holds sx sy s x y) e g ss ts f.1 f')

  pub covered_after : (d e : ℕ → ℕ → Bool) (ss : List Step) → Written d ss e → (x y : ℕ) → IsInPlane sx sy width height x y →
      (d x y || is_covered sx sy ss x y) ≡ e x y
  covered_after d e [] f x y h = or-false (d x y) ∙ f x y h
  covered_after d e (t ∷ ss) f x y h =
      sym (or_assoc (d x y) (holds sx sy t x y) (is_covered sx sy ss x y)) ∙ covered_after (λ x y. d x y || holds sx sy t x y) e ss f.1 x y h

  pub covered_before : (d e : ℕ → ℕ → Bool) (ss : List Step) (k : ℕ) (s : Step) → Written d ss e → k < length ss
      → (x y : ℕ) → IsInPlane sx sy width height x y → (d x y || frame_before sx sy ss k x y) ≡ told_before sx sy (get_or ss k s) x y
  covered_before d e [] k s f lt x y h = absurd (omega arith)
  covered_before d e (t ∷ ss) zero s f lt x y h = or-false (d x y) ∙ f.0 x y h
  covered_before d e (t ∷ ss) (suc k) s f lt x y h =
      sym (or_assoc (d x y) (holds sx sy t x y) (frame_before sx sy ss k x y))
      ∙ covered_before (λ x y. d x y || holds sx sy t x y) e ss k s f.1 (omega arith) x y h

  outside : (a b w h x y : ℕ) → (nat_lt a (width / 2 ^ sx) && nat_lt b (height / 2 ^ sy)) ≡ false → IsInPlane sx sy width height x y → is_in x y a b w h ≡ false
  outside a b w h x y out here =
      false_from_ne_true (is_in x y a b w h)
      (λ e.
      let p = places x y a b w h e in
      elim (and_cases (nat_lt a (width / 2 ^ sx)) (nat_lt b (height / 2 ^ sy)) out) [
        | inl f ↦ let g = ltb-false a (width / 2 ^ sx) f in omega (arith, here.column, p.left)
        | inr f ↦ let g = ltb-false b (height / 2 ^ sy) f in omega (arith, here.row, p.top)
      ])

  kept : (d e : ℕ → ℕ → Bool) (s : Step) (inside : Bool) → Written d (s ∷ []) e → (inside ≡ false → AgreeIn d e) → Written d (if inside then s ∷ [] else []) e
  kept d e s true f g = f
  kept d e s false f g = g refl

  module _ (b : Block) where
    opened : (rows x y : ℕ) → opens sx sy b x y ≡ before_at sx sy b rows 0 0 x y
    opened rows x y =
        let a = area sx sy b in
        either_way (in_node sx sy b x y) (ltb y a.y || ltb x a.x) (is_before_in_block a.x a.y a.columns a.rows rows 0 0 x y) (early sx sy b x y)
        (λ q. block_start a.x a.y a.columns a.rows rows x y)

    module _ (held : (x y : ℕ) → in_area sx sy b x y ≡ true → in_node sx sy b x y ≡ true) where
      step_on : (down right w h x y : ℕ) → right + w ≤ (area sx sy b).columns → down + h ≤ (area sx sy b).rows
          → (before_at sx sy b h down right x y || is_in x y ((area sx sy b).x + right) ((area sx sy b).y + down) w h) ≡
          before_at sx sy b h down (right + w) x y
      step_on down right w h x y hw hh =
          let a = area sx sy b in
          choose (in_node sx sy b x y) (is_in x y (a.x + right) (a.y + down) w h) (is_before_in_block a.x a.y a.columns a.rows h down right x y)
          (is_before_in_block a.x a.y a.columns a.rows h down (right + w) x y) (early sx sy b x y)
          (block_step a.x a.y a.columns a.rows w h down right x y hw hh)
          (λ e.
          let p = places x y (a.x + right) (a.y + down) w h e in
          let l = p.left in let r = p.right in let t = p.top in let q = p.bottom in
          held x y (placed x y a.x a.y a.columns a.rows (record { left = omega arith; right = omega arith; top = omega arith; bottom = omega arith })))

      skip : (down right w h x y : ℕ) → right + w ≤ (area sx sy b).columns → down + h ≤ (area sx sy b).rows
          → (nat_lt ((area sx sy b).x + right) (width / 2 ^ sx) && nat_lt ((area sx sy b).y + down) (height / 2 ^ sy)) ≡ false
          → IsInPlane sx sy width height x y → before_at sx sy b h down right x y ≡ before_at sx sy b h down (right + w) x y
      skip down right w h x y hw hh out here =
          let a = area sx sy b in
          sym (or-false (before_at sx sy b h down right x y))
          ∙ ap (λ q. before_at sx sy b h down right x y || q) (sym (outside (a.x + right) (a.y + down) w h x y out here)) ∙ step_on down right w h x y hw hh

      row_written : (c : Coding) (down right n : ℕ) → right + n * c.columns ≡ (area sx sy b).columns → down + c.rows ≤ (area sx sy b).rows
          → Written (before_at sx sy b c.rows down right) (row_steps sx sy width height b c down right n) (before_at sx sy b c.rows down (area sx sy b).columns)
      unfolding next_before
      row_written c down right zero e hd = λ x y here. ap (λ r. before_at sx sy b c.rows down r x y) (omega arith)
      row_written c down right (suc n) e hd =
          let a = area sx sy b in
          let next : right + c.columns + n * c.columns ≡ a.columns = omega arith in
          let fits : right + c.columns ≤ a.columns = omega arith in
          let s : Step = record { block = b; right = right; down = down; columns = c.columns; rows = c.rows } in
          written-append (before_at sx sy b c.rows down right) (before_at sx sy b c.rows down (right + c.columns)) (before_at sx sy b c.rows down a.columns)
          (if nat_lt (a.x + right) (width / 2 ^ sx) && nat_lt (a.y + down) (height / 2 ^ sy) then s ∷ [] else [])
          (row_steps sx sy width height b c down (right + c.columns) n)
          (kept (before_at sx sy b c.rows down right)
          (before_at sx sy b c.rows down (right + c.columns)) s (nat_lt (a.x + right) (width / 2 ^ sx) && nat_lt (a.y + down) (height / 2 ^ sy))
          ((λ x y here. refl), (λ x y here. step_on down right c.columns c.rows x y fits hd))
          (λ out x y here. skip down right c.columns c.rows x y fits hd out here))
          (row_written c down (right + c.columns) n next hd)

      block_written : (c : Coding) (down n : ℕ) → ((area sx sy b).columns / c.columns) * c.columns ≡ (area sx sy b).columns →
          down + n * c.rows ≡ (area sx sy b).rows
          → Written (before_at sx sy b c.rows down 0) (block_steps sx sy width height b c down n) (before_at sx sy b c.rows (area sx sy b).rows 0)
      block_written c down zero across e = λ x y here. ap (λ d. before_at sx sy b c.rows d 0 x y) (omega arith)
      block_written c down (suc n) across e =
          let a = area sx sy b in
          let next : down + c.rows + n * c.rows ≡ a.rows = omega arith in
          let fits : down + c.rows ≤ a.rows = omega arith in
          written-append (before_at sx sy b c.rows down 0) (before_at sx sy b c.rows (down + c.rows) 0) (before_at sx sy b c.rows a.rows 0)
          (row_steps sx sy width height b c down 0 (a.columns / c.columns)) (block_steps sx sy width height b c (down + c.rows) n)
          (written-to (before_at sx sy b c.rows down 0) (before_at sx sy b c.rows down a.columns) (before_at sx sy b c.rows (down + c.rows) 0)
          (row_steps sx sy width height b c down 0 (a.columns / c.columns))
          (row_written c down 0 (a.columns / c.columns) (omega (arith, across)) fits)
          (λ x y here. either_way (in_node sx sy b x y) (is_before_in_block a.x a.y a.columns a.rows c.rows down a.columns x y)
          (is_before_in_block a.x a.y a.columns a.rows c.rows (down + c.rows) 0 x y) (early sx sy b x y)
          (λ q. row_end a.x a.y a.columns a.rows c.rows down x y fits)))
          (block_written c (down + c.rows) n across next)

      -- an area that is coded at once, or by transforms
      pub once_written : Written (opens sx sy b) (record { block = b; right = 0; down = 0; columns = (area sx sy b).columns; rows = (area sx sy b).rows } ∷ [])
          (closes sx sy b)
      unfolding next_before
      once_written =
          let a = area sx sy b in (
            (λ x y here. opened a.rows x y),
            (λ x y here.
                ap (λ q. q || is_in x y (a.x + 0) (a.y + 0) a.columns a.rows) (opened a.rows x y)
                ∙ step_on 0 0 a.columns a.rows x y (omega arith) (omega arith)
                ∙ either_way (in_node sx sy b x y) (is_before_in_block a.x a.y a.columns a.rows a.rows 0 (0 + a.columns) x y)
                (ltb y a.y || ltb x a.x || in_area sx sy b x y) (early sx sy b x y)
                (λ q. block_whole a.x a.y a.columns a.rows x y)),
          )

      pub all_written : (c : Coding) → 0 < c.columns → 0 < c.rows → (area sx sy b).columns % c.columns ≡ 0 → (area sx sy b).rows % c.rows ≡ 0
          → Written (opens sx sy b) (block_steps sx sy width height b c 0 ((area sx sy b).rows / c.rows)) (closes sx sy b)
      all_written c wide high across along =
          let a = area sx sy b in
          written-from (opens sx sy b) (before_at sx sy b c.rows 0 0) (closes sx sy b) (block_steps sx sy width height b c 0 (a.rows / c.rows))
          (λ x y here. opened c.rows x y)
          (written-to (before_at sx sy b c.rows 0 0) (before_at sx sy b c.rows a.rows 0) (closes sx sy b)
          (block_steps sx sy width height b c 0 (a.rows / c.rows))
          (block_written c 0 (a.rows / c.rows) (whole_multiple a.columns c.columns wide across) (omega (arith, whole_multiple a.rows c.rows high along)))
          (λ x y here. either_way (in_node sx sy b x y) (is_before_in_block a.x a.y a.columns a.rows c.rows a.rows 0 x y)
          (ltb y a.y || ltb x a.x || in_area sx sy b x y) (early sx sy b x y) (λ q. block_end a.x a.y a.columns a.rows c.rows x y)))

      pub closed : (x y : ℕ) → closes sx sy b x y ≡ (opens sx sy b x y || in_area sx sy b x y)
      closed x y =
          let a = area sx sy b in
          sym (choose (in_node sx sy b x y) (in_area sx sy b x y) (ltb y a.y || ltb x a.x) (ltb y a.y || ltb x a.x || in_area sx sy b x y)
          (early sx sy b x y) refl (held x y))
