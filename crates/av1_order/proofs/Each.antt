-- Each step of a plane lies on the grids of its block and node.
use Rattle.std.proofs.Common.{◌≡◌, ℕ, zero, suc, zero-add, ◌+◌, ◌-◌, ◌*◌, ◌/◌, ◌%◌, ◌^◌, ◌<◌, ◌≤◌, ◌⊎◌, Bool, true, false, ◌&&◌, ◌||◌, List, [], ◌∷◌, ◌++◌}
use Rattle.std.proofs.Common.{length, get_or, inl, inr, refl, sym, ap, ◌∙◌, arith}
use Rattle.std.proofs.Math.Nat.{add-mod_right, zero-mod}
use Rattle.std.specs.List.{AllByRecursion}
use Rattle.std.proofs.lemmas.List.Elements.{All-from_recursion}
use Rattle.std.specs.Prelude.{nat_lt, if◌then◌else◌}
use Rattle.std.proofs.lemmas.Bool.{and_parts, ltb-true}
use Rattle.av1_plan.specs.Tree.{Block, Placed}
use Rattle.av1_order.specs.Leaves.{holds_cell}
use Rattle.av1_order.specs.Steps.{Coding, Step, carries, widened, area, row_steps, block_steps, leaf_steps, plane_steps, IsTiled}
use Rattle.av1_order.specs.Places.{IsInPlane}
use Rattle.av1_order.proofs.Leaves.{IsOnGrid, Follows}
use Rattle.av1_order.proofs.Units.{whole_multiple}
use Rattle.av1_order.proofs.Halved.{carried}
use Rattle.av1_order.proofs.Grid.{IsUnitBlock}
use Rattle.av1_order.proofs.Planes.{in_plane}
use Rattle.av1_order.proofs.Near.{IsTileAt, IsStep}

-- the last of its row, or one as large fits after it
room : (at step n end : ℕ) → at + suc n * step ≡ end → (at + step ≡ end) ⊎ (at + 2 * step ≤ end)
room at step zero end e = inl (omega arith)
room at step (suc n) end e = inr (omega arith)

within : (at step end : ℕ) → 0 < step → (at + step ≡ end) ⊎ (at + 2 * step ≤ end) → at < end
within at step end pos (inl e) = omega arith
within at step end pos (inr e) = omega arith

next_at : (at step : ℕ) → at % step ≡ 0 → (at + step) % step ≡ 0
next_at at step e = add-mod_right at step ∙ e

self_at : (n : ℕ) → n % n ≡ 0
self_at n = sym (ap (λ m. m % n) (zero-add n)) ∙ add-mod_right 0 n ∙ zero-mod n

zero_at : (n : ℕ) → 0 % n ≡ 0
zero_at n = zero-mod n

some : (s side : ℕ) → s ≤ 1 → 2 ^ s ≤ side → 0 < side / 2 ^ s
some zero side h e = omega arith
some (suc zero) side h e = omega arith
some (suc (suc s)) side h e = absurd (omega arith)

begins_at : (s x w : ℕ) → s ≤ 1 → w % 2 ≡ 0 → x < w → (x - x % 2 ^ s) / 2 ^ s + 0 < w / 2 ^ s
begins_at zero x w h e lt = omega arith
begins_at (suc zero) x w h e lt = omega arith
begins_at (suc (suc s)) x w h e lt = absurd (omega arith)

module _ (sx sy : ℕ) where
  record IsTiledBy (b : Block) (c : Coding) : Type 0 where
    wide : 0 < c.columns
    high : 0 < c.rows
    across : (area sx sy b).columns % c.columns ≡ 0
    along : (area sx sy b).rows % c.rows ≡ 0

  -- a step that begins in the visible plane
  pub record IsPlaced (width height : ℕ) (s : Step) : Type 0 where
    pub step : IsStep sx sy s
    pub begins : IsInPlane sx sy width height ((area sx sy s.block).x + s.right) ((area sx sy s.block).y + s.down)

  module _ (width height : ℕ) where
    abbrev pub Each : List Step → Type 0
    Each ss = AllByRecursion (IsPlaced width height) ss

    each-append : (ss ts : List Step) → Each ss → Each ts → Each (ss ++ ts)
    each-append [] ts a b = b
    each-append (s ∷ ss) ts a b = (a.0, each-append ss ts a.1 b)

    each-kept : (s : Step) (x y : ℕ) → (IsInPlane sx sy width height x y → IsPlaced width height s)
        → Each (if nat_lt x (width / 2 ^ sx) && nat_lt y (height / 2 ^ sy) then s ∷ [] else [])
    each-kept s x y f = go (nat_lt x (width / 2 ^ sx) && nat_lt y (height / 2 ^ sy)) refl
      where
        go : (t : Bool) → (nat_lt x (width / 2 ^ sx) && nat_lt y (height / 2 ^ sy)) ≡ t → Each (if t then s ∷ [] else [])
        go true e =
            let p = and_parts (nat_lt x (width / 2 ^ sx)) (nat_lt y (height / 2 ^ sy)) e in
            (f (record { column = ltb-true x (width / 2 ^ sx) p.0; row = ltb-true y (height / 2 ^ sy) p.1 }), tt)
        go false e = tt

    pub each_at : (ss : List Step) (k : ℕ) (s : Step) → Each ss → k < length ss → IsPlaced width height (get_or ss k s)
    each_at ss k s a h = All-from_recursion (IsPlaced width height) ss a k s h

    row_each : (b : Block) (c : Coding) (down right n : ℕ) → IsUnitBlock sx sy b → IsTiledBy b c →
        (down + c.rows ≡ (area sx sy b).rows) ⊎ (down + 2 * c.rows ≤ (area sx sy b).rows)
        → down % c.rows ≡ 0 → right % c.columns ≡ 0 → right + n * c.columns ≡ (area sx sy b).columns → Each (row_steps sx sy width height b c down right n)
    row_each b c down right zero g t next_y dm rm e = tt
    row_each b c down right (suc n) g t next_y dm rm e =
        let next : right + c.columns + n * c.columns ≡ (area sx sy b).columns = omega arith in
        let s : Step = record { block = b; right = right; down = down; columns = c.columns; rows = c.rows } in
        let inside = nat_lt ((area sx sy b).x + right) (width / 2 ^ sx) && nat_lt ((area sx sy b).y + down) (height / 2 ^ sy) in
        let tile : IsTileAt sx sy s = record {
          whole_x = g.whole_x;
          whole_y = g.whole_y;
          wide = t.wide;
          high = t.high;
          across = t.across;
          along = t.along;
          right_at = rm;
          right_within = omega (arith, t.wide);
          down_at = dm;
          down_within = within down c.rows (area sx sy b).rows t.high next_y;
        } in
        each-append (if inside then s ∷ [] else []) (row_steps sx sy width height b c down (right + c.columns) n)
        (each-kept s ((area sx sy b).x + right) ((area sx sy b).y + down)
        (λ begins. record {
          step = record { block = g; tile = tile; next_x = room right c.columns n (area sx sy b).columns e; next_y = next_y };
          begins = begins;
        }))
        (row_each b c down (right + c.columns) n g t next_y dm (next_at right c.columns rm) next)

    block_each : (b : Block) (c : Coding) (down n : ℕ) → IsUnitBlock sx sy b → IsTiledBy b c →
        ((area sx sy b).columns / c.columns) * c.columns ≡ (area sx sy b).columns
        → down % c.rows ≡ 0 → down + n * c.rows ≡ (area sx sy b).rows → Each (block_steps sx sy width height b c down n)
    block_each b c down zero g t across dm e = tt
    block_each b c down (suc n) g t across dm e =
        let next : down + c.rows + n * c.rows ≡ (area sx sy b).rows = omega arith in
        each-append (row_steps sx sy width height b c down 0 ((area sx sy b).columns / c.columns)) (block_steps sx sy width height b c (down + c.rows) n)
        (row_each b c down 0 ((area sx sy b).columns / c.columns) g t (room down c.rows n (area sx sy b).rows e) dm (zero_at c.columns) (omega (arith, across)))
        (block_each b c (down + c.rows) n g t across (next_at down c.rows dm) next)

    module _ (hx : sx ≤ 1) (hy : sy ≤ sx) (wx : width % 2 ≡ 0) (wy : height % 2 ≡ 0) where
      leaf_each : (l : Placed Coding) → l.block.x < width → l.block.y < height → IsOnGrid l.block → (carries sx sy l.block ≡ true → IsTiled sx sy l)
          → Each (leaf_steps sx sy width height l)
      leaf_each l corner_x corner_y g tiled = go (carries sx sy l.block) refl
        where
          w : Block
          w = widened sx sy l.block

          coded : Bool → List Step
          coded inter =
              if inter then record { block = w; right = 0; down = 0; columns = (area sx sy w).columns; rows = (area sx sy w).rows } ∷ []
              else block_steps sx sy width height w l.content 0 ((area sx sy w).rows / l.content.rows)

          inner : IsUnitBlock sx sy w → IsTiled sx sy l → (inter : Bool) → Each (coded inter)
          inner u t true =
              let pos_x : 0 < (area sx sy w).columns = some sx w.columns hx u.whole_x in
              let pos_y : 0 < (area sx sy w).rows = some sy w.rows (omega arith) u.whole_y in (
                record {
                  step = record {
                    block = u;
                    tile = record {
                      whole_x = u.whole_x;
                      whole_y = u.whole_y;
                      wide = pos_x;
                      high = pos_y;
                      across = self_at (area sx sy w).columns;
                      along = self_at (area sx sy w).rows;
                      right_at = zero_at (area sx sy w).columns;
                      right_within = pos_x;
                      down_at = zero_at (area sx sy w).rows;
                      down_within = pos_y;
                    };
                    next_x = inl (omega arith);
                    next_y = inl (omega arith);
                  };
                  begins = record { column = begins_at sx l.block.x width hx wx corner_x; row = begins_at sy l.block.y height (omega arith) wy corner_y };
                },
                tt,
              )
          inner u t false =
              block_each w l.content 0 ((area sx sy w).rows / l.content.rows) u (record { wide = t.wide; high = t.high; across = t.across; along = t.along })
              (whole_multiple (area sx sy w).columns l.content.columns t.wide t.across) (zero_at l.content.rows)
              (omega (arith, whole_multiple (area sx sy w).rows l.content.rows t.high t.along))

          go : (q : Bool) → carries sx sy l.block ≡ q → Each (if q then coded l.content.is_inter else [])
          go true e =
              let whole = carried sx sy hx (omega arith) l.block e g.even_x g.even_y in
              inner (in_plane sx sy hx hy l.block g whole.0 whole.1).units (tiled e) l.content.is_inter
          go false e = tt

      pub plane_each : (ls : List (Placed Coding)) (d e : ℕ → ℕ → Bool) → Follows width height d ls e
          → AllByRecursion (λ l. carries sx sy l.block ≡ true → IsTiled sx sy l) ls → Each (plane_steps sx sy width height ls)
      plane_each [] d e f tiled = tt
      plane_each (l ∷ ls) d e f tiled =
          each-append (leaf_steps sx sy width height l) (plane_steps sx sy width height ls) (leaf_each l f.3.begins_x f.3.begins_y f.1 tiled.0)
          (plane_each ls (λ x y. d x y || holds_cell l x y) e f.2 tiled.1)
