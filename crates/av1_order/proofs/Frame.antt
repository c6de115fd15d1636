-- The leaves of a frame follow one another.
use Rattle.std.proofs.Common.{◌≡◌, ℕ, suc, ◌+◌, ◌*◌, ◌/◌, ◌%◌, ◌<◌, ◌≤◌, Bool, true, false, ◌&&◌, ◌||◌, ltb, eqb, List, [], ◌∷◌, ◌++◌, length, get_or, inl, inr}
use Rattle.std.proofs.Common.{refl, sym, ◌∙◌, ap, arith}
use Rattle.std.specs.List.{All}
use Rattle.std.specs.Prelude.{nat_lt, if◌then◌else◌}
use Rattle.std.proofs.Math.Nat.{mul-le-mul_right}
use Rattle.std.proofs.lemmas.Bool.{ltb-true, ltb-false, lt-ltb, or_left, cases_order}
use Rattle.std.proofs.lemmas.Bool.Decides.{nat_tests}
use Rattle.av1_avail.specs.Order.{interleaved, is_in, is_earlier}
use Rattle.av1_plan.specs.CodingOrder.{superblock_count}
use Rattle.av1_plan.specs.Tree.{Placed, Tree, node_leaves, superblock_leaves, frame_leaves}
use Rattle.av1_order.specs.Leaves.{IsLeafBlock, is_coded, FramesAreTiled}
use Rattle.av1_order.proofs.Leaves.{leaves_lie, Agree, Follows, follows-from, follows-to, follows-append, coded_before, coded_after, grid_at, fresh}
use Rattle.av1_order.proofs.Earlier.{never_earlier}
use Rattle.av1_order.proofs.Node.{node_follows}
use Rattle.av1_avail.proofs.SquareOrder.{is_done}

corner_zero : (x y : ℕ) → x % 16 ≡ 0 → y % 16 ≡ 0 → interleaved x y ≡ 0
unfolding interleaved
corner_zero x y hx hy =
    let a : x % 2 ≡ 0 = omega arith in
    let b : x / 2 % 2 ≡ 0 = omega arith in
    let c : x / 4 % 2 ≡ 0 = omega arith in
    let d : x / 8 % 2 ≡ 0 = omega arith in
    let e : y % 2 ≡ 0 = omega arith in
    let f : y / 2 % 2 ≡ 0 = omega arith in
    let g : y / 4 % 2 ≡ 0 = omega arith in
    let h : y / 8 % 2 ≡ 0 = omega arith in
    rw (a, b, c, d, e, f, g, h)

by_superblock : (A B X Y z : ℕ) → (ltb B Y || eqb B Y && (ltb A X || eqb A X && ltb z 0)) ≡ (ltb B Y || eqb B Y && ltb A X)
by_superblock A B X Y z = grind (arith, nat_tests)

superblock_earlier : (a b x y : ℕ) → x % 16 ≡ 0 → y % 16 ≡ 0
    → is_earlier a b x y ≡ (ltb (b / 16) (y / 16) || eqb (b / 16) (y / 16) && ltb (a / 16) (x / 16))
unfolding is_earlier
superblock_earlier a b x y hx hy = rw (corner_zero x y hx hy) (by_superblock (a / 16) (b / 16) (x / 16) (y / 16) (interleaved a b))

in_superblock : (a b x y A B X Y : ℕ) → x ≡ 16 * X → y ≡ 16 * Y → 16 * A ≤ a → a < 16 * A + 16 → 16 * B ≤ b → b < 16 * B + 16
    → is_in a b x y 16 16 ≡ (eqb A X && eqb B Y)
unfolding is_in
in_superblock a b x y A B X Y ex ey a0 a1 b0 b1 = grind (arith, nat_tests)

next_right : (A B X Y X' : ℕ) → X' ≡ X + 1 → (ltb B Y || eqb B Y && ltb A X || eqb A X && eqb B Y) ≡ (ltb B Y || eqb B Y && ltb A X')
next_right A B X Y X' e = grind (arith, nat_tests)

next_down : (A B X Y X' Y' : ℕ) → X' ≡ 0 → Y' ≡ Y + 1 → A ≤ X → (ltb B Y || eqb B Y && ltb A X || eqb A X && eqb B Y) ≡ (ltb B Y' || eqb B Y' && ltb A X')
next_down A B X Y X' Y' e f last = grind (arith, nat_tests)

done_superblock : (a b x y : ℕ) → x % 16 ≡ 0 → y % 16 ≡ 0
    → is_done a b x y 16 ≡ (ltb (b / 16) (y / 16) || eqb (b / 16) (y / 16) && ltb (a / 16) (x / 16) || eqb (a / 16) (x / 16) && eqb (b / 16) (y / 16))
done_superblock a b x y hx hy =
    rw (
      superblock_earlier a b x y hx hy,
      in_superblock a b x y (a / 16) (b / 16) (x / 16) (y / 16) (omega arith) (omega arith) (omega arith) (omega arith) (omega arith) (omega arith),
    )

next_row : (Y Y' C X X' n e : ℕ) → Y' ≡ Y + 1 → X' ≡ 0 → X + 1 ≡ C → e ≡ Y' * C + X' + n → e ≡ Y * C + X + suc n
next_row Y Y' C X X' n e ey ex last h = omega (arith, ap (λ z. z * C) ey)

too_few : (q r C R : ℕ) → r < C → q < R → q * C + r ≡ C * R → ⊥
too_few q r C R lt less e = let p : (q + 1) * C ≤ R * C = mul-le-mul_right C (omega arith) in omega arith

too_many : (q r C R : ℕ) → r < C → R < q → q * C + r ≡ C * R → ⊥
too_many q r C R lt more e = let p : (R + 1) * C ≤ q * C = mul-le-mul_right C (omega arith) in omega arith

whole_rows : (q r C R : ℕ) → r < C → q * C + r ≡ C * R → q ≡ R
whole_rows q r C R lt e =
    elim (cases_order q R) [
      | inl same ↦ same
      | inr (inl less) ↦ absurd (too_few q r C R lt less e)
      | inr (inr more) ↦ absurd (too_many q r C R lt more e)
    ]

module _ (width height : ℕ) where
  to_right : (x y : ℕ) → x % 16 ≡ 0 → y % 16 ≡ 0 → Agree width height (λ a b. is_done a b x y 16) (λ a b. is_earlier a b (x + 16) y)
  to_right x y hx hy = λ a b here.
      done_superblock a b x y hx hy ∙ next_right (a / 16) (b / 16) (x / 16) (y / 16) ((x + 16) / 16) (omega arith)
      ∙ sym (superblock_earlier a b (x + 16) y (omega arith) hy)

  to_left : (x y : ℕ) → x % 16 ≡ 0 → y % 16 ≡ 0 → width ≤ x + 16 → Agree width height (λ a b. is_done a b x y 16) (λ a b. is_earlier a b 0 (y + 16))
  to_left x y hx hy end = λ a b here.
      let last = here.column in
      done_superblock a b x y hx hy
      ∙ next_down (a / 16) (b / 16) (x / 16) (y / 16) (0 / 16) ((y + 16) / 16) refl (omega arith) (omega arith)
      ∙ sym (superblock_earlier a b 0 (y + 16) refl (omega arith))

module _ {A : Type 0} (width height : ℕ) where
  -- The leaves end before a superblock that is so many superblocks on, in raster order.
  record FollowsOn (x y n : ℕ) (ls : List (Placed A)) : Type 0 where
    column : ℕ
    row : ℕ
    column_at : column % 16 ≡ 0
    row_at : row % 16 ≡ 0
    in_row : column / 16 < (width + 15) / 16
    count : row / 16 * ((width + 15) / 16) + column / 16 ≡ y / 16 * ((width + 15) / 16) + x / 16 + n
    follows : Follows width height (λ a b. is_earlier a b x y) ls (λ a b. is_earlier a b column row)

  superblocks_follow : (trees : List (Tree A 4)) (x y : ℕ) → x % 16 ≡ 0 → y % 16 ≡ 0 → x / 16 < (width + 15) / 16
      → FollowsOn x y (length trees) (superblock_leaves width height trees x y)
  superblocks_follow [] x y hx hy inside =
      record { column = x; row = y; column_at = hx; row_at = hy; in_row = inside; count = omega arith; follows = λ a b here. refl }
  superblocks_follow (t ∷ ts) x y hx hy inside =
      go (node_follows width height t x y (omega arith) hx hy)
      (λ h. superblocks_follow ts (x + 16) y (omega arith) hy (omega (arith, ltb-true (x + 16) width h)))
      (superblocks_follow ts 0 (y + 16) refl (omega arith) (omega arith)) (nat_lt (x + 16) width) refl
    where
      rest : Bool → List (Placed A)
      rest q = if q then superblock_leaves width height ts (x + 16) y else superblock_leaves width height ts 0 (y + 16)

      go : Follows width height (λ a b. is_earlier a b x y) (node_leaves width height t x y) (λ a b. is_done a b x y 16)
          → (nat_lt (x + 16) width ≡ true → FollowsOn (x + 16) y (length ts) (superblock_leaves width height ts (x + 16) y))
          → FollowsOn 0 (y + 16) (length ts) (superblock_leaves width height ts 0 (y + 16))
          → (q : Bool) → nat_lt (x + 16) width ≡ q → FollowsOn x y (suc (length ts)) (node_leaves width height t x y ++ rest q)
      go node right down true h =
          let r = right h in
          let shift : (x + 16) / 16 ≡ x / 16 + 1 = omega arith in
          record {
            column = r.column;
            row = r.row;
            column_at = r.column_at;
            row_at = r.row_at;
            in_row = r.in_row;
            count = omega (arith, r.count, shift);
            follows =
                follows-append width height (λ a b. is_earlier a b x y) (λ a b. is_earlier a b (x + 16) y) (λ a b. is_earlier a b r.column r.row)
                (node_leaves width height t x y)
                (superblock_leaves width height ts (x + 16) y)
                (follows-to width height (λ a b. is_earlier a b x y) (λ a b. is_done a b x y 16) (λ a b. is_earlier a b (x + 16) y)
                (node_leaves width height t x y) node (to_right width height x y hx hy))
                r.follows;
          }
      go node right down false h =
          let last = ltb-false (x + 16) width h in
          record {
            column = down.column;
            row = down.row;
            column_at = down.column_at;
            row_at = down.row_at;
            in_row = down.in_row;
            count = next_row (y / 16) ((y + 16) / 16) ((width + 15) / 16) (x / 16) (0 / 16) (length ts) (down.row / 16 * ((width + 15) / 16) + down.column / 16)
                (omega arith) refl (omega arith) down.count;
            follows =
                follows-append width height (λ a b. is_earlier a b x y) (λ a b. is_earlier a b 0 (y + 16)) (λ a b. is_earlier a b down.column down.row)
                (node_leaves width height t x y)
                (superblock_leaves width height ts 0 (y + 16))
                (follows-to width height (λ a b. is_earlier a b x y) (λ a b. is_done a b x y 16) (λ a b. is_earlier a b 0 (y + 16))
                (node_leaves width height t x y) node
                (to_left width height x y hx hy last))
                down.follows;
          }

  frame_end : (trees : List (Tree A 4)) → 1 ≤ width → FollowsOn 0 0 (length trees) (frame_leaves width height trees)
  frame_end trees pos = superblocks_follow trees 0 0 refl refl (omega arith)

  from_nothing : (e : ℕ → ℕ → Bool) (ls : List (Placed A)) → Follows width height (λ a b. is_earlier a b 0 0) ls e → Follows width height (λ a b. false) ls e
  from_nothing e ls f =
      follows-from width height (λ a b. false) (λ a b. is_earlier a b 0 0) e ls (λ a b h. sym (never_earlier a b 0 0 (omega arith) (omega arith))) f

  pub frame_follows : (trees : List (Tree A 4)) → 1 ≤ width → (e : ℕ → ℕ → Bool) × Follows width height (λ a b. false) (frame_leaves width height trees) e
  frame_follows trees pos =
      let all = frame_end trees pos in
      ((λ a b. is_earlier a b all.column all.row), from_nothing (λ a b. is_earlier a b all.column all.row) (frame_leaves width height trees) all.follows)

  pub end_is_all : (trees : List (Tree A 4)) (pos : 1 ≤ width) → length trees ≡ superblock_count width height → (x y : ℕ) → x < width → y < height
      → (frame_follows trees pos).0 x y ≡ true
  unfolding frame_follows
  end_is_all trees pos count x y hx hy =
      let all = frame_end trees pos in
      let place = whole_rows (all.row / 16) (all.column / 16) ((width + 15) / 16) ((height + 15) / 16) all.in_row (all.count ∙ omega (arith, count)) in
      let last = all.column_at in
      let low = all.row_at in
      superblock_earlier x y all.column all.row last low
      ∙ or_left (ltb (y / 16) (all.row / 16)) (eqb (y / 16) (all.row / 16) && ltb (x / 16) (all.column / 16))
      (lt-ltb (y / 16) (all.row / 16) (omega (arith, place)))

  all_coded : (trees : List (Tree A 4)) → 1 ≤ width → length trees ≡ superblock_count width height → (x y : ℕ) → x < width → y < height
      → is_coded (frame_leaves width height trees) x y ≡ true
  all_coded trees pos count x y hx hy =
      let all = frame_follows trees pos in
      coded_after width height (λ a b. false) all.0 (frame_leaves width height trees) all.1 x y (record { column = hx; row = hy })
      ∙ end_is_all trees pos count x y hx hy

pub leaves_lie_on_grid : {A : Type 0} (width height : ℕ) (trees : List (Tree A 4)) → 0 < width →
    All (λ l. IsLeafBlock width height l.block) (frame_leaves width height trees)
leaves_lie_on_grid width height trees pos =
    let all = frame_follows width height trees pos in leaves_lie width height (λ a b. false) all.0 (frame_leaves width height trees) all.1

pub frames_are_tiled : FramesAreTiled
frames_are_tiled width height trees pos =
    let all = frame_follows width height trees pos in
    let ls = frame_leaves width height trees in
    record {
      once = λ k none lt x y hx hy e.
          coded_before width height (λ a b. false) all.0 ls k none all.1 lt x y (record { column = hx; row = hy })
          ∙ fresh (get_or ls k none).block (grid_at width height (λ a b. false) all.0 ls k none all.1 lt) x y e;
      all = all_coded width height trees pos;
    }
