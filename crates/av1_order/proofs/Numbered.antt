-- The steps of a block by the numbers of its transforms, in raster order over the whole block.
use Rattle.std.proofs.Common.{◌≡◌, ℕ, zero, suc, ◌+◌, ◌-◌, ◌*◌, ◌/◌, ◌%◌, ◌^◌, ◌<◌, Bool, true, false, ◌&&◌, List, [], ◌∷◌, ◌++◌, Option, None, Some, refl, sym}
use Rattle.std.proofs.Common.{◌∙◌, ap, arith}
use Rattle.std.specs.Prelude.{nat_lt, if◌then◌else◌}
use Rattle.std.specs.List.{filter_map, range_with_len, cons_option}
use Rattle.std.proofs.Math.Nat.{mul-add-mod_self_right, mod-eq_of_lt}
use Rattle.std.proofs.lemmas.Nat.{div-mul-add}
use Rattle.std.proofs.lemmas.List.Elements.{filter_map-append}
use Rattle.av1_lists.proofs.Ranges.{range-append}
use Rattle.av1_plan.specs.Tree.{Block}
use Rattle.av1_order.specs.Steps.{Coding, Step, area, row_steps, block_steps}

chosen : (t : Bool) (s : Step) (ss : List Step) → ((if t then s ∷ [] else []) ++ ss) ≡ cons_option (if t then Some s else None) ss
chosen true s ss = refl
chosen false s ss = refl

module _ (sx sy width height : ℕ) (b : Block) (c : Coding) where
  abbrev pub across : ℕ
  across = (area sx sy b).columns / c.columns

  -- the transform in column k and row r of transforms, where it begins in the visible plane
  abbrev pub step_in : (r k : ℕ) → Option Step
  step_in r k =
      if nat_lt ((area sx sy b).x + k * c.columns) (width / 2 ^ sx) && nat_lt ((area sx sy b).y + r * c.rows) (height / 2 ^ sy)
      then Some (record { block = b; right = k * c.columns; down = r * c.rows; columns = c.columns; rows = c.rows }) else None

  abbrev pub numbered : ℕ → Option Step
  numbered n = step_in (n / ((area sx sy b).columns / c.columns)) (n % ((area sx sy b).columns / c.columns))

  numbered_at : (r k : ℕ) → k < across → numbered (r * across + k) ≡ step_in r k
  numbered_at r k lt =
      let row : (r * across + k) / across ≡ r = div-mul-add r across k lt in
      let column : (r * across + k) % across ≡ k = mul-add-mod_self_right r across k ∙ mod-eq_of_lt lt in
      ap (λ z. step_in z ((r * across + k) % across)) row ∙ ap (λ z. step_in r z) column

  row_numbered : (r k n : ℕ) → k + n ≡ across
      → row_steps sx sy width height b c (r * c.rows) (k * c.columns) n ≡ filter_map numbered (range_with_len (r * across + k) n)
  row_numbered r k zero e = refl
  row_numbered r k (suc n) e =
      let inside = nat_lt ((area sx sy b).x + k * c.columns) (width / 2 ^ sx) && nat_lt ((area sx sy b).y + r * c.rows) (height / 2 ^ sy) in
      let s : Step = record { block = b; right = k * c.columns; down = r * c.rows; columns = c.columns; rows = c.rows } in
      let next : k * c.columns + c.columns ≡ (k + 1) * c.columns = omega arith in
      let on : r * across + (k + 1) ≡ r * across + k + 1 = omega arith in
      ap (λ z. (if inside then s ∷ [] else []) ++ row_steps sx sy width height b c (r * c.rows) z n) next
      ∙ ap (λ ss. (if inside then s ∷ [] else []) ++ ss)
      (row_numbered r (k + 1) n (omega arith) ∙ ap (λ z. filter_map numbered (range_with_len z n)) on)
      ∙ chosen inside s (filter_map numbered (range_with_len (r * across + k + 1) n))
      ∙ ap (λ o. cons_option o (filter_map numbered (range_with_len (r * across + k + 1) n))) (sym (numbered_at r k (omega arith)))

  rows_numbered : (r n : ℕ) → block_steps sx sy width height b c (r * c.rows) n ≡ filter_map numbered (range_with_len (r * across) (n * across))
  rows_numbered r zero = let none : zero * across ≡ 0 = omega arith in ap (λ z. filter_map numbered (range_with_len (r * across) z)) (sym none)
  rows_numbered r (suc n) =
      let next : r * c.rows + c.rows ≡ (r + 1) * c.rows = omega arith in
      let on : (r + 1) * across ≡ r * across + across = omega arith in
      let more : across + n * across ≡ suc n * across = omega arith in
      let nothing : 0 ≡ 0 * c.columns = omega arith in
      let first : r * across + 0 ≡ r * across = omega arith in
      ap (λ z. row_steps sx sy width height b c (r * c.rows) 0 across ++ block_steps sx sy width height b c z n) next
      ∙ ap (λ ss. row_steps sx sy width height b c (r * c.rows) 0 across ++ ss)
      (rows_numbered (r + 1) n ∙ ap (λ z. filter_map numbered (range_with_len z (n * across))) on)
      ∙ ap (λ ss. ss ++ filter_map numbered (range_with_len (r * across + across) (n * across)))
      (ap (λ z. row_steps sx sy width height b c (r * c.rows) z across) nothing ∙ row_numbered r 0 across (omega arith)
      ∙ ap (λ z. filter_map numbered (range_with_len z across)) first)
      ∙ sym (filter_map-append numbered (range_with_len (r * across) across) (range_with_len (r * across + across) (n * across)))
      ∙ ap (filter_map numbered) (sym (range-append (r * across) across (n * across)) ∙ ap (range_with_len (r * across)) more)

  -- all of the block's
  pub block_numbered : (rows : ℕ) → block_steps sx sy width height b c 0 rows ≡ filter_map numbered (range_with_len 0 (rows * across))
  block_numbered rows =
      let rows_zero : 0 ≡ 0 * c.rows = omega arith in
      let first : 0 * across ≡ 0 = omega arith in
      ap (λ z. block_steps sx sy width height b c z rows) rows_zero ∙ rows_numbered 0 rows
      ∙ ap (λ z. filter_map numbered (range_with_len z (rows * across))) first

-- what is kept of the numbers up to one that is kept, and after it
pub kept_cut : {X : Type 0} (f : ℕ → Option X) (n all : ℕ) (x : X) → n < all → f n ≡ Some x
    → filter_map f (range_with_len 0 all) ≡ filter_map f (range_with_len 0 n) ++ x ∷ filter_map f (range_with_len (n + 1) (all - n - 1))
kept_cut f n all x lt e =
    let sum : all ≡ n + suc (all - n - 1) = omega arith in
    let first : zero + n ≡ n = omega arith in
    ap (λ z. filter_map f (range_with_len 0 z)) sum
    ∙ ap (filter_map f) (range-append 0 n (suc (all - n - 1)) ∙ ap (λ z. range_with_len 0 n ++ range_with_len z (suc (all - n - 1))) first)
    ∙ filter_map-append f (range_with_len 0 n) (range_with_len n (suc (all - n - 1)))
    ∙ ap (λ o. filter_map f (range_with_len 0 n) ++ cons_option o (filter_map f (range_with_len (n + 1) (all - n - 1)))) e
